-- What walks of the calls on the caller's head have in common, whatever their other parameters are: the contract holds since a walk of such a call's
-- MIR opens the borrow of the head, copies the head out, hands it to the engine's call with the other parameters, stores the head that comes back,
-- closes the borrow at it, and returns the answer. The check writes a walk of such a call by itself; these are the steps for one by hand.
--     OnHead, ByValue    the form of such a call, and that of the engine's call to which it hands all other parameters on
--     walks_from         at entry: a walk starts at written-out machine values, with what there is then, `start`
--     opens_head         the borrow of the head is opened, and the head lies in memory; the other parameters' tokens and what they own follow
--     asks               the call: a copy of the head and all that the other parameters own go to the callee, and what it hands back comes
--     closes_head        once the next head is stored: the borrow is closed at it
--     ends               what is left then is what the contract asks at exit
--     proved             so a walk proves the contract
-- All that a walk knows of the callee is that it meets its contract. What the callee says of the other parameters' last values is handed out as it
-- came. What the callee ensures is what the wrapper's contract says at the same answer, head and last values (in a walk, the argument `said` of
-- `asks`).
use mathlib.Core.Path.{◌≡◌, refl, ap, sym, subst}
use Prim.Native.Nat.{ℕ, suc}
use mathlib.Core.List.{List, [], ◌∷◌}
use seplogic.Ra.Ura.{Ura}
use base.Fraction.{full_share}
use mir.Syntax.{named, Callee as Name, Place, Opd as Operand, Body as Code, Fn, seq, call}
use mir.Val.{Val, vptr}
use base.Logic.{SProp, ent, emp, via, fst∗, id⊢}
use base.Stored.{Gv}
use base.Fml.{Lft, Share, Fml, fsep, flft, fobs, fauth, fbor, fobor}
use prog.Model.{Model}
use prog.Routine.{Routine}
use prog.Wp.{Calls, Loops, WpFn, Closed, Env as Locals}
use contract.Lifetimes.{Lfts, Shares, toks}
use contract.Monad.{Fun}
use contract.Running.{Running, MachineTables, tables, tables_of}
use sound.WpLaws.{FmC, fm_of, WpFn-mono}
use types.Kit.{Goal, Post, Soaks, runs, lands, ◌$◌, ◌∵◌, !, qed, Step, step, Item, ‵, raw, ◌⊛◌, some, later, ⋆, Seq, move, use1, use2, drop, split, join, pick, fsplit, fsplit3, fjoin, fjoin3, feq_i, rewrite, suffices, frame, await, by, done}
use types.Run.{Opds}
use types.SemTy.{Body}
use denote.RattleType.{RattleType, Denots, Valss, flat, owns}
use denote.Laws.{Is, Ises, Are, Spells, Tells, Tellss, Makes, shows, valss}
use denote.Memory.{mem, cell_at}
use denote.Ref.{MutBor, MutRef, mut_vals, mut_Tells}
use denote.Exit.{left, yes}
use denote.Signature.{Slot, plain, mut_ref_to, types_at}
use denote.Steps.{only, opens, closes, owned, peeks}
use denote.Struct.Steps.{spelt}
use denote.Struct.Laws as LL
use denote.Triple.Call.{calls_at}
use denote.Triple.Clauses.{Ended, Clauses, Lasts, at_exit, closing}
use denote.Triple.End.{Kepts, Fins, lasts_of}
use denote.Triple.Spec.{triple_of}
use denote.Triple.Statement.{Contract, Triple}
use denote.Triple.Table.{entered}
use denote.Triple.Walked.{Stays, fits_of, has_of, stay_ref, walk_of, AllGo, Goes-ref, Walks, walked, ends_at, walk_Meets}
use Rattle.engine.specs.declared.Head.{Head}
use Rattle.engine.specs.contracts.Head as T
use Rattle.engine.proofs.Head.TheLaws as T'
-- passed on to the walks
pub use mathlib.Core.Path.{refl}
pub use mathlib.Core.List.{[], ◌∷◌}
pub use seplogic.Ra.Ura.{Ura}
pub use mir.Syntax.{named, w32, w64}
pub use mir.Val.{vint}
pub use base.Logic.{SProp, emp, id⊢}
pub use prog.Memory.{Memory}
pub use prog.Routine.{Routine}
pub use prog.Wp.{Heap, Calls, Loops, WpFn}
pub use ghost.Atoms.{Atoms}
use types.Logic.{Logic, sem}
pub use contract.Monad.{Fun}
pub use types.Kit.{◌$◌, ◌∵◌, !, qed, by, move}
pub use types.Run.{look, look_raw, init, store_raw, forget, stop, hop, fld, from, load, addr, of_opd, and_then, no_more, assigns, land, returns, enter, alloc1, alloc0, params1, pass1, pass0, free1, free0}
pub use types.Part.{agg, whole, sub, look_in}
pub use sound.WpLaws.{FmC}
pub use denote.Plain.{uint_Makes, uint_vals, uint_Tells}
pub use denote.Signed.{sint_vals, sint_Tells, sint_Lawful}
pub use denote.Builtin.{u8, u32, u64}
pub use denote.Slice.{shr_slice_vals, mut_slice_vals, mut_slice_Tells, shr_slice_Tells}
pub use denote.Triple.Clauses.{at_exit}
pub use denote.Triple.Spec.{triple_of}
pub use denote.Triple.Statement.{Triple}
pub use denote.Triple.Walked.{Walks}

-- the machine value of a head
abbrev pub mach : Head → Val
mach d = LL.val T.the_type T'.the_laws d

-- of a call, its parameters beside the head and the type of what it hands back
pub record Form (n : ℕ) : Type 2 where
  pub slots : List (Slot n)
  pub kept : Kepts slots
  pub answer : RattleType

-- the parameters after the head
abbrev pub others : {n : ℕ} → List (Slot n) → List (Slot n)
others [] = []
others (s ∷ ss) = ss

module _ {n : ℕ} where
  -- of a parameter that was handed on there is at exit what the callee says of it
  abbrev pub handed : (ss : List (Slot n)) (ks : Kepts ss) → Stays ss ks
  handed [] ks = tt
  handed (s ∷ ss) ks = (record { fit = λ κs x f. Unit {0}; has = λ κs x f vs. left ((s.row κs).exit ks.0) x f }, handed ss ks.1)

  handed_fit : (κs : Lfts n) (ss : List (Slot n)) (ks : Kepts ss) (a : Denots (types_at ss κs)) (ws : Fins κs ss ks a) → fits_of κs ss ks (handed ss ks) a ws
  handed_fit κs [] ks a ws = tt
  handed_fit κs (s ∷ ss) ks a ws = (tt, handed_fit κs ss ks.1 a.1 ws.1)

  handed_has : (κs : Lfts n) (ss : List (Slot n)) (ks : Kepts ss) (a : Denots (types_at ss κs)) (ws : Fins κs ss ks a) (vss : Valss (types_at ss κs)) → lasts_of κs ss ks a ws ≡ has_of κs ss ks (handed ss ks) a ws vss
  handed_has κs [] ks a ws vss = refl
  handed_has κs (s ∷ ss) ks a ws vss = ap (fsep (left ((s.row κs).exit ks.0) a.0 ws.0)) (handed_has κs ss ks.1 a.1 ws.1 vss.1)

  handed_go : {M : Type 1} {𝓤 : Ura M} (𝓛 : Logic 𝓤) (ss : List (Slot n)) (ks : Kepts ss) → AllGo 𝓛 n ss ks (handed ss ks)
  handed_go 𝓛 [] ks = tt
  handed_go 𝓛 (s ∷ ss) ks = (λ κs x f vs ok. 𝓛.laws.⇛_intro (sem 𝓛 (left ((s.row κs).exit ks.0) x f)), handed_go 𝓛 ss ks.1)

-- ---- the borrow of the head
module _ {M : Type 1} {𝓤 : Ura M} {𝓛 : Logic 𝓤} {K : Type 0} {Γ : List (Item 𝓤)} {G : Goal 𝓤 𝓛.H} where
  pub opens_head : K → Soaks G → {κ : Lft} {q : Share} (x : MutBor Head) {tokens : Item 𝓤} {rest : Fml}
      → (Is T.the_row x.now (mach x.now ∷ [])
      → Seq K 𝓛 (‵ (cell_at full_share (T.the_row).mir (mach x.now ∷ []) x.ref_ptr.0 x.ref_ptr.1) ∷ ‵ ((T.the_row).own_val x.now (mach x.now ∷ [])) ∷ ‵ (fobor κ q (Body (mem T.the_row) x.ref_ptr.0 x.ref_ptr.1 x.ghost_name)) ∷ ‵ (fobs x.ghost_name ((T.the_row).coded.code x.now)) ∷ ‵ (fauth x.ghost_name ((T.the_row).coded.code x.now)) ∷ tokens ∷ ‵ rest ∷ Γ) G)
      → Seq K 𝓛 (‵ (fsep ((MutRef (named 0) κ T.the_row).own_val x (mut_vals x)) rest) ∷ (‵ (flft κ q) ⊛ tokens) ∷ Γ) G
  opens_head t z x k =
      fsplit t $ fsplit3 t $ drop t $ move t (3 ∷ []) $ split t $ move t (2 ∷ 3 ∷ 0 ∷ []) $
      opens t z T.the_row {h = x.now} x.ref_ptr.0 x.ref_ptr.1 (λ vs. spelt t T.the_row (Is T.the_row) (shows 𝓛 T.the_row) (LL.vals T.the_type T'.the_laws) (LL.tells T.the_type T'.the_laws) full_share x.now vs x.ref_ptr.0 x.ref_ptr.1 $
      move t (1 ∷ []) $ peeks t T.the_row (Is T.the_row) (shows 𝓛 T.the_row) x.now (mach x.now ∷ []) (λ is. move t (1 ∷ 0 ∷ []) $ k is))

  pub closes_head : K → Soaks G → {κ : Lft} {q : Share} {u v : Gv} {h : Head} {vs : List Val} (x : MutBor Head) (h' : Head) → Is T.the_row h' (mach h' ∷ [])
      → Step K 𝓛 (‵ (fobs x.ghost_name ((T.the_row).coded.code h')) ∷ ‵ (fbor κ (Body (mem T.the_row) x.ref_ptr.0 x.ref_ptr.1 x.ghost_name)) ∷ ‵ (flft κ q) ∷ Γ) G
      (‵ (cell_at full_share (T.the_row).mir (mach h' ∷ []) x.ref_ptr.0 x.ref_ptr.1) ∷ ‵ ((T.the_row).own_val h vs) ∷ ‵ (fobor κ q (Body (mem T.the_row) x.ref_ptr.0 x.ref_ptr.1 x.ghost_name)) ∷ ‵ (fobs x.ghost_name u) ∷ ‵ (fauth x.ghost_name v) ∷ Γ) G
  closes_head t z x h' is =
      step (λ s. move t (1 ∷ []) $ drop t $ owned t T.the_row (Is T.the_row) ((LL.makes T.the_type T'.the_plain) 𝓛) h' _ is $ move t (1 ∷ 0 ∷ []) $
      closes t z T.the_row h' (mach h' ∷ []) x.ref_ptr.0 x.ref_ptr.1 $ s)

-- ---- the engine's call: n lifetimes, the head by value, the parameters ss, and what it hands back, of the type S
module _ {n : ℕ} (Z : Form n) where
  abbrev ss : List (Slot n)
  ss = Z.slots

  abbrev ks : Kepts ss
  ks = Z.kept

  abbrev S : RattleType
  S = Z.answer

  abbrev pub ByValue : Ended
  ByValue = record { signature = record { lifetimes = n; outlives = []; params = plain (λ _. T.the_row) ∷ ss; result = plain (λ _. S) }; kept = (yes, ks) }

  module _ {M : Type 1} {𝓤 : Ura M} (𝓛 : Logic 𝓤) (c : Clauses 𝓤 ByValue) where
    open 𝓛 use {H}

    abbrev pub Callee : Contract 𝓤
    Callee = triple_of 𝓛 ByValue.signature (closing 𝓛 ByValue c)

    module _ (κs : Lfts n) (qs : Shares n) (h : Head) (xs : Denots (types_at ss κs)) (vss : Valss (types_at ss κs)) (g : (c κs (h, xs)).ghost) (asked : ent 𝓤 (emp 𝓤) ((c κs (h, xs)).requires g)) where
      abbrev passed : Callee.Ghost
      passed = ((κs, qs, tt, (h, xs), (mach h ∷ [], vss)), g)

      hands : Is T.the_row h (mach h ∷ []) → ent 𝓤 (⋆ 𝓛 (raw (toks 𝓛 n κs qs) ∷ ‵ (owns (types_at ss κs) xs vss) ∷ [])) (Callee.pre passed)
      hands is =
          qed 𝓛 (raw (toks 𝓛 n κs qs) ∷ ‵ (owns (types_at ss κs) xs vss) ∷ []) ∵ move ! (1 ∷ []) $ owned ! T.the_row (Is T.the_row) ((LL.makes T.the_type T'.the_plain) 𝓛) h _ is $ fjoin ! $ move ! (1 ∷ 0 ∷ []) $ join ! $ frame ! $ by ! asked

      pub asks : {K : Type 0} {Γ : List (Item 𝓤)} {C : Calls 𝓤 H} {Λ : Loops 𝓤 H} {E : Locals 𝓤 H} {q : Post 𝓤 H} {d : Place} {f : Name} {os : List Operand} {rest : Code}
          → K → FmC 𝓤 H 𝓛.laws C → Triple 𝓤 (C f) Callee → Is T.the_row h (mach h ∷ []) → Opds K 𝓛 (raw (Callee.pre passed) ∷ Γ) E os (Callee.args passed)
          → (Q : S.Denot → Lasts ByValue κs (h, xs) → SProp 𝓤) → ((r : S.Denot) (ws : Lasts ByValue κs (h, xs)) → ent 𝓤 ((c κs (h, xs)).ensures g r (at_exit ByValue κs (h, xs) ws)) (Q r ws))
          → (val : S.Denot → Val) → Tells S (Is S) (λ r. val r ∷ [])
          → ((r : S.Denot) (ws : Lasts ByValue κs (h, xs)) → Is S r (val r ∷ []) → Seq K 𝓛 (raw (toks 𝓛 n κs qs) ∷ ‵ (lasts_of κs ss ks xs ws.1) ∷ raw (Q r ws) ∷ Γ) (lands C Λ E d (val r) rest q))
          → Seq K 𝓛 (raw (toks 𝓛 n κs qs) ∷ ‵ (owns (types_at ss κs) xs vss) ∷ Γ) (runs C Λ E (seq (call f os d) rest) q)
      asks {K} {Γ} {C} {Λ} {E} {q} {d} {rest = rest} t fm known is ops Q said val tells k =
          use2 𝓛 (raw (Callee.pre passed)) (hands is) $ calls_at t fm Callee known passed ops (λ v.
          use1 𝓛 (later (some (λ (r : S.Denot). (raw (toks 𝓛 n κs qs) ⊛ ‵ (S.own_val r (v ∷ []))) ⊛ some (λ (ws : Lasts ByValue κs (h, xs)). ‵ (lasts_of κs ByValue.signature.params ByValue.kept (h, xs) ws) ⊛ raw ((c κs (h, xs)).ensures g r (at_exit ByValue κs (h, xs) ws)))))) (id⊢ 𝓤 _) $ await t tt $ pick t (λ r.
          split t $ split t $ move t (1 ∷ []) $ peeks t S (Is S) (shows 𝓛 S) r (v ∷ []) (λ is'. drop t $ move t (1 ∷ []) $ pick t (λ ws. split t $ move t (1 ∷ []) $ use1 𝓛 (raw (Q r ws)) (said r ws) $ move t (1 ∷ []) $ fsplit t $ drop t $ move t (2 ∷ 0 ∷ 1 ∷ []) $
          subst (λ (u : Val). Seq K 𝓛 (raw (toks 𝓛 n κs qs) ∷ ‵ (lasts_of κs ss ks xs ws.1) ∷ raw (Q r ws) ∷ Γ) (lands C Λ E d u rest q)) (sym (ap only (tells r (v ∷ []) is'))) (k r ws (subst (λ (vs : List Val). Is S r vs) (tells r (v ∷ []) is') is'))))))

-- ---- a call on the caller's head: n lifetimes and the parameters ss beside the head's, and an answer of the type R
module _ {n : ℕ} (Z : Form (suc n)) where
  abbrev ss' : List (Slot (suc n))
  ss' = Z.slots

  abbrev ks' : Kepts ss'
  ks' = Z.kept

  abbrev R : RattleType
  R = Z.answer

  abbrev pub OnHead : Ended
  OnHead = record {
    signature = record { lifetimes = suc n; outlives = []; params = mut_ref_to (0 ∷ []) tt (plain (λ _. T.the_row)) ∷ ss'; result = plain (λ _. R) };
    kept = (yes, ks');
  }

  abbrev pub stayed : Stays OnHead.signature.params OnHead.kept
  stayed = (stay_ref (0 ∷ []) tt (plain (λ _. T.the_row)), handed ss' ks')

  -- what there is at entry, at the machine values vss of the other parameters
  abbrev pub start : {M : Type 1} {𝓤 : Ura M} (𝓛 : Logic 𝓤) (κs : Lfts (suc n)) → Shares (suc n) → MutBor Head → Denots (types_at ss' κs) → Valss (types_at ss' κs) → List (Item 𝓤)
  start 𝓛 κs qs x xs vss = (‵ (flft κs.0 qs.0) ⊛ raw (toks 𝓛 n κs.1 qs.1)) ∷ ‵ (fsep ((MutRef (named 0) κs.0 T.the_row).own_val x (mut_vals x)) (owns (types_at ss' κs) xs vss)) ∷ []

  -- a walk from there, in which the other parameters' machine values are written out and their relations are in hand
  module _ {M : Type 1} {𝓤 : Ura M} (𝓛 : Logic 𝓤) (c : Clauses 𝓤 OnHead) (run : Fun 𝓤) where
    pub walks_from : (sp : (κs : Lfts (suc n)) → Spells (types_at ss' κs)) → ((κs : Lfts (suc n)) → Tellss (types_at ss' κs) (Ises (types_at ss' κs)) (sp κs))
        → ((κs : Lfts (suc n)) (qs : Shares (suc n)) (x : MutBor Head) (xs : Denots (types_at ss' κs)) (g : (c κs (x, xs)).ghost) → Are (types_at ss' κs) (Ises (types_at ss' κs)) xs (valss (types_at ss' κs) (sp κs) xs)
        → ent 𝓤 (⋆ 𝓛 (start 𝓛 κs qs x xs (valss (types_at ss' κs) (sp κs) xs)))
        (run (vptr x.ref_ptr.0 x.ref_ptr.1 ∷ flat (types_at ss' κs) (valss (types_at ss' κs) (sp κs) xs)) ((walk_of 𝓛 OnHead stayed c).post ((κs, qs, tt, (x, xs), (mut_vals x, valss (types_at ss' κs) (sp κs) xs)), g))))
        → Walks 𝓛 OnHead stayed run c
    walks_from sp tells k = walked 𝓛 OnHead stayed c run (λ κs. (mut_vals, sp κs)) (λ κs. (mut_Tells (named 0) κs.0 T.the_row, tells κs)) (λ κs qs bounds a g are. via 𝓤 _ (fst∗ 𝓤 _ ((c κs a).requires g)) (k κs qs a.0 a.1 g are.1))

  module _ {M : Type 1} {𝓤 : Ura M} (𝓛 : Logic 𝓤) (c : Clauses 𝓤 OnHead) where
    pub ends : (κs : Lfts (suc n)) (qs : Shares (suc n)) (x : MutBor Head) (xs : Denots (types_at ss' κs)) (vss : Valss (types_at ss' κs)) (g : (c κs (x, xs)).ghost)
        → Makes 𝓛 R (Is R) → (h : Head) (ws : Fins κs ss' ks' xs) (r : R.Denot) (v : Val) → Is R r (v ∷ [])
        → ent 𝓤 (⋆ 𝓛 (‵ (fobs x.ghost_name ((T.the_row).coded.code h)) ∷ ‵ (fbor κs.0 (Body (mem T.the_row) x.ref_ptr.0 x.ref_ptr.1 x.ghost_name)) ∷ ‵ (flft κs.0 qs.0) ∷ raw (toks 𝓛 n κs.1 qs.1) ∷ ‵ (lasts_of κs ss' ks' xs ws) ∷ raw ((c κs (x, xs)).ensures g r (at_exit OnHead κs (x, xs) (h, ws))) ∷ []))
        ((walk_of 𝓛 OnHead stayed c).post ((κs, qs, tt, (x, xs), (mut_vals x, vss)), g) v)
    ends κs qs x xs vss g makes h ws r v is =
        qed 𝓛 (‵ (fobs x.ghost_name ((T.the_row).coded.code h)) ∷ ‵ (fbor κs.0 (Body (mem T.the_row) x.ref_ptr.0 x.ref_ptr.1 x.ghost_name)) ∷ ‵ (flft κs.0 qs.0) ∷ raw (toks 𝓛 n κs.1 qs.1) ∷ ‵ (lasts_of κs ss' ks' xs ws) ∷ raw ((c κs (x, xs)).ensures g r (at_exit OnHead κs (x, xs) (h, ws))) ∷ []) ∵
        suffices ! _ (ends_at 𝓛 OnHead stayed c ((κs, qs, tt, (x, xs), (mut_vals x, vss)), g) v r (h, ws) (tt, handed_fit κs ss' ks' xs ws)) $
        rewrite ! 4 (λ (F : Fml). ‵ F) (handed_has κs ss' ks' xs ws vss) refl $
        feq_i ! (List Val) (vptr x.ref_ptr.0 x.ref_ptr.1 ∷ []) (vptr x.ref_ptr.0 x.ref_ptr.1 ∷ []) refl $ fjoin3 ! $ move ! (0 ∷ 3 ∷ []) $ fjoin ! $
        owned ! R (Is R) makes r _ is $ move ! (1 ∷ 0 ∷ []) $ join ! $ move ! (1 ∷ 2 ∷ []) $ join ! $ join ! $ frame ! $ done !

  -- of a call whose code is e, and which calls f: the walk may take for granted that f meets the callee's contract
  module _ {M : Type 1} {𝓤 : Ura M} (𝓛 : Logic 𝓤) (𝓜 : Model 𝓤 𝓛.H) (𝓡 : Running 𝓤 𝓛.H 𝓜) (c : Clauses 𝓤 OnHead) (callee : Contract 𝓤) (k : Name) (e : Fn) (f : Name) where
    open 𝓛 use {H}

    abbrev 𝓣 : MachineTables 𝓤 H 𝓜
    𝓣 = tables 𝓤 H 𝓜 𝓡 𝓡.env

    pub proved : Closed 𝓤 H 𝓣.C 𝓣.Λ k e → Triple 𝓤 (𝓡.run (𝓡.env f)) callee
        → ((C : Calls 𝓤 H) (Λ : Loops 𝓤 H) → FmC 𝓤 H 𝓛.laws C → Triple 𝓤 (C f) callee → Walks 𝓛 OnHead stayed (WpFn 𝓤 H C Λ e) c)
        → Triple 𝓤 (𝓣.C k) (triple_of 𝓛 OnHead.signature (closing 𝓛 OnHead c))
    unfolding tables_of
    proved closed met walk =
        entered 𝓤 H _ 𝓣.C 𝓣.Λ k e closed
        (walk_Meets 𝓛 OnHead stayed (Goes-ref 𝓛 (suc n) 0 tt (plain (λ _. T.the_row)), handed_go 𝓛 ss' ks') c (WpFn 𝓤 H 𝓣.C 𝓣.Λ e) (WpFn-mono 𝓤 H 𝓛.laws (tables_of 𝓤 H 𝓜 𝓣) e)
        (walk 𝓣.C 𝓣.Λ (fm_of 𝓤 H 𝓛.laws (tables_of 𝓤 H 𝓜 𝓣)) met))
