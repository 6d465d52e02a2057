-- The measure of `varint::count_groups` is n.
use Rattle.varint.proofs.+count_groups.Given as goal

abbrev pub decreases-count_groups : goal.decreases-count_groups
decreases-count_groups l = l.n
