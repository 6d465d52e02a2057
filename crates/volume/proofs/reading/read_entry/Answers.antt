-- `volume::reading::read_entry` meets its contract: four numbers, one after another.
use Rattle.volume.proofs.FourNumbers.{entry_again}
use Rattle.volume.proofs.reading.read_entry.Goals as goal

pub returns : goal.returns
returns c =
    let a = c.args in
    let minutes = c.number_at-minutes in
    let litres = c.number_at-litres in
    let ratio = c.number_at-ratio in
    let product = c.number_at-product in (
      entry_again a.string.now a.at minutes.result litres.result ratio.result product.result
          minutes.ensures.0 litres.ensures.0 ratio.ensures.0 product.ensures.0,
      product.ensures.1,
    )
