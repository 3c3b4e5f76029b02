-- `meaning` goes by whether there is a number.
use Rattle.page.proofs.Adding.{being, onto, ◌▸◌}
use Rattle.records.proofs.Saying.{unnumbered, numbered}
use Rattle.records.proofs.told.meaning.Goals.{then-number-ne0, else-number-ne0}
use Rattle.records.proofs.told.meaning.Goals as goal

pub returns : goal.returns
returns c =
    let number = c.number-number.ensures in
    elim c.if-number-ne0.branch [
      | then-number-ne0 w ↦
          being (numbered _ number w.if-number-ne0.true) (w.field.ensures ▸ onto w.page-is c.meant.ensures)
      | else-number-ne0 w ↦
          being (unnumbered _ number w.if-number-ne0.false) (onto w.page-is c.meant.ensures)
    ]
