-- `meaning` goes by whether there is a number.
use Rattle.clerk.proofs.Saying.{unnumbered, numbered}
use Rattle.page.proofs.Adding.{being, onto, ◌▸◌}
use Rattle.clerk.proofs.people.meaning.Goals.{then-number-ne0, else-number-ne0}
use Rattle.clerk.proofs.people.meaning.Goals as goal

pub returns : goal.returns
returns c =
    let number = c.number-number.ensures in
    elim c.if-number-ne0.branch [
      | then-number-ne0 w ↦
          being (numbered _ number w.if-number-ne0.true)
          (w.put.ensures ▸ w.decimal.ensures ▸ w.put-then-number-ne0.ensures ▸ onto w.page-is c.words.ensures ▸ c.put-2.ensures)
      | else-number-ne0 w ↦
          being (unnumbered _ number w.if-number-ne0.false) (onto w.page-is c.words.ensures ▸ c.put-2.ensures)
    ]
