-- `cause` goes by whether there is a place.
use Rattle.clerk.proofs.Saying.{placed_is, unplaced_is}
use Rattle.page.proofs.Adding.{being, ◌▸◌}
use mathlib.Core.Path.{sym, ◌∙◌}
use Rattle.clerk.proofs.people.cause.Goals as goal

pub returns-then-is_placed : goal.returns-then-is_placed
returns-then-is_placed c =
    let a = c.args in
    being (placed_is _ _ a.source.places a.why a.place (sym c.is_placed.ensures ∙ c.if-is_placed.true)) c.placed.ensures

pub returns-else-is_placed : goal.returns-else-is_placed
returns-else-is_placed c =
    let a = c.args in
    being (unplaced_is _ _ a.source.places a.why a.place (sym c.is_placed.ensures ∙ c.if-is_placed.false))
    (c.name.ensures ▸ c.put.ensures ▸ c.meaning.ensures)
