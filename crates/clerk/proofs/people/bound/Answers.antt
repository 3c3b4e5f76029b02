-- `bound` goes by whether it is known.
use Rattle.page.proofs.Adding.{◌▸◌}
use Rattle.clerk.specs.Reports.{bound_words}
use Rattle.clerk.proofs.people.bound.Goals as goal

pub returns-in-Some : goal.returns-in-Some
unfolding bound_words
returns-in-Some c = rw c.in-Some.is (c.put.ensures ▸ c.decimal.ensures ▸ c.put-in-Some.ensures)
