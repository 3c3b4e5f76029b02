-- `line_at` looks at the digits from a place on: how many they are, and what ends them.
use mathlib.Core.Path.{sym, ◌∙◌}
use Rattle.stored.proofs.LineLaws.{no_feed, no_pairs, line_is}
use Rattle.stored.proofs.lines.line_at.Goals as goal
use Rattle.stored.proofs.lines.line_at.Goals.{then-end-at-via-then-end-at, then-end-at-via-else-end-at+then-end-at-ne0}
use Rattle.stored.proofs.lines.line_at.Goals.{then-end-at-via-else-end-at+else-end-at-ne0+then-byte-ne10}

pub returns-then-end-at : goal.returns-then-end-at
returns-then-end-at c =
    elim c.then-end-at.branch [
      | then-end-at-via-then-end-at w ↦ no_pairs c.run_end-end.ensures (λ x. w.if-end-at.true)
      | then-end-at-via-else-end-at+then-end-at-ne0 w ↦ no_pairs c.run_end-end.ensures (λ x. absurd (w.if-end-at-ne0.true x))
      | then-end-at-via-else-end-at+else-end-at-ne0+then-byte-ne10 w ↦
          no_feed c.run_end-end.ensures (λ x. w.if-byte-ne10.true (w.byte.ensures ∙ x))
    ]

pub returns : goal.returns
returns c =
    line_is c.run_end-end.ensures c.if-end-at.false c.if-end-at-ne0.false (sym c.byte.ensures ∙ c.if-byte-ne10.false)
