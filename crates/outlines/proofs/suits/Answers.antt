use mathlib.Core.Path.{sym, ◌∙◌}
use Rattle.outlines.proofs.Matched.{name_differs, takes_differ, gives_told}
use Rattle.outlines.proofs.suits.Goals as goal
use Rattle.outlines.proofs.suits.Goals.{then-spelled, else-spelled}
use Rattle.std.proofs.Common.{true, false, ◌≡◌}

pub returns-then-takes_these : goal.returns-then-takes_these
returns-then-takes_these c =
    elim c.if-spelled.branch [
      | then-spelled w ↦
          gives_told _ _ _ _ c.row-row.ensures c.link-named.ensures c.place-at.ensures c.end-end.ensures
          c.spelled.ensures w.if-spelled.true w.takes_these.ensures (sym w.value-is ∙ c.if-takes_these.true) c.word.ensures
      | else-spelled w ↦ let e : false ≡ true = sym w.if-spelled.false ∙ sym w.value-is ∙ c.if-takes_these.true in absurd cc
    ]

pub returns-else-takes_these : goal.returns-else-takes_these
returns-else-takes_these c =
    elim c.if-spelled.branch [
      | then-spelled w ↦
          c.if-takes_these.false
          ∙ takes_differ _ _ _ _ c.row-row.ensures c.link-named.ensures c.place-at.ensures c.end-end.ensures
          c.spelled.ensures w.if-spelled.true w.takes_these.ensures (sym w.value-is ∙ c.if-takes_these.false)
      | else-spelled w ↦
          c.if-takes_these.false
          ∙ name_differs _ _ _ _ c.row-row.ensures c.link-named.ensures c.place-at.ensures c.end-end.ensures
          c.spelled.ensures w.if-spelled.false
    ]
