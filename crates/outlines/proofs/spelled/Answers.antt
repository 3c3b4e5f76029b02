-- The loop's invariant: the bytes that are left match what is left of the name exactly where the whole does.
use mathlib.Core.Path.{sym, ◌∙◌}
use native.Mathlib.Omega.{arith}
use Rattle.outlines.proofs.Matched.{before_none, long_none, spelled_is, match_start, match_none, match_step, match_end}
use Rattle.outlines.proofs.spelled.Goals as goal

pub returns-then-end-at : goal.returns-then-end-at
returns-then-end-at c =
    sym (before_none _ _ _ _ c.if-end-at.true)

pub returns-then-end-at-2 : goal.returns-then-end-at-2
returns-then-end-at-2 c =
    sym (long_none _ _ _ _ c.if-end-at.false c.if-end-at-2.true)

pub loop-i-init : goal.loop-i-init
loop-i-init c = (
  omega arith,
  omega (arith, c.if-end-at.false, c.if-end-at-2.false),
  spelled_is _ _ _ _ c.if-end-at.false c.if-end-at-2.false ∙ sym (match_start _ _ _),
)

pub returns-then-byte-b : goal.returns-then-byte-b
returns-then-byte-b c =
    let byte = c.byte in
    sym (c.loop-i.invariant.2 ∙ match_none _ _ _ _ c.loop-i-test.true (λ e. c.if-byte-b.true (byte.ensures ∙ e)))

pub loop-i-preserved : goal.loop-i-preserved
loop-i-preserved c =
    let byte = c.byte in
    let inv = c.loop-i.invariant in (
      omega (arith, c.loop-i-test.true),
      inv.1,
      inv.2 ∙ match_step _ _ _ _ c.loop-i-test.true (sym byte.ensures ∙ c.if-byte-b.false),
    )

pub returns : goal.returns
returns c =
    sym (c.loop-i.invariant.2 ∙ match_end _ _ _ _ c.loop-i-test.false)
