-- The loop's invariant: the types of the parameters that are left match what is left of those wanted exactly where all do.
use mathlib.Core.Path.{sym, ◌∙◌}
use native.Mathlib.Omega.{arith}
use Rattle.outlines.proofs.Matched.{many_none, takes_is, match_start, match_none, match_step, match_end}
use Rattle.outlines.proofs.takes_these.Goals as goal

pub returns-then-link-takes : goal.returns-then-link-takes
returns-then-link-takes c =
    sym (many_none _ _ _ (λ e. c.if-link-takes.true (c.link.ensures ∙ e)))

pub loop-i-init : goal.loop-i-init
loop-i-init c =
    let e = sym c.link.ensures ∙ c.if-link-takes.false in
    (omega arith, e, takes_is _ _ _ e ∙ sym (match_start _ _ _))

pub returns-then-word-kind : goal.returns-then-word-kind
returns-then-word-kind c =
    let word = c.word in
    sym (c.loop-i.invariant.2 ∙ match_none _ _ _ _ c.loop-i-test.true (λ e. c.if-word-kind.true (word.ensures ∙ e)))

pub loop-i-preserved : goal.loop-i-preserved
loop-i-preserved c =
    let word = c.word in
    let inv = c.loop-i.invariant in (
      omega (arith, c.loop-i-test.true),
      inv.1,
      inv.2 ∙ match_step _ _ _ _ c.loop-i-test.true (sym word.ensures ∙ c.if-word-kind.false),
    )

pub returns : goal.returns
returns c =
    sym (c.loop-i.invariant.2 ∙ match_end _ _ _ _ c.loop-i-test.false)
