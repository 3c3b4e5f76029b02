-- `characters` counts: what it has counted are the characters that begin so far.
use mathlib.Core.Path.{sym, ◌∙◌}
use lib.ListN.{length}
use Prim.Native.Nat.{◌<◌}
use Rattle.page.proofs.Letters.{heads_nil, heads_more, heads_same}
use native.Mathlib.Omega.{arith}
use Rattle.page.proofs.characters.characters.Goals as goal
use Rattle.page.proofs.characters.characters.Goals.{else-not-is_inner, then-not-is_inner}

pub loop-b-init : goal.loop-b-init
loop-b-init c =
    (omega arith, sym (heads_nil c.args.bytes.now))

pub loop-b-preserved : goal.loop-b-preserved
loop-b-preserved c =
    let t = c.args.bytes.now in
    let i = c.loop-b.b-index in
    let h : i < length t = omega arith in
    elim c.if-not-is_inner.branch [
      | then-not-is_inner w ↦ (omega arith, omega (arith, heads_more t i h (sym c.is_inner.ensures ∙ w.if-not-is_inner.true)))
      | else-not-is_inner w ↦ (omega arith, omega (arith, heads_same t i h (sym c.is_inner.ensures ∙ w.if-not-is_inner.false)))
    ]
