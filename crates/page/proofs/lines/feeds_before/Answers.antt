-- `feeds_before` counts: what it has counted are the line feeds so far.
use native.Mathlib.Omega.{arith}
use mathlib.Core.Path.{sym}
use lib.ListN.{length}
use Prim.Native.Nat.{◌<◌}
use Rattle.page.proofs.Feeds.{feeds_nil, feeds_more, feeds_same}
use Rattle.page.proofs.lines.feeds_before.Goals as goal
use Rattle.page.proofs.lines.feeds_before.Goals.{else-source-i-eq10, then-source-i-eq10}

pub loop-i-init : goal.loop-i-init
loop-i-init c =
    (omega arith, sym (feeds_nil c.args.source.now))

pub loop-i-preserved : goal.loop-i-preserved
loop-i-preserved c =
    let t = c.args.source.now in
    let i = c.loop-i.i in
    let h : i < length t = omega arith in
    elim c.if-source-i-eq10.branch [
      | then-source-i-eq10 w ↦ (omega arith, omega (arith, feeds_more t i h w.if-source-i-eq10.true))
      | else-source-i-eq10 w ↦ (omega arith, omega (arith, feeds_same t i h w.if-source-i-eq10.false))
    ]
