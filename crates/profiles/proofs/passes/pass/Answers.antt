use native.Mathlib.Omega.{arith}
use Rattle.profiles.proofs.PassLaws.{passing_starts, passing_goes, passing_ends}
use Rattle.profiles.proofs.passes.pass.Goals as goal

pub loop-i-init : goal.loop-i-init
loop-i-init c = passing_starts c.requires _

pub loop-i-preserved : goal.loop-i-preserved
loop-i-preserved c =
    passing_goes c.requires c.loop-i.invariant (omega (arith, c.loop-i-test.true)) c.share-found.ensures c.put.ensures

pub returns : goal.returns
returns c = passing_ends c.requires c.loop-i.invariant (omega (arith, c.loop-i-test.false)) c.get.ensures
