use Rattle.profiles.proofs.ProgramLaws.{counting_starts, counting_body, counting_stops}
use Rattle.profiles.proofs.ProgramLaws.{counting_goes, counting_main, counting_ends}
use Rattle.profiles.proofs.reckon.Goals as goal

pub loop-k-init : goal.loop-k-init
loop-k-init c = counting_starts

pub body-share-requires : goal.body-share-requires
body-share-requires c = counting_body c.requires c.loop-k.invariant c.loop-k-test.true

pub returns-then-share-gt-FULL : goal.returns-then-share-gt-FULL
returns-then-share-gt-FULL c =
    counting_stops c.requires c.loop-k.invariant c.loop-k-test.true c.body-share.ensures c.if-share-gt-FULL.true c.told.ensures

pub loop-k-preserved : goal.loop-k-preserved
loop-k-preserved c =
    counting_goes c.requires c.loop-k.invariant c.loop-k-test.true c.body-share.ensures c.if-share-gt-FULL.false
    c.put.ensures

pub pass-last-requires : goal.pass-last-requires
pass-last-requires c = counting_main c.requires c.loop-k.invariant c.loop-k-test.false

pub returns : goal.returns
returns c =
    counting_ends c.requires c.loop-k.invariant c.loop-k-test.false c.pass-last.ensures c.told-2.ensures
