-- `tokens_of` goes from line to line, and keeps what is good so far.
use Rattle.stored.proofs.Reading.{reached_none, reached_amiss, reached_miscounted, reached_long}
use Rattle.stored.proofs.Reading.{reached_whole, reached_keepable, reached_next}
use Rattle.tokens.proofs.Editions.{laws_of}
use Rattle.stored.proofs.tokens_of.Goals as goal

pub loop-at-init : goal.loop-at-init
loop-at-init c =
    reached_none c.requires c.begin.ensures

pub keep-requires : goal.keep-requires
keep-requires c =
    reached_keepable c.loop-at.invariant (laws_of c.args.edition) c.in-Ok.ensures

pub loop-at-preserved : goal.loop-at-preserved
loop-at-preserved c =
    reached_next c.loop-at.invariant (laws_of c.args.edition) c.in-Ok.ensures c.keep.ensures

pub returns-in-Err : goal.returns-in-Err
returns-in-Err c =
    reached_amiss c.begin.ensures.rest c.loop-at.invariant c.loop-at-test.true
    c.in-Err.ensures

pub returns-then-count-counted : goal.returns-then-count-counted
returns-then-count-counted c =
    reached_miscounted c.begin.ensures.rest c.loop-at.invariant c.loop-at-test.false c.if-count-counted.true

pub returns-then-bytes-gt-SOURCE : goal.returns-then-bytes-gt-SOURCE
returns-then-bytes-gt-SOURCE c =
    reached_long c.begin.ensures.rest c.loop-at.invariant c.loop-at-test.false c.if-count-counted.false c.if-bytes-gt-SOURCE.true

pub returns : goal.returns
returns c =
    reached_whole c.begin.ensures.rest c.loop-at.invariant c.loop-at-test.false c.if-count-counted.false c.if-bytes-gt-SOURCE.false
