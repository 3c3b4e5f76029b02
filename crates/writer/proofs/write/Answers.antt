use Rattle.writer.proofs.Words.{writable_spans, spans_source}
use Rattle.writer.proofs.Outputs.{over_source, over_output, measured_within, all_written}
use Rattle.writer.proofs.write.Goals as goal

pub measure-long-requires : goal.measure-long-requires
measure-long-requires c =
    spans_source c.requires

pub returns-then-long-gt-SOURCE : goal.returns-then-long-gt-SOURCE
returns-then-long-gt-SOURCE c =
    over_source c.requires _ c.measure-long.ensures _ c.if-long-gt-SOURCE.true

pub returns-then-out-long : goal.returns-then-out-long
returns-then-out-long c =
    over_output c.requires _ c.measure-long.ensures _ c.if-out-long.true

pub put_all-requires : goal.put_all-requires
put_all-requires c =
    (writable_spans c.requires, measured_within _ _ _ c.measure-long.ensures c.if-out-long.false)

pub returns : goal.returns
returns c =
    all_written c.requires _ c.measure-long.ensures _ _ c.if-long-gt-SOURCE.false c.if-out-long.false c.put_all.ensures
