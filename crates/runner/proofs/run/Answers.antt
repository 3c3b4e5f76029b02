use mathlib.Core.Path.{refl}
use Rattle.layout.specs.declared.values.Value.{Value}
use Rattle.runner.proofs.Whole.{first_any, last_few, last_whole}
use Rattle.runner.proofs.run.Goals as goal

pub go-last-requires : goal.go-last-requires
go-last-requires c =
    first_any c.args.table.now c.args.work.now c.args.out.now c.args.program c.args.allowance c.requires
    {v = Value.Nothing} c.put.ensures refl

pub report-requires : goal.report-requires
report-requires c =
    last_few c.args.table.now c.args.work.now c.args.out.now c.args.program c.args.allowance c.requires
    {v = Value.Nothing} c.put.ensures refl c.go-last.ensures

pub returns : goal.returns
returns c =
    last_whole c.args.table.now c.args.work.now c.args.out.now c.args.program c.args.allowance c.requires
    {v = Value.Nothing} c.put.ensures refl c.go-last.ensures _ c.clear.ensures _ c.report.ensures
