-- `typed` asks the checker: a type passes, and a fault is refused as it is told.
use mathlib.Core.Path.{sym, subst}
use Rattle.sheets.proofs.Layers.{typed_type, typed_fault}
use Rattle.sheets.specs.Sheets.{Typed}
use Rattle.std.specs.Prelude.{Err}
use Rattle.sheets.proofs.typed.Goals as goal

pub returns-in-Ok : goal.returns-in-Ok
returns-in-Ok c =
    typed_type _ _ _ _ _ c.type_of.ensures c.in-Ok.is

pub returns-in-Err : goal.returns-in-Err
returns-in-Err c =
    subst (λ refused. Typed c.args.table.now c.type_of.new.table c.args.program (Err refused)) (sym c.faulty-refused.ensures)
    (typed_fault _ _ _ _ _ c.type_of.ensures c.in-Err.is)
