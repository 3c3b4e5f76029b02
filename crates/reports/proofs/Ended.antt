-- What came of a sheet or of a shift has a status.
use mathlib.Core.Bool.{Bool, true, false}
use native.Mathlib.Omega.{arith}
use Rattle.wording.specs.Ends.{status_of, told_status}
use Rattle.wording.specs.declared.ends.End.{End}
use Rattle.wording.specs.declared.ends.End.TheVariants.{Passed, Counted, Value, Refused, Stopped}
use Rattle.desk.specs.Statuses.{Status}

pub of_sheet : (end : End) → Status (status_of end)
of_sheet (Passed k) = omega arith
of_sheet (Counted k n) = omega arith
of_sheet (Value k v u n) = omega arith
of_sheet (Refused w p) = omega arith
of_sheet (Stopped w p k u n) = omega arith

pub of_shift : (over : Bool) → Status (told_status over)
of_shift true = omega arith
of_shift false = omega arith
