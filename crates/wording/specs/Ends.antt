-- What is asked of what came of a sheet: among others the status that the program ends with.
use Rattle.std.specs.Prelude.{Bool, cond, ℕ}
use Rattle.wording.specs.declared.causes.Cause as cause
use Rattle.wording.specs.declared.ends.End.{End}
use Rattle.wording.specs.declared.ends.End.TheVariants.{Passed, Counted, Value, Refused, Stopped}

-- no program with its call, and one without it: then it is whole already
abbrev pub completed_if : (unread : Bool) → End → End
completed_if unread end = cond unread end (Refused cause.TheVariants.Complete 0)

-- 0 where all is well, and else 1
abbrev pub status_of : End → ℕ
status_of (Passed k) = 0
status_of (Counted k n) = 0
status_of (Value k v u n) = 0
status_of (Refused w p) = 1
status_of (Stopped w p k u n) = 1

-- of a shift that was told; 1 where there was a line too many
abbrev pub told_status : (over : Bool) → ℕ
told_status over = cond over 1 0

-- how many bytes were printed
abbrev pub printed_of : End → ℕ
printed_of (Passed k) = 0
printed_of (Counted k n) = 0
printed_of (Value k v u n) = n
printed_of (Refused w p) = 0
printed_of (Stopped w p k u n) = n
