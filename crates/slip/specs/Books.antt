-- What came of the book of a shift that is refused.
use Rattle.std.specs.Prelude.{Bool, false}
use Rattle.answered.specs.Called.{refused_under}
use Rattle.answered.specs.Refusals.{is_unread}
use Rattle.wording.specs.declared.ends.End.{End}
use Rattle.wording.specs.declared.ends.End.TheVariants.{Refused}
use Rattle.pairs.specs.declared.Spot.{Spot}
use Rattle.shift.specs.declared.Why.{Why}
use Rattle.wording.specs.declared.causes.Cause as cause

abbrev pub shift_end : Why → Spot → End
shift_end (Why.Sheet r) s = refused_under r s
shift_end Why.NoBook s = Refused cause.TheVariants.NoBook 0
shift_end Why.ManyLines s = Refused cause.TheVariants.ManyLines 0

abbrev pub unread_shift : Why → Bool
unread_shift (Why.Sheet r) = is_unread r
unread_shift Why.NoBook = false
unread_shift Why.ManyLines = false
