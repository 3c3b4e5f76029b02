-- What is known of a sheet by its check or by its profile, whatever a place is.
use Rattle.std.specs.Prelude.{Bool, false, ℕ, Option, Some, None, Ok, Err}
use Rattle.grumpy.specs.Reports.{CheckedAt, ProfiledAt}
use Rattle.answered.specs.Refusals.{is_unread}

abbrev pub unread_end : {P : Type 0} → CheckedAt P → Bool
unread_end (Ok k) = false
unread_end (Err r) = is_unread r.why

abbrev pub most_of : {P : Type 0} → ProfiledAt P → Option ℕ
most_of (Ok p) = Some p.count
most_of (Err r) = None
