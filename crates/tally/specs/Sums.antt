-- What the lines so far add up to, in numbers that do not wrap whatever they are: where no shift can come to them,
-- they are counted no further. That they are those of the written report is shown in proofs/.
use Rattle.std.specs.Prelude.{cond, ℕ, ◌+◌, ◌-◌, ◌<◌, eqb, ltb, ℤ, pos, negsuc, ◌+ℤ◌, get_or, set, replicate}
use Rattle.std.specs.Int.Signed.{mag, lt_z}
use Rattle.language.specs.Sizes.{LINES}
use Rattle.language.specs.Numbers.{stop_number}
use Rattle.language.specs.Shift.{lesser, greater}
use Rattle.numbers.specs.Meanings.{stop_meant}
use Rattle.numbers.specs.declared.Stop.{Stop}
use Rattle.tally.specs.declared.sums.Sums.{Sums}
use Rattle.tally.specs.declared.sums.Outcome.{Outcome}

abbrev pub no_sums : Sums
no_sums = record { lines = 0; bad = 0; stops = replicate 9 0; paid = 0; sum = pos 0; least = pos 0; largest = pos 0 }

abbrev pub stop_index : Stop → ℕ
stop_index s = stop_number (stop_meant s) - 50

unfoldable pub counted : ℕ → ℕ
counted n = cond (ltb n LINES) (n + 1) n

-- no sum of a shift lies outside of these
abbrev pub HIGH : ℤ
HIGH = pos 140737488355328

abbrev pub LOW : ℤ
LOW = negsuc 140737488355328

unfoldable pub summed : ℤ → ℤ → ℤ
summed s z = cond (lt_z HIGH s) s (cond (lt_z s LOW) s (s +ℤ z))

-- what one outcome more makes of them
abbrev pub with_bad : Sums → Sums
with_bad s = record {
  lines = counted s.lines;
  bad = counted s.bad;
  stops = s.stops;
  paid = s.paid;
  sum = s.sum;
  least = s.least;
  largest = s.largest;
}

abbrev pub with_stop : Sums → Stop → Sums
with_stop s w = record {
  lines = counted s.lines;
  bad = s.bad;
  stops = set s.stops (stop_index w) (counted (get_or s.stops (stop_index w) 0));
  paid = s.paid;
  sum = s.sum;
  least = s.least;
  largest = s.largest;
}

unfoldable pub with_pay : Sums → ℤ → Sums
with_pay s z = record {
  lines = counted s.lines;
  bad = s.bad;
  stops = s.stops;
  paid = counted s.paid;
  sum = summed s.sum z;
  least = cond (eqb s.paid 0) z (lesser s.least z);
  largest = cond (eqb s.paid 0) z (greater s.largest z);
}

-- a pay is an int
abbrev pub Small : Outcome → Type 0
Small Outcome.Bad = Unit {0}
Small (Outcome.Stopped w) = Unit {0}
Small (Outcome.Paid z) = mag z < 2147483648

abbrev pub added : Sums → Outcome → Sums
added s Outcome.Bad = with_bad s
added s (Outcome.Stopped w) = with_stop s w
added s (Outcome.Paid z) = with_pay s z
