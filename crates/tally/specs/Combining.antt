-- The reports of two parts in the code's numbers: what is added to what.
use Rattle.std.specs.Prelude.{length, get_or, map, List, ◌≡◌, ℕ, ◌+◌}
use Rattle.std.specs.List.{range_with_len}
use Rattle.language.specs.Combining.{all_stops, paid_lines, both}
use Rattle.language.specs.Shift.{Report}
use Rattle.language.specs.State as State
use Rattle.tally.specs.Stands.{stop_at, report_in}
use Rattle.tally.specs.declared.sums.Sums.{Sums}

-- what nine counts say of a stop
abbrev pub counts : List ℕ → State.Stop → ℕ
counts l w = get_or l (stop_at w) 0

-- place by place
abbrev pub nine_both : List ℕ → List ℕ → List ℕ
nine_both a b = map (λ i. get_or a i 0 + get_or b i 0) (range_with_len 0 9)

-- lines that were bad or stopped
abbrev pub not_paid : Report → ℕ
not_paid r = r.bad + all_stops r.stops

-- what two reports come to, and how many were paid of it all
pub record Both (a b r : Sums) : Type 0 where
  pub reports : report_in r ≡ both (report_in a) (report_in b)
  pub paid : r.paid ≡ paid_lines (report_in r)
  pub nine : length r.stops ≡ 9
