-- The state of a shift in words of 64 bits, and what is read of such words, whatever they are.
use Rattle.std.specs.Prelude.{List, [], ◌∷◌, ◌++◌, ◌≡◌, ℕ, ltb, get_or}
use Rattle.std.specs.Int.{w64}
use Rattle.std.proofs.Common.{of_z, to_z}
use Rattle.tally.specs.declared.lines.Part.{Part}
use Rattle.tally.specs.declared.sums.Sums.{Sums}
use Rattle.shift.specs.declared.State.{State}
use Rattle.grumpy_c.specs.Words.{with_front, flag_word, narrowed, nine_counts, nine}

-- so many words
abbrev pub STATE : ℕ
STATE = 21

-- the allowance and whether there was a line too many; the line that has begun; what the lines before it add up to
unfoldable pub state_words : State → List ℕ
state_words s =
    s.allowance
    ∷ flag_word s.over
    ∷ s.part.at
    ∷ s.part.picks
    ∷ s.part.rate
    ∷ flag_word s.part.bad
    ∷ s.sums.lines
    ∷ s.sums.bad
    ∷ (nine s.sums.stops
    ++ (s.sums.paid
    ∷ of_z w64 s.sums.sum
    ∷ of_z w64 s.sums.least
    ∷ of_z w64 s.sums.largest
    ∷ []))

abbrev pub part_in : List ℕ → Part
part_in w = record {
  at = narrowed (get_or w 2 0);
  picks = get_or w 3 0;
  rate = get_or w 4 0;
  bad = ltb 0 (get_or w 5 0);
}

abbrev pub stops_in : List ℕ → List ℕ
stops_in w = nine_counts 0 w 8

abbrev pub sums_in : List ℕ → Sums
sums_in w = record {
  lines = narrowed (get_or w 6 0);
  bad = narrowed (get_or w 7 0);
  stops = stops_in w;
  paid = narrowed (get_or w 17 0);
  sum = to_z w64 (get_or w 18 0);
  least = to_z w64 (get_or w 19 0);
  largest = to_z w64 (get_or w 20 0);
}

unfoldable pub state_in : List ℕ → State
state_in w = record { allowance = get_or w 0 0; part = part_in w; sums = sums_in w; over = ltb 0 (get_or w 1 0) }

-- the state is written at the front of w, and is what is read there again
pub record Holds (w : List ℕ) (s : State) (w' : List ℕ) : Type 0 where
  pub written : w' ≡ with_front w (state_words s)
  pub read : state_in w' ≡ s
