-- The state of a shift in words: what is read of the parts of it makes the whole, and what was written is read again.
use mathlib.Core.Bool.{Bool, true, false}
use mathlib.Core.List.{List, [], ◌∷◌, ◌++◌}
use Rattle.std.specs.Int.{from_bool}
use mathlib.Core.Path.{◌≡◌, refl, ap, ◌∙◌}
use Prim.Native.Nat.{ℕ, ◌^◌, ◌<◌}
use native.Mathlib.Omega.{arith}
use lib.Dec.{ltb}
use lib.IntN.{ℤ}
use lib.ListN.{length, get_or}
use borrow.Author.Tests.{lt-ltb}
use mir.Facts.{to_z-of_z}
use mir.Syntax.{w64}
use mir.Val.{to_z, of_z, SFits}
use Rattle.shift.specs.declared.State.{State}
use Rattle.tally.specs.declared.sums.Sums.{Sums}
use Rattle.grumpy_c.specs.Words.{with_front, flag_word, narrowed, count_in, nine}
use Rattle.grumpy_c.proofs.TwosComplement.{Signed, signed}
use Rattle.grumpy_c.specs.States.{stops_in, sums_in, state_words, state_in, Holds}

module _ (w : List ℕ) (lines bad paid : ℕ) (stops : List ℕ) (sum least largest : ℤ) where
  pub sums_read : lines ≡ narrowed (get_or w 6 0) → bad ≡ narrowed (get_or w 7 0) → stops ≡ stops_in w → paid ≡ narrowed (get_or w 17 0)
      → SFits w64 sum → sum ≡ to_z w64 (get_or w 18 0) → SFits w64 least → least ≡ to_z w64 (get_or w 19 0) → SFits w64 largest
      → largest ≡ to_z w64 (get_or w 20 0)
      → ◌≡◌ {A = Sums}
      record {
        lines = lines;
        bad = bad;
        stops = stops;
        paid = paid;
        sum = to_z w64 (of_z w64 sum);
        least = to_z w64 (of_z w64 least);
        largest = to_z w64 (of_z w64 largest);
      }
      (sums_in w)
  sums_read a b c d x e y f z g = rw (to_z-of_z {w = w64} x, to_z-of_z {w = w64} y, to_z-of_z {w = w64} z, a, b, c, d, e, f, g) refl

-- ---- what was written is read again

flag_read : (b : Bool) → ltb 0 (flag_word b) ≡ b
flag_read true = refl
flag_read false = refl

narrowed_same : (n : ℕ) → n < 2 ^ 32 → narrowed n ≡ n
unfolding count_in
narrowed_same n h = rw (lt-ltb n 4294967296 h) refl

-- nine counts of 32 bits
pub record Nine (n : List ℕ) : Type 0 where
  pub long : length n ≡ 9
  pub small : (i : ℕ) → get_or n i 0 < 2 ^ 32

pub nine_same : (n : List ℕ) → length n ≡ 9 → nine n ≡ n
nine_same (a ∷ b ∷ c ∷ d ∷ e ∷ f ∷ g ∷ h ∷ i ∷ []) z = refl
nine_same [] z = absurd (omega arith)
nine_same (a ∷ []) z = absurd (omega arith)
nine_same (a ∷ b ∷ []) z = absurd (omega arith)
nine_same (a ∷ b ∷ c ∷ []) z = absurd (omega arith)
nine_same (a ∷ b ∷ c ∷ d ∷ []) z = absurd (omega arith)
nine_same (a ∷ b ∷ c ∷ d ∷ e ∷ []) z = absurd (omega arith)
nine_same (a ∷ b ∷ c ∷ d ∷ e ∷ f ∷ []) z = absurd (omega arith)
nine_same (a ∷ b ∷ c ∷ d ∷ e ∷ f ∷ g ∷ []) z = absurd (omega arith)
nine_same (a ∷ b ∷ c ∷ d ∷ e ∷ f ∷ g ∷ h ∷ []) z = absurd (omega arith)
nine_same (a ∷ b ∷ c ∷ d ∷ e ∷ f ∷ g ∷ h ∷ i ∷ j ∷ n) z = absurd (omega arith)

-- the numbers of a state fit their types
pub record Fit (s : State) : Type 0 where
  pub at : s.part.at < 2 ^ 32
  pub lines : s.sums.lines < 2 ^ 32
  pub bad : s.sums.bad < 2 ^ 32
  pub stops : Nine s.sums.stops
  pub paid : s.sums.paid < 2 ^ 32
  pub sum : SFits w64 s.sums.sum
  pub least : SFits w64 s.sums.least
  pub largest : SFits w64 s.sums.largest

-- from the parts of it
made : (s : State) (over spoilt : Bool) (at lines bad paid : ℕ) (stops : List ℕ) (sum least largest : ℤ) → over ≡ s.over → spoilt ≡ s.part.bad
    → at ≡ s.part.at → lines ≡ s.sums.lines → bad ≡ s.sums.bad → paid ≡ s.sums.paid → stops ≡ s.sums.stops → sum ≡ s.sums.sum
    → least ≡ s.sums.least → largest ≡ s.sums.largest
    → ◌≡◌ {A = State}
    record {
      allowance = s.allowance;
      part = record { at = at; picks = s.part.picks; rate = s.part.rate; bad = spoilt };
      sums = record { lines = lines; bad = bad; stops = stops; paid = paid; sum = sum; least = least; largest = largest };
      over = over;
    }
    s
made s over spoilt at lines bad paid stops sum least largest a b c d e f g h i j = rw (a, b, c, d, e, f, g, h, i, j) refl

module _ (n : List ℕ) (h : Nine n) where
  same : (i : ℕ) → narrowed (get_or n i 0) ≡ get_or n i 0
  same i = narrowed_same (get_or n i 0) (h.small i)

  nine_read : narrowed (get_or n 0 0) ∷ narrowed (get_or n 1 0) ∷ narrowed (get_or n 2 0) ∷ narrowed (get_or n 3 0) ∷ narrowed (get_or n 4 0)
      ∷ narrowed (get_or n 5 0) ∷ narrowed (get_or n 6 0) ∷ narrowed (get_or n 7 0) ∷ narrowed (get_or n 8 0) ∷ [] ≡ n
  nine_read = rw (same 0, same 1, same 2, same 3, same 4, same 5, same 6, same 7, same 8) (nine_same n h.long)

pub read_again : (w : List ℕ) (s : State) → Fit s → state_in (with_front w (state_words s)) ≡ s
unfolding with_front state_words state_in
read_again w s f =
    made s _ _ _ _ _ _ _ _ _ _ (flag_read s.over) (flag_read s.part.bad) (narrowed_same _ f.at) (narrowed_same _ f.lines)
    (narrowed_same _ f.bad) (narrowed_same _ f.paid) (nine_read s.sums.stops f.stops) (to_z-of_z {w = w64} f.sum)
    (to_z-of_z {w = w64} f.least) (to_z-of_z {w = w64} f.largest)

-- ---- as it is written

pub flag_told : (b : Bool) → from_bool b ≡ flag_word b
flag_told true = refl
flag_told false = refl

module _ (w w' : List ℕ) (s : State) (over spoilt sum least largest : ℕ) where
  pub state_held : over ≡ flag_word s.over → spoilt ≡ flag_word s.part.bad → Signed s.sums.sum sum → Signed s.sums.least least
      → Signed s.sums.largest largest
      → w' ≡ with_front w
      (s.allowance
      ∷ over
      ∷ s.part.at
      ∷ s.part.picks
      ∷ s.part.rate
      ∷ spoilt
      ∷ s.sums.lines
      ∷ s.sums.bad
      ∷ (nine s.sums.stops ++ (s.sums.paid ∷ sum ∷ least ∷ largest ∷ [])))
      → Fit s → Holds w s w'
  unfolding state_words
  state_held a b d e f h k =
      let written : w' ≡ with_front w (state_words s) = h ∙ ap (with_front w) (rw (a, b, signed d, signed e, signed f) refl) in
      record { written = written; read = ap state_in written ∙ read_again w s k }
