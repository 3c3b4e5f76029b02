-- What is kept of a line that has begun, by its bytes.
use lib.Dec.{leb, ltb}
use mathlib.Core.Bool.{Bool, true, false, cond}
use mathlib.Core.List.{List, [], ◌∷◌, ◌++◌}
use mathlib.Core.Path.{◌≡◌, refl}
use borrow.Author.Tests.{lt-ltb}
use native.Mathlib.Omega.{arith}
use Prim.Native.Nat.{ℕ, ◌<◌}
use Rattle.language.specs.Sizes.{LARGEST}
use Rattle.language.specs.Text.{worth}
use Rattle.language.specs.Shift.{is_capital_hex}
use Rattle.tally.specs.Parts.{no_part, spoilt, with_loom, with_picks, with_rate, with_digit, longer, longer_by, is_begun}
use Rattle.tally.specs.declared.lines.Part.{Part}

-- one byte behind the others
pub longer_last : (p : Part) (bytes : List ℕ) (b : ℕ) → longer_by p (bytes ++ (b ∷ [])) ≡ longer (longer_by p bytes) b
unfolding longer_by
longer_last p [] b = refl
longer_last p (a ∷ bytes) b = longer_last (longer p a) bytes b

-- ---- a line with a byte has begun

counted_begun : (p : Part) → 0 < p.at → is_begun p ≡ true
unfolding is_begun
counted_begun p h = by p.bad
  where
    by : (x : Bool) → cond x true (ltb 0 p.at) ≡ true
    by true = refl
    by false = lt-ltb 0 p.at h

spoilt_begun : (p : Part) → is_begun (spoilt p) ≡ true
unfolding is_begun
spoilt_begun p = refl

bad_begun : (p : Part) → p.bad ≡ true → is_begun p ≡ true
unfolding is_begun
bad_begun p e = rw e

either_begun : (x : Bool) (p q : Part) → is_begun p ≡ true → is_begun q ≡ true → is_begun (cond x p q) ≡ true
either_begun true p q a b = a
either_begun false p q a b = b

digit_begun : (p : Part) (d : ℕ) → is_begun (with_digit p d) ≡ true
unfolding with_digit
digit_begun p d =
    either_begun (ltb p.at 4) _ _ (counted_begun (with_loom p) (omega arith))
    (either_begun (ltb p.at 12) _ _ (either_begun (leb p.picks LARGEST) _ _ (counted_begun (with_picks p d) (omega arith)) (spoilt_begun p))
    (either_begun (leb p.rate LARGEST) _ _ (counted_begun (with_rate p d) (omega arith)) (spoilt_begun p)))

longer_begun : (p : Part) (b : ℕ) → is_begun (longer p b) ≡ true
unfolding longer
longer_begun p b = by p.bad refl
  where
    good : Part
    good = cond (ltb p.at 20) (cond (is_capital_hex b) (with_digit p (worth b)) (spoilt p)) (spoilt p)

    by : (x : Bool) → p.bad ≡ x → is_begun (cond x p good) ≡ true
    by true e = bad_begun p e
    by false e =
        either_begun (ltb p.at 20) _ _ (either_begun (is_capital_hex b) _ _ (digit_begun p (worth b)) (spoilt_begun p)) (spoilt_begun p)

stays_begun : (p : Part) (bytes : List ℕ) → is_begun p ≡ true → is_begun (longer_by p bytes) ≡ true
unfolding longer_by
stays_begun p [] e = e
stays_begun p (b ∷ bytes) e = stays_begun (longer p b) bytes (longer_begun p b)

pub some_begun : (b : ℕ) (bytes : List ℕ) → is_begun (longer_by no_part (b ∷ bytes)) ≡ true
unfolding longer_by
some_begun b bytes = stays_begun (longer no_part b) bytes (longer_begun no_part b)

pub none_begun : is_begun (longer_by no_part []) ≡ false
unfolding longer_by is_begun
none_begun = refl
