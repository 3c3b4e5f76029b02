-- When a counted loop has a pass (R12.6, R12.7, R12.9): none where the step points away from the end; at equal ends one with
-- `..=` and none with `..`; and without a step there is one unless the ends are equal, and never a zero step.
use mathlib.Core.Bool.{Bool, true, false, cond, ◌&&◌, ◌||◌, false≢true}
use mathlib.Core.Path.{◌≡◌, refl, sym}
use native.Mathlib.Omega.{arith}
use native.Mathlib.Nat.{le_refl}
use borrow.Author.Tests.{eq-eqb, ne_eqb, eqb-false, ltb-true, ltb-false, lt-ltb, le-ltb}
use lib.IntN.{ℤ, pos, negsuc}
use lib.Signed.{lt_z}
use Rattle.language.specs.Meaning.{is_zero, same_int, towards, due}

-- ---- the order of ints

never_less : (z : ℤ) → lt_z z z ≡ false
never_less (pos a) = le-ltb a a (le_refl a)
never_less (negsuc a) = le-ltb a a (le_refl a)

always_same : (z : ℤ) → same_int z z ≡ true
unfolding same_int
always_same (pos a) = eq-eqb a a refl
always_same (negsuc a) = eq-eqb a a refl

one_way : (x y : ℤ) → lt_z x y ≡ true → (lt_z y x ≡ false) × (same_int y x ≡ false)
unfolding same_int
one_way (pos a) (pos b) h = let l = ltb-true a b h in (le-ltb b a (omega arith), ne_eqb b a (λ e. omega arith))
one_way (pos a) (negsuc b) h = absurd (false≢true h)
one_way (negsuc a) (pos b) h = (refl, refl)
one_way (negsuc a) (negsuc b) h = let l = ltb-true b a h in (le-ltb a b (omega arith), ne_eqb b a (λ e. omega arith))

same_back : (x y : ℤ) → same_int y x ≡ false → same_int x y ≡ false
unfolding same_int
same_back (pos a) (pos b) e = let n = eqb-false b a e in ne_eqb a b (λ e. n (sym e))
same_back (pos a) (negsuc b) e = refl
same_back (negsuc a) (pos b) e = refl
same_back (negsuc a) (negsuc b) e = let n = eqb-false b a e in ne_eqb a b (λ e. n (sym e))

some_way : (x y : ℤ) → lt_z y x ≡ false → same_int x y ≡ false → lt_z x y ≡ true
unfolding same_int
some_way (pos a) (pos b) h e = let l = ltb-false b a h in let n = eqb-false a b e in lt-ltb a b (omega (arith, n))
some_way (pos a) (negsuc b) h e = absurd (false≢true (sym h))
some_way (negsuc a) (pos b) h e = refl
some_way (negsuc a) (negsuc b) h e = let l = ltb-false a b h in let n = eqb-false a b e in lt-ltb b a (omega (arith, n))

-- ---- a step away from the end

pub away_above : (through : Bool) (to by z : ℤ) → lt_z (pos 0) by ≡ true → lt_z to z ≡ true → due through to by z ≡ false
unfolding due
away_above true to by z up far = let w = one_way to z far in rw (up, w.0, w.1)
away_above false to by z up far = let w = one_way to z far in rw (up, w.0)

pub away_below : (through : Bool) (to by z : ℤ) → lt_z (pos 0) by ≡ false → lt_z z to ≡ true → due through to by z ≡ false
unfolding due
away_below true to by z down far = let w = one_way z to far in rw (down, w.0, same_back z to w.1)
away_below false to by z down far = let w = one_way z to far in rw (down, w.0)

-- ---- equal ends

neither : (b through : Bool) → (cond b false false || (through && true)) ≡ through
neither true true = refl
neither true false = refl
neither false true = refl
neither false false = refl

pub equal_ends : (through : Bool) (by z : ℤ) → due through z by z ≡ through
unfolding due
equal_ends through by z = rw (never_less z, always_same z) (neither (lt_z (pos 0) by) through)

-- ---- no step

pub never_zero : (from to : ℤ) → is_zero (towards from to) ≡ false
unfolding is_zero towards
never_zero from to = by (lt_z to from)
  where
    by : (b : Bool) → is_zero (cond b (negsuc 0) (pos 1)) ≡ false
    by true = refl
    by false = refl

pub some_pass : (through : Bool) (from to : ℤ) → same_int from to ≡ false → due through to (towards from to) from ≡ true
unfolding due towards
some_pass through from to n = by (lt_z to from) refl
  where
    by : (b : Bool) → lt_z to from ≡ b
        → (cond (lt_z (pos 0) (cond b (negsuc 0) (pos 1))) (lt_z from to) (lt_z to from) || (through && same_int from to)) ≡ true
    by true h = rw h
    by false h = rw (some_way from to h n)
