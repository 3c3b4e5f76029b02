-- Runs: as many bytes of one class as follow each other from a place on, found by going on byte for byte.
use borrow.Author.Count.{below_more}
use lib.ListN.{length}
use mathlib.Core.Bool.{Bool, true, false}
use mathlib.Core.List.{List}
use mathlib.Core.Logic.{⊎_elim}
use mathlib.Core.Path.{◌≡◌}
use native.Mathlib.Omega.{arith}
use Prim.Native.Nat.{ℕ, ◌+◌, ◌≤◌, ◌<◌}
use Rattle.language.proofs.Text.Choices.{either, clash}
use Rattle.language.specs.Text.{byte, Each}

-- from p up to i the bytes are there and of the class f
pub record Scanned (f : ℕ → Bool) (t : List ℕ) (p i : ℕ) : Type 0 where
  pub order : p ≤ i
  pub within : i ≤ length t
  pub each : Each f t p i

-- the longest run of bytes of the class f from p on ends at q
pub record Run (f : ℕ → Bool) (t : List ℕ) (p q : ℕ) : Type 0 where
  pub order : p ≤ q
  pub within : q ≤ length t
  pub each : Each f t p q
  pub stop : q < length t → f (byte t q) ≡ false

module _ {f : ℕ → Bool} {t : List ℕ} {p : ℕ} where
  -- at first no byte is scanned
  pub scan_none : p ≤ length t → Scanned f t p p
  scan_none h = record { order = omega arith; within = h; each = λ k a b. absurd (omega arith) }

  -- one more byte of the class is scanned
  pub scan_more : {i : ℕ} → Scanned f t p i → i < length t → f (byte t i) ≡ true → Scanned f t p (i + 1)
  scan_more {i} s h e =
      record { order = omega arith; within = omega arith; each = below_more (λ k. p ≤ k → f (byte t k) ≡ true) i s.each (λ a. e) }

  -- a byte of another class ends the run
  pub scan_stop : {i : ℕ} → Scanned f t p i → f (byte t i) ≡ false → Run f t p i
  scan_stop s e = record { order = s.order; within = s.within; each = s.each; stop = λ h. e }

  -- the end of the text ends the run
  pub scan_end : {i : ℕ} → Scanned f t p i → length t ≤ i → Run f t p i
  scan_end s h = record { order = s.order; within = s.within; each = s.each; stop = λ l. absurd (omega arith) }

  -- no stretch of such bytes from p on is longer than the run
  pub run_longest : {q e : ℕ} → Run f t p q → Scanned f t p e → e ≤ q
  run_longest {q} {e} r s =
      ⊎_elim (λ l. absurd (clash (s.each q l r.order) (r.stop (omega (arith, s.within))))) (λ g. g) (either q e)

  -- a run whose first byte is of the class is not empty
  pub run_some : {q : ℕ} → p < length t → f (byte t p) ≡ true → Run f t p q → p < q
  run_some {q} h e r = omega (arith, run_longest r (scan_more (scan_none (omega arith)) h e))
