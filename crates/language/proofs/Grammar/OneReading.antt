-- A token list has at most one reading, and the parser finds it or says that there is none.
use mathlib.Core.Path.{◌≡◌, refl, ap}
use mathlib.Core.List.{List}
use mathlib.Core.Logic.{◌⊎◌, inl, inr}
use Prim.Native.Nat.{ℕ, ◌+◌, ◌*◌, ◌≤◌, ◌<◌}
use native.Mathlib.Omega.{arith}
use lib.ListN.{length, get_or-eq_default}
use borrow.Author.Tests.{eq-eqb}
use Rattle.language.specs.Tokens.{Token, PAST, past, kind_at, entry}
use Rattle.language.specs.Trees.{Program}
use Rattle.language.specs.Grammar.{Of, Sym, Reads, Reading}
use Rattle.language.proofs.Executable.Parses.{Result, failed, got, then, need}
use Rattle.language.proofs.Executable.Parser.{entire, step, parse, answer}
use Rattle.language.proofs.Grammar.FirstTokens.{pull, ends}
use Rattle.language.proofs.Executable.ParserSound.{answer_sound}
use Rattle.language.proofs.Executable.ParserClaims.{rank, run}
use Rattle.language.proofs.Executable.ParserComplete.{found}

module _ (ts : List Token) where
  kind_past : kind_at ts (length ts) ≡ PAST
  unfolding kind_at
  kind_past = ap (λ (t : Token). t.kind) (get_or-eq_default ts past (omega arith))

  -- nothing goes on behind the last token
  pull_past : pull (kind_at ts (length ts)) ≡ 0
  unfolding pull entry
  pull_past = ap pull kind_past

  -- a reading of the whole list is found with this fuel and with more
  pub finds : (p : Program) → Reading ts p → (f : ℕ) → 16 * length ts + 16 ≤ f → parse ts f entire 0 ≡ got p (length ts)
  unfolding step then need
  finds p r f h =
      run ts entire 0 f _ (omega arith) λ n z.
      rw (found ts r (omega (arith, pull_past)) n (omega arith), eq-eqb (length ts) (length ts) refl)

  -- so the parser answers it
  pub answers : (p : Program) → Reading ts p → answer ts ≡ got p (length ts)
  unfolding answer
  answers p r = finds p r (16 * length ts + 16) (omega arith)

  -- no token list has two readings
  pub one_reading : (p q : Program) → Reading ts p → Reading ts q → p ≡ q
  one_reading p q r s = let x = answers p r in let y = answers q s in cc

  -- where the parser fails there is no reading
  pub no_reading : (k : ℕ) → answer ts ≡ failed k → (p : Program) → Reading ts p → ⊥
  no_reading k e p r = let x = answers p r in let z : ◌≡◌ {A = ℕ} 0 1 = cc in omega arith

  -- a reading or none, decided
  pub reading? : ((p : Program) × Reading ts p) ⊎ ((p : Program) → Reading ts p → ⊥)
  reading? = from (answer ts) refl
    where
      from : (r : Result Program) → answer ts ≡ r → ((p : Program) × Reading ts p) ⊎ ((p : Program) → Reading ts p → ⊥)
      from (failed k) e = inr (no_reading k e)
      from (got p j) e = inl (p, answer_sound ts p j e)

  -- two readings by one symbol from one place, neither of which the token behind it could go on with, are one
  pub only : {s : Sym} {i j k : ℕ} {x y : Of s} → Reads ts s i j x → pull (kind_at ts j) < ends s
      → Reads ts s i k y → pull (kind_at ts k) < ends s → (j ≡ k) × (x ≡ y)
  only {s} {i} {j} {k} p a q b =
      let x = found ts p a (16 * (j + k) + rank s) (omega arith) in
      let y = found ts q b (16 * (j + k) + rank s) (omega arith) in
      (cc, cc)
