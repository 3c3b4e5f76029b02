-- The bytes of two sheets that are joined: those of the first, the LF, those of the second.
use lib.ListN.{length, length-append, get_or-append, get_or-eq_default}
use lib.Seq.{get_or-append-add}
use mathlib.Core.List.{List, ◌∷◌}
use mathlib.Core.Path.{◌≡◌, refl, sym, ◌∙◌, ap}
use native.Mathlib.Omega.{arith}
use Prim.Native.Nat.{ℕ, zero, suc, ◌+◌, ◌-◌, ◌≤◌, ◌<◌}
use Rattle.language.specs.Pairs.{joined}
use Rattle.language.specs.Text.{byte}

module _ (first second : List ℕ) where
  -- so many
  pub joined_length : length (joined first second) ≡ length first + 1 + length second
  joined_length = simp length-append (omega arith)

  -- before the LF those of the first
  pub joined_first : (p : ℕ) → p < length first → byte (joined first second) p ≡ byte first p
  joined_first p h = get_or-append first (10 ∷ second) 0 p h

  -- from it on it and those of the second
  pub joined_rest : (p : ℕ) → length first ≤ p → byte (joined first second) p ≡ byte (10 ∷ second) (p - length first)
  joined_rest p h =
      let e : length first + (p - length first) ≡ p = omega arith in
      ap (byte (joined first second)) (sym e) ∙ get_or-append-add first (10 ∷ second) (p - length first) 0

-- the LF
pub rest_feed : (second : List ℕ) (p : ℕ) → p ≡ 0 → byte (10 ∷ second) p ≡ 10
rest_feed second p e = rw e

-- and what is behind it
pub rest_sheet : (second : List ℕ) (p : ℕ) → (p ≡ 0 → ⊥) → byte (10 ∷ second) p ≡ byte second (p - 1)
rest_sheet second zero h = absurd (h refl)
rest_sheet second (suc p) h = let e : suc p - 1 ≡ p = omega arith in rw e

-- past the end of a text is 0
pub byte_past : (t : List ℕ) (p : ℕ) → length t ≤ p → byte t p ≡ 0
byte_past t p h = get_or-eq_default t 0 h
