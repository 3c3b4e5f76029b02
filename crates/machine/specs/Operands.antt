-- A truth that is true, what the code's views of an operand say, and the numbers that a `for` goes through.
use Rattle.std.specs.Prelude.{Bool, cond, ◌≡◌, ℤ, pos, ◌+ℤ◌, Option, Some, None}
use Rattle.std.proofs.Math.Option as Written
use Rattle.std.proofs.Math.Option.{none, some}
use Rattle.std.specs.Int.Signed.{lt_z}
use Rattle.language.specs.State.{Value, number, as_int, as_bool, has}
use Rattle.language.specs.Meaning.{in_range}

abbrev pub is_true : Value → Bool
is_true v = has (as_bool v) λ b. b

-- the code's option as the written language has it
abbrev pub written : {A : Type 0} → Option A → Written.Option A
written (Some x) = some x
written None = none

-- what is so of the number that v is, if it is any
pub record OfInt (v : Value) (P : ℤ → Type 0) : Type 0 where
  pub is : (x : ℤ) → as_int v ≡ some x → P x

-- ---- the numbers that a `for` goes through

-- z lies before the end, as the step goes
abbrev pub before : ℤ → ℤ → ℤ → Bool
before to by z = cond (lt_z (pos 0) by) (lt_z z to) (lt_z to z)

-- the number behind z; past the range of int there is none
abbrev pub stepped : ℤ → ℤ → Written.Option Value
stepped z by = cond (in_range (z +ℤ by)) (some (number (z +ℤ by))) none
