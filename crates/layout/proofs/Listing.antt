-- Kinds of rows: those whose token is asked for, and those that have a list of arguments or of bounds.
use mathlib.Core.Bool.{Bool, true, false, ◌||◌, false≢true}
use mathlib.Core.Path.{◌≡◌, refl, sym, ap, ◌∙◌}
use Prim.Native.Nat.{ℕ, ◌≤◌}
use native.Mathlib.Omega.{arith}
use lib.Dec.{eqb}
use borrow.Author.Tests.{eq-eqb, eqb-true}
use Rattle.language.specs.Tokens.{NAME, NUMBER, FLOAT_NUMBER, LET, UPTO, THROUGH}
use Rattle.language.specs.Trees.{Unary, minus, not, fetch, new, Binary, add, sub, mul, div, less, equal, and, or, assign}
use Rattle.layout.specs.Rows.{CALL, unary_kind, binary_kind}
use Rattle.layout.specs.Decode.{counts}
use Rattle.layout.proofs.Holding.{Listless}

-- asked for its token
abbrev pub asks : ℕ → Bool
asks k = eqb k NAME || eqb k NUMBER || eqb k FLOAT_NUMBER || eqb k CALL || eqb k LET

unfoldable pub lists : ℕ → Bool
lists k = eqb k CALL || counts k

or_false : (a b : Bool) → (a || b) ≡ false → (a ≡ false) × (b ≡ false)
or_false false b e = (refl, e)
or_false true b e = absurd (false≢true (sym e))

-- the kinds of a `for` lie above those of calls
pub range_high : (k : ℕ) → eqb k UPTO || eqb k THROUGH ≡ true → UPTO ≤ k
range_high k e = by (eqb k UPTO) (eqb k THROUGH) refl refl e
  where
    by : (a b : Bool) → eqb k UPTO ≡ a → eqb k THROUGH ≡ b → (a || b) ≡ true → UPTO ≤ k
    by true b x y z = omega (arith, eqb-true k UPTO x)
    by false true x y z = omega (arith, eqb-true k THROUGH y)
    by false false x y z = absurd (false≢true z)

-- a kind that has no list
pub listless : (k : ℕ) → lists k ≡ false → Listless k
unfolding lists
listless k q =
    let z = or_false (eqb k CALL) (counts k) q in
    (λ e. false≢true (sym z.0 ∙ eq-eqb k CALL e), λ e. false≢true (sym z.1 ∙ e))

pub asked : (k c : ℕ) → asks k ≡ false → asks c ≡ true → k ≡ c → ⊥
asked k c p q e = let z : ◌≡◌ {A = ℕ} 0 1 = cc (ap asks e) in omega arith

-- operators have no list
pub unary_lists : (o : Unary) → lists (unary_kind o) ≡ false
unfolding lists unary_kind counts
unary_lists minus = refl
unary_lists not = refl
unary_lists fetch = refl
unary_lists new = refl

pub binary_lists : (o : Binary) → lists (binary_kind o) ≡ false
unfolding lists binary_kind counts
binary_lists add = refl
binary_lists sub = refl
binary_lists mul = refl
binary_lists div = refl
binary_lists less = refl
binary_lists equal = refl
binary_lists and = refl
binary_lists or = refl
binary_lists assign = refl
