-- Tables of spellings: what each row passes is true of every spelling that the table gives a kind, and a spelling with a
-- kind has a row.
use borrow.Author.Tests.{eqb-true}
use lib.Dec.{eqb}
use lib.ListN.{length, get_or}
use mathlib.Core.Bool.{Bool, true, false, ◌&&◌, false≢true}
use mathlib.Core.List.{List, [], ◌∷◌}
use mathlib.Core.Logic.{⊎_elim}
use mathlib.Core.Option.{Option, none, some, none-ne-some}
use mathlib.Core.Path.{◌≡◌, refl, ap}
use native.Mathlib.Omega.{arith}
use Prim.Native.Nat.{ℕ, zero, suc, ◌≤◌, ◌<◌, max}
use Prim.Native.String.{String}
use Rattle.language.proofs.Text.Choices.{outcome, clash, and_both}
use Rattle.language.specs.Tokens.{Spelling, spell, same, Entry, spelled}
use Rattle.language.specs.Tokens.Entry.{◌is◌}

-- a table gives spellings their kinds
abbrev pub Table : Type 0
Table = List (Entry String ℕ)

-- the spelling of a row
abbrev pub spelling_of : Entry String ℕ → Spelling
spelling_of (w is k) = spell w

-- its kind
abbrev pub kind_of : Entry String ℕ → ℕ
kind_of (w is k) = k

-- the number of its bytes
abbrev pub size_of : Entry String ℕ → ℕ
size_of r = length (spelling_of r)

-- row i of a table
abbrev pub row : Table → ℕ → Entry String ℕ
row rows i = get_or rows i ("" is 0)

-- spellings that pass the test are one
pub same_one : (x y : Spelling) → same x y ≡ true → x ≡ y
unfolding same
same_one [] [] e = refl
same_one [] (b ∷ y) e = absurd (false≢true e)
same_one (a ∷ x) [] e = absurd (false≢true e)
same_one (a ∷ x) (b ∷ y) e =
    let z = and_both (eqb a b) (same x y) e in
    let f = eqb-true a b z.0 in
    let g = same_one x y z.1 in
    cc

-- each row passes the test
unfoldable pub every : (Entry String ℕ → Bool) → Table → Bool
every f [] = true
every f (r ∷ rows) = f r && every f rows

-- so row i does
pub every_row : (f : Entry String ℕ → Bool) (rows : Table) → every f rows ≡ true → (i : ℕ) → i < length rows → f (row rows i) ≡ true
unfolding every
every_row f [] e i h = absurd (omega arith)
every_row f (r ∷ rows) e zero h = (and_both (f r) (every f rows) e).0
every_row f (r ∷ rows) e (suc i) h = every_row f rows (and_both (f r) (every f rows) e).1 i (omega arith)

-- a spelling that a table gives a kind stands in one of its rows
pub record Found (rows : Table) (s : Spelling) (k : ℕ) : Type 0 where
  pub at : ℕ
  pub inside : at < length rows
  pub spells : spelling_of (row rows at) ≡ s
  pub means : kind_of (row rows at) ≡ k

-- and here is the row
pub found : (rows : Table) (s : Spelling) (k : ℕ) → spelled rows s ≡ some k → Found rows s k
unfolding spelled
found [] s k e = absurd (none-ne-some k e)
found ((w is j) ∷ rows) s k e = ⊎_elim (λ x. here x) (λ x. there (found rows s k (rw x at e))) (outcome (same (spell w) s))
  where
    here : same (spell w) s ≡ true → Found ((w is j) ∷ rows) s k
    here x =
        let z : some j ≡ some k = rw x at e in
        record { at = 0; inside = omega arith; spells = same_one (spell w) s x; means = cc }

    there : Found rows s k → Found ((w is j) ∷ rows) s k
    there z = record { at = suc z.at; inside = omega arith; spells = z.spells; means = z.means }

-- what each row's spelling passes, a spelling with a kind passes
pub passes : (f : Spelling → Bool) (rows : Table) (s : Spelling) (k : ℕ)
    → every (λ r. f (spelling_of r)) rows ≡ true → spelled rows s ≡ some k → f s ≡ true
passes f rows s k e h =
    let z = found rows s k h in
    rw z.spells at (every_row (λ r. f (spelling_of r)) rows e z.at z.inside)

-- so one that fails what each row's passes has no kind
pub no_kind : (f : Spelling → Bool) (rows : Table) (s : Spelling)
    → every (λ r. f (spelling_of r)) rows ≡ true → f s ≡ false → spelled rows s ≡ none
no_kind f rows s e h = go (spelled rows s) refl
  where
    go : (o : Option ℕ) → spelled rows s ≡ o → o ≡ none
    go none x = refl
    go (some k) x = absurd (clash (passes f rows s k e x) h)

-- the most bytes that a row has
unfoldable pub most : Table → ℕ
most [] = 0
most (r ∷ rows) = max (size_of r) (most rows)

most_row : (rows : Table) (i : ℕ) → i < length rows → size_of (row rows i) ≤ most rows
unfolding most
most_row [] i h = absurd (omega arith)
most_row (r ∷ rows) zero h = omega arith
most_row (r ∷ rows) (suc i) h = omega (arith, most_row rows i (omega arith))

-- so no spelling with a kind is longer
pub most_bytes : (rows : Table) (s : Spelling) (k : ℕ) → spelled rows s ≡ some k → length s ≤ most rows
most_bytes rows s k e = let z = found rows s k e in omega (arith, ap length z.spells, most_row rows z.at z.inside)
