-- A table of spellings looked into by a match on the first byte: what the last arm knows, where it is none of the others'.
use borrow.Author.Tests.{eq-eqb, ne_eqb}
use lib.Dec.{eqb}
use lib.ListN.{length}
use mathlib.Core.Bool.{Bool, true, false, not, ◌||◌}
use mathlib.Core.List.{List, [], ◌∷◌}
use mathlib.Core.Option.{none}
use mathlib.Core.Path.{◌≡◌, refl}
use Prim.Native.Nat.{ℕ}
use Rattle.language.proofs.Text.Tables.{Table, spelling_of, every, no_kind}
use Rattle.language.specs.Tokens.{Spelling, spelled}

-- b is none of these, of which the last comes first
abbrev pub NoneOf : List ℕ → ℕ → Type 0
NoneOf [] b = Unit {0}
NoneOf (k ∷ ks) b = NoneOf ks b × (b ≡ k → ⊥)

among : List ℕ → ℕ → Bool
among [] b = false
among (k ∷ ks) b = eqb b k || among ks b

none_among : (ks : List ℕ) (b : ℕ) → NoneOf ks b → among ks b ≡ false
unfolding among
none_among [] b h = refl
none_among (k ∷ ks) b h = rw (ne_eqb b k h.1) (none_among ks b h.0)

-- with n bytes behind the first, the first is one of these
unfoldable pub begins_so : ℕ → List ℕ → Spelling → Bool
unfolding among
begins_so n ks [] = true
begins_so n ks (b ∷ s) = not (eqb (length s) n) || among ks b

-- where that is so of each row, a spelling that begins otherwise has no kind
pub other_first : (rows : Table) (ks : List ℕ) (b : ℕ) (s : Spelling)
    → every (λ r. begins_so (length s) ks (spelling_of r)) rows ≡ true → NoneOf ks b → spelled rows (b ∷ s) ≡ none
unfolding begins_so
other_first rows ks b s e h =
    no_kind (begins_so (length s) ks) rows (b ∷ s) e (rw (eq-eqb (length s) (length s) refl) (none_among ks b h))
