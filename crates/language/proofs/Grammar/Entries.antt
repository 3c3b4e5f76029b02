-- What is found in a table of kinds: it passes every test that all entries of the table pass.
use mathlib.Core.Path.{◌≡◌, refl, sym, subst}
use mathlib.Core.Bool.{Bool, true, false, cond, ◌&&◌}
use mathlib.Core.List.{List, [], ◌∷◌}
use mathlib.Core.Option.{Option, none, some, none-ne-some}
use Prim.Native.Nat.{ℕ}
use lib.Dec.{T, eqb, eqb→eq}
use borrow.Author.Tests.{eqb-true}
use Rattle.language.specs.Tokens.{Entry, ◌is◌, entry}

-- each entry passes
unfoldable pub every : {A : Type 0} → (ℕ → A → Bool) → List (Entry ℕ A) → Bool
every p [] = true
every p ((c is a) ∷ entries) = p c a && every p entries

-- what is found passes what each entry passes
pub entry_passes : {A : Type 0} (p : ℕ → A → Bool) (entries : List (Entry ℕ A)) (k : ℕ) {a : A}
    → T (every p entries) → entry entries k ≡ some a → T (p k a)
unfolding every entry
entry_passes p [] k {a} t e = absurd (none-ne-some a e)
entry_passes {A} p ((c is b) ∷ entries) k {a} t e = go (eqb k c) (p c b) refl refl (λ u v. entry_passes p entries k u v) t e
  where
    go : (same pass : Bool) → eqb k c ≡ same → p c b ≡ pass → (T (every p entries) → entry entries k ≡ some a → T (p k a))
        → T (pass && every p entries) → cond same (some b) (entry entries k) ≡ some a → T (p k a)
    go true true x y next u v = let z : p k a ≡ true = cc (eqb-true k c x) in subst T (sym z) tt
    go false true x y next u v = next u v
    go true false x y next u v = absurd u
    go false false x y next u v = absurd u

-- what each entry gives by its number, what is found gives
pub by_entries : {A : Type 0} (number : A → ℕ) (of : ℕ → ℕ) (entries : List (Entry ℕ A)) (k : ℕ) {a : A}
    → T (every (λ c x. eqb (number x) (of c)) entries) → entry entries k ≡ some a → number a ≡ of k
by_entries number of entries k {a} t e = eqb→eq (number a) (of k) (entry_passes (λ c x. eqb (number x) (of c)) entries k t e)

-- where nothing can be found, nothing is
pub found_nothing : {A : Type 0} (o : Option A) → ((a : A) → o ≡ some a → ⊥) → o ≡ none
found_nothing none h = refl
found_nothing (some a) h = absurd (h a refl)
