-- Words put at the front of others, one after the other.
use mathlib.Core.List.{List, [], ◌∷◌, ◌++◌}
use mathlib.Core.Path.{◌≡◌, refl, ap, ◌∙◌}
use Prim.Native.Nat.{ℕ, zero, suc, ◌+◌, ◌≤◌, ◌<◌}
use native.Mathlib.Numerals.{add-one}
use native.Mathlib.Omega.{arith}
use lib.ListN.{length, take, drop, get_or, set}
use lib.Seq.{take-length}
use Rattle.grumpy_c.specs.Words.{with_front}

-- the first j of them
abbrev pub so_far : List ℕ → List ℕ → ℕ → List ℕ
so_far w f j = take j f ++ drop j w

step : (w f : List ℕ) (j : ℕ) → j < length w → j < length f → set (so_far w f j) j (get_or f j 0) ≡ so_far w f (suc j)
step [] f j h k = absurd (omega arith)
step (x ∷ w) [] j h k = absurd (omega arith)
step (x ∷ w) (y ∷ f) zero h k = refl
step (x ∷ w) (y ∷ f) (suc j) h k = ap (λ (r : List ℕ). y ∷ r) (step w f j (omega arith) (omega arith))

pub one_further : (w f v : List ℕ) (j : ℕ) → v ≡ so_far w f j → j < length w → j < length f → set v j (get_or f j 0) ≡ so_far w f (j + 1)
one_further w f v j e h k = rw (add-one, e) (step w f j h k)

pub all_put : (w f v : List ℕ) (j : ℕ) → v ≡ so_far w f j → j ≤ length f → length f ≤ j → v ≡ with_front w f
unfolding with_front
all_put w f v j e h k = let same : j ≡ length f = omega arith in e ∙ rw (same, take-length) refl
