-- Every token of a split has a value that can be written: a number that is too large is a flaw, and no token.
use mathlib.Core.List.{List, [], ◌∷◌, ◌++◌}
use Prim.Native.Nat.{ℕ, zero, suc, ◌≤◌}
use native.Mathlib.Omega.{arith}
use lib.ListN.{get_or}
use Rattle.language.specs.Sizes.{Sizes, LARGEST}
use Rattle.language.specs.Tokens.{Vocabulary, Token, past, value_at}
use Rattle.language.specs.Text.{Reaches, start, skip, next, token_of, SplitsUnder}

appended : (ts : List Token) (u : Token) (i : ℕ) → ((i : ℕ) → (get_or ts i past).value ≤ LARGEST) → u.value ≤ LARGEST
    → (get_or (ts ++ (u ∷ [])) i past).value ≤ LARGEST
appended [] u zero h k = k
appended [] u (suc i) h k = omega arith
appended (t ∷ ts) u zero h k = h zero
appended (t ∷ ts) u (suc i) h k = appended ts u i (λ j. h (suc j)) k

-- nor one that is reached
pub reached_small : {voc : Vocabulary} {t : List ℕ} {p : ℕ} {ts : List Token} → Reaches voc t p ts → (i : ℕ) → (get_or ts i past).value ≤ LARGEST
reached_small start zero = omega arith
reached_small start (suc i) = omega arith
reached_small (skip r s) i = reached_small r i
reached_small {t = t} (next {p = p} {q = q} {k = k} {v = v} {ts = ts} r s h e) i =
    rw e (appended ts (token_of t p q k v) i (reached_small r) h)

-- no number of a split is too large
pub split_small : {σ : Sizes} {voc : Vocabulary} {t : List ℕ} {ts : List Token} → SplitsUnder σ voc t ts → (i : ℕ) → value_at ts i ≤ LARGEST
unfolding value_at
split_small s i = reached_small s.whole i
