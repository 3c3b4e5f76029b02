-- What settles each level of operators, by what settles its parts; and what makes it fail. Each law
-- says what stands there; of a part "or none" the answer is handed on, whether it was got or failed.
use mathlib.Core.Path.{◌≡◌}
use mathlib.Core.List.{List}
use mathlib.Core.Option.{none}
use Prim.Native.Nat.{ℕ, ◌+◌}
use Rattle.language.specs.Tokens.{Token, Means, entry, kind_at}
use Rattle.language.specs.Trees.{Binary, Exp, binary}
use Rattle.language.specs.Grammar.{Level, sum, cmp, chain, tier, part, operators, comparisons}
use Rattle.language.proofs.Executable.Parses.{Result, failed, got, made, then, look}
use Rattle.language.proofs.Executable.Parser.{read, rest, step}
use Rattle.language.proofs.Executable.Settles.{Settles, settle₀, settle₁, settle₂}

module _ {ts : List Token} where
  -- ---- Or, And, Sum, Prod: the first part, then the rest

  module _ {l : Level} where
    -- no first part
    pub chain_failed : {i e : ℕ} → Settles ts (read (tier (part l))) i (failed e) → Settles ts (read (tier (chain l))) i (failed e)
    unfolding step then
    chain_failed x = settle₁ x λ f p. rw p

    -- a first part, and what the rest comes to
    pub chain_first : {i m : ℕ} {x : Exp} {r : Result Exp} → Settles ts (read (tier (part l))) i (got x m)
        → Settles ts (rest l x) m r → Settles ts (read (tier (chain l))) i r
    unfolding step then
    chain_first x y = settle₂ x y λ f p q. rw (p, q)

    -- no operator of the level
    pub rest_end : {m : ℕ} {x : Exp} → entry (operators l) (kind_at ts m) ≡ none → Settles ts (rest l x) m (got x m)
    unfolding step look
    rest_end a = settle₀ λ f. rw a

    module _ {m : ℕ} {x : Exp} {o : Binary} (a : Means ts m (operators l) o) where
      -- an operator, and no part
      pub rest_failed : {e : ℕ} → Settles ts (read (tier (part l))) (m + 1) (failed e) → Settles ts (rest l x) m (failed e)
      unfolding step look then
      rest_failed y = settle₁ y λ f p. rw (a, p)

      -- an operator, a part, and what the rest behind them comes to
      pub rest_more : {j : ℕ} {y : Exp} {r : Result Exp} → Settles ts (read (tier (part l))) (m + 1) (got y j)
          → Settles ts (rest l (binary m o x y)) j r → Settles ts (rest l x) m r
      unfolding step look then
      rest_more y z = settle₂ y z λ f p q. rw (a, p, q)

  -- ---- Cmp

  -- no Sum
  pub cmp_failed : {i e : ℕ} → Settles ts (read (tier (chain sum))) i (failed e) → Settles ts (read (tier cmp)) i (failed e)
  unfolding step then
  cmp_failed x = settle₁ x λ f p. rw p

  module _ {i m : ℕ} {x : Exp} (first : Settles ts (read (tier (chain sum))) i (got x m)) where
    -- a Sum, and no comparison
    pub cmp_one : entry comparisons (kind_at ts m) ≡ none → Settles ts (read (tier cmp)) i (got x m)
    unfolding step then look
    cmp_one a = settle₁ first λ f p. rw (p, a)

    -- a Sum, a comparison, and another Sum or none
    pub cmp_two : {o : Binary} {r : Result Exp} → Means ts m comparisons o → Settles ts (read (tier (chain sum))) (m + 1) r
        → Settles ts (read (tier cmp)) i (made r (binary m o x))
    unfolding step then look
    cmp_two a y = settle₂ first y λ f p q. rw (p, a, q)
