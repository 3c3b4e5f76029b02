-- Of repeated operators of one level the first binds first, and of `;` the last (S039). As no token list has two readings,
-- this is how they are read.
use mathlib.Core.List.{List}
use Prim.Native.Nat.{ℕ, ◌+◌}
use Rattle.language.specs.Tokens.{Token, At, Means, SEMI}
use Rattle.language.specs.Trees.{Binary, Exp, binary, follow}
use Rattle.language.specs.Grammar.{Level, chain, tier, seq, item, part, operators, Reads, seq_more, chain_one, chain_more}

module _ (ts : List Token) where
  -- all that was read of a level stands on the left of its next operator
  pub on_the_left : {l : Level} {i m j : ℕ} {o : Binary} {a b : Exp} → Reads ts (tier (chain l)) i m a → Means ts m (operators l) o
      → Reads ts (tier (part l)) (m + 1) j b → Reads ts (tier (chain l)) i j (binary m o a b)
  on_the_left x g y = chain_more x g y

  module _ {i m n j : ℕ} {a b c : Exp} where
    -- a o b p c is (a o b) p c
    pub to_the_left : {l : Level} {o p : Binary} → Reads ts (tier (part l)) i m a → Means ts m (operators l) o
        → Reads ts (tier (part l)) (m + 1) n b → Means ts n (operators l) p → Reads ts (tier (part l)) (n + 1) j c
        → Reads ts (tier (chain l)) i j (binary n p (binary m o a b) c)
    to_the_left x g y h z = on_the_left (on_the_left (chain_one x) g y) h z

    -- a;b;c is a;(b;c)
    pub to_the_right : Reads ts item i m a → At ts m SEMI → Reads ts item (m + 1) n b → At ts n SEMI → Reads ts seq (n + 1) j c
        → Reads ts seq i j (follow m a (follow n b c))
    to_the_right x g y h z = seq_more x g (seq_more y h z)
