-- Each node has a token of its own, so a reading has no more nodes than tokens: within any sizes that have a node for each token
-- a reading is never too large.
use mathlib.Core.List.{List}
use Prim.Native.Nat.{◌≤◌}
use native.Mathlib.Omega.{arith}
use lib.ListN.{length}
use Rattle.language.specs.Sizes.{Sizes}
use Rattle.language.specs.Tokens.{Token}
use Rattle.language.specs.Trees.{Program, program_nodes}
use Rattle.language.specs.Grammar.{Reading}
use Rattle.language.proofs.Grammar.OwnTokens.{owns_length}
use Rattle.language.proofs.Grammar.OwnOnce.{few, own_rises}

module _ (ts : List Token) where
  -- a reading has no more nodes than tokens
  pub few_nodes : (p : Program) → Reading ts p → program_nodes p ≤ length ts
  few_nodes p r = omega (arith, few ts (own_rises ts p r), owns_length p)

  -- so under any sizes with a node for each token its nodes are not too many (row 21 is never told)
  pub never_too_large : (σ : Sizes) → σ.tokens ≤ σ.nodes → (p : Program) → Reading ts p → length ts ≤ σ.tokens → program_nodes p ≤ σ.nodes
  never_too_large σ room p r h = omega (arith, few_nodes p r)
