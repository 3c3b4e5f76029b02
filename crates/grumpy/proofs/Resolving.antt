-- A sheet that passes is resolved before it is run: what the resolver asks, and what the runner has then.
use mathlib.Core.List.{List}
use mathlib.Core.Path.{◌≡◌}
use Prim.Native.Nat.{ℕ, ◌+◌, ◌≤◌, ◌<◌}
use native.Mathlib.Decide.{dec_lt}
use native.Mathlib.Omega.{arith}
use lib.ListN.{length}
use Rattle.language.specs.Sizes.{TOKENS, TABLE}
use Rattle.layout.specs.Table.{zeros}
use Rattle.layout.specs.declared.Held.{Held}
use Rattle.layout.proofs.Clearing.{zeros_same}
use Rattle.resolver.specs.Resolves.{Resolvable, Resolves}
use Rattle.runner.specs.Contract.{Loaded}
use Rattle.grumpy.specs.Outcomes.{Ready}

pub ready_resolvable : {w work : List ℕ} {P : Held} {allowance : ℕ} → Ready w work P allowance → Resolvable w P
ready_resolvable x = record { ts = x.tokens; program = x.program; holds = x.holds; reading = x.proper.reads }

module _ {w w' : List ℕ} {P : Held} (n : Resolves w w' P) where
  pub ready_loaded : {work : List ℕ} {allowance : ℕ} → Ready w work P allowance → Loaded w' work P allowance
  ready_loaded x = record {
    ts = x.tokens;
    program = x.program;
    type = x.type;
    holds = n.holds x.tokens x.program x.holds;
    typed = x.proper.typed;
    resolved = n.resolved x.tokens x.program x.holds x.proper.reads;
    long = x.long;
    allowed = x.allowed;
  }

  -- places can be looked up in the table then
  pub ready_long : {work : List ℕ} {allowance : ℕ} → Ready w work P allowance → (TABLE ≤ length w') × (P.count ≤ TOKENS)
  ready_long x = let l = ready_loaded x in (l.holds.long, l.holds.stand.few)

  -- words that are not required are as they were
  pub resolved_rest : zeros w' 0 TABLE ≡ zeros w 0 TABLE
  resolved_rest = zeros_same TABLE 0 w' w n.long (λ k l. n.beyond k (outside k l (dec_lt k TABLE)))
    where
      outside : (k : ℕ) → (0 ≤ k → k < 0 + TABLE → ⊥) → Dec (k < TABLE) → TABLE ≤ k
      outside k l (yes m) = absurd (l (omega arith) (omega arith))
      outside k l (no m) = omega (arith, m)
