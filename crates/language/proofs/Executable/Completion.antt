-- What the parser has passed when it fails can be completed: with some tokens in the failing one's stead the goal is met.
use mathlib.Core.Bool.{true}
use mathlib.Core.List.{List}
use mathlib.Core.Path.{◌≡◌}
use Prim.Native.Nat.{ℕ, zero, suc, ◌≤◌}
use lib.ListN.{length}
use Rattle.language.specs.Tokens.{Token}
use Rattle.language.specs.Grammar.{cmp, un, chain, tier, program, def, formals, params, type, seq}
use Rattle.language.specs.Grammar.{tail, bound, item, assign, atom, actuals, args, counting, bounds}
use Rattle.language.proofs.Executable.Parser.{Goal, read, rest, refs, clause, until, closed, result, entire, step, parse}
use Rattle.language.proofs.Executable.Failing.{Fails, fails, Stop, Able, ready, anew}
use Rattle.language.proofs.Executable.FailingPrograms.{at_program, at_def, at_formals, at_params, at_type, at_refs, at_result, at_entire}
use Rattle.language.proofs.Executable.FailingExpressions.{at_seq, at_tail, at_bound, at_item, at_clause}
use Rattle.language.proofs.Executable.FailingExpressions.{at_assign, at_chain, at_cmp, at_un, at_rest, at_until}
use Rattle.language.proofs.Executable.FailingLoops.{at_counting, at_bounds}
use Rattle.language.proofs.Executable.FailingAtoms.{at_atom, at_actuals, at_args, at_closed}

module _ (ts : List Token) where
  step_able : (h : ℕ) → Able ts h → (g : Goal) (i : ℕ) → i ≤ length ts → ready ts g i ≡ true → Fails (Stop ts g i) (step ts (parse ts h) g i)
  step_able h ih (read program) i l r = at_program ts h ih i l
  step_able h ih (read def) i l r = at_def ts h ih i l
  step_able h ih (read formals) i l r = at_formals ts h ih i l
  step_able h ih (read params) i l r = at_params ts h ih i l
  step_able h ih (read type) i l r = at_type ts h ih i l
  step_able h ih (refs t) i l r = at_refs ts h ih t i l
  step_able h ih result i l r = at_result ts h ih i l
  step_able h ih entire i l r = at_entire ts h ih i l
  step_able h ih (read seq) i l r = at_seq ts h ih i l
  step_able h ih (read tail) i l r = at_tail ts h ih i l
  step_able h ih (read bound) i l r = at_bound ts h ih i l
  step_able h ih (read item) i l r = at_item ts h ih i l
  step_able h ih (read counting) i l r = at_counting ts h ih i l
  step_able h ih (read bounds) i l r = at_bounds ts h ih i l r
  step_able h ih (read assign) i l r = at_assign ts h ih i l
  step_able h ih (read (tier (chain v))) i l r = at_chain ts h ih v i l
  step_able h ih (read (tier cmp)) i l r = at_cmp ts h ih i l
  step_able h ih (read (tier un)) i l r = at_un ts h ih i l
  step_able h ih (rest v e) i l r = at_rest ts h ih v e i l
  step_able h ih clause i l r = at_clause ts h ih i l
  step_able h ih (until c) i l r = at_until ts h ih c i l r
  step_able h ih (read atom) i l r = at_atom ts h ih i l
  step_able h ih (read actuals) i l r = at_actuals ts h ih i l
  step_able h ih (read args) i l r = at_args ts h ih i l
  step_able h ih closed i l r = at_closed ts h ih i l

  -- with any fuel, where the parser fails the tokens before begin what the goal asks for
  pub able : (f : ℕ) (g : Goal) (i : ℕ) → i ≤ length ts → ready ts g i ≡ true → Fails (Stop ts g i) (parse ts f g i)
  unfolding parse
  able zero g i l r = fails (anew ts g i r l)
  able (suc f) g i l r = step_able f (λ g i l r. able f g i l r) g i l r
