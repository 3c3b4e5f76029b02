-- A program that is run: what the runner says of it, as the end that is told of it.
use mathlib.Core.Option.{some}
use mathlib.Core.List.{List, reverse}
use mathlib.Core.Path.{◌≡◌, refl, sym, ap, subst, ◌∙◌}
use Prim.Native.Nat.{ℕ, ◌-◌, ◌≤◌}
use Rattle.std.proofs.Common.{Result, Ok, Err}
use native.Mathlib.Omega.{arith}
use lib.ListN.{length, length-reverse}
use Rattle.language.specs.State as M
use Rattle.language.specs.State.{value, stop, stuck}
use Rattle.language.specs.Answers.{ending}
use Rattle.language.proofs.Meaning.Spending.{Spent, spent_value, spent_stop, spent_stuck, births_few}
use Rattle.layout.specs.declared.Held.{Held}
use Rattle.layout.specs.declared.values.Value.{Value}
use Rattle.numbers.specs.declared.Stop.{Stop}
use Rattle.numbers.specs.declared.Located.{Located}
use Rattle.runner.specs.Contract as Runner
use Rattle.runner.specs.declared.Done.{Done}
use Rattle.grumpy.specs.Outcomes.{end_meant, Executed}

-- ---- no more units are left than were allowed

abbrev units_of : M.Outcome → ℕ
units_of (value v σ) = σ.units
units_of (stop w i σ) = σ.units
units_of stuck = 0

few : {u w : ℕ} {o : M.Outcome} → Spent u w o → units_of o ≤ u
few (spent_value h) = h.few
few (spent_stop h) = h.few
few spent_stuck = omega arith

units_told : (r : Result Value (Located Stop ℕ)) (σ : M.State) → units_of (Runner.outcome_of r σ) ≡ σ.units
units_told (Ok v) σ = refl
units_told (Err s) σ = refl

module _ {table work out work' out' : List ℕ} {P : Held} {allowance : ℕ} {r : Done}
    (x : Runner.RunsTo table work out work' out' P allowance r) where
  pub left_few : Runner.Loaded table work P allowance → r.spent.left ≤ allowance
  left_few s =
      let a = x.answer s.ts s.program s.type s.holds s.typed s.resolved in
      let e = a.left ∙ sym (units_told r.result a.state) ∙ ap units_of (sym a.outcome) in
      let f = few (births_few s.program allowance (length out)) in
      omega arith

-- ---- the end that is told

-- what is told of an outcome whose units are those left
end_told : (allowance : ℕ) (r : Result Value (Located Stop ℕ)) (σ : M.State) {n : ℕ} → n ≡ σ.units
    → ending allowance (Runner.outcome_of r σ) ≡ some (end_meant r (allowance - n) (reverse σ.printed))
unfolding ending
end_told allowance (Ok v) σ e = rw e refl
end_told allowance (Err s) σ e = rw e refl

pub executed : {table work out work' out' : List ℕ} {P : Held} {allowance : ℕ} {r : Done}
    → Runner.RunsTo table work out work' out' P allowance r
    → Executed table work out work' out' P allowance record { end = r.result; units = allowance - r.spent.left; printed = r.spent.printed }
executed {allowance = allowance} {r = r} x = record {
  told = λ ts p t h y n.
      let a = x.answer ts p t h y n in
      record {
        printed = reverse a.state.printed;
        ends = ap (ending allowance) a.outcome ∙ end_told allowance r.result a.state a.left;
        counted = a.printed ∙ sym (length-reverse a.state.printed);
        output = a.output;
      };
  cleared = x.cleared;
}

-- where the run's end is told apart
pub executed_so : {table work out work' out' : List ℕ} {P : Held} {allowance : ℕ} {r : Done} {e : Result Value (Located Stop ℕ)}
    → Runner.RunsTo table work out work' out' P allowance r → r.result ≡ e
    → Executed table work out work' out' P allowance record { end = e; units = allowance - r.spent.left; printed = r.spent.printed }
executed_so {table} {work} {out} {work'} {out'} {P} {allowance} {r} x q =
    let So = λ (e : Result Value (Located Stop ℕ)).
    Executed table work out work' out' P allowance record { end = e; units = allowance - r.spent.left; printed = r.spent.printed } in
    subst So q (executed x)
