-- A value goes to the frame of a `;`, a `let`, an `if` or a `while`, or to the one below all nodes.
use mathlib.Core.Path.{◌≡◌, refl, sym, ap, subst, ◌∙◌}
use mathlib.Core.Bool.{Bool, true, false}
use mathlib.Core.List.{List, ◌∷◌}
use mathlib.Core.Option.{Option, none, some}
use Prim.Native.Nat.{ℕ, ◌+◌, ◌<◌}
use native.Mathlib.Omega.{arith}
use lib.Dec.{T}
use borrow.Author.Tests.{ne_eqb}
use Rattle.language.specs.Sizes.{NODES}
use Rattle.language.specs.State as M
use Rattle.language.specs.State.{nothing, value, then, as_bool, as_unit, has, when_some, want, choose}
use Rattle.language.specs.Meaning.{eval}
use Rattle.language.proofs.Meaning.Spending.{while, while_is}
use Rattle.layout.specs.Table.{FIRST, SECOND, THIRD, row_word, token_value}
use Rattle.layout.specs.Slots.{SLOTS, put_slot}
use Rattle.layout.specs.Frames.{put_phase}
use Rattle.layout.specs.Values.{meant, Survives}
use Rattle.layout.specs.declared.values.Value.{Value}
use Rattle.layout.specs.declared.values.Value.TheVariants.{Nothing}
use Rattle.machine.specs.Operands.{is_true}
use Rattle.machine.specs.Outcomes.{memory}
use Rattle.machine.specs.declared.state.Tally.{Tally}
use Rattle.runner.specs.Phases.{LAST, UNARY, LEFT, RIGHT, BEFORE, INSIDE, BOUND, CONDITION, TEST, PASS, ARGUMENT, COUNTED, NAMELESS, Controls}
use Rattle.runner.specs.Waiting.{Run, Then, binds_name, which, tested, WaitsBefore, WaitsBound, WaitsCondition, WaitsTest, WaitsPass, WaitsWhole, Waits}
use Rattle.runner.specs.Standing.{Begins, Gives, Resumes, Ends}
use Rattle.runner.specs.declared.state.Spot.{Spot}
use Rattle.runner.specs.Standing.{Ending}
use Rattle.runner.proofs.Stacks.{then_then}
use Rattle.runner.proofs.Entering.{fair_low, spot}
use Rattle.runner.proofs.Giving.{waits_at, back, sees, turns, holding, holding_value, holds}

-- ---- a value of a kind that is wanted, where the run is not stuck

module _ (q : Run) (κ : Then) where
  pub unit_whole : (x : Option (Unit {0})) (k : Unit {0} → M.Outcome) → then (want x k) κ ≡ q.whole → then (k tt) κ ≡ q.whole
  unfolding when_some then
  unit_whole none k e = absurd (q.safe (sym e))
  unit_whole (some u) k e = e

  true_whole : (x : Option Bool) (f g : Unit {0} → M.Outcome) → has x (λ b. b) ≡ true → then (want x λ b. choose b f g) κ ≡ q.whole
      → then (f tt) κ ≡ q.whole
  unfolding when_some choose then
  true_whole none f g h e = absurd (q.safe (sym e))
  true_whole (some true) f g h e = e
  true_whole (some false) f g h e = absurd (subst T (sym h) tt)

  false_whole : (x : Option Bool) (f g : Unit {0} → M.Outcome) → has x (λ b. b) ≡ false → then (want x λ b. choose b f g) κ ≡ q.whole
      → then (g tt) κ ≡ q.whole
  unfolding when_some choose then
  false_whole none f g h e = absurd (q.safe (sym e))
  false_whole (some true) f g h e = absurd (subst T h tt)
  false_whole (some false) f g h e = e

module _ {q : Run} {t w o : List ℕ} {v : Value} {row phase : ℕ} {p : Spot} {s : Tally} (r : Resumes q t w o v row phase p s) where
  abbrev σ : M.State
  σ = memory w o s

  -- ---- ;

  module _ (e : phase ≡ BEFORE) where
    before : WaitsBefore q t w r.d row p.base r.mark r.n r.b r.L r.env r.κ r.κ' r.u
    unfolding Waits which
    before = waits_at r BEFORE e

    pub before_inside : row < NODES
    before_inside = before.inside

    pub resume_before : Begins q t (put_phase w p.height LAST) o (row_word t row SECOND) (spot p.base p.size (p.height + 1)) s
    unfolding Waits which
    resume_before =
        turns r before.room LAST r.κ (record { deep = omega (arith, before.room); goes = λ x s. refl }) before.at
        (unit_whole q r.κ (as_unit (meant v)) (λ _. eval q.fs r.d before.f r.env σ) (sym (before.goes (meant v) σ) ∙ r.means))

  -- ---- let

  module _ (e : phase ≡ BOUND) where
    bound : WaitsBound q t w r.d row p.base r.mark r.n r.b r.L r.env r.κ r.κ' r.u
    unfolding Waits which
    bound = waits_at r BOUND e

    pub bound_inside : row < NODES
    bound_inside = bound.inside

    pub bound_slot : p.base + p.size < SLOTS
    bound_slot = omega (arith, r.sized, bound.room)

    pub resume_bound : Survives v
        → Begins q t (put_phase (put_slot w 0 (p.base + p.size) NAMELESS v) p.height LAST) o (row_word t row SECOND)
        (spot p.base (p.size + 1) (p.height + 1)) s
    unfolding Waits which
    resume_bound back1 =
        holds r bound.room LAST 0 r.κ {L1 = token_value t (bound.i + 1) ∷ r.L}
        (record { deep = omega (arith, bound.room); goes = λ x s. refl }) (omega arith) (omega arith) bound.at
        (binds_name bound.named.named (holding_value r bound.room LAST back1) (sees r (holding r bound.room LAST)))
        (sym (bound.goes (meant v) σ) ∙ r.means)

  -- ---- if

  module _ (e : phase ≡ CONDITION) where
    condition : WaitsCondition q t w r.d row p.base r.mark r.n r.b r.L r.env r.κ r.κ' r.u
    unfolding Waits which
    condition = waits_at r CONDITION e

    pub condition_inside : row < NODES
    condition_inside = condition.inside

    pub resume_then : is_true (meant v) ≡ true
        → Begins q t (put_phase w p.height LAST) o (row_word t row SECOND) (spot p.base p.size (p.height + 1)) s
    unfolding Waits which
    resume_then b =
        turns r condition.room LAST r.κ (record { deep = omega (arith, condition.room); goes = λ x s. refl }) condition.at_e
        (true_whole q r.κ (as_bool (meant v)) (λ _. eval q.fs r.d condition.e r.env σ) (λ _. eval q.fs r.d condition.f r.env σ) b
        (sym (condition.goes (meant v) σ) ∙ r.means))

    pub resume_else : is_true (meant v) ≡ false
        → Begins q t (put_phase w p.height LAST) o (row_word t row THIRD) (spot p.base p.size (p.height + 1)) s
    unfolding Waits which
    resume_else b =
        turns r condition.room LAST r.κ (record { deep = omega (arith, condition.room); goes = λ x s. refl }) condition.at_f
        (false_whole q r.κ (as_bool (meant v)) (λ _. eval q.fs r.d condition.e r.env σ) (λ _. eval q.fs r.d condition.f r.env σ) b
        (sym (condition.goes (meant v) σ) ∙ r.means))

  -- ---- while

  module _ (e : phase ≡ TEST) where
    test : WaitsTest q t w r.d row p.base r.mark r.n r.b r.L r.env r.κ r.κ' r.u
    unfolding Waits which
    test = waits_at r TEST e

    pub test_inside : row < NODES
    test_inside = test.inside

    abbrev again : Then
    again x s = want (as_unit x) λ _. while q.fs r.d test.c test.e r.env s

    test_means : then (tested q.fs r.d test.c test.e r.env (meant v) σ) r.κ ≡ q.whole
    test_means = sym (test.goes (meant v) σ) ∙ r.means

    -- the test is true: a pass
    pub resume_test : is_true (meant v) ≡ true
        → Begins q t (put_phase w p.height PASS) o (row_word t row SECOND) (spot p.base p.size (p.height + 1)) s
    unfolding Waits which
    resume_test b =
        turns r test.room PASS (λ x s. then (again x s) r.κ)
        (record { c = test.c; e = test.e; inside = test.inside; room = test.room; at_c = test.at_c; at_e = test.at_e; goes = λ x s. refl })
        test.at_e
        (sym (then_then (eval q.fs r.d test.e r.env σ) again r.κ)
        ∙ true_whole q r.κ (as_bool (meant v)) (λ _. then (eval q.fs r.d test.e r.env σ) again) (λ _. value nothing σ) b test_means)

    -- it is not: the end
    pub resume_end : is_true (meant v) ≡ false → Gives q t w o Nothing p s
    unfolding then
    resume_end b =
        back r (omega (arith, test.room)) Nothing
        (false_whole q r.κ (as_bool (meant v)) (λ _. then (eval q.fs r.d test.e r.env σ) again) (λ _. value nothing σ) b test_means)

  module _ (e : phase ≡ PASS) where
    pass : WaitsPass q t w r.d row p.base r.mark r.n r.b r.L r.env r.κ r.κ' r.u
    unfolding Waits which
    pass = waits_at r PASS e

    pub pass_inside : row < NODES
    pass_inside = pass.inside

    -- the next test
    pub resume_pass : Begins q t (put_phase w p.height TEST) o (row_word t row FIRST) (spot p.base p.size (p.height + 1)) s
    unfolding Waits which
    resume_pass =
        let k : Then = tested q.fs r.d pass.c pass.e r.env in
        turns r pass.room TEST (λ x s. then (k x s) r.κ)
        (record { c = pass.c; e = pass.e; inside = pass.inside; room = pass.room; at_c = pass.at_c; at_e = pass.at_e; goes = λ x s. refl })
        pass.at_c
        (sym (then_then (eval q.fs r.d pass.c r.env σ) k r.κ)
        ∙ ap (λ (m : M.Outcome). then m r.κ) (sym (while_is q.fs r.d pass.c pass.e r.env σ))
        ∙ unit_whole q r.κ (as_unit (meant v)) (λ _. while q.fs r.d pass.c pass.e r.env σ) (sym (pass.goes (meant v) σ) ∙ r.means))

  -- ---- the whole

  module _ (c : Controls phase) (x : phase ≡ BOUND → ⊥) (y : phase ≡ CONDITION → ⊥) (z : phase ≡ TEST → ⊥) (u : phase ≡ PASS → ⊥) where
    whole : WaitsWhole q t w r.d row p.base r.mark r.n r.b r.L r.env r.κ r.κ' r.u
    unfolding Waits which
    whole =
        rw (
          ne_eqb phase LAST c.last,
          ne_eqb phase RIGHT c.right,
          ne_eqb phase LEFT c.left,
          ne_eqb phase UNARY c.unary,
          ne_eqb phase BEFORE c.before,
          ne_eqb phase INSIDE c.inside,
          ne_eqb phase BOUND x,
          ne_eqb phase CONDITION y,
          ne_eqb phase TEST z,
          ne_eqb phase PASS u,
          ne_eqb phase ARGUMENT c.argument,
          ne_eqb phase COUNTED c.counted,
        ) at r.waits

    pub resume_whole : Ends q t w o Ending.complete v s
    resume_whole = record { fair = fair_low 0 (omega arith) r.fair; tells = sym (whole.goes (meant v) σ) ∙ r.means }
