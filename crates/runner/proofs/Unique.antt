-- The contract of `run` determines the answer, the output and work memory.
use mathlib.Core.Path.{◌≡◌, refl, sym, ap, ◌∙◌}
use mathlib.Core.List.{List, ◌++◌, reverse}
use Prim.Native.Nat.{ℕ}
use native.Mathlib.Omega.{arith}
use lib.ListN.{length, drop}
use Rattle.language.specs.State as M
use Rattle.language.specs.State.{number, float, flag, nothing, cell, value, stop}
use Rattle.layout.specs.Values.{meant}
use Rattle.layout.specs.declared.Held.{Held}
use Rattle.layout.specs.declared.values.Value.{Value}
use Rattle.layout.specs.declared.values.Value.TheVariants.{Int, Float, Flag, Nothing, Cell}
use Rattle.numbers.proofs.Apart.{same_stop}
use Rattle.std.specs.Prelude.{Result, Ok, Err}
use Rattle.numbers.specs.declared.Stop.{Stop}
use Rattle.numbers.specs.declared.Located.{Located}
use Rattle.runner.specs.Contract.{outcome_of, EndsAs, Loaded, RunsTo}
use Rattle.runner.specs.declared.Done.{Done}

-- ---- the code's values are told apart by what they stand for

abbrev pub value_of : M.Value → Value
value_of (number z) = Int z
value_of (float x) = Float x
value_of (flag b) = Flag b
value_of nothing = Nothing
value_of (cell n) = Cell n

pub value_back : (v : Value) → value_of (meant v) ≡ v
value_back (Int z) = refl
value_back (Float x) = refl
value_back (Flag b) = refl
value_back Nothing = refl
value_back (Cell n) = refl

-- values that stand for one are one
pub one_value : (v w : Value) → meant v ≡ meant w → v ≡ w
one_value v w e = sym (value_back v) ∙ ap value_of e ∙ value_back w

-- ---- one answer

module _ {m : M.Outcome} {o o1 o2 : List ℕ} {r q : Done} (a : EndsAs m o o1 r) (b : EndsAs m o o2 q) (same : a.state ≡ b.state) where
  one_spent : r.spent ≡ q.spent
  one_spent = λ i. record {
    left = (a.left ∙ ap (λ (σ : M.State). σ.units) same ∙ sym b.left) i;
    printed = (a.printed ∙ ap (λ (σ : M.State). length σ.printed) same ∙ sym b.printed) i;
  }

  one_output : o1 ≡ o2
  one_output =
      a.output ∙ ap (λ (σ : M.State). reverse σ.printed ++ drop (length (reverse σ.printed)) o) same ∙ sym b.output

same_value : {x y : M.Value} {σ τ : M.State} → value x σ ≡ value y τ → (x ≡ y) × (σ ≡ τ)
same_value e = (cc, cc)

same_end : {x y : M.Stop} {i j : ℕ} {σ τ : M.State} → stop x i σ ≡ stop y j τ → (x ≡ y) × (i ≡ j) × (σ ≡ τ)
same_end e = (cc, cc, cc)

same_place : {y z : Stop} {i j : ℕ} → y ≡ z → i ≡ j
    → ◌≡◌ {A = Located Stop ℕ} (record { why = y; place = i }) (record { why = z; place = j })
same_place d e = λ n. record { why = d n; place = e n }

one_result : {m : M.Outcome} (x y : Result Value (Located Stop ℕ)) {σ τ : M.State} → m ≡ outcome_of x σ → m ≡ outcome_of y τ → (x ≡ y) × (σ ≡ τ)
one_result (Ok v) (Ok w) e f = let z = same_value (sym e ∙ f) in (ap Ok (one_value v w z.0), z.1)
one_result (Ok v) (Err h) e f = let z : ◌≡◌ {A = ℕ} 0 1 = cc (e, f) in absurd (omega arith)
one_result (Err h) (Ok v) e f = let z : ◌≡◌ {A = ℕ} 0 1 = cc (e, f) in absurd (omega arith)
one_result (Err h) (Err k) e f =
    let x = same_end (sym e ∙ f) in
    (ap Err (same_place (same_stop h.why k.why x.0) x.1), x.2)

-- an outcome is told by one answer, and by one output
pub one_answer : {m : M.Outcome} {o o1 o2 : List ℕ} (r q : Done) → EndsAs m o o1 r → EndsAs m o o2 q → (r ≡ q) × (o1 ≡ o2)
one_answer r q a b =
    let z = one_result r.result q.result a.outcome b.outcome in
    (λ i. record { result = z.0 i; spent = one_spent a b z.1 i }, one_output a b z.1)

-- no two answers, outputs or work memories fulfil the contract of `run`
pub one_run : {table w o w1 o1 w2 o2 : List ℕ} {P : Held} {allowance : ℕ} {r q : Done} → Loaded table w P allowance
    → RunsTo table w o w1 o1 P allowance r → RunsTo table w o w2 o2 P allowance q → (r ≡ q) × (o1 ≡ o2) × (w1 ≡ w2)
one_run {r = r} {q = q} sh a b =
    let e = one_answer r q (a.answer sh.ts sh.program sh.type sh.holds sh.typed sh.resolved)
    (b.answer sh.ts sh.program sh.type sh.holds sh.typed sh.resolved) in
    (e.0, e.1, a.cleared ∙ sym b.cleared)
