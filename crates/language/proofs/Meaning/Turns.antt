-- A `for` is the unrolling of its passes: if one is due, the body with its name bound, and the `for` again from the next number on.
use mathlib.Core.Path.{◌≡◌, refl, sym, ◌∙◌}
use mathlib.Core.Bool.{Bool, false}
use Prim.Native.Nat.{ℕ, zero, suc, ◌≤◌}
use native.Mathlib.Omega.{arith}
use lib.IntN.{ℤ, ◌+ℤ◌}
use Rattle.language.specs.Trees.{Name, Exp, Scope, push}
use Rattle.language.specs.State.{number, nothing, State, Outcome, value, then, as_unit, choose, want}
use Rattle.language.specs.Meaning.{Env, in_range, Fun, due, turns, eval}
use Rattle.language.proofs.Meaning.Spending.{spends, at_end, then_same, want_same, choose_same, then_stop}

module _ (fs : Scope Fun) (d : ℕ) (x : Name) (through : Bool) (to by : ℤ) (e : Exp) (env : Env) where
  -- any number of passes that the units allow comes to the same
  pub enough : (n m : ℕ) (z : ℤ) (s : State) → s.units ≤ n → s.units ≤ m
      → turns fs (eval fs d) n x through to by z e env s ≡ turns fs (eval fs d) m x through to by z e env s
  unfolding turns
  enough zero zero z s h k = refl
  enough zero (suc m) z s h k = sym (choose_same _ _ _ _ (then_stop _ _ _ _ _ (at_end fs d e _ s (omega arith))))
  enough (suc n) zero z s h k = choose_same _ _ _ _ (then_stop _ _ _ _ _ (at_end fs d e _ s (omega arith)))
  enough (suc n) (suc m) z s h k =
      choose_same _ _ _ _
      (then_same _ _ (spends fs d e _ s) λ v s₁ w₁.
      want_same _ _ _ λ _. choose_same _ _ _ _ (enough n m (z +ℤ by) s₁ (omega (arith, w₁.few)) (omega (arith, w₁.few))))

  abbrev pub for_from : ℤ → State → Outcome
  for_from z s = turns fs (eval fs d) s.units x through to by z e env s

  pub for_is : (z : ℤ) (s : State) → for_from z s ≡ choose (due through to by z)
      (λ _. then (eval fs d e (push x (number z) env) s) λ v s.
      want (as_unit v) λ _. choose (in_range (z +ℤ by)) (λ _. for_from (z +ℤ by) s) λ _. value nothing s) λ _. value nothing s
  unfolding turns
  for_is z s =
      enough s.units (suc s.units) z s (omega arith) (omega arith) ∙
      choose_same _ _ _ _
      (then_same _ _ (spends fs d e _ s) λ v s₁ w₁.
      want_same _ _ _ λ _. choose_same _ _ _ _ (enough s.units s₁.units (z +ℤ by) s₁ (omega (arith, w₁.few)) (omega arith)))

  -- where none is due it is over
  pub for_over : (z : ℤ) (s : State) → due through to by z ≡ false → for_from z s ≡ value nothing s
  unfolding choose
  for_over z s h = for_is z s ∙ rw h refl
