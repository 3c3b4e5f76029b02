-- A turn of the loop: a node that is to begin does, and a value that is to be given is.
use mathlib.Core.Path.{◌≡◌, refl, sym, ap, subst, ◌∙◌}
use mathlib.Core.Bool.{true}
use mathlib.Core.List.{List}
use Prim.Native.Nat.{ℕ, ◌+◌, ◌*◌, ◌≤◌, ◌<◌}
use native.Mathlib.Omega.{arith}
use Rattle.numbers.specs.declared.Stop.{Stop}
use Rattle.runner.specs.Waiting.{Run}
use Rattle.runner.specs.Standing.{Begins, Gives, GoodBy, Good, weight_by, weight, running_by, Some, Goes, Any, Prints, Turns, Steps}
use Rattle.runner.specs.declared.state.Mode.{Mode}
use Rattle.runner.specs.declared.state.Next.{Next}

-- ---- modes are apart

give_begin : Mode.Give ≡ Mode.Begin → ⊥
give_begin e = let z : ◌≡◌ {A = ℕ} 0 1 = cc in omega arith

over_begin : Mode.Over ≡ Mode.Begin → ⊥
over_begin e = let z : ◌≡◌ {A = ℕ} 0 1 = cc in omega arith

halt_begin : {y : Stop} {i : ℕ} → Mode.Halt y i ≡ Mode.Begin → ⊥
halt_begin e = let z : ◌≡◌ {A = ℕ} 0 1 = cc in omega arith

begin_give : Mode.Begin ≡ Mode.Give → ⊥
begin_give e = let z : ◌≡◌ {A = ℕ} 0 1 = cc in omega arith

over_give : Mode.Over ≡ Mode.Give → ⊥
over_give e = let z : ◌≡◌ {A = ℕ} 0 1 = cc in omega arith

halt_give : {y : Stop} {i : ℕ} → Mode.Halt y i ≡ Mode.Give → ⊥
halt_give e = let z : ◌≡◌ {A = ℕ} 0 1 = cc in omega arith

-- ---- what a mode says

good_as : (q : Run) (t w o : List ℕ) (n : Next) (m : Mode) → n.mode ≡ m → Good q t w o n → GoodBy q t w o m n
good_as q t w o n m e g = subst (λ (x : Mode). GoodBy q t w o x n) e g

weight_as : (n : Next) (m : Mode) → n.mode ≡ m → weight n ≡ weight_by m n
weight_as n m e = ap (λ (x : Mode). weight_by x n) e

module _ (t w o : List ℕ) (n : Next) where
  pub begins_of : n.mode ≡ Mode.Begin → Any (λ q. Good q t w o n)
      → Some (λ q o. Begins q t w o n.node n.spot n.tally)
  begins_of e x = record { q = x.q; o = o; holds = good_as x.q t w o n Mode.Begin e x.holds }

  pub gives_of : n.mode ≡ Mode.Give → Any (λ q. Good q t w o n) → Any (λ q. Gives q t w o n.value n.spot n.tally)
  gives_of e x = record { q = x.q; holds = good_as x.q t w o n Mode.Give e x.holds }

  -- ---- the two parts of a turn

  pub turns_begun : n.mode ≡ Mode.Begin → {w1 : List ℕ} {r : Next}
      → Goes (λ q o. Begins q t w o n.node n.spot n.tally) t w1 (3 * n.tally.units + n.spot.height + 1) r
      → Turns t w o w1 o n r Mode.Begin
  turns_begun e g = record {
    right = λ q x. g.right q o (good_as q t w o n Mode.Begin e x);
    nearer = λ _. omega (arith, g.less, weight_as n Mode.Begin e);
    still = λ h. absurd (h e);
  }

  pub turns_given : n.mode ≡ Mode.Give → {w1 o1 : List ℕ} {r : Next}
      → Prints (λ q. Gives q t w o n.value n.spot n.tally) t w1 o1 (3 * n.tally.units + n.spot.height + 2) r
      → Turns t w o w1 o1 n r Mode.Give
  turns_given e g = record {
    right = λ q x. g.right q (good_as q t w o n Mode.Give e x);
    nearer = λ _. omega (arith, g.less, weight_as n Mode.Give e);
    still = λ h. absurd (h e);
  }

  turns_still : (m k : Mode) → n.mode ≡ m → (m ≡ k → ⊥) → Turns t w o w o n n k
  turns_still m k e h = record { right = λ q x. x; nearer = λ f. absurd (h (sym e ∙ f)); still = λ _. refl }

  pub begun_give : n.mode ≡ Mode.Give → Turns t w o w o n n Mode.Begin
  begun_give e = turns_still Mode.Give Mode.Begin e give_begin

  pub begun_over : n.mode ≡ Mode.Over → Turns t w o w o n n Mode.Begin
  begun_over e = turns_still Mode.Over Mode.Begin e over_begin

  pub begun_halt : {y : Stop} {i : ℕ} → n.mode ≡ Mode.Halt y i → Turns t w o w o n n Mode.Begin
  begun_halt {y} {i} e = turns_still (Mode.Halt y i) Mode.Begin e halt_begin

  pub given_begin : n.mode ≡ Mode.Begin → Turns t w o w o n n Mode.Give
  given_begin e = turns_still Mode.Begin Mode.Give e begin_give

  pub given_over : n.mode ≡ Mode.Over → Turns t w o w o n n Mode.Give
  given_over e = turns_still Mode.Over Mode.Give e over_give

  pub given_halt : {y : Stop} {i : ℕ} → n.mode ≡ Mode.Halt y i → Turns t w o w o n n Mode.Give
  given_halt {y} {i} e = turns_still (Mode.Halt y i) Mode.Give e halt_give

-- ---- a turn

-- a part leaves the weight or lowers it
near : {t w o w1 o1 : List ℕ} {n r : Next} (m k : Mode) → n.mode ≡ m → Dec (m ≡ k) → Turns t w o w1 o1 n r k → weight r ≤ weight n
near m k e (yes f) x = omega (arith, x.nearer (e ∙ f))
near m k e (no f) x = omega (arith, ap weight (x.still (λ g. f (sym e ∙ g))))

module _ {t w o w1 o1 w2 o2 : List ℕ} {n m r : Next} (a : Turns t w o w1 o1 n m Mode.Begin) (b : Turns t w1 o1 w2 o2 m r Mode.Give) where
  near_given : (k : Mode) → m.mode ≡ k → weight r ≤ weight m
  near_given Mode.Begin e = near Mode.Begin Mode.Give e (no begin_give) b
  near_given Mode.Give e = near Mode.Give Mode.Give e (yes refl) b
  near_given Mode.Over e = near Mode.Over Mode.Give e (no over_give) b
  near_given (Mode.Halt y i) e = near (Mode.Halt y i) Mode.Give e (no halt_give) b

  lower : (k : Mode) → n.mode ≡ k → running_by k ≡ true → weight r < weight n
  lower Mode.Begin e f = omega (arith, a.nearer e, near_given m.mode refl)
  lower Mode.Give e f =
      let same : m ≡ n = a.still (λ g. give_begin (sym e ∙ g)) in
      omega (arith, b.nearer (ap (λ (x : Next). x.mode) same ∙ e), ap weight same)
  lower Mode.Over e f = absurd (let z : ◌≡◌ {A = ℕ} 0 1 = cc in omega arith)
  lower (Mode.Halt y i) e f = absurd (let z : ◌≡◌ {A = ℕ} 0 1 = cc in omega arith)

  pub turn_steps : Steps t w o w2 o2 n r
  turn_steps = record { right = λ q x. b.right q (a.right q x); less = λ e. lower n.mode refl e }

-- what the second part is asked
pub turn_any : {t w o w1 o1 : List ℕ} {n m : Next} → Turns t w o w1 o1 n m Mode.Begin → Any (λ q. Good q t w o n)
    → Any (λ q. Good q t w1 o1 m)
turn_any a x = record { q = x.q; holds = a.right x.q x.holds }
