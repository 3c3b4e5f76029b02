-- The bounds of a `for` will do exactly when there are two or three, and all are ints.
use mathlib.Core.Bool.{Bool, true, false}
use mathlib.Core.List.{List, [], ◌∷◌}
use mathlib.Core.Path.{◌≡◌, refl, sym, subst, ◌∙◌}
use Prim.Native.Nat.{ℕ, ◌≤◌}
use native.Mathlib.Omega.{arith}
use lib.ListN.{length}
use Rattle.language.specs.Trees.{Ty, int}
use Rattle.language.specs.Types.{Bounds, two, three}
use Rattle.rules.specs.Asked.{suits, Bounded}
use Rattle.rules.specs.declared.sight.Taker.TheVariants as Taker
use Rattle.rules.proofs.CallLaws.{Decided, clash, decided_more, decided_type}

-- the same of a statement that says the same
decided_as : {b : Bool} {A B : Type 0} → (A → B) → (B → A) → Decided b A → Decided b B
decided_as f g d = ((λ e. f (d.0 e)), λ e x. d.1 e (g x))

-- bounds are ints
bounds_two : {t u : Ty} → Bounds (t ∷ u ∷ []) → (t ∷ u ∷ []) ≡ (int ∷ int ∷ [])
bounds_two two = refl

bounds_three : {t u v : Ty} → Bounds (t ∷ u ∷ v ∷ []) → (t ∷ u ∷ v ∷ []) ≡ (int ∷ int ∷ int ∷ [])
bounds_three three = refl

last_decided : Decided true (◌≡◌ {A = List Ty} [] [])
last_decided = ((λ _. refl), λ d _. clash d)

suits_bounds : (w : List ℕ) (us : List Ty) → 2 ≤ length us → length us ≤ 3 → Decided (suits w Taker.For 0 us) (Bounds us)
unfolding suits
suits_bounds w [] l m = absurd (omega arith)
suits_bounds w (t ∷ []) l m = absurd (omega arith)
suits_bounds w (t ∷ u ∷ []) l m =
    decided_as (λ e. subst Bounds (sym e) two) bounds_two
    (decided_more _ _ t int (u ∷ []) (int ∷ []) (decided_type t int)
    (decided_more _ true u int [] [] (decided_type u int) last_decided))
suits_bounds w (t ∷ u ∷ v ∷ []) l m =
    decided_as (λ e. subst Bounds (sym e) three) bounds_three
    (decided_more _ _ t int (u ∷ v ∷ []) (int ∷ int ∷ []) (decided_type t int)
    (decided_more _ _ u int (v ∷ []) (int ∷ []) (decided_type u int)
    (decided_more _ true v int [] [] (decided_type v int) last_decided)))
suits_bounds w (t ∷ u ∷ v ∷ x ∷ us) l m = absurd (omega arith)

bounds_length : {us : List Ty} → Bounds us → (length us ≡ 2 → ⊥) → (length us ≡ 3 → ⊥) → ⊥
bounds_length two a b = a refl
bounds_length three a b = b refl

module _ {n : ℕ} {b : Bool} where
  -- a start and an end, and maybe a step
  pub bounded_few : 2 ≤ n → n ≤ 3 → Bounded n b b
  bounded_few l m w us e s = rw s (suits_bounds w us (omega arith) (omega arith))

  -- nothing else
  pub bounded_not : (n ≡ 2 → ⊥) → (n ≡ 3 → ⊥) → Bounded n b false
  bounded_not x y w us l s = ((λ e. clash (sym e)), λ e d. bounds_length d (λ h. x (l ∙ h)) (λ h. y (l ∙ h)))
