-- Types with the sizes apart (S050): a program has a type if it has one under some sizes. It has one at most; and under sizes
-- that it does not exceed it has that one.
use mathlib.Core.Bool.{false}
use mathlib.Core.Logic.{◌⊎◌, inl, inr}
use mathlib.Core.Path.{◌≡◌, refl, subst}
use Prim.Native.Nat.{ℕ}
use Rattle.language.specs.Sizes.{Sizes}
use Rattle.language.specs.Trees.{Ty, Program}
use Rattle.language.specs.Types.{HasTypeUnder}
use Rattle.language.specs.Faults.{Reason, no_binding, no_function, wrong_number, wrong_argument, wrong_operand, wrong_operands}
use Rattle.language.specs.Faults.{not_unit, not_bool, not_int, branches_differ, wrong_body, too_many_refs, too_many_functions}
use Rattle.language.specs.Faults.{too_many_parameters, function_twice, parameter_twice, HasFaultUnder}
use Rattle.language.specs.Numbers.{reason_number}
use Rattle.language.proofs.Types.OneType.{program_one_type, never_both, type_or_fault}
use Rattle.language.proofs.Sizes.Larger.{joint_left, joint_right, reason_of_size}
use Rattle.language.proofs.Sizes.TypesLarger.{type_larger}
use Rattle.language.proofs.Sizes.FaultsLarger.{has_fault_larger}

-- it has the type under some sizes
pub record TypeApart (p : Program) (t : Ty) : Type 0 where
  pub sizes : Sizes
  pub typed : HasTypeUnder sizes p t

-- it exceeds no size of σ: neither 30 nor 34 is told of it
abbrev pub Fitting : Sizes → Program → Type 0
Fitting σ p = (r : Reason) (n : ℕ) → HasFaultUnder σ p r n → (reason_number r ≡ 30 → ⊥) × (reason_number r ≡ 34 → ⊥)

-- these two are the numbers of size
pub not_of_size : (r : Reason) → (reason_number r ≡ 30 → ⊥) × (reason_number r ≡ 34 → ⊥) → reason_of_size r ≡ false
not_of_size too_many_functions h = absurd (h.0 refl)
not_of_size too_many_parameters h = absurd (h.0 refl)
not_of_size too_many_refs h = absurd (h.1 refl)
not_of_size function_twice h = refl
not_of_size parameter_twice h = refl
not_of_size no_binding h = refl
not_of_size no_function h = refl
not_of_size wrong_number h = refl
not_of_size wrong_argument h = refl
not_of_size wrong_operand h = refl
not_of_size wrong_operands h = refl
not_of_size not_unit h = refl
not_of_size not_bool h = refl
not_of_size not_int h = refl
not_of_size branches_differ h = refl
not_of_size wrong_body h = refl

module _ (p : Program) where
  -- no two types, be the sizes what they may
  pub one_type_apart : {σ τ : Sizes} {t u : Ty} → HasTypeUnder σ p t → HasTypeUnder τ p u → t ≡ u
  one_type_apart {σ} {τ} {t} {u} a b =
      program_one_type p t u (type_larger (joint_left σ τ) p t a) (type_larger (joint_right σ τ) p u b)

  pub one_type : {t u : Ty} → TypeApart p t → TypeApart p u → t ≡ u
  one_type a b = one_type_apart a.typed b.typed

  -- where there is a type under some sizes, a fault under others is one of size
  pub only_of_size : {σ τ : Sizes} {t : Ty} {r : Reason} {n : ℕ} → HasTypeUnder σ p t → HasFaultUnder τ p r n → reason_of_size r ≡ false → ⊥
  only_of_size {σ} {τ} {t} {r} {n} a f k =
      never_both p t r n (type_larger (joint_left σ τ) p t a) (has_fault_larger (joint_right σ τ) p r n f k)

  -- so within the sizes the type is had
  pub type_within : {σ : Sizes} {t : Ty} → Fitting σ p → TypeApart p t → HasTypeUnder σ p t
  type_within {σ} {t} fits a = go (type_or_fault p)
    where
      go : ((u : Ty) × HasTypeUnder σ p u) ⊎ ((r : Reason) × (n : ℕ) × HasFaultUnder σ p r n) → HasTypeUnder σ p t
      go (inl (u, h)) = subst (HasTypeUnder σ p) (one_type_apart h a.typed) h
      go (inr (r, n, f)) = absurd (only_of_size a.typed f (not_of_size r (fits r n f)))
