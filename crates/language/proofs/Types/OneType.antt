-- No reading has two types, and a program has a type or exactly one fault, never both.
use mathlib.Core.Path.{◌≡◌, subst}
use mathlib.Core.Logic.{◌⊎◌, inl, inr}
use Prim.Native.Nat.{ℕ}
use Rattle.language.specs.Sizes.{Sizes}
use Rattle.language.specs.Trees.{Ty, Exp, Scope, Program}
use Rattle.language.specs.Types.{Sig, TypedUnder, HasTypeUnder}
use Rattle.language.specs.Faults.{Reason, HasFaultUnder}
use Rattle.language.proofs.Executable.Checks.{Res, ok, bad, Says, says, faults}
use Rattle.language.proofs.Executable.CheckerSound.{check_says}
use Rattle.language.proofs.Executable.CheckerComplete.{infer_complete, check_complete, check_fault}

abbrev IsOk : Res Ty → Type 0
IsOk (ok t) = Unit {0}
IsOk (bad r n) = ⊥

clash : {t : Ty} {r : Reason} {n : ℕ} → ◌≡◌ {A = Res Ty} (ok t) (bad r n) → ⊥
clash e = subst IsOk e tt

pub one_type : {σ : Sizes} (Δ : Scope Sig) (Γ : Scope Ty) (e : Exp) (t u : Ty) → TypedUnder σ Δ Γ e t → TypedUnder σ Δ Γ e u → t ≡ u
one_type Δ Γ e t u p q = let x = infer_complete Δ p in let y = infer_complete Δ q in cc

pub program_one_type : {σ : Sizes} (p : Program) (t u : Ty) → HasTypeUnder σ p t → HasTypeUnder σ p u → t ≡ u
program_one_type p t u a b = let x = check_complete p t a in let y = check_complete p u b in cc

pub one_fault : {σ : Sizes} (p : Program) (r s : Reason) (m n : ℕ) → HasFaultUnder σ p r m → HasFaultUnder σ p s n → (r ≡ s) × (m ≡ n)
one_fault p r s m n a b = let x = check_fault p r m a in let y = check_fault p s n b in (cc, cc)

pub never_both : {σ : Sizes} (p : Program) (t : Ty) (r : Reason) (n : ℕ) → HasTypeUnder σ p t → HasFaultUnder σ p r n → ⊥
never_both p t r n a b = let x = check_complete p t a in let y = check_fault p r n b in clash {t = t} {r = r} {n = n} (cc)

told_of : {σ : Sizes} {p : Program} {x : Res Ty} → Says (HasTypeUnder σ p) (HasFaultUnder σ p) x
    → ((t : Ty) × HasTypeUnder σ p t) ⊎ ((r : Reason) × (n : ℕ) × HasFaultUnder σ p r n)
told_of (says {a} h) = inl (a, h)
told_of (faults {r} {n} h) = inr (r, n, h)

pub type_or_fault : {σ : Sizes} (p : Program) → ((t : Ty) × HasTypeUnder σ p t) ⊎ ((r : Reason) × (n : ℕ) × HasFaultUnder σ p r n)
type_or_fault p = told_of (check_says p)
