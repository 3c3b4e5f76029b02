-- An answer by its case, and back: a type's number, or a fault.
use mathlib.Core.Path.{◌≡◌, refl, sym, ap, subst, ◌∙◌}
use Prim.Native.Nat.{ℕ}
use Rattle.std.specs.Prelude as P
use Rattle.std.specs.Prelude.{Ok, Err}
use Rattle.std.specs.Result.{IsErrAnd}
use Rattle.std.proofs.lemmas.Result.{err_from_is_err_and}
use Rattle.language.specs.Trees.{Ty}
use Rattle.language.specs.Meaning.{type_number}
use Rattle.language.proofs.Executable.Checks.{Res, ok, bad, need, need_yes, need_no}
use Rattle.language.specs.Faults as Faults
use Rattle.numbers.specs.Meanings.{reason_meant}
use Rattle.numbers.specs.declared.Reason.{Reason}
use Rattle.rules.specs.Asked.{Typing, Tells, tells_type, tells_fault}
use Rattle.rules.specs.Asked.{Fault}

-- a type is answered
pub type_is : {n : ℕ} {x : Res Ty} (t : Ty) → x ≡ ok t → n ≡ type_number t → Tells (Ok n) x
type_is {n} t e p = subst (λ (x : Res Ty). Tells (Ok n) x) (sym e) (tells_type p)

-- a fault is answered
pub fault_is : {e : Fault} {x : Res Ty} → x ≡ bad (reason_meant e.why) e.place → Tells (Err e) x
fault_is {e} d = subst (λ (x : Res Ty). Tells (Err e) x) (sym d) (tells_fault refl)

-- what an answered type tells
pub type_told : {n : ℕ} {x : Res Ty} → Tells (Ok n) x → (t : Ty) × (x ≡ ok t) × (n ≡ type_number t)
type_told (tells_type {t = t} p) = (t, refl, p)

-- what an answered fault tells
pub fault_told : {e : Fault} {x : Res Ty} → Tells (Err e) x → x ≡ bad (reason_meant e.why) e.place
fault_told (tells_fault {e = e} p) = ap (λ q. bad q e.place) (sym p)

-- the same answer
pub tells_as : {r q : Typing} {x : Res Ty} → r ≡ q → Tells r x → Tells q x
tells_as {x = x} e h = subst (λ (r : Typing). Tells r x) e h

-- of the same verdict
pub tells_from : {r : Typing} {x y : Res Ty} → x ≡ y → Tells r y → Tells r x
tells_from {r} e h = subst (λ (x : Res Ty). Tells r x) (sym e) h

-- where a `?` hands an error on, that is the answer
pub handed_on : {A : Type 0} {r : P.Result A Fault} {e : Fault} → IsErrAnd r (λ y. y ≡ e) → r ≡ Err e
handed_on h = let p = err_from_is_err_and _ h in p.1 ∙ ap Err p.2

-- the same of a fault that is known
pub handed_as : {A : Type 0} {r : P.Result A Fault} {e d : Fault} → IsErrAnd r (λ y. y ≡ e) → e ≡ d → r ≡ Err d
handed_as h e = handed_on h ∙ ap Err e

-- and a fault is told
pub fault_told_as : {r : Typing} {e : Fault} {q : Reason} {i : ℕ} {x : Res Ty} → IsErrAnd r (λ y. y ≡ e) → e ≡ record { why = q; place = i }
    → x ≡ bad (reason_meant q) i → Tells r x
fault_told_as h e d = tells_as (sym (handed_as h e)) (fault_is d)

-- what is asked first does not hold, which is told
pub fault_need : {A : Type 0} {r : Typing} {e : Fault} {q : Reason} {i : ℕ} (d : Dec A) (f : Unit {0} → Res Ty)
    → IsErrAnd r (λ y. y ≡ e) → e ≡ record { why = q; place = i } → (A → ⊥) → Tells r (need d (reason_meant q) i f)
fault_need d f h e n = fault_told_as h e (need_no _ _ _ _ n)

-- or it holds, and the rest is asked
pub tells_need : {A : Type 0} {r : Typing} (q : Faults.Reason) (i : ℕ) (d : Dec A) (f : Unit {0} → Res Ty) → A → Tells r (f tt)
    → Tells r (need d q i f)
tells_need q i d f a h = tells_from (need_yes _ _ _ _ a refl) h
