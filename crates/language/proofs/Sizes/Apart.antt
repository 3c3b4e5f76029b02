-- Demand 3 with the sizes apart (S050): within the sizes, check passes with the type t, and run ends in a value or a stop with the
-- type t, exactly when there are tokens, the tokens have a reading and the reading has the type t under some sizes; and both say
-- "not a program" exactly when there are tokens and no reading of them. It is said over any origin, and what it comes to with
-- the sizes apart is a matter of each.
use mathlib.Core.List.{List}
use mathlib.Core.Logic.{◌↔◌}
use mathlib.Core.Path.{◌≡◌}
use Prim.Native.Nat.{ℕ, ◌≤◌}
use Rattle.language.specs.Sizes.{Sizes, ALLOWANCE}
use Rattle.language.specs.Tokens.{Token}
use Rattle.language.specs.Trees.{Ty, Program}
use Rattle.language.specs.Grammar.{Reading}
use Rattle.language.specs.Meaning.{type_number}
use Rattle.language.specs.Numbers.{no_reading, passed, refused}
use Rattle.language.specs.Answers.{Origin, CheckReport, CheckedUnder, Lent, EnoughUnder, RunReport, RanUnder}
use Rattle.language.proofs.Answers.Endings.{IsRun}
use Rattle.language.proofs.Answers.Origins.{LawfulUnder}
use Rattle.language.proofs.Answers.Demand3.{IsProgramUnder, NoProgram, check_type_exactly, check_none_exactly, run_type_exactly, run_none_exactly}
use Rattle.language.proofs.Sizes.TypesApart.{TypeApart, Fitting, type_within}

-- `Comes` says which tokens there are, with the sizes apart
module _ (Comes : List Token → Type 0) where
  -- they have a reading of the type t
  pub record IsSheet (t : Ty) : Type 0 where
    pub tokens : List Token
    pub reading : Program
    pub comes : Comes tokens
    pub reads : Reading tokens reading
    pub typed : TypeApart reading t

  -- they have no reading
  pub record NoSheet : Type 0 where
    pub tokens : List Token
    pub comes : Comes tokens
    pub unread : (p : Program) → Reading tokens p → ⊥

  -- an origin is what they come from, where no size of σ is exceeded
  pub record Within (σ : Sizes) {P : Type 0} (o : Origin P) : Type 0 where
    pub given : {ts : List Token} → Comes ts → o.gives ts
    pub comes : {ts : List Token} → o.gives ts → Comes ts
    pub fits : {ts : List Token} {p : Program} → Comes ts → Reading ts p → Fitting σ p

module _ {Comes : List Token → Type 0} {σ : Sizes} {P : Type 0} {o : Origin P} (law : LawfulUnder σ o) (w : Within Comes σ o) where
  has_sheet : {t : Ty} → IsProgramUnder σ o t → IsSheet Comes t
  has_sheet a = record {
    tokens = a.tokens;
    reading = a.reading;
    comes = w.comes a.given;
    reads = a.reads;
    typed = record { sizes = σ; typed = a.typed };
  }

  sheet_has : {t : Ty} → IsSheet Comes t → IsProgramUnder σ o t
  sheet_has a = record {
    tokens = a.tokens;
    reading = a.reading;
    given = w.given a.comes;
    reads = a.reads;
    typed = type_within a.reading (w.fits a.comes a.reads) a.typed;
  }

  no_sheet : NoProgram o → NoSheet Comes
  no_sheet a = record { tokens = a.tokens; comes = w.comes a.given; unread = a.unread }

  no_program : NoSheet Comes → NoProgram o
  no_program a = record { tokens = a.tokens; given = w.given a.comes; unread = a.unread }

  module _ {table : ℕ} (room : σ.table ≤ table) {r : CheckReport P} (a : CheckedUnder σ o table r) where
    pub check_type_apart : (t : Ty) → ((r.told ≡ passed) × (r.type ≡ type_number t)) ↔ IsSheet Comes t
    check_type_apart t = let e = check_type_exactly law room a t in (λ h. has_sheet (e.0 h), λ h. e.1 (sheet_has h))

    pub check_none_apart : (r.told ≡ refused no_reading) ↔ NoSheet Comes
    check_none_apart = let e = check_none_exactly law room a in (λ h. no_sheet (e.0 h), λ h. e.1 (no_program h))

  module _ {l : Lent} (enough : EnoughUnder σ l) (fair : l.allowance ≤ ALLOWANCE) {r : RunReport P} {bs : List ℕ} (a : RanUnder σ o l r bs) where
    pub run_type_apart : (t : Ty) → (IsRun r.told × (r.type ≡ type_number t)) ↔ IsSheet Comes t
    run_type_apart t = let e = run_type_exactly law enough fair a t in (λ h. has_sheet (e.0 h), λ h. e.1 (sheet_has h))

    pub run_none_apart : (r.told ≡ refused no_reading) ↔ NoSheet Comes
    run_none_apart = let e = run_none_exactly law enough fair a in (λ h. no_sheet (e.0 h), λ h. e.1 (no_program h))
