-- Demand 3 in its own words, of any lawful origin and of both services. Within the sizes, check passes with the type t, and
-- run ends in a value or a stop with the type t, exactly when the origin comes to tokens, the tokens have a reading and the
-- reading has the type t; and both say "not a program" exactly when it comes to tokens and no reading exists.
use mathlib.Core.List.{List}
use mathlib.Core.Logic.{◌↔◌}
use mathlib.Core.Path.{◌≡◌, sym, ap, subst}
use Prim.Native.Nat.{ℕ, ◌≤◌}
use native.Mathlib.Omega.{arith}
use Rattle.language.specs.Sizes.{Sizes, BOX, ALLOWANCE}
use Rattle.language.specs.Tokens.{Token}
use Rattle.language.specs.Trees.{Ty, Program}
use Rattle.language.specs.Grammar.{Reading}
use Rattle.language.specs.Types.{HasTypeUnder}
use Rattle.language.specs.Meaning.{type_number}
use Rattle.language.specs.Numbers.{Refusal, no_reading, passed, refused}
use Rattle.language.specs.Answers.{Origin, unread, faulty, PassesUnder, RefusedUnder, by_origin, by_tokens, CheckReport, CheckedUnder, check_short}
use Rattle.language.specs.Answers.{check_refused, check_passed, Lent, EnoughUnder, RunReport, RanUnder, run_short, run_large, run_refused, run_ended}
use Rattle.language.proofs.Types.TypeNumbers.{one_number}
use Rattle.language.proofs.Answers.Endings.{IsRun, is_run, some_ending}
use Rattle.language.proofs.Answers.Origins.{LawfulUnder}
use Rattle.language.proofs.Answers.OneAnswer.{one_checked, one_ran}
use Rattle.language.proofs.Grammar.FirstWrong.{place_exactly}

-- it comes to tokens that have a reading of the type t
pub record IsProgramUnder (σ : Sizes) {P : Type 0} (o : Origin P) (t : Ty) : Type 0 where
  pub tokens : List Token
  pub reading : Program
  pub given : o.gives tokens
  pub reads : Reading tokens reading
  pub typed : HasTypeUnder σ reading t

-- under the box's sizes
abbrev pub IsProgram : {P : Type 0} → Origin P → Ty → Type 0
IsProgram o = IsProgramUnder BOX o

-- it comes to tokens that have no reading
pub record NoProgram {P : Type 0} (o : Origin P) : Type 0 where
  pub tokens : List Token
  pub given : o.gives tokens
  pub unread : (p : Program) → Reading tokens p → ⊥

module _ {σ : Sizes} {P : Type 0} {o : Origin P} (law : LawfulUnder σ o) where
  has_passed : (t : Ty) (h : IsProgramUnder σ o t) → PassesUnder σ o h.tokens h.reading t
  has_passed t h = record {
    given = h.given;
    proper = record { reads = h.reads; typed = h.typed };
  }

  passed_has : {ts : List Token} {p : Program} {u : Ty} (t : Ty) → type_number u ≡ type_number t → PassesUnder σ o ts p u → IsProgramUnder σ o t
  passed_has {ts} {p} {u} t e a = record {
    tokens = ts;
    reading = p;
    given = a.given;
    reads = a.proper.reads;
    typed = subst (HasTypeUnder σ p) (one_number u t e) a.proper.typed;
  }

  refused_unread : {r : Refusal} {x : P} → RefusedUnder σ o r x → r ≡ no_reading → NoProgram o
  refused_unread (by_origin {r} {x} d) e = absurd (law.not_reading x (subst (λ (r : Refusal). o.denies r x) e d))
  refused_unread (by_tokens {ts} g (unread h)) e = record { tokens = ts; given = g; unread = (place_exactly ts).0 (_, h) }
  refused_unread (by_tokens g (faulty a f)) e = let z : ◌≡◌ {A = ℕ} 0 1 = cc in absurd (omega arith)

  -- ---- check

  module _ {table : ℕ} (room : σ.table ≤ table) where
    of_passed : {r : CheckReport P} (t : Ty) → CheckedUnder σ o table r → r.told ≡ passed → r.type ≡ type_number t → IsProgramUnder σ o t
    of_passed t (check_short h) e f = let z : ◌≡◌ {A = ℕ} 0 1 = cc in absurd (omega arith)
    of_passed t (check_refused h a) e f = let z : ◌≡◌ {A = ℕ} 0 1 = cc in absurd (omega arith)
    of_passed t (check_passed h a) e f = passed_has t f a

    of_unread : {r : CheckReport P} → CheckedUnder σ o table r → r.told ≡ refused no_reading → NoProgram o
    of_unread (check_short h) e = let z : ◌≡◌ {A = ℕ} 0 1 = cc in absurd (omega arith)
    of_unread (check_refused h a) e = refused_unread a (cc)
    of_unread (check_passed h a) e = let z : ◌≡◌ {A = ℕ} 0 1 = cc in absurd (omega arith)

    module _ {r : CheckReport P} (a : CheckedUnder σ o table r) where
      pub check_type_exactly : (t : Ty) → ((r.told ≡ passed) × (r.type ≡ type_number t)) ↔ IsProgramUnder σ o t
      check_type_exactly t = (
        λ e. of_passed t a e.0 e.1,
        λ h.
            let e = one_checked law table a (check_passed room (has_passed t h)) in
            (ap (λ (r : CheckReport P). r.told) e, ap (λ (r : CheckReport P). r.type) e),
      )

      pub check_none_exactly : (r.told ≡ refused no_reading) ↔ NoProgram o
      check_none_exactly = (
        λ e. of_unread a e,
        λ h.
            let e = one_checked law table a (check_refused room (by_tokens h.given (unread ((place_exactly h.tokens).1 h.unread).1))) in
            ap (λ (r : CheckReport P). r.told) e,
      )

  -- ---- run

  module _ {l : Lent} (enough : EnoughUnder σ l) (fair : l.allowance ≤ ALLOWANCE) where
    of_run : {r : RunReport P} {bs : List ℕ} (t : Ty) → RanUnder σ o l r bs → IsRun r.told → r.type ≡ type_number t → IsProgramUnder σ o t
    of_run t (run_short h) e f = absurd e
    of_run t (run_large h k) e f = absurd e
    of_run t (run_refused h k a) e f = absurd e
    of_run t (run_ended h k a x) e f = passed_has t f a

    of_no_run : {r : RunReport P} {bs : List ℕ} → RanUnder σ o l r bs → r.told ≡ refused no_reading → NoProgram o
    of_no_run (run_short h) e = let z : ◌≡◌ {A = ℕ} 0 1 = cc in absurd (omega arith)
    of_no_run (run_large h k) e = let z : ◌≡◌ {A = ℕ} 0 1 = cc in absurd (omega arith)
    of_no_run (run_refused h k a) e = refused_unread a (cc)
    of_no_run (run_ended {p = p} h k a x) e = absurd (subst IsRun e (is_run l.allowance _ x))

    module _ {r : RunReport P} {bs : List ℕ} (a : RanUnder σ o l r bs) where
      pub run_type_exactly : (t : Ty) → (IsRun r.told × (r.type ≡ type_number t)) ↔ IsProgramUnder σ o t
      run_type_exactly t = (
        λ e. of_run t a e.0 e.1,
        λ h.
            let z = some_ending h.reading t l.allowance l.output h.typed in
            let e = one_ran law l a (run_ended enough fair (has_passed t h) z.1) in
            (subst (λ (r : RunReport P). IsRun r.told) (sym e.0) (is_run l.allowance _ z.1), ap (λ (r : RunReport P). r.type) e.0),
      )

      pub run_none_exactly : (r.told ≡ refused no_reading) ↔ NoProgram o
      run_none_exactly = (
        λ e. of_no_run a e,
        λ h.
            let e = one_ran law l a (run_refused enough fair (by_tokens h.given (unread ((place_exactly h.tokens).1 h.unread).1))) in
            ap (λ (r : RunReport P). r.told) e.0,
      )
