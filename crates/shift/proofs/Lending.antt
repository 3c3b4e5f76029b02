-- What a line's run can see of what is lent: the length of the output and the allowance, and no more memory than is asked for.
-- And what a run pays is an int, whether or not the book was admitted.
use lib.IntN.{ℤ}
use mathlib.Core.List.{List}
use mathlib.Core.Logic.{inl, inr}
use mathlib.Core.Option.{Option, some}
use mathlib.Core.Path.{◌≡◌, refl, sym, ap, subst, ◌∙◌}
use mathlib.Core.Bool.{true}
use native.Mathlib.Omega.{arith}
use Prim.Native.Nat.{ℕ}
use Rattle.language.specs.Tokens.{Token}
use Rattle.language.specs.Trees.{Ty, Program}
use Rattle.language.specs.State as State
use Rattle.language.specs.State.{Value, number, value, stop, stuck}
use Rattle.language.specs.Meaning.{in_range, run}
use Rattle.language.specs.Numbers.{Refusal, Told, passed, refused}
use Rattle.language.specs.Answers.{Origin, Passes, Lent, Enough, Ending, ending, RunReport, Ran}
use Rattle.language.specs.Answers.{run_short, run_large, run_refused, run_ended}
use Rattle.language.specs.Shift.{Line, Job, call_of, Outcome, paid, Runs, runs_to_stop, runs_to_pay, Comes, comes_bad, comes_run}
use Rattle.language.specs.Shift.{AllCome, none_comes, one_comes, Report, ShiftRefusal, Shift}
use Rattle.language.proofs.Meaning.CellTypes.{none_some, some_one}
use Rattle.language.proofs.Meaning.ValueTypes.{OfType, of_int, of_float, of_bool, of_unit, of_freed, of_live, value_of_type}
use Rattle.language.proofs.Answers.Origins.{Lawful}
use Rattle.language.proofs.Answers.Editions.{pair_in_lawful}
use Rattle.language.proofs.Shift.LineOutcomes.{Admitted, passed_stop}

-- ---- more memory

-- as much output and as many units, and enough memory
pub record SameRun (l k : Lent) : Type 0 where
  pub enough : Enough l
  pub also : Enough k
  pub output : k.output ≡ l.output
  pub allowance : k.allowance ≡ l.allowance

module _ {P : Type 0} {o : Origin P} {l k : Lent} (h : SameRun l k) where
  pub ran_lent : {r : RunReport P} {printed : List ℕ} → Ran o l r printed → Ran o k r printed
  ran_lent (run_short (inl s)) = absurd (omega (arith, h.enough.table))
  ran_lent (run_short (inr s)) = absurd (omega (arith, h.enough.work))
  ran_lent (run_large e s) = run_large h.also (rw h.allowance s)
  ran_lent (run_refused e s x) = run_refused h.also (rw h.allowance s) x
  ran_lent (run_ended {e = e} g s x y) = run_ended {e = e} h.also (rw h.allowance s) x (rw (h.allowance, h.output) y)

module _ {n : ℕ} {book : List ℕ} {l k : Lent} (h : SameRun l k) where
  pub runs_lent : {j : Job} {o : Outcome} {printed : List ℕ} → Runs n book l j o printed → Runs n book k j o printed
  runs_lent (runs_to_stop x e) = runs_to_stop (ran_lent h x) e
  runs_lent (runs_to_pay x e f) = runs_to_pay (ran_lent h x) e f

  comes_lent : {line : Line} {o : Outcome} {printed : List ℕ} → Comes n book l line o printed → Comes n book k line o printed
  comes_lent (comes_bad e) = comes_bad e
  comes_lent (comes_run e x) = comes_run e (runs_lent x)

  all_come_lent : {ls : List Line} {os : List Outcome} {output output' : List ℕ} → AllCome n book l ls os output output'
      → AllCome n book k ls os output output'
  all_come_lent none_comes = none_comes
  all_come_lent (one_comes x xs) = one_comes (comes_lent x) (all_come_lent xs)

  pub shift_lent : {input output output' : List ℕ} {told : Option ShiftRefusal} {r : Report} → Shift n book l input output told r output'
      → Shift n book k input output told r output'
  shift_lent x = record { outcomes = x.outcomes; come = all_come_lent x.come; reports = x.reports; refuses = x.refuses }

  pub admitted_lent : Admitted n book l → Admitted n book k
  admitted_lent a = record { enough = h.also; fair = rw h.allowance a.fair; calls = a.calls }

-- ---- what is paid is an int

refused_passed : {r : Refusal} → ◌≡◌ {A = Told} (refused r) passed → ⊥
refused_passed e = let z : ◌≡◌ {A = ℕ} 0 1 = cc in omega arith

an_int : {s : State.State} {t : Ty} {v : Value} {z : ℤ} → OfType s t v → v ≡ number z → in_range z ≡ true
an_int (of_int {z = y} r) e = subst (λ (z : ℤ). in_range z ≡ true) (cc) r
an_int (of_float h) e = let z : ◌≡◌ {A = ℕ} 0 1 = cc in absurd (omega arith)
an_int of_bool e = let z : ◌≡◌ {A = ℕ} 0 1 = cc in absurd (omega arith)
an_int of_unit e = let z : ◌≡◌ {A = ℕ} 0 1 = cc in absurd (omega arith)
an_int (of_freed a b h) e = let z : ◌≡◌ {A = ℕ} 0 1 = cc in absurd (omega arith)
an_int (of_live a b h x) e = let z : ◌≡◌ {A = ℕ} 0 1 = cc in absurd (omega arith)

module _ {P : Type 0} {o : Origin P} (law : Lawful o) {ts : List Token} {p : Program} {t : Ty} (a : Passes o ts p t) where
  ends_int : (allowance room : ℕ) {e : Ending} {z : ℤ} (m : State.Outcome) → run p allowance room ≡ m → ending allowance m ≡ some e → e.told ≡ passed
      → e.value ≡ number z → in_range z ≡ true
  unfolding ending
  ends_int allowance room (value v s) x y e f =
      let k = value_of_type ts p t allowance room v s a.proper.reads (law.small ts a.given) a.proper.typed x in
      an_int k (ap (λ (e : Ending). e.value) (some_one y) ∙ f)
  ends_int allowance room (stop w i s) x y e f = absurd (passed_stop (sym e ∙ sym (ap (λ (e : Ending). e.told) (some_one y))))
  ends_int allowance room stuck x y e f = absurd (none_some y)

ran_int : {P : Type 0} {o : Origin P} {l : Lent} {r : RunReport P} {bs : List ℕ} {z : ℤ} → Lawful o → Ran o l r bs → r.told ≡ passed → r.value ≡ number z
    → in_range z ≡ true
ran_int law (run_short h) e f = absurd (refused_passed e)
ran_int law (run_large g h) e f = absurd (refused_passed e)
ran_int law (run_refused g h x) e f = absurd (refused_passed e)
ran_int {l = l} law (run_ended {p = p} g h x y) e f = ends_int law x l.allowance l.output (run p l.allowance l.output) refl y e f

pub paid_int : {n : ℕ} {book : List ℕ} {l : Lent} {j : Job} {z : ℤ} {printed : List ℕ} → Runs n book l j (paid z) printed → in_range z ≡ true
paid_int {n} {book} {j = j} (runs_to_pay x e f) = ran_int (pair_in_lawful n book (call_of j)) x e f
