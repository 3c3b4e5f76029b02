-- Every line comes to exactly one outcome, once the book was admitted: a pay that is an int, a stop, or it is bad (R14.4 to
-- R14.7). No run of a line is refused.
use lib.IntN.{ℤ}
use lib.ListN.{length}
use mathlib.Core.Bool.{Bool, true, false, cond, ◌&&◌}
use mathlib.Core.List.{List, []}
use mathlib.Core.Logic.{◌⊎◌, inl, inr}
use mathlib.Core.Option.{Option, none, some}
use mathlib.Core.Path.{◌≡◌, refl, sym, ap, subst, ◌∙◌}
use borrow.Author.Tests.{leb-true}
use native.Mathlib.Omega.{arith}
use Prim.Native.Nat.{ℕ, ◌≤◌}
use lib.Dec.{eqb, leb}
use Rattle.language.specs.Sizes.{ALLOWANCE, LARGEST}
use Rattle.language.specs.Tokens.{Token}
use Rattle.language.specs.Trees.{Ty, int, Program}
use Rattle.language.specs.State as State
use Rattle.language.specs.State.{Stop, Value, number, value, stop, stuck}
use Rattle.language.specs.Meaning.{in_range, run}
use Rattle.language.specs.Numbers.{Told, passed, refused}
use Rattle.language.specs.Numbers as Numbers
use Rattle.language.specs.Answers.{Origin, Passes, Lent, Enough, Ending, ending, RunReport, Ran}
use Rattle.language.specs.Answers.{run_short, run_large, run_refused, run_ended}
use Rattle.language.specs.Pairs.{Place}
use Rattle.language.specs.Edition.{pair_in}
use Rattle.language.specs.Shift.{Line, Job, job_in, written_as_ints, all_bytes, is_capital_hex, is_good, job_of, call_of, Outcome, bad}
use Rattle.language.specs.Shift.{stopped, paid, Runs, runs_to_stop, runs_to_pay, Comes, comes_bad, comes_run}
use Rattle.language.specs.Shift.{Admission, Admits, admit_short, admit_large, admit_refused, admit_no_book, admit_no_room, admit}
use Rattle.language.proofs.Text.Choices.{and_both}
use Rattle.language.proofs.Meaning.CellTypes.{none_some, some_one}
use Rattle.language.proofs.Meaning.ValueTypes.{OfType, of_int, value_of_type}
use Rattle.language.proofs.Answers.Origins.{Lawful, Fate, passes, passes_is, not_both}
use Rattle.language.proofs.Answers.OneAnswer.{one_ran, some_ran}
use Rattle.language.proofs.Answers.Editions.{pair_in_lawful}
use Rattle.language.proofs.Shift.NeverRefused.{every_call_in}

-- ---- the numbers of a job can be written

good_written : (l : Line) → is_good l ≡ true → written_as_ints (job_in l.bytes) ≡ true
good_written l e =
    let w = written_as_ints (job_in l.bytes) in
    let h = all_bytes is_capital_hex l.bytes in
    let a = (and_both l.ended (eqb (length l.bytes) 20 && (h && w)) e).1 in
    (and_both h w (and_both (eqb (length l.bytes) 20) (h && w) a).1).1

pub job_written : (l : Line) {j : Job} → job_of l ≡ some j → (j.picks ≤ LARGEST) × (j.rate ≤ LARGEST)
unfolding job_of
job_written l {j} e = go (is_good l) refl e
  where
    go : (b : Bool) → is_good l ≡ b → cond b (some (job_in l.bytes)) none ≡ some j → (j.picks ≤ LARGEST) × (j.rate ≤ LARGEST)
    go true g x =
        let k = job_in l.bytes in
        let z = and_both (leb k.picks LARGEST) (leb k.rate LARGEST) (good_written l g) in
        let y : k ≡ j = some_one x in
        subst (λ (j : Job). (j.picks ≤ LARGEST) × (j.rate ≤ LARGEST)) y (leb-true _ _ z.0, leb-true _ _ z.1)
    go false g x = absurd (none_some x)

-- ---- a book that was admitted

pub record Admitted (n : ℕ) (book : List ℕ) (l : Lent) : Type 0 where
  pub enough : Enough l
  pub fair : l.allowance ≤ ALLOWANCE
  pub calls : (j : Job) → j.picks ≤ LARGEST → j.rate ≤ LARGEST
      → (ts : List Token) × (p : Program) × Passes (pair_in n book (call_of j)) ts p int

some_none : {A : Type 0} {a : A} → ◌≡◌ {A = Option A} (some a) none → ⊥
some_none e = none_some (sym e)

pub admitted : {n : ℕ} {book : List ℕ} {l : Lent} {a : Admission} → Admits n book l a → a.told ≡ none → Admitted n book l
admitted (admit_short h) e = absurd (some_none e)
admitted (admit_large a h) e = absurd (some_none e)
admitted (admit_refused a h x) e = absurd (some_none e)
admitted (admit_no_book a h x n) e = absurd (some_none e)
admitted (admit_no_room a h x b d) e = absurd (some_none e)
admitted {n} {book} (admit a h x b g) e = record { enough = a; fair = h; calls = every_call_in n book x b g }

-- ---- how a run of it ends

-- with an int, or with a stop
abbrev pub Ended : Told → Value → Type 0
Ended a v = ((a ≡ passed) × (z : ℤ) × (v ≡ number z) × (in_range z ≡ true)) ⊎ ((s : Stop) × (a ≡ Numbers.stopped s))

int_value : {s : State.State} {v : Value} → OfType s int v → (z : ℤ) × (v ≡ number z) × (in_range z ≡ true)
int_value (of_int r) = (_, refl, r)

module _ {P : Type 0} {o : Origin P} (law : Lawful o) {ts : List Token} {p : Program} (a : Passes o ts p int) where
  ends : (allowance room : ℕ) {e : Ending} (m : State.Outcome) → run p allowance room ≡ m → ending allowance m ≡ some e → Ended e.told e.value
  unfolding ending
  ends allowance room (value v s) x y =
      let z = some_one y in
      let k = value_of_type ts p int allowance room v s a.proper.reads (law.small ts a.given) a.proper.typed x in
      let i = int_value k in
      inl (sym (ap (λ (e : Ending). e.told) z), i.0, sym (ap (λ (e : Ending). e.value) z) ∙ i.1, i.2)
  ends allowance room (stop w i s) x y = inr (w, sym (ap (λ (e : Ending). e.told) (some_one y)))
  ends allowance room stuck x y = absurd (none_some y)

module _ {P : Type 0} {o : Origin P} (law : Lawful o) {us : List Token} {q : Program} (known : Passes o us q int) where
  its_type : {ts : List Token} {p : Program} {t : Ty} → Passes o ts p t → t ≡ int
  its_type {ts} {p} {t} a =
      let e : ◌≡◌ {A = Fate P} (passes ts p t) (passes us q int) = sym (passes_is law a) ∙ passes_is law known in
      cc

  -- never refused
  ran_ended : {l : Lent} {r : RunReport P} {bs : List ℕ} → Enough l → l.allowance ≤ ALLOWANCE → Ran o l r bs → Ended r.told r.value
  ran_ended enough fair (run_short (inl h)) = absurd (omega (arith, enough.table))
  ran_ended enough fair (run_short (inr h)) = absurd (omega (arith, enough.work))
  ran_ended enough fair (run_large e h) = absurd (omega arith)
  ran_ended enough fair (run_refused e h x) = absurd (not_both law x known)
  ran_ended {l} enough fair (run_ended {ts} {p} {t} e h x y) =
      let z = its_type x in
      ends law (subst (λ (t : Ty). Passes o ts p t) z x) l.allowance l.output (run p l.allowance l.output) refl y

module _ {n : ℕ} {book : List ℕ} {l : Lent} (ready : Admitted n book l) where
  -- R14.7: no run of a line is refused; it ends with an int or a stop
  pub never_refused : {j : Job} {r : RunReport Place} {bs : List ℕ} → j.picks ≤ LARGEST → j.rate ≤ LARGEST
      → Ran (pair_in n book (call_of j)) l r bs → Ended r.told r.value
  never_refused {j} p q x = ran_ended (pair_in_lawful n book (call_of j)) (ready.calls j p q).2 ready.enough ready.fair x

  runs_so : {j : Job} {r : RunReport Place} {bs : List ℕ} → Ran (pair_in n book (call_of j)) l r bs → Ended r.told r.value
      → (o : Outcome) × (cs : List ℕ) × Runs n book l j o cs
  runs_so x (inl e) = (_, _, runs_to_pay x e.0 e.2)
  runs_so x (inr e) = (_, _, runs_to_stop x e.1)

  pub some_run : (j : Job) → j.picks ≤ LARGEST → j.rate ≤ LARGEST → (o : Outcome) × (bs : List ℕ) × Runs n book l j o bs
  some_run j p q = let x = some_ran (pair_in_lawful n book (call_of j)) l in runs_so x.2 (never_refused p q x.2)

  pub some_outcome : (line : Line) → (o : Outcome) × (bs : List ℕ) × Comes n book l line o bs
  some_outcome line = go (job_of line) refl
    where
      go : (k : Option Job) → job_of line ≡ k → (o : Outcome) × (bs : List ℕ) × Comes n book l line o bs
      go none e = (bad, [], comes_bad e)
      go (some j) e =
          let h = job_written line e in
          let x = some_run j h.0 h.1 in
          (x.0, x.1, comes_run e x.2)

-- ---- one outcome

pub passed_stop : {s : Stop} → ◌≡◌ {A = Told} passed (Numbers.stopped s) → ⊥
passed_stop e = let z : ◌≡◌ {A = ℕ} 0 1 = cc in omega arith

one_stop : {s t : Stop} → ◌≡◌ {A = Told} (Numbers.stopped s) (Numbers.stopped t) → s ≡ t
one_stop e = cc

pub one_number : {y z : ℤ} → ◌≡◌ {A = Value} (number y) (number z) → y ≡ z
one_number e = cc

pub one_runs : {n : ℕ} {book : List ℕ} {l : Lent} {j : Job} {o o' : Outcome} {bs bs' : List ℕ} → Runs n book l j o bs → Runs n book l j o' bs'
    → (o ≡ o') × (bs ≡ bs')
one_runs {n} {book} {l} {j} (runs_to_stop x e) (runs_to_stop y f) =
    let z = one_ran (pair_in_lawful n book (call_of j)) l x y in
    (ap stopped (one_stop (sym e ∙ ap (λ (r : RunReport Place). r.told) z.0 ∙ f)), z.1)
one_runs {n} {book} {l} {j} (runs_to_stop x e) (runs_to_pay y f g) =
    let z = one_ran (pair_in_lawful n book (call_of j)) l x y in
    absurd (passed_stop (sym f ∙ sym (ap (λ (r : RunReport Place). r.told) z.0) ∙ e))
one_runs {n} {book} {l} {j} (runs_to_pay x e h) (runs_to_stop y f) =
    let z = one_ran (pair_in_lawful n book (call_of j)) l x y in
    absurd (passed_stop (sym e ∙ ap (λ (r : RunReport Place). r.told) z.0 ∙ f))
one_runs {n} {book} {l} {j} (runs_to_pay x e h) (runs_to_pay y f g) =
    let z = one_ran (pair_in_lawful n book (call_of j)) l x y in
    (ap paid (one_number (sym h ∙ ap (λ (r : RunReport Place). r.value) z.0 ∙ g)), z.1)

pub one_outcome : {n : ℕ} {book : List ℕ} {l : Lent} {line : Line} {o o' : Outcome} {bs bs' : List ℕ} → Comes n book l line o bs → Comes n book l line o' bs'
    → (o ≡ o') × (bs ≡ bs')
one_outcome (comes_bad e) (comes_bad f) = (refl, refl)
one_outcome (comes_bad e) (comes_run f y) = absurd (none_some (sym e ∙ f))
one_outcome (comes_run e x) (comes_bad f) = absurd (some_none (sym e ∙ f))
one_outcome {n} {book} {l} {o = o} {bs = bs} (comes_run e x) (comes_run f y) =
    let z = some_one (sym e ∙ f) in
    one_runs (subst (λ (j : Job). Runs n book l j o bs) z x) y
