-- What a run of an admitted book comes to, and what a line does (R14.4 to R14.6): one law for each way.
use lib.Dec.{eqb, leb}
use lib.IntN.{ℤ}
use lib.ListN.{length}
use lib.Signed.{mag}
use mathlib.Core.Bool.{Bool, true, false, cond}
use mathlib.Core.List.{List, []}
use mathlib.Core.Logic.{inl, inr}
use mathlib.Core.Path.{◌≡◌, refl, sym, ap, subst, ◌∙◌}
use borrow.Author.Tests.{leb-true}
use native.Mathlib.Omega.{arith}
use Rattle.std.proofs.Common.{Result, Ok, Err}
use Prim.Native.Nat.{ℕ, ◌≤◌, ◌<◌}
use Rattle.language.specs.Sizes.{LARGEST, TABLE, WORK}
use Rattle.language.specs.State.{float, flag, nothing, cell, number}
use Rattle.language.specs.State as State
use Rattle.language.specs.Meaning.{in_range}
use Rattle.language.specs.Numbers.{passed}
use Rattle.language.specs.Answers.{Lent, Enough}
use Rattle.language.specs.Shift.{Job, runs_to_stop, runs_to_pay}
use Rattle.language.proofs.Shift.LineOutcomes.{Admitted, Ended, never_refused, passed_stop}
use Rattle.language.proofs.Shift.Totals.{range_mag}
use Rattle.layout.specs.declared.values.Value.{Value}
use Rattle.layout.specs.Values as Values
use Rattle.layout.specs.Table.{zeros}
use Rattle.layout.specs.declared.Held.{Held}
use Rattle.layout.proofs.Wiped.{zeros_cleared}
use Rattle.numbers.specs.declared.Stop.{Stop}
use Rattle.numbers.specs.declared.Located.{Located}
use Rattle.grumpy.specs.Calls.{Prepared, Callable, CallRan, Called}
use Rattle.grumpy.specs.Outcomes.{ending_meant}
use Rattle.grumpy.specs.declared.answers.Ending.{Ending}
use Rattle.grumpy.proofs.Calling.{laid_rest, prepared_on}
use Rattle.tally.specs.Parts.{job_told}
use Rattle.tally.specs.declared.lines.Part.{Part}
use Rattle.tally.specs.declared.lines.Job as Line
use Rattle.std.specs.Prelude.{Option, Some, None}
use Rattle.std.proofs.lemmas.Bool.Decides.{nat_tests}
use Rattle.tally.specs.declared.sums.Outcome.{Outcome}
use Rattle.shift.specs.Feeding.{Ready, ReadyForSome, ended_as, Leaves, Ran, RanForAny, CameForAny}
use Rattle.shift.specs.Taking.{needed, ends_bad, ends_run}

-- ---- the end of a run

float_number : {x : _} {z : ℤ} → ◌≡◌ {A = State.Value} (float x) (number z) → ⊥
float_number e = let z : ◌≡◌ {A = ℕ} 0 1 = cc in omega arith

flag_number : {b : Bool} {z : ℤ} → ◌≡◌ {A = State.Value} (flag b) (number z) → ⊥
flag_number e = let z : ◌≡◌ {A = ℕ} 0 1 = cc in omega arith

nothing_number : {z : ℤ} → ◌≡◌ {A = State.Value} nothing (number z) → ⊥
nothing_number e = let z : ◌≡◌ {A = ℕ} 0 1 = cc in omega arith

cell_number : {n : ℕ} {z : ℤ} → ◌≡◌ {A = State.Value} (cell n) (number z) → ⊥
cell_number e = let z : ◌≡◌ {A = ℕ} 0 1 = cc in omega arith

one_int : {y z : ℤ} → ◌≡◌ {A = State.Value} (number y) (number z) → z ≡ y
one_int e = cc

small_int : (z : ℤ) → in_range z ≡ true → mag z < 2147483648
small_int z r = omega (arith, range_mag z r)

module _ (ed : ℕ) (book : List ℕ) (P : Held) (table work out : List ℕ) (allowance : ℕ) (ready : Ready ed book P table work allowance) where
  -- what each line is lent
  abbrev l : Lent
  l = needed (length out) allowance

  enough : Enough l
  enough = record { table = omega arith; work = omega arith }

  book_admitted : Admitted ed book l
  book_admitted = record {
    enough = enough;
    fair = ready.fair;
    calls = λ j p q. let h = ready.prepared.calls j p q in (h.tokens, h.program, h.passes);
  }

  module _ (j : Job) (p : j.picks ≤ LARGEST) (q : j.rate ≤ LARGEST) (table' work' out' : List ℕ) where
    abbrev Ends : Ending ℕ → Type 0
    Ends r = Called table work out table' work' out' P j allowance r

    so : (r : Ending ℕ) → Ends r → CallRan ed book j l out out' r
    so r x = x.told ed book l ready.prepared enough refl refl

    leaves : (r : Ending ℕ) (x : Ends r) → Leaves ed book P table work out (so r x).printed table' work' out'
    leaves r x = record {
      prepared = subst (λ (w : List ℕ). Prepared ed book w P) (sym x.numbers) (prepared_on P j table ready.prepared);
      table_rest = ap (λ (w : List ℕ). zeros w 0 TABLE) x.numbers ∙ laid_rest P j table ready.prepared.six ready.prepared.few;
      work_same = x.cleared ∙ zeros_cleared WORK work ready.long ∙ ready.work_clear;
      output = (so r x).output;
    }

    ended_so : (r : Ending ℕ) (x : Ends r) → Ended (ending_meant r (so r x).printed).told (ending_meant r (so r x).printed).value
    ended_so r x = never_refused book_admitted p q (so r x).ran

    Pays : Ending ℕ → Type 0
    Pays r = Ran ed book l j P table work out (ended_as r) table' work' out'

    abbrev ended : ℕ → ℕ → Result Value (Located Stop ℕ) → Ending ℕ
    ended u n e = record { end = e; units = u; printed = n }

    value_so : (u n : ℕ) (v : Value) → Ends (ended u n (Ok v)) → (z : ℤ) → Values.meant v ≡ number z → in_range z ≡ true → Pays (ended u n (Ok v))
    unfolding Pays
    value_so u n (Value.Int y) x z e r = record {
      printed = (so (ended u n (Ok (Value.Int y))) x).printed;
      runs = runs_to_pay (so (ended u n (Ok (Value.Int y))) x).ran refl refl;
      small = small_int _ (subst (λ (z : ℤ). in_range z ≡ true) (one_int e) r);
      leaves = leaves (ended u n (Ok (Value.Int y))) x;
    }
    value_so u n (Value.Float y) x z e r = absurd (float_number e)
    value_so u n (Value.Flag b) x z e r = absurd (flag_number e)
    value_so u n Value.Nothing x z e r = absurd (nothing_number e)
    value_so u n (Value.Cell c) x z e r = absurd (cell_number e)

    end_so : (u n : ℕ) (e : Result Value (Located Stop ℕ)) → Ends (ended u n e) → Pays (ended u n e)
    unfolding Pays
    end_so u n (Ok v) x = by (ended_so (ended u n (Ok v)) x)
      where
        by : Ended passed (Values.meant v) → Pays (ended u n (Ok v))
        by (inl e) = value_so u n v x e.1 e.2 e.3
        by (inr e) = absurd (passed_stop e.1)
    end_so u n (Err s) x = record {
      printed = (so (ended u n (Err s)) x).printed;
      runs = runs_to_stop (so (ended u n (Err s)) x).ran refl;
      small = tt;
      leaves = leaves (ended u n (Err s)) x;
    }

    pays_so : (r : Ending ℕ) → Ends r → Pays r
    pays_so r x = end_so r.units r.printed r.end x

    pub ran_so : (r : Ending ℕ) (o : Outcome) → Called table work out table' work' out' P j allowance r → o ≡ ended_as r
        → Ran ed book (needed (length out) allowance) j P table work out o table' work' out'
    unfolding Pays
    ran_so r o x f = subst (λ (o : Outcome). Ran ed book l j P table work out o table' work' out') (sym f) (pays_so r x)

-- a book that is ready can be called
pub ready_callable : (P : Held) (table work : List ℕ) (allowance : ℕ) (j : Job) → ReadyForSome P table work allowance → j.picks ≤ LARGEST
    → j.rate ≤ LARGEST → Callable table work P j allowance
ready_callable P table work allowance j x p q = record {
  edition = x.edition;
  book = x.book;
  prepared = x.ready.prepared;
  picks = p;
  rate = q;
  long = x.ready.long;
  allowed = x.ready.fair;
}

-- ---- a line

-- what a good line asks for can be written
pub good_small : (p : Part) (k : Option Line.Job) (j : Line.Job) → k ≡ job_told p → k ≡ Some j → (j.picks ≤ LARGEST) × (j.rate ≤ LARGEST)
unfolding job_told
good_small p k j e f = grind (arith, nat_tests)

module _ (P : Held) (table work out : List ℕ) (allowance : ℕ) (part : Part) (k : Option Line.Job) (told : k ≡ job_told part) where
  pub came_good : (j : Line.Job) (o : Outcome) (table' work' out' : List ℕ) → k ≡ Some j
      → RanForAny P record { picks = j.picks; rate = j.rate } table work out allowance o table' work' out'
      → CameForAny P part table work out allowance o table' work' out'
  came_good j o table' work' out' e ran ed book x =
      let r = ran ed book x in
      record { printed = r.printed; ends = ends_run (sym told ∙ e) r.runs; small = r.small; leaves = r.leaves }

  pub came_bad : k ≡ None → CameForAny P part table work out allowance Outcome.Bad table work out
  came_bad e ed book x = record {
    printed = [];
    ends = ends_bad (sym told ∙ e);
    small = tt;
    leaves = record { prepared = x.prepared; table_rest = refl; work_same = refl; output = refl };
  }
