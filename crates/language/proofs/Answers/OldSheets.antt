-- A sheet that passed under the paper's first grammar passes as the same tree with the same type (R05.4), and check and run tell
-- of it what they told: types and meaning are of trees, and trees are what they were.
use mathlib.Core.List.{List}
use mathlib.Core.Option.{some}
use mathlib.Core.Path.{◌≡◌}
use Prim.Native.Nat.{ℕ, ◌≤◌}
use Rattle.language.specs.Sizes.{Sizes, ALLOWANCE}
use Rattle.language.specs.Tokens.{Token}
use Rattle.language.specs.Trees.{Ty, Program}
use Rattle.language.specs.Grammar.{Reading}
use Rattle.language.specs.Types.{HasTypeUnder}
use Rattle.language.specs.Meaning.{run, type_number}
use Rattle.language.specs.Numbers.{passed}
use Rattle.language.specs.Answers.{Origin, PassesUnder, Ending, ending, CheckReport, check_report, CheckedUnder}
use Rattle.language.specs.Answers.{check_passed, Lent, EnoughUnder, RunReport, after_run, RanUnder, run_ended}
use Rattle.language.proofs.Grammar.OldGrammar.{OldReading, old_reading_reads}
use Rattle.language.proofs.Grammar.OneReading.{one_reading}
use Rattle.language.proofs.Answers.Origins.{LawfulUnder}
use Rattle.language.proofs.Answers.OneAnswer.{one_checked, one_ran}

-- it passed: its tokens had a reading, and that has a type
pub record OldPasses (σ : Sizes) {P : Type 0} (o : Origin P) (ts : List Token) (p : Program) (t : Ty) : Type 0 where
  pub given : o.gives ts
  pub reads : OldReading ts p
  pub typed : HasTypeUnder σ p t

module _ {σ : Sizes} {P : Type 0} {o : Origin P} (law : LawfulUnder σ o) {ts : List Token} {p : Program} {t : Ty} (old : OldPasses σ o ts p t) where
  -- it passes, with the same tree and type
  pub still_passes : PassesUnder σ o ts p t
  still_passes = record {
    given = old.given;
    proper = record {
      reads = old_reading_reads old.reads;
      typed = old.typed;
    };
  }

  -- and has no other tree
  pub same_tree : (q : Program) → Reading ts q → q ≡ p
  same_tree q r = one_reading ts q p r (old_reading_reads old.reads)

  -- check tells the type
  pub still_checked : {table : ℕ} {r : CheckReport P} → σ.table ≤ table → CheckedUnder σ o table r
      → r ≡ check_report passed o.nowhere (type_number t)
  still_checked {table} room a = one_checked law table a (check_passed room still_passes)

  -- and run the end of that tree
  pub still_ran : {l : Lent} {e : Ending} {r : RunReport P} {bs : List ℕ} → EnoughUnder σ l → l.allowance ≤ ALLOWANCE
      → ending l.allowance (run p l.allowance l.output) ≡ some e → RanUnder σ o l r bs → (r ≡ after_run o ts t e) × (bs ≡ e.printed)
  still_ran {l} enough fair x a = one_ran law l a (run_ended enough fair still_passes x)
