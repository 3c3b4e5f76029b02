-- The end of a program that is told: every program that has a type has one, and it is a value's or a stop's.
use mathlib.Core.Option.{Option, none, some}
use mathlib.Core.Path.{◌≡◌, refl, subst}
use Prim.Native.Nat.{ℕ}
use Rattle.language.specs.Sizes.{Sizes}
use Rattle.language.specs.Trees.{Ty, Program}
use Rattle.language.specs.Types.{HasTypeUnder}
use Rattle.language.specs.State.{Outcome, value, stop, stuck}
use Rattle.language.specs.Meaning.{run}
use Rattle.language.specs.Numbers.{Told, passed, refused, stopped}
use Rattle.language.specs.Answers.{Ending, ending}
use Rattle.language.proofs.Meaning.NeverStuck.{never_stuck}

-- what is told was run
abbrev pub IsRun : Told → Type 0
IsRun passed = Unit {0}
IsRun (refused r) = ⊥
IsRun (stopped w) = Unit {0}

abbrev WasRun : Option Ending → Type 0
WasRun none = Unit {0}
WasRun (some e) = IsRun e.told

was_run : (allowance : ℕ) (m : Outcome) → WasRun (ending allowance m)
unfolding ending
was_run allowance (value v s) = tt
was_run allowance (stop w i s) = tt
was_run allowance stuck = tt

pub is_run : {e : Ending} (allowance : ℕ) (m : Outcome) → ending allowance m ≡ some e → IsRun e.told
is_run allowance m x = subst WasRun x (was_run allowance m)

module _ {σ : Sizes} (p : Program) (t : Ty) (allowance room : ℕ) (typed : HasTypeUnder σ p t) where
  ends : (m : Outcome) → run p allowance room ≡ m → (e : Ending) × (ending allowance m ≡ some e)
  unfolding ending
  ends (value v s) x = (_, refl)
  ends (stop w i s) x = (_, refl)
  ends stuck x = absurd (never_stuck p t allowance room typed x)

  pub some_ending : (e : Ending) × (ending allowance (run p allowance room) ≡ some e)
  some_ending = ends (run p allowance room) refl
