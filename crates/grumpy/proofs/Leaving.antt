-- What is left in lent memory once a source was looked at: the required words are zero, whatever is told.
use mathlib.Core.List.{List}
use mathlib.Core.Path.{◌≡◌, refl}
use Prim.Native.Nat.{ℕ, ◌≤◌}
use mathlib.Core.Logic.{inl, inr}
use native.Mathlib.Omega.{arith}
use Rattle.language.specs.Sizes.{TABLE}
use Rattle.language.specs.Meaning.{run}
use Rattle.language.specs.Numbers.{Refusal, Told, passed, refused, stopped}
use Rattle.language.specs.Answers.{Origin, Refused, cleared, left, CheckReport, Checked, check_short, check_refused, check_passed, RunReport, Lent}
use Rattle.language.specs.Answers.{Enough, Ran, run_short, run_large, run_refused, run_ended}
use Rattle.language.specs.Profile.{ProfileReport, Profiled, profile_short, profile_refused, profile_endless, profile_many, profile_passed}
use Rattle.language.proofs.Answers.Endings.{IsRun, is_run}
use Rattle.language.proofs.Answers.Origins.{Lawful, refused_clears}

run_left : (a : Told) → IsRun a → (n : ℕ) (words : List ℕ) → left a n words ≡ cleared n words
unfolding left
run_left passed h n words = refl
run_left (refused r) h n words = absurd h
run_left (stopped w) h n words = refl

module _ {P : Type 0} {o : Origin P} (law : Lawful o) where
  refused_left : {r : Refusal} {x : P} → Refused o r x → (n : ℕ) (words : List ℕ) → left (refused r) n words ≡ cleared n words
  unfolding left
  refused_left a n words = rw (refused_clears law a) refl

  pub checked_left : {table : ℕ} {r : CheckReport P} → TABLE ≤ table → Checked o table r → (n : ℕ) (words : List ℕ) → left r.told n words ≡ cleared n words
  unfolding left
  checked_left h (check_short k) n words = absurd (omega arith)
  checked_left h (check_refused k a) n words = refused_left a n words
  checked_left h (check_passed k a) n words = refl

  pub profiled_left : {table : ℕ} {r : ProfileReport P} → TABLE ≤ table → Profiled o table r
      → (n : ℕ) (words : List ℕ) → left r.told n words ≡ cleared n words
  unfolding left
  profiled_left h (profile_short k) n words = absurd (omega arith)
  profiled_left h (profile_refused k a) n words = refused_left a n words
  profiled_left h (profile_endless k a e) n words = refl
  profiled_left h (profile_many k a e m) n words = refl
  profiled_left h (profile_passed k a e m) n words = refl

  pub ran_left : {l : Lent} {r : RunReport P} {bs : List ℕ} → Enough l → Ran o l r bs → (n : ℕ) (words : List ℕ) → left r.told n words ≡ cleared n words
  unfolding left
  ran_left h (run_short (inl k)) n words = absurd (omega (arith, h.table))
  ran_left h (run_short (inr k)) n words = absurd (omega (arith, h.work))
  ran_left h (run_large e k) n words = refl
  ran_left h (run_refused e k a) n words = refused_left a n words
  ran_left {l} h (run_ended {p = p} {e = e} g k a x) n words = run_left e.told (is_run l.allowance (run p l.allowance l.output) x) n words
