-- What run answers does not hang on how long the lent memories are, where they are long enough; nor on how long the output is, unless
-- it was too short, which is 57.
use mathlib.Core.List.{List}
use mathlib.Core.Logic.{◌⊎◌, inl, inr}
use mathlib.Core.Option.{some}
use mathlib.Core.Path.{◌≡◌, refl, sym, ap, subst, ◌∙◌}
use Prim.Native.Nat.{ℕ, ◌+◌, ◌-◌, ◌≤◌, ◌<◌}
use native.Mathlib.Decide.{dec_le}
use native.Mathlib.Omega.{arith}
use Rattle.language.specs.Sizes.{Sizes, WORK}
use Rattle.language.specs.Trees.{Program}
use Rattle.language.specs.State.{output_full, Outcome, value, stop, stuck}
use Rattle.language.specs.Meaning.{run}
use Rattle.language.specs.Numbers.{number, stop_number}
use Rattle.language.specs.Answers.{Origin, Ending, ending, Lent, EnoughUnder, RunReport, RanUnder, run_short, run_large, run_refused, run_ended}
use Rattle.language.proofs.Meaning.CellTypes.{none_some, some_one}
use Rattle.language.proofs.Meaning.MoreUnits.{value_longer, stop_longer}

-- the end of a program with j bytes more of output
module _ (p : Program) (allowance room j : ℕ) where
  longer_ending : {e : Ending} (m : Outcome) → run p allowance room ≡ m → ending allowance m ≡ some e → (number e.told ≡ 57 → ⊥)
      → ending allowance (run p allowance (room + j)) ≡ some e
  unfolding ending
  longer_ending (value v s) x y h = ap (ending allowance) (value_longer p allowance room j v s x) ∙ y
  longer_ending (stop w i s) x y h =
      let n : w ≡ output_full → ⊥ = λ q. h (sym (ap (λ (e : Ending). number e.told) (some_one y)) ∙ ap stop_number q) in
      ap (ending allowance) (stop_longer p allowance room j w i s x n) ∙ y
  longer_ending stuck x y h = absurd (none_some y)

-- other memories and another output, with the same allowance
abbrev pub lent_as : ℕ → ℕ → ℕ → Lent → Lent
lent_as table work output l = record { table = table; work = work; output = output; allowance = l.allowance }

module _ {σ : Sizes} {l : Lent} (enough : EnoughUnder σ l) {table work output : ℕ} (long : σ.table ≤ table) (wide : WORK ≤ work)
    (roomy : l.output ≤ output) where
  enough_as : EnoughUnder σ (lent_as table work output l)
  enough_as = record { table = long; work = wide }

  not_short : (l.table < σ.table) ⊎ (l.work < WORK) → ⊥
  not_short (inl h) = omega (arith, enough.table)
  not_short (inr h) = omega (arith, enough.work)

  -- where it was 57, the output is as long as it was
  ending_as : (p : Program) {e : Ending} → ending l.allowance (run p l.allowance l.output) ≡ some e
      → (number e.told ≡ 57 → output ≡ l.output) → ending l.allowance (run p l.allowance output) ≡ some e
  ending_as p {e} y full = go (dec_le output l.output)
    where
      go : Dec (output ≤ l.output) → ending l.allowance (run p l.allowance output) ≡ some e
      go (yes h) =
          let z : l.output ≡ output = omega (arith, roomy, h) in
          subst (λ (m : ℕ). ending l.allowance (run p l.allowance m) ≡ some e) z y
      go (no h) =
          let z : l.output + (output - l.output) ≡ output = omega (arith, roomy) in
          let n : number e.told ≡ 57 → ⊥ = λ q. h (omega (arith, full q)) in
          let w = longer_ending p l.allowance l.output (output - l.output) (run p l.allowance l.output) refl y n in
          subst (λ (m : ℕ). ending l.allowance (run p l.allowance m) ≡ some e) z w

  pub ran_longer : {P : Type 0} {o : Origin P} {r : RunReport P} {bs : List ℕ} → (number r.told ≡ 57 → output ≡ l.output)
      → RanUnder σ o l r bs → RanUnder σ o (lent_as table work output l) r bs
  ran_longer full (run_short a) = absurd (not_short a)
  ran_longer full (run_large e a) = run_large enough_as a
  ran_longer full (run_refused e a x) = run_refused enough_as a x
  ran_longer full (run_ended {p = p} e a x y) = run_ended enough_as a x (ending_as p y full)
