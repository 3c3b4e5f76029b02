-- The end of a run: what is reported of it, what the output is, and that cleared memory is the same whatever lay in it.
use mathlib.Core.Path.{◌≡◌, refl, sym, ap, ◌∙◌}
use mathlib.Core.Bool.{Bool, true, false}
use mathlib.Core.List.{List, [], ◌∷◌, ◌++◌, reverse, reverse-cons}
use Prim.Native.Nat.{ℕ, zero, suc, ◌+◌, ◌-◌, ◌≤◌, ◌<◌}
use native.Mathlib.Omega.{arith}
use lib.Dec.{ltb}
use lib.ListN.{length, get_or, take, drop, length-drop, length-reverse, take-append-drop}
use lib.Seq.{get_or-drop, take-suc, ext_get_or}
use borrow.Author.Tests.{ltb-true, ltb-false}
use Rattle.language.specs.Sizes.{WORK}
use Rattle.language.specs.State as M
use Rattle.layout.specs.Table.{zeros}
use Rattle.layout.proofs.Clearing.{zeros_same}
use Rattle.machine.specs.Outcomes.{bytes, memory}
use Rattle.runner.specs.Standing.{Ending, ended, ending_of}
use Rattle.runner.specs.Contract.{result_of, reported, outcome_of, EndsAs}
use Rattle.runner.specs.declared.state.Next.{Next}

-- ---- cleared memory

-- what a run changed is among the words that are cleared
pub cleared_same : (w w1 : List ℕ) → length w1 ≡ length w → ((k : ℕ) → WORK ≤ k → get_or w1 k 0 ≡ get_or w k 0) → zeros w1 0 WORK ≡ zeros w 0 WORK
cleared_same w w1 long beyond = zeros_same WORK 0 w1 w long (λ i h. by i h (ltb i WORK) refl)
  where
    by : (i : ℕ) → (0 ≤ i → i < 0 + WORK → ⊥) → (b : Bool) → ltb i WORK ≡ b → get_or w1 i 0 ≡ get_or w i 0
    by i h true e = let l = ltb-true i WORK e in absurd (h (omega arith) (omega arith))
    by i h false e = beyond i (ltb-false i WORK e)

-- ---- the output

bytes_length : (o : List ℕ) (n : ℕ) → length (bytes o n) ≡ n
unfolding bytes
bytes_length o zero = refl
bytes_length o (suc n) = ap suc (bytes_length o n)

bytes_take : (o : List ℕ) (n : ℕ) → n ≤ length o → reverse (bytes o n) ≡ take n o
unfolding bytes
bytes_take o zero l = refl
bytes_take o (suc n) l =
    reverse-cons (get_or o n 0) (bytes o n)
    ∙ ap (λ (x : List ℕ). x ++ (get_or o n 0 ∷ [])) (bytes_take o n (omega arith))
    ∙ sym (take-suc o n 0 (omega arith))

drop_same : (n : ℕ) (v w : List ℕ) → length v ≡ length w → ((k : ℕ) → n ≤ k → get_or v k 0 ≡ get_or w k 0) → drop n v ≡ drop n w
drop_same n v w e h =
    ext_get_or 0 (drop n v) (drop n w) (length-drop n v ∙ ap (λ (k : ℕ). k - n) e ∙ sym (length-drop n w))
    (λ k l. get_or-drop n v k 0 ∙ h (n + k) (omega arith) ∙ sym (get_or-drop n w k 0))

-- the bytes printed, then what was behind them
pub output_is : (o o1 : List ℕ) (n : ℕ) → length o1 ≡ length o → n ≤ length o1 → ((k : ℕ) → n ≤ k → get_or o1 k 0 ≡ get_or o k 0)
    → o1 ≡ reverse (bytes o1 n) ++ drop (length (reverse (bytes o1 n))) o
output_is o o1 n e l h =
    let m : length (reverse (bytes o1 n)) ≡ n = length-reverse (bytes o1 n) ∙ bytes_length o1 n in
    sym (take-append-drop n o1)
    ∙ ap (λ (x : List ℕ). x ++ drop n o1) (sym (bytes_take o1 n l))
    ∙ ap (λ (x : List ℕ). reverse (bytes o1 n) ++ x) (drop_same n o1 o e h)
    ∙ ap (λ (k : ℕ). reverse (bytes o1 n) ++ drop k o) (sym m)

-- ---- the report

-- it is the outcome's, in the state in which the run ended
pub report_is : (e : Ending) (n : Next) (σ : M.State) → ended e n.value σ ≡ outcome_of (result_of e n) σ
report_is Ending.complete n σ = refl
report_is (Ending.stopped y p) n σ = refl

pub ends_as : {m : M.Outcome} (w o o1 : List ℕ) (n : Next) → ended (ending_of n.mode) n.value (memory w o1 n.tally) ≡ m
    → length o1 ≡ length o → n.tally.printed ≤ length o1 → ((k : ℕ) → n.tally.printed ≤ k → get_or o1 k 0 ≡ get_or o k 0)
    → EndsAs m o o1 (reported n)
ends_as w o o1 n e wide fits rest = record {
  state = memory w o1 n.tally;
  outcome = sym e ∙ report_is (ending_of n.mode) n (memory w o1 n.tally);
  left = refl;
  printed = sym (bytes_length o1 n.tally.printed);
  output = output_is o o1 n.tally.printed wide fits rest;
}
