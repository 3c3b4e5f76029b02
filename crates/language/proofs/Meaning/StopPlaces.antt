-- A stop is told at a token that was read.
use mathlib.Core.Path.{◌≡◌, subst}
use mathlib.Core.List.{List}
use Prim.Native.Nat.{ℕ, ◌<◌}
use lib.ListN.{length}
use Rattle.language.specs.Tokens.{Token}
use Rattle.language.specs.Trees.{Program}
use Rattle.language.specs.Grammar.{Reading}
use Rattle.language.specs.State.{State, Stop, stop}
use Rattle.language.specs.Meaning.{run}
use Rattle.language.proofs.Grammar.OwnTokens.{all_same}
use Rattle.language.proofs.Grammar.OwnOnce.{own_inside}
use Rattle.language.proofs.Meaning.Keeping.{Keeps, keeps_stop, Closed, keeps_run}

free_for_all : Closed (λ _. Unit {0})
free_for_all = record {
  use_unit = λ s u e h. tt;
  bear = λ s v k h. tt;
  write = λ s b v h. tt;
  free = λ s b h. tt;
  print = λ s r n e k h. tt;
}

told_at : {I : State → Type 0} {Q : ℕ → Type 0} {w : Stop} {i : ℕ} {s : State} → Keeps I Q (stop w i s) → Q i
told_at (keeps_stop q h) = q

pub stop_inside : (ts : List Token) (p : Program) (allowance room : ℕ) (w : Stop) (i : ℕ) (s : State)
    → Reading ts p → run p allowance room ≡ stop w i s → i < length ts
stop_inside ts p allowance room w i s r e =
    told_at (subst (Keeps (λ _. Unit {0}) (λ k. k < length ts)) e
    (keeps_run _ _ free_for_all p allowance room (all_same (λ o h. h.0) (own_inside ts p r)) tt))
