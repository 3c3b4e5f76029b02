-- The lines of an input by one byte after the other, and that it does not matter where the input is cut (R14.8): what is fed
-- in pieces is fed as a whole.
use mathlib.Core.List.{List, [], ◌∷◌, ◌++◌}
use mathlib.Core.Path.{◌≡◌, refl, sym, ap₂, subst}
use native.Mathlib.Omega.{arith}
use Prim.Native.Nat.{ℕ}
use Rattle.language.specs.Answers.{Lent}
use Rattle.language.specs.Feeding.{Sofar, with_outcome, Steps, step_past, step_full, step_byte, step_feed, Fed, fed_none, fed_more}
use Rattle.language.proofs.Text.Choices.{clash}
use Rattle.language.proofs.Shift.LineOutcomes.{one_outcome}

-- ---- cut anywhere

module _ {ed : ℕ} {book : List ℕ} {l : Lent} where
  pub fed_joined : {s m e : Sofar} {x y : List ℕ} → Fed ed book l s x m → Fed ed book l m y e → Fed ed book l s (x ++ y) e
  fed_joined fed_none g = g
  fed_joined (fed_more a f) g = fed_more a (fed_joined f g)

  pub fed_cut : {s e : Sofar} (x : List ℕ) {y : List ℕ} → Fed ed book l s (x ++ y) e → (m : Sofar) × Fed ed book l s x m × Fed ed book l m y e
  fed_cut {s} [] f = (s, fed_none, f)
  fed_cut (b ∷ x) (fed_more a f) = let z = fed_cut x f in (z.0, fed_more a z.1, z.2)

  -- ---- one end

  one_step : {s m e : Sofar} {b : ℕ} → Steps ed book l s b m → Steps ed book l s b e → m ≡ e
  one_step (step_past h) (step_past k) = refl
  one_step (step_past h) (step_full k r) = absurd (clash h k)
  one_step (step_past h) (step_byte k r i) = absurd (clash h k)
  one_step (step_past h) (step_feed k r i c) = absurd (clash h k)
  one_step (step_full h n) (step_past k) = absurd (clash k h)
  one_step (step_full h n) (step_full k r) = refl
  one_step (step_full h n) (step_byte k r i) = absurd (omega arith)
  one_step (step_full h n) (step_feed k r i c) = absurd (omega arith)
  one_step (step_byte h n i) (step_past k) = absurd (clash k h)
  one_step (step_byte h n i) (step_full k r) = absurd (omega arith)
  one_step (step_byte h n i) (step_byte k r j) = refl
  one_step (step_byte h n i) (step_feed k r j c) = absurd (clash i j)
  one_step (step_feed h n i c) (step_past k) = absurd (clash k h)
  one_step (step_feed h n i c) (step_full k r) = absurd (omega arith)
  one_step (step_feed h n i c) (step_byte k r j) = absurd (clash j i)
  one_step {s} (step_feed h n i c) (step_feed k r j d) = let z = one_outcome c d in ap₂ (with_outcome s) z.0 z.1

  pub one_fed : {s m e : Sofar} {x : List ℕ} → Fed ed book l s x m → Fed ed book l s x e → m ≡ e
  one_fed fed_none fed_none = refl
  one_fed {e = e} {x = b ∷ x} (fed_more a f) (fed_more c g) =
      one_fed f (subst (λ (m : Sofar). Fed ed book l m x e) (sym (one_step a c)) g)
