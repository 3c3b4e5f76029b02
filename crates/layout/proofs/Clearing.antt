-- Words that become 0: one more, none, what was written there before, and memories that differ only there.
use mathlib.Core.Path.{◌≡◌, refl, sym, ap, subst, ◌∙◌}
use mathlib.Core.Bool.{Bool, true, false}
use mathlib.Core.List.{List, [], ◌∷◌}
use Prim.Native.Nat.{ℕ, zero, suc, ◌+◌, ◌≤◌, ◌<◌}
use native.Mathlib.Decide.{ℕ_discrete}
use native.Mathlib.Omega.{arith}
use lib.Dec.{eqb}
use lib.ListN.{length, get_or, set, length-set}
use Rattle.std.proofs.Common.{take, drop, ◌++◌, append_assoc, add-one}
use Rattle.std.proofs.Math.ListN.{replicate}
use Rattle.std.proofs.Math.Seq.{take-suc-set}
use Rattle.std.proofs.lemmas.List.{take-append-drop, drop-drop, drop-set-lt}
use borrow.Rule.Slice.PartMut.{put_mid}
use lib.Seq.{set-set, set_comm, get_or-set_other, ext_get_or}
use borrow.Author.Tests.{eqb-true, eqb-false}
use Rattle.layout.specs.Table.{zeros}

-- words that are filled with 0
pub zeros_filled : (n a : ℕ) (w : List ℕ) → a + n ≤ length w → put_mid a n w (replicate n 0) ≡ zeros w a n
unfolding zeros
zeros_filled zero a w h = take-append-drop a w
zeros_filled (suc n) a w h = step ∙ zeros_filled n (a + 1) (set w a 0) (omega (arith, length-set w a 0))
  where
    front : take (a + 1) (set w a 0) ≡ take a w ++ (0 ∷ [])
    front = rw add-one (take-suc-set w a 0 (omega arith))

    rest : drop n (drop (a + 1) (set w a 0)) ≡ drop (suc n) (drop a w)
    rest = rw (drop-set-lt (a + 1) w a 0 (omega arith), drop-drop n (a + 1) w, drop-drop (suc n) a w) (ap (λ k. drop k w) (omega arith))

    step : put_mid a (suc n) w (replicate (suc n) 0) ≡ put_mid (a + 1) n (set w a 0) (replicate n 0)
    step = rw (front, rest, append_assoc) refl

-- what was written among the words that become 0 is lost
pub zeros_set : (n : ℕ) (w : List ℕ) (a j x : ℕ) → a ≤ j → j < a + n → zeros (set w j x) a n ≡ zeros w a n
unfolding zeros
zeros_set zero w a j x h l = absurd (omega arith)
zeros_set (suc n) w a j x h l = go (ℕ_discrete j a) λ g. zeros_set n (set w a 0) (a + 1) j x g (omega arith)
  where
    go : Dec (j ≡ a) → (a + 1 ≤ j → zeros (set (set w a 0) j x) (a + 1) n ≡ zeros (set w a 0) (a + 1) n)
        → zeros (set (set w j x) a 0) (a + 1) n ≡ zeros (set w a 0) (a + 1) n
    go (yes e) ih = ap (λ (z : List ℕ). zeros z (a + 1) n) (ap (λ (k : ℕ). set (set w k x) a 0) e ∙ set-set w a x 0)
    go (no e) ih = ap (λ (z : List ℕ). zeros z (a + 1) n) (set_comm w j a x 0 e) ∙ ih (omega arith)

zero_here : (v : List ℕ) (a : ℕ) → get_or (set v a 0) a 0 ≡ 0
zero_here [] a = refl
zero_here (x ∷ v) zero = refl
zero_here (x ∷ v) (suc a) = zero_here v a

-- memories that are the same outside the words that become 0 are the same then
pub zeros_same : (n a : ℕ) (v w : List ℕ) → length v ≡ length w → ((k : ℕ) → (a ≤ k → k < a + n → ⊥) → get_or v k 0 ≡ get_or w k 0)
    → zeros v a n ≡ zeros w a n
unfolding zeros
zeros_same zero a v w e h = ext_get_or 0 v w e (λ k l. h k (λ p q. omega arith))
zeros_same (suc n) a v w e h =
    zeros_same n (a + 1) (set v a 0) (set w a 0) (length-set v a 0 ∙ e ∙ sym (length-set w a 0)) (λ k l. by k l (eqb k a) refl)
  where
    by : (k : ℕ) → (a + 1 ≤ k → k < a + 1 + n → ⊥) → (b : Bool) → eqb k a ≡ b → get_or (set v a 0) k 0 ≡ get_or (set w a 0) k 0
    by k l true q =
        subst (λ (j : ℕ). get_or (set v a 0) j 0 ≡ get_or (set w a 0) j 0) (sym (eqb-true k a q)) (zero_here v a ∙ sym (zero_here w a))
    by k l false q =
        let d = eqb-false k a q in
        get_or-set_other v a k 0 0 d ∙ h k (λ x y. l (omega arith) (omega arith)) ∙ sym (get_or-set_other w a k 0 0 d)
