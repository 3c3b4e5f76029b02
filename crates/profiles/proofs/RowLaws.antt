-- The share of a row by the tests of the code.
use mathlib.Core.Bool.{Bool, true, false, false≢true}
use mathlib.Core.List.{List}
use mathlib.Core.Path.{◌≡◌, refl, sym, ap, subst, ◌∙◌}
use Prim.Native.Nat.{ℕ, suc, ◌<◌}
use borrow.Author.Tests.{eq-eqb, ne_eqb}
use Rattle.language.specs.Tokens.{WHILE}
use Rattle.layout.specs.Table.{KIND, EXPRESSION, NEXT, row_word}
use Rattle.layout.specs.Rows.{CALL}
use Rattle.layout.specs.Decode.{counts}
use Rattle.rules.specs.Asked.{Children}
use Rattle.layout.specs.Functions.{function_name}
use Rattle.profiles.specs.Shares.{beside, earlier, part, reach, body_word, find_share, callee_share, around_share}
use Rattle.profiles.specs.Shares.{over_share}
use Rattle.profiles.specs.Passes.{Summed, sum_none, sum_more, RowShare, of_call, of_for, of_while, of_plain}

-- ---- calls

module _ (w : List ℕ) (x : ℕ) {i k : ℕ} (last : i ≡ suc k) where
  pub body_here : function_name w k ≡ x → find_share w x i ≡ body_word w k
  unfolding find_share
  body_here e = rw (last, eq-eqb _ _ (sym e)) refl

  pub body_past : (function_name w k ≡ x → ⊥) → find_share w x i ≡ find_share w x k
  unfolding find_share
  body_past h = rw (last, ne_eqb _ _ (λ e. h (sym e))) refl

pub body_none : (w : List ℕ) (x : ℕ) {i : ℕ} → i ≡ 0 → find_share w x i ≡ 0
unfolding find_share
body_none w x over = rw over refl

-- ---- arguments

-- none are left
pub sum_over : (w : List ℕ) {r s : ℕ} → r ≡ 0 → Summed w r s s
sum_over w e = rw e sum_none

-- one more is beside the others
pub sum_step : (w : List ℕ) {r s p s' r' t : ℕ} → 0 < r → p ≡ part w r EXPRESSION → s' ≡ beside s p → r' ≡ earlier w r NEXT → Summed w r' s' t
    → Summed w r s t
sum_step w {s = a} {t = t} h p s r q = sum_more {s = a} {t = t} h (rw (sym r, sym p, sym s) q)

-- ---- a row

module _ (w : List ℕ) (i x n : ℕ) {k : ℕ} (kind : k ≡ row_word w i KIND) where
  pub share_call : {s b r : ℕ} → k ≡ CALL → Summed w (reach w i) 1 s → b ≡ callee_share w i x n → r ≡ beside s b → RowShare w i x n r
  share_call {s} e q b r = subst (RowShare w i x n) (sym (r ∙ ap (beside s) b)) (of_call (sym kind ∙ e) q)

  pub share_for : {t : Bool} {s r : ℕ} → t ≡ counts k → t ≡ true → Summed w (reach w i) 1 s → r ≡ around_share w i s → RowShare w i x n r
  share_for e t q r = subst (RowShare w i x n) (sym r) (of_for (ap counts (sym kind) ∙ sym e ∙ t) q)

  pub share_while : {o r : ℕ} → k ≡ WHILE → o ≡ over_share w i 1 → r ≡ around_share w i o → RowShare w i x n r
  share_while e o r = subst (RowShare w i x n) (sym (r ∙ ap (around_share w i) o)) (of_while (sym kind ∙ e))

  pub share_plain : {t : Bool} {c r : ℕ} → (k ≡ CALL → ⊥) → t ≡ counts k → t ≡ false → (k ≡ WHILE → ⊥) → Children k c → r ≡ over_share w i c
      → RowShare w i x n r
  share_plain {c = c} no_call e t no_while h r =
      subst (RowShare w i x n) (sym r)
      (of_plain (λ d. no_call (kind ∙ d)) (λ d. false≢true (sym t ∙ e ∙ ap counts kind ∙ d)) (λ d. no_while (kind ∙ d))
      (subst (λ (j : ℕ). Children j c) kind h))
