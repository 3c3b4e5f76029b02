-- Numbers that agree up to a bit and in that bit agree up to the next.
use mathlib.Core.Logic.{⊎_elim}
use mathlib.Core.Path.{◌≡◌, sym, ◌∙◌, ap₂}
use native.Mathlib.Nat.{mod-eq_of_lt}
use native.Mathlib.Omega.{arith}
use Prim.Native.Nat.{ℕ, ◌+◌, ◌*◌, ◌/◌, ◌%◌, ◌≤◌, ◌<◌}
use Rattle.language.proofs.Text.Choices.{either}
use Rattle.std.proofs.Math.Arith.{mod-mul}

module _ (a b : ℕ) {bit : ℕ} (e : a % bit ≡ b % bit) where
  pub agree_more : 0 < bit → (a / bit) % 2 ≡ (b / bit) % 2 → a % (bit * 2) ≡ b % (bit * 2)
  agree_more h f =
      let z : bit * 2 ≡ 2 * bit = omega arith in
      rw z (mod-mul a (omega arith) h ∙ ap₂ (λ (x y : ℕ). x * bit + y) f e ∙ sym (mod-mul b (omega arith) h))

  -- up to a bit above both they are the same
  pub agree_below : (n : ℕ) → a ≤ n → b ≤ n → (a ≡ b → ⊥) → bit ≤ n
  agree_below n h l d =
      ⊎_elim (λ (k : n < bit). absurd (d (sym (mod-eq_of_lt (omega arith)) ∙ e ∙ mod-eq_of_lt (omega arith)))) (λ k. k) (either n bit)
