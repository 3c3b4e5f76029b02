-- What a literal's row means.
use mathlib.Core.Path.{◌≡◌, refl, sym, ap, ◌∙◌}
use mathlib.Core.Bool.{true, false}
use mathlib.Core.List.{List}
use Prim.Native.Nat.{ℕ, ◌+◌, ◌*◌, ◌≤◌}
use native.Mathlib.Omega.{arith}
use borrow.Author.Tests.{ne_eqb}
use lib.Ieee.{Float, binary64, of_bits}
use lib.IntN.{pos}
use mir.Syntax.{w32}
use mir.Val.{to_z}
use mir.Facts.{to_z_pos}
use Rattle.language.specs.Sizes.{LARGEST}
use Rattle.language.specs.Tokens.{NUMBER, FLOAT_NUMBER, TRUE, FALSE}
use Rattle.language.specs.State.{number, float, flag, nothing}
use Rattle.language.specs.Meaning.{literal_value}
use Rattle.layout.specs.Table.{KIND, OWN, row_word, token_high, token_value}
use Rattle.layout.specs.Values.{HALF}
use Rattle.machine.specs.Rows.{carried, float_carried, literal_of}

-- what a row's own token carries, as it is read
pub carried_is : (w : List ℕ) (row : ℕ) {at x : ℕ} → at ≡ row_word w row OWN → x ≡ token_value w at → x ≡ carried w row
carried_is w row e f = f ∙ ap (λ (n : ℕ). token_value w n) e

-- and as a float, of both its words
pub float_carried_is : (w : List ℕ) (row : ℕ) {at h l n : ℕ} {x : Float} → at ≡ row_word w row OWN → h ≡ token_high w at → l ≡ token_value w at
    → n ≡ HALF * h + l → x ≡ of_bits binary64 n → x ≡ float_carried w row
float_carried_is w row {h = h} {l = l} e f g j k =
    let a : h ≡ token_high w (row_word w row OWN) = f ∙ ap (λ (m : ℕ). token_high w m) e in
    let b : l ≡ carried w row = carried_is w row e g in
    k ∙ ap (of_bits binary64) (j ∙ rw (a, b) refl)

module _ (w : List ℕ) (row : ℕ) {kind : ℕ} (e : kind ≡ row_word w row KIND) where
  -- a number
  pub literal_number : kind ≡ NUMBER → carried w row ≤ LARGEST → (x : ℕ) → x ≡ carried w row
      → number (to_z w32 x) ≡ literal_value (literal_of w row)
  unfolding literal_value literal_of
  literal_number h small x d =
      let k : row_word w row KIND ≡ NUMBER = sym e ∙ h in
      let q : to_z w32 (carried w row) ≡ pos (carried w row) = to_z_pos w32 (omega arith) in
      rw (k, d, q) refl

  -- a float number
  pub literal_float : kind ≡ FLOAT_NUMBER → (x : Float) → x ≡ float_carried w row → float x ≡ literal_value (literal_of w row)
  unfolding literal_value literal_of
  literal_float h x d = let k : row_word w row KIND ≡ FLOAT_NUMBER = sym e ∙ h in rw (k, d) refl

  -- `true`
  pub literal_true : kind ≡ TRUE → flag true ≡ literal_value (literal_of w row)
  unfolding literal_value literal_of
  literal_true h = let k : row_word w row KIND ≡ TRUE = sym e ∙ h in rw k refl

  -- `false`
  pub literal_false : kind ≡ FALSE → flag false ≡ literal_value (literal_of w row)
  unfolding literal_value literal_of
  literal_false h = let k : row_word w row KIND ≡ FALSE = sym e ∙ h in rw k refl

  -- none of these: `tt`
  pub literal_unit : (kind ≡ NUMBER → ⊥) → (kind ≡ FLOAT_NUMBER → ⊥) → (kind ≡ TRUE → ⊥) → (kind ≡ FALSE → ⊥)
      → nothing ≡ literal_value (literal_of w row)
  unfolding literal_value literal_of
  literal_unit a f b c =
      rw (
        ne_eqb (row_word w row KIND) NUMBER (λ q. a (e ∙ q)),
        ne_eqb (row_word w row KIND) FLOAT_NUMBER (λ q. f (e ∙ q)),
        ne_eqb (row_word w row KIND) TRUE (λ q. b (e ∙ q)),
        ne_eqb (row_word w row KIND) FALSE (λ q. c (e ∙ q)),
      ) refl
