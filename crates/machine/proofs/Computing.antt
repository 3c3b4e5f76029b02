-- Operators of two operands, of which the left one is no int: one operation on floats, or the meaning is stuck.
use mathlib.Core.Path.{◌≡◌, refl, sym, ap, subst}
use mathlib.Core.Option.{none, some}
use Prim.Native.Nat.{ℕ}
use lib.Ieee.{Float, binary64, add, sub, mul, div, lt}
use Rattle.language.specs.Tokens.{PLUS, MINUS, STAR, SLASH, LESS}
use Rattle.language.specs.State as M
use Rattle.language.specs.State.{number, float, flag, nothing, cell, as_int, as_float, when_some, alike}
use Rattle.language.specs.Meaning.{apply_binary}
use Rattle.language.proofs.Meaning.CellTypes.{none_some, some_one}
use Rattle.layout.specs.declared.values.Value.{Value}
use Rattle.layout.specs.declared.values.Value.TheVariants.{Flag}
use Rattle.machine.specs.Rows.{binary_of, OnNumbers}
use Rattle.machine.specs.Outcomes.{anything, Judged}
use Rattle.machine.specs.Outcomes.{Outcome}
use Rattle.std.specs.Prelude.{Ok}
use Rattle.machine.proofs.Telling.{tells_same, want_none, alike_float, alike_neither}
use Rattle.machine.proofs.Reckoning.{is_equal, all_numbers}

-- ---- two floats

module _ (op : ℕ) (x y : Float) where
  abbrev Computes : Outcome → Type 0
  Computes r = Judged (λ i σ. apply_binary i (binary_of op) (float x) (float y) σ) r

  -- +
  pub computes_add : op ≡ PLUS → Computes (Ok (Value.Float (add binary64 x y)))
  unfolding apply_binary alike when_some binary_of
  computes_add e = λ i σ. tells_same (rw e refl)

  -- -
  pub computes_sub : op ≡ MINUS → Computes (Ok (Value.Float (sub binary64 x y)))
  unfolding apply_binary alike when_some binary_of
  computes_sub e = λ i σ. tells_same (rw e refl)

  -- *
  pub computes_mul : op ≡ STAR → Computes (Ok (Value.Float (mul binary64 x y)))
  unfolding apply_binary alike when_some binary_of
  computes_mul e = λ i σ. tells_same (rw e refl)

  -- /
  pub computes_div : op ≡ SLASH → Computes (Ok (Value.Float (div binary64 x y)))
  unfolding apply_binary alike when_some binary_of
  computes_div e = λ i σ. tells_same (rw e refl)

  -- <
  pub computes_less : op ≡ LESS → Computes (Ok (Flag (lt x y)))
  unfolding apply_binary alike when_some binary_of
  computes_less e = λ i σ. tells_same (rw e refl)

  -- == asks for ints
  pub computes_equal : OnNumbers op → (op ≡ PLUS → ⊥) → (op ≡ MINUS → ⊥) → (op ≡ STAR → ⊥) → (op ≡ SLASH → ⊥) → (op ≡ LESS → ⊥)
      → (r : Outcome) → Computes r
  unfolding apply_binary when_some
  computes_equal n a b c d e r = λ i σ. rw (is_equal op n a b c d e) anything

-- ---- two operands, the left one no int

float_is : (v : M.Value) {x : Float} → some x ≡ as_float v → float x ≡ v
float_is (float x) e = ap float (some_one e)
float_is (number z) e = absurd (none_some (sym e))
float_is (flag b) e = absurd (none_some (sym e))
float_is nothing e = absurd (none_some (sym e))
float_is (cell n) e = absurd (none_some (sym e))

module _ (op : ℕ) (a b : M.Value) where
  abbrev Does : Outcome → Type 0
  Does r = Judged (λ i σ. apply_binary i (binary_of op) a b σ) r

  -- both are floats
  pub does_floats : {x y : Float} (r : Outcome) → some x ≡ as_float a → some y ≡ as_float b
      → Judged (λ i σ. apply_binary i (binary_of op) (float x) (float y) σ) r → Does r
  does_floats {x} {y} r d e h =
      subst (λ (u : M.Value). Judged (λ i σ. apply_binary i (binary_of op) u b σ) r) (float_is a d)
      (subst (λ (u : M.Value). Judged (λ i σ. apply_binary i (binary_of op) (float x) u σ) r) (float_is b e) h)

  module _ (n : OnNumbers op) (no : none ≡ as_int a) (r : Outcome) where
    -- the left one alone
    pub does_left : {x : Float} → some x ≡ as_float a → none ≡ as_float b → Does r
    does_left d e = λ i σ. all_numbers op a b n (λ f g. alike_float a b f g no d e) (λ f. want_none (as_int a) _ no) i σ

    -- the left one is none
    pub does_other : none ≡ as_float a → Does r
    does_other e = λ i σ. all_numbers op a b n (λ f g. alike_neither a b f g no e) (λ f. want_none (as_int a) _ no) i σ
