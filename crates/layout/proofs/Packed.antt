-- Two numbers in one word, and each taken out again.
use mathlib.Core.Path.{◌≡◌, ap, ◌∙◌}
use Prim.Native.Nat.{ℕ, ◌+◌, ◌*◌, ◌/◌, ◌%◌, ◌<◌}
use native.Mathlib.Omega.{arith}
use native.Mathlib.Nat.{mul-add-div, add-mul-mod_self_left, div-eq_of_lt, mod-eq_of_lt, add_comm}
use Rattle.layout.specs.Slots.{TAGS}
use Rattle.layout.specs.Values.{tag_of}
use Rattle.layout.specs.declared.values.Value.{Value}
use Rattle.layout.specs.declared.values.Value.TheVariants.{Int, Float, Flag, Nothing, Cell}

-- every tag is less than the number of tags
pub tag_small : (v : Value) → tag_of v < TAGS
tag_small (Int z) = omega arith
tag_small (Float x) = omega arith
tag_small (Flag b) = omega arith
tag_small Nothing = omega arith
tag_small (Cell n) = omega arith

module _ (m : ℕ) (some : 0 < m) (k t : ℕ) (h : t < m) where
  -- the higher one
  pub packed_high : (m * k + t) / m ≡ k
  packed_high = mul-add-div {m = m} some k t ∙ ap (λ (n : ℕ). k + n) (div-eq_of_lt h) ∙ omega arith

  -- the lower one
  pub packed_low : (m * k + t) % m ≡ t
  packed_low = ap (λ (n : ℕ). n % m) (add_comm (m * k) t) ∙ add-mul-mod_self_left t m k ∙ mod-eq_of_lt h

module _ (k t : ℕ) (h : t < TAGS) where
  -- the key
  pub packed_key : (TAGS * k + t) / TAGS ≡ k
  packed_key = packed_high TAGS (omega arith) k t h

  -- the tag
  pub packed_tag : (TAGS * k + t) % TAGS ≡ t
  packed_tag = packed_low TAGS (omega arith) k t h
