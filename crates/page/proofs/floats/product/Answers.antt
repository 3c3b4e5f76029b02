-- `product` puts the sign, the significand and the power.
use mathlib.Core.List.{◌++◌}
use mathlib.Core.Path.{◌≡◌}
use Prim.Native.Nat.{ℕ, ◌-◌}
use Rattle.language.specs.Tokens.{spell}
use Rattle.page.proofs.Adding.{being, ◌▸◌}
use Rattle.page.specs.Floats as Floats
use Rattle.page.specs.Floats.{sign_text, product_text}
use Rattle.page.specs.Text.{decimal_of}
use Rattle.page.proofs.floats.product.Goals as goal

told : (b : ℕ) {q k : ℕ} → q ≡ Floats.significand b → k ≡ Floats.steps b
    → ((sign_text b ++ decimal_of q) ++ spell "*2^") ++ decimal_of (k - 1074) ≡ product_text b
unfolding product_text
told b a d = rw (a, d)

pub returns : goal.returns
returns c =
    being (told c.args.bits c.significand-q.ensures.0 c.steps-k.ensures)
    (c.sign.ensures ▸ c.decimal.ensures ▸ c.put.ensures ▸ c.decimal-2.ensures)
