-- `in_thousandths` puts the mark, the sign and the digits.
use mathlib.Core.List.{◌++◌}
use mathlib.Core.Path.{◌≡◌}
use Prim.Native.Nat.{ℕ, ◌-◌}
use Rattle.page.proofs.Adding.{being, ◌▸◌}
use Rattle.page.specs.Floats as Floats
use Rattle.page.specs.Floats.{about_text, sign_text, thousandths_text, decimal_text}
use Rattle.page.proofs.floats.in_thousandths.Goals as goal

told : (b : ℕ) {q k n : ℕ} → q ≡ Floats.significand b → k ≡ Floats.steps b → n ≡ Floats.thousandths q (1074 - k)
    → (about_text q (1074 - k) ++ sign_text b) ++ thousandths_text n ≡ decimal_text b
unfolding decimal_text
told b a d e = rw (e, a, d)

pub returns : goal.returns
returns c =
    being (told c.args.bits c.significand-q.ensures.0 c.steps-s.ensures c.thousandths.ensures)
    (c.about.ensures ▸ c.sign.ensures ▸ c.with_point.ensures)
