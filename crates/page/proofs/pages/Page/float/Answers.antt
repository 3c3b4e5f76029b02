-- `float` goes by the cases of the bits.
use mathlib.Core.Path.{subst}
use Prim.Native.Nat.{ℕ, ◌<◌, ◌≤◌}
use Rattle.page.proofs.Adding.{being, ◌▸◌}
use Rattle.page.proofs.FloatTexts.{no_number, endless, in_decimal, as_product}
use Rattle.page.proofs.pages.Page.float.Goals as goal

pub returns-then-unsigned-gt-ENDLESS : goal.returns-then-unsigned-gt-ENDLESS
returns-then-unsigned-gt-ENDLESS c = being (no_number c.args.bits c.if-unsigned-gt-ENDLESS.true) c.put.ensures

pub returns-then-unsigned-eq-ENDLESS : goal.returns-then-unsigned-eq-ENDLESS
returns-then-unsigned-eq-ENDLESS c =
    being (endless c.args.bits c.if-unsigned-gt-ENDLESS.false c.if-unsigned-eq-ENDLESS.true)
    (c.sign.ensures ▸ c.put-then-unsigned-eq-ENDLESS.ensures)

pub returns-then-steps-lt-LOW : goal.returns-then-steps-lt-LOW
returns-then-steps-lt-LOW c =
    being
    (in_decimal c.args.bits c.if-unsigned-gt-ENDLESS.false c.if-unsigned-eq-ENDLESS.false
    (subst (λ (n : ℕ). n < 1074) c.steps.ensures c.if-steps-lt-LOW.true)) c.in_thousandths.ensures

pub returns-else-steps-lt-LOW : goal.returns-else-steps-lt-LOW
returns-else-steps-lt-LOW c =
    being
    (as_product c.args.bits c.if-unsigned-gt-ENDLESS.false c.if-unsigned-eq-ENDLESS.false
    (subst (λ (n : ℕ). 1074 ≤ n) c.steps.ensures c.if-steps-lt-LOW.false)) c.product.ensures
