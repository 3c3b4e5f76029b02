use Rattle.language.specs.Meaning.{type_number}
use mathlib.Core.Path.{refl}
use native.Mathlib.Omega.{arith}
use Rattle.rules.proofs.ShapeLaws.{operand_is, arithmetic_float, arithmetic_other}
use Rattle.rules.proofs.operators.operand.Goals as goal

pub returns-in-25 : goal.returns-in-25
unfolding type_number
returns-in-25 c =
    operand_is _ (λ e. refl) (λ e. refl) (λ e. omega arith) (λ x y z. absurd (omega (arith, x, y)))

pub returns-in-28 : goal.returns-in-28
unfolding type_number
returns-in-28 c =
    operand_is _ (λ e. omega arith) (λ e. omega arith) (λ e. refl) (λ x y z. absurd (z c.in-28.is))

pub returns-in_default : goal.returns-in_default
unfolding type_number
returns-in_default c =
    operand_is _ (λ e. omega arith) (λ e. omega arith) (λ e. omega arith) (λ x y z. arithmetic_float c.if-first-eq-FLOAT.true)

pub returns-in_default-2 : goal.returns-in_default-2
unfolding type_number
returns-in_default-2 c =
    operand_is _ (λ e. omega arith) (λ e. omega arith) (λ e. omega arith) (λ x y z. arithmetic_other c.if-first-eq-FLOAT.false)
