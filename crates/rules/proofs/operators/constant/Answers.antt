use mathlib.Core.Path.{refl}
use native.Mathlib.Omega.{arith}
use Rattle.language.specs.Meaning.{type_number}
use Rattle.rules.proofs.ShapeLaws.{constant_is}
use Rattle.rules.proofs.operators.constant.Goals as goal

pub returns-in-2 : goal.returns-in-2
unfolding type_number
returns-in-2 c = constant_is (λ e. refl) (λ e. omega arith) (λ e. omega arith) (λ e. omega arith) (λ e. omega arith)

pub returns-in-39 : goal.returns-in-39
unfolding type_number
returns-in-39 c = constant_is (λ e. omega arith) (λ e. refl) (λ e. omega arith) (λ e. omega arith) (λ e. omega arith)

pub returns-in-19 : goal.returns-in-19
unfolding type_number
returns-in-19 c = constant_is (λ e. omega arith) (λ e. omega arith) (λ e. omega arith) (λ e. omega arith) (λ e. refl)

pub returns-in_default : goal.returns-in_default
unfolding type_number
returns-in_default c = constant_is (λ e. omega arith) (λ e. omega arith) (λ e. refl) (λ e. refl) (λ e. omega arith)
