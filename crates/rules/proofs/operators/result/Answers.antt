use Rattle.language.specs.Meaning.{type_number}
use mathlib.Core.Path.{refl}
use native.Mathlib.Omega.{arith}
use Rattle.rules.proofs.ShapeLaws.{result_is}
use Rattle.rules.proofs.operators.result.Goals as goal

pub returns-then-kind-lt-AND : goal.returns-then-kind-lt-AND
unfolding type_number
returns-then-kind-lt-AND c =
    result_is _ (λ l. refl) (λ l. absurd (omega (arith, c.if-kind-lt-AND.true)))

pub returns-else-kind-lt-AND : goal.returns-else-kind-lt-AND
unfolding type_number
returns-else-kind-lt-AND c =
    result_is _ (λ l. absurd (omega (arith, c.if-kind-lt-AND.false))) (λ l. refl)
