use mathlib.Core.Path.{refl}
use native.Mathlib.Omega.{arith}
use Rattle.rules.proofs.OperatorLaws.{prefixed, prefixed_new}
use Rattle.language.specs.Trees.{int, bool, minus, not, fetch}
use Rattle.language.specs.Faults.{unsuited}
use Rattle.language.specs.Meaning.{type_number}
use Rattle.language.proofs.Executable.Operators.{unop}
use Rattle.layout.specs.Rows.{unary_kind}
use Rattle.rules.proofs.operators.unary.Goals as goal

pub returns-in-86 : goal.returns-in-86
unfolding unop unsuited unary_kind type_number
returns-in-86 c = prefixed _ minus c.in-86.is (λ t p. c.alike.ensures t int p refl)

pub returns-in-77 : goal.returns-in-77
unfolding unop unsuited unary_kind type_number
returns-in-77 c = prefixed _ not c.in-77.is (λ t p. c.alike-in-77.ensures t bool p refl)

pub returns-in-95 : goal.returns-in-95
unfolding unop unsuited unary_kind type_number
returns-in-95 c = prefixed _ fetch c.in-95.is c.fetched.ensures

pub returns-in_default : goal.returns-in_default
unfolding unop unsuited unary_kind type_number
returns-in_default c = prefixed_new _ (λ e. omega arith) (λ e. omega arith) (λ e. omega arith) c.referred.ensures
