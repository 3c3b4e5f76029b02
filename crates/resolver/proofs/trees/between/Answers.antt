use mathlib.Core.Path.{refl}
use native.Mathlib.Omega.{arith}
use Rattle.resolver.proofs.Framing.{level, let_bound, held_bound}
use Rattle.resolver.proofs.trees.between.Goals as goal

pub returns-in-4 : goal.returns-in-4
returns-in-4 c =
    let_bound _ _ _ _ _ _ c.requires.0 c.requires.2 c.put_name.ensures _ c.in-4.is c.link-own.ensures
    c.value-number.ensures

pub returns-in-32 : goal.returns-in-32
returns-in-32 c = level _ _ _ _ c.in-32.is

pub returns-in_default : goal.returns-in_default
returns-in_default c =
    held_bound _ _ _ _ _ _ c.requires.0 c.requires.2 c.put_name-in_default.ensures refl (λ e. grind arith) (λ e. grind arith)
    (λ e. grind arith) (λ e. grind arith)
