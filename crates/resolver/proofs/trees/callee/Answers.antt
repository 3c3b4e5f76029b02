use native.Mathlib.Omega.{arith}
use mathlib.Core.Path.{sym, ◌∙◌}
use Rattle.resolver.proofs.Framing.{found_inside}
use Rattle.resolver.proofs.trees.callee.Goals as goal

pub overflow_cast-result : goal.overflow_cast-result
overflow_cast-result c = omega (arith, found_inside _ _ _ c.requires.1 (sym c.find.ensures ∙ c.in-Some.is))
