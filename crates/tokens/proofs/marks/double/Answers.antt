-- `double` looks two bytes up among the marks of two bytes.
use mathlib.Core.List.{[], ◌∷◌}
use mathlib.Core.Path.{refl}
use Rattle.language.proofs.Text.Tables.{every}
use Rattle.language.specs.Tokens.{spell, same, spelled, marks, EQUAL, BECOMES, AND, OR}
use Rattle.tokens.proofs.FirstBytes.{begins_so, other_first}
use Rattle.tokens.proofs.MarkBytes.{second_is}
use Rattle.tokens.proofs.marks.double.Goals as goal

pub returns-in-61 : goal.returns-in-61
unfolding spelled same
returns-in-61 c = second_is 61 EQUAL _ c.in-61.is c.then_some.ensures refl

pub returns-in-58 : goal.returns-in-58
unfolding spelled same
returns-in-58 c = second_is 61 BECOMES _ c.in-58.is c.then_some-in-58.ensures refl

pub returns-in-38 : goal.returns-in-38
unfolding spelled same
returns-in-38 c = second_is 38 AND _ c.in-38.is c.then_some-in-38.ensures refl

pub returns-in-124 : goal.returns-in-124
unfolding spelled same
returns-in-124 c = second_is 124 OR _ c.in-124.is c.then_some-in-124.ensures refl

pub returns-in_default : goal.returns-in_default
unfolding every begins_so
returns-in_default c =
    other_first marks (spell "|&:=") _ (_ ∷ []) refl c.in_default.in_default-own.rest
