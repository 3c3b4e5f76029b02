-- `doubled` reads the second byte where the first begins a mark of two.
use mathlib.Core.List.{[], ◌∷◌}
use mathlib.Core.Logic.{inl, inr}
use mathlib.Core.Path.{refl}
use native.Mathlib.Omega.{arith}
use Rattle.language.proofs.Text.Tables.{every}
use Rattle.language.specs.Tokens.{spell, marks}
use Rattle.tokens.proofs.FirstBytes.{begins_so, other_first}
use Rattle.tokens.proofs.marks.doubled.Goals as goal

pub overflow_add-place : goal.overflow_add-place
overflow_add-place c =
    omega (arith, c.args.place.now.inside, c.args.place.now.near)

pub returns-in_default : goal.returns-in_default
unfolding every begins_so
returns-in_default c =
    let r = c.in_default.in_default-own.rest.1 in
    other_first marks (spell "|&:=") _ (_ ∷ []) refl
    ((((tt, λ e. r (inr (inr (inl e)))), λ e. r (inr (inl e))), λ e. r (inl e)), λ e. r (inr (inr (inr e))))
