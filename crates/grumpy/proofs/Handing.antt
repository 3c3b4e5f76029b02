-- A refusal that a `?` hands on.
use mathlib.Core.Path.{◌≡◌, ap}
use Rattle.std.proofs.Common.{Result, Ok, Err, IsErrAnd}

pub handed_on : {A E : Type 0} {r : Result A E} {e : E} → IsErrAnd r (λ y. y ≡ e) → r ≡ Err e
handed_on {r = Ok x} h = absurd h
handed_on {r = Err y} h = ap Err h
