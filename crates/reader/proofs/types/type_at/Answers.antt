-- A type: its first word, and each `ref` behind it.
use mathlib.Core.Path.{sym, ◌∙◌}
use native.Mathlib.Omega.{arith}
use Rattle.reader.proofs.TypeLaws.{type_none, type_room, type_some}
use Rattle.reader.proofs.types.type_at.Goals as goal

pub refs-requires : goal.refs-requires
refs-requires c =
    let r = type_room _ _ _ _ c.kind.ensures (sym c.basic.ensures ∙ c.in-Some.is) in
    let p = c.requires in
    (p.0, p.1, omega arith, omega arith)

pub returns-in-Some : goal.returns-in-Some
returns-in-Some c =
    type_some _ _ _ _ c.kind.ensures (sym c.basic.ensures ∙ c.in-Some.is) c.refs.ensures

pub returns-in-None : goal.returns-in-None
returns-in-None c =
    type_none _ _ _ _ c.kind.ensures (sym c.basic.ensures ∙ c.in-None.is)
