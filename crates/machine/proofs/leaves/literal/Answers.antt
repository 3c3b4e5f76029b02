use mathlib.Core.Path.{sym, ◌∙◌}
use native.Mathlib.Omega.{arith}
use Rattle.machine.proofs.Literals.{carried_is, float_carried_is, literal_number, literal_float, literal_true, literal_false, literal_unit}
use Rattle.machine.proofs.leaves.literal.Goals as goal

pub returns-in-2 : goal.returns-in-2
returns-in-2 c =
    let k = sym c.word.ensures ∙ c.in-2.is in
    literal_number c.args.table.now c.args.node c.word.ensures c.in-2.is (c.requires.small k) _
    (carried_is c.args.table.now c.args.node c.link-at.ensures c.value.ensures)

pub returns-in-39 : goal.returns-in-39
returns-in-39 c =
    literal_float c.args.table.now c.args.node c.word.ensures c.in-39.is _
    (float_carried_is c.args.table.now c.args.node c.link-at-in-39.ensures c.high.ensures
    c.value-in-39.ensures c.join-bits.ensures c.of_bits.ensures)

pub returns-in-16 : goal.returns-in-16
returns-in-16 c = literal_true c.args.table.now c.args.node c.word.ensures c.in-16.is

pub returns-in-17 : goal.returns-in-17
returns-in-17 c = literal_false c.args.table.now c.args.node c.word.ensures c.in-17.is

pub returns-in_default : goal.returns-in_default
returns-in_default c =
    literal_unit c.args.table.now c.args.node c.word.ensures (λ e. omega arith) (λ e. omega arith) (λ e. omega arith)
    (λ e. omega arith)
