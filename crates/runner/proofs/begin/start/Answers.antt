use lib.Dec.{lit≤}
use Rattle.runner.proofs.Promises.{starts_frame}
use Rattle.runner.proofs.Starting.{starts_number, starts_amount, starts_operator, starts_prefix}
use Rattle.runner.proofs.begin.start.Goals as goal

pub literal-number-requires : goal.literal-number-requires
literal-number-requires c =
    starts_number c.word-kind.ensures c.if-kind-eq-NUMBER.true c.requires

pub returns-then-kind-eq-NUMBER : goal.returns-then-kind-eq-NUMBER
returns-then-kind-eq-NUMBER c =
    starts_amount c.word-kind.ensures c.if-kind-eq-NUMBER.true c.literal-number.ensures c.gives.ensures

pub wait-requires : goal.wait-requires
wait-requires c =
    let x = starts_frame c.requires in (x.0, x.1, x.2, x.3, x.4, lit≤ tt)

pub returns-then-operates : goal.returns-then-operates
returns-then-operates c =
    starts_operator c.word-kind.ensures c.operates.ensures c.if-operates.true c.link-left.ensures c.args.v
    c.wait.ensures.0 c.wait.ensures.1

pub wait-requires-then-kind-ge-PREFIX : goal.wait-requires-then-kind-ge-PREFIX
wait-requires-then-kind-ge-PREFIX c =
    let x = starts_frame c.requires in (x.0, x.1, x.2, x.3, x.4, lit≤ tt)

pub returns-then-kind-ge-PREFIX : goal.returns-then-kind-ge-PREFIX
returns-then-kind-ge-PREFIX c =
    starts_prefix c.word-kind.ensures c.if-kind-ge-PREFIX.true c.link-operand.ensures c.args.v
    c.wait-then-kind-ge-PREFIX.ensures.0 c.wait-then-kind-ge-PREFIX.ensures.1
