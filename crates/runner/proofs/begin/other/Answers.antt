use mathlib.Core.Path.{refl}
use lib.Dec.{lit<}
use Rattle.runner.proofs.Promises.{starts_row, starts_frame}
use Rattle.runner.proofs.Starting.{starts_waits, starts_inside, starts_bound, starts_literal, starts_leaf}
use Rattle.runner.proofs.begin.other.Goals as goal

pub pass-requires : goal.pass-requires
pass-requires c =
    let x = starts_frame c.requires.0 in (
      (starts_row c.requires.0).0,
      x.0,
      x.1,
      x.2,
      starts_inside c.requires.1 c.counts.ensures c.if-counts.true c.link-bound.ensures c.requires.0,
      lit< tt,
      x.3,
      x.4,
    )

pub returns-then-counts : goal.returns-then-counts
returns-then-counts c =
    starts_bound c.requires.1 c.counts.ensures c.if-counts.true c.link-bound.ensures
    c.pass.ensures.0 c.pass.ensures.1

pub wait-requires : goal.wait-requires
wait-requires c =
    starts_frame c.requires.0

pub returns-then-waits : goal.returns-then-waits
returns-then-waits c =
    starts_waits c.requires.1 c.requires.2 c.if-kind-eq-CALL.false c.counts.ensures c.if-counts.false
    c.waits.ensures c.if-waits.true
    c.phase_of-phase.ensures c.link-first.ensures (λ z. refl) c.args.v c.wait.ensures.0
    c.wait.ensures.1

pub literal-found-requires : goal.literal-found-requires
literal-found-requires c =
    starts_literal c.requires.1 c.requires.2 c.waits.ensures c.if-waits.false c.requires.0

pub returns : goal.returns
returns c =
    starts_leaf c.requires.1 c.requires.2 c.waits.ensures c.if-waits.false c.literal-found.ensures
    c.gives.ensures
