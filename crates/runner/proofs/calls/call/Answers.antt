use mathlib.Core.Path.{sym, ◌∙◌}
use lib.Dec.{lit<}
use Rattle.runner.proofs.Promises.{starts_row, starts_frame}
use Rattle.runner.proofs.Starting.{calls_heads, calls_callable, calls_fits, calls_enters, calls_nobody, calls_inside, calls_passes}
use Rattle.runner.proofs.calls.call.Goals as goal

pub callee-requires : goal.callee-requires
callee-requires c =
    calls_heads c.requires.1 c.requires.0

pub enter-requires : goal.enter-requires
enter-requires c =
    let who = sym c.in-Some.is ∙ c.callee.ensures in
    let x = starts_frame c.requires.0 in (
      calls_callable c.requires.1 c.link-row.ensures c.if-row-eq0.true who c.requires.0,
      x.0,
      x.1,
      x.2,
      calls_fits c.requires.1 c.link-row.ensures c.if-row-eq0.true who c.requires.0,
    )

pub returns-in-Some : goal.returns-in-Some
returns-in-Some c =
    calls_enters c.requires.1 c.link-row.ensures c.if-row-eq0.true (sym c.in-Some.is ∙ c.callee.ensures)
    c.enter.ensures

pub returns-in-None : goal.returns-in-None
returns-in-None c =
    calls_nobody c.requires.1 c.link-row.ensures c.if-row-eq0.true
    (sym c.in-None.is ∙ c.callee.ensures) c.gives.ensures

pub pass-requires : goal.pass-requires
pass-requires c =
    let x = starts_frame c.requires.0 in (
      (starts_row c.requires.0).0,
      x.0,
      x.1,
      x.2,
      calls_inside c.requires.1 c.link-row.ensures c.if-row-eq0.false c.requires.0,
      lit< tt,
      x.3,
      x.4,
    )

pub returns : goal.returns
returns c =
    calls_passes c.requires.1 c.link-row.ensures c.if-row-eq0.false c.pass.ensures.0
    c.pass.ensures.1
