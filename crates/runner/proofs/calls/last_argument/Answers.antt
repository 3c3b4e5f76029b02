use mathlib.Core.Path.{sym, ap, ◌∙◌}
use lib.Dec.{lit<, lit≤}
use native.Mathlib.Omega.{arith}
use Rattle.layout.specs.Decode.{counts}
use Rattle.runner.proofs.Promises.{some_of}
use Rattle.runner.proofs.Arguing.{framed, last_heads, last_prints, last_slot, last_callable, last_fits, last_enters}
use Rattle.runner.proofs.calls.last_argument.Goals as goal

pub word-kind-requires : goal.word-kind-requires
word-kind-requires c =
    let x = framed c.requires.0 in (x.long, x.inside, lit< tt)

pub bounded-requires : goal.bounded-requires
bounded-requires c =
    let k = ap counts (sym c.word-kind.ensures) ∙ sym c.counts.ensures ∙ c.if-counts.true in
    (some_of _ (λ q x. x) c.requires.0, c.requires.1, k)

pub callee-requires : goal.callee-requires
callee-requires c =
    last_heads c.word-kind.ensures c.counts.ensures c.if-counts.false c.requires.1 c.requires.0

pub print-requires : goal.print-requires
print-requires c =
    let x = framed c.requires.0 in (x.long, x.inside, x.printed)

pub put-requires : goal.put-requires
put-requires c =
    let l = last_slot c.word-kind.ensures c.counts.ensures c.if-counts.false c.requires.1 c.requires.0 in
    (lit≤ tt, omega (arith, l), omega (arith, l, (framed c.requires.0).work), lit≤ tt)

pub enter-requires : goal.enter-requires
enter-requires c =
    let who = sym c.in-Some.is ∙ c.callee.ensures in
    let x = framed c.requires.0 in (
      last_callable c.word-kind.ensures c.counts.ensures c.if-counts.false c.requires.1 who c.requires.0,
      omega (arith, x.work, c.put.auto.work),
      x.frame,
      x.inside,
      last_fits c.word-kind.ensures c.counts.ensures c.if-counts.false c.requires.1 who c.requires.0,
    )

pub returns-in-None : goal.returns-in-None
returns-in-None c =
    last_prints c.word-kind.ensures c.counts.ensures c.if-counts.false c.requires.1
    (sym c.in-None.is ∙ c.callee.ensures) c.print.ensures

pub returns-in-Some : goal.returns-in-Some
returns-in-Some c =
    last_enters c.word-kind.ensures c.counts.ensures c.if-counts.false c.requires.1
    (sym c.in-Some.is ∙ c.callee.ensures) c.put.ensures.1 c.put.ensures.0
    c.enter.ensures
