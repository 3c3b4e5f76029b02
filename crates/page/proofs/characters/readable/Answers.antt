-- `readable` goes over the bytes: what is left of them decides, from what is due.
use mathlib.Core.Path.{sym, ◌∙◌}
use native.Mathlib.Omega.{arith}
use Rattle.page.proofs.Letters.{going_none, going_more, going_less, going_all}
use Rattle.page.proofs.characters.readable.Goals as goal

pub loop-b-init : goal.loop-b-init
loop-b-init c = going_none c.args.bytes.now

pub returns-then-not-takes : goal.returns-then-not-takes
returns-then-not-takes c =
    going_less c.loop-b.invariant (omega arith) (sym c.takes.ensures ∙ c.if-not-takes.true)

pub loop-b-preserved : goal.loop-b-preserved
loop-b-preserved c =
    let e = c.after-due.ensures in
    going_more c.loop-b.invariant (omega arith) (sym c.takes.ensures ∙ c.if-not-takes.false) e.bytes e.least e.most

pub returns : goal.returns
returns c = going_all c.loop-b.invariant (omega arith)
