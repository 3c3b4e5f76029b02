-- What the borrow checker leaves of `refs`.
use mathlib.Core.Path.{sym, ◌∙◌}
use native.Mathlib.Omega.{arith}
use Rattle.phrases.proofs.Standing.{within}
use Rattle.reader.proofs.TypeLaws.{refs_end, refs_more}
use Rattle.reader.proofs.types.+refs.Goals as goal

pub refs-requires : goal.refs-requires
refs-requires t c =
    let p = c.requires in
    let e = c.decreases in
    let i = within _ _ _ _ (sym c.kind.ensures ∙ c.if-kind-eq-REF.true) (omega arith) in
    (omega arith, (p.0, p.1, omega arith, omega arith))

pub returns-then-kind-eq-REF : goal.returns-then-kind-eq-REF
returns-then-kind-eq-REF t c =
    refs_more (sym c.kind.ensures ∙ c.if-kind-eq-REF.true) c.refs.ensures

pub returns-else-kind-eq-REF : goal.returns-else-kind-eq-REF
returns-else-kind-eq-REF t c =
    let p = c.requires in
    refs_end p.2 p.3 (λ e. c.if-kind-eq-REF.false (c.kind.ensures ∙ e))
