use mathlib.Core.Path.{refl}
use borrow.Author.Tests.{ne_eqb, le-leb, lt-leb}
use Rattle.language.specs.Tokens.{FLOAT_NUMBER, LET, IF, PLUS}
use Rattle.runner.specs.Phases.{waits}
use Rattle.runner.proofs.begin.waits.Goals as goal

pub returns-then-kind-eq-FLOAT_NUMBER : goal.returns-then-kind-eq-FLOAT_NUMBER
unfolding waits
returns-then-kind-eq-FLOAT_NUMBER c =
    rw c.if-kind-eq-FLOAT_NUMBER.true refl

pub returns-then-kind-ge-PLUS : goal.returns-then-kind-ge-PLUS
unfolding waits
returns-then-kind-ge-PLUS c =
    rw (ne_eqb c.args.kind FLOAT_NUMBER c.if-kind-eq-FLOAT_NUMBER.false, le-leb PLUS c.args.kind c.if-kind-ge-PLUS.true) refl

pub returns-then-kind-eq-LET : goal.returns-then-kind-eq-LET
unfolding waits
returns-then-kind-eq-LET c =
    rw c.if-kind-eq-LET.true refl

pub returns-then-kind-eq-IF : goal.returns-then-kind-eq-IF
unfolding waits
returns-then-kind-eq-IF c =
    rw c.if-kind-eq-IF.true refl

pub returns : goal.returns
unfolding waits
returns c =
    rw (
      ne_eqb c.args.kind FLOAT_NUMBER c.if-kind-eq-FLOAT_NUMBER.false,
      lt-leb PLUS c.args.kind c.if-kind-ge-PLUS.false,
      ne_eqb c.args.kind LET c.if-kind-eq-LET.false,
      ne_eqb c.args.kind IF c.if-kind-eq-IF.false,
    ) refl
