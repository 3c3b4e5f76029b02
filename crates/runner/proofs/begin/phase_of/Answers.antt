use mathlib.Core.Path.{refl}
use borrow.Author.Tests.{ne_eqb, le-leb, lt-leb}
use Rattle.language.specs.Tokens.{LET, WHILE, IF, SEMI, LPAR, LBRACE}
use Rattle.layout.specs.Rows.{PREFIX}
use Rattle.runner.specs.Phases.{phase_of}
use Rattle.runner.proofs.begin.phase_of.Goals as goal

pub returns-then-kind-eq-LPAR : goal.returns-then-kind-eq-LPAR
unfolding phase_of
returns-then-kind-eq-LPAR c =
    rw c.if-kind-eq-LPAR.true refl

pub returns-then-kind-eq-LBRACE : goal.returns-then-kind-eq-LBRACE
unfolding phase_of
returns-then-kind-eq-LBRACE c =
    rw c.if-kind-eq-LBRACE.true refl

pub returns-then-kind-eq-SEMI : goal.returns-then-kind-eq-SEMI
unfolding phase_of
returns-then-kind-eq-SEMI c =
    rw c.if-kind-eq-SEMI.true refl

pub returns-then-kind-eq-LET : goal.returns-then-kind-eq-LET
unfolding phase_of
returns-then-kind-eq-LET c =
    rw c.if-kind-eq-LET.true refl

pub returns-then-kind-eq-IF : goal.returns-then-kind-eq-IF
unfolding phase_of
returns-then-kind-eq-IF c =
    rw c.if-kind-eq-IF.true refl

pub returns-then-kind-eq-WHILE : goal.returns-then-kind-eq-WHILE
unfolding phase_of
returns-then-kind-eq-WHILE c =
    rw c.if-kind-eq-WHILE.true refl

pub returns-then-kind-ge-PREFIX : goal.returns-then-kind-ge-PREFIX
unfolding phase_of
returns-then-kind-ge-PREFIX c =
    rw (
      ne_eqb c.args.kind LPAR c.if-kind-eq-LPAR.false,
      ne_eqb c.args.kind LBRACE c.if-kind-eq-LBRACE.false,
      ne_eqb c.args.kind SEMI c.if-kind-eq-SEMI.false,
      ne_eqb c.args.kind LET c.if-kind-eq-LET.false,
      ne_eqb c.args.kind IF c.if-kind-eq-IF.false,
      ne_eqb c.args.kind WHILE c.if-kind-eq-WHILE.false,
      le-leb PREFIX c.args.kind c.if-kind-ge-PREFIX.true,
    ) refl

pub returns : goal.returns
unfolding phase_of
returns c =
    rw (
      ne_eqb c.args.kind LPAR c.if-kind-eq-LPAR.false,
      ne_eqb c.args.kind LBRACE c.if-kind-eq-LBRACE.false,
      ne_eqb c.args.kind SEMI c.if-kind-eq-SEMI.false,
      ne_eqb c.args.kind LET c.if-kind-eq-LET.false,
      ne_eqb c.args.kind IF c.if-kind-eq-IF.false,
      ne_eqb c.args.kind WHILE c.if-kind-eq-WHILE.false,
      lt-leb PREFIX c.args.kind c.if-kind-ge-PREFIX.false,
    ) refl
