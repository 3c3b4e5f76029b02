use mathlib.Core.Path.{refl}
use native.Mathlib.Omega.{arith}
use Rattle.runner.proofs.Promises.{any_from, some_of, prints_from, prints_still}
use Rattle.runner.proofs.Resuming.{gives_high, gives_resumes, gives_argument, gives_counted}
use Rattle.runner.proofs.resume.give.Goals as goal

pub argument-requires : goal.argument-requires
argument-requires c =
    any_from
    (gives_argument (gives_high c.requires).0 refl c.link-node.ensures c.word-phase.ensures c.link-base.ensures
    c.size-size.ensures c.if-phase-eq-ARGUMENT.true) c.requires

pub returns-then-phase-eq-ARGUMENT : goal.returns-then-phase-eq-ARGUMENT
returns-then-phase-eq-ARGUMENT c =
    prints_from
    (gives_argument (gives_high c.requires).0 refl c.link-node.ensures c.word-phase.ensures c.link-base.ensures
    c.size-size.ensures c.if-phase-eq-ARGUMENT.true) (omega (arith, (gives_high c.requires).0)) c.argument.ensures

pub next-requires : goal.next-requires
next-requires c =
    some_of _
    (gives_counted (gives_high c.requires).0 refl c.link-node.ensures c.word-phase.ensures c.link-base.ensures
    c.size-size.ensures c.if-phase-eq-COUNTED.true)
    c.requires

pub returns-then-phase-eq-COUNTED : goal.returns-then-phase-eq-COUNTED
returns-then-phase-eq-COUNTED c =
    prints_still _
    (gives_counted (gives_high c.requires).0 refl c.link-node.ensures c.word-phase.ensures c.link-base.ensures
    c.size-size.ensures c.if-phase-eq-COUNTED.true)
    (omega (arith, (gives_high c.requires).0)) c.next.ensures

pub resume-requires : goal.resume-requires
resume-requires c =
    let x = some_of _
    (λ q x. gives_resumes (gives_high c.requires).0 refl c.link-node.ensures c.word-phase.ensures c.link-base.ensures
    c.size-size.ensures q x) c.requires in
    (x, c.if-phase-eq-ARGUMENT.false, c.if-phase-eq-COUNTED.false)

pub returns : goal.returns
returns c =
    prints_still _
    (λ q x. gives_resumes (gives_high c.requires).0 refl c.link-node.ensures c.word-phase.ensures c.link-base.ensures
    c.size-size.ensures q x)
    (omega (arith, (gives_high c.requires).0)) c.resume.ensures
