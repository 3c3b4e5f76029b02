-- What the borrow checker leaves of `program`.
use mathlib.Core.Path.{sym, ◌∙◌}
use native.Mathlib.Omega.{arith}
use Rattle.std.proofs.lemmas.Result.{err_from_is_err_and}
use Rattle.phrases.proofs.Standing.{within}
use Rattle.phrases.proofs.Answering.{known}
use Rattle.reader.proofs.ProgramLaws.{program_failed, program_more, program_none, program_seq}
use Rattle.reader.proofs.definitions.+program.Goals as goal

pub returns-in_err-first : goal.returns-in_err-first
returns-in_err-first t c =
    let p = err_from_is_err_and c.from_residual.result c.from_residual.ensures.1 in
    rw (p.1, p.2) (program_failed (sym c.kind.ensures ∙ c.if-kind-eq-DEF.true) c.in_err-first.ensures)

pub returns-then-kind-eq-DEF : goal.returns-then-kind-eq-DEF
returns-then-kind-eq-DEF t c =
    let p = c.requires.room in
    let i = within _ _ _ _ (sym c.kind.ensures ∙ c.if-kind-eq-DEF.true) (omega arith) in
    let d = c.requires.defs_le_at in
    program_more (sym c.kind.ensures ∙ c.if-kind-eq-DEF.true) c.in_ok-first.ensures (omega arith) c.put.ensures _ c.program.ensures

pub returns-in_err-main : goal.returns-in_err-main
returns-in_err-main t c =
    let p = err_from_is_err_and c.from_residual-in_err-main.result c.from_residual-in_err-main.ensures.1 in
    rw (p.1, p.2) (program_none (λ e. c.if-kind-eq-DEF.false (c.kind.ensures ∙ e)) (known c.seq.ensures (sym c.part.ensures ∙ c.in_err-main.was)))

pub returns : goal.returns
returns t c =
    program_seq (λ e. c.if-kind-eq-DEF.false (c.kind.ensures ∙ e)) (known c.seq.ensures (sym c.part.ensures ∙ c.in_ok-main.was))
