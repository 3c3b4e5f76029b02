-- `of_line` reads two digits of the sheet.
use mathlib.Core.Path.{sym, ◌∙◌}
use Rattle.tokens.proofs.Views.{line_digits, line_byte}
use native.Mathlib.Omega.{arith}
use Rattle.tokens.proofs.view.of_line.Goals as goal

pub overflow_mul-digit : goal.overflow_mul-digit
overflow_mul-digit c =
    let a = c.args in
    omega (arith, line_digits a.sheet.now a.from a.to a.at c.len_of_line.ensures c.if-len_of_line-at.false, c.well_formed)

pub overflow_add-digit : goal.overflow_add-digit
overflow_add-digit c =
    let a = c.args in
    omega (arith, line_digits a.sheet.now a.from a.to a.at c.len_of_line.ensures c.if-len_of_line-at.false, c.well_formed)

pub bounds-sheet-digit : goal.bounds-sheet-digit
bounds-sheet-digit c =
    let a = c.args in
    omega (arith, line_digits a.sheet.now a.from a.to a.at c.len_of_line.ensures c.if-len_of_line-at.false)

pub overflow_add-digit-2 : goal.overflow_add-digit-2
overflow_add-digit-2 c =
    let a = c.args in
    omega (arith, line_digits a.sheet.now a.from a.to a.at c.len_of_line.ensures c.if-len_of_line-at.false, c.well_formed)

pub bounds-sheet-digit-2 : goal.bounds-sheet-digit-2
bounds-sheet-digit-2 c =
    let a = c.args in
    omega (arith, line_digits a.sheet.now a.from a.to a.at c.len_of_line.ensures c.if-len_of_line-at.false)

pub returns : goal.returns
returns c =
    let a = c.args in
    c.two.ensures ∙ sym (line_byte a.sheet.now a.from a.to a.at c.len_of_line.ensures c.if-len_of_line-at.false)
