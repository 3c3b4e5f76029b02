-- `piece_at` takes a blank by itself.
use mathlib.Core.Path.{sym, ◌∙◌, ap}
use native.Mathlib.Omega.{arith}
use Rattle.language.proofs.Text.Pieces.{blank_piece}
use Rattle.language.specs.Text.{is_blank}
use Rattle.tokens.proofs.Editions.{laws_of}
use Rattle.tokens.proofs.Views.{text_long}
use Rattle.tokens.specs.Shown.{text_of}
use Rattle.tokens.proofs.pieces.piece_at.Goals as goal

pub overflow_add-result : goal.overflow_add-result
overflow_add-result c =
    let a = c.args in
    let long = text_long a.text.now in
    omega (arith, c.requires, long, c.well_formed)

pub returns-then-is_blank : goal.returns-then-is_blank
returns-then-is_blank c =
    let a = c.args in
    let t = text_of a.text.now in
    let seen = sym (c.is_blank.ensures ∙ ap is_blank c.byte.ensures) ∙ c.if-is_blank.true in
    blank_piece (laws_of a.edition) t a.at c.requires seen

pub invariant_of-place-clause-near : goal.invariant_of-place-clause-near
invariant_of-place-clause-near c =
    omega (arith, text_long c.args.text.now, c.well_formed)
