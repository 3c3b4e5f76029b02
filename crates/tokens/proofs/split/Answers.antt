-- `split` goes from piece to piece, over the blanks before each, and writes each token behind those before it.
use borrow.Author.Tests.{ltb-false}
use lib.ListN.{length}
use mathlib.Core.Path.{sym, ◌∙◌, ap}
use native.Mathlib.Omega.{arith}
use Prim.Native.Nat.{◌<◌}
use Rattle.language.proofs.Text.OnePiece.{form_bounds}
use Rattle.language.proofs.Text.OneSplit.{reached_inside}
use Rattle.language.specs.Sizes.{SOURCE}
use Rattle.language.specs.Text.{is_blank}
use Rattle.language.specs.Text.Flaw.{many_tokens}
use Rattle.language.specs.Text.WrongUnder.{many}
use Rattle.tokens.proofs.Splitting.{reached_none, reached_skip, reached_blanks}
use Rattle.tokens.proofs.Splitting.{reached_broken, reached_whole, reached_searchable, reached_next}
use Rattle.tokens.proofs.Views.{text_long}
use Rattle.tokens.proofs.Editions.{laws_of}
use Rattle.tokens.specs.Shown.{text_of}
use Rattle.tokens.proofs.split.Goals as goal

pub loop-at-init : goal.loop-at-init
loop-at-init c =
    let a = c.args in
    reached_none (text_of a.text.now) _ (omega (arith, c.begin.ensures.rest.long, c.requires))
    c.begin.ensures.shape

-- the blanks reach the end
pub returns-then-begin-size : goal.returns-then-begin-size
returns-then-begin-size c =
    let text = text_of c.args.text.now in
    let short = ltb-false SOURCE (length text) (sym c.longer.ensures ∙ c.if-longer.false) in
    let r = reached_blanks (laws_of c.args.edition) c.loop-at.invariant c.run_end-begin.ensures in
    reached_whole r c.begin.ensures.rest short (c.if-begin-size.true ∙ c.len-size.ensures)

-- no blank stands where they end
pub piece_of-requires : goal.piece_of-requires
piece_of-requires c =
    let b = c.run_end-begin.ensures in
    let inside : c.run_end-begin.result < length (text_of c.args.text.now) = omega (arith, b.within, c.len-size.ensures, c.if-begin-size.false) in
    ap is_blank c.byte.ensures ∙ b.stop inside

pub loop-at-smaller-in-Ok-Space : goal.loop-at-smaller-in-Ok-Space
loop-at-smaller-in-Ok-Space c =
    let text = text_of c.args.text.now in
    let x = rw c.in-Ok-Space.field-0-is at c.in-Ok-Space.ensures in
    let b = c.run_end-begin.ensures in
    omega (arith, (form_bounds text c.run_end-begin.result _ _ x.form).0, b.order, c.loop-at-test.true)

pub loop-at-preserved-in-Ok-Space : goal.loop-at-preserved-in-Ok-Space
loop-at-preserved-in-Ok-Space c =
    let x = rw c.in-Ok-Space.field-0-is at c.in-Ok-Space.ensures in
    reached_skip (reached_blanks (laws_of c.args.edition) c.loop-at.invariant c.run_end-begin.ensures) x

pub returns-then-count-eq-TOKENS : goal.returns-then-count-eq-TOKENS
returns-then-count-eq-TOKENS c =
    let text = text_of c.args.text.now in
    let x = rw c.in-Ok-Token.field-0-is at c.in-Ok-Token.ensures in
    let short = ltb-false SOURCE (length text) (sym c.longer.ensures ∙ c.if-longer.false) in
    let full = c.if-count-eq-TOKENS.true in
    let r = reached_blanks (laws_of c.args.edition) c.loop-at.invariant c.run_end-begin.ensures in
    reached_broken r c.begin.ensures.rest many_tokens short (λ ts e. many x.piece x.small (sym e ∙ full))

pub table_worth-both-requires : goal.table_worth-both-requires
table_worth-both-requires c =
    let text = text_of c.args.text.now in
    let held = rw c.in-Ok-Token.field-0-is at c.in-Ok-Token.ensures in
    let short = ltb-false SOURCE (length text) (sym c.longer.ensures ∙ c.if-longer.false) in
    let r = reached_blanks (laws_of c.args.edition) c.loop-at.invariant c.run_end-begin.ensures in
    reached_searchable r short (omega (arith, r.few, c.if-count-eq-TOKENS.false)) held (laws_of c.args.edition)

pub overflow_cast-end : goal.overflow_cast-end
overflow_cast-end c =
    let text = text_of c.args.text.now in
    let held = rw c.in-Ok-Token.field-0-is at c.in-Ok-Token.ensures in
    let bounds = form_bounds text c.run_end-begin.result _ _ held.piece.form in
    let short = ltb-false SOURCE (length text) (sym c.longer.ensures ∙ c.if-longer.false) in
    omega (arith, bounds.1, short)

pub loop-at-smaller : goal.loop-at-smaller
loop-at-smaller c =
    let text = text_of c.args.text.now in
    let held = rw c.in-Ok-Token.field-0-is at c.in-Ok-Token.ensures in
    let bounds = form_bounds text c.run_end-begin.result _ _ held.piece.form in
    let b = c.run_end-begin.ensures in
    omega (arith, bounds.0, b.order, c.loop-at-test.true)

pub loop-at-preserved : goal.loop-at-preserved
loop-at-preserved c =
    let text = text_of c.args.text.now in
    let held = rw c.in-Ok-Token.field-0-is at c.in-Ok-Token.ensures in
    let short = ltb-false SOURCE (length text) (sym c.longer.ensures ∙ c.if-longer.false) in
    let r = reached_blanks (laws_of c.args.edition) c.loop-at.invariant c.run_end-begin.ensures in
    reached_next r short (omega (arith, r.few, c.if-count-eq-TOKENS.false)) held c.table_worth-both.ensures.0
    c.table_worth-both.ensures.1 c.high-high.ensures c.low-low.ensures c.put.ensures

pub returns-in-Err : goal.returns-in-Err
returns-in-Err c =
    let text = text_of c.args.text.now in
    let short = ltb-false SOURCE (length text) (sym c.longer.ensures ∙ c.if-longer.false) in
    let r = reached_blanks (laws_of c.args.edition) c.loop-at.invariant c.run_end-begin.ensures in
    let wrong = c.in-Err.ensures in
    reached_broken r c.begin.ensures.rest _ short (λ ts e. wrong ts)

pub returns : goal.returns
returns c =
    let text = text_of c.args.text.now in
    let short = ltb-false SOURCE (length text) (sym c.longer.ensures ∙ c.if-longer.false) in
    let l = c.loop-at in
    reached_whole l.invariant c.begin.ensures.rest short
    (omega (arith, reached_inside l.invariant.reaches, c.loop-at-test.false, c.len-size.ensures))

pub invariant_of-place-clause-near : goal.invariant_of-place-clause-near
invariant_of-place-clause-near c =
    omega (arith, text_long c.args.text.now, c.well_formed)
