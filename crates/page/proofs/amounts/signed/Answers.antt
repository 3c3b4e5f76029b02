-- `signed` goes by the first byte.
use borrow.Author.Tests.{eqb-true, eqb-false}
use lib.IntN.{pos, neg_ℤ}
use lib.ListN.{length}
use mathlib.Core.Path.{sym, ◌∙◌, ap}
use native.Mathlib.Omega.{arith}
use Rattle.std.specs.Prelude.{Some}
use Rattle.page.proofs.Spelling.{up_to_small}
use Rattle.page.proofs.Signed.{no_bytes, with_sign, without_sign, by_number, by_none, lowered_fits, lowered_back, plain_back}
use Rattle.page.specs.Amounts.{AMOUNT}
use Rattle.page.proofs.amounts.signed.Goals as goal

pub returns-then-is_empty : goal.returns-then-is_empty
returns-then-is_empty c =
    no_bytes c.args.word.now (eqb-true (length c.args.word.now) 0 (sym c.is_empty.ensures ∙ c.if-is_empty.true))

pub returns-in_err-size : goal.returns-in_err-size
returns-in_err-size c =
    let some = eqb-false (length c.args.word.now) 0 (sym c.is_empty.ensures ∙ c.if-is_empty.false) in
    rw c.from_residual.ensures
    (by_none (λ n. neg_ℤ (pos n)) _ (sym c.within.ensures ∙ c.in_err-size.was)
    ∙ with_sign c.args.word.now some c.if-word-eq45.true)

pub overflow_cast-result : goal.overflow_cast-result
overflow_cast-result c =
    let small = up_to_small AMOUNT _ (sym c.within.ensures ∙ c.in_ok-size.was) in
    record { sfits = omega arith }

pub overflow_sub-result : goal.overflow_sub-result
overflow_sub-result c =
    lowered_fits c.in_ok-size.size (up_to_small AMOUNT _ (sym c.within.ensures ∙ c.in_ok-size.was))

pub returns-then-word-eq45 : goal.returns-then-word-eq45
returns-then-word-eq45 c =
    let some = eqb-false (length c.args.word.now) 0 (sym c.is_empty.ensures ∙ c.if-is_empty.false) in
    let read = sym c.within.ensures ∙ c.in_ok-size.was in
    ap Some (lowered_back c.in_ok-size.size (up_to_small AMOUNT _ read))
    ∙ by_number (λ n. neg_ℤ (pos n)) _ read
    ∙ with_sign c.args.word.now some c.if-word-eq45.true

pub returns-in_err-size-2 : goal.returns-in_err-size-2
returns-in_err-size-2 c =
    let some = eqb-false (length c.args.word.now) 0 (sym c.is_empty.ensures ∙ c.if-is_empty.false) in
    rw c.from_residual-in_err-size-2.ensures
    (by_none pos c.args.word.now (sym c.within-2.ensures ∙ c.in_err-size-2.was)
    ∙ without_sign c.args.word.now some c.if-word-eq45.false)

pub overflow_cast-result-2 : goal.overflow_cast-result-2
overflow_cast-result-2 c =
    let small = up_to_small AMOUNT c.args.word.now (sym c.within-2.ensures ∙ c.in_ok-size-2.was) in
    record { sfits = omega arith }

pub returns : goal.returns
returns c =
    let some = eqb-false (length c.args.word.now) 0 (sym c.is_empty.ensures ∙ c.if-is_empty.false) in
    let read = sym c.within-2.ensures ∙ c.in_ok-size-2.was in
    ap Some (plain_back c.in_ok-size-2.size (up_to_small AMOUNT c.args.word.now read))
    ∙ by_number pos c.args.word.now read
    ∙ without_sign c.args.word.now some c.if-word-eq45.false
