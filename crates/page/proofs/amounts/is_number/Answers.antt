-- `is_number` asks it of each byte.
use borrow.Author.Rules.{rules}
use borrow.Author.Tests.{eqb-true, eqb-false}
use lib.ListN.{length}
use mathlib.Core.Bool.{true, false}
use mathlib.Core.Path.{◌≡◌, sym, ◌∙◌}
use Rattle.std.proofs.lemmas.Iterator.{cases_from_all, YieldsList-from_slice}
use Rattle.std.specs.Char.{is_ascii_digit}
use Rattle.page.proofs.Digits.{empty_word, told}
use Rattle.page.proofs.amounts.is_number.Goals as goal

pub returns-then-not-is_empty : goal.returns-then-not-is_empty
returns-then-not-is_empty c =
    told c.args.word.now _ (eqb-false (length c.args.word.now) 0 (sym c.is_empty.ensures ∙ c.if-not-is_empty.true))
    (cases_from_all _ _ _ (λ b. is_ascii_digit b ≡ true) (λ b. is_ascii_digit b ≡ false) c.all.ensures.ran
    (YieldsList-from_slice c.args.word.now cc) (λ x q k. search rules) (λ x q k. search rules))

pub returns-else-not-is_empty : goal.returns-else-not-is_empty
returns-else-not-is_empty c =
    rw c.if-not-is_empty.false
    (empty_word c.args.word.now (eqb-true (length c.args.word.now) 0 (sym c.is_empty.ensures ∙ c.if-not-is_empty.false)))
