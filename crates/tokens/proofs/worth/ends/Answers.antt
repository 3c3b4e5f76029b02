-- `ends` goes over digits by a loop of their own where they are those of ten.
use mathlib.Core.Path.{sym, subst}
use Rattle.language.proofs.Text.Runs.{Run}
use Rattle.language.specs.Text.{is_digit_of}
use Rattle.tokens.proofs.FoundTokens.{run_decimal}
use Rattle.tokens.specs.Shown.{text_of}
use Rattle.tokens.proofs.worth.ends.Goals as goal

pub returns-then-base-eq10 : goal.returns-then-base-eq10
returns-then-base-eq10 c =
    let a = c.args in
    let t = text_of a.text.now in
    subst (λ n. Run (is_digit_of n) t a.at c.run_end.result) (sym c.if-base-eq10.true) (run_decimal c.run_end.ensures)
