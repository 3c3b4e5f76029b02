-- `digits_at` asks for a base behind a 0 alone.
use mathlib.Core.Path.{refl, sym, ◌∙◌, ap}
use Rattle.language.specs.Text.{is_digit}
use Rattle.tokens.proofs.FoundTokens.{no_base}
use Rattle.tokens.specs.Shown.{text_of}
use Rattle.tokens.proofs.worth.digits_at.Goals as goal

pub returns : goal.returns
returns c =
    let a = c.args.place.now in
    let digit = sym (ap is_digit a.is) ∙ c.requires in
    (no_base c.args.edition (text_of a.text.now) a.at a.inside digit (λ e. c.if-place-eq48.false (a.is ∙ e)), λ e. refl)
