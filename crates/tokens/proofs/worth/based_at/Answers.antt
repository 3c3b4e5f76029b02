-- `based_at` asks two bytes for a base, and the byte behind them for a digit of it.
use mathlib.Core.List.{[], ◌∷◌}
use mathlib.Core.Path.{refl, sym, ◌∙◌, ap, ap₂}
use native.Mathlib.Omega.{arith}
use Rattle.language.proofs.Text.Bases.{base_told, Digits, told_digits, untold_digits}
use Rattle.language.specs.Text.{byte, is_digit, is_digit_of}
use Prim.Native.Nat.{◌+◌}
use Rattle.tokens.proofs.Digits.{base_some, base_none, no_digit}
use Rattle.tokens.proofs.Editions.{laws_of, shared_bases}
use Rattle.tokens.specs.Editions.{meant}
use Rattle.tokens.specs.Shown.{text_of}
use Rattle.tokens.proofs.worth.based_at.Goals as goal
use Rattle.tokens.proofs.worth.based_at.Goals.{Then-is_digit_of}

-- a base is told by the two bytes, and a digit of it stands behind them
found : (c : Then-is_digit_of)
    → Digits (meant c.args.edition) (text_of c.args.place.now.text.now) c.args.place.now.at (c.args.place.now.at + 2) c.in-Some.base
found c =
    let a = c.args in
    let base = base_some _ c.in-Some.ensures ∙ ap₂ (λ a b. base_told (a ∷ b ∷ [])) c.args.place.now.is c.ahead.ensures in
    let digit = c.is_digit_of.ensures ∙ ap (is_digit_of c.in-Some.base) c.ahead-in-Some-1.ensures in
    told_digits (laws_of a.edition) (shared_bases a.edition) (text_of a.place.now.text.now) a.place.now.at c.in-Some.base base
    (sym digit ∙ c.if-is_digit_of.true)

pub overflow_add-result : goal.overflow_add-result
overflow_add-result c =
    omega (arith, (found (goal.at.overflow_add-result c).Then-is_digit_of).within, c.args.place.now.near)

pub returns-in-Some : goal.returns-in-Some
returns-in-Some c = (found (goal.at.returns-in-Some c).Then-is_digit_of, λ e. absurd (omega arith))

pub returns-in_default : goal.returns-in_default
returns-in_default c =
    let a = c.args in
    let base = base_some _ c.in-Some.ensures ∙ ap₂ (λ a b. base_told (a ∷ b ∷ [])) c.args.place.now.is c.ahead.ensures in
    let digit = c.is_digit_of.ensures ∙ ap (is_digit_of c.in-Some.base) c.ahead-in-Some-1.ensures in
    let none = sym digit ∙ c.if-is_digit_of.false in
    let p = a.place.now in
    let first = sym (ap is_digit p.is) ∙ c.requires in
    let text = text_of p.text.now in
    (untold_digits (laws_of a.edition) (shared_bases a.edition) text p.at c.in-Some.base base p.inside first none, λ e. refl)

pub returns-in_default-2 : goal.returns-in_default-2
returns-in_default-2 c =
    let a = c.args in
    let base = base_none _ c.in_default.ensures ∙ ap₂ (λ a b. base_told (a ∷ b ∷ [])) c.args.place.now.is c.ahead.ensures in
    let p = a.place.now in
    let first = sym (ap is_digit p.is) ∙ c.requires in
    let text = text_of p.text.now in
    let none = no_digit (byte text (p.at + 2)) in
    (untold_digits (laws_of a.edition) (shared_bases a.edition) text p.at 0 base p.inside first none, λ e. refl)
