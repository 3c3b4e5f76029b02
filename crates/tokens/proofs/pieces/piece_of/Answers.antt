-- `piece_of` goes by what may begin at the place: a name, a number, a `/`, and else a mark.
use mathlib.Core.Bool.{Bool}
use mathlib.Core.Path.{◌≡◌, sym, ◌∙◌, ap, subst}
use native.Mathlib.Omega.{arith}
use Prim.Native.Nat.{ℕ}
use Rattle.language.proofs.Text.Classes.{letter_not_digit}
use Rattle.language.proofs.Text.OnePiece.{form_bounds}
use Rattle.language.proofs.Text.Pieces.{name_piece}
use Rattle.language.specs.Text.Content.{token}
use Rattle.language.specs.Text.{byte, is_letter, is_digit, Piece}
use Rattle.language.specs.Text.WrongUnder.{strange}
use Rattle.tokens.proofs.Editions.{laws_of}
use Rattle.tokens.proofs.FoundTokens.{plain_token}
use Rattle.tokens.specs.Editions.{meant}
use Rattle.tokens.specs.Shown.{text_of}
use Rattle.tokens.proofs.pieces.piece_of.Goals as goal
use Rattle.tokens.proofs.pieces.piece_of.Goals.{Start}

-- a test of the byte there, said of the byte of the text
known : (s : Start) (f : ℕ → Bool) {r x : Bool} → r ≡ f s.args.place.now.here → r ≡ x → f (byte (text_of s.args.place.now.text.now) s.args.place.now.at) ≡ x
known s f g h =
    sym (g ∙ ap f s.args.place.now.is) ∙ h

pub returns-then-is_letter : goal.returns-then-is_letter
returns-then-is_letter c =
    let t = text_of c.args.place.now.text.now in
    let p = c.args.place.now.at in
    let q = c.run_end.result in
    let letter = known (goal.at.returns-then-is_letter c).Start is_letter c.is_letter.ensures c.if-is_letter.true in
    let piece = name_piece (laws_of c.args.edition) t p q c.args.place.now.inside letter c.run_end.ensures in
    plain_token c.args.edition (letter_not_digit _ letter) (subst (λ k. Piece (meant c.args.edition) t p q (token k 0)) (sym c.word.ensures) piece)

pub returns-then-place-eq47 : goal.returns-then-place-eq47
returns-then-place-eq47 c =
    c.slash.ensures c.args.edition

pub returns-in_default : goal.returns-in_default
returns-in_default c =
    λ ts. strange c.args.place.now.inside c.in_default.ensures

pub overflow_add-result : goal.overflow_add-result
overflow_add-result c =
    let a = c.args.place.now in
    omega (arith, form_bounds (text_of a.text.now) a.at _ _ c.in-Some.ensures.form, a.near)

pub returns : goal.returns
returns c =
    plain_token c.args.edition (known (goal.at.returns c).Start is_digit c.is_digit.ensures c.if-is_digit.false) c.in-Some.ensures
