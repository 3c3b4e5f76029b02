-- `number` reads the digits of a run one by one, where no point goes on with them.
use mathlib.Core.Path.{sym, subst, ◌∙◌, ap}
use native.Mathlib.Omega.{arith}
use Rattle.language.specs.Text.Content.{token}
use Rattle.language.specs.Text.{is_digit, Piece, WrongUnder}
use Rattle.language.specs.Tokens.{NUMBER}
use Rattle.tokens.proofs.Digits.{product, read_none, read_hex, read_worth, read_more, read_large, read_all}
use Rattle.tokens.proofs.FoundTokens.{number_token, point_no, pointed}
use Rattle.tokens.specs.Editions.{meant}
use Rattle.tokens.specs.Shown.{text_of}
use Rattle.tokens.proofs.worth.number.Goals as goal

pub float_number-requires : goal.float_number-requires
float_number-requires c =
    let given = c.args.place.now in
    let digit = sym (ap is_digit given.is) ∙ c.requires in
    pointed given.inside digit c.digits_at-from.ensures.1 c.ends-end.ensures (sym c.takes_point.ensures ∙ c.if-takes_point.true)

pub loop-i-init : goal.loop-i-init
loop-i-init c =
    read_none c.ends-end.ensures

pub worth-requires : goal.worth-requires
worth-requires c =
    read_hex c.ends-end.ensures c.loop-i.invariant c.loop-i-test.true c.byte.ensures

pub overflow_add-value : goal.overflow_add-value
overflow_add-value c =
    let l = c.loop-i.invariant in
    let test = c.loop-i-test.true in
    let less = read_worth c.ends-end.ensures l test c.byte.ensures c.worth.ensures in
    let high = c.digits_at-from.ensures.0.high in
    omega (arith, product l.small high)

pub returns-then-value-gt-LARGEST : goal.returns-then-value-gt-LARGEST
returns-then-value-gt-LARGEST c =
    let a = c.args in
    let t = text_of a.place.now.text.now in
    let q = c.ends-end.result in
    let d = c.digits_at-from in
    let run = c.ends-end.ensures in
    let test = c.loop-i-test.true in
    let large = read_large run c.loop-i.invariant test c.byte.ensures c.worth.ensures d.ensures.0.low c.if-value-gt-LARGEST.true in
    let none = point_no (meant a.edition) t a.place.now.at d.result.from q (sym c.takes_point.ensures ∙ c.if-takes_point.false) in
    λ ts. WrongUnder.large (d.ensures.0.piece q run none) large

pub loop-i-preserved : goal.loop-i-preserved
loop-i-preserved c =
    let test = c.loop-i-test.true in
    let run = c.ends-end.ensures in
    read_more run c.loop-i.invariant test c.byte.ensures c.worth.ensures c.if-value-gt-LARGEST.false

pub returns : goal.returns
returns c =
    let a = c.args in
    let p = a.place.now.at in
    let t = text_of a.place.now.text.now in
    let q = c.ends-end.result in
    let d = c.digits_at-from in
    let none = point_no (meant a.edition) t p d.result.from q (sym c.takes_point.ensures ∙ c.if-takes_point.false) in
    let piece = d.ensures.0.piece q c.ends-end.ensures none in
    let value = read_all c.ends-end.ensures c.loop-i.invariant c.loop-i-test.false in
    number_token (subst (λ v. Piece (meant a.edition) t p q (token NUMBER v)) (sym value) piece) c.loop-i.invariant.small
