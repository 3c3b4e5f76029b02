-- `value` goes by the kind of the value.
use mathlib.Core.Path.{sym, ◌∙◌, ap}
use mir.Syntax.{w32}
use mir.Val.{SFits}
use Rattle.layout.specs.Values.{meant}
use Rattle.layout.proofs.Signed.{wide}
use Rattle.page.specs.Floats.{float_text}
use Rattle.page.proofs.Adding.{being}
use Rattle.wording.specs.Values.{signed_words, value_words}
use borrow.Author.Rules.{rules}
use Rattle.wording.proofs.types.value.Goals as goal

pub returns-in-Int : goal.returns-in-Int
unfolding value_words
returns-in-Int c =
    let z : SFits w32 c.in-Int.n = search rules in
    being (ap signed_words (wide z) ∙ ap (λ v. value_words (meant v)) (sym c.in-Int.is)) c.signed.ensures

pub returns-in-Float : goal.returns-in-Float
unfolding value_words
returns-in-Float c =
    being (ap float_text c.bits.ensures ∙ ap (λ v. value_words (meant v)) (sym c.in-Float.is))
    c.float.ensures

pub returns-in-Flag : goal.returns-in-Flag
unfolding value_words
returns-in-Flag c = being (c.truth.ensures ∙ ap (λ v. value_words (meant v)) (sym c.in-Flag.is)) c.put.ensures
