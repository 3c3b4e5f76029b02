-- `bits` puts those of a float, and else nothing.
use mathlib.Core.Path.{sym, ap, ◌∙◌}
use Rattle.layout.specs.Values.{meant}
use Rattle.page.proofs.Adding.{being, nothing}
use Rattle.wording.proofs.Others.{other_value}
use Rattle.wording.specs.Values.{bits_line, bits_words}
use Rattle.wording.proofs.types.bits.Goals as goal

pub returns-in-Float : goal.returns-in-Float
unfolding bits_words
returns-in-Float c =
    being (ap bits_line c.bits.ensures ∙ ap (λ v. bits_words (meant v)) (sym c.in-Float.is)) c.bits_line.ensures

pub returns-in_default : goal.returns-in_default
returns-in_default c = being (other_value c.args.value c.in_default.not-Float) nothing
