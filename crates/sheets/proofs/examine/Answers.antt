-- `examine` goes by what the number names.
use Rattle.tokens.specs.Shown.{text_of}
use Rattle.language.specs.Tokens.{Vocabulary}
use Rattle.language.specs.Answers.{from_text}
use Rattle.language.proofs.Answers.Editions.{text_alike}
use Rattle.sheets.proofs.NamedEdition.{examined_known, examined_unknown}
use Rattle.sheets.proofs.examine.Goals as goal

pub returns-in-Some : goal.returns-in-Some
returns-in-Some c =
    let a = c.args in
    let source = text_of a.text.now in
    examined_known a.edition (λ (v : Vocabulary). from_text v source) (text_alike source) _ _ c.named.result _ _ c.named.ensures
    c.in-Some.is
    c.examine_in.ensures

pub returns-in-None : goal.returns-in-None
returns-in-None c =
    let a = c.args in
    let source = text_of a.text.now in
    rw c.nowhere.ensures
    (examined_unknown a.edition (λ (v : Vocabulary). from_text v source) _ c.named.result c.named.ensures c.in-None.is)
