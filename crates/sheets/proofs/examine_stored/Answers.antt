-- `examine_stored` goes by what the number names.
use Rattle.language.specs.Tokens.{Vocabulary}
use Rattle.language.specs.Stored.{from_stored}
use Rattle.language.proofs.Stored.Editions.{stored_alike}
use Rattle.sheets.proofs.NamedEdition.{examined_known, examined_unknown}
use Rattle.sheets.proofs.examine_stored.Goals as goal

pub returns-in-Some : goal.returns-in-Some
returns-in-Some c =
    let a = c.args in
    examined_known a.edition (λ (v : Vocabulary). from_stored v a.input.now) (stored_alike a.input.now) _ _ c.named.result _ _
    c.named.ensures c.in-Some.is
    c.examine_stored_in.ensures

pub returns-in-None : goal.returns-in-None
returns-in-None c =
    let a = c.args in
    rw c.nowhere.ensures
    (examined_unknown a.edition (λ (v : Vocabulary). from_stored v a.input.now) _ c.named.result c.named.ensures c.in-None.is)
