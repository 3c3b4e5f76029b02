-- `called` goes by the refusal.
use Rattle.wording.proofs.Others.{other_refusal}
use mathlib.Core.Path.{◌∙◌}
use Rattle.wording.proofs.words.called.Goals as goal

pub returns-in_default : goal.returns-in_default
returns-in_default c =
    let told = c.in_default in
    c.refusal.ensures ∙ other_refusal _ told.not-LongSource told.not-Text told.not-NoReading told.not-Types
