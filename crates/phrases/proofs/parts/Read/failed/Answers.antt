-- The word of a failure.
use Rattle.phrases.proofs.Words.{none_word}
use Rattle.phrases.proofs.parts.Read.failed.Goals as goal

pub returns : goal.returns
returns c =
    none_word c.args.at c.requires
