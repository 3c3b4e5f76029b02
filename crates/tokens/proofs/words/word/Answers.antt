-- `word` goes by the length of the name.
use Rattle.tokens.proofs.WordRows.{no_length}
use Rattle.tokens.specs.Shown.{text_of}
use Rattle.tokens.proofs.words.word.Goals as goal

pub returns-in_default : goal.returns-in_default
returns-in_default c =
    let a = c.args.name.now in no_length (text_of a.text.now) a.from a.to a.inside c.in_default.in_default-own.rest c.args.edition
