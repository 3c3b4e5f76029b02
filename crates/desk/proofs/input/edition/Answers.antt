-- `edition` answers what was read of the word, or 1.
use Rattle.desk.proofs.Numbers.{edition_found}
use Rattle.desk.proofs.input.edition.Goals as goal

pub returns : goal.returns
returns g c = edition_found c.args.asked.edition c.word-name.result.now c.edition-found.ensures c.numbered.ensures
