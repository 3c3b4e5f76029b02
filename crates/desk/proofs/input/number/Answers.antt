-- `number` answers what was read of the word, up to the limit.
use Rattle.desk.proofs.Numbers.{found}
use Rattle.desk.proofs.input.number.Goals as goal

pub returns : goal.returns
returns g c =
    found c.args.most c.word-name.result.now c.up_to-found.ensures c.numbered.ensures
