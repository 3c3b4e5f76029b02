-- The word of a tree.
use Rattle.phrases.proofs.Words.{tree_word}
use Rattle.phrases.proofs.parts.Read.tree.Goals as goal

pub returns : goal.returns
returns c =
    tree_word c.args.root c.args.next c.requires.1
