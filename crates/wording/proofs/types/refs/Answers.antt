-- `refs` puts a part of all of them.
use Prim.Native.Nat.{◌/◌}
use Rattle.page.proofs.Adding.{being}
use Rattle.wording.proofs.Refs.{taken}
use Rattle.wording.specs.Types.{ref_words}
use Rattle.wording.proofs.types.refs.Goals as goal

pub returns : goal.returns
unfolding ref_words
returns c = being (rw c.min-n.ensures (taken (c.args.type_number / 8) 15)) c.put.ensures
