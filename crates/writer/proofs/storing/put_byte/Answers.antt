use Rattle.writer.proofs.Digits.{byte_put}
use Rattle.writer.proofs.storing.put_byte.Goals as goal

pub returns : goal.returns
returns c =
    byte_put _ _ _ _ _ c.requires c.capital.ensures c.capital-2.ensures
