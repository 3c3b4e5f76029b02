use Rattle.tally.proofs.CallText.{whole}
use Rattle.tally.proofs.calls.call.Goals as goal

pub returns : goal.returns
returns c =
    whole (record { picks = c.args.picks; rate = c.args.rate }) c.opened-text.ensures c.decimal.ensures c.put.ensures
    c.decimal-2.ensures c.put-2.ensures
