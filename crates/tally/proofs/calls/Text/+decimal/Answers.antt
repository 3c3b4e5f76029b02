use native.Mathlib.Omega.{arith}
use Rattle.tally.proofs.CallText.{only, before, last}
use Rattle.tally.proofs.calls.Text.+decimal.Goals.{then-n-ge10, else-n-ge10}
use Rattle.tally.proofs.calls.Text.+decimal.Goals as goal

pub returns : goal.returns
returns t c =
    let a = c.args in
    let text = a.self.now in
    elim c.if-n-ge10.branch [
      | then-n-ge10 w ↦ last text.text text.len a.more a.n (before _ _ w.if-n-ge10.true c.requires.1) w.if-n-ge10.true c.digit.ensures
          w.decimal.ensures (rw w.self-is at c.put.ensures)
      | else-n-ge10 w ↦ only text.text text.len a.more a.n w.if-n-ge10.false (omega arith) (rw w.self-is at c.put.ensures)
    ]
