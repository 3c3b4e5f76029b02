-- `trimmed` looks at the last byte, if there is one.
use Rattle.page.proofs.Returns.{no_line, with_return, no_return}
use Rattle.page.proofs.lines.trimmed.Goals.{else-n-gt0-via-then-n-gt0+else-line-n-eq13, else-n-gt0-via-else-n-gt0}
use Rattle.page.proofs.lines.trimmed.Goals as goal

pub returns-then-line-n-eq13 : goal.returns-then-line-n-eq13
returns-then-line-n-eq13 c = with_return c.args.line.now c.if-line-n-eq13.true

pub returns : goal.returns
returns c =
    elim c.else-n-gt0.branch [
      | else-n-gt0-via-then-n-gt0+else-line-n-eq13 w ↦ no_return c.args.line.now w.if-line-n-eq13.false
      | else-n-gt0-via-else-n-gt0 w ↦ no_line c.args.line.now w.if-n-gt0.false
    ]
