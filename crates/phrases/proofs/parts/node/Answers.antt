-- A node's row is written, and clearing would take it away.
use mathlib.Core.Path.{ap, ◌∙◌}
use native.Mathlib.Omega.{arith}
use Rattle.layout.specs.Table.{without_rows}
use Rattle.layout.proofs.TableLaws.{without_put_row}
use Rattle.phrases.proofs.parts.node.Goals as goal

pub returns : goal.returns
returns c =
    record {
      answer = c.tree.ensures;
      laid = c.put.ensures;
      clear = ap without_rows c.put.ensures
          ∙ without_put_row _ _ _ _ _ _ _ (omega arith);
    }
