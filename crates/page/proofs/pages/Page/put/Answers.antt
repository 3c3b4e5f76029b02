-- `put` copies as many bytes as there is room for.
use borrow.Author.Rules.{rules}
use mathlib.Core.Path.{refl}
use native.Mathlib.Omega.{arith}
use Rattle.page.proofs.Adding.{put_part}
use Rattle.page.proofs.pages.Page.put.Goals as goal

pub returns : goal.returns
returns c =
    record {
      same = refl;
      adds = put_part c.args.self.now.out.now c.args.part.now c.args.self.now.at c.args.self.now.within (omega arith) (omega arith)
          (search rules);
    }
