-- `put_byte` puts the byte where there is room.
use mathlib.Core.List.{[], ◌∷◌}
use mathlib.Core.Path.{refl}
use Rattle.page.proofs.Adding.{put_one, put_nowhere}
use Rattle.page.proofs.pages.Page.put_byte.Goals as goal

pub returns-then-self : goal.returns-then-self
returns-then-self c =
    record { same = refl; adds = put_one c.args.self.now.out.now c.args.b c.args.self.now.at c.if-self.true }

pub returns-else-self : goal.returns-else-self
returns-else-self c =
    let p = c.args.self.now in
    record { same = refl; adds = put_nowhere p.out.now (c.args.b ∷ []) p.at c.if-self.false p.within }
