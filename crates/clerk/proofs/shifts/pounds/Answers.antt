-- `pounds` puts a dash before what is below 0.
use lib.IntN.{ℤ, pos, nat_abs}
use lib.Signed.{lt_z}
use mathlib.Core.Bool.{true, false}
use mathlib.Core.Path.{◌≡◌, ◌∙◌, ap, subst}
use mir.Facts.{to_z-of_z}
use mir.Syntax.{w64}
use Rattle.page.specs.Money.{pounds_text}
use Rattle.page.proofs.Adding.{being, onto, ◌▸◌}
use Rattle.wording.proofs.Signs.{below, above}
use Rattle.clerk.proofs.shifts.pounds.Goals.{then-pence-lt0, else-pence-lt0}
use Rattle.clerk.proofs.shifts.pounds.Goals as goal

pub returns : goal.returns
returns c =
    let same = to_z-of_z {w = w64} c.ranges.pence in
    let far = c.unsigned_abs.ensures.value ∙ ap nat_abs same in
    elim c.if-pence-lt0.branch [
      | then-pence-lt0 w ↦
          being (below pounds_text c.args.pence (subst (λ (x : ℤ). lt_z x (pos 0) ≡ true) same w.if-pence-lt0.true) far)
          (w.put.ensures ▸ onto w.page-is c.pounds.ensures)
      | else-pence-lt0 w ↦
          being (above pounds_text c.args.pence (subst (λ (x : ℤ). lt_z x (pos 0) ≡ false) same w.if-pence-lt0.false) far)
          (onto w.page-is c.pounds.ensures)
    ]
