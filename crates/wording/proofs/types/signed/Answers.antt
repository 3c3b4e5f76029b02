-- `signed` puts a dash before a number below 0.
use lib.IntN.{ℤ, pos, nat_abs}
use lib.Signed.{lt_z}
use mathlib.Core.Bool.{true, false}
use mathlib.Core.Path.{◌≡◌, ◌∙◌, ap, subst}
use mir.Facts.{to_z-of_z}
use mir.Syntax.{w64}
use Rattle.page.proofs.Adding.{being, onto, ◌▸◌}
use Rattle.page.specs.Text.{decimal_of}
use Rattle.wording.proofs.Signs.{below, above}
use Rattle.wording.proofs.types.signed.Goals.{then-n-lt0, else-n-lt0}
use Rattle.wording.proofs.types.signed.Goals as goal

pub returns : goal.returns
returns c =
    let same = to_z-of_z {w = w64} c.ranges.n in
    let far = c.unsigned_abs.ensures.value ∙ ap nat_abs same in
    elim c.if-n-lt0.branch [
      | then-n-lt0 w ↦
          being (below decimal_of c.args.n (subst (λ (x : ℤ). lt_z x (pos 0) ≡ true) same w.if-n-lt0.true) far)
          (w.put.ensures ▸ onto w.page-is c.decimal.ensures)
      | else-n-lt0 w ↦
          being (above decimal_of c.args.n (subst (λ (x : ℤ). lt_z x (pos 0) ≡ false) same w.if-n-lt0.false) far)
          (onto w.page-is c.decimal.ensures)
    ]
