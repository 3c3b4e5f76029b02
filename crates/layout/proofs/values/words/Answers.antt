use mathlib.Core.Path.{sym, ap, ◌∙◌}
use Prim.Native.Nat.{ℕ, ◌/◌, ◌%◌}
use lib.Dec.{T}
use lib.Ieee.{binary64, fits}
use Rattle.language.specs.State.{float}
use Rattle.layout.specs.Values.{HALF, tag_of, low_of, high_of}
use Rattle.layout.proofs.FloatWords.{float_back}
use borrow.Author.Rules.{rules}
use Rattle.layout.proofs.values.words.Goals as goal

pub returns-in-Float : goal.returns-in-Float
returns-in-Float c =
    let e = c.in-Float.is in
    let x = c.in-Float.x in
    let t : T (fits binary64 x) = search rules in
    let b = c.bits-n.ensures in (
      ap tag_of (sym e),
      c.low.ensures ∙ ap (λ (n : ℕ). n % HALF) b ∙ ap low_of (sym e),
      c.high.ensures ∙ ap (λ (n : ℕ). n / HALF) b ∙ ap high_of (sym e),
      rw e (ap float (float_back x t)),
    )
