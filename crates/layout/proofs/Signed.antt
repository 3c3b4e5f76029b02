-- Signed 32-bit numbers and their bits, by way of 64 bits.
use mathlib.Core.Path.{◌≡◌}
use lib.IntN.{ℤ}
use mir.Syntax.{w32, w64}
use mir.Val.{to_z, of_z, SFits}
use mir.Facts.{to_z-of_z, sfits_widen}

-- a 32-bit number, taken to 64 bits
module _ {z : ℤ} (f : SFits w32 z) where
  pub widened : SFits w64 (to_z w32 (of_z w32 z))
  widened = rw (to_z-of_z {w = w32} f) (sfits_widen tt f)

  pub wide : to_z w64 (of_z w64 (to_z w32 (of_z w32 z))) ≡ z
  wide = rw (to_z-of_z {w = w32} f) (to_z-of_z {w = w64} (sfits_widen tt f))
