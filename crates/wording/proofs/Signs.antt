-- A number with its sign, whatever words there are for its distance from 0.
use borrow.Author.Tests.{ltb-true}
use lib.Dec.{T}
use lib.IntN.{ℤ, pos, negsuc, nat_abs}
use lib.Signed.{lt_z}
use mathlib.Core.Bool.{true, false}
use mathlib.Core.List.{List, ◌++◌}
use mathlib.Core.Path.{◌≡◌, subst}
use native.Mathlib.Omega.{arith}
use Prim.Native.Nat.{ℕ, ◌<◌}
use Rattle.language.specs.Tokens.{spell}
use Rattle.wording.specs.Values.{signed_by}

module _ (f : ℕ → List ℕ) where
  pub below : (z : ℤ) → lt_z z (pos 0) ≡ true → {m : ℕ} → m ≡ nat_abs z → spell "-" ++ f m ≡ signed_by f z
  unfolding signed_by
  below (pos n) h e = let l : n < 0 = ltb-true n 0 h in absurd (omega arith)
  below (negsuc n) h e = rw e

  pub above : (z : ℤ) → lt_z z (pos 0) ≡ false → {m : ℕ} → m ≡ nat_abs z → f m ≡ signed_by f z
  unfolding signed_by
  above (pos n) h e = rw e
  above (negsuc n) h e = absurd (subst T h tt)
