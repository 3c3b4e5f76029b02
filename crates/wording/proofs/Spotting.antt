-- What is found of a place is what it is a function of sheet and place.
use lib.ListN.{length, take, drop}
use mathlib.Core.List.{List}
use mathlib.Core.Path.{◌≡◌, ◌∙◌, ap}
use native.Mathlib.Omega.{arith}
use Prim.Native.Nat.{ℕ, ◌-◌, min}
use Rattle.page.specs.Characters.{is_readable}
use Rattle.page.specs.Lines.{Spotted}
use Rattle.page.specs.declared.lines.Spot.{Spot}
use Rattle.wording.specs.Spots.{here, line_at, begin_at, end_at, bytes_at, before_at, plain_at, column_at}

module _ {t : List ℕ} (p : ℕ) {s : Spot} (f : Spotted t (min p (length t)) s) where
  pub line_is : s.line ≡ line_at t p
  unfolding line_at here
  line_is = f.line

  from_is : s.from ≡ begin_at t p
  unfolding begin_at here
  from_is = omega (arith, f.from)

  to_is : s.to ≡ end_at t p
  unfolding end_at here
  to_is = f.to

  here_is : s.here ≡ here t p
  unfolding here
  here_is = f.here

  pub bytes_are : take (s.to - s.from) (drop s.from t) ≡ bytes_at t p
  unfolding bytes_at
  bytes_are = rw (from_is, to_is)

  pub before_are : take (s.here - s.from) (drop s.from t) ≡ before_at t p
  unfolding before_at
  before_are = rw (from_is, here_is)

  pub plain_is : s.plain ≡ plain_at t p
  unfolding plain_at
  plain_is = f.plain ∙ ap is_readable bytes_are

  pub column_is : s.column ≡ column_at t p
  unfolding column_at
  column_is = f.column ∙ rw (plain_is, before_are)
