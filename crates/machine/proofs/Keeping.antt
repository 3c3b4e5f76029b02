-- What a step keeps.
use mathlib.Core.Path.{◌≡◌, refl}
use mathlib.Core.List.{List}
use Prim.Native.Nat.{ℕ, ◌<◌}
use native.Mathlib.Omega.{arith}
use Rattle.layout.specs.Slots.{key_at}
use Rattle.layout.specs.Frames.{CELLS_AT}
use Rattle.machine.specs.Slots.{Rising}
use Rattle.machine.specs.Outcomes.{Kept}
use Rattle.machine.specs.declared.state.Tally.{Tally}

-- cells that keep their birth numbers keep their order
pub rising_same : (w w1 : List ℕ) (n : ℕ) → ((i : ℕ) → i < n → key_at w1 CELLS_AT i ≡ key_at w CELLS_AT i) → Rising w n → Rising w1 n
rising_same w w1 n keys r i j l h = omega (arith, keys i (omega arith), keys j h, r i j l h)

-- nothing is changed
pub kept_self : (w : List ℕ) (s : Tally) → Kept w w s s
kept_self w s = record {
  below = λ i l u. refl;
  beyond = λ i h. refl;
  long = refl;
  above = omega arith;
  older = omega arith;
  keys = λ i h. refl;
  newer = λ i lo hi. absurd (omega arith);
}
