-- The classes of bytes as the library tells them.
use mathlib.Core.Path.{◌≡◌, refl}
use Prim.Native.Nat.{ℕ}
use Rattle.language.proofs.Text.Classes.{worth_digit, worth_large, worth_small, hex_low, hex_large, hex_small}
use Rattle.language.specs.Text.{between, is_digit, is_hex_digit}
use Rattle.std.specs.Char.{is_ascii_hexdigit}

pub ascii_hex : (b : ℕ) → is_ascii_hexdigit b ≡ is_hex_digit b
unfolding is_hex_digit is_digit between
ascii_hex b = refl

pub ruleset hex_worths = (worth_digit, worth_large, worth_small, hex_low, hex_large, hex_small)
