-- `is_name_byte` asks the library for letters and digits.
use native.Mathlib.Omega.{arith}
use Rattle.language.specs.Text.{between, is_letter, is_digit, is_name_byte}
use Rattle.std.proofs.lemmas.Grind.{common_steps}
use Rattle.tokens.proofs.bytes.is_name_byte.Goals as goal

pub returns-then-is_ascii_alphanumeric : goal.returns-then-is_ascii_alphanumeric
unfolding is_name_byte is_letter is_digit between
returns-then-is_ascii_alphanumeric c = grind (arith, common_steps)

pub returns-else-is_ascii_alphanumeric : goal.returns-else-is_ascii_alphanumeric
unfolding is_name_byte is_letter is_digit between
returns-else-is_ascii_alphanumeric c = grind (arith, common_steps)
