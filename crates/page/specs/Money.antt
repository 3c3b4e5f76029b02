-- Pence as pounds and pence.
use Rattle.std.specs.Prelude.{List, ◌++◌, ℕ, ◌/◌}
use Rattle.io.specs.Digits.{last_digits}
use Rattle.language.specs.Tokens.{spell}
use Rattle.page.specs.Text.{decimal_of}

-- two digits behind a point
unfoldable pub pounds_text : ℕ → List ℕ
pounds_text n = decimal_of (n / 100) ++ spell "." ++ last_digits 10 2 n
