-- The bytes that a view shows of two sheets, and those that hexadecimal digits tell.
use Rattle.std.specs.Prelude.{Option, Some, None, ◌≡◌, ◌<◌, ltb, Bool, List, [], ◌∷◌, ℕ, ◌+◌, ◌*◌, ◌%◌}
use Rattle.std.proofs.Math.Seq.{slice}
use Rattle.language.proofs.Stored.Hex.{digit_worth}
use Rattle.language.specs.Pairs.{joined}
use Rattle.tokens.specs.declared.view.Text as text
use Rattle.tokens.specs.declared.view.View as view
use Rattle.tokens.specs.declared.view.View.TheVariants.{Plain, Joined, Line}

-- ---- digits (R09.2)

-- what a digit is worth; no other byte is one
abbrev pub IsDigit : ℕ → Option ℕ → Type 0
IsDigit b None = digit_worth b ≡ 16
IsDigit b (Some d) = (digit_worth b ≡ d) × (d < 16)

unfoldable pub is_capital : ℕ → Bool
is_capital b = ltb (digit_worth b) 16

-- the byte of two digits; of two others some byte, so that any bytes can be looked at
unfoldable pub two : ℕ → ℕ → ℕ
two d e = (digit_worth d * 16 + digit_worth e) % 256

-- two digits tell a byte each time, and one that is left over tells none
unfoldable pub told : List ℕ → List ℕ
unfolding two
told [] = []
told (d ∷ []) = []
told (d ∷ e ∷ l) = two d e ∷ told l

-- ---- views

abbrev pub shown : List ℕ → List ℕ → view.View → List ℕ
shown first second Plain = first
shown first second Joined = joined first second
shown first second (Line from to) = told (slice from to first)

-- the bytes of a text
abbrev pub text_of : text.Text → List ℕ
text_of t = shown t.first.now t.second.now t.view
