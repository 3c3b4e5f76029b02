-- Lines of a text, which line feeds separate, and where in them a place lies.
use Rattle.std.specs.Prelude.{Bool, cond, List, [], ◌∷◌, reverse, ◌≡◌, eqb, length, get_or, take, drop, ℕ, zero, suc, ◌+◌, ◌-◌, ◌≤◌}
use Prim.Native.Char.{code}
use Rattle.page.specs.Characters.{is_readable, heads}
use Rattle.page.specs.declared.lines.Spot.{Spot}

-- how many line feeds a text has
unfoldable pub feeds : List ℕ → ℕ
feeds [] = zero
feeds (b ∷ t) = cond (eqb b (code "\n")) (suc (feeds t)) (feeds t)

-- how many bytes of a text stand before its first line feed; all, where it has none
unfoldable pub ahead : List ℕ → ℕ
ahead [] = zero
ahead (b ∷ t) = cond (eqb b (code "\n")) zero (suc (ahead t))

-- how many bytes of a text stand behind its last line feed; all, where it has none
unfoldable pub behind : List ℕ → ℕ
unfolding ahead
behind t = ahead (reverse t)

-- how many columns a part of a line takes: one for each character where the line is UTF-8, and else one for each byte
unfoldable pub columns_of : (plain : Bool) → List ℕ → ℕ
columns_of plain t = cond plain (heads t) (length t)

-- a line without the carriage return at its end
unfoldable pub without_return : List ℕ → List ℕ
without_return t = cond (eqb (get_or t (length t - 1) 0) (code "\r")) (take (length t - 1) t) t

-- The line and column of the place p, which is not past the end; the bytes of its line, from one up to another; where p
-- is; and whether the line is UTF-8. The last three parts follow from the others, and are for those who take those
-- parts of the text.
pub record Spotted (t : List ℕ) (p : ℕ) (s : Spot) : Type 0 where
  pub line : s.line ≡ feeds (take p t) + 1
  pub from : s.from + behind (take p t) ≡ p
  pub here : s.here ≡ p
  pub to : s.to ≡ p + ahead (drop p t)
  pub plain : s.plain ≡ is_readable (take (s.to - s.from) (drop s.from t))
  pub column : s.column ≡ columns_of s.plain (take (s.here - s.from) (drop s.from t)) + 1
  pub before : s.from ≤ s.here
  pub ordered : s.from ≤ s.to
  pub within : s.to ≤ length t
