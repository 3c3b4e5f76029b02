-- Where a place lies in a sheet: line and column, both counted from 1, the bytes of its line, those that stand before it
-- there, and whether the line is UTF-8. A place past the end counts as the end.
use Rattle.std.specs.Prelude.{length, take, drop, Bool, List, ℕ, ◌+◌, ◌-◌, min}
use Rattle.page.specs.Characters.{is_readable}
use Rattle.page.specs.Lines.{feeds, behind, ahead, columns_of}

unfoldable pub here : (sheet : List ℕ) (place : ℕ) → ℕ
here t p = min p (length t)

-- one more than the line feeds before it
unfoldable pub line_at : (sheet : List ℕ) (place : ℕ) → ℕ
line_at t p = feeds (take (here t p) t) + 1

-- where its line begins and where it ends
unfoldable pub begin_at : (sheet : List ℕ) (place : ℕ) → ℕ
begin_at t p = here t p - behind (take (here t p) t)

unfoldable pub end_at : (sheet : List ℕ) (place : ℕ) → ℕ
end_at t p = here t p + ahead (drop (here t p) t)

unfoldable pub bytes_at : (sheet : List ℕ) (place : ℕ) → List ℕ
bytes_at t p = take (end_at t p - begin_at t p) (drop (begin_at t p) t)

unfoldable pub before_at : (sheet : List ℕ) (place : ℕ) → List ℕ
before_at t p = take (here t p - begin_at t p) (drop (begin_at t p) t)

unfoldable pub plain_at : (sheet : List ℕ) (place : ℕ) → Bool
plain_at t p = is_readable (bytes_at t p)

unfoldable pub column_at : (sheet : List ℕ) (place : ℕ) → ℕ
column_at t p = columns_of (plain_at t p) (before_at t p) + 1
