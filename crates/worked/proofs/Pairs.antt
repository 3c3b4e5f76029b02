-- Places of two sheets by computation: each row has the sheets, a place of the joined text, and what is told of it.
use mathlib.Core.List.{List, [], ◌∷◌}
use mathlib.Core.Path.{◌≡◌, refl}
use Prim.Native.Nat.{ℕ}
use Prim.Native.String.{String}
use Rattle.language.specs.Tokens.{spell}
use Rattle.language.specs.Text.{is_in_line}
use Rattle.language.specs.Pairs.{line_begin, before_feed, line_end, Place, in_sheet, place_of}

pub record Row : Type 0 where
  pub first : String
  pub second : String
  pub at : ℕ
  pub told : Place

abbrev pub row : String → String → ℕ → ℕ → ℕ → ℕ → ℕ → Row
row f s p n i b e = record { first = f; second = s; at = p; told = record { sheet = n; at = i; begins = b; ends = e } }

abbrev pub rows : List Row
rows =
    -- a byte of the first, in its first line and in its last
    row "ab\ncd" "ef" 1 1 1 0 2
    ∷ row "ab\ncd" "ef" 4 1 4 3 5
    -- an LF of its own belongs to the line that it ends, and is not shown
    ∷ row "ab\ncd" "ef" 2 1 2 0 2
    -- the LF between the sheets is the end of the first
    ∷ row "ab\ncd" "ef" 5 1 5 5 5
    ∷ row "" "ef" 0 1 0 0 0
    -- the second, counted from its own start; a CR stays in its line
    ∷ row "ab" "cd\r\nef" 3 2 0 0 3
    ∷ row "ab" "cd\r\nef" 8 2 5 4 6
    -- the end, also of an empty sheet
    ∷ row "ab" "cd" 5 2 2 2 2
    ∷ row "1+" "" 3 2 0 0 0
    ∷ row "" "" 1 2 0 0 0
    ∷ []

abbrev pub Right : List Row → Type 0
Right [] = Unit {0}
Right (r ∷ rs) = (place_of (spell r.first) (spell r.second) r.at ≡ r.told) × Right rs

pub all_right : Right rows
unfolding place_of in_sheet line_begin before_feed line_end is_in_line
all_right = (refl, (refl, (refl, (refl, (refl, (refl, (refl, (refl, (refl, (refl, tt))))))))))
