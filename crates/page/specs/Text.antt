-- Text that is put behind text into lent bytes, and bytes put so that they can be seen.
use Rattle.std.specs.Prelude.{Bool, true, false, cond, not, List, [], ◌∷◌, ◌++◌, ◌≡◌, eqb, ltb, length, take, drop, ℕ, zero, suc, ◌+◌, ◌/◌, ◌%◌, min}
use Prim.Native.Char.{code}
use Rattle.io.specs.Digits.{last_digits, hex_digit_ascii}
use Rattle.language.specs.Tokens.{spell}
use Rattle.std.specs.Borrow.{MutBor}
use Rattle.page.specs.Characters.{inner}
use Rattle.page.specs.declared.pages.Page.{Page}

-- The bytes before the place `at` stay, the part stands behind them, and what is behind the part is as it was; where
-- the lent bytes have no room for all of it, the part is cut. r is where it ends.
pub record Adds (part entry exit : List ℕ) (at r : ℕ) : Type 0 where
  pub text : exit ≡ take (length entry) (take at entry ++ part) ++ drop (at + length part) entry
  pub ends : r ≡ min (length entry) (at + length part)

-- a page that was written on: the same bytes are lent, and the part stands behind what stood there
pub record Writes (part : List ℕ) (entry exit : Page) : Type 0 where
  pub same : exit.out.ghost_name ≡ entry.out.ghost_name
  pub adds : Adds part entry.out.now exit.out.now entry.at exit.at

-- a page on lent bytes, with nothing on it
pub record Begins (lent : MutBor (List ℕ)) (page : Page) : Type 0 where
  pub same : page.out.ghost_name ≡ lent.ghost_name
  pub bytes : page.out.now ≡ lent.now
  pub starts : page.at ≡ 0

-- a page on lent bytes, the first of which are text already
pub record Continues (lent : MutBor (List ℕ)) (at : ℕ) (page : Page) : Type 0 where
  pub same : page.out.ghost_name ≡ lent.ghost_name
  pub bytes : page.out.now ≡ lent.now
  pub starts : page.at ≡ min at (length lent.now)

-- ---- numbers

-- how many digits a number has in decimal, where it is at most `most`
unfoldable pub places : (most n : ℕ) → ℕ
places zero n = 1
places (suc k) n = cond (ltb n 10) 1 (suc (places k (n / 10)))

unfoldable pub decimal_of : ℕ → List ℕ
decimal_of n = last_digits 10 (places n n) n

-- ---- bytes that can be seen

-- what each byte comes to, one behind the other
unfoldable pub each : (ℕ → List ℕ) → List ℕ → List ℕ
each f [] = []
each f (b ∷ t) = f b ++ each f t

-- `plain` where they are UTF-8: then a byte beyond ASCII is seen as it is
unfoldable pub is_hidden : (plain : Bool) → ℕ → Bool
is_hidden plain b =
    cond (ltb b 32) (not (eqb b (code "\t")))
    (cond (ltb b 127) false
    (cond (eqb b 127) true (not plain)))

unfoldable pub byte_shown : (plain : Bool) → ℕ → List ℕ
byte_shown plain b = cond (is_hidden plain b) (code "\\" ∷ code "x" ∷ hex_digit_ascii (b / 16) ∷ hex_digit_ascii (b % 16) ∷ []) (b ∷ [])

abbrev pub all_shown : (plain : Bool) → List ℕ → List ℕ
all_shown plain t = each (byte_shown plain) t

-- blanks as wide; a tab is as wide as a tab, and a byte inside a character has no width of its own
unfoldable pub byte_blank : (plain : Bool) → ℕ → List ℕ
byte_blank plain b =
    cond (is_hidden plain b) (spell "    ")
    (cond (eqb b (code "\t")) (spell "\t")
    (cond (inner b) [] (spell " ")))

abbrev pub all_blank : (plain : Bool) → List ℕ → List ℕ
all_blank plain t = each (byte_blank plain) t
