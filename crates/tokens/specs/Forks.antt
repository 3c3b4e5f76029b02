-- How a name is found among the tokens before it. While tokens are written, the words behind theirs hold forks. A fork
-- asks for one bit of one letter of a spelling, and has two links; a link leads to a fork or is a token's ordinal. A
-- spelling takes one way, which ends at the one token that can be spelled so.
use Rattle.std.specs.Prelude.{Option, Some, None, ltb, length, get_or, set, Bool, true, false, cond, List, ◌≡◌, ℕ, ◌+◌, ◌*◌, ◌-◌, ◌/◌, ◌%◌, ◌≤◌, ◌<◌}
use Rattle.language.specs.Sizes.{TOKENS, TABLE}
use Rattle.language.specs.Tokens.{Spelling, same, NAME}
use Rattle.layout.specs.Table.{ROWS_AT, VARIABLES_AT}

-- ---- what is used for it

-- two tables are the same but for the words of rows and functions, which whoever writes those writes anew
pub record ButRows (v w : List ℕ) : Type 0 where
  pub long : length v ≡ length w
  pub words : (i : ℕ) → (ROWS_AT ≤ i → i < VARIABLES_AT → ⊥) → get_or v i 0 ≡ get_or w i 0

-- Fork f, from TOKENS on, has four words where token f would have them: a place, a bit, and two links. The first of
-- them ask nothing: at the first link of each begins a way, for the spellings of one length, and those that are longer.
abbrev pub ROOTS : ℕ
ROOTS = 256

-- Behind the forks is a word for each token, for whoever has to know where its spelling stands, and then how many forks
-- there are.
abbrev pub STARTS_AT : ℕ
STARTS_AT = 8 * TOKENS + 4 * ROOTS

abbrev pub FORKS_AT : ℕ
FORKS_AT = 9 * TOKENS + 4 * ROOTS

-- two tables have the same forks
pub record SameForks (v w : List ℕ) : Type 0 where
  pub words : (i : ℕ) → ROWS_AT ≤ i → i < STARTS_AT → get_or v i 0 ≡ get_or w i 0
  pub count : get_or v FORKS_AT 0 ≡ get_or w FORKS_AT 0

-- ---- ways

-- one more than byte i of a spelling; 0 past its last
unfoldable pub letter_at : Spelling → ℕ → ℕ
letter_at s i = cond (ltb i (length s)) (get_or s i 0 + 1) 0

-- which of the links of fork f a spelling takes, and the word where this lies
unfoldable pub turn : List ℕ → Spelling → ℕ → ℕ
turn w s f = (letter_at s (get_or w (4 * f) 0) / get_or w (4 * f + 1) 0) % 2

abbrev pub link : List ℕ → Spelling → ℕ → ℕ
link w s f = 4 * f + 2 + turn w s f

-- where the way of a spelling of so many bytes begins
unfoldable pub root_of : ℕ → ℕ
root_of n = cond (ltb n (ROOTS - 1)) n (ROOTS - 1)

abbrev pub start_at : ℕ → ℕ
start_at n = 4 * (TOKENS + root_of n) + 2

abbrev pub start : Spelling → ℕ
start s = start_at (length s)

-- from the link at word a the way of a spelling leads to that at word e
pub data Leads (w : List ℕ) (s : Spelling) : ℕ → ℕ → Type 0 where
  here : {a : ℕ} → Leads w s a a
  goes : {a e : ℕ} → TOKENS ≤ get_or w a 0 → Leads w s (link w s (get_or w a 0)) e → Leads w s a e

-- the way of a spelling ends at token r
pub record Finds (w : List ℕ) (s : Spelling) (r : ℕ) : Type 0 where
  pub at : ℕ
  pub leads : Leads w s (start s) at
  pub leaf : get_or w at 0 ≡ r
  pub small : r < TOKENS

-- ---- the forks of a table

-- x is a link of fork f: an ordinal of one of n tokens, or one of m forks behind f that asks
pub record Link (n m f x : ℕ) : Type 0 where
  pub leaf : x < TOKENS → x ≤ n - 1
  pub above : TOKENS ≤ x → f < x
  pub asks : TOKENS ≤ x → TOKENS + ROOTS ≤ x
  pub below : TOKENS ≤ x → x < TOKENS + m

-- at word a lies a link of one of m forks
pub record LinkAt (m a : ℕ) : Type 0 where
  pub fork : ℕ
  pub side : ℕ
  pub low : TOKENS ≤ fork
  pub high : fork < TOKENS + m
  pub two : side < 2
  pub is : a ≡ 4 * fork + 2 + side

-- the forks of a table with n tokens
pub record Shape (w : List ℕ) (n : ℕ) : Type 0 where
  pub some : ROOTS ≤ get_or w FORKS_AT 0
  pub few : get_or w FORKS_AT 0 ≤ ROOTS + (n - 1)
  pub bits : (f : ℕ) → TOKENS + ROOTS ≤ f → f < TOKENS + get_or w FORKS_AT 0 → 0 < get_or w (4 * f + 1) 0
  pub links : (f side : ℕ) → TOKENS ≤ f → f < TOKENS + get_or w FORKS_AT 0 → side < 2
      → Link n (get_or w FORKS_AT 0) f (get_or w (4 * f + 2 + side) 0)

-- the way of a spelling ends with the link at this word
pub record Ends (w : List ℕ) (s : Spelling) (at : ℕ) : Type 0 where
  pub leads : Leads w s (start s) at
  pub link_at : LinkAt (get_or w FORKS_AT 0) at
  pub leaf : get_or w at 0 < TOKENS

-- what can be asked of fork f
pub record Askable (w : List ℕ) (f : ℕ) : Type 0 where
  pub room : TABLE ≤ length w
  pub inside : f < 2 * TOKENS + ROOTS
  pub bit : 0 < get_or w (4 * f + 1) 0

-- a spelling can be sought among n tokens
pub record Seekable (w : List ℕ) (n : ℕ) : Type 0 where
  pub room : TABLE ≤ length w
  pub few : n ≤ TOKENS
  pub shape : Shape w n

-- ---- a fork more

-- the spellings are the same, or their letters at i are not
abbrev pub IsParting : Spelling → Spelling → Option ℕ → Type 0
IsParting x s None = same x s ≡ true
IsParting x s (Some i) = (i ≤ length x) × (letter_at x i ≡ letter_at s i → ⊥)

-- a fork that asks so, with the link at word `at` for one turn, and token n for the other; that link then leads to it
unfoldable pub put_fork : List ℕ → (at n place bit t : ℕ) → List ℕ
put_fork w at n place bit t =
    set
    (set
    (set
    (set
    (set (set w (4 * (TOKENS + get_or w FORKS_AT 0)) place) (4 * (TOKENS + get_or w FORKS_AT 0) + 1) bit)
    (4 * (TOKENS + get_or w FORKS_AT 0) + 2 + t) (get_or w at 0))
    (4 * (TOKENS + get_or w FORKS_AT 0) + 3 - t) n)
    at (TOKENS + get_or w FORKS_AT 0))
    FORKS_AT (get_or w FORKS_AT 0 + 1)

-- letters that differ, by a bit
pub record Apart (old new bit : ℕ) : Type 0 where
  pub some : 0 < bit
  pub differ : (old / bit) % 2 ≡ (new / bit) % 2 → ⊥

pub record Forkable (w : List ℕ) (at n place old new : ℕ) : Type 0 where
  pub room : TABLE ≤ length w
  pub some : 0 < n
  pub few : n < TOKENS
  pub shape : Shape w n
  pub link_at : LinkAt (get_or w FORKS_AT 0) at
  pub near : place < 4294967296
  pub small : (old ≤ 256) × (new ≤ 256)
  pub differ : old ≡ new → ⊥

pub record Forked (w v : List ℕ) (at n place old new : ℕ) : Type 0 where
  pub bit : ℕ
  pub apart : Apart old new bit
  pub table : v ≡ put_fork w at n place bit ((old / bit) % 2)

-- token n can be hung beside the token at which its way ends and which is spelled x
pub record Hangable (w : List ℕ) (at n : ℕ) (x : Spelling) : Type 0 where
  pub room : TABLE ≤ length w
  pub some : 0 < n
  pub few : n < TOKENS
  pub shape : Shape w n
  pub link_at : LinkAt (get_or w FORKS_AT 0) at
  pub near : length x < 4294967296

-- whether the spelling s is x; where it is not, there is a fork more
pub record Hung (w v : List ℕ) (at n : ℕ) (x s : Spelling) (r : Bool) : Type 0 where
  pub told : r ≡ same x s
  pub kept : r ≡ true → v ≡ w
  pub place : ℕ
  pub forked : r ≡ false → Forked w v at n place (letter_at x place) (letter_at s place)

-- ---- tokens found

-- the spellings are sp: the first token that is spelled like token j is found
pub record Found (sp : ℕ → Spelling) (w : List ℕ) (j : ℕ) : Type 0 where
  pub first : ℕ
  pub finds : Finds w (sp j) first
  pub before : first ≤ j
  pub alike : sp first ≡ sp j

-- a spelling can be found, if one of n tokens has it
pub record Sought (sp : ℕ → Spelling) (w : List ℕ) (n : ℕ) (s : Spelling) : Type 0 where
  pub small : n < TOKENS
  pub shape : Shape w n
  pub found : (j : ℕ) → j < n → sp j ≡ s → Found sp w j

-- the table v with forks for token n too, which is spelled s
pub record Planted (sp : ℕ → Spelling) (w v : List ℕ) (n : ℕ) (s : Spelling) : Type 0 where
  pub rest : ButRows v w
  pub starts : (i : ℕ) → STARTS_AT ≤ i → i < FORKS_AT → get_or v i 0 ≡ get_or w i 0
  pub shape : Shape v (n + 1)
  pub kept : (z : Spelling) (i : ℕ) → sp i ≡ z → Finds w z i → Finds v z i
  pub first : ℕ
  pub within : first ≤ n
  pub alike : first < n → sp first ≡ s
  pub finds : Finds v s first

-- the same for a token of any kind, of which only a name is sought
pub record Foretold (sp : ℕ → Spelling) (w v : List ℕ) (n kind : ℕ) (s : Spelling) : Type 0 where
  pub name : kind ≡ NAME → Planted sp w v n s
  pub other : (kind ≡ NAME → ⊥) → v ≡ w

-- no token yet, and the forks at which ways begin; their links are all the token that comes first
pub record Begun (w v : List ℕ) : Type 0 where
  pub rest : ButRows v w
  pub shape : Shape v 0
