-- An outline by the words of a table and the bytes of a text: the contracts inside this crate.
use Rattle.std.specs.Prelude.{Bool, true, false, cond, List, [], ◌∷◌, ◌≡◌, ℕ, zero, suc, ◌+◌, ◌-◌, ◌≤◌, ◌<◌, eqb, ltb, length, Result, Ok, Err}
use Rattle.language.specs.Sizes.{TABLE, NODES}
use Rattle.language.specs.Tokens.{NUMBER}
use Rattle.language.specs.Text.{byte}
use Rattle.language.specs.Outline.{Wanted}
use Rattle.layout.specs.Table.{KIND, OWN, TYPE, ARITY, RESULT, token_place, token_end, row_word, function_row}
use Rattle.layout.specs.Functions.{Headed}
use Rattle.sheets.specs.Sheets.{Seen}
use Rattle.numbers.specs.declared.Refusal.{Refusal}
use Rattle.outlines.specs.declared.Found.{Found}

-- numbers that are found one after the other, from p on
unfoldable pub matches : (ℕ → ℕ) → ℕ → List ℕ → Bool
matches f p [] = true
matches f p (n ∷ ns) = cond (eqb (f p) n) (matches f (p + 1) ns) false

-- the bytes of a text; the types of parameters
abbrev pub byte_of : List ℕ → ℕ → ℕ
byte_of t p = byte t p

abbrev pub type_of : List ℕ → ℕ → ℕ
type_of w r = row_word w r TYPE

-- the bytes from p up to e are these
unfoldable pub spelled_in : List ℕ → ℕ → ℕ → List ℕ → Bool
spelled_in t p e name = cond (ltb e p) false (cond (eqb (e - p) (length name)) (matches (byte_of t) p name) false)

-- the function at row r takes these
unfoldable pub takes_in : List ℕ → ℕ → List ℕ → Bool
takes_in w r takes = cond (eqb (row_word w r ARITY) (length takes)) (matches (type_of w) (r + 1) takes) false

-- function k has a head, and its parameters have rows
pub record Whole (w : List ℕ) (k : ℕ) : Type 0 where
  pub headed : Headed w k
  pub params : function_row w k + row_word w (function_row w k) ARITY < NODES

unfoldable pub suits_at : List ℕ → List ℕ → ℕ → Wanted → Bool
suits_at t w r x =
    let n = row_word w r OWN + 1 in
    cond (spelled_in t (token_place w n) (token_end w n) x.called)
    (cond (takes_in w r x.takes) (eqb (row_word w r RESULT) x.gives) false) false

abbrev pub suits_in : List ℕ → List ℕ → ℕ → Wanted → Bool
suits_in t w k x = suits_at t w (function_row w k) x

-- one of n functions from k on
unfoldable pub any_from : List ℕ → List ℕ → Wanted → ℕ → ℕ → Bool
any_from t w x k zero = false
any_from t w x k (suc n) = cond (suits_in t w k x) true (any_from t w x (k + 1) n)

abbrev pub alone_in : List ℕ → ℕ → Bool
alone_in w root = eqb (row_word w root KIND) NUMBER

-- a sheet that passes has its rows
pub record Rows (w : List ℕ) (root functions : ℕ) : Type 0 where
  pub long : TABLE ≤ length w
  pub main : root < NODES
  pub all : (k : ℕ) → k < functions → Whole w k

abbrev pub Rooted : List ℕ → Seen → Type 0
Rooted w (Ok p) = Rows w p.program.root p.program.functions
Rooted w (Err e) = Unit {0}

abbrev pub Drawn : List ℕ → List ℕ → Seen → Wanted → Result Found Refusal → Type 0
Drawn t w (Ok p) x r =
    r ≡ Ok (record { alone = alone_in w p.program.root; there = any_from t w x 0 p.program.functions })
Drawn t w (Err e) x r = r ≡ Err e.why
