-- What the reader finds in a table whose tokens stand for ts: the table was w, and is w'.
use Rattle.std.specs.Prelude.{Result, Ok, Err, List, ◌≡◌, ℕ, ◌≤◌, length}
use Rattle.language.specs.Sizes.{TABLE}
use Rattle.language.specs.Tokens.{Token}
use Rattle.language.specs.Trees.{Program}
use Rattle.language.specs.Grammar.{Reading}
use Rattle.language.specs.Starts.{FirstWrong}
use Rattle.layout.specs.Table.{without_rows}
use Rattle.layout.specs.Names.{Stand}
use Rattle.layout.specs.Rows.{lay_program, held_as}
use Rattle.layout.specs.declared.Held.{Held}
use Rattle.phrases.specs.declared.parts.Failed.{Failed}

-- the table stands for some tokens
pub record Standing (w : List ℕ) (count : ℕ) : Type 0 where
  pub tokens : List Token
  pub stand : Stand w count tokens
  pub long : TABLE ≤ length w

-- a reading, laid down
pub record Read (ts : List Token) (w : List ℕ) (P : Held) (w' : List ℕ) : Type 0 where
  pub program : Program
  pub reading : Reading ts program
  pub held : P ≡ held_as ts program
  pub laid : w' ≡ lay_program w program

-- none: token e is the first with which no program goes on, or the end where only the end is wrong (R01.3)
pub record Unread (ts : List Token) (w : List ℕ) (e : ℕ) (w' : List ℕ) : Type 0 where
  pub at : FirstWrong ts e
  pub clear : w' ≡ without_rows w

abbrev pub Finds : List Token → List ℕ → Result Held Failed → List ℕ → Type 0
Finds ts w (Ok P) w' = Read ts w P w'
Finds ts w (Err e) w' = Unread ts w e.at w'
