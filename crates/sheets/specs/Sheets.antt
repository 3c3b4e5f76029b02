-- What becomes of a source on its way through the layers: the contracts of this crate.
use Rattle.std.specs.Prelude.{cond, List, ◌≡◌, ℕ, ◌+◌, ◌≤◌, ltb, length, Result, Ok, Err}
use Rattle.language.specs.Sizes.{TOKENS, TABLE}
use Rattle.language.specs.Tokens.{Token}
use Rattle.language.specs.Trees.{Ty, Program}
use Rattle.language.specs.Types.{HasType}
use Rattle.language.specs.Faults.{Reason, HasFault}
use Rattle.language.specs.Meaning.{type_number}
use Rattle.language.specs.Numbers.{types}
use Rattle.language.specs.Answers.{Origin, at, Proper, Denied, Passes, Refused}
use Rattle.numbers.specs.Meanings.{refusal_meant}
use Rattle.layout.specs.Table.{token_place, zeros}
use Rattle.layout.specs.Names.{Stand}
use Rattle.layout.specs.Decode.{Holds}
use Rattle.layout.specs.declared.Held.{Held}
use Rattle.numbers.specs.declared.Refusal.{Refusal}
use Rattle.numbers.specs.declared.Located.{Located}
use Rattle.sheets.specs.declared.Passed.{Passed}

-- what becomes of tokens, or of a source
abbrev pub Seen : Type 0
Seen = Result Passed (Located Refusal ℕ)

-- the required words of a table, cleared: what the layers change lies among them
abbrev pub wiped : List ℕ → List ℕ
wiped w = zeros w 0 TABLE

-- ---- places

-- the byte of an ordinal, from the words of a table; the source ends at `end`
unfoldable pub byte_of : List ℕ → ℕ → ℕ → ℕ → ℕ
byte_of w count end i = cond (ltb i count) (token_place w i) end

-- ---- a program that the table holds

-- the type of p, or its fault
abbrev pub OfProgram : Program → Held → Seen → Type 0
OfProgram p P (Ok q) = (q.program ≡ P) × ((t : Ty) × HasType p t × (q.type_number ≡ type_number t))
OfProgram p P (Err e) = (r : Reason) × HasFault p r e.place × (refusal_meant e.why ≡ types r)

pub record Typed (w w' : List ℕ) (P : Held) (v : Seen) : Type 0 where
  pub told : (ts : List Token) (p : Program) → Holds ts w P p → OfProgram p P v
  pub holds : (ts : List Token) (p : Program) → Holds ts w P p → Holds ts w' P p
  pub rest : wiped w' ≡ wiped w
  pub long : length w' ≡ length w

-- ---- tokens that the table stands for

-- they are a program of this type, which the table holds
pub record Allowed (ts : List Token) (w : List ℕ) (P : Held) (n : ℕ) : Type 0 where
  pub program : Program
  pub type : Ty
  pub proper : Proper ts program type
  pub numbered : n ≡ type_number type
  pub holds : Holds ts w P program

abbrev pub OfTokens : List Token → List ℕ → Seen → Type 0
OfTokens ts w (Ok p) = Allowed ts w p.program p.type_number
OfTokens ts w (Err e) = Denied ts (refusal_meant e.why) (at e.place)

pub record Read (w w' : List ℕ) (count : ℕ) (v : Seen) : Type 0 where
  pub told : (ts : List Token) → Stand w count ts → OfTokens ts w' v
  pub stands : (ts : List Token) → Stand w count ts → Stand w' count ts
  pub rest : wiped w' ≡ wiped w
  pub long : length w' ≡ length w

-- ---- a source

-- what is seen of a source, from what becomes of its tokens: a refusal is told where m finds an ordinal
abbrev pub told_at : (ℕ → ℕ) → Seen → Seen
told_at m (Ok p) = Ok p
told_at m (Err e) = Err (record { why = e.why; place = m e.place })

-- the ordinal that is told is one of tokens that a table holds, or that of their end
abbrev pub Near : Seen → Type 0
Near (Ok p) = Unit {0}
Near (Err e) = e.place ≤ TOKENS

-- the places of a stored sheet are lines (R09.9)
abbrev pub line_of : ℕ → ℕ
line_of i = i + 2

-- as an origin of tokens it passes, and the table holds its program
pub record Passing (o : Origin ℕ) (w : List ℕ) (P : Held) (n : ℕ) : Type 0 where
  pub tokens : List Token
  pub program : Program
  pub type : Ty
  pub passes : Passes o tokens program type
  pub numbered : n ≡ type_number type
  pub holds : Holds tokens w P program

abbrev pub OfSource : Origin ℕ → List ℕ → Seen → Type 0
OfSource o w (Ok p) = Passing o w p.program p.type_number
OfSource o w (Err e) = Refused o (refusal_meant e.why) e.place

pub record Examined (o : Origin ℕ) (w w' : List ℕ) (s : Seen) : Type 0 where
  pub told : OfSource o w' s
  pub rest : wiped w' ≡ wiped w
  pub long : length w' ≡ length w
