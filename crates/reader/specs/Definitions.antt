-- What the readers of types, parameters, functions and the program require and ensure, in the words of `Parts`.
use Rattle.std.specs.Prelude.{Result as Fallible, Ok, Err, Option as Maybe, Some, None}
use Rattle.std.specs.Prelude.{List, ◌≡◌, ℕ, ◌+◌, ◌*◌, ◌≤◌, ◌<◌, length}
use Rattle.std.proofs.Math.Option.{Option, none, some}
use Rattle.language.specs.Tokens.{Token, entry}
use Rattle.language.specs.Trees.{Ty, Param, Def, Program}
use Rattle.language.specs.Grammar.{type, params, formals, def, program, basics}
use Rattle.language.specs.Meaning.{type_number}
use Rattle.language.proofs.Executable.Parses.{Result, failed, got}
use Rattle.language.proofs.Executable.Parser.{read, refs, result}
use Rattle.language.proofs.Executable.Settles.{Settles}
use Rattle.layout.specs.Table.{without_rows}
use Rattle.layout.specs.Types.{REF, PLAIN}
use Rattle.layout.specs.Names.{Stand}
use Rattle.layout.specs.Rows.{below, lay, lay_params, lay_def, def_rows, defs_rows, lay_defs}
use Rattle.phrases.specs.Parts.{Told}
use Rattle.phrases.specs.declared.parts.Failed.{Failed}
use Rattle.reader.specs.declared.types.Named.{Named}
use Rattle.reader.specs.declared.definitions.Laid.{Laid}
use Rattle.reader.specs.declared.definitions.Whole.{Whole}

-- ---- what is told of the tokens from n on

abbrev pub Typeful : ℕ → Told Ty
Typeful n = λ ts. Settles ts (read type) n

-- `:`, a Type, and `{` behind it
abbrev pub Resulting : ℕ → Told Ty
Resulting n = λ ts. Settles ts result n

abbrev pub Params : ℕ → Told (List Param)
Params n = λ ts. Settles ts (read params) n

abbrev pub Formals : ℕ → Told (List Param)
Formals n = λ ts. Settles ts (read formals) n

abbrev pub Function : ℕ → Told Def
Function n = λ ts. Settles ts (read def) n

abbrev pub Sequel : ℕ → Told Program
Sequel n = λ ts. Settles ts (read program) n

-- ---- what is answered

abbrev pub Typing : Type 0
Typing = Fallible Named Failed

abbrev pub named_at : ℕ → ℕ → Typing
named_at number m = Ok (record { number = number; next = m })

abbrev pub Rows : Type 0
Rows = Fallible Laid Failed

abbrev pub laid_at : ℕ → ℕ → Rows
laid_at m k = Ok (record { next = m; free = k })

abbrev pub Parsed : Type 0
Parsed = Fallible Whole Failed

abbrev pub whole_at : ℕ → ℕ → ℕ → Parsed
whole_at defs root m = Ok (record { defs = defs; root = root; next = m })

-- ---- types

-- the number of the type that a word of kind k stands for, if it stands for one
abbrev pub number_if : Option Ty → Maybe ℕ
number_if (some t) = Some (type_number t)
number_if none = None

abbrev pub basic_number : ℕ → Maybe ℕ
basic_number k = number_if (entry basics k)

pub record Typed (T : Result Ty → Type 0) (number m : ℕ) : Type 0 where
  pub type : Ty
  pub told : T (got type m)
  pub numbered : number ≡ type_number type

abbrev pub TypeOutcome : (Result Ty → Type 0) → Typing → Type 0
TypeOutcome T (Ok t) = Typed T t.number t.next
TypeOutcome T (Err e) = T (failed e.at)

-- the type ends at a token m from lo up to hi; its number is small enough to count one `ref` for each token
pub record Numbered (lo hi number m : ℕ) : Type 0 where
  pub least : lo ≤ m
  pub most : m < hi
  pub small : number ≤ REF * m + PLAIN

abbrev pub TypeAhead : ℕ → ℕ → Typing → Type 0
TypeAhead lo hi (Ok t) = Numbered lo hi t.number t.next
TypeAhead lo hi (Err e) = Unit {0}

pub record TypeAnswer (T : Told Ty) (count : ℕ) (w : List ℕ) (lo hi : ℕ) (g : Typing) : Type 0 where
  pub told : (ts : List Token) → Stand w count ts → TypeOutcome (T ts) g
  pub ahead : TypeAhead lo hi g

-- the same behind a type of this number
pub record RefsAnswer (count : ℕ) (w : List ℕ) (n number : ℕ) (g : Named) : Type 0 where
  pub told : (ts : List Token) → Stand w count ts → (t : Ty) → number ≡ type_number t
      → Typed (Settles ts (refs t) n) g.number g.next
  pub ahead : Numbered n (count + 1) g.number g.next

-- ---- parameters and functions

-- from token n and row f to token m and row k
pub record Past (count n f m k : ℕ) : Type 0 where
  pub least : n < m
  pub most : m ≤ count
  pub owned : k + n < m + f

abbrev pub RowsAhead : ℕ → ℕ → ℕ → Rows → Type 0
RowsAhead count n f (Ok l) = Past count n f l.next l.free
RowsAhead count n f (Err e) = Unit {0}

-- parameters give no row back
abbrev pub RowsGrow : ℕ → Rows → Type 0
RowsGrow f (Ok l) = f ≤ l.free
RowsGrow f (Err e) = Unit {0}

pub record LaidParams (T : Result (List Param) → Type 0) (w : List ℕ) (f m k : ℕ) (w' : List ℕ) : Type 0 where
  pub params : List Param
  pub told : T (got params m)
  pub past : k ≡ f + length params
  pub laid : w' ≡ lay_params w f params

abbrev pub ParamsOutcome : (Result (List Param) → Type 0) → List ℕ → ℕ → Rows → List ℕ → Type 0
ParamsOutcome T w f (Ok l) w' = LaidParams T w f l.next l.free w'
ParamsOutcome T w f (Err e) w' = T (failed e.at)

pub record ParamsAnswer (T : Told (List Param)) (count : ℕ) (w : List ℕ) (n f : ℕ) (g : Rows) (w' : List ℕ) : Type 0
  where
    pub told : (ts : List Token) → Stand w count ts → ParamsOutcome (T ts) w f g w'
    pub ahead : RowsAhead count n f g
    pub rows : RowsGrow f g
    pub clear : without_rows w' ≡ without_rows w

pub record LaidDef (T : Result Def → Type 0) (w : List ℕ) (f m k : ℕ) (w' : List ℕ) : Type 0 where
  pub def : Def
  pub told : T (got def m)
  pub past : k ≡ f + def_rows def
  pub laid : w' ≡ lay_def w f def

abbrev pub DefOutcome : (Result Def → Type 0) → List ℕ → ℕ → Rows → List ℕ → Type 0
DefOutcome T w f (Ok l) w' = LaidDef T w f l.next l.free w'
DefOutcome T w f (Err e) w' = T (failed e.at)

pub record DefAnswer (T : Told Def) (count : ℕ) (w : List ℕ) (n f : ℕ) (g : Rows) (w' : List ℕ) : Type 0 where
  pub told : (ts : List Token) → Stand w count ts → DefOutcome (T ts) w f g w'
  pub ahead : RowsAhead count n f g
  pub clear : without_rows w' ≡ without_rows w

-- ---- the program, `before` functions being behind

pub record LaidProgram (T : Result Program → Type 0) (w : List ℕ) (f before defs root m : ℕ) (w' : List ℕ) : Type 0
  where
    pub program : Program
    pub told : T (got program m)
    pub count : defs ≡ before + length program.defs
    pub top : root ≡ f + defs_rows program.defs + below program.main
    pub laid : w' ≡ lay (lay_defs w f before program.defs) (f + defs_rows program.defs) program.main

abbrev pub ProgramOutcome : (Result Program → Type 0) → List ℕ → ℕ → ℕ → Parsed → List ℕ → Type 0
ProgramOutcome T w f before (Ok p) w' = LaidProgram T w f before p.defs p.root p.next w'
ProgramOutcome T w f before (Err e) w' = T (failed e.at)

pub record ProgramAnswer (T : Told Program) (count : ℕ) (w : List ℕ) (f before : ℕ) (g : Parsed) (w' : List ℕ) : Type 0
  where
    pub told : (ts : List Token) → Stand w count ts → ProgramOutcome (T ts) w f before g w'
    pub clear : without_rows w' ≡ without_rows w
