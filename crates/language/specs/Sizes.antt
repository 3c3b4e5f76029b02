-- The sizes (S006, S007, S015). What a sheet may have, and the table memory for it, is a record: all that is said of
-- sheets is said under any such sizes, of which the box's are one value (R13.5). What a run may use, and what a number,
-- a byte and a shift may be, is the same under all of them. A limit is named once, and every other file takes it from
-- here; how many digits a line has is said where lines are (Stored, Shift).
use Rattle.std.specs.Prelude.{ℕ}

-- ---- what a sheet may have

pub record Sizes : Type 0 where
  -- bytes of a source, tokens of it, nodes of its reading
  pub source : ℕ
  pub tokens : ℕ
  pub nodes : ℕ
  -- functions of a program, parameters of a function, `ref` in a type
  pub functions : ℕ
  pub parameters : ℕ
  pub refs : ℕ
  -- words of 32 bits of table memory
  pub table : ℕ

-- the box's
abbrev pub BOX : Sizes
BOX = record { source = 49152; tokens = 1360; nodes = 1360; functions = 32; parameters = 8; refs = 15; table = 16384 }

abbrev pub SOURCE : ℕ
SOURCE = BOX.source

abbrev pub TOKENS : ℕ
TOKENS = BOX.tokens

abbrev pub NODES : ℕ
NODES = BOX.nodes

abbrev pub FUNCTIONS : ℕ
FUNCTIONS = BOX.functions

abbrev pub PARAMETERS : ℕ
PARAMETERS = BOX.parameters

abbrev pub REFS : ℕ
REFS = BOX.refs

abbrev pub TABLE : ℕ
TABLE = BOX.table

-- ---- what a run may use

-- units that a run may be allowed, nodes active at once, cells live at once
abbrev pub ALLOWANCE : ℕ
ALLOWANCE = 1000000

abbrev pub ACTIVE : ℕ
ACTIVE = 512

abbrev pub CELLS : ℕ
CELLS = 1024

-- units that a pay sheet may count (R10.4)
abbrev pub PAY_COUNT : ℕ
PAY_COUNT = 1000000

-- words of 32 bits of work memory
abbrev pub WORK : ℕ
WORK = 16384

-- ---- what a number, a byte and a shift may be

-- the largest number that can be written, and the largest int; the lowest int is one further from zero
abbrev pub LARGEST : ℕ
LARGEST = 2147483647

-- the digits of a float number (R08.2)
abbrev pub DIGITS : ℕ
DIGITS = 15

-- the largest value of a byte
abbrev pub BYTE : ℕ
BYTE = 255

-- lines of a shift (R14.6)
abbrev pub LINES : ℕ
LINES = 65536
