-- What is written of a sheet that was examined: the contracts of `writings`. They are the same for a sheet that is
-- written out again and for one that is stored.
use Rattle.std.specs.Prelude.{List, [], ◌++◌, ◌≡◌, ℕ, ◌≤◌, ◌<◌, length, drop, Option, Some, None, Ok, Err}
use Rattle.language.specs.Sizes.{TABLE}
use Rattle.language.specs.Tokens.{Token}
use Rattle.language.specs.Trees.{Ty, Program}
use Rattle.language.specs.Numbers.{short_memory, refused}
use Rattle.language.specs.Numbers as Numbers
use Rattle.language.specs.Answers.{Origin, Passes, Refused, left, cleared}
use Rattle.language.specs.Edition.{text_in}
use Rattle.language.specs.Writing.{WriteReport, write_report}
use Rattle.numbers.specs.declared.Refusal.{Refusal}
use Rattle.layout.specs.Names.{Stand}
use Rattle.writer.specs.Texts.{Writable}
use Rattle.sheets.specs.Sheets.{OfSource}
use Rattle.sheets.specs.Sheets.{Seen}
use Rattle.grumpy.specs.Reports.{Written, wrote_report}

-- what a service may tell of an origin, lent so many words of table memory and bytes of output: the report, and the
-- bytes written
abbrev pub Tells : Type 1
Tells = Origin ℕ → ℕ → ℕ → WriteReport ℕ → List ℕ → Type 0

-- A service that tells so tells that it has too little memory, and each refusal as it is; and whatever it tells of a source
-- for which it has memory enough, the required words are zero afterwards.
pub record Lawful (tells : Tells) : Type 0 where
  pub short : (edition table room : ℕ) (source : List ℕ) → table < TABLE
      → tells (text_in edition source) table room (write_report (refused short_memory) 0 0) []
  pub refuses : (edition table room : ℕ) (source : List ℕ) (y : Numbers.Refusal) (i : ℕ) → TABLE ≤ table
      → Refused (text_in edition source) y i → tells (text_in edition source) table room (write_report (refused y) i 0) []
  pub leaves : (edition table room : ℕ) (source : List ℕ) (r : WriteReport ℕ) (bs : List ℕ) → TABLE ≤ table
      → tells (text_in edition source) table room r bs → (words : List ℕ) → left r.told TABLE words ≡ cleared TABLE words

-- the answer to how many bytes were put, or that they had no room
abbrev pub answered : Option ℕ → Written
answered (Some n) = Ok n
answered None = Err (record { why = Refusal.LongText; place = 0 })

-- the answer in an edition, with so many words of table memory, and what is left in the output
pub record Reported (tells : Tells) (edition : ℕ) (source : List ℕ) (table : ℕ) (out out' : List ℕ)
    (r : Written) : Type 0 where
  pub text : List ℕ
  pub wrote : tells (text_in edition source) table (length out) (wrote_report r) text
  pub output : out' ≡ text ++ drop (length text) out

-- of a sheet that passes, in whatever edition, and whose tokens the table w stands for
pub record Rewrote (tells : Tells) (source w : List ℕ) (count : ℕ) (out out' : List ℕ) (r : Written) : Type 0 where
  pub told : (edition : ℕ) (ts : List Token) (p : Program) (t : Ty) (table : ℕ) → TABLE ≤ table
      → Passes (text_in edition source) ts p t → Stand w count ts → Reported tells edition source table out out' r

-- a sheet that passes can be written from its table
abbrev pub Readable : List ℕ → List ℕ → Seen → Type 0
Readable source w (Ok p) = Writable source w p.program.count
Readable source w (Err e) = Unit {0}

-- of any sheet
pub record Rewritten (tells : Tells) (source w out out' : List ℕ) (s : Seen) (r : Written) : Type 0 where
  pub told : (edition table : ℕ) → TABLE ≤ table → OfSource (text_in edition source) w s
      → Reported tells edition source table out out' r

-- of any source, and what is left in the table memory and in the output
pub record Served (tells : Tells) (edition : ℕ) (source table out : List ℕ) (r : Written) (table' out' : List ℕ) : Type 0 where
  pub reported : Reported tells edition source (length table) out out' r
  pub table_left : table' ≡ left (wrote_report r).told TABLE table
