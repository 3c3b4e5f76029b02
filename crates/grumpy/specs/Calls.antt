-- A rule book that is read once and called for many jobs (R14.5): the contracts of `calls`. Vocabulary for `shift`,
-- and for nobody above it.
use Rattle.std.specs.Prelude.{List, ◌++◌, ◌≡◌, ℕ, ◌+◌, ◌-◌, ◌*◌, ◌≤◌, length, set, drop}
use Rattle.language.specs.Sizes.{TOKENS, TABLE, WORK, ALLOWANCE, LARGEST}
use Rattle.language.specs.Tokens.{Token}
use Rattle.language.specs.Trees.{Ty, int, Program}
use Rattle.language.specs.Answers as Answers
use Rattle.language.specs.Answers.{Passes, Lent, Enough, after_run}
use Rattle.language.specs.Edition.{pair_in}
use Rattle.language.specs.Shift.{Job, call_of, Book, ZERO, LARGEST_CALL}
use Rattle.layout.specs.Table.{zeros}
use Rattle.layout.specs.Decode.{Holds}
use Rattle.layout.specs.Resolved.{Resolved}
use Rattle.layout.specs.declared.Held.{Held}
use Rattle.grumpy.specs.Outcomes.{ending_meant}
use Rattle.grumpy.specs.declared.answers.Ending.{Ending}

-- R14.7: a book that is admitted, memory and allowance aside
pub record Admissible (edition : ℕ) (book : List ℕ) : Type 0 where
  pub tokens : List Token
  pub program : Program
  pub type : Ty
  pub passes : Passes (pair_in edition book ZERO) tokens program type
  pub is_book : Book program
  pub most : List Token
  pub room : (pair_in edition book LARGEST_CALL).gives most

-- ---- the table between two calls

-- The words of a table with the numbers of a job laid in them. The call is the last six tokens, and its numbers are the
-- fourth and the second from the end: what these are worth is written.
abbrev pub laid : Held → Job → List ℕ → List ℕ
laid P j w = set (set w (4 * (P.count - 4) + 3) j.picks) (4 * (P.count - 2) + 3) j.rate

-- The table holds the book with the call of a job under it. The tokens that its words stand for are those of the call
-- that was read with the book, and only worth what the job's are: where a number is longer, what stands behind it
-- begins at another byte. So no byte of the call is told from this table.
pub record HoldsCall (edition : ℕ) (book : List ℕ) (P : Held) (j : Job) (w : List ℕ) : Type 0 where
  pub tokens : List Token
  pub program : Program
  pub passes : Passes (pair_in edition book (call_of j)) tokens program int
  pub standing : List Token
  pub holds : Holds standing w P program
  pub resolved : Resolved w program

-- as far as a call can see it: whatever numbers are laid, it holds their call
pub record Prepared (edition : ℕ) (book w : List ℕ) (P : Held) : Type 0 where
  pub long : TABLE ≤ length w
  pub six : 6 ≤ P.count
  pub few : P.count ≤ TOKENS
  pub calls : (j : Job) → j.picks ≤ LARGEST → j.rate ≤ LARGEST → HoldsCall edition book P j (laid P j w)

-- ---- what is asked and promised

pub record Preparable (edition : ℕ) (book w : List ℕ) : Type 0 where
  pub long : TABLE ≤ length w
  pub admissible : Admissible edition book

-- words that are not required are as they were
pub record Prepares (edition : ℕ) (book w w' : List ℕ) (P : Held) : Type 0 where
  pub prepared : Prepared edition book w' P
  pub rest : zeros w' 0 TABLE ≡ zeros w 0 TABLE

-- there is a book that the table was prepared for
pub record Callable (w work : List ℕ) (P : Held) (j : Job) (allowance : ℕ) : Type 0 where
  pub edition : ℕ
  pub book : List ℕ
  pub prepared : Prepared edition book w P
  pub picks : j.picks ≤ LARGEST
  pub rate : j.rate ≤ LARGEST
  pub long : WORK ≤ length work
  pub allowed : allowance ≤ ALLOWANCE

-- it is the written run of the book with the call; a stop is told at the ordinal of its token, whose place follows
pub record CallRan (edition : ℕ) (book : List ℕ) (j : Job) (l : Lent) (out out' : List ℕ) (r : Ending ℕ) : Type 0 where
  pub tokens : List Token
  pub printed : List ℕ
  pub ran : Answers.Ran (pair_in edition book (call_of j)) l
      (after_run (pair_in edition book (call_of j)) tokens int (ending_meant r printed)) printed
  pub output : out' ≡ printed ++ drop (length printed) out

-- for whichever book the table was prepared
pub record Called (w work out w' work' out' : List ℕ) (P : Held) (j : Job) (allowance : ℕ) (r : Ending ℕ) : Type 0 where
  pub told : (edition : ℕ) (book : List ℕ) (l : Lent) → Prepared edition book w P → Enough l → l.output ≡ length out
      → l.allowance ≡ allowance → CallRan edition book j l out out' r
  pub numbers : w' ≡ laid P j w
  pub cleared : work' ≡ zeros work 0 WORK
