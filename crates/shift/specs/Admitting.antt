-- What is asked of a book before any line, step by step: each tells the written admission, where the steps before it
-- found nothing.
use Rattle.std.specs.Prelude.{List, ◌≡◌, ℕ, ◌≤◌}
use Rattle.language.specs.Sizes.{ALLOWANCE, TABLE, WORK}
use Rattle.language.specs.Tokens.{Token}
use Rattle.language.specs.Trees.{Ty, Program}
use Rattle.language.specs.Answers.{Lent, Enough, Passes, cleared}
use Rattle.language.specs.Edition.{pair_in}
use Rattle.language.specs.Shift.{Admits, Book, ZERO}
use Rattle.shift.specs.Meanings.{Admission}
use Rattle.shift.specs.Meanings.{admission_meant, lent, left_by}

module _ (edition : ℕ) (book : List ℕ) where
  abbrev Told : Lent → Admission → Type 0
  Told l r = Admits edition book l (admission_meant r)

  -- of the largest call under a book
  pub record AskedOfRoom (table : List ℕ) (r : Admission) (table' : List ℕ) : Type 0 where
    pub told : (l : Lent) → Enough l → l.allowance ≤ ALLOWANCE → {ts : List Token} {p : Program} {t : Ty}
        → Passes (pair_in edition book ZERO) ts p t → Book p → Told l r
    pub left : table' ≡ cleared TABLE table

  -- of a book that passes
  pub record AskedOfBook (table : List ℕ) (r : Admission) (table' : List ℕ) : Type 0 where
    pub told : (l : Lent) → Enough l → l.allowance ≤ ALLOWANCE → {ts : List Token} {p : Program} {t : Ty}
        → Passes (pair_in edition book ZERO) ts p t → Told l r
    pub left : table' ≡ cleared TABLE table

  -- of any book
  pub record AskedOfText (table : List ℕ) (r : Admission) (table' : List ℕ) : Type 0 where
    pub told : (l : Lent) → Enough l → l.allowance ≤ ALLOWANCE → Told l r
    pub left : table' ≡ cleared TABLE table

  -- of all that is lent; how much output does not matter
  pub record Asked (table work : List ℕ) (allowance : ℕ) (r : Admission) (table' work' : List ℕ) : Type 0 where
    pub told : (output : ℕ) → Told (lent table work output allowance) r
    pub table_left : table' ≡ left_by (admission_meant r).told TABLE table
    pub work_left : work' ≡ left_by (admission_meant r).told WORK work
