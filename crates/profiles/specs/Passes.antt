-- The shares of rows, worked out one after the other.
use Rattle.std.specs.Prelude.{true, List, ◌≡◌, ℕ, ◌+◌, ◌≤◌, ◌<◌, length}
use Rattle.language.specs.Sizes.{TOKENS, NODES, TABLE}
use Rattle.language.specs.Tokens.{WHILE}
use Rattle.layout.specs.Table.{KIND, EXPRESSION, NEXT, row_word}
use Rattle.layout.specs.Rows.{CALL}
use Rattle.layout.specs.Decode.{counts}
use Rattle.layout.specs.Functions.{Headed}
use Rattle.rules.specs.Asked.{Children}
use Rattle.profiles.specs.Shares.{beside, share_word, put_share, earlier, part}
use Rattle.profiles.specs.Shares.{reach, callee_share, around_share, over_share}

-- ---- one row

-- the arguments from row r on, beside s
pub data Summed (w : List ℕ) : ℕ → ℕ → ℕ → Type 0 where
  sum_none : {s : ℕ} → Summed w 0 s s
  sum_more : {r s t : ℕ} → 0 < r → Summed w (earlier w r NEXT) (beside s (part w r EXPRESSION)) t → Summed w r s t

-- the share of row i, within the function whose name has the number x, with the first n functions in sight
pub data RowShare (w : List ℕ) (i x n : ℕ) : ℕ → Type 0 where
  of_call : {s : ℕ} → row_word w i KIND ≡ CALL → Summed w (reach w i) 1 s
      → RowShare w i x n (beside s (callee_share w i x n))
  of_for : {s : ℕ} → counts (row_word w i KIND) ≡ true → Summed w (reach w i) 1 s
      → RowShare w i x n (around_share w i s)
  of_while : row_word w i KIND ≡ WHILE → RowShare w i x n (around_share w i (over_share w i 1))
  of_plain : {c : ℕ} → (row_word w i KIND ≡ CALL → ⊥) → (counts (row_word w i KIND) ≡ true → ⊥)
      → (row_word w i KIND ≡ WHILE → ⊥) → Children (row_word w i KIND) c → RowShare w i x n (over_share w i c)

-- ---- the rows before row i, from the first on

pub data Passed (x n : ℕ) (w : List ℕ) : ℕ → List ℕ → Type 0 where
  pass_none : Passed x n w 0 w
  pass_more : {i s : ℕ} {v : List ℕ} → Passed x n w i v → RowShare v i x n s → Passed x n w (i + 1) (put_share v i s)

-- ---- what is asked

-- the first n functions have names
pub record Heads (w : List ℕ) (n : ℕ) : Type 0 where
  pub long : TABLE ≤ length w
  pub few : n ≤ TOKENS
  pub heads : (k : ℕ) → k < n → Headed w k

pub record AtRow (w : List ℕ) (i n : ℕ) : Type 0 where
  pub inside : i < NODES
  pub heads : Heads w n

-- what a pass over the rows up to row i leaves, and the share of that row
pub record PassedTo (w w' : List ℕ) (i x n s : ℕ) : Type 0 where
  pub passed : Passed x n w (i + 1) w'
  pub share : s ≡ share_word w' i
  pub long : length w' ≡ length w
