-- The variables' words: what it is to write one, and that tokens, rows and functions do not see it.
use mathlib.Core.List.{List}
use mathlib.Core.Path.{◌≡◌, refl, ◌∙◌}
use Prim.Native.Nat.{ℕ, zero, suc, ◌+◌, ◌*◌, ◌≤◌, ◌<◌}
use native.Mathlib.Omega.{arith}
use lib.ListN.{length, get_or, set, length-set}
use lib.Seq.{get_or-set_same, get_or-set_other}
use Rattle.language.specs.Sizes.{TOKENS, NODES, TABLE}
use Rattle.layout.specs.Table.{VARIABLES_AT, token_word, row_word, function_row, variable_name, variable_type, put_variable, zeros, without_variables}
use Rattle.layout.proofs.Clearing.{zeros_set}

-- ---- cleared words

-- clearing keeps the length
pub length_zeros : (n : ℕ) (w : List ℕ) (a : ℕ) → length (zeros w a n) ≡ length w
unfolding zeros
length_zeros zero w a = refl
length_zeros (suc n) w a = length_zeros n (set w a 0) (a + 1) ∙ length-set w a 0

-- and every word before those that are cleared
pub zeros_before : (n : ℕ) (w : List ℕ) (a j : ℕ) → j < a → get_or (zeros w a n) j 0 ≡ get_or w j 0
unfolding zeros
zeros_before zero w a j h = refl
zeros_before (suc n) w a j h = zeros_before n (set w a 0) (a + 1) j (omega arith) ∙ get_or-set_other w a j 0 0 (λ e. omega arith)

-- a table without variables is as long
pub length_without : (w : List ℕ) → length (without_variables w) ≡ length w
length_without w = length_zeros (2 * TOKENS) w VARIABLES_AT

-- and has the same words before the variables
pub without_before : (w : List ℕ) (j : ℕ) → j < VARIABLES_AT → get_or (without_variables w) j 0 ≡ get_or w j 0
without_before w j h = zeros_before (2 * TOKENS) w VARIABLES_AT j h

-- so its rows, functions and tokens are the same
pub row_without : (w : List ℕ) (i k : ℕ) → i < NODES → k < 5 → row_word (without_variables w) i k ≡ row_word w i k
row_without w i k h l = without_before w _ (omega arith)

-- its functions
pub function_without : (w : List ℕ) (k : ℕ) → k < TOKENS → function_row (without_variables w) k ≡ function_row w k
function_without w k h = without_before w _ (omega arith)

-- and its tokens
pub token_without : (w : List ℕ) (i k : ℕ) → i < TOKENS → k < 4 → token_word (without_variables w) i k ≡ token_word w i k
token_without w i k h l = without_before w _ (omega arith)

-- ---- a variable that is written

-- leaves the table as long
pub length_put_variable : (w : List ℕ) (i x t : ℕ) → length (put_variable w i x t) ≡ length w
unfolding put_variable
length_put_variable w i x t = simp length-set

-- is lost where variables are cleared
pub without_put_variable : (w : List ℕ) (i x t : ℕ) → i < TOKENS → without_variables (put_variable w i x t) ≡ without_variables w
unfolding put_variable
without_put_variable w i x t h =
    zeros_set (2 * TOKENS) _ VARIABLES_AT _ t (omega arith) (omega arith)
    ∙ zeros_set (2 * TOKENS) w VARIABLES_AT _ x (omega arith) (omega arith)

-- has its name's and its type's number
pub put_variable_name : (w : List ℕ) (i x t : ℕ) → TABLE ≤ length w → i < TOKENS → variable_name (put_variable w i x t) i ≡ x
unfolding put_variable
put_variable_name w i x t l h =
    get_or-set_other (set w (VARIABLES_AT + 2 * i) x) (VARIABLES_AT + 2 * i + 1) (VARIABLES_AT + 2 * i) t 0 (λ e. omega arith)
    ∙ get_or-set_same w (VARIABLES_AT + 2 * i) x 0 (omega arith)

-- and its type's number
pub put_variable_type : (w : List ℕ) (i x t : ℕ) → TABLE ≤ length w → i < TOKENS → variable_type (put_variable w i x t) i ≡ t
unfolding put_variable
put_variable_type w i x t l h =
    let e : length (set w (VARIABLES_AT + 2 * i) x) ≡ length w = length-set w (VARIABLES_AT + 2 * i) x in
    get_or-set_same (set w (VARIABLES_AT + 2 * i) x) (VARIABLES_AT + 2 * i + 1) t 0 (omega arith)

-- and leaves those before it
pub put_variable_before : (w : List ℕ) (i x t j : ℕ) → j < VARIABLES_AT + 2 * i → get_or (put_variable w i x t) j 0 ≡ get_or w j 0
unfolding put_variable
put_variable_before w i x t j h =
    get_or-set_other (set w (VARIABLES_AT + 2 * i) x) (VARIABLES_AT + 2 * i + 1) j t 0 (λ e. omega arith)
    ∙ get_or-set_other w (VARIABLES_AT + 2 * i) j x 0 (λ e. omega arith)
