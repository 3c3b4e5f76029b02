-- What a write to the table leaves as it was, and what it makes of its own words.
use mathlib.Core.Bool.{Bool, true, false, cond}
use mathlib.Core.List.{List}
use mathlib.Core.Path.{◌≡◌, refl, ap, ◌∙◌}
use Prim.Native.Nat.{ℕ, ◌+◌, ◌*◌, ◌≤◌, ◌<◌}
use native.Mathlib.Omega.{arith}
use lib.Dec.{ltb}
use lib.ListN.{length, get_or, set, length-set}
use lib.Seq.{get_or-set_same, get_or-set_other}
use borrow.Author.Tests.{lt-ltb, le-ltb, ltb-true}
use Rattle.language.specs.Sizes.{TOKENS, NODES}
use Rattle.layout.specs.Table.{ROWS_AT, FUNCTIONS_AT, kind_of, row_word, put_row, put_function, without_rows}
use Rattle.layout.proofs.Clearing.{zeros_set}

-- ---- the kind of a token

pub kind_in : (w : List ℕ) (count i : ℕ) → i < count → kind_of w count i ≡ get_or w (4 * i) 0
unfolding kind_of
kind_in w count i h = rw (lt-ltb i count h) refl

pub kind_out : (w : List ℕ) (count i : ℕ) → count ≤ i → kind_of w count i ≡ 0
unfolding kind_of
kind_out w count i h = rw (le-ltb i count h) refl

-- a token that has a kind stands before the end
pub kind_within : (w : List ℕ) (count i : ℕ) → 0 < kind_of w count i → i < count
unfolding kind_of
kind_within w count i h = go (ltb i count) refl h
  where
    go : (b : Bool) → ltb i count ≡ b → 0 < cond b (get_or w (4 * i) 0) 0 → i < count
    go true e p = ltb-true i count e
    go false e p = absurd (omega arith)

-- words that agree on the tokens give them the same kinds
pub kind_same : (v w : List ℕ) (count i : ℕ) → ((j : ℕ) → j < 4 * count → get_or v j 0 ≡ get_or w j 0) → kind_of v count i ≡ kind_of w count i
unfolding kind_of
kind_same v w count i h = go (ltb i count) refl
  where
    go : (b : Bool) → ltb i count ≡ b → cond b (get_or v (4 * i) 0) 0 ≡ cond b (get_or w (4 * i) 0) 0
    go true e = h (4 * i) (omega (arith, ltb-true i count e))
    go false e = refl

-- ---- a row

pub length_put_row : (w : List ℕ) (i k t a b c : ℕ) → length (put_row w i k t a b c) ≡ length w
unfolding put_row
length_put_row w i k t a b c = simp length-set

-- a word that is none of the row's stays
pub put_row_other : (w : List ℕ) (i k t a b c j : ℕ) → (ROWS_AT + 5 * i ≤ j → j < ROWS_AT + 5 * i + 5 → ⊥)
    → get_or (put_row w i k t a b c) j 0 ≡ get_or w j 0
unfolding put_row
put_row_other w i k t a b c j h =
    rw (
      get_or-set_other _ (ROWS_AT + 5 * i + 4) j c 0 (λ e. h (omega arith) (omega arith)),
      get_or-set_other _ (ROWS_AT + 5 * i + 3) j b 0 (λ e. h (omega arith) (omega arith)),
      get_or-set_other _ (ROWS_AT + 5 * i + 2) j a 0 (λ e. h (omega arith) (omega arith)),
      get_or-set_other _ (ROWS_AT + 5 * i + 1) j t 0 (λ e. h (omega arith) (omega arith)),
      get_or-set_other _ (ROWS_AT + 5 * i) j k 0 (λ e. h (omega arith) (omega arith)),
    )

pub put_row_before : (w : List ℕ) (i k t a b c j : ℕ) → j < ROWS_AT + 5 * i → get_or (put_row w i k t a b c) j 0 ≡ get_or w j 0
put_row_before w i k t a b c j h = put_row_other w i k t a b c j (λ p q. omega arith)

-- the five words of the row that was written
pub record Five (w : List ℕ) (i k t a b c : ℕ) : Type 0 where
  pub kind : row_word w i 0 ≡ k
  pub own : row_word w i 1 ≡ t
  pub first : row_word w i 2 ≡ a
  pub second : row_word w i 3 ≡ b
  pub third : row_word w i 4 ≡ c

module _ (w : List ℕ) (i k t a b c : ℕ) (h : ROWS_AT + 5 * i + 5 ≤ length w) where
  pub put_row_five : Five (put_row w i k t a b c) i k t a b c
  unfolding put_row
  put_row_five =
      let l₁ : length (set w (ROWS_AT + 5 * i) k) ≡ length w = length-set w (ROWS_AT + 5 * i) k in
      let l₂ : length (set (set w (ROWS_AT + 5 * i) k) (ROWS_AT + 5 * i + 1) t) ≡ length w = simp length-set in
      let l₃ : length (set (set (set w (ROWS_AT + 5 * i) k) (ROWS_AT + 5 * i + 1) t) (ROWS_AT + 5 * i + 2) a) ≡ length w = simp length-set in
      let l₄ : length (set (set (set (set w (ROWS_AT + 5 * i) k) (ROWS_AT + 5 * i + 1) t) (ROWS_AT + 5 * i + 2) a) (ROWS_AT + 5 * i + 3) b) ≡ length w =
      simp length-set in
      record {
        kind = rw (
          get_or-set_other _ (ROWS_AT + 5 * i + 4) (ROWS_AT + 5 * i + 0) c 0 (omega arith),
          get_or-set_other _ (ROWS_AT + 5 * i + 3) (ROWS_AT + 5 * i + 0) b 0 (omega arith),
          get_or-set_other _ (ROWS_AT + 5 * i + 2) (ROWS_AT + 5 * i + 0) a 0 (omega arith),
          get_or-set_other _ (ROWS_AT + 5 * i + 1) (ROWS_AT + 5 * i + 0) t 0 (omega arith),
        ) (ap (λ (j : ℕ). get_or (set w (ROWS_AT + 5 * i) k) j 0) (omega arith) ∙ get_or-set_same w (ROWS_AT + 5 * i) k 0 (omega arith));
        own = rw (
          get_or-set_other _ (ROWS_AT + 5 * i + 4) (ROWS_AT + 5 * i + 1) c 0 (omega arith),
          get_or-set_other _ (ROWS_AT + 5 * i + 3) (ROWS_AT + 5 * i + 1) b 0 (omega arith),
          get_or-set_other _ (ROWS_AT + 5 * i + 2) (ROWS_AT + 5 * i + 1) a 0 (omega arith),
        ) (get_or-set_same (set w (ROWS_AT + 5 * i) k) (ROWS_AT + 5 * i + 1) t 0 (omega arith));
        first = rw (
          get_or-set_other _ (ROWS_AT + 5 * i + 4) (ROWS_AT + 5 * i + 2) c 0 (omega arith),
          get_or-set_other _ (ROWS_AT + 5 * i + 3) (ROWS_AT + 5 * i + 2) b 0 (omega arith),
        ) (get_or-set_same (set (set w (ROWS_AT + 5 * i) k) (ROWS_AT + 5 * i + 1) t) (ROWS_AT + 5 * i + 2) a 0 (omega arith));
        second = rw (get_or-set_other _ (ROWS_AT + 5 * i + 4) (ROWS_AT + 5 * i + 3) c 0 (omega arith))
            (get_or-set_same (set (set (set w (ROWS_AT + 5 * i) k) (ROWS_AT + 5 * i + 1) t) (ROWS_AT + 5 * i + 2) a) (ROWS_AT + 5 * i + 3) b 0 (omega arith));
        third = get_or-set_same (set (set (set (set w (ROWS_AT + 5 * i) k) (ROWS_AT + 5 * i + 1) t) (ROWS_AT + 5 * i + 2) a) (ROWS_AT + 5 * i + 3) b)
            (ROWS_AT + 5 * i + 4) c 0 (omega arith);
      }

-- ---- a function

pub length_put_function : (w : List ℕ) (k r : ℕ) → length (put_function w k r) ≡ length w
unfolding put_function
length_put_function w k r = length-set w (FUNCTIONS_AT + k) r

pub put_function_same : (w : List ℕ) (k r : ℕ) → FUNCTIONS_AT + k < length w → get_or (put_function w k r) (FUNCTIONS_AT + k) 0 ≡ r
unfolding put_function
put_function_same w k r h = get_or-set_same w (FUNCTIONS_AT + k) r 0 h

pub put_function_other : (w : List ℕ) (k r j : ℕ) → (j ≡ FUNCTIONS_AT + k → ⊥) → get_or (put_function w k r) j 0 ≡ get_or w j 0
unfolding put_function
put_function_other w k r j h = get_or-set_other w (FUNCTIONS_AT + k) j r 0 (λ e. h (omega arith))

-- ---- rows and functions, cleared: what was written there is lost

without_set : (w : List ℕ) (j x : ℕ) → ROWS_AT ≤ j → j < ROWS_AT + 6 * TOKENS → without_rows (set w j x) ≡ without_rows w
without_set w j x h l = zeros_set (6 * TOKENS) w ROWS_AT j x h l

pub without_put_row : (w : List ℕ) (i k t a b c : ℕ) → i < NODES → without_rows (put_row w i k t a b c) ≡ without_rows w
unfolding put_row
without_put_row w i k t a b c h =
    without_set _ _ _ (omega arith) (omega arith) ∙ without_set _ _ _ (omega arith) (omega arith) ∙ without_set _ _ _ (omega arith) (omega arith)
    ∙ without_set _ _ _ (omega arith) (omega arith) ∙ without_set _ _ _ (omega arith) (omega arith)

pub without_put_function : (w : List ℕ) (k r : ℕ) → k < TOKENS → without_rows (put_function w k r) ≡ without_rows w
unfolding put_function
without_put_function w k r h = without_set _ _ _ (omega arith) (omega arith)
