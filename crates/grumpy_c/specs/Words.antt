-- Words in lent memory: some put at its front, and what is read of one that may be anything.
use Rattle.std.specs.Prelude.{Bool, cond, List, ◌++◌, ℕ, ◌+◌, ltb, length, drop, get_or, map}
use Rattle.std.specs.List.{range_with_len}

-- the words front, and behind them those of w as they were
unfoldable pub with_front : List ℕ → List ℕ → List ℕ
with_front w front = front ++ drop (length front) w

abbrev pub flag_word : Bool → ℕ
flag_word b = cond b 1 0

-- a number of 32 bits, and what a larger one is read as
unfoldable pub count_in : ℕ → ℕ → ℕ
count_in larger n = cond (ltb n 4294967296) n larger

-- nine counts, one for each stop from 50 on, from word k on
abbrev pub nine_counts : ℕ → List ℕ → ℕ → List ℕ
nine_counts larger w k = map (λ i. count_in larger (get_or w (k + i) 0)) (range_with_len 0 9)

-- as words
abbrev pub nine : List ℕ → List ℕ
nine n = map (λ i. get_or n i 0) (range_with_len 0 9)

-- what a state keeps: a larger number, which nobody has written, is read as 0
abbrev pub narrowed : ℕ → ℕ
narrowed = count_in 0
