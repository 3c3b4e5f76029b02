-- Shares: what is kept of a tree in one word, its first endless node or else its count of units, which goes no further
-- than is needed; and where shares lie in table memory, in place of the variables.
use Rattle.std.specs.Prelude.{cond, List, ℕ, zero, suc, ◌+◌, eqb, ltb, get_or, set}
use Rattle.std.proofs.Math.Option.{Option, none, some}
use Rattle.language.specs.Sizes.{TOKENS, NODES, PAY_COUNT}
use Rattle.layout.specs.Table.{VARIABLES_AT, OWN, FIRST, SECOND, THIRD, PASS, row_word, token_value}
use Rattle.layout.specs.Functions.{function_name}

-- ---- shares

-- a count that is too large, however large
abbrev pub FULL : ℕ
FULL = PAY_COUNT + 1

unfoldable pub most : ℕ → ℕ
most n = cond (ltb FULL n) FULL n

-- an endless node at token i; the tokens of a reading are fewer than there may be
unfoldable pub going_on : ℕ → ℕ
going_on i = FULL + 1 + cond (ltb i TOKENS) i TOKENS

-- what is kept of a tree with this first endless node and this count
unfoldable pub share : Option ℕ → ℕ → ℕ
share none n = most n
share (some i) n = going_on i

-- of two trees that are both begun; of two of which one is
unfoldable pub beside : ℕ → ℕ → ℕ
beside a b = cond (ltb FULL a) a (cond (ltb FULL b) b (most (a + b)))

unfoldable pub instead : ℕ → ℕ → ℕ
instead a b = cond (ltb FULL a) a (cond (ltb FULL b) b (cond (ltb a b) b a))

-- ---- where they lie

-- the share of row i; that of the body of function k lies behind those of all rows
abbrev pub share_word : List ℕ → ℕ → ℕ
share_word w i = get_or w (VARIABLES_AT + i) 0

abbrev pub body_word : List ℕ → ℕ → ℕ
body_word w k = share_word w (NODES + k)

abbrev pub put_share : List ℕ → ℕ → ℕ → List ℕ
put_share w i s = set w (VARIABLES_AT + i) s

-- ---- what a row asks

-- the row that word k of row i names, if it stands before row i, else row 0
unfoldable pub earlier : List ℕ → ℕ → ℕ → ℕ
earlier w i k = cond (ltb (row_word w i k) i) (row_word w i k) 0

abbrev pub part : List ℕ → ℕ → ℕ → ℕ
part w i k = share_word w (earlier w i k)

-- the row of its arguments or bounds, if it does not stand behind row i
unfoldable pub reach : List ℕ → ℕ → ℕ
reach w i = cond (ltb i (row_word w i FIRST)) 0 (row_word w i FIRST)

-- the share of the body of the newest of the first n functions whose name has the number x
unfoldable pub find_share : List ℕ → ℕ → ℕ → ℕ
find_share w x zero = 0
find_share w x (suc n) = cond (eqb x (function_name w n)) (body_word w n) (find_share w x n)

-- that of the callee of row i, within the function whose name has the number x, the first n in sight
unfoldable pub callee_share : List ℕ → ℕ → ℕ → ℕ → ℕ
callee_share w i x n =
    cond (ltb (row_word w i OWN) TOKENS)
    (cond (eqb (token_value w (row_word w i OWN)) x) (going_on (row_word w i OWN))
    (find_share w (token_value w (row_word w i OWN)) n)) 0

-- that of a loop at row i, behind s
unfoldable pub around_share : List ℕ → ℕ → ℕ → ℕ
around_share w i s = beside s (beside (part w i PASS) (going_on (row_word w i OWN)))

-- that of a node with c children and no list
unfoldable pub over_share : List ℕ → ℕ → ℕ → ℕ
over_share w i c =
    cond (eqb c 0) 1
    (cond (eqb c 1) (beside 1 (part w i FIRST))
    (cond (eqb c 2) (beside (beside 1 (part w i FIRST)) (part w i SECOND))
    (beside (beside 1 (part w i FIRST)) (instead (part w i SECOND) (part w i THIRD)))))
