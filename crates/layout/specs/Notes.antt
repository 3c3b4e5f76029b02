-- What is noted of tokens before a run, in the words where the checker's variables lay: the names of the slots in
-- sight while names are resolved, then a word for each token.
use Rattle.std.specs.Prelude.{List, [], ◌∷◌, ℕ, zero, suc, ◌+◌, ◌*◌, get_or, set}
use Rattle.language.specs.Sizes.{TOKENS, NODES}
use Rattle.layout.specs.Table.{VARIABLES_AT}

abbrev pub NOTES_AT : ℕ
NOTES_AT = 11 * TOKENS

-- no function has this row
abbrev pub NOBODY : ℕ
NOBODY = NODES

abbrev pub slot_name : List ℕ → ℕ → ℕ
slot_name w k = get_or w (VARIABLES_AT + k) 0

abbrev pub noted : List ℕ → ℕ → ℕ
noted w i = get_or w (NOTES_AT + i) 0

abbrev pub put_name : List ℕ → ℕ → ℕ → List ℕ
put_name w k x = set w (VARIABLES_AT + k) x

abbrev pub put_note : List ℕ → ℕ → ℕ → List ℕ
put_note w i x = set w (NOTES_AT + i) x

-- the names of the first n slots, the newest first
unfoldable pub names_in : List ℕ → ℕ → List ℕ
names_in w zero = []
names_in w (suc n) = slot_name w n ∷ names_in w n
