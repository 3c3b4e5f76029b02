-- Names and calls resolved before a run: of the own token of each name the slot of its frame that it means is noted,
-- and of that of each call the row of the function that it calls. A frame's slots are a list, the newest first: of each
-- the number of the name that is bound there, or HELD where an operand, an argument, an end or a step waits.
use Rattle.std.specs.Prelude.{Option, None, Some, cond, List, [], ◌∷◌, ◌≡◌, ℕ, zero, suc, ◌+◌, eqb, length}
use Rattle.language.specs.Trees.{Exp, name, literal, unary, binary, follow, group, block, call, bind, branch, loop}
use Rattle.language.specs.Trees.{counted, Exps, last, more, Def, Program}
use Rattle.layout.specs.Table.{OWN, token_value, row_word, function_row}
use Rattle.layout.specs.Functions.{find_function}
use Rattle.layout.specs.Slots.{HELD}
use Rattle.layout.specs.Notes.{NOBODY, noted}

-- the slot of the nearest binding of the name x, from the frame's first on; where there is none any will do
unfoldable pub slot_of : ℕ → List ℕ → ℕ
slot_of x [] = 0
slot_of x (y ∷ L) = cond (eqb x y) (length L) (slot_of x L)

-- the row of the newest function with the name x; of all names that no function has only `putchar` can be called
abbrev pub row_or_nobody : Option ℕ → ℕ
row_or_nobody None = NOBODY
row_or_nobody (Some row) = row

unfoldable pub callee_row : List ℕ → ℕ → ℕ → ℕ
callee_row w defs x = row_or_nobody (find_function w x defs)

-- the slots of a function's frame where n of its parameters are bound
unfoldable pub parameters_in : List ℕ → ℕ → ℕ → List ℕ
parameters_in w row zero = []
parameters_in w row (suc n) = token_value w (row_word w (row + 1 + n) OWN) ∷ parameters_in w row n

-- the slots that the body of a `for` sees: its name's, and above it those of the end and the step
abbrev pub counting : ℕ → List ℕ → List ℕ
counting x L = HELD ∷ HELD ∷ x ∷ L

-- What t notes of a tree that begins where its frame has the slots L. The table w has the tokens and the functions,
-- the first `defs` of which can be called.
module _ (w t : List ℕ) (defs : ℕ) where
  unfoldable mutual
    pub Placed : List ℕ → Exp → Type 0
    Placed L (name i x) = noted t i ≡ slot_of (token_value w i) L
    Placed L (literal i l) = Unit {0}
    Placed L (unary i o e) = Placed L e
    Placed L (binary i o e f) = Placed L e × Placed (HELD ∷ L) f
    Placed L (follow i e f) = Placed L e × Placed L f
    Placed L (group i e) = Placed L e
    Placed L (block i e) = Placed L e
    Placed L (call i x es) = (noted t i ≡ callee_row w defs (token_value w i)) × PlacedAll L es
    Placed L (bind i x e f) = Placed L e × Placed (token_value w (i + 1) ∷ L) f
    Placed L (branch i c e f) = Placed L c × Placed L e × Placed L f
    Placed L (loop i c e) = Placed L c × Placed L e
    Placed L (counted i x b es e) = PlacedAll L es × Placed (counting (token_value w (i + 1)) L) e

    -- each argument or bound waits in the slot above the one before
    pub PlacedAll : List ℕ → Exps → Type 0
    PlacedAll L last = Unit {0}
    PlacedAll L (more e es) = Placed L e × PlacedAll (HELD ∷ L) es

  -- the bodies of functions k, k + 1, .., each of which sees its parameters alone
  unfoldable pub PlacedDefs : ℕ → List Def → Type 0
  PlacedDefs k [] = Unit {0}
  PlacedDefs k (d ∷ ds) =
      Placed (parameters_in w (function_row w k) (length d.params)) d.body × PlacedDefs (k + 1) ds

-- all bodies, and the last expression, whose frame is empty at first
pub record Resolved (t : List ℕ) (p : Program) : Type 0 where
  pub bodies : PlacedDefs t t (length p.defs) 0 p.defs
  pub main : Placed t t (length p.defs) [] p.main
