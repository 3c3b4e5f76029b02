-- What laying a tree, a function or a program down leaves as it was: the length, and every word outside its rows.
use mathlib.Core.List.{List, [], ◌∷◌}
use mathlib.Core.Path.{◌≡◌, refl, ◌∙◌}
use Prim.Native.Nat.{ℕ, ◌+◌, ◌*◌, ◌≤◌, ◌<◌}
use native.Mathlib.Omega.{arith}
use lib.ListN.{length, get_or}
use Rattle.language.specs.Trees.{Exp, name, literal, unary, binary, follow, group, block, call}
use Rattle.language.specs.Trees.{bind, branch, loop, counted, Exps, last, more, Param, Def, Program}
use Rattle.layout.specs.Table.{ROWS_AT, FUNCTIONS_AT, put_row}
use Rattle.layout.specs.Rows.{below, under, lay, lay_all, lay_params, lay_def, def_rows, defs_rows, lay_defs, lay_program}
use Rattle.layout.proofs.TableLaws.{length_put_row, put_row_other, length_put_function, put_function_other}

-- ---- the length

mutual
  unfolding lay

  pub length_lay : (e : Exp) (w : List ℕ) (f : ℕ) → length (lay w f e) ≡ length w
  length_lay (name i x) w f = length_put_row _ _ _ _ _ _ _
  length_lay (literal i l) w f = length_put_row _ _ _ _ _ _ _
  length_lay (unary i o e) w f = length_put_row _ _ _ _ _ _ _ ∙ length_lay e w f
  length_lay (binary i o e u) w f = length_put_row _ _ _ _ _ _ _ ∙ length_lay u _ _ ∙ length_lay e w f
  length_lay (follow i e u) w f = length_put_row _ _ _ _ _ _ _ ∙ length_lay u _ _ ∙ length_lay e w f
  length_lay (group i e) w f = length_put_row _ _ _ _ _ _ _ ∙ length_lay e w f
  length_lay (block i e) w f = length_put_row _ _ _ _ _ _ _ ∙ length_lay e w f
  length_lay (call i x es) w f = length_put_row _ _ _ _ _ _ _ ∙ length_lay_all es w f i
  length_lay (bind i x e u) w f = length_put_row _ _ _ _ _ _ _ ∙ length_lay u _ _ ∙ length_lay e w f
  length_lay (branch i c e u) w f = length_put_row _ _ _ _ _ _ _ ∙ length_lay u _ _ ∙ length_lay e _ _ ∙ length_lay c w f
  length_lay (loop i c e) w f = length_put_row _ _ _ _ _ _ _ ∙ length_lay e _ _ ∙ length_lay c w f
  length_lay (counted i x b es e) w f = length_put_row _ _ _ _ _ _ _ ∙ length_lay e _ _ ∙ length_lay_all es w f i

  pub length_lay_all : (es : Exps) (w : List ℕ) (f i : ℕ) → length (lay_all w f i es) ≡ length w
  length_lay_all last w f i = refl
  length_lay_all (more e es) w f i = length_put_row _ _ _ _ _ _ _ ∙ length_lay_all es _ _ i ∙ length_lay e w f

-- ---- other words: j is none of those of the rows from f up to g

abbrev pub Outside : ℕ → ℕ → ℕ → Type 0
Outside f g j = ROWS_AT + 5 * f ≤ j → j < ROWS_AT + 5 * g → ⊥

-- rows within rows
pub narrower : {f g f' g' j : ℕ} → f ≤ f' → g' ≤ g → Outside f g j → Outside f' g' j
narrower a b h p q = h (omega arith) (omega arith)

row_outside : (w : List ℕ) (f g i k t a b c j : ℕ) → f ≤ i → i < g → Outside f g j
    → get_or (put_row w i k t a b c) j 0 ≡ get_or w j 0
row_outside w f g i k t a b c j p q h = put_row_other w i k t a b c j (λ x y. h (omega arith) (omega arith))

mutual
  unfolding lay below

  pub lay_other : (e : Exp) (w : List ℕ) (f g j : ℕ) → f + below e < g → Outside f g j → get_or (lay w f e) j 0 ≡ get_or w j 0
  lay_other (name i x) w f g j l h = row_outside _ f g _ _ _ _ _ _ j (omega arith) (omega arith) h
  lay_other (literal i x) w f g j l h = row_outside _ f g _ _ _ _ _ _ j (omega arith) (omega arith) h
  lay_other (unary i o e) w f g j l h =
      row_outside _ f g _ _ _ _ _ _ j (omega arith) (omega arith) h ∙ lay_other e w f g j (omega arith) h
  lay_other (binary i o e u) w f g j l h =
      row_outside _ f g _ _ _ _ _ _ j (omega arith) (omega arith) h ∙ lay_other u _ _ g j (omega arith) (narrower (omega arith) (omega arith) h)
      ∙ lay_other e w f g j (omega arith) h
  lay_other (follow i e u) w f g j l h =
      row_outside _ f g _ _ _ _ _ _ j (omega arith) (omega arith) h ∙ lay_other u _ _ g j (omega arith) (narrower (omega arith) (omega arith) h)
      ∙ lay_other e w f g j (omega arith) h
  lay_other (group i e) w f g j l h =
      row_outside _ f g _ _ _ _ _ _ j (omega arith) (omega arith) h ∙ lay_other e w f g j (omega arith) h
  lay_other (block i e) w f g j l h =
      row_outside _ f g _ _ _ _ _ _ j (omega arith) (omega arith) h ∙ lay_other e w f g j (omega arith) h
  lay_other (call i x es) w f g j l h =
      row_outside _ f g _ _ _ _ _ _ j (omega arith) (omega arith) h ∙ lay_all_other es w f g i j (omega arith) h
  lay_other (bind i x e u) w f g j l h =
      row_outside _ f g _ _ _ _ _ _ j (omega arith) (omega arith) h ∙ lay_other u _ _ g j (omega arith) (narrower (omega arith) (omega arith) h)
      ∙ lay_other e w f g j (omega arith) h
  lay_other (branch i c e u) w f g j l h =
      row_outside _ f g _ _ _ _ _ _ j (omega arith) (omega arith) h ∙ lay_other u _ _ g j (omega arith) (narrower (omega arith) (omega arith) h)
      ∙ lay_other e _ _ g j (omega arith) (narrower (omega arith) (omega arith) h) ∙ lay_other c w f g j (omega arith) h
  lay_other (loop i c e) w f g j l h =
      row_outside _ f g _ _ _ _ _ _ j (omega arith) (omega arith) h ∙ lay_other e _ _ g j (omega arith) (narrower (omega arith) (omega arith) h)
      ∙ lay_other c w f g j (omega arith) h
  lay_other (counted i x b es e) w f g j l h =
      row_outside _ f g _ _ _ _ _ _ j (omega arith) (omega arith) h ∙ lay_other e _ _ g j (omega arith) (narrower (omega arith) (omega arith) h)
      ∙ lay_all_other es w f g i j (omega arith) h

  pub lay_all_other : (es : Exps) (w : List ℕ) (f g i j : ℕ) → f + under es ≤ g → Outside f g j → get_or (lay_all w f i es) j 0 ≡ get_or w j 0
  lay_all_other last w f g i j l h = refl
  lay_all_other (more e es) w f g i j l h =
      row_outside _ f g _ _ _ _ _ _ j (omega arith) (omega arith) h ∙ lay_all_other es _ _ g i j (omega arith) (narrower (omega arith) (omega arith) h)
      ∙ lay_other e w f g j (omega arith) h

-- the rows before those of a tree
pub lay_before : (e : Exp) (w : List ℕ) (f j : ℕ) → j < ROWS_AT + 5 * f → get_or (lay w f e) j 0 ≡ get_or w j 0
lay_before e w f j h = lay_other e w f (f + below e + 1) j (omega arith) (λ p q. omega arith)

pub lay_all_before : (es : Exps) (w : List ℕ) (f i j : ℕ) → j < ROWS_AT + 5 * f → get_or (lay_all w f i es) j 0 ≡ get_or w j 0
lay_all_before es w f i j h = lay_all_other es w f (f + under es) i j (omega arith) (λ p q. omega arith)

-- ---- parameters, functions, programs

pub length_lay_params : (ps : List Param) (w : List ℕ) (f : ℕ) → length (lay_params w f ps) ≡ length w
unfolding lay_params
length_lay_params [] w f = refl
length_lay_params (p ∷ ps) w f = length_lay_params ps _ _ ∙ length_put_row _ _ _ _ _ _ _

pub lay_params_other : (ps : List Param) (w : List ℕ) (f g j : ℕ) → f + length ps ≤ g → Outside f g j → get_or (lay_params w f ps) j 0 ≡ get_or w j 0
unfolding lay_params
lay_params_other [] w f g j l h = refl
lay_params_other (p ∷ ps) w f g j l h =
    lay_params_other ps _ _ g j (omega arith) (narrower (omega arith) (omega arith) h) ∙ row_outside _ f g _ _ _ _ _ _ j (omega arith) (omega arith) h

pub length_lay_def : (d : Def) (w : List ℕ) (f : ℕ) → length (lay_def w f d) ≡ length w
unfolding lay_def
length_lay_def d w f = length_put_row _ _ _ _ _ _ _ ∙ length_lay d.body _ _ ∙ length_lay_params d.params _ _

pub lay_def_other : (d : Def) (w : List ℕ) (f g j : ℕ) → f + def_rows d ≤ g → Outside f g j → get_or (lay_def w f d) j 0 ≡ get_or w j 0
unfolding lay_def def_rows
lay_def_other d w f g j l h =
    row_outside _ f g _ _ _ _ _ _ j (omega arith) (omega arith) h
    ∙ lay_other d.body _ _ g j (omega arith) (narrower (omega arith) (omega arith) h)
    ∙ lay_params_other d.params _ _ g j (omega arith) (narrower (omega arith) (omega arith) h)

pub length_lay_defs : (ds : List Def) (w : List ℕ) (f k : ℕ) → length (lay_defs w f k ds) ≡ length w
unfolding lay_defs
length_lay_defs [] w f k = refl
length_lay_defs (d ∷ ds) w f k = length_lay_defs ds _ _ _ ∙ length_put_function _ _ _ ∙ length_lay_def d w f

-- j is the word of none of the functions k up to m
abbrev pub Beside : ℕ → ℕ → ℕ → Type 0
Beside k m j = FUNCTIONS_AT + k ≤ j → j < FUNCTIONS_AT + m → ⊥

pub lay_defs_other : (ds : List Def) (w : List ℕ) (f g k m j : ℕ) → f + defs_rows ds ≤ g → k + length ds ≤ m → Outside f g j → Beside k m j
    → get_or (lay_defs w f k ds) j 0 ≡ get_or w j 0
unfolding lay_defs defs_rows
lay_defs_other [] w f g k m j l n h b = refl
lay_defs_other (d ∷ ds) w f g k m j l n h b =
    lay_defs_other ds _ _ g _ m j (omega arith) (omega arith) (narrower (omega arith) (omega arith) h) (λ p q. b (omega arith) (omega arith))
    ∙ put_function_other _ _ _ j (λ e. b (omega arith) (omega arith))
    ∙ lay_def_other d w f g j (omega arith) h

pub length_lay_program : (p : Program) (w : List ℕ) → length (lay_program w p) ≡ length w
unfolding lay_program
length_lay_program p w = length_lay p.main _ _ ∙ length_lay_defs p.defs w 0 0

-- the words before the rows, and those behind the functions, stay
pub lay_program_other : (p : Program) (w : List ℕ) (g m j : ℕ) → defs_rows p.defs + below p.main < g → length p.defs ≤ m
    → Outside 0 g j → Beside 0 m j → get_or (lay_program w p) j 0 ≡ get_or w j 0
unfolding lay_program
lay_program_other p w g m j l n h b =
    lay_other p.main _ _ g j (omega arith) (narrower {f = 0} (omega arith) (omega arith) h)
    ∙ lay_defs_other p.defs w 0 g 0 m j (omega arith) (omega arith) h b
