-- Whatever the layers write lies among the required words: with these cleared, the table is as it was, cleared. And what
-- clearing makes of a memory is what the language says is left in it.
use mathlib.Core.List.{List, [], ◌∷◌}
use mathlib.Core.Path.{◌≡◌, refl, ap, ◌∙◌}
use Prim.Native.Nat.{ℕ, zero, suc, ◌+◌, ◌*◌, ◌≤◌, ◌<◌}
use native.Mathlib.Numerals.{add-one}
use native.Mathlib.Omega.{arith}
use lib.ListN.{length, set}
use Rattle.language.specs.Sizes.{TOKENS, NODES, TABLE}
use Rattle.language.specs.Tokens.{Token}
use Rattle.language.specs.Trees.{Exp, name, literal, unary, binary, follow, group, block, call}
use Rattle.language.specs.Trees.{bind, branch, loop, counted, Exps, last, more, Param, Def, Program}
use Rattle.language.specs.Answers.{cleared}
use Rattle.layout.specs.Table.{ROWS_AT, put_token, put_row, put_function, zeros, without_rows, without_variables}
use Rattle.layout.specs.Names.{lay_tokens}
use Rattle.layout.specs.Rows.{below, under, lay, lay_all, lay_params, lay_def, def_rows, defs_rows, lay_defs, lay_program}
use Rattle.layout.proofs.Clearing.{zeros_set}

-- the required words of a table, cleared
abbrev pub wiped : List ℕ → List ℕ
wiped w = zeros w 0 TABLE

wiped_set : (w : List ℕ) (j x : ℕ) → j < TABLE → wiped (set w j x) ≡ wiped w
wiped_set w j x h = zeros_set TABLE w 0 j x (omega arith) (omega arith)

wiped_token : (w : List ℕ) (i a b c d e : ℕ) → i < TOKENS → wiped (put_token w i a b c d e) ≡ wiped w
unfolding put_token
wiped_token w i a b c d e h =
    wiped_set _ _ _ (omega arith) ∙ wiped_set _ _ _ (omega arith) ∙ wiped_set _ _ _ (omega arith) ∙ wiped_set _ _ _ (omega arith)

wiped_row : (w : List ℕ) (i k t a b c : ℕ) → i < NODES → wiped (put_row w i k t a b c) ≡ wiped w
unfolding put_row
wiped_row w i k t a b c h =
    wiped_set _ _ _ (omega arith) ∙ wiped_set _ _ _ (omega arith) ∙ wiped_set _ _ _ (omega arith) ∙ wiped_set _ _ _ (omega arith)
    ∙ wiped_set _ _ _ (omega arith)

wiped_function : (w : List ℕ) (k r : ℕ) → k < TOKENS → wiped (put_function w k r) ≡ wiped w
unfolding put_function
wiped_function w k r h = wiped_set _ _ _ (omega arith)

wiped_zeros : (n : ℕ) (w : List ℕ) (a : ℕ) → a + n ≤ TABLE → wiped (zeros w a n) ≡ wiped w
unfolding zeros
wiped_zeros zero w a h = refl
wiped_zeros (suc n) w a h = wiped_zeros n (set w a 0) (a + 1) (omega arith) ∙ wiped_set w a 0 (omega arith)

pub wiped_without_rows : (w : List ℕ) → wiped (without_rows w) ≡ wiped w
wiped_without_rows w = wiped_zeros (6 * TOKENS) w ROWS_AT (omega arith)

pub wiped_without_variables : (w : List ℕ) → wiped (without_variables w) ≡ wiped w
wiped_without_variables w = wiped_zeros (2 * TOKENS) w (10 * TOKENS) (omega arith)

-- ---- tokens

pub wiped_tokens : (ts us : List Token) (w : List ℕ) (n : ℕ) → n + length us ≤ TOKENS → wiped (lay_tokens ts w n us) ≡ wiped w
unfolding lay_tokens
wiped_tokens ts [] w n h = refl
wiped_tokens ts (u ∷ us) w n h = wiped_tokens ts us _ (n + 1) (omega arith) ∙ wiped_token w n _ _ _ _ _ (omega arith)

-- ---- readings

mutual
  unfolding lay below

  wiped_lay : (e : Exp) (w : List ℕ) (f : ℕ) → f + below e < NODES → wiped (lay w f e) ≡ wiped w
  wiped_lay (name i x) w f h = wiped_row _ _ _ _ _ _ _ (omega arith)
  wiped_lay (literal i x) w f h = wiped_row _ _ _ _ _ _ _ (omega arith)
  wiped_lay (unary i o e) w f h = wiped_row _ _ _ _ _ _ _ (omega arith) ∙ wiped_lay e w f (omega arith)
  wiped_lay (binary i o e u) w f h = wiped_row _ _ _ _ _ _ _ (omega arith) ∙ wiped_lay u _ _ (omega arith) ∙ wiped_lay e w f (omega arith)
  wiped_lay (follow i e u) w f h = wiped_row _ _ _ _ _ _ _ (omega arith) ∙ wiped_lay u _ _ (omega arith) ∙ wiped_lay e w f (omega arith)
  wiped_lay (group i e) w f h = wiped_row _ _ _ _ _ _ _ (omega arith) ∙ wiped_lay e w f (omega arith)
  wiped_lay (block i e) w f h = wiped_row _ _ _ _ _ _ _ (omega arith) ∙ wiped_lay e w f (omega arith)
  wiped_lay (call i x es) w f h = wiped_row _ _ _ _ _ _ _ (omega arith) ∙ wiped_all es w f i (omega arith)
  wiped_lay (bind i x e u) w f h = wiped_row _ _ _ _ _ _ _ (omega arith) ∙ wiped_lay u _ _ (omega arith) ∙ wiped_lay e w f (omega arith)
  wiped_lay (branch i c e u) w f h =
      wiped_row _ _ _ _ _ _ _ (omega arith) ∙ wiped_lay u _ _ (omega arith) ∙ wiped_lay e _ _ (omega arith) ∙ wiped_lay c w f (omega arith)
  wiped_lay (loop i c e) w f h = wiped_row _ _ _ _ _ _ _ (omega arith) ∙ wiped_lay e _ _ (omega arith) ∙ wiped_lay c w f (omega arith)
  wiped_lay (counted i x b es e) w f h =
      wiped_row _ _ _ _ _ _ _ (omega arith) ∙ wiped_lay e _ _ (omega arith) ∙ wiped_all es w f i (omega arith)

  wiped_all : (es : Exps) (w : List ℕ) (f i : ℕ) → f + under es ≤ NODES → wiped (lay_all w f i es) ≡ wiped w
  wiped_all last w f i h = refl
  wiped_all (more e es) w f i h = wiped_row _ _ _ _ _ _ _ (omega arith) ∙ wiped_all es _ _ i (omega arith) ∙ wiped_lay e w f (omega arith)

wiped_params : (ps : List Param) (w : List ℕ) (f : ℕ) → f + length ps ≤ NODES → wiped (lay_params w f ps) ≡ wiped w
unfolding lay_params
wiped_params [] w f h = refl
wiped_params (p ∷ ps) w f h = wiped_params ps _ (f + 1) (omega arith) ∙ wiped_row _ _ _ _ _ _ _ (omega arith)

wiped_def : (d : Def) (w : List ℕ) (f : ℕ) → f + def_rows d ≤ NODES → wiped (lay_def w f d) ≡ wiped w
unfolding lay_def def_rows
wiped_def d w f h =
    wiped_row _ _ _ _ _ _ _ (omega arith) ∙ wiped_lay d.body _ _ (omega arith) ∙ wiped_params d.params w (f + 1) (omega arith)

wiped_defs : (ds : List Def) (w : List ℕ) (f k : ℕ) → f + defs_rows ds ≤ NODES → k + length ds ≤ TOKENS → wiped (lay_defs w f k ds) ≡ wiped w
unfolding lay_defs defs_rows
wiped_defs [] w f k h l = refl
wiped_defs (d ∷ ds) w f k h l =
    wiped_defs ds _ _ (k + 1) (omega arith) (omega arith) ∙ wiped_function _ k f (omega arith) ∙ wiped_def d w f (omega arith)

pub wiped_program : (p : Program) (w : List ℕ) → defs_rows p.defs + below p.main < NODES → length p.defs ≤ TOKENS → wiped (lay_program w p) ≡ wiped w
unfolding lay_program
wiped_program p w h l = wiped_lay p.main _ _ (omega arith) ∙ wiped_defs p.defs w 0 0 (omega arith) (omega arith)

-- ---- what is left

-- clearing behind a word that stays
zeros_behind : (n a x : ℕ) (w : List ℕ) → zeros (x ∷ w) (suc a) n ≡ x ∷ zeros w a n
unfolding zeros
zeros_behind zero a x w = refl
zeros_behind (suc n) a x w = rw (add-one (suc a), add-one a) (zeros_behind n (suc a) x (set w a 0))

pub zeros_cleared : (n : ℕ) (w : List ℕ) → n ≤ length w → zeros w 0 n ≡ cleared n w
unfolding zeros cleared
zeros_cleared zero w h = refl
zeros_cleared (suc n) [] h = absurd (omega arith)
zeros_cleared (suc n) (x ∷ w) h = rw (add-one 0) (zeros_behind n 0 0 w ∙ ap (λ (z : List ℕ). 0 ∷ z) (zeros_cleared n w (omega arith)))
