-- What the table tells of the tokens that it stands for, and that it stands for them still when rows or functions were written.
use mathlib.Core.List.{List}
use mathlib.Core.Path.{◌≡◌, sym, ap, ◌∙◌}
use Prim.Native.Nat.{ℕ, ◌+◌, ◌≤◌, ◌<◌}
use native.Mathlib.Omega.{arith}
use lib.ListN.{length, get_or}
use Rattle.language.specs.Tokens.{Token, At}
use Rattle.language.specs.Trees.{Exp, Exps, Param, Def}
use Rattle.layout.specs.Table.{kind_of, put_row, put_function}
use Rattle.layout.specs.Names.{Stand}
use Rattle.layout.specs.Rows.{lay, lay_all, lay_params, lay_def, def_rows}
use Rattle.layout.proofs.TableLaws.{kind_within, put_row_before, put_function_other}
use Rattle.layout.proofs.LayLaws.{lay_before, lay_all_before, lay_params_other, lay_def_other}
use Rattle.layout.proofs.TokenLaws.{stand_same}

-- ---- kinds

module _ {w : List ℕ} {count : ℕ} {ts : List Token} where
  -- token i is of the kind that the table gives it
  pub at : {k : ℕ} (i : ℕ) → Stand w count ts → kind_of w count i ≡ k → At ts i k
  at i s h = s.kinds i ∙ h

  -- and of no other
  pub not_at : {k : ℕ} (i : ℕ) → Stand w count ts → (kind_of w count i ≡ k → ⊥) → At ts i k → ⊥
  not_at i s h e = h (sym (s.kinds i) ∙ e)

-- a token of this kind stands before the end
pub within : (w : List ℕ) (count i k : ℕ) → kind_of w count i ≡ k → 1 ≤ k → i < count
within w count i k e h = kind_within w count i (omega arith)

-- ---- writing

module _ {w v : List ℕ} {count : ℕ} {ts : List Token} where
  -- a tree was laid
  pub stand_lay : (e : Exp) (f : ℕ) → v ≡ lay w f e → Stand w count ts → Stand v count ts
  stand_lay e f l s = stand_same v w count ts (λ j h. ap (λ (z : List ℕ). get_or z j 0) l ∙ lay_before e w f j (omega arith)) s

  -- arguments or bounds were laid
  pub stand_lay_all : (es : Exps) (f i : ℕ) → v ≡ lay_all w f i es → Stand w count ts → Stand v count ts
  stand_lay_all es f i l s =
      stand_same v w count ts (λ j h. ap (λ (z : List ℕ). get_or z j 0) l ∙ lay_all_before es w f i j (omega arith)) s

  -- a row was put
  pub stand_row : (i k t a b c : ℕ) → v ≡ put_row w i k t a b c → Stand w count ts → Stand v count ts
  stand_row i k t a b c l s =
      stand_same v w count ts (λ j h. ap (λ (z : List ℕ). get_or z j 0) l ∙ put_row_before w i k t a b c j (omega arith)) s

  -- parameters were laid
  pub stand_params : (ps : List Param) (f : ℕ) → v ≡ lay_params w f ps → Stand w count ts → Stand v count ts
  stand_params ps f l s =
      stand_same v w count ts
      (λ j h. ap (λ (z : List ℕ). get_or z j 0) l ∙ lay_params_other ps w f (f + length ps) j (omega arith) (λ p q. omega arith)) s

  -- a function was laid, and its row put down
  pub stand_def : (d : Def) (f k r : ℕ) → v ≡ put_function (lay_def w f d) k r → Stand w count ts → Stand v count ts
  stand_def d f k r l s =
      stand_same v w count ts
      (λ j h. ap (λ (z : List ℕ). get_or z j 0) l ∙ put_function_other (lay_def w f d) k r j (λ e. omega arith)
      ∙ lay_def_other d w f (f + def_rows d) j (omega arith) (λ p q. omega arith)) s
