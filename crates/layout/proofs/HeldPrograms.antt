-- A program that was laid down is held by its table: the promise of the reader, as the checker and the runner take it.
use mathlib.Core.List.{List, [], ◌∷◌}
use mathlib.Core.Path.{◌≡◌, refl, sym, ap, subst, ◌∙◌}
use Prim.Native.Nat.{ℕ, suc, ◌+◌, ◌*◌, ◌≤◌, ◌<◌}
use native.Mathlib.Omega.{arith}
use lib.ListN.{length, get_or}
use Rattle.language.specs.Sizes.{TOKENS, NODES, TABLE}
use Rattle.language.specs.Tokens.{Token, DEF, LBRACE}
use Rattle.language.specs.Trees.{Exp, Param, Def, Program}
use Rattle.language.specs.Grammar.{Reading}
use Rattle.language.specs.Meaning.{type_number}
use Rattle.layout.specs.Table.{ROWS_AT, FUNCTIONS_AT, row_word, function_row, put_row, put_function}
use Rattle.layout.specs.Names.{Stand}
use Rattle.layout.specs.Rows.{PARAMETER, below, lay, lay_params, lay_def, def_rows, defs_rows, lay_defs, lay_program, main_row, held_as}
use Rattle.layout.specs.Decode.{ParamsAt, params_none, params_more, FunctionAt, FunctionsAt, functions_none, functions_more, Holds}
use Rattle.layout.proofs.TokenLaws.{stand_same}
use Rattle.layout.proofs.TableLaws.{put_row_five, put_row_other, length_put_row, put_function_same, put_function_other, length_put_function}
use Rattle.layout.proofs.LayLaws.{length_lay, lay_before, length_lay_params, lay_params_other, length_lay_def}
use Rattle.layout.proofs.LayLaws.{length_lay_defs, lay_defs_other, length_lay_program, lay_program_other, lay_other}
use Rattle.layout.proofs.Owned.{OwnedParams, owned_none, owned_param, IsBlock, is_block, OwnedDef, OwnedDefs, owned_def, reading_owned}
use Rattle.layout.proofs.LaidParts.{Agree, last_row}
use Rattle.layout.proofs.Laid.{laid_back}
use Rattle.layout.proofs.FewRows.{few_rows, few_defs}

-- a body's rows are among its function's
def_below : (d : Def) (n m : ℕ) → def_rows d + n ≤ m → below d.body ≤ m
unfolding def_rows
def_below d n m h = omega arith

module _ (ts : List Token) (ls : List ℕ) where
  params_back : (ps : List Param) (w : List ℕ) (f : ℕ) → f + length ps ≤ NODES → ROWS_AT + 5 * NODES ≤ length w → OwnedParams ts ps
      → Agree ls (lay_params w f ps) f (f + length ps) → ParamsAt ts ls f ps
  unfolding lay_params
  params_back [] w f h l owned_none g = params_none
  params_back (p ∷ ps) w f h l (owned_param a b o) g =
      let w₁ = put_row w f PARAMETER p.at (type_number p.type) 0 0 in
      let v = put_row_five w f PARAMETER p.at (type_number p.type) 0 0 (omega arith) in
      let s : Agree ls w₁ f (f + 1) = λ j α β. g j α (omega arith) ∙ lay_params_other ps w₁ (f + 1) (f + 1 + length ps) j (omega arith) (λ x y. omega arith) in
      params_more (s _ (omega arith) (omega arith) ∙ v.own) a b (s _ (omega arith) (omega arith) ∙ v.first)
      (params_back ps w₁ (f + 1) (omega arith) (rw (length_put_row w f PARAMETER p.at (type_number p.type) 0 0) l) o
      (λ j α β. g j (omega arith) (omega arith)))

  -- the root of a Block is a row of that kind
  block_kind : {b : Exp} → IsBlock b → (w : List ℕ) (f : ℕ) → f + below b < NODES → ROWS_AT + 5 * NODES ≤ length w
      → Agree ls (lay w f b) f (f + below b + 1) → row_word ls (f + below b) 0 ≡ LBRACE
  unfolding lay below
  block_kind (is_block {i} {e}) w f h l g =
      let r : ROWS_AT + 5 * (f + below e + 1) + 5 ≤ length (lay w f e) = rw (length_lay e w f) (omega arith) in
      let v = last_row ts ls (lay w f e) (f + below e + 1) LBRACE i (f + below e) 0 0 f r (omega arith) (λ j p q. g j p (omega arith)) in
      ap (λ (z : ℕ). row_word ls z 0) (omega arith) ∙ v.kind

  function_back : (d : Def) (w : List ℕ) (f m : ℕ) → below d.body ≤ m → f + def_rows d ≤ NODES → ROWS_AT + 5 * NODES ≤ length w → OwnedDef ts d
      → Agree ls (lay_def w f d) f (f + def_rows d) → FunctionAt (suc m) ts ls f d
  unfolding lay_def def_rows
  function_back d w f m n h l o g =
      let c = length d.params in
      let w₁ = lay_params w (f + 1) d.params in
      let b = f + 1 + length d.params in
      let w₂ = lay w₁ b d.body in
      let r : ROWS_AT + 5 * NODES ≤ length w₁ = rw (length_lay_params d.params w (f + 1)) l in
      let r₂ : ROWS_AT + 5 * NODES ≤ length w₂ = rw (length_lay d.body w₁ b) r in
      let v = put_row_five w₂ f DEF d.at c (type_number d.result) (b + below d.body) (omega arith) in
      let head : Agree ls (put_row w₂ f DEF d.at c (type_number d.result) (b + below d.body)) f (f + 1) = λ j α β. g j α (omega arith) in
      let behind : Agree ls w₂ (f + 1) (f + (1 + c + below d.body + 1)) = λ j α β.
      g j (omega arith) β ∙ put_row_other w₂ f DEF d.at c (type_number d.result) (b + below d.body) j (λ x y. omega arith) in
      let e : row_word ls f 4 ≡ b + below d.body = head _ (omega arith) (omega arith) ∙ v.third in
      let p = laid_back ts ls d.body w₁ b m n (omega arith) r o.body (λ j α β. behind j (omega arith) (omega arith)) in
      let k = block_kind o.block w₁ b (omega arith) r (λ j α β. behind j (omega arith) (omega arith)) in
      record {
        inside = omega arith;
        at = head _ (omega arith) (omega arith) ∙ v.own;
        named = o.named;
        name = o.name;
        called = o.called;
        count = head _ (omega arith) (omega arith) ∙ v.first;
        params = params_back d.params w (f + 1) (omega arith) l o.params
            (λ j α β. behind j α (omega arith) ∙ lay_before d.body w₁ b j (omega arith));
        last_param = omega arith;
        result = head _ (omega arith) (omega arith) ∙ v.second;
        body = rw e p.tree;
        right = rw e p.right;
        block = ap (λ (z : ℕ). row_word ls z 0) e ∙ k;
        room = omega arith;
      }

  functions_back : (ds : List Def) (w : List ℕ) (f k m : ℕ) → defs_rows ds ≤ m → f + defs_rows ds ≤ NODES → k + length ds ≤ TOKENS → TABLE ≤ length w
      → OwnedDefs ts ds → Agree ls (lay_defs w f k ds) f (f + defs_rows ds)
      → ((j : ℕ) → k ≤ j → j < k + length ds → get_or ls (FUNCTIONS_AT + j) 0 ≡ get_or (lay_defs w f k ds) (FUNCTIONS_AT + j) 0)
      → FunctionsAt (suc m) ts ls k ds
  unfolding lay_defs defs_rows
  functions_back [] w f k m n h t l o g q = functions_none
  functions_back (d ∷ ds) w f k m n h t l (owned_def x o) g q =
      let w₁ = lay_def w f d in
      let w₂ = put_function w₁ k f in
      let r : TABLE ≤ length w₁ = rw (length_lay_def d w f) l in
      let e : function_row ls k ≡ f =
      q k (omega arith) (omega arith)
      ∙ lay_defs_other ds w₂ (f + def_rows d) NODES (k + 1) (k + 1 + length ds) (FUNCTIONS_AT + k) (omega arith) (omega arith) (λ α β. omega arith)
      (λ α β. omega arith)
      ∙ put_function_same w₁ k f (omega arith) in
      let own : Agree ls w₁ f (f + def_rows d) = λ j α β.
      g j α (omega arith)
      ∙ lay_defs_other ds w₂ (f + def_rows d) NODES (k + 1) (k + 1 + length ds) j (omega arith) (omega arith) (λ γ δ. omega arith) (λ γ δ. omega arith)
      ∙ put_function_other w₁ k f j (λ γ. omega arith) in
      functions_more {k = k} {d = d} (rw e (function_back d w f m (def_below d (defs_rows ds) m n) (omega arith) (omega arith) x own))
      (functions_back ds w₂ (f + def_rows d) (k + 1) m (omega arith) (omega arith) (omega arith) (rw (length_put_function w₁ k f) r) o
      (λ j α β. g j (omega arith) (omega arith)) (λ j α β. q j (omega arith) (omega arith)))

-- A reading of the tokens that a table stands for, laid down in it, is held.
pub held : (ts : List Token) (p : Program) (w : List ℕ) {count : ℕ} → TABLE ≤ length w → Stand w count ts → Reading ts p
    → Holds ts (lay_program w p) (held_as ts p) p
unfolding lay_program main_row
held ts p w {count} l s r =
    let o = reading_owned ts p r in
    let n = few_rows ts p r in
    let m = defs_rows p.defs + below p.main in
    let ls = lay_program w p in
    let w₁ = lay_defs w 0 0 p.defs in
    let r₁ : TABLE ≤ length w₁ = rw (length_lay_defs p.defs w 0 0) l in
    let k = few_defs p.defs in
    let q = laid_back ts ls p.main w₁ (defs_rows p.defs) m (omega arith) (omega (arith, s.few, s.long)) (omega arith) o.main (λ j α β. refl) in
    record {
      depth = suc m;
      long = rw (length_lay_program p w) l;
      stand = subst (λ (n : ℕ). Stand ls n ts) (sym s.long)
          (stand_same ls w count ts
          (λ j h.
          lay_program_other p w NODES TOKENS j (omega (arith, s.few, s.long)) (omega (arith, s.few, s.long)) (λ α β. omega arith)
          (λ α β. omega arith)) s);
      defined = refl;
      few = omega arith;
      functions = functions_back ts ls p.defs w 0 0 m (omega arith) (omega (arith, s.few, s.long)) (omega (arith, s.few, s.long)) l o.defs
          (λ j α β. lay_before p.main w₁ (defs_rows p.defs) j (omega arith))
          (λ j α β. lay_other p.main w₁ (defs_rows p.defs) NODES (FUNCTIONS_AT + j) (omega (arith, s.few, s.long)) (λ γ δ. omega arith));
      main = q.tree;
      right = q.right;
      room = omega (arith, s.few, s.long);
    }
