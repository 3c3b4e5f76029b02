-- A table whose numbers were laid anew holds the same program with other numbers, and what it notes of names and calls is
-- still so.
use mathlib.Core.List.{List, [], ◌∷◌}
use mathlib.Core.Path.{◌≡◌, refl, sym, ap, subst, ◌∙◌}
use Prim.Native.Nat.{ℕ, zero, suc, ◌+◌, ◌≤◌, ◌<◌}
use native.Mathlib.Decide.{dec_lt}
use native.Mathlib.Omega.{arith}
use lib.ListN.{length}
use Rattle.language.specs.Sizes.{NODES}
use Rattle.language.specs.Tokens.{Token, NAME, At, value_at}
use Rattle.language.specs.Trees.{Exp, Exps, Param, Def, Program}
use Rattle.layout.specs.Table.{OWN, BODY, FUNCTIONS_AT, token_value, row_word, function_row}
use Rattle.layout.specs.Rows.{below}
use Rattle.layout.specs.Functions.{function_name, find_function}
use Rattle.layout.specs.Slots.{HELD}
use Rattle.layout.specs.Notes.{NOTES_AT, noted}
use Rattle.layout.specs.Decode.{ParamsAt, params_none, params_more, FunctionAt, FunctionsAt, functions_none, functions_more, Holds}
use Rattle.layout.specs.Resolved.{slot_of, callee_row, row_or_nobody, parameters_in, counting, Placed, PlacedAll, PlacedDefs, Resolved}
use Rattle.layout.specs.declared.Held.{Held}
use Rattle.layout.proofs.Owned.{Owned, owned_name, owned_literal}
use Rattle.layout.proofs.Owned.{owned_unary, owned_binary, owned_follow, owned_group, owned_block, owned_call, owned_bind, owned_branch}
use Rattle.layout.proofs.Owned.{owned_loop, owned_counted, OwnedAll, owned_last, owned_more, OwnedDefs, owned_def}
use Rattle.layout.proofs.Owned.{OwnedProgram}
use Rattle.grumpy.proofs.Revalued.{anew, all_anew, anew_same, tree_anew, right_anew}
use Rattle.grumpy.proofs.Laying.{Laid, laid_rows}

-- ---- names of functions and parameters

param_names : {ts : List Token} {w : List ℕ} {r : ℕ} {ps : List Param} → ParamsAt ts w r ps → (i : ℕ) → i < length ps
    → At ts (row_word w (r + i) OWN) NAME
param_names params_none i h = absurd (omega arith)
param_names {ts} {w} {r} (params_more {p = p} a n c t q) zero h =
    let e : r + 0 ≡ r = omega arith in
    subst (λ (k : ℕ). At ts k NAME) (sym (ap (λ (k : ℕ). row_word w k OWN) e ∙ a)) n
param_names {ts} {w} {r} (params_more a n c t q) (suc i) h =
    let e : r + suc i ≡ r + 1 + i = omega arith in
    subst (λ (k : ℕ). At ts (row_word w k OWN) NAME) (sym e) (param_names q i (omega arith))

function_names : {f : ℕ} {ts : List Token} {w : List ℕ} {k : ℕ} {ds : List Def} → FunctionsAt f ts w k ds → (i : ℕ) → k ≤ i → i < k + length ds
    → At ts (row_word w (function_row w i) OWN + 1) NAME
function_names functions_none i p q = absurd (omega arith)
function_names {f} {ts} {w} {k} (functions_more {d = d} {ds = ds} a h) i p q =
    go (dec_lt k i) (λ m. function_names h i (omega arith) (omega arith))
  where
    here : At ts (row_word w (function_row w k) OWN + 1) NAME
    here = rw a.at a.name

    go : Dec (k < i) → (k < i → At ts (row_word w (function_row w i) OWN + 1) NAME) → At ts (row_word w (function_row w i) OWN + 1) NAME
    go (yes m) before = before m
    go (no m) before =
        let e : k ≡ i = omega (arith, m) in
        subst (λ (i : ℕ). At ts (row_word w (function_row w i) OWN + 1) NAME) e here

module _ {count : ℕ} {ts ts' : List Token} {w w' : List ℕ} (l : Laid count ts ts' w w') (vs : List Token)
    (worth : (i : ℕ) → value_at ts' i ≡ value_at vs i) where
  abbrev v : ℕ → ℕ
  v = value_at vs

  row_same : (i k : ℕ) → row_word w' i k ≡ row_word w i k
  row_same i k = (laid_rows l).rows i k

  head_same : (k : ℕ) → function_row w' k ≡ function_row w k
  head_same k = l.rest (FUNCTIONS_AT + k) (omega arith)

  note_same : (i : ℕ) → noted w' i ≡ noted w i
  note_same i = l.rest (NOTES_AT + i) (omega arith)

  -- ---- the program

  params_anew : {r : ℕ} {ps : List Param} → ParamsAt ts w r ps → ParamsAt ts' w' r ps
  params_anew params_none = params_none
  params_anew {r} (params_more {p = p} a n c t q) =
      params_more (row_same r 1 ∙ a) (l.kinds p.at ∙ n) (c ∙ sym (l.spellings p.at)) (row_same r 2 ∙ t) (params_anew q)

  function_anew : {f r : ℕ} {d : Def} → Owned vs d.body → FunctionAt f ts w r d → FunctionAt f ts' w' r d
  function_anew {f} {r} {d} o a =
      let e = row_same r BODY in
      record {
        inside = a.inside;
        at = row_same r 1 ∙ a.at;
        named = a.named;
        name = l.kinds (d.at + 1) ∙ a.name;
        called = a.called ∙ sym (l.spellings (d.at + 1));
        count = row_same r 2 ∙ a.count;
        params = params_anew a.params;
        last_param = a.last_param;
        result = row_same r 3 ∙ a.result;
        body = rw e (tree_anew (laid_rows l) v worth f (row_word w r BODY) ∙ ap (anew v) a.body ∙ anew_same o);
        right = rw e (right_anew (laid_rows l) f (row_word w r BODY) a.right);
        block = rw e (row_same (row_word w r BODY) 0 ∙ a.block);
        room = a.room;
      }

  functions_anew : {f k : ℕ} {ds : List Def} → OwnedDefs vs ds → FunctionsAt f ts w k ds → FunctionsAt f ts' w' k ds
  functions_anew o functions_none = functions_none
  functions_anew {f} {k} (owned_def o os) (functions_more {d = d} a q) =
      functions_more (subst (λ (r : ℕ). FunctionAt f ts' w' r d) (sym (head_same k)) (function_anew o.body a)) (functions_anew os q)

  -- its functions are the same, where their numbers are worth what they were
  abbrev pub renewed : Program → Program
  renewed p = record { defs = p.defs; main = anew v p.main }

  pub holds_anew : {P : Held} {p : Program} → P.count ≡ count → OwnedDefs vs p.defs → below (anew v p.main) < NODES → Holds ts w P p
      → Holds ts' w' P (renewed p)
  holds_anew {P} e o room h = record {
    depth = h.depth;
    long = omega (arith, h.long, l.long);
    stand = rw e l.stand;
    defined = h.defined;
    few = h.few;
    functions = functions_anew o h.functions;
    main = tree_anew (laid_rows l) v worth h.depth P.root ∙ ap (anew v) h.main;
    right = right_anew (laid_rows l) h.depth P.root h.right;
    room = room;
  }

  -- ---- what is noted

  module _ (defs : ℕ) (named : (k : ℕ) → k < defs → At ts (row_word w (function_row w k) OWN + 1) NAME) where
    name_same : (k : ℕ) → k < defs → function_name w' k ≡ function_name w k
    name_same k h =
        ap (λ (r : ℕ). token_value w' (row_word w' r OWN + 1)) (head_same k)
        ∙ ap (λ (i : ℕ). token_value w' (i + 1)) (row_same (function_row w k) OWN)
        ∙ l.names (row_word w (function_row w k) OWN + 1) (named k h)

    find_same : (n : ℕ) → n ≤ defs → (x : ℕ) → find_function w' x n ≡ find_function w x n
    unfolding find_function
    find_same zero h x = refl
    find_same (suc n) h x = rw (name_same n (omega arith), head_same n, find_same n (omega arith) x) refl

    callee_same : (i : ℕ) → At ts i NAME → callee_row w defs (token_value w i) ≡ callee_row w' defs (token_value w' i)
    unfolding callee_row
    callee_same i a =
        sym (ap (λ (x : ℕ). row_or_nobody (find_function w' x defs)) (l.names i a)
        ∙ ap row_or_nobody (find_same defs (omega arith) (token_value w i)))

    mutual
      unfolding Placed anew

      placed_anew : {e : Exp} → Owned ts e → (L : List ℕ) → Placed w w defs L e → Placed w' w' defs L (anew v e)
      placed_anew (owned_name {i} a e) L p = note_same i ∙ p ∙ ap (λ (x : ℕ). slot_of x L) (sym (l.names i a))
      placed_anew (owned_literal o) L p = tt
      placed_anew (owned_unary o) L p = placed_anew o L p
      placed_anew (owned_binary o q) L p = (placed_anew o L p.0, placed_anew q (HELD ∷ L) p.1)
      placed_anew (owned_follow o q) L p = (placed_anew o L p.0, placed_anew q L p.1)
      placed_anew (owned_group o) L p = placed_anew o L p
      placed_anew (owned_block o) L p = placed_anew o L p
      placed_anew (owned_call {i} a e o) L p = (note_same i ∙ p.0 ∙ callee_same i a, all_placed o L p.1)
      placed_anew (owned_bind {i} {f = f} a e o q) L p = (
        placed_anew o L p.0,
        subst (λ (x : ℕ). Placed w' w' defs (x ∷ L) (anew v f)) (sym (l.names (i + 1) a)) (placed_anew q (token_value w (i + 1) ∷ L) p.1),
      )
      placed_anew (owned_branch o q r) L p = (placed_anew o L p.0, placed_anew q L p.1, placed_anew r L p.2)
      placed_anew (owned_loop o q) L p = (placed_anew o L p.0, placed_anew q L p.1)
      placed_anew (owned_counted {i} {e = f} a e o q) L p = (
        all_placed o L p.0,
        subst (λ (x : ℕ). Placed w' w' defs (counting x L) (anew v f)) (sym (l.names (i + 1) a))
            (placed_anew q (counting (token_value w (i + 1)) L) p.1),
      )

      all_placed : {es : Exps} → OwnedAll ts es → (L : List ℕ) → PlacedAll w w defs L es → PlacedAll w' w' defs L (all_anew v es)
      all_placed owned_last L p = tt
      all_placed (owned_more o q) L p = (placed_anew o L p.0, all_placed q (HELD ∷ L) p.1)

    parameters_same : (row n : ℕ) → ((i : ℕ) → i < n → At ts (row_word w (row + 1 + i) OWN) NAME)
        → parameters_in w row n ≡ parameters_in w' row n
    unfolding parameters_in
    parameters_same row zero h = refl
    parameters_same row (suc n) h =
        let e = ap (λ (i : ℕ). token_value w' i) (row_same (row + 1 + n) OWN) ∙ l.names (row_word w (row + 1 + n) OWN) (h n (omega arith)) in
        let q = parameters_same row n (λ i k. h i (omega arith)) in
        cc

    bodies_anew : {f k : ℕ} {ds : List Def} → FunctionsAt f ts w k ds → OwnedDefs ts ds → OwnedDefs vs ds → PlacedDefs w w defs k ds
        → PlacedDefs w' w' defs k ds
    unfolding PlacedDefs
    bodies_anew functions_none o q p = tt
    bodies_anew {k = k} (functions_more {d = d} a h) (owned_def o os) (owned_def q qs) p =
        let row = function_row w k in
        let n = length d.params in
        let x = placed_anew o.body (parameters_in w row n) p.0 in
        let e = parameters_same row n (λ i m. param_names a.params i m) in
        let y : Placed w' w' defs (parameters_in w' (function_row w' k) n) d.body =
        rw (head_same k) (subst (λ (L : List ℕ). Placed w' w' defs L d.body) e
        (subst (λ (b : Exp). Placed w' w' defs (parameters_in w row n) b) (anew_same q.body) x))
        in
        (y, bodies_anew h os qs p.1)

  pub resolved_anew : {P : Held} {p : Program} → Holds ts w P p → OwnedProgram ts p → OwnedDefs vs p.defs → Resolved w p → Resolved w' (renewed p)
  resolved_anew {P} {p} h o q r =
      let named : (k : ℕ) → k < length p.defs → At ts (row_word w (function_row w k) OWN + 1) NAME =
      λ k m. function_names h.functions k (omega arith) (omega arith)
      in
      record {
        bodies = bodies_anew (length p.defs) named h.functions o.defs q r.bodies;
        main = placed_anew (length p.defs) named o.main [] r.main;
      }
