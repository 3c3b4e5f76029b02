-- What a call on a part asks, from what its node was given.
use mathlib.Core.Bool.{true}
use mathlib.Core.List.{List}
use mathlib.Core.Path.{◌≡◌, sym, ap, subst, subst₂, ◌∙◌}
use Rattle.std.specs.Prelude.{Ok}
use Prim.Native.Nat.{ℕ, zero, suc, ◌+◌, ◌≤◌, ◌<◌}
use native.Mathlib.Omega.{arith}
use lib.ListN.{length}
use Rattle.language.specs.Sizes.{TOKENS, NODES, TABLE}
use Rattle.language.specs.Tokens.{Token, entry, NAME, LET, At, spelling_at}
use Rattle.language.specs.Trees.{Name, Ty, Exp, Exps, push}
use Rattle.language.specs.Meaning.{type_number}
use Rattle.layout.specs.Table.{KIND, OWN, FIRST, SECOND, THIRD, START, PASS, token_value, row_word, put_variable, without_variables}
use Rattle.layout.specs.Rows.{CALL, below, under}
use Rattle.layout.specs.Decode.{Shape, a_name, a_number, a_float, a_follow, a_group, a_block, a_call, a_let, an_if, a_while, a_constant}
use Rattle.layout.specs.Decode.{a_unary, a_binary, a_for, shape_of, children, counts, build, tree_at, args_at, Node, Right, RightArgs}
use Rattle.layout.specs.Names.{Named}
use Rattle.layout.proofs.NameLaws.{named_at, name_inside}
use Rattle.layout.proofs.VariablesWords.{row_without, token_without, length_put_variable, without_put_variable}
use Rattle.layout.proofs.VariablesTrees.{right_inside}
use Rattle.layout.specs.Functions.{Headed}
use Rattle.rules.specs.Sight.{InSight, Rowed, Readable, callee_in}
use Rattle.rules.specs.Asked.{Children}
use Rattle.phrase_types.specs.Inferred.{Kept, Ready, Told, ReadyAll}
use Rattle.rules.specs.declared.sight.Callee.{Callee}
use Rattle.rules.specs.declared.sight.Taker.{Taker}
use Rattle.rules.proofs.TellLaws.{type_told}
use Rattle.phrase_types.proofs.KeptLaws.{stands_kept, variables_kept, variables_put}
use Rattle.phrase_types.proofs.ScopeLaws.{sight_headed, callee_rowed}
use Rattle.rules.proofs.PlainLaws.{headed_plain, callee_plain}
use Rattle.rules.proofs.ShapeLaws.{for_shape}
use Rattle.phrase_types.proofs.NodeLaws.{tree_is}
use Rattle.phrase_types.proofs.BindLaws.{let_children}
use Rattle.phrase_types.proofs.CoveredLaws.{covered, covered_all, fewer_first, fewer_second, fewer_third, fewer_args, covered_same}

-- a part has fewer rows than the whole
below_parts : (ts : List Token) (s : Shape) (i : ℕ) (a b c : Exp) (es : Exps)
    → (1 ≤ children s → below a < below (build ts s i a b c es)) × (2 ≤ children s → below b < below (build ts s i a b c es))
    × (3 ≤ children s → below c < below (build ts s i a b c es))
unfolding below build
below_parts ts a_name i a b c es = ((λ h. omega arith), (λ h. omega arith), λ h. omega arith)
below_parts ts a_number i a b c es = ((λ h. omega arith), (λ h. omega arith), λ h. omega arith)
below_parts ts a_float i a b c es = ((λ h. omega arith), (λ h. omega arith), λ h. omega arith)
below_parts ts a_follow i a b c es = ((λ h. omega arith), (λ h. omega arith), λ h. omega arith)
below_parts ts a_group i a b c es = ((λ h. omega arith), (λ h. omega arith), λ h. omega arith)
below_parts ts a_block i a b c es = ((λ h. omega arith), (λ h. omega arith), λ h. omega arith)
below_parts ts a_call i a b c es = ((λ h. omega arith), (λ h. omega arith), λ h. omega arith)
below_parts ts a_let i a b c es = ((λ h. omega arith), (λ h. omega arith), λ h. omega arith)
below_parts ts an_if i a b c es = ((λ h. omega arith), (λ h. omega arith), λ h. omega arith)
below_parts ts a_while i a b c es = ((λ h. omega arith), (λ h. omega arith), λ h. omega arith)
below_parts ts (a_constant l) i a b c es = ((λ h. omega arith), (λ h. omega arith), λ h. omega arith)
below_parts ts (a_unary o) i a b c es = ((λ h. omega arith), (λ h. omega arith), λ h. omega arith)
below_parts ts (a_binary o) i a b c es = ((λ h. omega arith), (λ h. omega arith), λ h. omega arith)
below_parts ts (a_for m) i a b c es = ((λ h. omega arith), (λ h. omega arith), λ h. omega arith)

-- a node that is ready, by its row: there is room for the variables of each part, and for one more
pub record Parts (ts : List Token) (p : List ℕ) (node binds : ℕ) : Type 0 where
  pub f : ℕ
  pub row : Node (λ j. Right f ts p j) (λ j. RightArgs f ts p j) ts p node
  pub first : 1 ≤ children row.shape → binds + 1 + below (tree_at f ts p (row_word p node FIRST)) < NODES
  pub second : 2 ≤ children row.shape → binds + 1 + below (tree_at f ts p (row_word p node SECOND)) < NODES
  pub third : 3 ≤ children row.shape → binds + 1 + below (tree_at f ts p (row_word p node THIRD)) < NODES
  pub args : row_word p node KIND ≡ CALL → binds + under (args_at f ts p (row_word p node FIRST)) < NODES
  pub bounds : counts (row_word p node KIND) ≡ true → binds + under (args_at f ts p (row_word p node START)) < NODES
  pub body : counts (row_word p node KIND) ≡ true → binds + 1 + below (tree_at f ts p (row_word p node PASS)) < NODES

call_rows : (f : ℕ) (ts : List Token) (p : List ℕ) (node : ℕ) → row_word p node KIND ≡ CALL
    → below (tree_at (suc f) ts p node) ≡ under (args_at f ts p (row_word p node FIRST))
unfolding below build shape_of entry
call_rows f ts p node e = ap below (tree_is f ts p node a_call (ap shape_of e))

for_rows : (f : ℕ) (ts : List Token) (p : List ℕ) (node : ℕ) → counts (row_word p node KIND) ≡ true
    → below (tree_at (suc f) ts p node) ≡ under (args_at f ts p (row_word p node START)) + below (tree_at f ts p (row_word p node PASS)) + 1
unfolding below build
for_rows f ts p node e = let s = for_shape _ e in ap below (tree_is f ts p node (a_for s.0) s.1)

parts : (ts : List Token) (p : List ℕ) (node binds f : ℕ) → Right f ts p node → binds + below (tree_at f ts p node) < NODES
    → Parts ts p node binds
unfolding Right
parts ts p node binds zero h l = absurd h
parts ts p node binds (suc f) h l =
    let a = tree_at f ts p (row_word p node FIRST) in
    let b = tree_at f ts p (row_word p node SECOND) in
    let c = tree_at f ts p (row_word p node THIRD) in
    let es = args_at f ts p (row_word p node FIRST) in
    let i = row_word p node OWN in
    let e : below (tree_at (suc f) ts p node) ≡ below (build ts h.shape i a b c es) = ap below (tree_is f ts p node h.shape
    h.known) in
    let q = below_parts ts h.shape i a b c es in
    record {
      f = f;
      row = h;
      first = λ k. omega (arith, q.0 k);
      second = λ k. omega (arith, q.1 k);
      third = λ k. omega (arith, q.2 k);
      args = λ k. omega (arith, call_rows f ts p node k);
      bounds = λ k. omega (arith, for_rows f ts p node k);
      body = λ k. omega (arith, for_rows f ts p node k);
    }

module _ {w : List ℕ} {node seen binds : ℕ} (r : Ready w node seen binds) where
  abbrev p : List ℕ
  p = without_variables w

  -- its parts
  pub ready_parts : Parts r.tokens p node binds
  ready_parts = parts r.tokens p node binds r.depth r.stands.whole r.room

  -- its row is one of the rows
  pub ready_inside : node < NODES
  ready_inside = right_inside r.depth r.tokens p node r.stands.whole

  -- its row's words
  pub ready_row : (k : ℕ) → k < 5 → row_word p node k ≡ row_word w node k
  ready_row k l = row_without w node k ready_inside l

  -- there is room for one more variable
  pub ready_binds : binds < TOKENS
  ready_binds = omega (arith, r.room)

  token_few : (i : ℕ) → At r.tokens i NAME → i < TOKENS
  token_few i h = let a = name_inside r.tokens i h in omega (arith, r.stands.sight.stand.long, r.stands.sight.stand.few)

  -- the tokens of a name, of a call and of what a `let` binds
  pub ready_name : row_word w node KIND ≡ NAME → row_word w node OWN < TOKENS
  ready_name e = let a = token_few _ (ready_parts.row.named (ready_row 0 (omega arith)
      ∙ e)) in let b = ready_row 1 (omega arith) in omega arith

  -- of a call
  pub ready_called : row_word w node KIND ≡ CALL → row_word w node OWN < TOKENS
  ready_called e = let a = token_few _ (ready_parts.row.called (ready_row 0 (omega arith)
      ∙ e)) in let b = ready_row 1 (omega arith) in omega arith

  ready_behind : At r.tokens (row_word p node OWN + 1) NAME → row_word w node OWN + 1 < TOKENS
  ready_behind h = let a = token_few _ h in let b = ready_row 1 (omega arith) in omega arith

  -- of what a `let` binds
  pub ready_bound : row_word w node KIND ≡ LET → row_word w node OWN + 1 < TOKENS
  ready_bound e = ready_behind (ready_parts.row.bound (ready_row 0 (omega arith) ∙ e))

  -- a row that is a `for`
  pub ready_counts : counts (row_word w node KIND) ≡ true → counts (row_word p node KIND) ≡ true
  ready_counts e = ap counts (ready_row 0 (omega arith)) ∙ e

  -- and the token of its name
  pub ready_looped : counts (row_word w node KIND) ≡ true → row_word w node OWN + 1 < TOKENS
  ready_looped e = ready_behind (ready_parts.row.loops (ready_counts e)).named

  -- a name's number, by its token
  pub called_number : {token x : ℕ} → token ≡ row_word w node OWN → x ≡ token_value w token → x ≡ token_value w (row_word w node OWN)
  called_number e d = d ∙ ap (λ (i : ℕ). token_value w i) e

  -- and by the token behind it
  pub bound_number : {token x : ℕ} → token ≡ row_word w node OWN → x ≡ token_value w (token + 1) → x ≡ token_value w (row_word w node OWN + 1)
  bound_number e d = d ∙ ap (λ (i : ℕ). token_value w (i + 1)) e

  -- the functions in sight
  pub ready_headed : (k : ℕ) → k < seen → Headed w k
  ready_headed k l = headed_plain w (sight_headed r.stands.sight k l)

  -- a part can be checked in its turn, after what was done before it
  module _ {w' : List ℕ} (k : Kept w w' binds) where
    ready_part : (f j : ℕ) → Right f r.tokens p j → binds + below (tree_at f r.tokens p j) < NODES → Ready w' j seen binds
    ready_part f j h l = record {
      tokens = r.tokens;
      depth = f;
      functions = r.functions;
      variables = r.variables;
      long = omega (arith, r.long, k.long);
      stands = stands_kept k record { depth = r.stands.depth; sight = r.stands.sight; whole = h; scope = r.stands.scope };
      room = subst (λ (v : List ℕ). binds + below (tree_at f r.tokens v j) < NODES) (sym k.rest) l;
    }

    module _ {m : ℕ} (has : Children (row_word w node KIND) m) where
      count : m ≡ children ready_parts.row.shape
      count = subst (λ (z : ℕ). Children z m) (sym (ready_row 0 (omega arith))) has _ ready_parts.row.known

      child : {j : ℕ} (i : ℕ) → row_word p node i ≡ j → covered w (row_word p node i) < covered w node
          → Right ready_parts.f r.tokens p (row_word p node i)
          → binds + 1 + below (tree_at ready_parts.f r.tokens p (row_word p node i)) < NODES
          → (covered w' j < covered w node) × Ready w' j seen binds
      child i e m h l =
          subst (λ (j : ℕ). (covered w' j < covered w node) × Ready w' j seen binds) e
          (rw (covered_same w' w k.rest) m, ready_part ready_parts.f (row_word p node i) h (omega arith))

      -- the first, the second and the third child
      pub ready_first : {j : ℕ} → 1 ≤ m → j ≡ row_word w node FIRST → (covered w' j < covered w node) × Ready w' j seen binds
      ready_first l e =
          let d : 1 ≤ children ready_parts.row.shape = let q = count in omega arith in
          child 2 (ready_row 2 (omega arith) ∙ sym e) (fewer_first w ready_parts.f r.tokens ready_parts.row d)
          (ready_parts.row.first d).1 (ready_parts.first d)

      -- the second child
      pub ready_second : {j : ℕ} → 2 ≤ m → j ≡ row_word w node SECOND → (covered w' j < covered w node) × Ready w' j seen binds
      ready_second l e =
          let d : 2 ≤ children ready_parts.row.shape = let q = count in omega arith in
          child 3 (ready_row 3 (omega arith) ∙ sym e) (fewer_second w ready_parts.f r.tokens ready_parts.row d)
          (ready_parts.row.second d).1 (ready_parts.second d)

      -- the third child
      pub ready_third : {j : ℕ} → 3 ≤ m → j ≡ row_word w node THIRD → (covered w' j < covered w node) × Ready w' j seen binds
      ready_third l e =
          let d : 3 ≤ children ready_parts.row.shape = let q = count in omega arith in
          child 4 (ready_row 4 (omega arith) ∙ sym e) (fewer_third w ready_parts.f r.tokens ready_parts.row d)
          (ready_parts.row.third d).1 (ready_parts.third d)

    -- what a row covers is the same with a variable more
    pub covered_with : (x n j : ℕ) → covered (put_variable w' binds x n) j ≡ covered w j
    covered_with x n j = covered_same (put_variable w' binds x n) w (without_put_variable w' binds x n ready_binds ∙ k.rest) j

    -- and one that sees a variable more
    pub ready_with : {x n : ℕ} {y : Name} (t : Ty) (f j : ℕ) → Named r.tokens x y → n ≡ type_number t → Right f r.tokens p j
        → binds + 1 + below (tree_at f r.tokens p j) < NODES → Ready (put_variable w' binds x n) j seen (binds + 1)
    ready_with {x} {n} {y} t f j named en h l =
        let long : TABLE ≤ length w' = omega (arith, r.long, k.long) in
        let e : without_variables (put_variable w' binds x n) ≡ p = without_put_variable w' binds x n ready_binds ∙ k.rest in
        let g = length_put_variable w' binds x n in
        record {
          tokens = r.tokens;
          depth = f;
          functions = r.functions;
          variables = push y t r.variables;
          long = omega arith;
          stands = record {
            depth = r.stands.depth;
            sight = subst (λ (v : List ℕ). InSight r.tokens r.stands.depth v seen r.functions) (sym e) r.stands.sight;
            whole = subst (λ (v : List ℕ). Right f r.tokens v j) (sym e) h;
            scope = variables_put long ready_binds named en (variables_kept k r.stands.scope);
          };
          room = subst (λ (v : List ℕ). binds + 1 + below (tree_at f r.tokens v j) < NODES) (sym e) l;
        }

    -- the name behind its token, by its number
    pub behind_named : {x : ℕ} → At r.tokens (row_word p node OWN + 1) NAME → x ≡ token_value w (row_word w node OWN + 1)
        → Named r.tokens x (spelling_at r.tokens (row_word p node OWN + 1))
    behind_named {x} at ex =
        let l = ready_behind at in
        let e : token_value p (row_word p node OWN + 1) ≡ x =
        ap (λ (i : ℕ). token_value p (i + 1)) (ready_row 1 (omega arith)) ∙ token_without w (row_word w node OWN + 1) 3 l (omega arith)
        ∙ sym ex in
        subst (λ (z : ℕ). Named r.tokens z (spelling_at r.tokens (row_word p node OWN + 1))) e
        (named_at r.stands.sight.stand (row_word p node OWN + 1) at)

    -- the body of a `let` can be checked
    pub ready_body : {x n j : ℕ} {v : List ℕ} → row_word w node KIND ≡ LET → x ≡ token_value w (row_word w node OWN + 1)
        → Told p w (row_word p node FIRST) seen binds (Ok n) → v ≡ put_variable w' binds x n → j ≡ row_word w node SECOND
        → (covered v j < covered w node) × Ready v j seen (binds + 1)
    ready_body {x} {n} kind ex h ev ej =
        let c = ready_parts in
        let e = ready_row 0 (omega arith) ∙ kind in
        let a : 2 ≡ children c.row.shape = let_children _ e c.row.shape c.row.known in
        let d : 2 ≤ children c.row.shape = omega arith in
        let q = type_told (h r.tokens c.f r.functions r.variables
        record { depth = r.stands.depth; sight = r.stands.sight; whole = (c.row.first (omega arith)).1; scope = r.stands.scope }) in
        subst₂ (λ (v : List ℕ) (j : ℕ). (covered v j < covered w node) × Ready v j seen (binds + 1)) (sym ev) (ready_row 3 (omega arith) ∙ sym ej) (
          rw (covered_with x n) (fewer_second w c.f r.tokens c.row d),
          ready_with q.0 c.f _ (behind_named (c.row.bound e) ex) q.2 (c.row.second d).1 (c.second d),
        )

  -- a list can be checked
  pub ready_list : {c : Taker} (f j : ℕ) → j ≤ node → RightArgs f r.tokens p j → binds + under (args_at f r.tokens p j) < NODES
      → Readable p c → ReadyAll w j seen binds c 0
  ready_list f j m h l a = record {
    tokens = r.tokens;
    depth = f;
    functions = r.functions;
    variables = r.variables;
    long = r.long;
    stands = record { depth = r.stands.depth; sight = r.stands.sight; whole = h; scope = r.stands.scope };
    room = l;
    readable = a;
    few = let i = ready_inside in omega arith;
  }

  -- the arguments of a call
  pub ready_args : {x row : ℕ} {c : Callee} → row_word w node KIND ≡ CALL → x ≡ token_value w (row_word w node OWN)
      → c ≡ callee_in w x seen → row ≡ row_word w node FIRST
      → (covered_all w row < covered w node) × ReadyAll w row seen binds (Taker.Call c) 0
  ready_args {x} {c = c} kind ex ec er =
      let q = ready_parts in
      let k = ready_row 0 (omega arith) ∙ kind in
      let l = ready_called kind in
      let e : token_value p (row_word p node OWN) ≡ x =
      ap (λ (i : ℕ). token_value p i) (ready_row 1 (omega arith)) ∙ token_without w (row_word w node OWN) 3 l (omega arith) ∙ sym ex in
      let nm = subst (λ (z : ℕ). Named r.tokens z (spelling_at r.tokens (row_word p node OWN))) e
      (named_at r.stands.sight.stand (row_word p node OWN) (q.row.called k)) in
      let h = q.row.args k in
      let a = subst (λ (c : Callee). Rowed p c) (callee_plain w x seen (sight_headed r.stands.sight) ∙ sym ec)
      (callee_rowed r.stands.sight nm) in
      subst (λ (row : ℕ). (covered_all w row < covered w node) × ReadyAll w row seen binds (Taker.Call c) 0) (ready_row 2 (omega arith) ∙ sym er)
      (fewer_args w q.f r.tokens q.row k, ready_list q.f _ h.0 h.1 (q.args k) a)
