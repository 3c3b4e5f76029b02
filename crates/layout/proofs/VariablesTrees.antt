-- A table reads back the same reading whatever its variables are: trees, functions and tokens lie before them.
use mathlib.Core.Bool.{Bool}
use mathlib.Core.List.{List}
use mathlib.Core.Path.{◌≡◌, refl, sym, ap, ap₂, subst, ◌∙◌}
use Prim.Native.Nat.{ℕ, zero, suc, ◌+◌, ◌*◌, ◌≤◌, ◌<◌}
use native.Mathlib.Decide.{ℕ_discrete}
use native.Mathlib.Omega.{arith}
use lib.ListN.{length, get_or}
use borrow.Author.Tests.{eq-eqb, ne_eqb}
use Rattle.language.specs.Sizes.{TOKENS, NODES}
use Rattle.language.specs.Tokens.{Token}
use Rattle.language.specs.Trees.{Exp, Exps, more, Param, Def, Program}
use Rattle.layout.specs.Table.{ROWS_AT, FUNCTIONS_AT, VARIABLES_AT, row_word, without_variables}
use Rattle.layout.proofs.TokenLaws.{stand_same}
use Rattle.layout.proofs.Shapes.{shape_kind, kind_of_shape, range_counts}
use Rattle.layout.proofs.VariablesWords.{length_without, without_before}
use Rattle.layout.specs.Decode.{Shape, a_name, a_number, a_float, a_follow, a_group, a_block, a_call, a_let, an_if, a_while, a_constant}
use Rattle.layout.specs.Decode.{a_unary, a_binary, a_for, children, counts, build, build_if, tree_at, args_at, Right, RightArgs, ParamsAt}
use Rattle.layout.specs.Decode.{params_none, params_more, FunctionAt, FunctionsAt, functions_none, functions_more, Holds}
use Rattle.layout.specs.declared.Held.{Held}

-- ---- nodes over equal parts are equal

-- by the parts that a shape has
pub build_same : (ts : List Token) (s : Shape) (i : ℕ) (a b c : Exp) (es : Exps) (a' b' c' : Exp) (es' : Exps)
    → (1 ≤ children s → a ≡ a') → (2 ≤ children s → b ≡ b') → (3 ≤ children s → c ≡ c') → (s ≡ a_call → es ≡ es')
    → ((m : Bool) → s ≡ a_for m → (es ≡ es') × (b ≡ b')) → build ts s i a b c es ≡ build ts s i a' b' c' es'
unfolding build
build_same ts a_name i a b c es a' b' c' es' p q r t u = refl
build_same ts a_number i a b c es a' b' c' es' p q r t u = refl
build_same ts a_float i a b c es a' b' c' es' p q r t u = refl
build_same ts (a_constant l) i a b c es a' b' c' es' p q r t u = refl
build_same ts (a_unary o) i a b c es a' b' c' es' p q r t u = cc (p (omega arith))
build_same ts (a_binary o) i a b c es a' b' c' es' p q r t u = cc (p (omega arith), q (omega arith))
build_same ts a_follow i a b c es a' b' c' es' p q r t u = cc (p (omega arith), q (omega arith))
build_same ts a_group i a b c es a' b' c' es' p q r t u = cc (p (omega arith))
build_same ts a_block i a b c es a' b' c' es' p q r t u = cc (p (omega arith))
build_same ts a_call i a b c es a' b' c' es' p q r t u = cc (t refl)
build_same ts a_let i a b c es a' b' c' es' p q r t u = cc (p (omega arith), q (omega arith))
build_same ts an_if i a b c es a' b' c' es' p q r t u = cc (p (omega arith), q (omega arith), r (omega arith))
build_same ts a_while i a b c es a' b' c' es' p q r t u = cc (p (omega arith), q (omega arith))
build_same ts (a_for m) i a b c es a' b' c' es' p q r t u = let z = u m refl in cc (z.0, z.1)

-- a row that is whole is one of the rows
pub right_inside : (f : ℕ) (ts : List Token) (w : List ℕ) (i : ℕ) → Right f ts w i → i < NODES
unfolding Right
right_inside zero ts w i r = absurd r
right_inside (suc f) ts w i r = r.inside

-- ---- two tables with the same words before the variables

argument_alike : (v w : List ℕ) (f : ℕ) (ts : List Token) (i : ℕ) → Dec (i ≡ 0)
    → ((i ≡ 0 → ⊥) → more (tree_at f ts v (row_word v i 2)) (args_at f ts v (row_word v i 3))
    ≡ more (tree_at f ts w (row_word w i 2)) (args_at f ts w (row_word w i 3)))
    → args_at (suc f) ts v i ≡ args_at (suc f) ts w i
unfolding args_at
argument_alike v w f ts i (yes e) h = rw (eq-eqb i 0 e) refl
argument_alike v w f ts i (no e) h = rw (ne_eqb i 0 e) (h e)

module _ (v w : List ℕ) (alike : (j : ℕ) → j < VARIABLES_AT → get_or v j 0 ≡ get_or w j 0) where
  row_alike : (i k : ℕ) → i < NODES → k < 5 → row_word v i k ≡ row_word w i k
  row_alike i k h l = alike (ROWS_AT + 5 * i + k) (omega arith)

  mutual
    unfolding Right

    -- the rows that are whole in one are so in the other
    pub right_alike : (f : ℕ) (ts : List Token) (i : ℕ) → Right f ts w i → Right f ts v i
    right_alike zero ts i r = r
    right_alike (suc f) ts i r =
        let e₀ = row_alike i 0 r.inside (omega arith) in
        let e₁ = row_alike i 1 r.inside (omega arith) in
        let e₂ = row_alike i 2 r.inside (omega arith) in
        let e₃ = row_alike i 3 r.inside (omega arith) in
        let e₄ = row_alike i 4 r.inside (omega arith) in
        record {
          inside = r.inside;
          shape = r.shape;
          known = rw e₀ r.known;
          named = λ k. rw e₁ (r.named (sym e₀ ∙ k));
          valued = λ k. rw e₁ (r.valued (sym e₀ ∙ k));
          pointed = λ k. rw e₁ (r.pointed (sym e₀ ∙ k));
          called = λ k. rw e₁ (r.called (sym e₀ ∙ k));
          bound = λ k. rw e₁ (r.bound (sym e₀ ∙ k));
          first = λ k. let p = r.first k in rw e₂ (p.0, right_alike f ts _ p.1);
          second = λ k. let p = r.second k in rw e₃ (p.0, right_alike f ts _ p.1);
          third = λ k. let p = r.third k in rw e₄ (p.0, right_alike f ts _ p.1);
          args = λ k. let p = r.args (sym e₀ ∙ k) in rw e₂ (p.0, right_args_alike f ts _ p.1);
          loops = λ k.
              let p = r.loops (ap counts (sym e₀) ∙ k) in
              record {
                named = rw e₁ p.named;
                bounds = rw e₂ (p.bounds.0, right_args_alike f ts _ p.bounds.1);
                body = rw e₃ (p.body.0, right_alike f ts _ p.body.1);
              };
        }

    -- and so are its arguments
    pub right_args_alike : (f : ℕ) (ts : List Token) (i : ℕ) → RightArgs f ts w i → RightArgs f ts v i
    right_args_alike zero ts i r = r
    right_args_alike (suc f) ts i r = λ h.
        let a = r h in
        let e₂ = row_alike i 2 a.inside (omega arith) in
        let e₃ = row_alike i 3 a.inside (omega arith) in
        record {
          inside = a.inside;
          exp = rw e₂ (a.exp.0, right_alike f ts _ a.exp.1);
          next = rw e₃ (a.next.0, right_args_alike f ts _ a.next.1);
        }

  mutual
    unfolding Right tree_at build_if shape_kind

    -- and stand for the same tree
    pub tree_alike : (f : ℕ) (ts : List Token) (i : ℕ) → Right f ts w i → tree_at f ts v i ≡ tree_at f ts w i
    tree_alike zero ts i r = refl
    tree_alike (suc f) ts i r =
        rw (
          row_alike i 0 r.inside (omega arith),
          row_alike i 1 r.inside (omega arith),
          row_alike i 2 r.inside (omega arith),
          row_alike i 3 r.inside (omega arith),
          row_alike i 4 r.inside (omega arith),
          r.known,
        )
        (build_same ts r.shape (row_word w i 1) _ _ _ _ _ _ _ _ (λ k. tree_alike f ts _ (r.first k).1) (λ k. tree_alike f ts _
        (r.second k).1)
        (λ k. tree_alike f ts _ (r.third k).1)
        (λ k. args_alike f ts _ (r.args (kind_of_shape _ _ r.known ∙ ap shape_kind k)).1)
        (λ m k.
        let p = r.loops (ap counts (kind_of_shape _ _ r.known ∙ ap shape_kind k) ∙ range_counts m) in
        (args_alike f ts _ p.bounds.1, tree_alike f ts _ p.body.1)))

    -- and its arguments for the same
    pub args_alike : (f : ℕ) (ts : List Token) (i : ℕ) → RightArgs f ts w i → args_at f ts v i ≡ args_at f ts w i
    args_alike zero ts i r = refl
    args_alike (suc f) ts i r = argument_alike v w f ts i (ℕ_discrete i 0) λ h.
        let a = r h in
        rw (row_alike i 2 a.inside (omega arith), row_alike i 3 a.inside (omega arith))
        (ap₂ more (tree_alike f ts _ a.exp.1) (args_alike f ts _ a.next.1))

  -- and the parameters
  params_alike : {ts : List Token} {r : ℕ} {ps : List Param} → r + length ps ≤ NODES → ParamsAt ts w r ps → ParamsAt ts v r ps
  params_alike h params_none = params_none
  params_alike {r = r} h (params_more {ps = ps} a n c t q) =
      params_more (row_alike r 1 (omega arith) (omega arith) ∙ a) n c (row_alike r 2 (omega arith) (omega arith) ∙ t)
      (params_alike (omega arith) q)

  -- each one
  pub function_alike : {f : ℕ} {ts : List Token} {r : ℕ} {d : Def} → FunctionAt f ts w r d → FunctionAt f ts v r d
  function_alike {f} {ts} {r} {d} a =
      let e₁ = row_alike r 1 a.inside (omega arith) in
      let e₂ = row_alike r 2 a.inside (omega arith) in
      let e₃ = row_alike r 3 a.inside (omega arith) in
      let e₄ = row_alike r 4 a.inside (omega arith) in
      let k = right_inside f ts w (row_word w r 4) a.right in
      record {
        inside = a.inside;
        at = e₁ ∙ a.at;
        named = a.named;
        name = a.name;
        called = a.called;
        count = e₂ ∙ a.count;
        params = params_alike (omega (arith, a.last_param)) a.params;
        last_param = a.last_param;
        result = e₃ ∙ a.result;
        body = rw e₄ (tree_alike f ts _ a.right ∙ a.body);
        right = rw e₄ (right_alike f ts _ a.right);
        block = rw e₄ (row_alike (row_word w r 4) 0 k (omega arith) ∙ a.block);
        room = a.room;
      }

  -- all of them
  pub functions_alike : {f : ℕ} {ts : List Token} {k : ℕ} {ds : List Def} → k + length ds ≤ TOKENS
      → FunctionsAt f ts w k ds → FunctionsAt f ts v k ds
  functions_alike h functions_none = functions_none
  functions_alike {f} {ts} {k = k} h (functions_more {d = d} {ds = ds} a q) =
      let e = alike (FUNCTIONS_AT + k) (omega arith) in
      functions_more (subst (λ (r : ℕ). FunctionAt f ts v r d) (sym e) (function_alike a)) (functions_alike (omega arith) q)

  -- so it holds the same program
  pub holds_alike : {ts : List Token} {P : Held} {p : Program} → length v ≡ length w → Holds ts w P p → Holds ts v P p
  holds_alike {ts} {P} e h = record {
    depth = h.depth;
    long = omega (arith, h.long);
    stand = stand_same v w _ ts (λ j l. alike j (omega arith)) h.stand;
    defined = h.defined;
    few = h.few;
    functions = functions_alike (omega (arith, h.defined, h.few, h.stand.few)) h.functions;
    main = tree_alike h.depth ts P.root h.right ∙ h.main;
    right = right_alike h.depth ts P.root h.right;
    room = h.room;
  }

-- a table without variables holds the same program
pub holds_without : {ts : List Token} {w : List ℕ} {P : Held} {p : Program} → Holds ts w P p → Holds ts (without_variables w) P p
holds_without {w = w} h = holds_alike (without_variables w) w (without_before w) (length_without w) h
