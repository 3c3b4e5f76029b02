-- Rows that are whole, and of whose names and calls it is noted what they mean, are the trees that they are read back as.
use mathlib.Core.Path.{◌≡◌, refl, sym, ap, subst, ◌∙◌}
use mathlib.Core.Bool.{true, false}
use mathlib.Core.List.{List, ◌∷◌}
use mathlib.Core.Option.{Option, some}
use Prim.Native.Nat.{ℕ, zero, suc, ◌+◌, ◌≤◌, ◌<◌}
use native.Mathlib.Omega.{arith}
use native.Mathlib.Decide.{ℕ_discrete, dec_lt}
use borrow.Author.Tests.{eq-eqb, ne_eqb}
use lib.ListN.{length, get_or, get_or-eq_default}
use Rattle.language.specs.Sizes.{TABLE}
use Rattle.language.specs.Tokens.{Token, At, kind_at, entry, value_at, spelling_at, past, PAST, NAME, NUMBER, FLOAT_NUMBER}
use Rattle.language.specs.Decimals.{float_of}
use Rattle.language.specs.Trees.{Literal, whole, truth, trivial, decimal, Exp, Exps, more, literal}
use Rattle.layout.specs.Table.{KIND, OWN, FIRST, SECOND, THIRD, EXPRESSION, NEXT, token_value, row_word}
use Rattle.layout.specs.Names.{value_word, Stand}
use Rattle.layout.specs.Rows.{literal_kind}
use Rattle.layout.specs.Decode.{Shape, a_name, a_number, a_float, a_follow, a_group, a_block, a_call, a_let, an_if, a_while, a_constant}
use Rattle.layout.specs.Decode.{a_unary, a_binary, a_for, counts, shape_of, children, build, build_if, tree_at, args_at, Node, Right, RightArgs}
use Rattle.layout.specs.Slots.{HELD}
use Rattle.layout.specs.Resolved.{counting, Placed, PlacedAll}
use Rattle.layout.proofs.FloatWords.{float_held}
use Rattle.layout.proofs.NameLaws.{name_inside, named_at}
use Rattle.layout.proofs.Shapes.{shape_kind, kind_of_shape, range_counts}
use Rattle.language.proofs.Meaning.CellTypes.{some_one}
use Rattle.machine.specs.Rows.{literal_of, LiteralRow}
use Rattle.runner.specs.Trees as Trees
use Rattle.runner.specs.Trees.{Head, NameAt, at_name, at_literal, at_unary, at_binary, at_follow, at_group}
use Rattle.runner.specs.Trees.{at_block, at_call, at_bind, at_branch, at_loop, at_counted, Args, args_last, args_more}
use Rattle.runner.proofs.Few.{Few, FewAll}
use Rattle.runner.proofs.RowKinds.{clash}

-- ---- tokens that are numbers

-- a token of any kind is one of the list's
token_inside : (ts : List Token) (i : ℕ) {k : ℕ} → (PAST ≡ k → ⊥) → At ts i k → i < length ts
unfolding kind_at
token_inside ts i d e = go (dec_lt i (length ts))
  where
    go : Dec (i < length ts) → i < length ts
    go (yes h) = h
    go (no h) =
        let p : get_or ts i past ≡ past = get_or-eq_default ts past (omega (arith, h)) in
        absurd (d (sym (ap (λ (t : Token). t.kind) p) ∙ e))

-- its fourth word is its value
number_at : {w : List ℕ} {count : ℕ} {ts : List Token} → Stand w count ts → (i : ℕ) → At ts i NUMBER → token_value w i ≡ value_at ts i
unfolding kind_at value_at value_word
number_at {w} {count} {ts} st i e = let l = token_inside ts i (λ z. omega arith) e in st.values i (omega (arith, st.long)) ∙ rw e refl

-- ---- the parts of a row

module _ (right rights : ℕ → Type 0) (ts : List Token) (w : List ℕ) (i : ℕ) (n : Node right rights ts w i) (sh : Shape)
    (e : shape_of (row_word w i KIND) ≡ some sh) where
  shape_is : n.shape ≡ sh
  shape_is = some_one (sym n.known ∙ e)

  part_first : 1 ≤ children sh → right (row_word w i FIRST)
  part_first l = (n.first (subst (λ (x : Shape). 1 ≤ children x) (sym shape_is) l)).1

  part_second : 2 ≤ children sh → right (row_word w i SECOND)
  part_second l = (n.second (subst (λ (x : Shape). 2 ≤ children x) (sym shape_is) l)).1

  part_third : 3 ≤ children sh → right (row_word w i THIRD)
  part_third l = (n.third (subst (λ (x : Shape). 3 ≤ children x) (sym shape_is) l)).1

-- ---- a row by its shape

abbrev built : List Token → List ℕ → (ℕ → Exp) → (ℕ → Exps) → ℕ → Shape → Exp
built ts w tree args i sh =
    build ts sh (row_word w i OWN) (tree (row_word w i FIRST)) (tree (row_word w i SECOND)) (tree (row_word w i THIRD)) (args (row_word w i FIRST))

module _ (ts : List Token) (w : List ℕ) (defs : ℕ) (long : TABLE ≤ length w) (stand : Stand w (length ts) ts) where
  abbrev Tree : List ℕ → ℕ → Exp → Type 0
  Tree L i e = Trees.At ts w defs L i e

  -- what is asked of a tree that begins in sight of L, and of arguments
  abbrev Fit : List ℕ → Exp → Type 0
  Fit L e = Few e × Placed w w defs L e

  abbrev FitAll : List ℕ → Exps → Type 0
  FitAll L es = FewAll es × PlacedAll w w defs L es

  -- a token that is a name
  pub name_at : (i : ℕ) → At ts i NAME → NameAt ts w i (spelling_at ts i)
  name_at i a = let l = name_inside ts i a in record { inside = omega (arith, stand.few); named = named_at stand i a }

  module _ (right rights : ℕ → Type 0) (tree : ℕ → Exp) (args : ℕ → Exps) (ih : (L : List ℕ) (j : ℕ) → right j → Fit L (tree j) → Tree L j (tree j))
      (ihs : (L : List ℕ) (j : ℕ) → rights j → FitAll L (args j) → Args ts w defs L j (args j)) (i : ℕ) (n : Node right rights ts w i) (L : List ℕ)
    where
      abbrev F : ℕ
      F = row_word w i FIRST

      abbrev S : ℕ
      S = row_word w i SECOND

      abbrev T : ℕ
      T = row_word w i THIRD

      head : (sh : Shape) → shape_of (row_word w i KIND) ≡ some sh → Head w i (shape_kind sh) (row_word w i OWN)
      head sh e = record { inside = n.inside; kind_is = kind_of_shape (row_word w i KIND) sh e; own_is = refl }

      plain_row : {k : ℕ} → row_word w i KIND ≡ k → (k ≡ NUMBER → ⊥) → (k ≡ FLOAT_NUMBER → ⊥) → LiteralRow w i
      plain_row e h g = record {
        long = long;
        inside = n.inside;
        token = λ d. clash e d h;
        small = λ d. clash e d h;
        pointed = λ d. clash e d g;
      }

      module _ (e : row_word w i KIND ≡ NUMBER) where
        number_token : At ts (row_word w i OWN) NUMBER
        number_token = n.valued e

        number_row : LiteralRow w i
        number_row = record {
          long = long;
          inside = n.inside;
          token = λ _. let l = token_inside ts _ (λ z. omega arith) number_token in omega (arith, stand.few, stand.long);
          small = λ _. let l = stand.written _ number_token in omega (arith, number_at stand _ number_token);
          pointed = λ d. clash e d (λ z. omega arith);
        }

        number_literal : literal_of w i ≡ whole (value_at ts (row_word w i OWN))
        unfolding literal_of
        number_literal = rw e (ap whole (number_at stand _ number_token))

      module _ (e : row_word w i KIND ≡ FLOAT_NUMBER) where
        float_token : At ts (row_word w i OWN) FLOAT_NUMBER
        float_token = n.pointed e

        float_inside : row_word w i OWN < length ts
        float_inside = token_inside ts _ (λ z. omega arith) float_token

        float_row : LiteralRow w i
        float_row = record {
          long = long;
          inside = n.inside;
          token = λ d. clash e d (λ z. omega arith);
          small = λ d. clash e d (λ z. omega arith);
          pointed = λ _. omega (arith, float_inside, stand.few);
        }

        float_literal : literal_of w i ≡ decimal (float_of (spelling_at ts (row_word w i OWN)))
        unfolding literal_of
        float_literal = rw e (ap decimal (float_held stand (row_word w i OWN) float_inside float_token))

      constant : (l : Literal) → shape_of (row_word w i KIND) ≡ some (a_constant l) → Tree L i (literal (row_word w i OWN) l)
      unfolding shape_kind literal_kind literal_of shape_of entry
      constant (whole m) e =
          let k = kind_of_shape (row_word w i KIND) (a_constant (whole m)) e in
          let q : ◌≡◌ {A = Option Shape} (some a_number) (some (a_constant (whole m))) = rw k at e in
          absurd (let z : ◌≡◌ {A = ℕ} 0 1 = cc in omega arith)
      constant (decimal x) e =
          let k = kind_of_shape (row_word w i KIND) (a_constant (decimal x)) e in
          let q : ◌≡◌ {A = Option Shape} (some a_float) (some (a_constant (decimal x))) = rw k at e in
          absurd (let z : ◌≡◌ {A = ℕ} 0 1 = cc in omega arith)
      constant (truth true) e =
          let k = kind_of_shape (row_word w i KIND) (a_constant (truth true)) e in
          at_literal {l = truth true} (head _ e) (rw k refl) (plain_row k (λ d. omega arith) (λ d. omega arith))
      constant (truth false) e =
          let k = kind_of_shape (row_word w i KIND) (a_constant (truth false)) e in
          at_literal {l = truth false} (head _ e) (rw k refl) (plain_row k (λ d. omega arith) (λ d. omega arith))
      constant trivial e =
          let k = kind_of_shape (row_word w i KIND) (a_constant trivial) e in
          at_literal {l = trivial} (head _ e) (rw k refl) (plain_row k (λ d. omega arith) (λ d. omega arith))

      first_part : (sh : Shape) → shape_of (row_word w i KIND) ≡ some sh → 1 ≤ children sh → Fit L (tree F) → Tree L F (tree F)
      first_part sh e l f = ih L F (part_first right rights ts w i n sh e l) f

      second_part : (sh : Shape) → shape_of (row_word w i KIND) ≡ some sh → 2 ≤ children sh → (M : List ℕ) → Fit M (tree S) → Tree M S (tree S)
      second_part sh e l M f = ih M S (part_second right rights ts w i n sh e l) f

      third_part : (sh : Shape) → shape_of (row_word w i KIND) ≡ some sh → 3 ≤ children sh → Fit L (tree T) → Tree L T (tree T)
      third_part sh e l f = ih L T (part_third right rights ts w i n sh e l) f

      pub by_shape : (sh : Shape) → shape_of (row_word w i KIND) ≡ some sh → Fit L (built ts w tree args i sh) → Tree L i (built ts w tree args i sh)
      unfolding build shape_kind Few Placed literal_kind
      by_shape a_name e f = at_name (head a_name e) (name_at _ (n.named (kind_of_shape _ _ e))) f.1
      by_shape a_number e f =
          let k = kind_of_shape (row_word w i KIND) a_number e in
          at_literal {l = whole (value_at ts (row_word w i OWN))} (head a_number e) (number_literal k) (number_row k)
      by_shape a_float e f =
          let k = kind_of_shape (row_word w i KIND) a_float e in
          at_literal {l = decimal (float_of (spelling_at ts (row_word w i OWN)))} (head a_float e) (float_literal k) (float_row k)
      by_shape (a_constant l) e f = constant l e
      by_shape (a_unary o) e f = at_unary (head (a_unary o) e) (first_part (a_unary o) e (omega arith) f)
      by_shape a_group e f = at_group (head a_group e) (first_part a_group e (omega arith) f)
      by_shape a_block e f = at_block (head a_block e) (first_part a_block e (omega arith) f)
      by_shape (a_binary o) e (f, p) =
          at_binary (head (a_binary o) e) (first_part (a_binary o) e (omega arith) (f.0, p.0))
          (second_part (a_binary o) e (omega arith) (HELD ∷ L) (f.1, p.1))
      by_shape a_follow e (f, p) =
          at_follow (head a_follow e) (first_part a_follow e (omega arith) (f.0, p.0)) (second_part a_follow e (omega arith) L (f.1, p.1))
      by_shape a_while e (f, p) =
          at_loop (head a_while e) (first_part a_while e (omega arith) (f.0, p.0)) (second_part a_while e (omega arith) L (f.1, p.1))
      by_shape a_let e (f, p) =
          at_bind (head a_let e) (name_at _ (n.bound (kind_of_shape _ _ e))) (first_part a_let e (omega arith) (f.0, p.0))
          (second_part a_let e (omega arith) (token_value w (row_word w i OWN + 1) ∷ L) (f.1, p.1))
      by_shape an_if e (f, p) =
          at_branch (head an_if e) (first_part an_if e (omega arith) (f.0, p.0)) (second_part an_if e (omega arith) L (f.1, p.1))
          (third_part an_if e (omega arith) (f.2, p.2))
      by_shape a_call e (f, p) =
          let k = kind_of_shape (row_word w i KIND) a_call e in
          at_call (head a_call e) (name_at _ (n.called k)) f.0 (ihs L F (n.args k).1 (f.1, p.1)) p.0
      by_shape (a_for b) e (f, p) =
          let l = n.loops (ap counts (kind_of_shape (row_word w i KIND) (a_for b) e) ∙ range_counts b) in
          at_counted (head (a_for b) e) (name_at _ l.named) f.0 (ihs L F l.bounds.1 (f.1, p.0))
          (ih (counting (token_value w (row_word w i OWN + 1)) L) S l.body.1 (f.2, p.1))

  -- ---- arguments

  -- every tree, and all arguments, with fewer rows below them
  abbrev TreesOf : ℕ → Type 0
  TreesOf h = (L : List ℕ) (j : ℕ) → Right h ts w j → Fit L (tree_at h ts w j) → Tree L j (tree_at h ts w j)

  abbrev ArgsOf : ℕ → Type 0
  ArgsOf h = (L : List ℕ) (j : ℕ) → RightArgs h ts w j → FitAll L (args_at h ts w j) → Args ts w defs L j (args_at h ts w j)

  none_args : (L : List ℕ) (h i : ℕ) → i ≡ 0 → Args ts w defs L i (args_at (suc h) ts w i)
  unfolding args_at
  none_args L h i e = rw (eq-eqb i 0 e) (args_last e)

  some_args : (L : List ℕ) (h i : ℕ) → Dec (i ≡ 0) → RightArgs (suc h) ts w i → FitAll L (args_at (suc h) ts w i) → TreesOf h → ArgsOf h
      → Args ts w defs L i (args_at (suc h) ts w i)
  unfolding args_at RightArgs FewAll PlacedAll
  some_args L h i (yes e) r f ih ihs = none_args L h i e
  some_args L h i (no n) r f ih ihs =
      let a = r n in
      let e : args_at (suc h) ts w i ≡ more (tree_at h ts w (row_word w i EXPRESSION)) (args_at h ts w (row_word w i NEXT)) = rw (ne_eqb i 0 n) refl in
      let g = subst (FitAll L) e f in
      subst (λ (x : Exps). Args ts w defs L i x) (sym e)
      (args_more n a.inside (ih L _ a.exp.1 (g.0.0, g.1.0)) (ihs (HELD ∷ L) _ a.next.1 (g.0.1, g.1.1)))

  -- ---- every row

  row_at : (L : List ℕ) (h i : ℕ) → Right (suc h) ts w i → Fit L (tree_at (suc h) ts w i) → TreesOf h → ArgsOf h → Tree L i (tree_at (suc h) ts w i)
  unfolding Right tree_at build_if
  row_at L h i r f ih ihs =
      let e : tree_at (suc h) ts w i ≡ built ts w (λ j. tree_at h ts w j) (λ j. args_at h ts w j) i r.shape = rw r.known refl in
      subst (Tree L i) (sym e)
      (by_shape (λ j. Right h ts w j) (λ j. RightArgs h ts w j) (λ j. tree_at h ts w j) (λ j. args_at h ts w j) ih ihs i r L r.shape r.known
      (subst (Fit L) e f))

  mutual
    unfolding Right args_at

    pub at_of : (h : ℕ) (L : List ℕ) (i : ℕ) → Right h ts w i → Fit L (tree_at h ts w i) → Tree L i (tree_at h ts w i)
    at_of zero L i r f = absurd r
    at_of (suc h) L i r f = row_at L h i r f (λ L j r f. at_of h L j r f) (λ L j r f. args_of h L j r f)

    pub args_of : (h : ℕ) (L : List ℕ) (i : ℕ) → RightArgs h ts w i → FitAll L (args_at h ts w i) → Args ts w defs L i (args_at h ts w i)
    args_of zero L i r f = args_last r
    args_of (suc h) L i r f = some_args L h i (ℕ_discrete i 0) r f (λ L j r f. at_of h L j r f) (λ L j r f. args_of h L j r f)
