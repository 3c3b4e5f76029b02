-- The tokens that the tree at a row covers, by the words of the table alone: a part covers fewer than its node, and an
-- expression of a list fewer than the list (S131).
use mathlib.Core.Bool.{Bool, true}
use mathlib.Core.List.{List, []}
use mathlib.Core.Option.{some}
use mathlib.Core.Path.{◌≡◌, refl, ap, ◌∙◌}
use Prim.Native.Nat.{ℕ, zero, suc, ◌+◌, ◌*◌, ◌≤◌, ◌<◌}
use native.Mathlib.Decide.{ℕ_discrete}
use native.Mathlib.Omega.{arith}
use borrow.Author.Tests.{eq-eqb}
use Rattle.language.specs.Tokens.{Token, entry}
use Rattle.language.specs.Trees.{Name, Exp, call, Exps, last, more}
use Rattle.layout.specs.Table.{KIND, OWN, FIRST, SECOND, THIRD, START, PASS, EXPRESSION, NEXT, row_word, without_variables}
use Rattle.layout.specs.Rows.{CALL}
use Rattle.layout.specs.Decode.{Shape, a_name, a_number, a_float, a_follow, a_group, a_block, a_call, a_let, an_if, a_while, a_constant}
use Rattle.layout.specs.Decode.{a_unary, a_binary, a_for, shape_of, children, counts, build, build_if, tree_at, args_at, Node, Argument, Right, RightArgs}
use Rattle.layout.proofs.Shapes.{shape_kind, kind_of_shape, range_counts}
use Rattle.rules.proofs.ShapeLaws.{for_shape}
use Rattle.phrase_types.proofs.Covering.{covers, covers_all, opened}
use Rattle.phrase_types.proofs.NodeLaws.{tree_is, over}
use Rattle.phrase_types.proofs.BindLaws.{an_argument}

-- ---- by the table

-- How far down a tree is read back is twice its row: a part's row comes before its node's, and a list's row before that
-- of the node that has it, or is row 0. Spellings cover nothing, so no tokens are asked for.
unfoldable pub covered : List ℕ → ℕ → ℕ
covered w i = covers (tree_at (2 * i + 1) [] (without_variables w) i)

unfoldable pub covered_all : List ℕ → ℕ → ℕ
covered_all w i = covers_all (args_at (2 * i) [] (without_variables w) i)

-- a node over parts that cover as many covers as many
alike : (ts us : List Token) (s : Shape) (i : ℕ) (a b c : Exp) (es : Exps) (a' b' c' : Exp) (es' : Exps)
    → (1 ≤ children s → covers a ≡ covers a') → (2 ≤ children s → covers b ≡ covers b') → (3 ≤ children s → covers c ≡ covers c')
    → (s ≡ a_call → opened es ≡ opened es') → ((m : Bool) → s ≡ a_for m → (covers_all es ≡ covers_all es') × (covers b ≡ covers b'))
    → covers (build ts s i a b c es) ≡ covers (build us s i a' b' c' es')
unfolding build covers
alike ts us a_name i a b c es a' b' c' es' p q r t u = refl
alike ts us a_number i a b c es a' b' c' es' p q r t u = refl
alike ts us a_float i a b c es a' b' c' es' p q r t u = refl
alike ts us (a_constant l) i a b c es a' b' c' es' p q r t u = refl
alike ts us (a_unary o) i a b c es a' b' c' es' p q r t u = omega (arith, p (omega arith))
alike ts us (a_binary o) i a b c es a' b' c' es' p q r t u = omega (arith, p (omega arith), q (omega arith))
alike ts us a_follow i a b c es a' b' c' es' p q r t u = omega (arith, p (omega arith), q (omega arith))
alike ts us a_group i a b c es a' b' c' es' p q r t u = omega (arith, p (omega arith))
alike ts us a_block i a b c es a' b' c' es' p q r t u = omega (arith, p (omega arith))
alike ts us a_call i a b c es a' b' c' es' p q r t u = omega (arith, t refl)
alike ts us a_let i a b c es a' b' c' es' p q r t u = omega (arith, p (omega arith), q (omega arith))
alike ts us an_if i a b c es a' b' c' es' p q r t u = omega (arith, p (omega arith), q (omega arith), r (omega arith))
alike ts us a_while i a b c es a' b' c' es' p q r t u = omega (arith, p (omega arith), q (omega arith))
alike ts us (a_for m) i a b c es a' b' c' es' p q r t u = let z = u m refl in omega (arith, z.0, z.1)

-- lists that cover as many, with a call's mark before them and without
abbrev Alike : Exps → Exps → Type 0
Alike es es' = (covers_all es ≡ covers_all es') × (opened es ≡ opened es')

-- row 0 is no list
none_at : (f : ℕ) (ts : List Token) (p : List ℕ) (i : ℕ) → i ≡ 0 → args_at f ts p i ≡ last
unfolding args_at
none_at zero ts p i e = refl
none_at (suc f) ts p i e = rw (eq-eqb i 0 e) refl

list_alike : (ts : List Token) (p : List ℕ) (f g i : ℕ) → Dec (i ≡ 0)
    → ((i ≡ 0 → ⊥) → (covers (tree_at g [] p (row_word p i EXPRESSION)) ≡ covers (tree_at f ts p (row_word p i EXPRESSION)))
    × (covers_all (args_at g [] p (row_word p i NEXT)) ≡ covers_all (args_at f ts p (row_word p i NEXT))))
    → Alike (args_at (suc g) [] p i) (args_at (suc f) ts p i)
unfolding covers
list_alike ts p f g i (yes e) h = rw (none_at (suc g) [] p i e, none_at (suc f) ts p i e) (refl, refl)
list_alike ts p f g i (no n) h = rw (an_argument g [] p i n, an_argument f ts p i n) (let k = h n in (omega (arith, k.0, k.1), omega (arith, k.0, k.1)))

-- what is whole covers as many tokens however far down it is read back, if far enough
module _ (ts : List Token) (p : List ℕ) where
  mutual
    unfolding Right tree_at build_if shape_kind

    covers_at : (f g i : ℕ) → Right f ts p i → 2 * i < g → covers (tree_at g [] p i) ≡ covers (tree_at f ts p i)
    covers_at zero g i r l = absurd r
    covers_at (suc f) zero i r l = absurd (omega arith)
    covers_at (suc f) (suc g) i r l =
        rw r.known
        (alike [] ts r.shape (row_word p i OWN) _ _ _ _ _ _ _ _ (λ k. covers_at f g _ (r.first k).1 (let h = (r.first k).0 in omega arith))
        (λ k. covers_at f g _ (r.second k).1 (let h = (r.second k).0 in omega arith))
        (λ k. covers_at f g _ (r.third k).1 (let h = (r.third k).0 in omega arith))
        (λ k. let q = r.args (kind_of_shape _ _ r.known ∙ ap shape_kind k) in (covers_list f g _ q.1 (let h = q.0 in omega arith)).1)
        (λ m k.
        let q = r.loops (ap counts (kind_of_shape _ _ r.known ∙ ap shape_kind k) ∙ range_counts m) in (
          (covers_list f g _ q.bounds.1 (let h = q.bounds.0 in omega arith)).0,
          covers_at f g _ q.body.1 (let h = q.body.0 in omega arith),
        )))

    covers_list : (f g i : ℕ) → RightArgs f ts p i → 2 * i ≤ g → Alike (args_at g [] p i) (args_at f ts p i)
    covers_list zero g i r l = rw (none_at g [] p i r) (refl, refl)
    covers_list (suc f) zero i r l = rw (none_at (suc f) ts p i (omega arith)) (refl, refl)
    covers_list (suc f) (suc g) i r l = list_alike ts p f g i (ℕ_discrete i 0) λ n.
        let a = r n in
        (covers_at f g _ a.exp.1 (let h = a.exp.0 in omega arith), (covers_list f g _ a.next.1 (let h = a.next.0 in omega arith)).0)

-- ---- a part covers fewer

covers_parts : (ts : List Token) (s : Shape) (i : ℕ) (a b c : Exp) (es : Exps)
    → (1 ≤ children s → covers a < covers (build ts s i a b c es)) × (2 ≤ children s → covers b < covers (build ts s i a b c es))
    × (3 ≤ children s → covers c < covers (build ts s i a b c es))
unfolding covers build
covers_parts ts a_name i a b c es = ((λ h. omega arith), (λ h. omega arith), λ h. omega arith)
covers_parts ts a_number i a b c es = ((λ h. omega arith), (λ h. omega arith), λ h. omega arith)
covers_parts ts a_float i a b c es = ((λ h. omega arith), (λ h. omega arith), λ h. omega arith)
covers_parts ts a_follow i a b c es = ((λ h. omega arith), (λ h. omega arith), λ h. omega arith)
covers_parts ts a_group i a b c es = ((λ h. omega arith), (λ h. omega arith), λ h. omega arith)
covers_parts ts a_block i a b c es = ((λ h. omega arith), (λ h. omega arith), λ h. omega arith)
covers_parts ts a_call i a b c es = ((λ h. omega arith), (λ h. omega arith), λ h. omega arith)
covers_parts ts a_let i a b c es = ((λ h. omega arith), (λ h. omega arith), λ h. omega arith)
covers_parts ts an_if i a b c es = ((λ h. omega arith), (λ h. omega arith), λ h. omega arith)
covers_parts ts a_while i a b c es = ((λ h. omega arith), (λ h. omega arith), λ h. omega arith)
covers_parts ts (a_constant l) i a b c es = ((λ h. omega arith), (λ h. omega arith), λ h. omega arith)
covers_parts ts (a_unary o) i a b c es = ((λ h. omega arith), (λ h. omega arith), λ h. omega arith)
covers_parts ts (a_binary o) i a b c es = ((λ h. omega arith), (λ h. omega arith), λ h. omega arith)
covers_parts ts (a_for m) i a b c es = ((λ h. omega arith), (λ h. omega arith), λ h. omega arith)

-- and a list fewer than the call that has it
call_covers : (i : ℕ) (x : Name) (es : Exps) → covers_all es < covers (call i x es)
unfolding covers
call_covers i x last = omega arith
call_covers i x (more e es) = omega arith

-- the parts of a node that is whole
module _ (w : List ℕ) (f : ℕ) (ts : List Token) {node : ℕ}
    (n : Node (λ j. Right f ts (without_variables w) j) (λ j. RightArgs f ts (without_variables w) j) ts (without_variables w) node) where
  abbrev pw : List ℕ
  pw = without_variables w

  whole_as : (s : Shape) → shape_of (row_word pw node KIND) ≡ some s → covered w node ≡ covers (over f ts pw node s)
  unfolding covered Right
  whole_as s e = covers_at ts pw (suc f) (2 * node + 1) node n (omega arith) ∙ ap covers (tree_is f ts pw node s e)

  part_at : (j : ℕ) → Right f ts pw j → covered w j ≡ covers (tree_at f ts pw j)
  unfolding covered
  part_at j r = covers_at ts pw f (2 * j + 1) j r (omega arith)

  list_at : (j : ℕ) → RightArgs f ts pw j → covered_all w j ≡ covers_all (args_at f ts pw j)
  unfolding covered_all
  list_at j r = (covers_list ts pw f (2 * j) j r (omega arith)).0

  -- its children
  pub fewer_first : 1 ≤ children n.shape → covered w (row_word pw node FIRST) < covered w node
  fewer_first k = rw (whole_as n.shape n.known, part_at _ (n.first k).1) ((covers_parts ts n.shape _ _ _ _ _).0 k)

  pub fewer_second : 2 ≤ children n.shape → covered w (row_word pw node SECOND) < covered w node
  fewer_second k = rw (whole_as n.shape n.known, part_at _ (n.second k).1) ((covers_parts ts n.shape _ _ _ _ _).1 k)

  pub fewer_third : 3 ≤ children n.shape → covered w (row_word pw node THIRD) < covered w node
  fewer_third k = rw (whole_as n.shape n.known, part_at _ (n.third k).1) ((covers_parts ts n.shape _ _ _ _ _).2 k)

  -- the arguments of a call
  pub fewer_args : row_word pw node KIND ≡ CALL → covered_all w (row_word pw node FIRST) < covered w node
  unfolding build shape_of entry
  fewer_args k = rw (whole_as a_call (ap shape_of k), list_at _ (n.args k).1) (call_covers _ _ _)

  -- the bounds and the body of a `for`
  for_covers : counts (row_word pw node KIND) ≡ true
      → covered w node ≡ 2 + covers_all (args_at f ts pw (row_word pw node START)) + covers (tree_at f ts pw (row_word pw node PASS))
  unfolding build covers
  for_covers k = let s = for_shape _ k in whole_as (a_for s.0) s.1

  pub fewer_bounds : counts (row_word pw node KIND) ≡ true → covered_all w (row_word pw node START) < covered w node
  fewer_bounds k = let e = for_covers k in let h = list_at _ (n.loops k).bounds.1 in omega arith

  pub fewer_pass : counts (row_word pw node KIND) ≡ true → covered w (row_word pw node PASS) < covered w node
  fewer_pass k = let e = for_covers k in let h = part_at _ (n.loops k).body.1 in omega arith

-- an expression of a list, and those behind it
module _ (w : List ℕ) (f : ℕ) (ts : List Token) {row : ℕ} (o : row ≡ 0 → ⊥)
    (a : Argument (λ j. Right f ts (without_variables w) j) (λ j. RightArgs f ts (without_variables w) j) (without_variables w) row) where
  abbrev pl : List ℕ
  pl = without_variables w

  list_is : covered_all w row
      ≡ 1 + covers (tree_at f ts pl (row_word pl row EXPRESSION)) + covers_all (args_at f ts pl (row_word pl row NEXT))
  unfolding covered_all RightArgs covers
  list_is = (covers_list ts pl (suc f) (2 * row) row (λ z. a) (omega arith)).0 ∙ ap covers_all (an_argument f ts pl row o)

  exp_at : covered w (row_word pl row EXPRESSION) ≡ covers (tree_at f ts pl (row_word pl row EXPRESSION))
  unfolding covered
  exp_at = covers_at ts pl f (2 * row_word pl row EXPRESSION + 1) _ a.exp.1 (omega arith)

  next_at : covered_all w (row_word pl row NEXT) ≡ covers_all (args_at f ts pl (row_word pl row NEXT))
  unfolding covered_all
  next_at = (covers_list ts pl f (2 * row_word pl row NEXT) _ a.next.1 (omega arith)).0

  pub fewer_exp : covered w (row_word pl row EXPRESSION) < covered_all w row
  fewer_exp = omega (arith, list_is, exp_at)

  pub fewer_next : covered_all w (row_word pl row NEXT) < covered_all w row
  fewer_next = omega (arith, list_is, next_at)

-- ---- a step that leaves all but the variables leaves what rows cover

module _ (v w : List ℕ) (e : without_variables v ≡ without_variables w) where
  pub covered_same : (i : ℕ) → covered v i ≡ covered w i
  unfolding covered
  covered_same i = ap (λ (p : List ℕ). covers (tree_at (2 * i + 1) [] p i)) e

  pub covered_all_same : (i : ℕ) → covered_all v i ≡ covered_all w i
  unfolding covered_all
  covered_all_same i = ap (λ (p : List ℕ). covers_all (args_at (2 * i) [] p i)) e

-- ---- what falls: trees and lists stand above the functions of nodes

-- from a node to its parts
pub falls_inside : {m n t : ℕ} → m < n → 2 * n ≡ t → 2 * m + 1 < t
falls_inside l e = omega arith

-- from a list to its parts
pub falls_along : {m n t : ℕ} → m < n → 2 * n + 1 ≡ t → 2 * m + 1 < t
falls_along l e = omega arith

-- from a tree to its node
pub falls_to_node : (n : ℕ) {t : ℕ} → 2 * n + 1 ≡ t → 2 * n < t
falls_to_node n e = omega arith
