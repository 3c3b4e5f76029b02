-- The share that is worked out for a row is that of the row's tree.
use mathlib.Core.Bool.{Bool, true, cond}
use mathlib.Core.List.{List}
use mathlib.Core.Option.{Option, none, some}
use mathlib.Core.Path.{◌≡◌, refl, sym, ap, ap₂, subst, ◌∙◌}
use Prim.Native.Nat.{ℕ, zero, suc, ◌+◌, ◌≤◌, ◌<◌}
use native.Mathlib.Omega.{arith}
use borrow.Author.Tests.{ne_eqb}
use Rattle.language.specs.Tokens.{Token, NAME, At, WHILE, spelling_at, entry}
use Rattle.language.specs.Trees.{Name, Exp, Exps, Scope, nearest}
use Rattle.language.specs.Profile.{or_else, endless, any_endless, cost, all_cost, or_zero}
use Rattle.layout.specs.Table.{KIND, OWN, FIRST, SECOND, THIRD, PASS, EXPRESSION, NEXT, row_word}
use Rattle.layout.specs.Rows.{CALL}
use Rattle.layout.specs.Decode.{Shape, a_name, a_number, a_float, a_follow, a_group, a_block, a_call, a_let, an_if, a_while, a_constant}
use Rattle.layout.specs.Decode.{a_for, a_unary, a_binary, shape_of, children, counts, build, build_if, tree_at, args_at, Part, Node, Right, RightArgs}
use Rattle.language.proofs.Meaning.CellTypes.{some_one}
use Rattle.layout.proofs.Shapes.{shape_kind, kind_of_shape, range_counts}
use Rattle.rules.proofs.ShapeLaws.{for_shape}
use Rattle.profiles.specs.Shares.{going_on, share, beside, instead, share_word, part, reach, callee_share, around_share, over_share}
use Rattle.profiles.specs.Passes.{Summed, sum_none, sum_more, RowShare, of_call, of_for, of_while, of_plain}
use Rattle.profiles.proofs.ShareLaws.{share_beside, share_instead, share_one, earlier_is, reach_is}

-- ---- the first of several

or_else_none : (x : Option ℕ) → or_else x none ≡ x
unfolding or_else
or_else_none none = refl
or_else_none (some i) = refl

or_else_more : (x y z : Option ℕ) → or_else (or_else x y) z ≡ or_else x (or_else y z)
unfolding or_else
or_else_more none y z = refl
or_else_more (some i) y z = refl

-- a unit beside a tree
one_beside : (y : Option ℕ) (m : ℕ) → beside 1 (share y m) ≡ share y (1 + m)
unfolding or_else
one_beside y m = ap (λ (z : ℕ). beside z (share y m)) (sym share_one) ∙ share_beside none y 1 m

module _ (self : Name → Bool) (costs : Scope ℕ) where
  -- the share of a tree, and that of a list
  unfoldable pub tree_share : Exp → ℕ
  tree_share e = share (endless self e) (cost costs e)

  unfoldable list_share : Exps → ℕ
  list_share es = share (any_endless self es) (all_cost costs es)

  -- ---- a node without a list, over its parts

  module _ (ts : List Token) (w : List ℕ) (i o : ℕ) (a b c : Exp) (es : Exps) where
    plain_share : (s : Shape) → (s ≡ a_call → ⊥) → ((m : Bool) → s ≡ a_for m → ⊥) → (s ≡ a_while → ⊥)
        → (1 ≤ children s → part w i FIRST ≡ tree_share a) → (2 ≤ children s → part w i SECOND ≡ tree_share b)
        → (3 ≤ children s → part w i THIRD ≡ tree_share c) → over_share w i (children s) ≡ tree_share (build ts s o a b c es)
    unfolding over_share tree_share build endless cost
    plain_share a_name x y z p q r = sym share_one
    plain_share a_number x y z p q r = sym share_one
    plain_share a_float x y z p q r = sym share_one
    plain_share (a_constant l) x y z p q r = sym share_one
    plain_share (a_unary u) x y z p q r = ap (beside 1) (p (omega arith)) ∙ one_beside _ _
    plain_share a_group x y z p q r = ap (beside 1) (p (omega arith)) ∙ one_beside _ _
    plain_share a_block x y z p q r = ap (beside 1) (p (omega arith)) ∙ one_beside _ _
    plain_share (a_binary u) x y z p q r =
        ap₂ beside (ap (beside 1) (p (omega arith)) ∙ one_beside _ _) (q (omega arith)) ∙ share_beside _ _ _ _
    plain_share a_follow x y z p q r =
        ap₂ beside (ap (beside 1) (p (omega arith)) ∙ one_beside _ _) (q (omega arith)) ∙ share_beside _ _ _ _
    plain_share a_let x y z p q r =
        ap₂ beside (ap (beside 1) (p (omega arith)) ∙ one_beside _ _) (q (omega arith)) ∙ share_beside _ _ _ _
    plain_share an_if x y z p q r =
        ap₂ beside (ap (beside 1) (p (omega arith)) ∙ one_beside _ _)
        (ap₂ instead (q (omega arith)) (r (omega arith)) ∙ share_instead _ _ _ _) ∙ share_beside _ _ _ _
    plain_share a_call x y z p q r = absurd (x refl)
    plain_share (a_for m) x y z p q r = absurd (y m refl)
    plain_share a_while x y z p q r = absurd (z refl)

  -- a loop behind a share, whose body has the tree b
  around_tree : (w : List ℕ) (i : ℕ) (b : Exp) (y : Option ℕ) (m : ℕ) {s : ℕ} → s ≡ share y m → part w i PASS ≡ tree_share b
      → around_share w i s ≡ share (or_else y (or_else (endless self b) (some (row_word w i OWN)))) (m + cost costs b)
  unfolding around_share tree_share share
  around_tree w i b y m e p =
      ap₂ beside e (ap (λ (z : ℕ). beside z (going_on (row_word w i OWN))) p ∙ share_beside (endless self b) (some (row_word w i OWN)) (cost costs b) 0)
      ∙ share_beside y (or_else (endless self b) (some (row_word w i OWN))) m (cost costs b + 0)
      ∙ ap (share (or_else y (or_else (endless self b) (some (row_word w i OWN))))) (omega arith)

  -- ---- rows

  -- the shares of the rows before row m are right
  abbrev pub Known : List Token → List ℕ → ℕ → Type 0
  Known ts w m = (j : ℕ) → j < m → (f : ℕ) → Right f ts w j → share_word w j ≡ tree_share (tree_at f ts w j)

  module _ (ts : List Token) (w : List ℕ) (x n : ℕ)
      (calls : (i : ℕ) → At ts (row_word w i OWN) NAME → callee_share w i x n
      ≡ share (cond (self (spelling_at ts (row_word w i OWN))) (some (row_word w i OWN)) none) (or_zero (nearest (spelling_at ts (row_word w i OWN)) costs)))
    where
      module _ (i : ℕ) (known : Known ts w i) where
        part_known : (r k f : ℕ) → r ≤ i → Part (λ j. Right f ts w j) r (row_word w r k) → part w r k ≡ tree_share (tree_at f ts w (row_word w r k))
        part_known r k f l p =
            ap (share_word w) (earlier_is w r k p.0) ∙ known (row_word w r k) (omega (arith, p.0)) f p.1

        -- a list
        sums : (f : ℕ) {r s t : ℕ} (y : Option ℕ) (m : ℕ) → Summed w r s t → s ≡ share y m → RightArgs f ts w r → r ≤ i
            → t ≡ share (or_else y (any_endless self (args_at f ts w r))) (m + all_cost costs (args_at f ts w r))
        unfolding RightArgs args_at endless cost tree_share
        sums zero y m sum_none e q l = e ∙ ap₂ share (sym (or_else_none y)) (omega arith)
        sums (suc f) y m sum_none e q l = e ∙ ap₂ share (sym (or_else_none y)) (omega arith)
        sums zero y m (sum_more h p) e q l = absurd (omega (arith, q, h))
        sums (suc f) {r} {s} {t} y m (sum_more h p) e q l =
            let nz : r ≡ 0 → ⊥ = λ z. omega arith in
            let a = q nz in
            let E = tree_at f ts w (row_word w r EXPRESSION) in
            let R = args_at f ts w (row_word w r NEXT) in
            let d = earlier_is w r NEXT a.next.0 in
            let g : beside s (part w r EXPRESSION) ≡ share (or_else y (endless self E)) (m + cost costs E) =
            ap₂ beside e (part_known r EXPRESSION f l a.exp) ∙ share_beside y (endless self E) m (cost costs E) in
            let k : m + cost costs E + all_cost costs R ≡ m + (cost costs E + all_cost costs R) = omega arith in
            let z = sums f (or_else y (endless self E)) (m + cost costs E) p g
            (subst (λ (j : ℕ). RightArgs f ts w j) (sym d) a.next.1) (omega (arith, d, a.next.0)) in
            z ∙ ap (λ (j : ℕ). share (or_else (or_else y (endless self E)) (any_endless self (args_at f ts w j)))
            (m + cost costs E + all_cost costs (args_at f ts w j))) d
            ∙ ap₂ share (or_else_more y (endless self E) (any_endless self R)) k
            ∙ rw (ne_eqb r 0 nz) refl

        module _ (f : ℕ) (r : Node (λ j. Right f ts w j) (λ j. RightArgs f ts w j) ts w i) where
          tree_is : (s : Shape) → shape_of (row_word w i KIND) ≡ some s → tree_at (suc f) ts w i
              ≡ build ts s (row_word w i OWN) (tree_at f ts w (row_word w i FIRST)) (tree_at f ts w (row_word w i SECOND))
              (tree_at f ts w (row_word w i THIRD)) (args_at f ts w (row_word w i FIRST))
          unfolding tree_at build_if
          tree_is s e = rw e refl

          -- a list from the row that is named
          list_known : {s : ℕ} → (row_word w i FIRST ≤ i) × RightArgs f ts w (row_word w i FIRST) → Summed w (reach w i) 1 s
              → s ≡ share (any_endless self (args_at f ts w (row_word w i FIRST))) (1 + all_cost costs (args_at f ts w (row_word w i FIRST)))
          unfolding or_else
          list_known {s} p q = sums f none 1 (subst (λ (j : ℕ). Summed w j 1 s) (reach_is w i p.0) q) (sym share_one) p.1 p.0

          call_known : {s : ℕ} → row_word w i KIND ≡ CALL → Summed w (reach w i) 1 s
              → beside s (callee_share w i x n) ≡ tree_share (tree_at (suc f) ts w i)
          unfolding shape_of entry build endless cost tree_share
          call_known e q =
              ap₂ beside (list_known (r.args e) q) (calls i (r.called e)) ∙ share_beside _ _ _ _
              ∙ sym (ap tree_share (tree_is a_call (ap shape_of e)))

          for_known : {s : ℕ} → counts (row_word w i KIND) ≡ true → Summed w (reach w i) 1 s
              → around_share w i s ≡ tree_share (tree_at (suc f) ts w i)
          unfolding build endless cost tree_share
          for_known e q =
              let l = r.loops e in
              let b = for_shape (row_word w i KIND) e in
              around_tree w i (tree_at f ts w (row_word w i PASS)) _ _ (list_known l.bounds q) (part_known i PASS f (omega arith) l.body)
              ∙ sym (ap tree_share (tree_is (a_for b.0) b.1))

          while_known : row_word w i KIND ≡ WHILE → around_share w i (over_share w i 1) ≡ tree_share (tree_at (suc f) ts w i)
          unfolding shape_of entry build endless cost tree_share over_share
          while_known e =
              let s = some_one (sym r.known ∙ ap shape_of e) in
              let first = r.first (subst (λ (s : Shape). 1 ≤ children s) (sym s) (omega arith)) in
              let second = r.second (subst (λ (s : Shape). 2 ≤ children s) (sym s) (omega arith)) in
              around_tree w i (tree_at f ts w (row_word w i SECOND)) _ _
              (ap (beside 1) (part_known i FIRST f (omega arith) first) ∙ one_beside _ _) (part_known i SECOND f (omega arith) second)
              ∙ sym (ap tree_share (tree_is a_while (ap shape_of e)))

          plain_known : {c : ℕ} → (row_word w i KIND ≡ CALL → ⊥) → (counts (row_word w i KIND) ≡ true → ⊥) → (row_word w i KIND ≡ WHILE → ⊥)
              → c ≡ children r.shape → over_share w i c ≡ tree_share (tree_at (suc f) ts w i)
          unfolding shape_kind
          plain_known no_call no_for no_while e =
              let k = kind_of_shape _ _ r.known in
              ap (over_share w i) e
              ∙ plain_share ts w i (row_word w i OWN) _ _ _ _ r.shape (λ s. no_call (k ∙ ap shape_kind s))
              (λ m s. no_for (ap counts (k ∙ ap shape_kind s) ∙ range_counts m)) (λ s. no_while (k ∙ ap shape_kind s))
              (λ l. part_known i FIRST f (omega arith) (r.first l)) (λ l. part_known i SECOND f (omega arith) (r.second l))
              (λ l. part_known i THIRD f (omega arith) (r.third l))
              ∙ sym (ap tree_share (tree_is r.shape r.known))

        -- what is worked out for row i is right
        pub row_known : (f : ℕ) {s : ℕ} → Right f ts w i → RowShare w i x n s → s ≡ tree_share (tree_at f ts w i)
        unfolding Right
        row_known zero r q = absurd r
        row_known (suc f) r (of_call e q) = call_known f r e q
        row_known (suc f) r (of_for e q) = for_known f r e q
        row_known (suc f) r (of_while e) = while_known f r e
        row_known (suc f) r (of_plain a b d h) = plain_known f r a b d (h r.shape r.known)
