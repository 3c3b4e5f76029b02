-- A tree that was laid down is read back: its root's row is right, and the tree of that row is the tree.
use mathlib.Core.Bool.{Bool, true, false≢true}
use mathlib.Core.List.{List}
use mathlib.Core.Option.{some}
use mathlib.Core.Path.{◌≡◌, refl, sym, ap, ◌∙◌}
use Prim.Native.Nat.{ℕ, zero, suc, ◌+◌, ◌≤◌, ◌<◌}
use native.Mathlib.Omega.{arith}
use borrow.Author.Tests.{ne_eqb}
use Rattle.language.specs.Sizes.{NODES}
use Rattle.language.specs.Tokens.{Token, At, NAME, NUMBER, FLOAT_NUMBER, LET}
use Rattle.language.specs.Trees.{Exp, Exps, last, more}
use Rattle.layout.specs.Rows.{CALL}
use Rattle.layout.specs.Decode.{Shape, a_call, a_for, shape_of, children, build, build_if, tree_at, args_at}
use Rattle.layout.specs.Decode.{counts, Part, Right, RightArgs}
use Rattle.layout.proofs.TableLaws.{Five}

-- a row of kind k has no list of arguments or bounds
abbrev pub Listless : ℕ → Type 0
Listless k = (k ≡ CALL → ⊥) × (counts k ≡ true → ⊥)

module _ (ts : List Token) (ls : List ℕ) where
  -- row i is right and stands for e; for the arguments es
  pub record Back (n i : ℕ) (e : Exp) : Type 0 where
    pub right : Right n ts ls i
    pub tree : tree_at n ts ls i ≡ e

  pub record BackAll (n i : ℕ) (es : Exps) : Type 0 where
    pub right : RightArgs n ts ls i
    pub args : args_at n ts ls i ≡ es

  -- ---- one row, over parts that are read back

  -- what the tokens of a row of kind k with token t have to be
  pub record Tokens (k t : ℕ) : Type 0 where
    pub named : k ≡ NAME → At ts t NAME
    pub valued : k ≡ NUMBER → At ts t NUMBER
    pub pointed : k ≡ FLOAT_NUMBER → At ts t FLOAT_NUMBER
    pub called : k ≡ CALL → At ts t NAME
    pub bound : k ≡ LET → At ts (t + 1) NAME
    pub loops : counts k ≡ true → At ts (t + 1) NAME

  -- nothing, where k is none of these
  pub no_tokens : (k t : ℕ) → (k ≡ NAME → ⊥) → (k ≡ NUMBER → ⊥) → (k ≡ FLOAT_NUMBER → ⊥) → (k ≡ CALL → ⊥) → (k ≡ LET → ⊥)
      → (counts k ≡ true → ⊥) → Tokens k t
  no_tokens k t a b p c d l = record {
    named = λ e. absurd (a e);
    valued = λ e. absurd (b e);
    pointed = λ e. absurd (p e);
    called = λ e. absurd (c e);
    bound = λ e. absurd (d e);
    loops = λ e. absurd (l e);
  }

  module _ (n i k t a b c : ℕ) (s : Shape) (v : Five ls i k t a b c) (h : i < NODES) (y : shape_of k ≡ some s) where
    row_tree : tree_at (suc n) ts ls i ≡ build ts s t (tree_at n ts ls a) (tree_at n ts ls b) (tree_at n ts ls c) (args_at n ts ls a)
    unfolding tree_at build_if
    row_tree = rw (v.kind, v.own, v.first, v.second, v.third, y) refl

    row_right : Tokens k t → (1 ≤ children s → Part (λ j. Right n ts ls j) i a) → (2 ≤ children s → Part (λ j. Right n ts ls j) i b)
        → (3 ≤ children s → Part (λ j. Right n ts ls j) i c) → (k ≡ CALL → (a ≤ i) × RightArgs n ts ls a)
        → (counts k ≡ true → ((a ≤ i) × RightArgs n ts ls a) × Part (λ j. Right n ts ls j) i b) → Right (suc n) ts ls i
    unfolding Right
    row_right o p q r g c = record {
      inside = h;
      shape = s;
      known = rw v.kind y;
      named = λ e. rw v.own (o.named (sym v.kind ∙ e));
      valued = λ e. rw v.own (o.valued (sym v.kind ∙ e));
      pointed = λ e. rw v.own (o.pointed (sym v.kind ∙ e));
      called = λ e. rw v.own (o.called (sym v.kind ∙ e));
      bound = λ e. rw v.own (o.bound (sym v.kind ∙ e));
      first = λ l. rw v.first (p l);
      second = λ l. rw v.second (q l);
      third = λ l. rw v.third (r l);
      args = λ e. rw v.first (g (sym v.kind ∙ e));
      loops = λ e.
          let k = ap counts (sym v.kind) ∙ e in
          record { named = rw v.own (o.loops k); bounds = rw v.first (c k).0; body = rw v.second (c k).1 };
    }

  -- a row with no part, one, two or three
  pub leaf_back : (n i k t a b c : ℕ) (s : Shape) (e : Exp) → Five ls i k t a b c → i < NODES → shape_of k ≡ some s → children s ≡ 0 → Listless k
      → Tokens k t → build ts s t (tree_at n ts ls a) (tree_at n ts ls b) (tree_at n ts ls c) (args_at n ts ls a) ≡ e → Back (suc n) i e
  leaf_back n i k t a b c s e v h y z x o q = record {
    right = row_right n i k t a b c s v h y o (λ l. absurd (omega arith)) (λ l. absurd (omega arith)) (λ l. absurd (omega arith)) (λ l. absurd (x.0 l))
        (λ l. absurd (x.1 l));
    tree = row_tree n i k t a b c s v h y ∙ q;
  }

  pub one_back : (n i k t a b c : ℕ) (s : Shape) (e d : Exp) → Five ls i k t a b c → i < NODES → shape_of k ≡ some s → children s ≡ 1 → Listless k
      → Tokens k t → a < i → Back n a d → build ts s t d (tree_at n ts ls b) (tree_at n ts ls c) (args_at n ts ls a) ≡ e → Back (suc n) i e
  one_back n i k t a b c s e d v h y z x o l p q = record {
    right = row_right n i k t a b c s v h y o (λ m. (l, p.right)) (λ m. absurd (omega arith)) (λ m. absurd (omega arith)) (λ m. absurd (x.0 m))
        (λ m. absurd (x.1 m));
    tree = row_tree n i k t a b c s v h y
        ∙ ap (λ (z : Exp). build ts s t z (tree_at n ts ls b) (tree_at n ts ls c) (args_at n ts ls a)) p.tree ∙ q;
  }

  pub two_back : (n i k t a b c : ℕ) (s : Shape) (e d g : Exp) → Five ls i k t a b c → i < NODES → shape_of k ≡ some s → children s ≡ 2 → Listless k
      → Tokens k t → a < i → Back n a d → b < i → Back n b g → build ts s t d g (tree_at n ts ls c) (args_at n ts ls a) ≡ e → Back (suc n) i e
  two_back n i k t a b c s e d g v h y z x o l p m r q = record {
    right = row_right n i k t a b c s v h y o (λ _. (l, p.right)) (λ _. (m, r.right)) (λ m. absurd (omega arith)) (λ m. absurd (x.0 m))
        (λ m. absurd (x.1 m));
    tree = row_tree n i k t a b c s v h y
        ∙ ap (λ (z : Exp). build ts s t z (tree_at n ts ls b) (tree_at n ts ls c) (args_at n ts ls a)) p.tree
        ∙ ap (λ (z : Exp). build ts s t d z (tree_at n ts ls c) (args_at n ts ls a)) r.tree ∙ q;
  }

  pub three_back : (n i k t a b c : ℕ) (s : Shape) (e d g u : Exp) → Five ls i k t a b c → i < NODES → shape_of k ≡ some s → Listless k
      → Tokens k t → a < i → Back n a d → b < i → Back n b g → c < i → Back n c u → build ts s t d g u (args_at n ts ls a) ≡ e → Back (suc n) i e
  three_back n i k t a b c s e d g u v h y x o l p m r j w q = record {
    right = row_right n i k t a b c s v h y o (λ _. (l, p.right)) (λ _. (m, r.right)) (λ _. (j, w.right)) (λ m. absurd (x.0 m)) (λ m. absurd (x.1 m));
    tree = row_tree n i k t a b c s v h y
        ∙ ap (λ (z : Exp). build ts s t z (tree_at n ts ls b) (tree_at n ts ls c) (args_at n ts ls a)) p.tree
        ∙ ap (λ (z : Exp). build ts s t d z (tree_at n ts ls c) (args_at n ts ls a)) r.tree
        ∙ ap (λ (z : Exp). build ts s t d g z (args_at n ts ls a)) w.tree ∙ q;
  }

  -- a call, over its arguments
  pub call_back : (n i k t a b c : ℕ) (es : Exps) → k ≡ CALL → Five ls i k t a b c → i < NODES → shape_of k ≡ some a_call → At ts t NAME → a ≤ i
      → BackAll n a es
      → Back (suc n) i (build ts a_call t (tree_at n ts ls a) (tree_at n ts ls b) (tree_at n ts ls c) es)
  unfolding counts
  call_back n i k t a b c es z v h y o l p = record {
    right = row_right n i k t a b c a_call v h y
        record {
          named = λ _. o;
          valued = λ e. absurd (omega arith);
          pointed = λ e. absurd (omega arith);
          called = λ _. o;
          bound = λ e. absurd (omega arith);
          loops = λ e. absurd (false≢true (sym (ap counts z) ∙ e));
        }
        (λ m. absurd (omega arith)) (λ m. absurd (omega arith)) (λ m. absurd (omega arith)) (λ _. (l, p.right))
        (λ e. absurd (false≢true (sym (ap counts z) ∙ e)));
    tree = row_tree n i k t a b c a_call v h y
        ∙ ap (λ (z : Exps). build ts a_call t (tree_at n ts ls a) (tree_at n ts ls b) (tree_at n ts ls c) z) p.args;
  }

  -- a `for`, over its bounds and its body
  pub for_back : (n i k t a b c : ℕ) (r : Bool) (es : Exps) (e : Exp) → (k ≡ CALL → ⊥) → counts k ≡ true → Five ls i k t a b c → i < NODES
      → shape_of k ≡ some (a_for r) → Tokens k t → a ≤ i → BackAll n a es → b < i → Back n b e
      → Back (suc n) i (build ts (a_for r) t (tree_at n ts ls a) e (tree_at n ts ls c) es)
  for_back n i k t a b c r es e x z v h y o l p m q = record {
    right = row_right n i k t a b c (a_for r) v h y o
        (λ m. absurd (omega arith)) (λ m. absurd (omega arith)) (λ m. absurd (omega arith)) (λ e. absurd (x e))
        (λ _. ((l, p.right), (m, q.right)));
    tree = row_tree n i k t a b c (a_for r) v h y
        ∙ ap (λ (z : Exps). build ts (a_for r) t (tree_at n ts ls a) (tree_at n ts ls b) (tree_at n ts ls c) z) p.args
        ∙ ap (λ (z : Exp). build ts (a_for r) t (tree_at n ts ls a) z (tree_at n ts ls c) es) q.tree;
  }

  -- no arguments; an argument and those behind it
  pub none_back : (n : ℕ) → BackAll n 0 last
  unfolding RightArgs args_at
  none_back zero = record { right = refl; args = refl }
  none_back (suc n) = record { right = λ h. absurd (h refl); args = refl }

  pub argument_back : (n i k t a b c : ℕ) (e : Exp) (es : Exps) → Five ls i k t a b c → i < NODES → a < i → Back n a e → b < i → BackAll n b es
      → BackAll (suc n) i (more e es)
  unfolding RightArgs args_at
  argument_back n i k t a b c e es v h l p m q = record {
    right = λ _. record { inside = h; exp = rw v.first (l, p.right); next = rw v.second (m, q.right) };
    args = rw (ne_eqb i 0 (λ z. omega arith), v.first, v.second, p.tree, q.args) refl;
  }
