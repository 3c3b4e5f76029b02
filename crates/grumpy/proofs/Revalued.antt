-- A tree whose numbers are worth something else. The rows of a table do not hold what a number is worth: they name its
-- token. So where the tokens of a table are worth something else, and are of the same kinds and spelled the same, its rows
-- stand for the same trees with other numbers.
use mathlib.Core.Bool.{Bool, true, false, cond}
use mathlib.Core.List.{List}
use mathlib.Core.Option.{Option, none, some}
use mathlib.Core.Path.{◌≡◌, refl, sym, ap, ◌∙◌}
use Prim.Native.Nat.{ℕ, zero, suc, ◌+◌}
use lib.Dec.{T, eqb}
use Rattle.language.specs.Tokens.{Token, kind_at, value_at, spelling_at}
use Rattle.language.specs.Decimals.{float_of}
use Rattle.language.specs.Trees.{Literal, whole, truth, trivial, decimal, Exp, name, literal, unary, binary, follow, group}
use Rattle.language.specs.Trees.{block, call, bind, branch, loop, counted, Exps, last, more}
use Rattle.language.proofs.Grammar.Entries.{every, entry_passes}
use Rattle.layout.specs.Table.{row_word}
use Rattle.layout.specs.Decode.{Shape, a_name, a_number, a_float, a_follow, a_group, a_block, a_call, a_let, an_if, a_while}
use Rattle.layout.specs.Decode.{a_constant, a_unary, a_binary, a_for, shapes, shape_of, build, build_if, tree_at, args_at}
use Rattle.layout.specs.Decode.{counts, Right, RightArgs}
use Rattle.layout.proofs.Owned.{OwnedLiteral, owned_whole, owned_truth, owned_trivial, owned_decimal, Owned, owned_name, owned_literal}
use Rattle.layout.proofs.Owned.{owned_unary, owned_binary, owned_follow, owned_group, owned_block, owned_call, owned_bind, owned_branch}
use Rattle.layout.proofs.Owned.{owned_loop, owned_counted, OwnedAll, owned_last, owned_more}

-- a number of token i is worth v i
unfoldable pub worth_anew : (ℕ → ℕ) → ℕ → Literal → Literal
worth_anew v i (whole n) = whole (v i)
worth_anew v i (truth b) = truth b
worth_anew v i trivial = trivial
worth_anew v i (decimal x) = decimal x

unfoldable mutual
  pub anew : (ℕ → ℕ) → Exp → Exp
  anew v (name i x) = name i x
  anew v (literal i l) = literal i (worth_anew v i l)
  anew v (unary i o e) = unary i o (anew v e)
  anew v (binary i o e f) = binary i o (anew v e) (anew v f)
  anew v (follow i e f) = follow i (anew v e) (anew v f)
  anew v (group i e) = group i (anew v e)
  anew v (block i e) = block i (anew v e)
  anew v (call i x es) = call i x (all_anew v es)
  anew v (bind i x e f) = bind i x (anew v e) (anew v f)
  anew v (branch i c e f) = branch i (anew v c) (anew v e) (anew v f)
  anew v (loop i c e) = loop i (anew v c) (anew v e)
  anew v (counted i x b es e) = counted i x b (all_anew v es) (anew v e)

  pub all_anew : (ℕ → ℕ) → Exps → Exps
  all_anew v last = last
  all_anew v (more e es) = more (anew v e) (all_anew v es)

-- ---- a tree whose numbers are already worth that

module _ {ts : List Token} where
  literal_same : {i : ℕ} {l : Literal} → OwnedLiteral ts i l → worth_anew (value_at ts) i l ≡ l
  unfolding worth_anew
  literal_same (owned_whole a e) = ap whole (sym e)
  literal_same owned_truth = refl
  literal_same owned_trivial = refl
  literal_same (owned_decimal a e) = refl

  mutual
    unfolding anew

    pub anew_same : {e : Exp} → Owned ts e → anew (value_at ts) e ≡ e
    anew_same (owned_name a e) = refl
    anew_same (owned_literal {i} o) = ap (literal i) (literal_same o)
    anew_same (owned_unary p) = cc (anew_same p)
    anew_same (owned_binary p q) = cc (anew_same p, anew_same q)
    anew_same (owned_follow p q) = cc (anew_same p, anew_same q)
    anew_same (owned_group p) = cc (anew_same p)
    anew_same (owned_block p) = cc (anew_same p)
    anew_same (owned_call a e p) = cc (all_same p)
    anew_same (owned_bind a e p q) = cc (anew_same p, anew_same q)
    anew_same (owned_branch p q r) = cc (anew_same p, anew_same q, anew_same r)
    anew_same (owned_loop p q) = cc (anew_same p, anew_same q)
    anew_same (owned_counted a e p q) = cc (all_same p, anew_same q)

    all_same : {es : Exps} → OwnedAll ts es → all_anew (value_at ts) es ≡ es
    all_same owned_last = refl
    all_same (owned_more p q) = cc (anew_same p, all_same q)

-- ---- rows

-- no constant is a number
not_whole : Literal → Bool
not_whole (whole n) = false
not_whole (truth b) = true
not_whole trivial = true
not_whole (decimal x) = true

plain : Shape → Bool
unfolding not_whole
plain a_name = true
plain a_number = true
plain a_float = true
plain (a_constant l) = not_whole l
plain (a_unary o) = true
plain (a_binary o) = true
plain a_follow = true
plain a_group = true
plain a_block = true
plain a_call = true
plain a_let = true
plain an_if = true
plain a_while = true
plain (a_for b) = true

all_plain : (k : ℕ) {s : Shape} → shape_of k ≡ some s → T (plain s)
unfolding shape_of every plain not_whole
all_plain k e = entry_passes (λ c s. plain s) shapes k tt e

constant_same : (v : ℕ → ℕ) (i : ℕ) (l : Literal) → T (not_whole l) → l ≡ worth_anew v i l
unfolding worth_anew not_whole
constant_same v i (whole n) t = absurd t
constant_same v i (truth b) t = refl
constant_same v i trivial t = refl
constant_same v i (decimal x) t = refl

-- what two tables and what they stand for have in common
pub record Rows (ts ts' : List Token) (w w' : List ℕ) : Type 0 where
  pub kinds : (i : ℕ) → kind_at ts' i ≡ kind_at ts i
  pub spellings : (i : ℕ) → spelling_at ts' i ≡ spelling_at ts i
  pub rows : (i k : ℕ) → row_word w' i k ≡ row_word w i k

module _ {ts ts' : List Token} {w w' : List ℕ} (same : Rows ts ts' w w') (v : ℕ → ℕ) (worth : (i : ℕ) → value_at ts' i ≡ v i) where
  build_anew : (s : Shape) → T (plain s) → (i : ℕ) (a b c : Exp) (es : Exps)
      → build ts' s i (anew v a) (anew v b) (anew v c) (all_anew v es) ≡ anew v (build ts s i a b c es)
  unfolding build anew worth_anew plain
  build_anew a_name t i a b c es = ap (name i) (same.spellings i)
  build_anew a_number t i a b c es = ap (λ n. literal i (whole n)) (worth i)
  build_anew a_float t i a b c es = ap (λ x. literal i (decimal (float_of x))) (same.spellings i)
  build_anew (a_constant l) t i a b c es = ap (literal i) (constant_same v i l t)
  build_anew (a_unary o) t i a b c es = refl
  build_anew (a_binary o) t i a b c es = refl
  build_anew a_follow t i a b c es = refl
  build_anew a_group t i a b c es = refl
  build_anew a_block t i a b c es = refl
  build_anew a_call t i a b c es = ap (λ x. call i x (all_anew v es)) (same.spellings i)
  build_anew a_let t i a b c es = ap (λ x. bind i x (anew v a) (anew v b)) (same.spellings (i + 1))
  build_anew an_if t i a b c es = refl
  build_anew a_while t i a b c es = refl
  build_anew (a_for r) t i a b c es = ap (λ x. counted i x r (all_anew v es) (anew v b)) (same.spellings (i + 1))

  some_anew : (k : ℕ) (o : Option Shape) → shape_of k ≡ o → (i : ℕ) (a b c : Exp) (es : Exps)
      → build_if ts' o i (anew v a) (anew v b) (anew v c) (all_anew v es) ≡ anew v (build_if ts o i a b c es)
  unfolding build_if anew worth_anew
  some_anew k none e i a b c es = refl
  some_anew k (some s) e i a b c es = build_anew s (all_plain k e) i a b c es

  mutual
    unfolding tree_at anew worth_anew

    -- the tree of a row
    pub tree_anew : (f i : ℕ) → tree_at f ts' w' i ≡ anew v (tree_at f ts w i)
    tree_anew zero i = refl
    tree_anew (suc f) i =
        rw (same.rows i 0, same.rows i 1, same.rows i 2, same.rows i 3, same.rows i 4)
        (rw (tree_anew f (row_word w i 2), tree_anew f (row_word w i 3), tree_anew f (row_word w i 4), args_anew f (row_word w i 2))
        (some_anew (row_word w i 0) (shape_of (row_word w i 0)) refl (row_word w i 1) _ _ _ _))

    args_anew : (f i : ℕ) → args_at f ts' w' i ≡ all_anew v (args_at f ts w i)
    args_anew zero i = refl
    args_anew (suc f) i =
        rw (same.rows i 2, same.rows i 3, tree_anew f (row_word w i 2), args_anew f (row_word w i 3)) (by (eqb i 0) _ _)
      where
        by : (z : Bool) (e : Exp) (es : Exps)
            → cond z last (more (anew v e) (all_anew v es)) ≡ all_anew v (cond z last (more e es))
        by true e es = refl
        by false e es = refl

-- ---- rows that are whole

module _ {ts ts' : List Token} {w w' : List ℕ} (same : Rows ts ts' w w') where
  mutual
    unfolding Right

    pub right_anew : (f i : ℕ) → Right f ts w i → Right f ts' w' i
    right_anew zero i r = r
    right_anew (suc f) i r =
        let e₀ = same.rows i 0 in
        let e₁ = same.rows i 1 in
        let e₂ = same.rows i 2 in
        let e₃ = same.rows i 3 in
        let e₄ = same.rows i 4 in
        record {
          inside = r.inside;
          shape = r.shape;
          known = rw e₀ r.known;
          named = λ k. rw e₁ (same.kinds _ ∙ r.named (sym e₀ ∙ k));
          valued = λ k. rw e₁ (same.kinds _ ∙ r.valued (sym e₀ ∙ k));
          pointed = λ k. rw e₁ (same.kinds _ ∙ r.pointed (sym e₀ ∙ k));
          called = λ k. rw e₁ (same.kinds _ ∙ r.called (sym e₀ ∙ k));
          bound = λ k. rw e₁ (same.kinds _ ∙ r.bound (sym e₀ ∙ k));
          first = λ k. let p = r.first k in rw e₂ (p.0, right_anew f _ p.1);
          second = λ k. let p = r.second k in rw e₃ (p.0, right_anew f _ p.1);
          third = λ k. let p = r.third k in rw e₄ (p.0, right_anew f _ p.1);
          args = λ k. let p = r.args (sym e₀ ∙ k) in rw e₂ (p.0, rights_anew f _ p.1);
          loops = λ k.
              let p = r.loops (ap counts (sym e₀) ∙ k) in
              record {
                named = rw e₁ (same.kinds _ ∙ p.named);
                bounds = rw e₂ (p.bounds.0, rights_anew f _ p.bounds.1);
                body = rw e₃ (p.body.0, right_anew f _ p.body.1);
              };
        }

    rights_anew : (f i : ℕ) → RightArgs f ts w i → RightArgs f ts' w' i
    rights_anew zero i r = r
    rights_anew (suc f) i r = λ h.
        let a = r h in
        record {
          inside = a.inside;
          exp = rw (same.rows i 2) (a.exp.0, right_anew f _ a.exp.1);
          next = rw (same.rows i 3) (a.next.0, rights_anew f _ a.next.1);
        }
