-- A node by its shape: where the own tokens of its parts lie, and when it is placed, once its parts are.
use mathlib.Core.Bool.{true}
use mathlib.Core.List.{List, ◌∷◌}
use mathlib.Core.Path.{◌≡◌, refl, subst}
use Prim.Native.Nat.{ℕ, ◌+◌, ◌≤◌, ◌<◌}
use native.Mathlib.Omega.{arith}
use Rattle.language.specs.Tokens.{Token, NAME}
use Rattle.language.specs.Trees.{Binary, add, sub, mul, div, less, equal, and, or, assign, Exp, Exps}
use Rattle.layout.specs.Table.{token_value}
use Rattle.layout.specs.Rows.{CALL, binary_kind}
use Rattle.layout.specs.Decode.{Shape, a_name, a_number, a_float, a_follow, a_group, a_block, a_call, a_let, an_if, a_while, a_constant}
use Rattle.layout.specs.Decode.{a_unary, a_binary, a_for, children, counts, build}
use Rattle.layout.specs.Slots.{HELD}
use Rattle.layout.specs.Resolved.{Placed}
use Rattle.layout.proofs.Shapes.{shape_kind, range_counts, Parted, is_name, is_number, is_float, is_constant, is_call, is_for, is_unary}
use Rattle.layout.proofs.Shapes.{is_group, is_block, is_binary, is_follow, is_let, is_while, is_if}
use Rattle.resolver.specs.Spans.{Spans}
use Rattle.resolver.specs.Resolves.{sees}
use Rattle.resolver.proofs.Spanning.{nonempty, widen}

-- ---- where the parts lie

-- the first from a up to m, the second from there up to n, the third from there on
pub record Cuts (s : Shape) (a b i : ℕ) (x y z : Exp) : Type 0 where
  pub m : ℕ
  pub n : ℕ
  pub low : m ≤ n
  pub high : n ≤ b
  pub first : Spans a x m
  pub second : 2 ≤ children s → Spans m y n
  pub third : 3 ≤ children s → Spans n z b
  pub behind : 2 ≤ children s → i + 1 < b

module _ (ts : List Token) (i : ℕ) (x y z : Exp) (es : Exps) {a b : ℕ} where
  one_cut : (s : Shape) → children s ≡ 1 → a ≤ i → Spans (i + 1) x b → Cuts s a b i x y z
  one_cut s e l h = record {
    m = b;
    n = b;
    low = omega arith;
    high = omega arith;
    first = widen x h (omega arith) (omega arith);
    second = λ k. absurd (omega arith);
    third = λ k. absurd (omega arith);
    behind = λ k. absurd (omega arith);
  }

  -- two, the first of which stands before the node's token, or both behind it
  around_cut : (s : Shape) → children s ≡ 2 → Spans a x i → Spans (i + 1) y b → Cuts s a b i x y z
  around_cut s e g h =
      let l = nonempty y h in
      record {
        m = i;
        n = b;
        low = omega arith;
        high = omega arith;
        first = g;
        second = λ k. widen y h (omega arith) (omega arith);
        third = λ k. absurd (omega arith);
        behind = λ k. l;
      }

  two_cut : (s : Shape) (m : ℕ) → children s ≡ 2 → a ≤ i → Spans (i + 1) x m → Spans m y b → Cuts s a b i x y z
  two_cut s m e l g h =
      let o = nonempty y h in
      let p = nonempty x g in
      record {
        m = m;
        n = b;
        low = omega arith;
        high = omega arith;
        first = widen x g (omega arith) (omega arith);
        second = λ k. h;
        third = λ k. absurd (omega arith);
        behind = λ k. omega arith;
      }

  pub cuts : (s : Shape) → 1 ≤ children s → Spans a (build ts s i x y z es) b → Cuts s a b i x y z
  unfolding Spans build
  cuts a_name l h = absurd (omega arith)
  cuts a_number l h = absurd (omega arith)
  cuts a_float l h = absurd (omega arith)
  cuts (a_constant c) l h = absurd (omega arith)
  cuts a_call l h = absurd (omega arith)
  cuts (a_for r) l h = absurd (omega arith)
  cuts (a_unary o) l h = one_cut (a_unary o) refl h.0 h.1
  cuts a_group l h = one_cut a_group refl h.0 h.1
  cuts a_block l h = one_cut a_block refl h.0 h.1
  cuts (a_binary o) l h = around_cut (a_binary o) refl h.0 h.1
  cuts a_follow l h = around_cut a_follow refl h.0 h.1
  cuts a_let l h = let p = h.1 in two_cut a_let p.0 refl h.0 p.1 p.2
  cuts a_while l h = let p = h.1 in two_cut a_while p.0 refl h.0 p.1 p.2
  cuts an_if l h =
      let p = h.1.1 in
      let q = nonempty x p.1 in
      let r = nonempty y p.2 in
      let s = nonempty z p.3 in
      record {
        m = h.1.0;
        n = p.0;
        low = omega arith;
        high = omega arith;
        first = widen x p.1 (omega (arith, h.0)) (omega arith);
        second = λ k. p.2;
        third = λ k. p.3;
        behind = λ k. omega arith;
      }

-- ---- when it is placed

binary_sees : (o : Binary) (x : ℕ) (L : List ℕ) → sees (binary_kind o) x L ≡ HELD ∷ L
unfolding sees binary_kind
binary_sees add x L = refl
binary_sees sub x L = refl
binary_sees mul x L = refl
binary_sees div x L = refl
binary_sees less x L = refl
binary_sees equal x L = refl
binary_sees and x L = refl
binary_sees or x L = refl
binary_sees assign x L = refl

module _ (ts : List Token) (w t : List ℕ) (defs i : ℕ) (x y z : Exp) (es : Exps) (L : List ℕ) where
  abbrev Node : Shape → Type 0
  Node s = Placed w t defs L (build ts s i x y z es)

  pub leaf_placed : (s : Shape) → Parted s 0 → (shape_kind s ≡ NAME → ⊥) → (shape_kind s ≡ CALL → ⊥) → (counts (shape_kind s) ≡ true → ⊥) → Node s
  unfolding Placed build shape_kind
  leaf_placed s is_name p q r = absurd (p refl)
  leaf_placed s is_number p q r = tt
  leaf_placed s is_float p q r = tt
  leaf_placed s is_constant p q r = tt
  leaf_placed s is_call p q r = absurd (q refl)
  leaf_placed s (is_for {b}) p q r = absurd (r (range_counts b))

  pub one_placed : (s : Shape) → Parted s 1 → Placed w t defs L x → Node s
  unfolding Placed build
  one_placed s is_unary p = p
  one_placed s is_group p = p
  one_placed s is_block p = p

  pub two_placed : (s : Shape) → Parted s 2 → Placed w t defs L x → Placed w t defs (sees (shape_kind s) (token_value w (i + 1)) L) y → Node s
  unfolding Placed build shape_kind sees
  two_placed s (is_binary {o}) p q = (p, subst (λ (M : List ℕ). Placed w t defs M y) (binary_sees o _ L) q)
  two_placed s is_follow p q = (p, q)
  two_placed s is_let p q = (p, q)
  two_placed s is_while p q = (p, q)

  pub three_placed : (s : Shape) → Parted s 3 → Placed w t defs L x → Placed w t defs (sees (shape_kind s) (token_value w (i + 1)) L) y
      → Placed w t defs L z → Node s
  unfolding Placed build shape_kind sees
  three_placed s is_if p q r = (p, q, r)
