-- The slots that a part sees: what is written before a node's second part, before the body of a `for` and before that of
-- a function.
use mathlib.Core.Bool.{Bool, true, false, cond}
use mathlib.Core.List.{List, ◌∷◌}
use Rattle.std.specs.Prelude.{Some}
use Rattle.std.proofs.lemmas.Option.{same_Some}
use mathlib.Core.Logic.{◌⊎◌, inl, inr}
use mathlib.Core.Path.{◌≡◌, refl, sym, ap, ap₂, subst, ◌∙◌}
use Prim.Native.Nat.{ℕ, zero, suc, ◌+◌, ◌≤◌, ◌<◌}
use native.Mathlib.Numerals.{add-one}
use native.Mathlib.Omega.{arith}
use borrow.Author.Tests.{ne_eqb}
use lib.Dec.{eqb}
use lib.ListN.{length}
use Rattle.language.specs.Sizes.{TOKENS, NODES, TABLE}
use Rattle.language.specs.Tokens.{LET, SEMI, WHILE, IF}
use Rattle.layout.specs.Table.{OWN, token_value, row_word, function_row}
use Rattle.layout.specs.Functions.{function_name, Headed, find_function}
use Rattle.layout.specs.Slots.{HELD}
use Rattle.layout.specs.Notes.{put_name, put_note, names_in}
use Rattle.layout.specs.Resolved.{slot_of, parameters_in}
use Rattle.resolver.specs.Resolves.{Wrote, sees, Between, Entered, Binding, Bound}
use Rattle.resolver.proofs.Writing.{wrote_none, wrote_then, wrote_name, names_put, row_alike, token_alike}

-- ---- a node's second part

module _ (kind x : ℕ) (L : List ℕ) where
  sees_let : kind ≡ LET → sees kind x L ≡ x ∷ L
  unfolding sees
  sees_let e = rw e refl

  sees_semi : kind ≡ SEMI → sees kind x L ≡ L
  unfolding sees
  sees_semi e = rw e refl

  sees_while : kind ≡ WHILE → sees kind x L ≡ L
  unfolding sees
  sees_while e = rw e refl

  sees_if : kind ≡ IF → sees kind x L ≡ L
  unfolding sees
  sees_if e = rw e refl

  sees_held : (kind ≡ LET → ⊥) → (kind ≡ SEMI → ⊥) → (kind ≡ WHILE → ⊥) → (kind ≡ IF → ⊥) → sees kind x L ≡ HELD ∷ L
  unfolding sees
  sees_held a b c d = rw (ne_eqb _ _ a, ne_eqb _ _ b, ne_eqb _ _ c, ne_eqb _ _ d) refl

level_by : (t : List ℕ) (node kind size : ℕ)
    → sees kind (token_value t (row_word t node OWN + 1)) (names_in t size) ≡ names_in t size → Between t t node kind size size
level_by t node kind size s = record { wrote = wrote_none t 0 0 size; names = sym s; more = omega arith; few = omega arith }

pub level : (t : List ℕ) (node kind size : ℕ) → (kind ≡ WHILE) ⊎ ((kind ≡ IF) ⊎ (kind ≡ SEMI)) → Between t t node kind size size
level t node kind size (inl e) = level_by t node kind size (sees_while kind _ _ e)
level t node kind size (inr (inl e)) = level_by t node kind size (sees_if kind _ _ e)
level t node kind size (inr (inr e)) = level_by t node kind size (sees_semi kind _ _ e)

module _ (t u : List ℕ) (node kind size x : ℕ) (long : TABLE ≤ length t) (few : size < TOKENS) (is : u ≡ put_name t size x) where
  bound_by : sees kind (token_value t (row_word t node OWN + 1)) (names_in t size) ≡ x ∷ names_in t size
      → Between t u node kind size (size + 1)
  bound_by s = record {
    wrote = subst (λ (v : List ℕ). Wrote t v 0 0 size) (sym is) (wrote_name t size x size (omega arith) few);
    names = ap (λ (v : List ℕ). names_in v (size + 1)) is ∙ names_put t size x long few ∙ sym s;
    more = omega arith;
    few = omega arith;
  }

  pub let_bound : (i : ℕ) → kind ≡ LET → i ≡ row_word t node OWN → x ≡ token_value t (i + 1) → Between t u node kind size (size + 1)
  let_bound i e o v =
      bound_by
      (sees_let kind _ _ e
      ∙ ap (λ (z : ℕ). z ∷ names_in t size) (sym (v ∙ ap (λ (z : ℕ). token_value t (z + 1)) o)))

  pub held_bound : x ≡ HELD → (kind ≡ LET → ⊥) → (kind ≡ SEMI → ⊥) → (kind ≡ WHILE → ⊥) → (kind ≡ IF → ⊥)
      → Between t u node kind size (size + 1)
  held_bound e a b c d =
      bound_by (sees_held kind _ _ a b c d ∙ ap (λ (z : ℕ). z ∷ names_in t size) (sym e))

-- ---- the body of a `for`

module _ (t u v x : List ℕ) (node size i n : ℕ) (long : TABLE ≤ length t) (few : size + 2 < TOKENS) (own : i ≡ row_word t node OWN)
    (name : n ≡ token_value t (i + 1)) (p : u ≡ put_name t size n) (q : v ≡ put_name u (size + 1) HELD) (r : x ≡ put_name v (size + 2) HELD)
  where
    wrote_u : Wrote t u 0 0 size
    wrote_u = subst (λ (z : List ℕ). Wrote t z 0 0 size) (sym p) (wrote_name t size n size (omega arith) (omega arith))

    wrote_v : Wrote u v 0 0 (size + 1)
    wrote_v = subst (λ (z : List ℕ). Wrote u z 0 0 (size + 1)) (sym q) (wrote_name u (size + 1) HELD (size + 1) (omega arith) (omega arith))

    wrote_uv : Wrote t v 0 0 size
    wrote_uv = wrote_then wrote_u wrote_v (omega arith) (λ i y z. absurd (omega arith)) (λ i y z. absurd (omega arith))

    wrote_x : Wrote v x 0 0 (size + 2)
    wrote_x = subst (λ (z : List ℕ). Wrote v z 0 0 (size + 2)) (sym r) (wrote_name v (size + 2) HELD (size + 2) (omega arith) (omega arith))

    names_u : names_in u (size + 1) ≡ n ∷ names_in t size
    names_u = ap (λ (z : List ℕ). names_in z (size + 1)) p ∙ names_put t size n long (omega arith)

    names_v : names_in v (size + 1 + 1) ≡ HELD ∷ names_in u (size + 1)
    names_v = ap (λ (z : List ℕ). names_in z (size + 1 + 1)) q ∙ names_put u (size + 1) HELD (omega (arith, wrote_u.long)) (omega arith)

    two : (size + 2) ≡ size + 1 + 1
    two = omega arith

    three : (size + 3) ≡ size + 2 + 1
    three = omega arith

    names_x : names_in x (size + 2 + 1) ≡ HELD ∷ names_in v (size + 2)
    names_x =
        ap (λ (z : List ℕ). names_in z (size + 2 + 1)) r
        ∙ names_put v (size + 2) HELD (omega (arith, wrote_u.long, wrote_v.long)) (omega arith)

    pub entered : Entered t x node size
    entered = record {
      wrote = wrote_then wrote_uv wrote_x (omega arith) (λ i y z. absurd (omega arith)) (λ i y z. absurd (omega arith));
      names = ap (names_in x) three ∙ names_x
          ∙ ap (λ (M : List ℕ). HELD ∷ M) (ap (names_in v) two ∙ names_v ∙ ap (λ (M : List ℕ). HELD ∷ M)
          (names_u ∙ ap (λ (z : ℕ). z ∷ names_in t size) (name ∙ ap (λ (z : ℕ). token_value t (z + 1)) own)));
    }

-- ---- the parameters of a function

-- the first i of them are bound
pub record Taken (t u : List ℕ) (row count i : ℕ) : Type 0 where
  pub few : i ≤ count
  pub wrote : Wrote t u 0 0 0
  pub names : names_in u i ≡ parameters_in t row i

pub taken_none : (t : List ℕ) (row count : ℕ) → Taken t t row count 0
unfolding names_in parameters_in
taken_none t row count = record { few = omega arith; wrote = wrote_none t 0 0 0; names = refl }

module _ {t u : List ℕ} {row count i : ℕ} (b : Binding t row count) (h : Taken t u row count i) (l : i < count) where
  pub taken_long : TABLE ≤ length u
  taken_long = omega (arith, b.long, h.wrote.long)

  pub taken_own : (o : ℕ) → o ≡ row_word u (row + 1 + i) OWN → o ≡ row_word t (row + 1 + i) OWN
  taken_own o e = e ∙ row_alike h.wrote.alike (row + 1 + i) OWN (omega (arith, b.inside)) (omega arith)

  pub taken_token : (o : ℕ) → o ≡ row_word u (row + 1 + i) OWN → o < TOKENS
  taken_token o e = omega (arith, taken_own o e, b.names i l)

  pub taken_more : (v : List ℕ) (o x : ℕ) → o ≡ row_word u (row + 1 + i) OWN → x ≡ token_value u o → v ≡ put_name u i x → Taken t v row count (i + 1)
  unfolding parameters_in
  taken_more v o x e y p =
      let few : i < TOKENS = omega (arith, b.inside) in
      record {
        few = omega arith;
        wrote =
            wrote_then h.wrote (subst (λ (z : List ℕ). Wrote u z 0 0 0) (sym p) (wrote_name u i x 0 (omega arith) few)) (omega arith)
            (λ i y z. absurd (omega arith)) (λ i y z. absurd (omega arith));
        names =
            ap (λ (z : List ℕ). names_in z (i + 1)) p ∙ names_put u i x taken_long few
            ∙ rw (add-one i)
            (ap₂ ◌∷◌
            (y ∙ token_alike h.wrote.alike o (taken_token o e) ∙ ap (λ (z : ℕ). token_value t z) (taken_own o e))
            h.names);
      }

pub taken_all : {t u : List ℕ} {row count i : ℕ} → Taken t u row count i → count ≤ i → Bound t u row count
taken_all {t} {u} {row} {count} {i} h l =
    let e : i ≡ count = omega (arith, h.few, l) in
    record { wrote = h.wrote; names = subst (λ (k : ℕ). names_in u k ≡ parameters_in t row k) e h.names }

-- ---- the function that a call means

pub found_inside : (t : List ℕ) (x defs : ℕ) {r : ℕ} → ((k : ℕ) → k < defs → Headed t k) → find_function t x defs ≡ Some r → r < NODES
unfolding find_function
found_inside t x zero h e = cc
found_inside t x (suc n) {r} h e = go (eqb x (function_name t n)) e (λ d. found_inside t x n (λ k l. h k (omega arith)) d)
  where
    go : (b : Bool) → cond b (Some (function_row t n)) (find_function t x n) ≡ Some r → (find_function t x n ≡ Some r → r < NODES) → r < NODES
    go true d before = omega (arith, (h n (omega arith)).row, same_Some _ _ d)
    go false d before = before d

-- ---- a name

pub name_noted : (t u : List ℕ) (node size i x s : ℕ) → i ≡ row_word t node OWN → x ≡ token_value t i → s ≡ slot_of x (names_in t size)
    → u ≡ put_note t i s
    → u ≡ put_note t (row_word t node OWN) (slot_of (token_value t (row_word t node OWN)) (names_in t size))
name_noted t u node size i x s p q r e =
    e ∙ ap₂ (λ (k y : ℕ). put_note t k y) p (r ∙ ap (λ (z : ℕ). slot_of z (names_in t size)) (q ∙ ap (λ (k : ℕ). token_value t k) p))
