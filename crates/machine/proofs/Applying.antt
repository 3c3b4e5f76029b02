-- Operators: by the kind of its row each does what the meaning does with its operands.
use mathlib.Core.Path.{◌≡◌, refl, sym, ap, subst, ◌∙◌}
use mathlib.Core.Bool.{Bool, true, false, not, cond}
use mathlib.Core.List.{List}
use mathlib.Core.Option.{none, some}
use Prim.Native.Nat.{ℕ, ◌+◌}
use lib.Dec.{eqb}
use lib.IntN.{ℤ, neg_ℤ}
use borrow.Author.Tests.{ne_eqb}
use Rattle.language.specs.Tokens.{PLUS, MINUS, STAR, SLASH, AND, OR, LESS, BECOMES, NOT, BANG}
use Rattle.language.specs.Trees.{Unary, minus, fetch, new, Binary, assign}
use Rattle.language.specs.State as M
use Rattle.language.specs.State.{cell, as_int, as_bool, as_cell, has, when_some}
use Rattle.language.specs.Meaning.{apply_unary, settles}
use Rattle.language.proofs.Meaning.CellTypes.{cond_all}
use Rattle.layout.specs.Rows.{PREFIX}
use Rattle.layout.specs.declared.values.Value.TheVariants.{Flag}
use Rattle.machine.specs.Rows.{unary_of, binary_of}
use Rattle.machine.specs.Outcomes.{tells, memory, Fitted, Answered}
use Rattle.machine.specs.declared.state.Tally.{Tally}
use Rattle.machine.specs.Outcomes.{Outcome}
use Rattle.std.specs.Prelude.{Ok}
use Rattle.machine.proofs.Telling.{tells_same, want_some, want_none}

-- ---- one operand

module _ (op : ℕ) (v : M.Value) (w : List ℕ) (s : Tally) where
  abbrev Applies : Outcome → Type 0
  Applies r = Answered (λ i σ. apply_unary i (unary_of op) v σ) w s r

  by_unary : {u : Unary} → unary_of op ≡ u → (r : Outcome) → Answered (λ i σ. apply_unary i u v σ) w s r → Applies r
  by_unary e r h = subst (λ (x : Unary). Answered (λ i σ. apply_unary i x v σ) w s r) (sym e) h

  is_minus : op ≡ PREFIX + MINUS → unary_of op ≡ minus
  unfolding unary_of
  is_minus e = rw e refl

  minus_right : {x : ℤ} (r : Outcome) → some x ≡ as_int v → Fitted (neg_ℤ x) r → Answered (λ i σ. apply_unary i minus v σ) w s r
  unfolding apply_unary
  minus_right r e h i o = want_some (as_int v) _ e (tells_same (h i (memory w o s)))

  -- - of a number
  pub applies_minus : op ≡ PREFIX + MINUS → {x : ℤ} (r : Outcome) → some x ≡ as_int v → Fitted (neg_ℤ x) r → Applies r
  applies_minus d r e h = by_unary (is_minus d) r (minus_right r e h)

  minus_none : none ≡ as_int v → (r : Outcome) → Answered (λ i σ. apply_unary i minus v σ) w s r
  unfolding apply_unary
  minus_none e r i o = want_none (as_int v) _ e

  -- - of something else
  pub stuck_minus : op ≡ PREFIX + MINUS → (r : Outcome) → none ≡ as_int v → Applies r
  stuck_minus d r e = by_unary (is_minus d) r (minus_none e r)

  is_not : op ≡ PREFIX + NOT → unary_of op ≡ Unary.not
  unfolding unary_of
  is_not e = rw e refl

  not_right : (b : Bool) → some b ≡ as_bool v → Answered (λ i σ. apply_unary i Unary.not v σ) w s (Ok (Flag (not b)))
  unfolding apply_unary
  not_right b e i o = want_some (as_bool v) _ e tells

  -- not of a truth
  pub applies_not : op ≡ PREFIX + NOT → (b : Bool) → some b ≡ as_bool v → Applies (Ok (Flag (not b)))
  applies_not d b e = by_unary (is_not d) (Ok (Flag (not b))) (not_right b e)

  not_none : none ≡ as_bool v → (r : Outcome) → Answered (λ i σ. apply_unary i Unary.not v σ) w s r
  unfolding apply_unary
  not_none e r i o = want_none (as_bool v) _ e

  -- not of something else
  pub stuck_not : op ≡ PREFIX + NOT → (r : Outcome) → none ≡ as_bool v → Applies r
  stuck_not d r e = by_unary (is_not d) r (not_none e r)

  last_unary : (b : Bool) → (cond b fetch new ≡ new → ⊥) → cond b fetch new ≡ fetch
  last_unary true h = refl
  last_unary false h = absurd (h refl)

  -- none of these, and not `ref`
  is_fetch : (op ≡ PREFIX + MINUS → ⊥) → (op ≡ PREFIX + NOT → ⊥) → (unary_of op ≡ new → ⊥) → unary_of op ≡ fetch
  unfolding unary_of
  is_fetch a b c =
      let e : unary_of op ≡ cond (eqb op (PREFIX + BANG)) fetch new = rw (ne_eqb op (PREFIX + MINUS) a, ne_eqb op (PREFIX + NOT) b) refl in
      e ∙ last_unary (eqb op (PREFIX + BANG)) (λ q. c (e ∙ q))

  fetch_right : {n : ℕ} (r : Outcome) → some n ≡ as_cell v → Answered (λ i σ. apply_unary i fetch (cell n) σ) w s r
      → Answered (λ i σ. apply_unary i fetch v σ) w s r
  unfolding apply_unary when_some
  fetch_right r e h i o = want_some (as_cell v) _ e (h i o)

  module _ (a : op ≡ PREFIX + MINUS → ⊥) (b : op ≡ PREFIX + NOT → ⊥) (c : unary_of op ≡ new → ⊥) where
    -- ! of a cell
    pub applies_fetch : {n : ℕ} (r : Outcome) → some n ≡ as_cell v → Answered (λ i σ. apply_unary i fetch (cell n) σ) w s r → Applies r
    applies_fetch r e h = by_unary (is_fetch a b c) r (fetch_right r e h)

    fetch_none : none ≡ as_cell v → (r : Outcome) → Answered (λ i σ. apply_unary i fetch v σ) w s r
    unfolding apply_unary
    fetch_none e r i o = want_none (as_cell v) _ e

    -- ! of something else
    pub stuck_fetch : (r : Outcome) → none ≡ as_cell v → Applies r
    stuck_fetch r e = by_unary (is_fetch a b c) r (fetch_none e r)

-- ---- whether the left side settles it

-- && by a truth
pub settles_and : (op : ℕ) → op ≡ AND → (v : M.Value) (b : Bool) → some b ≡ as_bool v → not b ≡ settles (binary_of op) v
unfolding settles binary_of
settles_and op e v b h = rw e (ap (λ x. has x not) h)

-- || by a truth
pub settles_or : (op : ℕ) → op ≡ OR → (v : M.Value) (b : Bool) → some b ≡ as_bool v → b ≡ settles (binary_of op) v
unfolding settles binary_of
settles_or op e v b h = rw e (ap (λ x. has x λ c. c) h)

-- every other operator has a property where these have
by_kind : (P : Binary → Type 0) (op : ℕ) → (op ≡ AND → ⊥) → (op ≡ OR → ⊥) → P assign → P Binary.add → P Binary.sub → P Binary.mul → P Binary.div
    → P Binary.less → P Binary.equal → P (binary_of op)
unfolding binary_of
by_kind P op h g a p m t d l e =
    rw (ne_eqb op AND h, ne_eqb op OR g)
    (cond_all P (eqb op BECOMES) (λ _. a) λ _.
    cond_all P (eqb op PLUS) (λ _. p) λ _.
    cond_all P (eqb op MINUS) (λ _. m) λ _.
    cond_all P (eqb op STAR) (λ _. t) λ _.
    cond_all P (eqb op SLASH) (λ _. d) λ _.
    cond_all P (eqb op LESS) (λ _. l) λ _. e)

-- another operator
pub settles_no : (op : ℕ) → (op ≡ AND → ⊥) → (op ≡ OR → ⊥) → (v : M.Value) → false ≡ settles (binary_of op) v
unfolding settles
settles_no op h g v = by_kind (λ o. false ≡ settles o v) op h g refl refl refl refl refl refl refl

-- no truth
pub settles_other : (o : Binary) (v : M.Value) → none ≡ as_bool v → false ≡ settles o v
unfolding settles
settles_other Binary.add v h = refl
settles_other Binary.sub v h = refl
settles_other Binary.mul v h = refl
settles_other Binary.div v h = refl
settles_other Binary.less v h = refl
settles_other Binary.equal v h = refl
settles_other Binary.and v h = ap (λ x. has x not) h
settles_other Binary.or v h = ap (λ x. has x λ c. c) h
settles_other assign v h = refl
