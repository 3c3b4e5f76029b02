-- The ways through `assign`, `un` and `atom`.
use mathlib.Core.Bool.{true, false}
use mathlib.Core.List.{List}
use Rattle.std.proofs.Common.{inl, inr, ◌⊎◌}
use mathlib.Core.Path.{◌≡◌, refl, sym, ap, ◌∙◌}
use Prim.Native.Nat.{ℕ, ◌+◌, ◌<◌}
use native.Mathlib.Omega.{arith}
use Rattle.language.specs.Tokens.{Means, kind_at, value_at, spelling_at, NAME, NUMBER, FLOAT_NUMBER, BECOMES, LPAR, RPAR, LBRACE, RBRACE}
use Rattle.language.specs.Decimals.{float_of}
use Rattle.language.specs.Trees.{whole, decimal, Binary, literal, unary, binary, group, block}
use Rattle.language.specs.Grammar.{prefixes, constants}
use Rattle.language.proofs.Executable.SettlesExpressions as S
use Rattle.layout.specs.Table.{kind_of, put_row}
use Rattle.layout.specs.Rows.{PREFIX, below, lay, literal_kind, binary_kind}
use Rattle.phrases.specs.Parts.{in_table, Yields, Halts, Written, Topped, Assign, Tier, Un, Atom, Until}
use Rattle.std.specs.Prelude.{Ok, Err}
use Rattle.phrases.specs.declared.parts.Failed.{Failed}
use Rattle.phrases.specs.declared.parts.Tree.{Tree}
use Rattle.phrases.specs.Words.{Part, tree_at, none_at}
use Rattle.phrases.proofs.Standing.{at, not_at, within}
use Rattle.phrases.proofs.RowKinds.{stands_for, stands_for_none, prefix_row, constant_row}
use Rattle.phrases.proofs.Answering.{known, back, handed, fails, fails_first, keeps, same, single, over_one, over_two}

module _ {count n f : ℕ} {w w₁ : List ℕ} where
  -- ---- assign

  -- no Or
  pub assign_none : {g : Part} {e : Failed} → Yields (Tier 1 n) count w n f g w₁ → g ≡ Err e → Yields (Assign n) count w n f g w₁
  assign_none a q = handed a q (λ b. fails_first b (λ ts s x. S.assign_failed x))

  -- an Or, and no `:=`
  pub assign_one : {g : Part} {t : Tree} → Yields (Tier 1 n) count w n f g w₁ → g ≡ Ok t → (kind_of w₁ count t.next ≡ BECOMES → ⊥)
      → Yields (Assign n) count w n f g w₁
  assign_one {t = t} b q h = let a = known b q in back (keeps a a.ahead (λ ts s v x p. S.assign_one p (not_at t.next v h))) q

  pub ruleset assign_ways = (assign_none, assign_one)

  module _ {r m k : ℕ} (a : Yields (Tier 1 n) count w n f (tree_at r m k) w₁) where
    -- an Or, `:=`, and another Or or none
    pub assign_to : {w₂ w₃ : List ℕ} {g z : Part} → kind_of w₁ count m ≡ BECOMES → Yields (Tier 1 (m + 1)) count w₁ (m + 1) k g w₂
        → Topped (λ u i j. put_row u i BECOMES m r j 0) (λ l. l) g w₂ z w₃ → Yields (Assign n) count w n f z w₃
    unfolding lay below binary_kind
    assign_to h b t =
        let d = a.ahead in
        over_two BECOMES m (λ ts. binary m Binary.assign) (λ ts v x y. (refl, refl))
        (λ ts s v x p. (λ y l q. S.assign_to p (at m v h) q, λ e q. S.assign_to p (at m v h) q))
        a b t (λ q l j o. record { least = omega arith; most = o.most; owned = omega arith; end = refl })

-- a number or a float number stands before the end
pub numeral_within : (w : List ℕ) (count n k : ℕ) → k ≡ kind_of w count n → (k ≡ NUMBER) ⊎ (k ≡ FLOAT_NUMBER) → n < count
numeral_within w count n k h (inl i) = within w count n NUMBER (sym h ∙ i) (omega arith)
numeral_within w count n k h (inr i) = within w count n FLOAT_NUMBER (sym h ∙ i) (omega arith)

-- ---- the first token decides, its kind being k

module _ {count n f k : ℕ} {w w₁ : List ℕ} (h : k ≡ kind_of w count n) where
  -- a prefix, and another Un or none
  pub un_prefix : {w₂ : List ℕ} {g z : Part} → in_table prefixes k ≡ true → Yields (Un (n + 1)) count w (n + 1) f g w₁
      → Topped (λ u i j. put_row u i (PREFIX + k) n j 0 0) (λ l. l) g w₁ z w₂ → Yields (Un n) count w n f z w₂
  unfolding lay below
  un_prefix i a t =
      let p = stands_for prefixes k i in
      over_one (PREFIX + k) n (λ l. l) (unary n p.0)
      (λ x. (refl, ap (λ (c : ℕ). put_row (lay w f x) (f + below x + 1) c n (f + below x) 0 0) (prefix_row k p.1)))
      (λ ts s.
      let q : Means ts n prefixes p.0 = rw (at n s (sym h)) p.1 in
      (λ x m y. S.un_prefix q y, λ e y. S.un_prefix q y))
      a t (λ j l c o. record { least = omega arith; most = o.most; owned = omega arith; end = refl })

  -- no prefix, and an Atom or none
  pub un_atom : {g : Part} → in_table prefixes k ≡ false → Yields (Atom n) count w n f g w₁ → Yields (Un n) count w n f g w₁
  un_atom {g} i a = same g a (λ ts s r x. S.un_atom (rw (at n s (sym h)) (stands_for_none prefixes k i)) x)

  -- a constant
  pub atom_constant : {g : Part} → in_table constants k ≡ true → n < count → Written f (n + 1) (put_row w f k n 0 0 0) w g w₁
      → Yields (Atom n) count w n f g w₁
  unfolding lay below
  atom_constant i l x =
      let p = stands_for constants k i in
      single k n (λ ts. literal n p.0)
      (λ ts s. (refl, ap (λ (c : ℕ). put_row w f c n 0 0 0) (constant_row k p.1), S.atom_constant (rw (at n s (sym h)) p.1)))
      x (omega arith) (omega arith)

  -- a number or a float number
  pub atom_numeral : {g : Part} → (k ≡ NUMBER) ⊎ (k ≡ FLOAT_NUMBER) → Written f (n + 1) (put_row w f k n 0 0 0) w g w₁
      → Yields (Atom n) count w n f g w₁
  unfolding lay below literal_kind
  atom_numeral (inl i) x =
      let l = numeral_within _ _ _ _ h (inl i) in
      single k n (λ ts. literal n (whole (value_at ts n)))
      (λ ts s. (refl, ap (λ (c : ℕ). put_row w f c n 0 0 0) (sym i), S.atom_number (at n s (sym h) ∙ i))) x (omega arith) (omega arith)
  atom_numeral (inr i) x =
      let l = numeral_within _ _ _ _ h (inr i) in
      single k n (λ ts. literal n (decimal (float_of (spelling_at ts n))))
      (λ ts s. (refl, ap (λ (c : ℕ). put_row w f c n 0 0 0) (sym i), S.atom_float (at n s (sym h) ∙ i))) x (omega arith) (omega arith)

  -- `(`, and a Seq with `)` or none
  pub atom_group : {w₂ : List ℕ} {g z : Part} → k ≡ LPAR → Halts (Until RPAR (n + 1)) count w (n + 1) f g w₁
      → Topped (λ u i j. put_row u i LPAR n j 0 0) (λ l. l + 1) g w₁ z w₂ → Yields (Atom n) count w n f z w₂
  unfolding lay below
  atom_group i a t =
      over_one LPAR n (λ l. l + 1) (group n) (λ x. (refl, refl))
      (λ ts s. (λ x l p. S.atom_group (at n s (sym h) ∙ i) p, λ e p. S.atom_group (at n s (sym h) ∙ i) p))
      a t (λ j l c o. record { least = omega arith; most = omega arith; owned = omega arith; end = refl })

  -- `{`, and a Seq with `}` or none
  pub atom_block : {w₂ : List ℕ} {g z : Part} → k ≡ LBRACE → Halts (Until RBRACE (n + 1)) count w (n + 1) f g w₁
      → Topped (λ u i j. put_row u i LBRACE n j 0 0) (λ l. l + 1) g w₁ z w₂ → Yields (Atom n) count w n f z w₂
  unfolding lay below
  atom_block i a t =
      over_one LBRACE n (λ l. l + 1) (block n) (λ x. (refl, refl))
      (λ ts s. (λ x l p. S.atom_block (at n s (sym h) ∙ i) p, λ e p. S.atom_block (at n s (sym h) ∙ i) p))
      a t (λ j l c o. record { least = omega arith; most = omega arith; owned = omega arith; end = refl })

-- no token that an Atom begins with
pub atom_other : {count n f k : ℕ} {w : List ℕ} → k ≡ kind_of w count n → in_table constants k ≡ false → (k ≡ NUMBER → ⊥)
    → (k ≡ FLOAT_NUMBER → ⊥) → (k ≡ NAME → ⊥) → (k ≡ LPAR → ⊥) → (k ≡ LBRACE → ⊥) → Yields (Atom n) count w n f (none_at n) w
atom_other {count} {n} {f} {k} {w} h i a p b c d = fails (λ ts s.
    let e : kind_at ts n ≡ k = s.kinds n ∙ sym h in
    S.atom_other (rw e (stands_for_none constants k i)) (λ x. a (sym e ∙ x)) (λ x. p (sym e ∙ x)) (λ x. b (sym e ∙ x)) (λ x. c (sym e ∙ x))
    (λ x. d (sym e ∙ x))) refl
