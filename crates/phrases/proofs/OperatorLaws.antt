-- The ways through `tier` and `rest`: operators are read by how tightly they bind, over an operand that is laid already.
use mathlib.Core.Bool.{Bool, true, false, cond}
use mathlib.Core.List.{List}
use mathlib.Core.Path.{◌≡◌, refl, sym, ap, subst, ◌∙◌}
use Rattle.std.specs.Prelude.{Ok, Err}
use Prim.Native.Nat.{ℕ, zero, suc, ◌+◌, ◌≤◌, ◌<◌}
use native.Mathlib.Decide.{ℕ_discrete}
use native.Mathlib.Omega.{arith}
use lib.Dec.{eqb}
use borrow.Author.Tests.{eqb-true}
use Rattle.language.specs.Sizes.{NODES}
use Rattle.language.specs.Tokens.{Token, entry, kind_at}
use Rattle.language.specs.Trees.{Binary, Exp, binary}
use Rattle.language.proofs.Executable.Parses.{Result, failed, got}
use Rattle.language.proofs.Executable.Climbing.{tightness, after as following, Joins, joins, joins_range, More}
use Rattle.language.proofs.Executable.Climbing.{climb_failed, climb_first, climb_stop, climb_short, climb_on}
use Rattle.layout.specs.Table.{kind_of, put_row, without_rows}
use Rattle.layout.specs.Names.{Stand}
use Rattle.layout.specs.Rows.{below, lay, binary_kind}
use Rattle.layout.proofs.TableLaws.{kind_within, without_put_row}
use Rattle.phrases.specs.Parts.{Room, Yields, Continues, Tier, Un}
use Rattle.phrases.specs.declared.parts.Failed.{Failed}
use Rattle.phrases.specs.Words.{Part, tree_at, none_at}
use Rattle.phrases.proofs.Standing.{stand_row}
use Rattle.phrases.proofs.RowKinds.{joins_row}
use Rattle.phrases.proofs.Answering.{handed, after, fails_first}

-- ---- numbers

-- no token past the last is an operator
some_kind : (k : ℕ) → 1 ≤ tightness k → 0 < k
unfolding tightness entry
some_kind zero h = absurd (omega arith)
some_kind (suc k) h = omega arith

-- a token of kind k that binds stands before the end, and binds no tighter than 6; none binds as tightly as 3
pub binding : (w : List ℕ) (count i k p : ℕ) → k ≡ kind_of w count i → p ≡ tightness k → 1 ≤ p → (i < count) × (p ≤ 6) × (p ≡ 3 → ⊥)
binding w count i k p h e l =
    let j = joins_range (joins k (omega arith)).1 in
    (kind_within w count i (omega (arith, some_kind k (omega arith))), omega arith, λ z. j.2 (omega arith))

-- what may follow an operator binds no looser than what may stand here
pub follows : (p v c : ℕ) → c ≡ following p → v ≤ p → (v ≡ 4 → ⊥) → p ≤ 6 → (v ≤ c) × (c ≤ 7)
follows p v c h a b d = go (eqb p 4) refl h
  where
    go : (t : Bool) → eqb p 4 ≡ t → c ≡ cond t 3 p → (v ≤ c) × (c ≤ 7)
    go true e q = let z = eqb-true p 4 e in (least (ℕ_discrete v 4), omega arith)
      where
        least : Dec (v ≡ 4) → v ≤ c
        least (yes x) = absurd (b x)
        least (no x) = omega (arith, eqb-true p 4 e)
    go false e q = (omega arith, omega arith)

-- ---- tier

module _ {count n f v : ℕ} {w w₁ : List ℕ} where
  -- no Un
  pub tier_none : {g : Part} {e : Failed} → Yields (Un n) count w n f g w₁ → g ≡ Err e → v ≤ 7 → Yields (Tier v n) count w n f g w₁
  tier_none a q h = handed a q (λ b. fails_first b (λ ts s x. climb_failed 7 v h x))

  -- a Un, and what the operators behind it come to
  pub tier_first : {r m k : ℕ} {w₂ : List ℕ} (g : Part) → Yields (Un n) count w n f (tree_at r m k) w₁ → Continues v 7 count w₁ m r k g w₂
      → Yields (Tier v n) count w n f g w₂
  tier_first (Ok g) a b = record {
    told = λ ts s.
        let x = a.told ts s in
        let y = b.told ts (after a ts s) x.tree w f x.top x.laid in
        record { tree = y.tree; told = climb_first x.told y.told; top = y.top; laid = y.laid };
    ahead = let p = a.ahead in let q = b.ahead in record { least = omega arith; most = q.most; owned = omega arith; end = q.end };
    clear = b.clear ∙ a.clear;
  }
  tier_first (Err e) a b = record {
    told = λ ts s. let x = a.told ts s in climb_first x.told (b.told ts (after a ts s) x.tree w f x.top x.laid);
    ahead = tt;
    clear = b.clear ∙ a.clear;
  }

-- ---- rest

-- what is known of an answer, of a word that stands for it
module _ {v u count n left f : ℕ} {w w' : List ℕ} {g : Part} where
  pub back_more : {h : Part} → Continues v u count w n left f h w' → g ≡ h → Continues v u count w n left f g w'
  back_more a e = subst (λ (x : Part). Continues v u count w n left f x w') (sym e) a

  -- a tree whose last row is its root
  pub back_end : {m : ℕ} → Continues v u count w n left f (tree_at left m f) w' → g ≡ tree_at left m (left + 1) → f ≡ left + 1
      → Continues v u count w n left f g w'
  back_end {m} a e o = back_more a (e ∙ ap (λ (k : ℕ). tree_at left m k) (sym o))

-- the token at n is of kind k, and binds as tightly as p

module _ (count n f v u left : ℕ) (w : List ℕ) (k p : ℕ) (low : 1 ≤ v) (hk : k ≡ kind_of w count n) (hp : p ≡ tightness k) where
  binds : (ts : List Token) → Stand w count ts → tightness (kind_at ts n) ≡ p
  binds ts s = ap tightness (s.kinds n ∙ sym hk) ∙ sym hp

  -- no operator that may follow
  pub rest_end : Room count w n f → f ≡ left + 1 → v ≤ u → (v ≡ 4 → ⊥) → (v ≤ p → p ≤ u → ⊥)
      → Continues v u count w n left f (tree_at left n f) w
  rest_end room o a b h = record {
    told = λ ts s x w₀ f₀ t l.
        let e = binds ts s in
        record { tree = x; told = climb_stop low a b (λ c d. h (omega arith) (omega arith)); top = t; laid = l };
    ahead = record { least = omega arith; most = omega (arith, room.inside); owned = omega arith; end = o };
    clear = refl;
  }

  module _ (a : v ≤ p) (b : p ≤ u) where
    operator : (ts : List Token) → Stand w count ts → (o : Binary) × Joins (kind_at ts n) o p
    operator ts s =
        let e = binds ts s in
        let j = joins (kind_at ts n) (omega arith) in
        (j.0, subst (Joins (kind_at ts n) j.0) e j.1)

    -- an operator, and no right operand
    pub rest_none : {e : ℕ} {w₁ : List ℕ} → Yields (Tier (p + 1) (n + 1)) count w (n + 1) f (none_at e) w₁
        → Continues v u count w n left f (none_at e) w₁
    rest_none d = record {
      told = λ ts s x w₀ f₀ t l. climb_short (operator ts s).1 low a b (d.told ts s);
      ahead = tt;
      clear = d.clear;
    }

    module _ {r m k₂ : ℕ} {w₁ w₂ : List ℕ} (h : f ≡ left + 1) (i : k₂ < NODES) (d : Yields (Tier (p + 1) (n + 1)) count w (n + 1) f
        (tree_at r m k₂) w₁)
        (q : w₂ ≡ put_row w₁ k₂ k n left r 0) where
      -- the operator's node over its two operands
      both : (ts : List Token) → Stand w count ts → Exp → Exp
      both ts s x = binary n (operator ts s).0 x (d.told ts s).tree

      laid_both : (ts : List Token) (s : Stand w count ts) (x : Exp) (w₀ : List ℕ) (f₀ : ℕ) → left ≡ f₀ + below x → w ≡ lay w₀ f₀ x
          → (k₂ ≡ f₀ + below (both ts s x)) × (w₂ ≡ lay w₀ f₀ (both ts s x))
      unfolding lay below both
      laid_both ts s x w₀ f₀ t l =
          let y = d.told ts s in
          let z = d.ahead in
          let g : binary_kind (operator ts s).0 ≡ k = joins_row (operator ts s).1 ∙ s.kinds n ∙ sym hk in
          let e₁ : f ≡ f₀ + below x + 1 = omega arith in
          let e₂ : r ≡ f₀ + below x + 1 + below y.tree = omega (arith, y.top) in
          let e₃ : k₂ ≡ f₀ + below x + 1 + below y.tree + 1 = omega arith in
          let l₁ : w₁ ≡ lay w f y.tree = y.laid in
          (omega arith, cc)

      goes_on : (ts : List Token) (s : Stand w count ts) (x : Exp) {g : Result Exp} → More ts v (following p) (both ts s x) m g
          → More ts v u x n g
      unfolding both
      goes_on ts s x y = climb_on (operator ts s).1 low a b (d.told ts s).told y

      cleared : without_rows w₂ ≡ without_rows w
      cleared = ap without_rows q ∙ without_put_row _ _ _ _ _ _ _ i ∙ d.clear

      -- an operator, its right operand, and what the operators behind them come to
      pub rest_more : {c : ℕ} {w₃ : List ℕ} (g : Part) → c ≡ following p → Continues v c count w₂ m k₂ (k₂ + 1) g w₃
          → Continues v u count w n left f g w₃
      rest_more {c} (Ok g) z y = record {
        told = λ ts s x w₀ f₀ t l.
            let e = laid_both ts s x w₀ f₀ t l in
            let j = y.told ts (stand_row k₂ k n left r 0 q (after d ts s)) (both ts s x) w₀ f₀ e.0 e.1 in
            record {
              tree = j.tree;
              told = goes_on ts s x (subst (λ (i : ℕ). More ts v i (both ts s x) m (got j.tree g.next)) z j.told);
              top = j.top;
              laid = j.laid;
            };
        ahead = let o₁ = d.ahead in let o₂ = y.ahead in record { least = omega arith; most = o₂.most; owned = omega arith; end = o₂.end };
        clear = y.clear ∙ cleared;
      }
      rest_more {c} (Err e₀) z y = record {
        told = λ ts s x w₀ f₀ t l.
            let e = laid_both ts s x w₀ f₀ t l in
            goes_on ts s x
            (subst (λ (i : ℕ). More ts v i (both ts s x) m (failed e₀.at)) z
            (y.told ts (stand_row k₂ k n left r 0 q (after d ts s)) (both ts s x) w₀ f₀ e.0 e.1));
        ahead = tt;
        clear = y.clear ∙ cleared;
      }
