-- The ways through `until`, `seq` and `let_in`: what each answers, by the answers of its parts and the kinds of its tokens.
use mathlib.Core.List.{List}
use mathlib.Core.Path.{◌≡◌, refl}
use Prim.Native.Nat.{ℕ, ◌+◌, ◌≤◌}
use native.Mathlib.Omega.{arith}
use Rattle.language.specs.Tokens.{NAME, LET, IN, IS, SEMI, spelling_at}
use Rattle.language.specs.Trees.{follow, bind}
use Rattle.language.proofs.Executable.SettlesExpressions as S
use Rattle.layout.specs.Table.{kind_of, put_row}
use Rattle.layout.specs.Rows.{below, lay}
use Rattle.phrases.specs.Parts.{Yields, Halts, Topped, Seq, Clause, Let, Until}
use Rattle.phrases.specs.declared.parts.Failed.{Failed}
use Rattle.phrases.specs.declared.parts.Tree.{Tree}
use Rattle.std.specs.Prelude.{Ok, Err}
use Rattle.phrases.specs.Words.{Part, tree_at, none_at}
use Rattle.phrases.proofs.Standing.{at, not_at, within}
use Rattle.phrases.proofs.Answering.{known, back, handed, fails, fails_first, fails_behind, keeps, over_two}

module _ {count n f : ℕ} {w w₁ : List ℕ} where
  -- ---- until

  -- the mark stands behind the Seq
  pub until_here : {mark : ℕ} {g : Part} {t : Tree} → Yields (Seq n) count w n f g w₁ → g ≡ Ok t → 1 ≤ mark
      → kind_of w₁ count t.next ≡ mark → Halts (Until mark n) count w n f g w₁
  until_here {mark} {t = t} b q p h =
      let a = known b q in
      let i = within w₁ count t.next mark h p in
      let o = a.ahead in
      back (keeps a record { least = o.least; most = i; owned = o.owned; end = o.end } (λ ts s v x y. S.until_got y (at t.next v h))) q

  -- another token does
  pub until_other : {mark : ℕ} {g h : Part} {t : Tree} → Yields (Seq n) count w n f g w₁ → g ≡ Ok t → (kind_of w₁ count t.next ≡ mark → ⊥)
      → h ≡ none_at t.next → Halts (Until mark n) count w n f h w₁
  until_other {t = t} a q i z = back (fails_behind (known a q) (λ ts s v x y. S.until_other y (not_at t.next v i))) z

  -- no Seq
  pub until_none : {mark : ℕ} {g : Part} {e : Failed} → Yields (Seq n) count w n f g w₁ → g ≡ Err e → Halts (Until mark n) count w n f g w₁
  until_none a q = handed a q (λ b. fails_first b (λ ts s x. S.until_failed x))

  -- ---- seq

  -- no clause
  pub seq_none : {g : Part} {e : Failed} → Yields (Clause n) count w n f g w₁ → g ≡ Err e → Yields (Seq n) count w n f g w₁
  seq_none a q = handed a q (λ b. fails_first b (λ ts s x. S.seq_failed x))

  -- a clause, and no `;`
  pub seq_one : {g : Part} {t : Tree} → Yields (Clause n) count w n f g w₁ → g ≡ Ok t → (kind_of w₁ count t.next ≡ SEMI → ⊥)
      → Yields (Seq n) count w n f g w₁
  seq_one {t = t} b q i = let a = known b q in back (keeps a a.ahead (λ ts s v x y. S.seq_one y (not_at t.next v i))) q

  pub ruleset seq_ways = (seq_none, seq_one)

  -- a clause, `;`, and another Seq or none
  pub seq_more : {r m k : ℕ} {w₂ w₃ : List ℕ} {g z : Part} → Yields (Clause n) count w n f (tree_at r m k) w₁ → kind_of w₁ count m ≡ SEMI
      → Yields (Seq (m + 1)) count w₁ (m + 1) k g w₂ → Topped (λ u i j. put_row u i SEMI m r j 0) (λ l. l) g w₂ z w₃ → Yields (Seq n) count w n f z w₃
  unfolding lay below
  seq_more {m = m} a i b t =
      let d = a.ahead in
      over_two SEMI m (λ ts. follow m) (λ ts v x y. (refl, refl))
      (λ ts s v x p. (λ y l q. S.seq_more p (at m v i) q, λ e q. S.seq_more p (at m v i) q))
      a b t (λ q l j o. record { least = omega arith; most = o.most; owned = omega arith; end = refl })

  -- ---- let

  module _ (h : kind_of w count n ≡ LET) (i : kind_of w count (n + 1) ≡ NAME) (j : kind_of w count (n + 2) ≡ IS) where
    -- no value, or no `in` behind it
    pub let_none : {g : Part} {e : Failed} → Halts (Until IN (n + 3)) count w (n + 3) f g w₁ → g ≡ Err e → Yields (Let n) count w n f g w₁
    let_none a q = handed a q (λ b. fails_first b (λ ts s x. S.let_failed (at n s h) (at (n + 1) s i) (at (n + 2) s j) x))

    -- a value, `in`, and a body or none
    pub let_all : {r m k : ℕ} {w₂ w₃ : List ℕ} {g z : Part} → Halts (Until IN (n + 3)) count w (n + 3) f (tree_at r m k) w₁
        → Yields (Seq (m + 1)) count w₁ (m + 1) k g w₂ → Topped (λ u y x. put_row u y LET n r x 0) (λ l. l) g w₂ z w₃
        → Yields (Let n) count w n f z w₃
    unfolding lay below
    let_all a b t =
        let d = a.ahead in
        over_two LET n (λ ts. bind n (spelling_at ts (n + 1))) (λ ts v x y. (refl, refl))
        (λ ts s v x p. (λ y l q. S.let_in (at n s h) (at (n + 1) s i) (at (n + 2) s j) p q, λ e q. S.let_in (at n s h) (at (n + 1) s i) (at (n + 2) s j) p q))
        a b t (λ q l y o. record { least = omega arith; most = o.most; owned = omega arith; end = refl })

module _ {count n f : ℕ} {w : List ℕ} (h : kind_of w count n ≡ LET) where
  -- no name
  pub let_name : (kind_of w count (n + 1) ≡ NAME → ⊥) → Yields (Let n) count w n f (none_at (n + 1)) w
  let_name i = fails (λ ts s. S.let_name (at n s h) (not_at (n + 1) s i)) refl

  -- no `=`
  pub let_is : kind_of w count (n + 1) ≡ NAME → (kind_of w count (n + 2) ≡ IS → ⊥) → Yields (Let n) count w n f (none_at (n + 2)) w
  let_is i j = fails (λ ts s. S.let_is (at n s h) (at (n + 1) s i) (not_at (n + 2) s j)) refl
