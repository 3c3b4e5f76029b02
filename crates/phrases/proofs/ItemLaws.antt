-- The ways through `clause`, `if_else` and `while_block`.
use mathlib.Core.List.{List}
use mathlib.Core.Path.{◌≡◌, refl, ◌∙◌}
use Prim.Native.Nat.{ℕ, ◌+◌}
use native.Mathlib.Omega.{arith}
use Rattle.language.specs.Tokens.{Token, At, LET, WHILE, IF, THEN, ELSE, LBRACE, RBRACE, FOR}
use Rattle.language.specs.Trees.{Exp, block, branch, loop}
use Rattle.language.proofs.Executable.Parses.{Result, failed, got}
use Rattle.language.proofs.Executable.Parser.{clause, until}
use Rattle.language.proofs.Executable.Settles.{Settles}
use Rattle.language.proofs.Executable.SettlesExpressions as S
use Rattle.layout.specs.Table.{kind_of, put_row}
use Rattle.layout.specs.Rows.{below, lay}
use Rattle.phrases.specs.Parts.{Told, Yields, Halts, Topped, Clause, Let, For, Assign, Until}
use Rattle.std.specs.Prelude.{Ok, Err}
use Rattle.phrases.specs.declared.parts.Failed.{Failed}
use Rattle.phrases.specs.declared.parts.Tree.{Tree}
use Rattle.phrases.specs.Words.{Part, tree_at}
use Rattle.phrases.proofs.Standing.{at, not_at}
use Rattle.phrases.proofs.Answering.{known, handed, after, fails_first, fails_second, same, tops, over_one, over_two}

-- ---- clause

module _ {count n f : ℕ} {w w₁ : List ℕ} {g : Part} where
  -- a Let or none
  pub clause_let : kind_of w count n ≡ LET → Yields (Let n) count w n f g w₁ → Yields (Clause n) count w n f g w₁
  clause_let h a = same g a (λ ts s r x. S.clause_let (at n s h) x)

  -- a For or none
  pub clause_for : kind_of w count n ≡ FOR → Yields (For n) count w n f g w₁ → Yields (Clause n) count w n f g w₁
  clause_for h a = same g a (λ ts s r x. S.clause_for (at n s h) x)

  -- an Assign or none
  pub clause_assign : (kind_of w count n ≡ LET → ⊥) → (kind_of w count n ≡ IF → ⊥) → (kind_of w count n ≡ WHILE → ⊥)
      → (kind_of w count n ≡ FOR → ⊥) → Yields (Assign n) count w n f g w₁ → Yields (Clause n) count w n f g w₁
  clause_assign h i j k a = same g a (λ ts s r x. S.clause_assign (not_at n s h) (not_at n s i) (not_at n s j) (not_at n s k) x)

pub ruleset clause_ways = (clause_let, clause_for, clause_assign)

-- ---- if

module _ {count n f : ℕ} {w w₁ : List ℕ} (h : kind_of w count n ≡ IF) where
  -- no test, or no `then` behind it
  pub if_none : {g : Part} {e : Failed} → Halts (Until THEN (n + 1)) count w (n + 1) f g w₁ → g ≡ Err e → Yields (Clause n) count w n f g w₁
  if_none a q = handed a q (λ b. fails_first b (λ ts s x. S.if_failed (at n s h) x))

  -- no part behind `then`, or no `else` behind that
  pub then_none : {g₁ g : Part} {t : Tree} {e : Failed} {w₂ : List ℕ} → Halts (Until THEN (n + 1)) count w (n + 1) f g₁ w₁ → g₁ ≡ Ok t
      → Halts (Until ELSE (t.next + 1)) count w₁ (t.next + 1) t.free g w₂ → g ≡ Err e → Yields (Clause n) count w n f g w₂
  then_none a p b q = handed b q (λ d. fails_second (known a p) d (λ ts s x p q. S.then_failed (at n s h) p q))

  module _ {r m k : ℕ} {w₂ : List ℕ} (a : Halts (Until THEN (n + 1)) count w (n + 1) f (tree_at r m k) w₁) where
    -- both, and another clause or none behind `else`
    pub if_all : {r₂ m₂ k₂ : ℕ} {w₃ w₄ : List ℕ} {g z : Part} → Halts (Until ELSE (m + 1)) count w₁ (m + 1) k (tree_at r₂ m₂ k₂) w₂
        → Yields (Clause (m₂ + 1)) count w₂ (m₂ + 1) k₂ g w₃ → Topped (λ u i j. put_row u i IF n r r₂ j) (λ l. l) g w₃ z w₄
        → Yields (Clause n) count w n f z w₄
    unfolding lay below
    if_all {r₂} {m₂} {k₂} {g = g} b d t =
        let y₁ = a.ahead in
        let y₂ = b.ahead in
        tops _ (λ l. l) g
        (λ ts s.
        let s₁ = after a ts s in
        let p = a.told ts s in
        let q = b.told ts s₁ in
        let e₁ : r ≡ f + below p.tree = p.top in
        let e₂ : k ≡ f + below p.tree + 1 = omega arith in
        let e₃ : r₂ ≡ f + below p.tree + 1 + below q.tree = omega (arith, q.top) in
        let e₄ : k₂ ≡ f + below p.tree + 1 + below q.tree + 1 = omega arith in
        let u₁ : w₁ ≡ lay w f p.tree = p.laid in
        let u₂ : w₂ ≡ lay w₁ k q.tree = q.laid in (
          after b ts s₁,
          record {
            build = branch n p.tree q.tree;
            rows = λ x. omega arith;
            laid = λ x. cc;
            told = λ x l v. S.if_else (at n s h) p.told q.told v;
            lost = λ e v. S.if_else (at n s h) p.told q.told v;
          },
        ))
        (b.clear ∙ a.clear) d t (λ j l i o. record { least = omega arith; most = o.most; owned = omega arith; end = refl })

-- ---- a Block that is a body: from its `{` at token m on

pub data Braced (ts : List Token) (m : ℕ) : Result Exp → Type 0 where
  braced : {x : Exp} {l : ℕ} → Settles ts (until RBRACE) (m + 1) (got x l) → Braced ts m (got (block m x) (l + 1))
  unbraced : {e : ℕ} → Settles ts (until RBRACE) (m + 1) (failed e) → Braced ts m (failed e)

abbrev pub Block : ℕ → Told Exp
Block m = λ ts. Braced ts m

-- a Seq and `}`, or none
pub body : {count m f : ℕ} {w w₁ w₂ : List ℕ} {g z : Part} → Halts (Until RBRACE (m + 1)) count w (m + 1) f g w₁
    → Topped (λ u i j. put_row u i LBRACE m j 0 0) (λ l. l + 1) g w₁ z w₂ → Yields (Block m) count w m f z w₂
unfolding lay below
body {m = m} a t =
    over_one LBRACE m (λ l. l + 1) (block m) (λ x. (refl, refl)) (λ ts s. (λ x l p. braced p, λ e p. unbraced p)) a t
    (λ j l i o. record { least = omega arith; most = omega arith; owned = omega arith; end = refl })

-- ---- while

looped : (ts : List Token) {n m l : ℕ} {x y : Exp} → At ts n WHILE → Settles ts (until LBRACE) (n + 1) (got x m) → Braced ts m (got y l)
    → Settles ts clause n (got (loop n x y) l)
looped ts a p (braced q) = S.while_block a p q

unlooped : (ts : List Token) {n m e : ℕ} {x : Exp} → At ts n WHILE → Settles ts (until LBRACE) (n + 1) (got x m) → Braced ts m (failed e)
    → Settles ts clause n (failed e)
unlooped ts a p (unbraced q) = S.while_block a p q

module _ {count n f : ℕ} {w w₁ : List ℕ} (h : kind_of w count n ≡ WHILE) where
  -- no test, or no `{` behind it
  pub while_none : {g : Part} {e : Failed} → Halts (Until LBRACE (n + 1)) count w (n + 1) f g w₁ → g ≡ Err e
      → Yields (Clause n) count w n f g w₁
  while_none a q = handed a q (λ b. fails_first b (λ ts s x. S.while_failed (at n s h) x))

  -- a test, `{`, and a body or none
  pub while_all : {r m k : ℕ} {w₂ w₃ : List ℕ} {g z : Part} → Halts (Until LBRACE (n + 1)) count w (n + 1) f (tree_at r m k) w₁
      → Yields (Block m) count w₁ m k g w₂ → Topped (λ u i j. put_row u i WHILE n r j 0) (λ l. l) g w₂ z w₃ → Yields (Clause n) count w n f z w₃
  unfolding lay below
  while_all {m = m} a b t =
      let d = a.ahead in
      over_two WHILE n (λ ts. loop n) (λ ts v x y. (refl, refl))
      (λ ts s v x p. (λ y l q. looped ts (at n s h) p q, λ e q. unlooped ts (at n s h) p q))
      a b t (λ q l j o. record { least = omega arith; most = o.most; owned = omega arith; end = refl })
