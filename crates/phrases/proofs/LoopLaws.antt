-- The ways through `for_in` and `ends`.
use mathlib.Core.Bool.{Bool, false}
use mathlib.Core.List.{List}
use mathlib.Core.Option.{some}
use mathlib.Core.Path.{◌≡◌, refl, sym}
use Rattle.std.specs.Prelude.{Ok, Err}
use Prim.Native.Nat.{ℕ, ◌+◌}
use native.Mathlib.Omega.{arith}
use Rattle.language.specs.Tokens.{Token, At, Means, entry, spelling_at, NAME, IN, LBRACE, FOR, BY}
use Rattle.language.specs.Trees.{Exp, Exps, last, more, counted}
use Rattle.language.specs.Grammar.{counting, ranges}
use Rattle.language.proofs.Executable.Parses.{Result, failed, got}
use Rattle.language.proofs.Executable.Parser.{read}
use Rattle.language.proofs.Executable.Settles.{Settles}
use Rattle.language.proofs.Executable.SettlesLoops as S
use Rattle.layout.specs.Table.{kind_of, put_row}
use Rattle.layout.specs.Rows.{ARGUMENT, range_kind, below, under, head, lay, lay_all}
use Rattle.phrases.specs.Parts.{Told, in_table, Yields, YieldsAll, Written, Topped, Tier, For, Bounds, Ends}
use Rattle.phrases.specs.declared.parts.Failed.{Failed}
use Rattle.phrases.specs.Words.{Part, tree_at, none_at}
use Rattle.phrases.proofs.Standing.{at, not_at}
use Rattle.phrases.proofs.RowKinds.{stands_for_none}
use Rattle.phrases.proofs.Answering.{handed, fails, fails_first, fails_behind, tops}
use Rattle.phrases.proofs.Listing.{after_all, lists_last, lists_more}
use Rattle.phrases.proofs.ItemLaws.{Braced, braced, unbraced, Block}

-- ---- the end and the step of the `for` at token i, behind the mark at token n

-- a step alone, behind the `by` at token n
pub data Alone (ts : List Token) (n : ℕ) : Result Exps → Type 0 where
  alone : {x : Exp} {m : ℕ} → Tier 1 (n + 1) ts (got x m) → Alone ts n (got (more x last) m)
  nothing : {e : ℕ} → Tier 1 (n + 1) ts (failed e) → Alone ts n (failed e)

abbrev pub Step : ℕ → Told Exps
Step n = λ ts. Alone ts n

module _ (ts : List Token) {i m k : ℕ} {b : Bool} {x y : Exp} (p : Tier 1 i ts (got x m)) (q : Means ts m ranges b)
    (u : Tier 1 (m + 1) ts (got y k)) (a : At ts k BY) where
  stepped : {es : Exps} {l : ℕ} → Alone ts k (got es l) → Bounds b i ts (got (more x (more y es)) l)
  stepped (alone z) = S.bounds_three p q u a z

  unstepped : {e : ℕ} → Alone ts k (failed e) → Bounds b i ts (failed e)
  unstepped (nothing z) = S.bounds_three p q u a z

module _ {count n f i : ℕ} {w w₁ : List ℕ} where
  -- a step or none
  pub step_last : {w₂ : List ℕ} {z : Part} (g : Part) → Yields (Tier 1 (n + 1)) count w (n + 1) f g w₁
      → Topped (λ u x y. put_row u x ARGUMENT i y 0 0) (λ l. l) g w₁ z w₂ → YieldsAll (Step n) i count w n f z w₂
  step_last (Ok g) a x =
      let o = a.ahead in
      lists_last a (λ ts v y p. alone p) x record { least = omega arith; most = o.most; owned = omega arith; end = refl }
  step_last (Err e) a x = rw (x.0, x.1) (record { told = λ ts s. nothing (a.told ts s); ahead = tt; clear = a.clear })

  -- no end
  pub ends_none : {e : ℕ} → Yields (Tier 1 (n + 1)) count w (n + 1) f (none_at e) w₁ → YieldsAll (Ends n) i count w n f (none_at e) w₁
  ends_none a = record { told = λ ts s j b x p q. S.end_failed p q (a.told ts s); ahead = tt; clear = a.clear }

  module _ {r m k : ℕ} (a : Yields (Tier 1 (n + 1)) count w (n + 1) f (tree_at r m k) w₁) where
    -- an end, and no `by`
    pub ends_one : {w₂ : List ℕ} {g : Part} → (kind_of w₁ count m ≡ BY → ⊥) → Written k m (put_row w₁ k ARGUMENT i r 0 0) w₁ g w₂
        → YieldsAll (Ends n) i count w n f g w₂
    ends_one h x =
        let o = a.ahead in
        lists_last a (λ ts v y u j b z p q. S.bounds_two p q u (not_at m v h)) x
        record { least = omega arith; most = o.most; owned = omega arith; end = refl }

    -- an end, `by`, and a step or none
    pub ends_two : {w₂ w₃ : List ℕ} {z : Part} (g : Part) → kind_of w₁ count m ≡ BY → YieldsAll (Step m) i count w₁ m k g w₂
        → Topped (λ u x y. put_row u x ARGUMENT i r y 0) (λ l. l) g w₂ z w₃ → YieldsAll (Ends n) i count w n f z w₃
    ends_two g h b x =
        let d = a.ahead in
        lists_more a g
        (λ ts v y u. (λ es l t j c z p q. stepped ts p q u (at m v h) t, λ e t j c z p q. unstepped ts p q u (at m v h) t)) b x
        (λ q l j o. record { least = omega arith; most = o.most; owned = omega arith; end = refl })

-- ---- for

counts : (ts : List Token) {n m l : ℕ} {b : Bool} {es : Exps} {x : Exp} → At ts n FOR → At ts (n + 1) NAME → At ts (n + 2) IN
    → Bounds b (n + 3) ts (got es m) → At ts m LBRACE → Braced ts m (got x l)
    → Settles ts (read counting) n (got (counted n (spelling_at ts (n + 1)) b es x) l)
counts ts a b c p d (braced q) = S.for_block a b c p d q

uncounted : (ts : List Token) {n m e : ℕ} {b : Bool} {es : Exps} → At ts n FOR → At ts (n + 1) NAME → At ts (n + 2) IN
    → Bounds b (n + 3) ts (got es m) → At ts m LBRACE → Braced ts m (failed e) → Settles ts (read counting) n (failed e)
uncounted ts a b c p d (unbraced q) = S.for_block a b c p d q

module _ {count n f : ℕ} {w : List ℕ} (h : kind_of w count n ≡ FOR) where
  -- no name
  pub for_name : (kind_of w count (n + 1) ≡ NAME → ⊥) → Yields (For n) count w n f (none_at (n + 1)) w
  for_name i = fails (λ ts s. S.for_name (at n s h) (not_at (n + 1) s i)) refl

  module _ (i : kind_of w count (n + 1) ≡ NAME) where
    -- no `in`
    pub for_in : (kind_of w count (n + 2) ≡ IN → ⊥) → Yields (For n) count w n f (none_at (n + 2)) w
    for_in j = fails (λ ts s. S.for_in (at n s h) (at (n + 1) s i) (not_at (n + 2) s j)) refl

    module _ {w₁ : List ℕ} (j : kind_of w count (n + 2) ≡ IN) where
      -- no start
      pub start_none : {g : Part} {e : Failed} → Yields (Tier 1 (n + 3)) count w (n + 3) f g w₁ → g ≡ Err e → Yields (For n) count w n f g w₁
      start_none a q =
          handed a q (λ b. fails_first b (λ ts s x. S.for_failed (at n s h) (at (n + 1) s i) (at (n + 2) s j) (S.bounds_failed x)))

      -- a start, and neither `..` nor `..=`, the kind of the token being c
      pub start_other : {c r m k : ℕ} → Yields (Tier 1 (n + 3)) count w (n + 3) f (tree_at r m k) w₁ → c ≡ kind_of w₁ count m
          → in_table ranges c ≡ false → Yields (For n) count w n f (none_at m) w₁
      start_other {c} {m = m} a e l =
          fails_behind a (λ ts s v x p.
          S.for_failed (at n s h) (at (n + 1) s i) (at (n + 2) s j) (S.bounds_other p (rw (at m v (sym e)) (stands_for_none ranges c l))))

      -- no end or no step
      pub bounds_none : {b : Bool} {e : ℕ} → YieldsAll (Bounds b (n + 3)) n count w (n + 2) f (none_at e) w₁
          → Yields (For n) count w n f (none_at e) w₁
      bounds_none a = record {
        told = λ ts s. S.for_failed (at n s h) (at (n + 1) s i) (at (n + 2) s j) (a.told ts s);
        ahead = tt;
        clear = a.clear;
      }

      module _ {b : Bool} {r m k : ℕ} (a : YieldsAll (Bounds b (n + 3)) n count w (n + 2) f (tree_at r m k) w₁) where
        -- bounds, and no `{`
        pub body_none : (kind_of w₁ count m ≡ LBRACE → ⊥) → Yields (For n) count w n f (none_at m) w₁
        body_none d = record {
          told = λ ts s.
              S.for_open (at n s h) (at (n + 1) s i) (at (n + 2) s j) (a.told ts s).told (not_at m (after_all a ts s) d);
          ahead = tt;
          clear = a.clear;
        }

        -- bounds, and a body or none; their mark is of the kind c
        pub for_all : {c : ℕ} {w₂ w₃ : List ℕ} {z : Part} (g : Part) → range_kind b ≡ c → kind_of w₁ count m ≡ LBRACE
            → Yields (Block m) count w₁ m k g w₂ → Topped (λ u x y. put_row u x c n r y 0) (λ l. l) g w₂ z w₃ → Yields (For n) count w n f z w₃
        unfolding lay below
        for_all {c} g e d v t =
            let o₁ = a.ahead in
            tops _ (λ l. l) g
            (λ ts s.
            let s₁ = after_all a ts s in
            let p = a.told ts s in
            let e₁ : r ≡ head f p.args = p.top in
            let e₂ : k ≡ f + under p.args = p.past in
            let u₁ : w₁ ≡ lay_all w f n p.args = p.laid in (
              s₁,
              record {
                build = counted n (spelling_at ts (n + 1)) b p.args;
                rows = λ x. omega arith;
                laid = λ x. cc;
                told = λ x l q. counts ts (at n s h) (at (n + 1) s i) (at (n + 2) s j) p.told (at m s₁ d) q;
                lost = λ x q. uncounted ts (at n s h) (at (n + 1) s i) (at (n + 2) s j) p.told (at m s₁ d) q;
              },
            ))
            a.clear v t (λ q l x o. record { least = omega arith; most = o.most; owned = omega arith; end = refl })

-- a start, its mark of the kind c, and an end with a step or none
pub bounds_all : {count n f c r m k : ℕ} {b : Bool} {w w₁ w₂ w₃ : List ℕ} {z : Part} (g : Part)
    → Yields (Tier 1 (n + 3)) count w (n + 3) f (tree_at r m k) w₁ → c ≡ kind_of w₁ count m → entry ranges c ≡ some b
    → YieldsAll (Ends m) n count w₁ m k g w₂ → Topped (λ u x y. put_row u x ARGUMENT n r y 0) (λ l. l) g w₂ z w₃
    → YieldsAll (Bounds b (n + 3)) n count w (n + 2) f z w₃
bounds_all {n = n} {m = m} {b = b} g a h e d x =
    let o₁ = a.ahead in
    lists_more a g
    (λ ts v y p.
    let q : Means ts m ranges b = rw (at m v (sym h)) e in
    (λ es l t. t (n + 3) b y p q, λ j t. t (n + 3) b y p q)) d x
    (λ q l j o. record { least = omega arith; most = o.most; owned = omega arith; end = refl })
