-- Functions in sight of a row and what their bodies cost; and what a pass comes to.
use mathlib.Core.Bool.{Bool, true, false, cond}
use mathlib.Core.List.{List}
use mathlib.Core.Option.{none, some}
use mathlib.Core.Path.{◌≡◌, refl, sym, ap, subst, ◌∙◌}
use Prim.Native.Nat.{ℕ, suc, ◌+◌, ◌≤◌, ◌<◌}
use native.Mathlib.Decide.{ℕ_discrete}
use native.Mathlib.Omega.{arith}
use lib.Dec.{eqb}
use lib.ListN.{length, get_or}
use lib.Seq.{get_or-set_same, get_or-set_other}
use borrow.Author.Tests.{lt-ltb, ne_eqb}
use Rattle.language.specs.Sizes.{TOKENS, NODES, TABLE}
use Rattle.language.specs.Tokens.{Token, NAME, At, same, spelling_at}
use Rattle.language.specs.Trees.{Name, Scope, empty, push, nearest, PUTCHAR}
use Rattle.language.specs.Profile.{or_zero}
use Rattle.layout.specs.Table.{VARIABLES_AT, OWN, row_word, token_value}
use Rattle.layout.specs.Names.{Stand, Named}
use Rattle.layout.specs.Functions.{function_name}
use Rattle.layout.specs.Decode.{Right, tree_at}
use Rattle.layout.proofs.TokenLaws.{stand_same}
use Rattle.layout.proofs.NameLaws.{name_inside, named_at, named_same, number_putchar, number_other}
use Rattle.layout.proofs.VariablesTrees.{right_alike, tree_alike}
use Rattle.profiles.specs.Shares.{most, going_on, share, share_word, body_word, put_share, find_share, callee_share}
use Rattle.profiles.specs.Passes.{Passed, pass_none, pass_more, Heads, PassedTo}
use Rattle.profiles.proofs.ShareLaws.{share_none}
use Rattle.profiles.proofs.PassLaws.{Kept, passed_kept, name_kept}
use Rattle.profiles.proofs.TreeLaws.{tree_share, Known, row_known}

-- ---- what bodies cost

-- the first k functions have these costs, as far as they are kept
pub data Prices (ts : List Token) (w : List ℕ) : ℕ → Scope ℕ → Type 0 where
  priced_none : Prices ts w 0 (push PUTCHAR 0 empty)
  priced_more : {k c : ℕ} {f : Name} {costs : Scope ℕ} → Prices ts w k costs → Named ts (function_name w k) f → body_word w k ≡ most c
      → Prices ts w (suc k) (push f c costs)

pub prices_kept : {ts : List Token} {w v : List ℕ} {n k : ℕ} {costs : Scope ℕ} → Heads w n → Kept w v → k ≤ n → Prices ts w k costs
    → Prices ts v k costs
prices_kept h q l priced_none = priced_none
prices_kept {ts} {w} {v} h q l (priced_more {k = k} {f = f} p a e) =
    priced_more (prices_kept h q (omega arith) p) (subst (λ (y : ℕ). Named ts y f) (sym (name_kept w v q.before (h.heads k (omega arith)))) a)
    (q.bodies k ∙ e)

module _ {ts : List Token} (few : length ts ≤ TOKENS) {x : ℕ} {f : Name} (named : Named ts x f) where
  pub priced : {w : List ℕ} {k : ℕ} {costs : Scope ℕ} → Prices ts w k costs → find_share w x k ≡ share none (or_zero (nearest f costs))
  unfolding find_share nearest share
  priced priced_none = by (same f PUTCHAR)
    where
      by : (b : Bool) → 0 ≡ most (or_zero (cond b (some 0) none))
      by true = sym share_none
      by false = sym share_none
  priced {w} (priced_more {k = k} {c = c} {f = g} {costs = costs} p a e) =
      let d = named_same few named a in
      ap (λ (b : Bool). cond b (body_word w k) (find_share w x k)) d ∙ by (same f g) (priced p)
    where
      by : (b : Bool) → find_share w x k ≡ most (or_zero (nearest f costs))
          → cond b (body_word w k) (find_share w x k) ≡ most (or_zero (cond b (some c) (nearest f costs)))
      by true h = e
      by false h = h

-- ---- calls

-- the number x is that of the function whose names `self` knows
abbrev pub Selfish : List Token → ℕ → (Name → Bool) → Type 0
Selfish ts x self = (y : ℕ) (f : Name) → Named ts y f → eqb y x ≡ self f

-- that of no name is nobody's
pub nobody : (ts : List Token) → length ts ≤ TOKENS → Selfish ts (TOKENS + 1) (λ _. false)
nobody ts few y f h = ne_eqb y (TOKENS + 1) (λ e. go (same f PUTCHAR) refl e)
  where
    go : (b : Bool) → same f PUTCHAR ≡ b → y ≡ TOKENS + 1 → ⊥
    go true p e = omega (arith, number_putchar few h p)
    go false p e = omega (arith, (number_other few h p).0)

module _ (ts : List Token) (w : List ℕ) (x n : ℕ) (self : Name → Bool) (costs : Scope ℕ) {count : ℕ} (stand : Stand w count ts) (own : Selfish ts x self)
    (prices : Prices ts w n costs) where
  pub calls : (i : ℕ) → At ts (row_word w i OWN) NAME → callee_share w i x n
      ≡ share (cond (self (spelling_at ts (row_word w i OWN))) (some (row_word w i OWN)) none) (or_zero (nearest (spelling_at ts (row_word w i OWN)) costs))
  unfolding callee_share share
  calls i h =
      let o = row_word w i OWN in
      let few : length ts ≤ TOKENS = omega (arith, stand.long, stand.few) in
      let l = name_inside ts o h in
      let a = named_at stand o h in
      rw (lt-ltb o TOKENS (omega arith), own (token_value w o) (spelling_at ts o) a)
      (by o (self (spelling_at ts o)) (or_zero (nearest (spelling_at ts o) costs)) (priced few a prices))
    where
      by : (o : ℕ) (b : Bool) (m : ℕ) {s : ℕ} → s ≡ share none m → cond b (going_on o) s ≡ share (cond b (some o) none) m
      by o true m e = refl
      by o false m e = e

-- ---- a pass

module _ (ts : List Token) (x n : ℕ) (self : Name → Bool) (costs : Scope ℕ) (own : Selfish ts x self) where
  -- with one row more
  more_known : (v : List ℕ) (i s : ℕ) → i < NODES → TABLE ≤ length v → Known self costs ts v i
      → ((f : ℕ) → Right f ts v i → s ≡ tree_share self costs (tree_at f ts v i)) → Known self costs ts (put_share v i s) (i + 1)
  more_known v i s l long known here j h f r =
      let u = put_share v i s in
      let forth : (k : ℕ) → k < VARIABLES_AT → get_or u k 0 ≡ get_or v k 0 = λ k a. get_or-set_other v (VARIABLES_AT + i) k s 0 (λ e. omega arith) in
      let q = right_alike v u (λ k a. sym (forth k a)) f ts j r in
      by j h (ℕ_discrete j i) q ∙ ap (tree_share self costs) (sym (tree_alike u v forth f ts j q))
    where
      by : (j : ℕ) → j < i + 1 → Dec (j ≡ i) → Right f ts v j → share_word (put_share v i s) j ≡ tree_share self costs (tree_at f ts v j)
      by j h (yes e) q =
          ap (share_word (put_share v i s)) e ∙ get_or-set_same v (VARIABLES_AT + i) s 0 (omega arith)
          ∙ here f (subst (λ (k : ℕ). Right f ts v k) e q) ∙ ap (λ (k : ℕ). tree_share self costs (tree_at f ts v k)) (sym e)
      by j h (no e) q =
          get_or-set_other v (VARIABLES_AT + i) (VARIABLES_AT + j) s 0 (λ z. e (omega arith)) ∙ known j (omega (arith, e)) f q

  module _ {w : List ℕ} {count : ℕ} (heads : Heads w n) (stand : Stand w count ts) (prices : Prices ts w n costs) where
    passed_known : {i : ℕ} {v : List ℕ} → Passed x n w i v → i ≤ NODES → Known self costs ts v i
    passed_known pass_none l = λ j h. absurd (omega arith)
    passed_known (pass_more {i} {s} {v} p q) l =
        let k = passed_kept p (omega arith) in
        let st = stand_same v w count ts (λ j a. k.before j (omega (arith, stand.few))) stand in
        let known = passed_known p (omega arith) in
        more_known v i s (omega arith) (omega (arith, k.long, heads.long)) known
        (λ f r. row_known self costs ts v x n (calls ts v x n self costs st own (prices_kept heads k (omega arith) prices)) i known f r q)

    -- what it comes to
    pub pass_share : {w' : List ℕ} {last s : ℕ} (f : ℕ) → last < NODES → Right f ts w last → PassedTo w w' last x n s
        → s ≡ tree_share self costs (tree_at f ts w last)
    pass_share {w'} {last} f l r q =
        let k = passed_kept q.passed (omega arith) in
        q.share ∙ passed_known q.passed (omega arith) last (omega arith) f (right_alike w' w k.before f ts last r)
        ∙ ap (tree_share self costs) (tree_alike w' w k.before f ts last r)
