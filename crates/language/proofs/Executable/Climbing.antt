-- Operators that are read in one loop, each by how tightly it binds, come to what the levels come to one by one.
use mathlib.Core.Path.{◌≡◌, refl, subst}
use mathlib.Core.Bool.{cond}
use mathlib.Core.List.{List}
use mathlib.Core.Option.{Option, none, some}
use Prim.Native.Nat.{ℕ, zero, suc, ◌+◌, ◌-◌, ◌≤◌, ◌<◌}
use native.Mathlib.Omega.{arith}
use lib.Dec.{eqb}
use Rattle.language.specs.Tokens.{Token, entry, kind_at}
use Rattle.language.specs.Trees.{Binary, Exp, binary}
use Rattle.language.specs.Grammar.{Level, or, and, sum, prod, Tier, cmp, un, chain, tier, operators, comparisons}
use Rattle.language.proofs.Executable.Parses.{Result, failed, got}
use Rattle.language.proofs.Executable.Parser.{read, rest}
use Rattle.language.proofs.Grammar.Entries.{every}
use Rattle.language.proofs.Grammar.FirstTokens.{by_number, not_in}
use Rattle.language.proofs.Executable.Settles.{Settles}
use Rattle.language.proofs.Executable.SettlesLevels.{chain_failed, chain_first, rest_end, rest_failed, rest_more, cmp_failed, cmp_one, cmp_two}

-- ---- how tightly an operator binds

-- n where the table had the kind, else m
abbrev either : Option Binary → ℕ → ℕ → ℕ
either (some o) n m = n
either none n m = m

-- || 1, && 2, < and == 4, + and - 5, * and / 6, any other token 0
unfoldable pub tightness : ℕ → ℕ
tightness k =
    either (entry (operators or) k) 1 (either (entry (operators and) k) 2 (either (entry comparisons k) 4
    (either (entry (operators sum) k) 5 (either (entry (operators prod) k) 6 0))))

-- the tier that reads an expression in which each operator binds at least as tightly as v
abbrev pub tier_of : ℕ → Tier
tier_of zero = chain or
tier_of (suc zero) = chain or
tier_of (suc (suc zero)) = chain and
tier_of (suc (suc (suc zero))) = cmp
tier_of (suc (suc (suc (suc zero)))) = cmp
tier_of (suc (suc (suc (suc (suc zero))))) = chain sum
tier_of (suc (suc (suc (suc (suc (suc zero)))))) = chain prod
tier_of (suc (suc (suc (suc (suc (suc (suc v))))))) = un

-- the tightest operator that may follow one of tightness p and its operand: behind a comparison no other
abbrev pub after : ℕ → ℕ
after p = cond (eqb p 4) 3 p

-- a token of kind k is the operator o, of this tightness
pub data Joins (k : ℕ) (o : Binary) : ℕ → Type 0 where
  joins_or : entry (operators or) k ≡ some o → Joins k o 1
  joins_and : entry (operators and) k ≡ some o → Joins k o 2
  joins_cmp : entry comparisons k ≡ some o → Joins k o 4
  joins_sum : entry (operators sum) k ≡ some o → Joins k o 5
  joins_prod : entry (operators prod) k ≡ some o → Joins k o 6

-- a token that binds is an operator
pub joins : (k : ℕ) → 1 ≤ tightness k → (o : Binary) × Joins k o (tightness k)
unfolding tightness
joins k h =
    go (entry (operators or) k) (entry (operators and) k) (entry comparisons k) (entry (operators sum) k) (entry (operators prod) k)
    refl refl refl refl refl h
  where
    go : (a b c d e : Option Binary) → entry (operators or) k ≡ a → entry (operators and) k ≡ b → entry comparisons k ≡ c
        → entry (operators sum) k ≡ d → entry (operators prod) k ≡ e
        → 1 ≤ either a 1 (either b 2 (either c 4 (either d 5 (either e 6 0))))
        → (o : Binary) × Joins k o (either a 1 (either b 2 (either c 4 (either d 5 (either e 6 0)))))
    go (some o) b c d e p q r s t u = (o, joins_or p)
    go none (some o) c d e p q r s t u = (o, joins_and q)
    go none none (some o) d e p q r s t u = (o, joins_cmp r)
    go none none none (some o) e p q r s t u = (o, joins_sum s)
    go none none none none (some o) p q r s t u = (o, joins_prod t)
    go none none none none none p q r s t u = absurd (omega arith)

-- and an operator binds as its table says
pub joins_tightness : {k : ℕ} {o : Binary} {p : ℕ} → Joins k o p → tightness k ≡ p
unfolding tightness entry every
joins_tightness {k} (joins_or e) = by_number tightness 1 (operators or) k tt e
joins_tightness {k} (joins_and e) = by_number tightness 2 (operators and) k tt e
joins_tightness {k} (joins_cmp e) = by_number tightness 4 comparisons k tt e
joins_tightness {k} (joins_sum e) = by_number tightness 5 (operators sum) k tt e
joins_tightness {k} (joins_prod e) = by_number tightness 6 (operators prod) k tt e

-- no tightness is over 6, and none is 3
pub joins_range : {k : ℕ} {o : Binary} {p : ℕ} → Joins k o p → (1 ≤ p) × (p ≤ 6) × (p ≡ 3 → ⊥)
joins_range (joins_or e) = (omega arith, omega arith, λ e. omega arith)
joins_range (joins_and e) = (omega arith, omega arith, λ e. omega arith)
joins_range (joins_cmp e) = (omega arith, omega arith, λ e. omega arith)
joins_range (joins_sum e) = (omega arith, omega arith, λ e. omega arith)
joins_range (joins_prod e) = (omega arith, omega arith, λ e. omega arith)

-- ---- how far an expression has come

-- whatever the rest of the level comes to, behind x up to m, the level comes to from i on
abbrev Leads : List Token → ℕ → Level → Exp → ℕ → Type 0
Leads ts i l x m = (r : Result Exp) → Settles ts (rest l x) m r → Settles ts (read (tier (chain l))) i r

-- from i on x was read up to m, and no operator tighter than w can go on with it
pub data Stage (ts : List Token) (i : ℕ) (x : Exp) (m : ℕ) : ℕ → Type 0 where
  at_un : Settles ts (read (tier un)) i (got x m) → Stage ts i x m 7
  at_prod : Leads ts i prod x m → Stage ts i x m 6
  at_sum : Leads ts i sum x m → Stage ts i x m 5
  at_less : Settles ts (read (tier (chain sum))) i (got x m) → Stage ts i x m 4
  at_cmp : Settles ts (read (tier cmp)) i (got x m) → Stage ts i x m 3
  at_and : Leads ts i and x m → Stage ts i x m 2
  at_or : Leads ts i or x m → Stage ts i x m 1

-- whatever began it, an expression with operators from tightness v on, which has come with x at m to stage w, is read as r
pub record More (ts : List Token) (v w : ℕ) (x : Exp) (m : ℕ) (r : Result Exp) : Type 0 where
  pub from : (i : ℕ) → Stage ts i x m w → Settles ts (read (tier (tier_of v))) i r

module _ {ts : List Token} where
  module _ {i m : ℕ} {x : Exp} where
    leads_end : {l : Level} → Leads ts i l x m → entry (operators l) (kind_at ts m) ≡ none
        → Settles ts (read (tier (chain l))) i (got x m)
    leads_end k h = k _ (rest_end h)

    -- the operand ends at m, where no operator of the stage stands there
    finish : {v : ℕ} → Stage ts i x m v → (v ≡ 4 → ⊥) → (tightness (kind_at ts m) ≡ v → ⊥)
        → Settles ts (read (tier (tier_of v))) i (got x m)
    unfolding tightness entry every
    finish (at_un s) n h = s
    finish (at_prod k) n h = leads_end k (not_in tightness 6 (operators prod) (kind_at ts m) tt h)
    finish (at_sum k) n h = leads_end k (not_in tightness 5 (operators sum) (kind_at ts m) tt h)
    finish (at_less s) n h = absurd (n refl)
    finish (at_cmp s) n h = s
    finish (at_and k) n h = leads_end k (not_in tightness 2 (operators and) (kind_at ts m) tt h)
    finish (at_or k) n h = leads_end k (not_in tightness 1 (operators or) (kind_at ts m) tt h)

    -- and then the expression comes one stage down
    down : {w : ℕ} → Stage ts i x m w → 2 ≤ w → (tightness (kind_at ts m) ≡ w → ⊥) → Stage ts i x m (w - 1)
    unfolding tightness entry every
    down (at_un s) o h = at_prod λ r. chain_first s
    down (at_prod k) o h = at_sum λ r. chain_first (finish (at_prod k) (λ e. omega arith) h)
    down (at_sum k) o h = at_less (finish (at_sum k) (λ e. omega arith) h)
    down (at_less s) o h = at_cmp (cmp_one s (not_in tightness 4 comparisons (kind_at ts m) tt h))
    down (at_cmp s) o h = at_and λ r. chain_first s
    down (at_and k) o h = at_or λ r. chain_first (finish (at_and k) (λ e. omega arith) h)
    down (at_or k) o h = absurd (omega arith)

    -- d stages down, where no operator between stands at m
    lower : (d w : ℕ) → Stage ts i x m w → d < w → (w - d < tightness (kind_at ts m) → tightness (kind_at ts m) ≤ w → ⊥)
        → Stage ts i x m (w - d)
    lower zero w s o h = subst (Stage ts i x m) (omega arith) s
    lower (suc d) w s o h =
        subst (Stage ts i x m) (omega arith)
        (down (lower d w s (omega arith) λ a b. h (omega arith) b) (omega arith) λ e. h (omega arith) (omega arith))

    -- the same, down to v
    reach : {w : ℕ} (v : ℕ) → Stage ts i x m w → 1 ≤ v → v ≤ w → (v < tightness (kind_at ts m) → tightness (kind_at ts m) ≤ w → ⊥)
        → Stage ts i x m v
    reach {w} v s a b h = subst (Stage ts i x m) (omega arith) (lower (w - v) w s (omega arith) λ c d. h (omega arith) d)

    -- the operator at m and its right operand
    take : {p j : ℕ} {o : Binary} {y : Exp} → Joins (kind_at ts m) o p → Stage ts i x m p
        → Settles ts (read (tier (tier_of (p + 1)))) (m + 1) (got y j) → Stage ts i (binary m o x y) j (after p)
    take (joins_or h) (at_or k) y = at_or λ r z. k r (rest_more h y z)
    take (joins_and h) (at_and k) y = at_and λ r z. k r (rest_more h y z)
    take (joins_cmp h) (at_less s) y = at_cmp (cmp_two s h y)
    take (joins_sum h) (at_sum k) y = at_sum λ r z. k r (rest_more h y z)
    take (joins_prod h) (at_prod k) y = at_prod λ r z. k r (rest_more h y z)

    -- the operator at m, and no right operand
    fall : {p e : ℕ} {o : Binary} → Joins (kind_at ts m) o p → Stage ts i x m p
        → Settles ts (read (tier (tier_of (p + 1)))) (m + 1) (failed e) → Settles ts (read (tier (tier_of p))) i (failed e)
    fall (joins_or h) (at_or k) y = k _ (rest_failed h y)
    fall (joins_and h) (at_and k) y = k _ (rest_failed h y)
    fall (joins_cmp h) (at_less s) y = cmp_two s h y
    fall (joins_sum h) (at_sum k) y = k _ (rest_failed h y)
    fall (joins_prod h) (at_prod k) y = k _ (rest_failed h y)

  -- what a tier cannot read, no looser one can
  sink_one : {i e : ℕ} (n : ℕ) → Settles ts (read (tier (tier_of (suc n)))) i (failed e) → Settles ts (read (tier (tier_of n))) i (failed e)
  sink_one zero x = x
  sink_one (suc zero) x = chain_failed x
  sink_one (suc (suc zero)) x = chain_failed x
  sink_one (suc (suc (suc zero))) x = x
  sink_one (suc (suc (suc (suc zero)))) x = cmp_failed x
  sink_one (suc (suc (suc (suc (suc zero))))) x = chain_failed x
  sink_one (suc (suc (suc (suc (suc (suc zero)))))) x = chain_failed x
  sink_one (suc (suc (suc (suc (suc (suc (suc n))))))) x = x

  sink : {i e : ℕ} (d n w : ℕ) → w ≡ n + d → Settles ts (read (tier (tier_of w))) i (failed e)
      → Settles ts (read (tier (tier_of n))) i (failed e)
  sink {i} {e} zero n w h x =
      let q : w ≡ n = omega arith in
      subst (λ (z : ℕ). Settles ts (read (tier (tier_of z))) i (failed e)) q x
  sink {i} {e} (suc d) n w h x =
      let q : w ≡ suc (n + d) = omega arith in
      sink d n (n + d) refl (sink_one (n + d) (subst (λ (z : ℕ). Settles ts (read (tier (tier_of z))) i (failed e)) q x))

  -- ---- the laws of the loop

  -- what cannot be read with tight operators only cannot be read with looser ones too
  pub climb_failed : {i e : ℕ} (w v : ℕ) → v ≤ w → Settles ts (read (tier (tier_of w))) i (failed e)
      → Settles ts (read (tier (tier_of v))) i (failed e)
  climb_failed w v h x = sink (w - v) v w (omega arith) x

  -- the first operand, and what the loop makes of it
  pub climb_first : {i m v : ℕ} {x : Exp} {r : Result Exp} → Settles ts (read (tier un)) i (got x m) → More ts v 7 x m r
      → Settles ts (read (tier (tier_of v))) i r
  climb_first {i} s y = y.from i (at_un s)

  -- no operator that may follow: the loop ends
  pub climb_stop : {m v w : ℕ} {x : Exp} → 1 ≤ v → v ≤ w → (v ≡ 4 → ⊥) → (v ≤ tightness (kind_at ts m) → tightness (kind_at ts m) ≤ w → ⊥)
      → More ts v w x m (got x m)
  climb_stop {m} {v} {w} a b n h = record {
    from = λ i s. finish (reach v s a b λ c d. h (omega arith) d) n λ e. h (omega arith) (omega arith);
  }

  module _ {m v w p : ℕ} {o : Binary} (j : Joins (kind_at ts m) o p) (a : 1 ≤ v) (b : v ≤ p) (c : p ≤ w) where
    -- an operator that may follow, whose right operand cannot be read
    pub climb_short : {e : ℕ} {x : Exp} → Settles ts (read (tier (tier_of (p + 1)))) (m + 1) (failed e) → More ts v w x m (failed e)
    climb_short y = record {
      from = λ i s.
          climb_failed p v b (fall j (reach p s (omega arith) c λ d g. omega (arith, joins_tightness j)) y);
    }

    -- an operator that may follow, its right operand, and what the loop makes of the two
    pub climb_on : {k : ℕ} {x y : Exp} {r : Result Exp} → Settles ts (read (tier (tier_of (p + 1)))) (m + 1) (got y k)
        → More ts v (after p) (binary m o x y) k r → More ts v w x m r
    climb_on y z = record {
      from = λ i s.
          z.from i (take j (reach p s (omega arith) c λ d g. omega (arith, joins_tightness j)) y);
    }
