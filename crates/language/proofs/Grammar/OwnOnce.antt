-- In a reading the own tokens of all nodes rise in the order of the text: no two nodes share one, and each lies among the
-- tokens that are read (S042).
use mathlib.Core.Path.{◌≡◌}
use mathlib.Core.List.{List, [], ◌∷◌, ◌++◌}
use mathlib.Core.Option.{some}
use Prim.Native.Nat.{ℕ, zero, suc, ◌+◌, ◌≤◌, ◌<◌}
use native.Mathlib.Omega.{arith}
use lib.ListN.{length, get_or}
use lib.Dec.{T, leb, leb→le}
use lib.Ieee.{Float, nan, binary64, fits}
use lib.Ieee.Fits.{nan-fits}
use Rattle.language.specs.Tokens.{Token, kind_at, value_at, spelling_at, entry}
use Rattle.language.specs.Decimals.{float_of}
use Rattle.language.specs.Trees.{Literal, Program}
use Rattle.language.specs.Grammar.{Of, tier, Sym, program, def, formals, params, type, seq, tail, bound, item, assign, atom, actuals, args}
use Rattle.language.specs.Grammar.{constants, Reads, Reading, program_seq, program_def, def_is, formals_none, formals_some, params_one}
use Rattle.language.specs.Grammar.{params_more, type_basic, type_ref, seq_tail, seq_item, seq_more, tail_let, tail_if, let_in, item_if}
use Rattle.language.specs.Grammar.{item_while, item_assign, assign_one, assign_to, chain_one, chain_more, cmp_one, cmp_two, un_prefix, un_atom}
use Rattle.language.specs.Grammar.{atom_name, atom_call, atom_number, atom_float, atom_constant, atom_group, atom_block, actuals_none}
use Rattle.language.specs.Grammar.{actuals_some, args_one, args_more, item_for, for_is, bounds_two, bounds_three, counting, bounds}
use Rattle.language.proofs.Grammar.Entries.{every, entry_passes}
use Rattle.language.proofs.Grammar.FirstTokens.{grows}
use Rattle.language.proofs.Text.FloatNumbers.{float_fits}
use Rattle.language.proofs.Grammar.OwnTokens.{Own, plain, worth_of, fraction_of, owns, all_owns, def_owns, program_owns, All, all_none, all_more}

abbrev owns_of : (s : Sym) → Of s → List Own
owns_of program p = program_owns p
owns_of def d = owns d.body
owns_of formals ps = []
owns_of params ps = []
owns_of type t = []
owns_of seq e = owns e
owns_of tail e = owns e
owns_of bound e = owns e
owns_of item e = owns e
owns_of counting e = owns e
owns_of bounds r = all_owns r.parts
owns_of assign e = owns e
owns_of atom e = owns e
owns_of actuals es = all_owns es
owns_of args es = all_owns es
owns_of (tier l) e = owns e

module _ (ts : List Token) where
  -- no number is worth more than its token, and every float is one of 64 bits
  abbrev Worth : Own → Type 0
  Worth o = (o.worth ≤ value_at ts o.at) × T (fits binary64 o.fraction)

  -- from i on each stands behind the one before, and all before j
  pub data Rising : ℕ → List Own → ℕ → Type 0 where
    rising_end : {i j : ℕ} → i ≤ j → Rising i [] j
    rising_next : {i j : ℕ} {o : Own} {os : List Own}
        → i ≤ o.at → Worth o → Rising (o.at + 1) os j → Rising i (o ∷ os) j

  ended : {i j : ℕ} → i ≤ j → Rising i [] j
  ended h = rising_end h

  -- a leaf
  leaf : {i j : ℕ} (k n : ℕ) (x : Float) → i ≤ k → n ≤ value_at ts k → T (fits binary64 x) → k < j
      → Rising i (record { at = k; worth = n; fraction = x } ∷ []) j
  leaf {j = j} k n x h v f l =
      let m : k + 1 ≤ j = omega arith in rising_next {o = record { at = k; worth = n; fraction = x }} h (v, f) (rising_end m)

  -- there may be others before and behind
  after : {i j a : ℕ} {os : List Own} → a ≤ i → Rising i os j → Rising a os j
  after {j = j} {a = a} h (rising_end l) = let m : a ≤ j = omega arith in rising_end m
  after {a = a} h (rising_next {o = o} l v r) = let m : a ≤ o.at = omega arith in rising_next m v r

  until : {i j b : ℕ} {os : List Own} → Rising i os j → j ≤ b → Rising i os b
  until {i = i} {b = b} (rising_end l) h = let m : i ≤ b = omega arith in rising_end m
  until (rising_next l v r) h = rising_next l v (until r h)

  -- one behind another
  joined : {i m n j : ℕ} {os ps : List Own} → Rising i os m → Rising n ps j → m ≤ n → Rising i (os ++ ps) j
  joined (rising_end l) r h = after (omega arith) r
  joined (rising_next l v q) r h = rising_next l v (joined q r h)

  -- a node that is worth nothing, and those behind it
  next : {i n j : ℕ} (k : ℕ) {os : List Own} → Rising n os j → i ≤ k → k < n → Rising i (plain k ∷ os) j
  next k r h l = rising_next {o = plain k} h (omega arith, nan-fits binary64) (after (omega arith) r)

  -- such a node between others
  middle : {i j : ℕ} (k : ℕ) {os ps : List Own} → Rising i os k → Rising (k + 1) ps j → Rising i (os ++ (plain k ∷ ps)) j
  middle k p q = joined p (next {i = k} k q (omega arith) (omega arith)) (omega arith)

  -- a constant is worth nothing
  constant_worth : (i : ℕ) {l : Literal} → entry constants (kind_at ts i) ≡ some l → worth_of l ≤ value_at ts i
  unfolding every
  constant_worth i {l} a =
      omega (arith, leb→le (worth_of l) 0 (entry_passes (λ c x. leb (worth_of x) 0) constants (kind_at ts i) tt a))

  constant_fits : (i : ℕ) {l : Literal} → entry constants (kind_at ts i) ≡ some l → T (fits binary64 (fraction_of l))
  unfolding every fits
  constant_fits i a = entry_passes (λ c x. fits binary64 (fraction_of x)) constants (kind_at ts i) tt a

  rises : {s : Sym} {i j : ℕ} {x : Of s} → Reads ts s i j x → Rising i (owns_of s x) j
  unfolding owns def_owns program_owns
  rises (program_seq p) = rises p
  rises (program_def p q) = joined (rises p) (rises q) (omega arith)
  rises (def_is {k = k} a b c p d q e r f) = next k (until (rises r) (omega arith)) (omega (arith, grows ts p, grows ts q)) (omega arith)
  rises (formals_none a) = ended (omega arith)
  rises (formals_some p a) = ended (omega (arith, grows ts p))
  rises (params_one a b p) = ended (omega (arith, grows ts p))
  rises (params_more a b p c q) = ended (omega (arith, grows ts p, grows ts q))
  rises (type_basic a) = ended (omega arith)
  rises (type_ref p a) = ended (omega (arith, grows ts p))
  rises (seq_tail p) = rises p
  rises (seq_item p) = rises p
  rises (seq_more {m = m} p h q) = middle m (rises p) (rises q)
  rises (tail_let p) = rises p
  rises (tail_if {i} a p b q c r) =
      next i (joined (rises p) (joined (rises q) (rises r) (omega arith)) (omega arith)) (omega arith) (omega arith)
  rises (let_in {i} a b c p d q) = next i (joined (rises p) (rises q) (omega arith)) (omega arith) (omega arith)
  rises (item_if {i} a p b q c r) =
      next i (joined (rises p) (joined (rises q) (rises r) (omega arith)) (omega arith)) (omega arith) (omega arith)
  rises (item_while {i} {m} a p b q c) =
      next i (middle m (rises p) (until (rises q) (omega arith))) (omega arith) (omega arith)
  rises (item_for p) = rises p
  rises (for_is {i} {m} a b c p d q e) =
      next i (joined (rises p) (next {i = m} m (until (rises q) (omega arith)) (omega arith) (omega arith)) (omega arith)) (omega arith) (omega arith)
  rises (bounds_two {j = j} p a q) =
      joined (rises p) (joined (rises q) (ended {i = j} {j = j} (omega arith)) (omega arith)) (omega arith)
  rises (bounds_three {j = j} p a q b r) =
      joined (rises p) (joined (rises q) (joined (rises r) (ended {i = j} {j = j} (omega arith)) (omega arith)) (omega arith)) (omega arith)
  rises (item_assign p) = rises p
  rises (assign_one p) = rises p
  rises (assign_to {m = m} p h q) = middle m (rises p) (rises q)
  rises (chain_one p) = rises p
  rises (chain_more {m = m} p h q) = middle m (rises p) (rises q)
  rises (cmp_one p) = rises p
  rises (cmp_two {m = m} p h q) = middle m (rises p) (rises q)
  rises (un_prefix {i} h p) = next i (rises p) (omega arith) (omega arith)
  rises (un_atom p) = rises p
  rises (atom_name {i} a) = leaf i 0 nan (omega arith) (omega arith) (nan-fits binary64) (omega arith)
  rises (atom_call {i} a b p) = next i (rises p) (omega arith) (omega arith)
  rises (atom_number {i} a) = leaf i (value_at ts i) nan (omega arith) (omega arith) (nan-fits binary64) (omega arith)
  rises (atom_float {i} a) =
      leaf i 0 (float_of (spelling_at ts i)) (omega arith) (omega arith) (float_fits (spelling_at ts i)) (omega arith)
  rises (atom_constant {i} {l} a) = leaf i (worth_of l) (fraction_of l) (omega arith) (constant_worth i a) (constant_fits i a) (omega arith)
  rises (atom_group {i} a p b) = next i (until (rises p) (omega arith)) (omega arith) (omega arith)
  rises (atom_block {i} a p b) = next i (until (rises p) (omega arith)) (omega arith) (omega arith)
  rises (actuals_none a) = ended (omega arith)
  rises (actuals_some p a) = until (rises p) (omega arith)
  rises (args_one {j = j} p) = joined (rises p) (ended {i = j} {j = j} (omega arith)) (omega arith)
  rises (args_more p h q) = joined (rises p) (rises q) (omega arith)

  -- ---- what follows for a reading

  -- what is in the text from i on stands behind i
  low : {i j : ℕ} {os : List Own} (n : ℕ) → Rising i os j → n < length os → i ≤ (get_or os n (plain 0)).at
  low n (rising_end h) l = absurd (omega arith)
  low zero (rising_next h v r) l = h
  low (suc n) (rising_next h v r) l = omega (arith, low n r (omega arith))

  apart : {i j : ℕ} {os : List Own} (m n : ℕ) → Rising i os j → m < n → n < length os
      → (get_or os m (plain 0)).at < (get_or os n (plain 0)).at
  apart m n (rising_end h) k l = absurd (omega arith)
  apart m zero (rising_next h v r) k l = absurd (omega arith)
  apart zero (suc n) (rising_next h v r) k l = omega (arith, low n r (omega arith))
  apart (suc m) (suc n) (rising_next h v r) k l = apart m n r (omega arith) (omega arith)

  span : {i j : ℕ} {os : List Own} → Rising i os j → i ≤ j
  span (rising_end h) = h
  span (rising_next h v r) = omega (arith, span r)

  -- there are no more of them than tokens from i up to j
  pub few : {i j : ℕ} {os : List Own} → Rising i os j → length os + i ≤ j
  few (rising_end h) = omega arith
  few (rising_next h v r) = omega (arith, few r)

  each : {i j : ℕ} {os : List Own} → Rising i os j → All (λ o. (o.at < j) × Worth o) os
  each (rising_end h) = all_none
  each {j = j} (rising_next {o = o} h v r) = let l : o.at < j = omega (arith, span r) in all_more (l, v) (each r)

  module _ (p : Program) (reading : Reading ts p) where
    -- the nodes of all bodies and of the last expression, in the order of the text: each has its own token behind the one before
    pub own_rises : Rising 0 (program_owns p) (length ts)
    own_rises = rises reading

    -- so no two nodes share a token
    pub never_shared : (m n : ℕ) → m < n → n < length (program_owns p)
        → (get_or (program_owns p) m (plain 0)).at < (get_or (program_owns p) n (plain 0)).at
    never_shared m n h l = apart m n own_rises h l

    -- and each has one that was read, no number is worth more than its token, and every float is one of 64 bits
    pub own_inside : All (λ o. (o.at < length ts) × Worth o) (program_owns p)
    own_inside = each own_rises
