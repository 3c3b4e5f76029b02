-- A reading lies inside its tokens, and needs no others: where tokens are of the same kinds up to its end, there is one too.
use mathlib.Core.Path.{◌≡◌, refl, sym, ap, ◌∙◌}
use mathlib.Core.List.{List}
use Prim.Native.Nat.{ℕ, ◌+◌, ◌≤◌, ◌<◌}
use native.Mathlib.Decide.{dec_le}
use native.Mathlib.Omega.{arith}
use lib.ListN.{length, get_or-eq_default}
use lib.Dec.{T, ltb, ltb→lt}
use Rattle.language.specs.Tokens.{Token, Entry, past, At, Means, kind_at, entry}
use Rattle.language.specs.Trees.{Binary}
use Rattle.language.specs.Grammar.{Of, Sym, Level, or, and, sum, prod, operators, comparisons, prefixes, constants, basics, Reads, program_seq}
use Rattle.language.specs.Grammar.{program_def, def_is, formals_none, formals_some, params_one, params_more, type_basic, type_ref, seq_tail, seq_item}
use Rattle.language.specs.Grammar.{seq_more, tail_let, tail_if, let_in, item_if, item_while, item_assign, assign_one, assign_to, chain_one, chain_more}
use Rattle.language.specs.Grammar.{cmp_one, cmp_two, un_prefix, un_atom, atom_name, atom_call, atom_number, atom_float, atom_constant, atom_group}
use Rattle.language.specs.Grammar.{atom_block, actuals_none, actuals_some, args_one, args_more, item_for, for_is, bounds_two, bounds_three, ranges}
use Rattle.language.proofs.Grammar.Entries.{every, entry_passes}
use Rattle.language.proofs.Grammar.FirstTokens.{grows}

-- ---- inside its tokens

module _ (ts : List Token) where
  -- a token of some kind is one of them
  pub inside : {k : ℕ} (i : ℕ) → At ts i k → 0 < k → i < length ts
  unfolding kind_at
  inside {k} i a h = go (dec_le (length ts) i)
    where
      go : Dec (length ts ≤ i) → i < length ts
      go (yes l) = absurd (omega (arith, sym a ∙ ap (λ (t : Token). t.kind) (get_or-eq_default ts past l)))
      go (no l) = omega (arith, l)

  -- so is one that a table has
  pub in_table : {A : Type 0} (i : ℕ) (rows : List (Entry ℕ A)) {a : A} → T (every (λ c _. ltb 0 c) rows) → Means ts i rows a → i < length ts
  in_table i rows t h = inside i refl (ltb→lt 0 (kind_at ts i) (entry_passes (λ c _. ltb 0 c) rows (kind_at ts i) t h))

  pub operator_there : (l : Level) (i : ℕ) {o : Binary} → Means ts i (operators l) o → i + 1 ≤ length ts
  unfolding every
  operator_there or i a = omega (arith, in_table i (operators or) tt a)
  operator_there and i a = omega (arith, in_table i (operators and) tt a)
  operator_there sum i a = omega (arith, in_table i (operators sum) tt a)
  operator_there prod i a = omega (arith, in_table i (operators prod) tt a)

  pub within : {s : Sym} {i j : ℕ} {x : Of s} → Reads ts s i j x → j ≤ length ts
  unfolding every
  within (program_seq p) = within p
  within (program_def p q) = within q
  within (def_is {n = n} a b c p d q e r f) = omega (arith, inside n f (omega arith))
  within (formals_none {i} a) = omega (arith, inside i a (omega arith))
  within (formals_some {k = k} p a) = omega (arith, inside k a (omega arith))
  within (params_one a b p) = within p
  within (params_more a b p c q) = within q
  within (type_basic {i} a) = omega (arith, in_table i basics tt a)
  within (type_ref {m = m} p a) = omega (arith, inside m a (omega arith))
  within (seq_tail p) = within p
  within (seq_item p) = within p
  within (seq_more p h q) = within q
  within (tail_let p) = within p
  within (tail_if a p b q c r) = within r
  within (let_in a b c p d q) = within q
  within (item_if a p b q c r) = within r
  within (item_while {k = k} a p b q c) = omega (arith, inside k c (omega arith))
  within (item_for p) = within p
  within (for_is {k = k} a b c p d q e) = omega (arith, inside k e (omega arith))
  within (bounds_two p a q) = within q
  within (bounds_three p a q b r) = within r
  within (item_assign p) = within p
  within (assign_one p) = within p
  within (assign_to p h q) = within q
  within (chain_one p) = within p
  within (chain_more p h q) = within q
  within (cmp_one p) = within p
  within (cmp_two p h q) = within q
  within (un_prefix h p) = within p
  within (un_atom p) = within p
  within (atom_name {i} a) = omega (arith, inside i a (omega arith))
  within (atom_call a b p) = within p
  within (atom_number {i} a) = omega (arith, inside i a (omega arith))
  within (atom_float {i} a) = omega (arith, inside i a (omega arith))
  within (atom_constant {i} a) = omega (arith, in_table i constants tt a)
  within (atom_group {k = k} a p b) = omega (arith, inside k b (omega arith))
  within (atom_block {k = k} a p b) = omega (arith, inside k b (omega arith))
  within (actuals_none {i} a) = omega (arith, inside i a (omega arith))
  within (actuals_some {k = k} p a) = omega (arith, inside k a (omega arith))
  within (args_one p) = within p
  within (args_more p h q) = within q

-- ---- of no others

-- something is read by s from i up to j
abbrev pub Spans : List Token → Sym → ℕ → ℕ → Type 0
Spans ts s i j = (x : Of s) × Reads ts s i j x

-- before e the tokens are of the same kinds
pub record Alike (ts us : List Token) (e : ℕ) : Type 0 where
  pub same : (k : ℕ) → k < e → kind_at us k ≡ kind_at ts k

module _ {ts us : List Token} {e : ℕ} (alike : Alike ts us e) where
  pub kept_at : {k : ℕ} (i : ℕ) → At ts i k → i < e → At us i k
  kept_at i a h = alike.same i h ∙ a

  pub kept_means : {A : Type 0} (i : ℕ) (rows : List (Entry ℕ A)) {a : A} → Means ts i rows a → i < e → Means us i rows a
  kept_means i rows a h = ap (entry rows) (alike.same i h) ∙ a

  pub kept : {s : Sym} {i j : ℕ} {x : Of s} → Reads ts s i j x → j ≤ e → Spans us s i j
  kept (program_seq p) h = (_, program_seq (kept p h).1)
  kept (program_def p q) h = (_, program_def (kept p (omega (arith, grows ts q))).1 (kept q h).1)
  kept (def_is {i} {m} {k} {n} a b c p d q f r g) h =
      let x = grows ts p in
      let y = grows ts q in
      let z = grows ts r in
      let head : At us i _ = kept_at i a (omega arith) in (
        _,
        def_is head (kept_at (i + 1) b (omega arith)) (kept_at (i + 2) c (omega arith)) (kept p (omega arith)).1
            (kept_at m d (omega arith)) (kept q (omega arith)).1 (kept_at k f (omega arith)) (kept r (omega arith)).1 (kept_at n g (omega arith)),
      )
  kept (formals_none {i} a) h = (_, formals_none (kept_at i a (omega arith)))
  kept (formals_some {k = k} p a) h = (_, formals_some (kept p (omega arith)).1 (kept_at k a (omega arith)))
  kept (params_one {i} a b p) h =
      let x = grows ts p in (_, params_one (kept_at i a (omega arith)) (kept_at (i + 1) b (omega arith)) (kept p h).1)
  kept (params_more {i} {m} a b p c q) h =
      let x = grows ts p in
      let y = grows ts q in (
        _,
        params_more (kept_at i a (omega arith)) (kept_at (i + 1) b (omega arith)) (kept p (omega arith)).1 (kept_at m c (omega arith)) (kept q h).1,
      )
  kept (type_basic {i} a) h = (_, type_basic (kept_means i basics a (omega arith)))
  kept (type_ref {m = m} p a) h = (_, type_ref (kept p (omega arith)).1 (kept_at m a (omega arith)))
  kept (seq_tail p) h = (_, seq_tail (kept p h).1)
  kept (seq_item p) h = (_, seq_item (kept p h).1)
  kept (seq_more {m = m} p a q) h =
      let x = grows ts q in (_, seq_more (kept p (omega arith)).1 (kept_at m a (omega arith)) (kept q h).1)
  kept (tail_let p) h = (_, tail_let (kept p h).1)
  kept (tail_if {i} {m} {k} a p b q c r) h =
      let x = grows ts p in
      let y = grows ts q in
      let z = grows ts r in (
        _,
        tail_if (kept_at i a (omega arith)) (kept p (omega arith)).1 (kept_at m b (omega arith)) (kept q (omega arith)).1
            (kept_at k c (omega arith)) (kept r h).1,
      )
  kept (let_in {i} {m} a b c p d q) h =
      let x = grows ts p in
      let y = grows ts q in (
        _,
        let_in (kept_at i a (omega arith)) (kept_at (i + 1) b (omega arith)) (kept_at (i + 2) c (omega arith)) (kept p (omega arith)).1
            (kept_at m d (omega arith)) (kept q h).1,
      )
  kept (item_if {i} {m} {k} a p b q c r) h =
      let x = grows ts p in
      let y = grows ts q in
      let z = grows ts r in (
        _,
        item_if (kept_at i a (omega arith)) (kept p (omega arith)).1 (kept_at m b (omega arith)) (kept q (omega arith)).1
            (kept_at k c (omega arith)) (kept r h).1,
      )
  kept (item_while {i} {m} {k} a p b q c) h =
      let x = grows ts p in
      let y = grows ts q in (
        _,
        item_while (kept_at i a (omega arith)) (kept p (omega arith)).1 (kept_at m b (omega arith)) (kept q (omega arith)).1
            (kept_at k c (omega arith)),
      )
  kept (item_for p) h = (_, item_for (kept p h).1)
  kept (for_is {i} {m} {k} a b c p d q e) h =
      let x = grows ts p in
      let y = grows ts q in (
        _,
        for_is (kept_at i a (omega arith)) (kept_at (i + 1) b (omega arith)) (kept_at (i + 2) c (omega arith)) (kept p (omega arith)).1
            (kept_at m d (omega arith)) (kept q (omega arith)).1 (kept_at k e (omega arith)),
      )
  kept (bounds_two {m = m} p a q) h =
      let x = grows ts q in (_, bounds_two (kept p (omega arith)).1 (kept_means m ranges a (omega arith)) (kept q h).1)
  kept (bounds_three {m = m} {k = k} p a q b r) h =
      let x = grows ts q in
      let y = grows ts r in (
        _,
        bounds_three (kept p (omega arith)).1 (kept_means m ranges a (omega arith)) (kept q (omega arith)).1
            (kept_at k b (omega arith)) (kept r h).1,
      )
  kept (item_assign p) h = (_, item_assign (kept p h).1)
  kept (assign_one p) h = (_, assign_one (kept p h).1)
  kept (assign_to {m = m} p a q) h =
      let x = grows ts q in (_, assign_to (kept p (omega arith)).1 (kept_at m a (omega arith)) (kept q h).1)
  kept (chain_one p) h = (_, chain_one (kept p h).1)
  kept (chain_more {l} {m = m} p a q) h =
      let x = grows ts q in (_, chain_more (kept p (omega arith)).1 (kept_means m (operators l) a (omega arith)) (kept q h).1)
  kept (cmp_one p) h = (_, cmp_one (kept p h).1)
  kept (cmp_two {m = m} p a q) h =
      let x = grows ts q in (_, cmp_two (kept p (omega arith)).1 (kept_means m comparisons a (omega arith)) (kept q h).1)
  kept (un_prefix {i} a p) h = let x = grows ts p in (_, un_prefix (kept_means i prefixes a (omega arith)) (kept p h).1)
  kept (un_atom p) h = (_, un_atom (kept p h).1)
  kept (atom_name {i} a) h = (_, atom_name (kept_at i a (omega arith)))
  kept (atom_call {i} a b p) h =
      let x = grows ts p in (_, atom_call (kept_at i a (omega arith)) (kept_at (i + 1) b (omega arith)) (kept p h).1)
  kept (atom_number {i} a) h = (_, atom_number (kept_at i a (omega arith)))
  kept (atom_float {i} a) h = (_, atom_float (kept_at i a (omega arith)))
  kept (atom_constant {i} a) h = (_, atom_constant (kept_means i constants a (omega arith)))
  kept (atom_group {i} {k} a p b) h =
      let x = grows ts p in (_, atom_group (kept_at i a (omega arith)) (kept p (omega arith)).1 (kept_at k b (omega arith)))
  kept (atom_block {i} {k} a p b) h =
      let x = grows ts p in (_, atom_block (kept_at i a (omega arith)) (kept p (omega arith)).1 (kept_at k b (omega arith)))
  kept (actuals_none {i} a) h = (_, actuals_none (kept_at i a (omega arith)))
  kept (actuals_some {k = k} p a) h = (_, actuals_some (kept p (omega arith)).1 (kept_at k a (omega arith)))
  kept (args_one p) h = (_, args_one (kept p h).1)
  kept (args_more {m = m} p a q) h =
      let x = grows ts q in (_, args_more (kept p (omega arith)).1 (kept_at m a (omega arith)) (kept q h).1)
