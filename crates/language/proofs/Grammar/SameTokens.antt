-- A reading needs no tokens but its own: where the tokens are the same up to its end, there is the same one.
use mathlib.Core.Path.{◌≡◌, ap, subst}
use mathlib.Core.List.{List, ◌∷◌, []}
use Prim.Native.Nat.{ℕ, ◌+◌, ◌≤◌, ◌<◌}
use native.Mathlib.Omega.{arith}
use lib.ListN.{get_or}
use Rattle.language.specs.Tokens.{Token, Spelling, past, At, Means, kind_at, value_at, spelling_at, Entry}
use Rattle.language.specs.Trees.{name, literal, whole, decimal, block, call, bind, counted}
use Rattle.language.specs.Decimals.{float_of}
use Rattle.language.specs.Grammar.{Of, Sym, def, params, bound, counting, atom, operators, comparisons, ranges, prefixes, constants, basics, Reads}
use Rattle.language.specs.Grammar.{program_seq, program_def, def_is, formals_none, formals_some, params_one, params_more, type_basic}
use Rattle.language.specs.Grammar.{type_ref, seq_tail, seq_item, seq_more, tail_let, tail_if, let_in, item_if, item_while, item_for, item_assign}
use Rattle.language.specs.Grammar.{for_is, bounds_two, bounds_three, atom_float}
use Rattle.language.specs.Grammar.{assign_one, assign_to, chain_one, chain_more, cmp_one, cmp_two, un_prefix, un_atom, atom_name, atom_call}
use Rattle.language.specs.Grammar.{atom_number, atom_constant, atom_group, atom_block, actuals_none, actuals_some, args_one, args_more}
use Rattle.language.proofs.Grammar.FirstTokens.{grows}
use Rattle.language.proofs.Grammar.Prefixes.{Alike, kept_at, kept_means}

-- before e the tokens are the same
pub record Same (ts us : List Token) (e : ℕ) : Type 0 where
  pub tokens : (k : ℕ) → k < e → get_or us k past ≡ get_or ts k past

module _ {ts us : List Token} {e : ℕ} (same : Same ts us e) where
  like : Alike ts us e
  unfolding kind_at
  like = record { same = λ k h. ap (λ (t : Token). t.kind) (same.tokens k h) }

  worth : (i : ℕ) → i < e → value_at us i ≡ value_at ts i
  unfolding value_at
  worth i h = ap (λ (t : Token). t.value) (same.tokens i h)

  spelt : (i : ℕ) → i < e → spelling_at us i ≡ spelling_at ts i
  unfolding spelling_at
  spelt i h = ap (λ (t : Token). t.spelling) (same.tokens i h)

  at : {k : ℕ} (i : ℕ) → At ts i k → i < e → At us i k
  at = kept_at like

  means : {A : Type 0} (i : ℕ) (rows : List (Entry ℕ A)) {a : A} → Means ts i rows a → i < e → Means us i rows a
  means = kept_means like

  pub reads_same : {s : Sym} {i j : ℕ} {x : Of s} → Reads ts s i j x → j ≤ e → Reads us s i j x
  reads_same (program_seq p) h = program_seq (reads_same p h)
  reads_same (program_def p q) h = program_def (reads_same p (omega (arith, grows ts q))) (reads_same q h)
  reads_same (def_is {i} {m} {k} {n} {ps} {t} {e = b} a c d p f q g r l) h =
      let x = grows ts p in
      let y = grows ts q in
      let z = grows ts r in
      subst
      (λ (s : Spelling).
      Reads us def i (n + 1) record { at = i; named = i + 1; called = s; params = ps; result = t; body = block k b })
      (spelt (i + 1) (omega arith))
      (def_is (at i a (omega arith)) (at (i + 1) c (omega arith)) (at (i + 2) d (omega arith)) (reads_same p (omega arith)) (at m f (omega arith))
      (reads_same q (omega arith)) (at k g (omega arith)) (reads_same r (omega arith)) (at n l (omega arith)))
  reads_same (formals_none {i} a) h = formals_none (at i a (omega arith))
  reads_same (formals_some {k = k} p a) h = formals_some (reads_same p (omega arith)) (at k a (omega arith))
  reads_same (params_one {i} {j} {t} a b p) h =
      let x = grows ts p in
      subst (λ (s : Spelling). Reads us params i j (record { at = i; called = s; type = t } ∷ [])) (spelt i (omega arith))
      (params_one (at i a (omega arith)) (at (i + 1) b (omega arith)) (reads_same p h))
  reads_same (params_more {i} {m} {j} {t} {ps} a b p c q) h =
      let x = grows ts p in
      let y = grows ts q in
      subst (λ (s : Spelling). Reads us params i j (record { at = i; called = s; type = t } ∷ ps)) (spelt i (omega arith))
      (params_more (at i a (omega arith)) (at (i + 1) b (omega arith)) (reads_same p (omega arith)) (at m c (omega arith)) (reads_same q h))
  reads_same (type_basic {i} a) h = type_basic (means i basics a (omega arith))
  reads_same (type_ref {m = m} p a) h = type_ref (reads_same p (omega arith)) (at m a (omega arith))
  reads_same (seq_tail p) h = seq_tail (reads_same p h)
  reads_same (seq_item p) h = seq_item (reads_same p h)
  reads_same (seq_more {m = m} p a q) h =
      let x = grows ts q in seq_more (reads_same p (omega arith)) (at m a (omega arith)) (reads_same q h)
  reads_same (tail_let p) h = tail_let (reads_same p h)
  reads_same (tail_if {i} {m} {k} a p b q c r) h =
      let x = grows ts p in
      let y = grows ts q in
      let z = grows ts r in
      tail_if (at i a (omega arith)) (reads_same p (omega arith)) (at m b (omega arith)) (reads_same q (omega arith)) (at k c (omega arith))
      (reads_same r h)
  reads_same (let_in {i} {m} {j} {e = f} {f = g} a b c p d q) h =
      let x = grows ts p in
      let y = grows ts q in
      subst (λ (s : Spelling). Reads us bound i j (bind i s f g)) (spelt (i + 1) (omega arith))
      (let_in (at i a (omega arith)) (at (i + 1) b (omega arith)) (at (i + 2) c (omega arith)) (reads_same p (omega arith)) (at m d (omega arith))
      (reads_same q h))
  reads_same (item_if {i} {m} {k} a p b q c r) h =
      let x = grows ts p in
      let y = grows ts q in
      let z = grows ts r in
      item_if (at i a (omega arith)) (reads_same p (omega arith)) (at m b (omega arith)) (reads_same q (omega arith)) (at k c (omega arith))
      (reads_same r h)
  reads_same (item_while {i} {m} {k} a p b q c) h =
      let x = grows ts p in
      let y = grows ts q in
      item_while (at i a (omega arith)) (reads_same p (omega arith)) (at m b (omega arith)) (reads_same q (omega arith)) (at k c (omega arith))
  reads_same (item_for p) h = item_for (reads_same p h)
  reads_same (for_is {i} {m} {k} {r} {e = f} a b c p d q g) h =
      let x = grows ts p in
      let y = grows ts q in
      subst (λ (s : Spelling). Reads us counting i (k + 1) (counted i s r.through r.parts (block m f))) (spelt (i + 1) (omega arith))
      (for_is (at i a (omega arith)) (at (i + 1) b (omega arith)) (at (i + 2) c (omega arith)) (reads_same p (omega arith)) (at m d (omega arith))
      (reads_same q (omega arith)) (at k g (omega arith)))
  reads_same (bounds_two {m = m} p a q) h =
      let x = grows ts q in bounds_two (reads_same p (omega arith)) (means m ranges a (omega arith)) (reads_same q h)
  reads_same (bounds_three {m = m} {k = k} p a q b r) h =
      let x = grows ts q in
      let y = grows ts r in
      bounds_three (reads_same p (omega arith)) (means m ranges a (omega arith)) (reads_same q (omega arith)) (at k b (omega arith)) (reads_same r h)
  reads_same (item_assign p) h = item_assign (reads_same p h)
  reads_same (assign_one p) h = assign_one (reads_same p h)
  reads_same (assign_to {m = m} p a q) h =
      let x = grows ts q in assign_to (reads_same p (omega arith)) (at m a (omega arith)) (reads_same q h)
  reads_same (chain_one p) h = chain_one (reads_same p h)
  reads_same (chain_more {l} {m = m} p a q) h =
      let x = grows ts q in chain_more (reads_same p (omega arith)) (means m (operators l) a (omega arith)) (reads_same q h)
  reads_same (cmp_one p) h = cmp_one (reads_same p h)
  reads_same (cmp_two {m = m} p a q) h =
      let x = grows ts q in cmp_two (reads_same p (omega arith)) (means m comparisons a (omega arith)) (reads_same q h)
  reads_same (un_prefix {i} a p) h = let x = grows ts p in un_prefix (means i prefixes a (omega arith)) (reads_same p h)
  reads_same (un_atom p) h = un_atom (reads_same p h)
  reads_same (atom_name {i} a) h =
      subst (λ (s : Spelling). Reads us atom i (i + 1) (name i s)) (spelt i (omega arith)) (atom_name (at i a (omega arith)))
  reads_same (atom_call {i} {j} {es} a b p) h =
      let x = grows ts p in
      subst (λ (s : Spelling). Reads us atom i j (call i s es)) (spelt i (omega arith))
      (atom_call (at i a (omega arith)) (at (i + 1) b (omega arith)) (reads_same p h))
  reads_same (atom_number {i} a) h =
      subst (λ (n : ℕ). Reads us atom i (i + 1) (literal i (whole n))) (worth i (omega arith)) (atom_number (at i a (omega arith)))
  reads_same (atom_float {i} a) h =
      subst (λ (s : Spelling). Reads us atom i (i + 1) (literal i (decimal (float_of s)))) (spelt i (omega arith)) (atom_float (at i a (omega arith)))
  reads_same (atom_constant {i} a) h = atom_constant (means i constants a (omega arith))
  reads_same (atom_group {i} {k} a p b) h =
      let x = grows ts p in atom_group (at i a (omega arith)) (reads_same p (omega arith)) (at k b (omega arith))
  reads_same (atom_block {i} {k} a p b) h =
      let x = grows ts p in atom_block (at i a (omega arith)) (reads_same p (omega arith)) (at k b (omega arith))
  reads_same (actuals_none {i} a) h = actuals_none (at i a (omega arith))
  reads_same (actuals_some {k = k} p a) h = actuals_some (reads_same p (omega arith)) (at k a (omega arith))
  reads_same (args_one p) h = args_one (reads_same p h)
  reads_same (args_more {m = m} p a q) h =
      let x = grows ts q in args_more (reads_same p (omega arith)) (at m a (omega arith)) (reads_same q h)
