-- The body of a let reaches as far right as it can (R05.2): a `;` and a Seq behind a Tail are read as part of it. And what ends
-- in a let, through the last branches of any number of `if`, is no Item: nothing follows it in its Seq.
use mathlib.Core.List.{List}
use Prim.Native.Nat.{ℕ, zero, suc, ◌+◌, ◌*◌, ◌≤◌}
use native.Mathlib.Omega.{arith}
use Rattle.language.specs.Tokens.{Token, At, SEMI}
use Rattle.language.specs.Trees.{Exp, name, literal, unary, binary, follow, group, block, call, bind, branch, loop, counted}
use Rattle.language.specs.Grammar.{Of, Sym, Tier, tier, seq, tail, bound, item, assign, atom, Reads, seq_tail, seq_item, seq_more, tail_let, tail_if}
use Rattle.language.specs.Grammar.{let_in, item_if, item_while, item_assign, assign_one, assign_to, chain_one, chain_more, cmp_one, cmp_two, un_prefix}
use Rattle.language.specs.Grammar.{un_atom, atom_name, atom_call, atom_number, atom_float, atom_constant, atom_group, atom_block, item_for, for_is}
use Rattle.language.proofs.Grammar.FirstTokens.{grows}

-- what a `;` goes on with; each is read as the one below it, or by fewer tokens
data Open : Sym → ℕ → Type 0 where
  open_seq : Open seq 2
  open_tail : Open tail 1
  open_let : Open bound 0

module _ {ts : List Token} where
  goes_on : (n : ℕ) {s : Sym} {k i m j : ℕ} {e : Of s} {f : Exp} → Open s k → Reads ts s i m e → 3 * m + k ≤ n + 3 * i
      → At ts m SEMI → Reads ts seq (m + 1) j f → (x : Of s) × Reads ts s i j x
  goes_on zero o p l h q = absurd (omega (arith, grows ts p))
  goes_on (suc n) open_seq (seq_tail p) l h q = let z = goes_on n open_tail p (omega arith) h q in (z.0, seq_tail z.1)
  goes_on (suc n) open_seq (seq_item p) l h q = (_, seq_more p h q)
  goes_on (suc n) open_seq (seq_more p g r) l h q =
      let z = goes_on n open_seq r (omega (arith, grows ts p)) h q in (_, seq_more p g z.1)
  goes_on (suc n) open_tail (tail_let p) l h q = let z = goes_on n open_let p (omega arith) h q in (z.0, tail_let z.1)
  goes_on (suc n) open_tail (tail_if a p b r c s) l h q =
      let z = goes_on n open_tail s (omega (arith, grows ts p, grows ts r)) h q in (_, tail_if a p b r c z.1)
  goes_on (suc n) open_let (let_in a b c p d r) l h q =
      let z = goes_on n open_seq r (omega (arith, grows ts p)) h q in (_, let_in a b c p d z.1)

  -- a Tail takes what is behind it
  pub takes_the_rest : {i m j : ℕ} {e f : Exp} → Reads ts tail i m e → At ts m SEMI → Reads ts seq (m + 1) j f
      → (x : Exp) × Reads ts tail i j x
  takes_the_rest {m = m} p h q = goes_on (3 * m + 1) open_tail p (omega arith) h q

-- ---- what ends in a let

abbrev pub EndsInLet : Exp → Type 0
EndsInLet (name i x) = ⊥
EndsInLet (literal i l) = ⊥
EndsInLet (unary i o e) = ⊥
EndsInLet (binary i o e f) = ⊥
EndsInLet (follow i e f) = ⊥
EndsInLet (group i e) = ⊥
EndsInLet (block i e) = ⊥
EndsInLet (call i x es) = ⊥
EndsInLet (bind i x e f) = Unit {0}
EndsInLet (branch i c e f) = EndsInLet f
EndsInLet (loop i c e) = ⊥
EndsInLet (counted i x b es e) = ⊥

module _ {ts : List Token} where
  -- every Tail does
  pub tail_ends : {i j : ℕ} {x : Exp} → Reads ts tail i j x → EndsInLet x
  tail_ends (tail_let (let_in a b c p d q)) = tt
  tail_ends (tail_if a p b q c r) = tail_ends r

  atom_does_not : {i j : ℕ} {x : Exp} → Reads ts atom i j x → EndsInLet x → ⊥
  atom_does_not (atom_name a) e = e
  atom_does_not (atom_call a b p) e = e
  atom_does_not (atom_number a) e = e
  atom_does_not (atom_float a) e = e
  atom_does_not (atom_constant a) e = e
  atom_does_not (atom_group a p b) e = e
  atom_does_not (atom_block a p b) e = e

  tier_does_not : {t : Tier} {i j : ℕ} {x : Exp} → Reads ts (tier t) i j x → EndsInLet x → ⊥
  tier_does_not (chain_one p) e = tier_does_not p e
  tier_does_not (chain_more p h q) e = e
  tier_does_not (cmp_one p) e = tier_does_not p e
  tier_does_not (cmp_two p h q) e = e
  tier_does_not (un_prefix h p) e = e
  tier_does_not (un_atom p) e = atom_does_not p e

  assign_does_not : {i j : ℕ} {x : Exp} → Reads ts assign i j x → EndsInLet x → ⊥
  assign_does_not (assign_one p) e = tier_does_not p e
  assign_does_not (assign_to p h q) e = e

  -- and no Item, which is all that a `;` can stand behind
  pub item_does_not : {i j : ℕ} {x : Exp} → Reads ts item i j x → EndsInLet x → ⊥
  item_does_not (item_if a p b q c r) e = item_does_not r e
  item_does_not (item_while a p b q c) e = e
  item_does_not (item_for (for_is a b c p d q f)) e = e
  item_does_not (item_assign p) e = assign_does_not p e
