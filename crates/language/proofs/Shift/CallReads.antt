-- A book that is read with a number under it, and nothing else outside its functions, is read with a call under it: the
-- functions are the same, and the call is the last expression.
use mathlib.Core.List.{List, [], ◌∷◌, ◌++◌}
use mathlib.Core.Path.{◌≡◌, refl, sym, ap, subst, ◌∙◌}
use Prim.Native.Nat.{ℕ, ◌+◌}
use native.Mathlib.Omega.{arith}
use lib.ListN.{length, get_or, length-append, get_or-append}
use lib.Seq.{get_or-append-add}
use Rattle.language.specs.Tokens.{Token, past, At, kind_at, value_at, spelling_at, NAME, NUMBER, LPAR, RPAR, COMMA}
use Rattle.language.specs.Trees.{Exp, name, literal, whole, unary, binary, follow, group, block, call, bind, branch, loop, counted, last, more}
use Rattle.language.specs.Trees.{Literal, Program}
use Rattle.language.specs.Grammar.{program, seq, tail, item, assign, atom, tier, Tier, or, and, sum, prod, Reads, Reading}
use Rattle.language.specs.Grammar.{program_seq, program_def, seq_tail, seq_item, seq_more, tail_let}
use Rattle.language.specs.Grammar.{tail_if, let_in, item_if, item_while, item_for, for_is}
use Rattle.language.specs.Grammar.{item_assign, assign_one, assign_to, chain_one, chain_more, cmp_one, cmp_two, un_prefix, un_atom}
use Rattle.language.specs.Grammar.{atom_name, atom_call, atom_number, atom_float, atom_constant}
use Rattle.language.specs.Grammar.{atom_group, atom_block, actuals_some, args_one, args_more}
use Rattle.language.proofs.Grammar.FirstTokens.{grows}
use Rattle.language.proofs.Grammar.SameTokens.{Same, reads_same}

-- ---- what is read as a literal is one token

abbrev IsLiteral : Exp → Type 0
IsLiteral (name i x) = ⊥
IsLiteral (literal i l) = Unit {0}
IsLiteral (unary i o e) = ⊥
IsLiteral (binary i o e f) = ⊥
IsLiteral (follow i e f) = ⊥
IsLiteral (group i e) = ⊥
IsLiteral (block i e) = ⊥
IsLiteral (call i x es) = ⊥
IsLiteral (bind i x e f) = ⊥
IsLiteral (branch i c e f) = ⊥
IsLiteral (loop i c e) = ⊥
IsLiteral (counted i x b es e) = ⊥

module _ {ts : List Token} where
  atom_one : {i j : ℕ} {x : Exp} → Reads ts atom i j x → IsLiteral x → j ≡ i + 1
  atom_one (atom_name a) l = absurd l
  atom_one (atom_call a b p) l = absurd l
  atom_one (atom_number a) l = refl
  atom_one (atom_float a) l = refl
  atom_one (atom_constant a) l = refl
  atom_one (atom_group a p b) l = absurd l
  atom_one (atom_block a p b) l = absurd l

  tier_one : {t : Tier} {i j : ℕ} {x : Exp} → Reads ts (tier t) i j x → IsLiteral x → j ≡ i + 1
  tier_one (chain_one p) l = tier_one p l
  tier_one (chain_more p h q) l = absurd l
  tier_one (cmp_one p) l = tier_one p l
  tier_one (cmp_two p h q) l = absurd l
  tier_one (un_prefix h p) l = absurd l
  tier_one (un_atom p) l = atom_one p l

  assign_is_one : {i j : ℕ} {x : Exp} → Reads ts assign i j x → IsLiteral x → j ≡ i + 1
  assign_is_one (assign_one p) l = tier_one p l
  assign_is_one (assign_to p h q) l = absurd l

  item_one : {i j : ℕ} {x : Exp} → Reads ts item i j x → IsLiteral x → j ≡ i + 1
  item_one (item_if a p b q c r) l = absurd l
  item_one (item_while a p b q c) l = absurd l
  item_one (item_for (for_is a b c p d q e)) l = absurd l
  item_one (item_assign p) l = assign_is_one p l

  tail_none : {i j : ℕ} {x : Exp} → Reads ts tail i j x → IsLiteral x → ⊥
  tail_none (tail_let (let_in a b c p d q)) l = l
  tail_none (tail_if a p b q c r) l = l

  pub seq_one : {i j : ℕ} {x : Exp} → Reads ts seq i j x → IsLiteral x → j ≡ i + 1
  seq_one (seq_tail p) l = absurd (tail_none p l)
  seq_one (seq_item p) l = item_one p l
  seq_one (seq_more p h q) l = absurd l

-- ---- a call of two numbers

-- six tokens of these kinds
pub record Calls (ts : List Token) : Type 0 where
  pub name : (get_or ts 0 past).kind ≡ NAME
  pub opening : (get_or ts 1 past).kind ≡ LPAR
  pub first : (get_or ts 2 past).kind ≡ NUMBER
  pub comma : (get_or ts 3 past).kind ≡ COMMA
  pub second : (get_or ts 4 past).kind ≡ NUMBER
  pub closing : (get_or ts 5 past).kind ≡ RPAR
  pub long : length ts ≡ 6

module _ (ts cs : List Token) (is : Calls cs) where
  abbrev us : List Token
  us = ts ++ cs

  abbrev m : ℕ
  m = length ts

  kind_there : (i n : ℕ) {k : ℕ} → i ≡ m + n → (get_or cs n past).kind ≡ k → At us i k
  unfolding kind_at
  kind_there i n e h = ap (λ (i : ℕ). (get_or us i past).kind) e ∙ ap (λ (t : Token). t.kind) (get_or-append-add ts cs n past) ∙ h

  atom_seq : {i j : ℕ} {e : Exp} → Reads us atom i j e → Reads us seq i j e
  atom_seq p =
      seq_item
      (item_assign (assign_one (chain_one {l = or} (chain_one {l = and} (cmp_one (chain_one {l = sum} (chain_one {l = prod} (un_atom p))))))))

  number_seq : (i : ℕ) → At us i NUMBER → Reads us seq i (i + 1) (literal i (whole (value_at us i)))
  number_seq i a = atom_seq (atom_number a)

  abbrev pub called : Exp
  called =
      call m (spelling_at us m)
      (more (literal (m + 2) (whole (value_at us (m + 2))))
      (more (literal (m + 2 + 1 + 1) (whole (value_at us (m + 2 + 1 + 1)))) last))

  call_seq : Reads us seq m (m + 2 + 1 + 1 + 1 + 1) called
  call_seq =
      let first = number_seq (m + 2) (kind_there (m + 2) 2 refl is.first) in
      let comma : At us (m + 2 + 1) COMMA = kind_there (m + 2 + 1) 3 (omega arith) is.comma in
      let second = number_seq (m + 2 + 1 + 1) (kind_there (m + 2 + 1 + 1) 4 (omega arith) is.second) in
      let closing : At us (m + 2 + 1 + 1 + 1) RPAR = kind_there (m + 2 + 1 + 1 + 1) 5 (omega arith) is.closing in
      let inner = actuals_some (args_more first comma (args_one second)) closing in
      let whole_call = atom_call (kind_there m 0 (omega arith) is.name) (kind_there (m + 1) 1 refl is.opening) inner in
      atom_seq whole_call

  us_long : length us ≡ m + 2 + 1 + 1 + 1 + 1
  us_long = omega (arith, length-append ts cs, is.long)

  -- the functions of a program, with the call as its last expression
  abbrev pub calling : Program → Program
  calling p = record { defs = p.defs; main = called }

  -- ---- the same functions, and the call

  module _ (z : Token) where
    abbrev os : List Token
    os = ts ++ (z ∷ [])

    same_front : Same os us m
    same_front = record { tokens = λ k h. get_or-append ts cs past k h ∙ sym (get_or-append ts (z ∷ []) past k h) }

    reads_on : {i j : ℕ} {p : Program} → Reads os program i j p → j ≡ m + 1 → IsLiteral p.main → Reads us program i (length us) (calling p)
    reads_on {i} (program_seq {e = e} p) h l =
        let k : i ≡ m = omega (arith, seq_one p l) in
        program_seq (subst (λ (n : ℕ). Reads us seq n (length us) called) (sym k) (rw us_long call_seq))
    reads_on (program_def d p) h l = program_def (reads_same same_front d (omega (arith, grows os p))) (reads_on p h l)

    pub call_reads : {p : Program} → Reading os p → IsLiteral p.main → Reading us (calling p)
    call_reads r l = reads_on r (simp length-append) l

-- a program whose last expression is a literal
pub is_literal : (e : Exp) {i : ℕ} {l : Literal} → e ≡ literal i l → IsLiteral e
is_literal e h = subst IsLiteral (sym h) tt
