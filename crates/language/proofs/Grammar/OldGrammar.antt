-- The grammar as the paper first has it (S022 to S035), in which no Let follows `else` (R05.1). It is kept for two theorems: what
-- it reads is read now as the same tree (R05.4), and where no `let` stands directly behind an `else` nothing else is read now.
-- What has no Seq in it is as it is now, and is not said again.
use mathlib.Core.Bool.{Bool}
use mathlib.Core.List.{List, []}
use mathlib.Core.Logic.{◌↔◌}
use mathlib.Core.Path.{◌≡◌, refl, subst}
use Prim.Native.Nat.{ℕ, ◌+◌}
use lib.ListN.{length}
use Rattle.language.specs.Tokens.{Token, At, Means, value_at, spelling_at, NAME, NUMBER, FLOAT_NUMBER, DEF, LET, IN, WHILE}
use Rattle.language.specs.Tokens.{IF, THEN, ELSE, BECOMES, IS, SEMI, COMMA, COLON, LPAR, RPAR, LBRACE, RBRACE, FOR, BY}
use Rattle.language.specs.Decimals.{float_of}
use Rattle.language.specs.Trees.{Ty, Literal, whole, decimal, Unary, Binary, Exp, name, literal, unary, binary, follow}
use Rattle.language.specs.Trees.{group, block, call, bind, branch, loop, Exps, last, more, Param, Def, Program, counted}
use Rattle.language.specs.Grammar.{Level, or, sum, cmp, un, chain, Sym, Of, tier, program, def, formals, params, type, seq, tail}
use Rattle.language.specs.Grammar.{bound, item, assign, atom, actuals, args, part, operators, comparisons, prefixes, constants}
use Rattle.language.specs.Grammar.{define, before, Reads, Reading, counting, bounds, Span, ranges, two_parts, three_parts}
use Rattle.language.specs.Grammar as Now

pub data OldReads (ts : List Token) : (s : Sym) → ℕ → ℕ → Of s → Type 0 where
  program_seq : {i j : ℕ} {e : Exp} → OldReads ts seq i j e → OldReads ts program i j record { defs = []; main = e }
  program_def : {i m j : ℕ} {d : Def} {p : Program}
      → OldReads ts def i m d → OldReads ts program m j p → OldReads ts program i j (before d p)
  def_is : {i m k n : ℕ} {ps : List Param} {t : Ty} {e : Exp}
      → At ts i DEF → At ts (i + 1) NAME → At ts (i + 2) LPAR → Reads ts formals (i + 3) m ps
      → At ts m COLON → Reads ts type (m + 1) k t → At ts k LBRACE → OldReads ts seq (k + 1) n e → At ts n RBRACE
      → OldReads ts def i (n + 1) (define ts i ps t (block k e))
  seq_let : {i j : ℕ} {e : Exp} → OldReads ts bound i j e → OldReads ts seq i j e
  seq_item : {i j : ℕ} {e : Exp} → OldReads ts item i j e → OldReads ts seq i j e
  seq_more : {i m j : ℕ} {e f : Exp}
      → OldReads ts item i m e → At ts m SEMI → OldReads ts seq (m + 1) j f → OldReads ts seq i j (follow m e f)
  let_in : {i m j : ℕ} {e f : Exp}
      → At ts i LET → At ts (i + 1) NAME → At ts (i + 2) IS → OldReads ts seq (i + 3) m e
      → At ts m IN → OldReads ts seq (m + 1) j f → OldReads ts bound i j (bind i (spelling_at ts (i + 1)) e f)
  item_if : {i m k j : ℕ} {c e f : Exp}
      → At ts i IF → OldReads ts seq (i + 1) m c → At ts m THEN → OldReads ts seq (m + 1) k e
      → At ts k ELSE → OldReads ts item (k + 1) j f → OldReads ts item i j (branch i c e f)
  item_while : {i m k : ℕ} {c e : Exp}
      → At ts i WHILE → OldReads ts seq (i + 1) m c → At ts m LBRACE → OldReads ts seq (m + 1) k e → At ts k RBRACE
      → OldReads ts item i (k + 1) (loop i c (block m e))
  item_for : {i j : ℕ} {e : Exp} → OldReads ts counting i j e → OldReads ts item i j e
  for_is : {i m k : ℕ} {r : Span} {e : Exp}
      → At ts i FOR → At ts (i + 1) NAME → At ts (i + 2) IN → OldReads ts bounds (i + 3) m r → At ts m LBRACE
      → OldReads ts seq (m + 1) k e → At ts k RBRACE
      → OldReads ts counting i (k + 1) (counted i (spelling_at ts (i + 1)) r.through r.parts (block m e))
  bounds_two : {i m j : ℕ} {b : Bool} {e f : Exp}
      → OldReads ts (tier (chain or)) i m e → Means ts m ranges b → OldReads ts (tier (chain or)) (m + 1) j f
      → OldReads ts bounds i j (two_parts b e f)
  bounds_three : {i m k j : ℕ} {b : Bool} {e f g : Exp}
      → OldReads ts (tier (chain or)) i m e → Means ts m ranges b → OldReads ts (tier (chain or)) (m + 1) k f
      → At ts k BY → OldReads ts (tier (chain or)) (k + 1) j g → OldReads ts bounds i j (three_parts b e f g)
  item_assign : {i j : ℕ} {e : Exp} → OldReads ts assign i j e → OldReads ts item i j e
  assign_one : {i j : ℕ} {e : Exp} → OldReads ts (tier (chain or)) i j e → OldReads ts assign i j e
  assign_to : {i m j : ℕ} {e f : Exp}
      → OldReads ts (tier (chain or)) i m e → At ts m BECOMES → OldReads ts (tier (chain or)) (m + 1) j f
      → OldReads ts assign i j (binary m Binary.assign e f)
  chain_one : {l : Level} {i j : ℕ} {e : Exp} → OldReads ts (tier (part l)) i j e → OldReads ts (tier (chain l)) i j e
  chain_more : {l : Level} {i m j : ℕ} {o : Binary} {e f : Exp}
      → OldReads ts (tier (chain l)) i m e → Means ts m (operators l) o → OldReads ts (tier (part l)) (m + 1) j f
      → OldReads ts (tier (chain l)) i j (binary m o e f)
  cmp_one : {i j : ℕ} {e : Exp} → OldReads ts (tier (chain sum)) i j e → OldReads ts (tier cmp) i j e
  cmp_two : {i m j : ℕ} {o : Binary} {e f : Exp}
      → OldReads ts (tier (chain sum)) i m e → Means ts m comparisons o → OldReads ts (tier (chain sum)) (m + 1) j f
      → OldReads ts (tier cmp) i j (binary m o e f)
  un_prefix : {i j : ℕ} {o : Unary} {e : Exp}
      → Means ts i prefixes o → OldReads ts (tier un) (i + 1) j e → OldReads ts (tier un) i j (unary i o e)
  un_atom : {i j : ℕ} {e : Exp} → OldReads ts atom i j e → OldReads ts (tier un) i j e
  atom_name : {i : ℕ} → At ts i NAME → OldReads ts atom i (i + 1) (name i (spelling_at ts i))
  atom_call : {i j : ℕ} {es : Exps}
      → At ts i NAME → At ts (i + 1) LPAR → OldReads ts actuals (i + 2) j es → OldReads ts atom i j (call i (spelling_at ts i) es)
  atom_number : {i : ℕ} → At ts i NUMBER → OldReads ts atom i (i + 1) (literal i (whole (value_at ts i)))
  atom_float : {i : ℕ} → At ts i FLOAT_NUMBER → OldReads ts atom i (i + 1) (literal i (decimal (float_of (spelling_at ts i))))
  atom_constant : {i : ℕ} {l : Literal} → Means ts i constants l → OldReads ts atom i (i + 1) (literal i l)
  atom_group : {i k : ℕ} {e : Exp}
      → At ts i LPAR → OldReads ts seq (i + 1) k e → At ts k RPAR → OldReads ts atom i (k + 1) (group i e)
  atom_block : {i k : ℕ} {e : Exp}
      → At ts i LBRACE → OldReads ts seq (i + 1) k e → At ts k RBRACE → OldReads ts atom i (k + 1) (block i e)
  actuals_none : {i : ℕ} → At ts i RPAR → OldReads ts actuals i (i + 1) last
  actuals_some : {i k : ℕ} {es : Exps} → OldReads ts args i k es → At ts k RPAR → OldReads ts actuals i (k + 1) es
  args_one : {i j : ℕ} {e : Exp} → OldReads ts seq i j e → OldReads ts args i j (more e last)
  args_more : {i m j : ℕ} {e : Exp} {es : Exps}
      → OldReads ts seq i m e → At ts m COMMA → OldReads ts args (m + 1) j es → OldReads ts args i j (more e es)

abbrev pub OldReading : List Token → Program → Type 0
OldReading ts p = OldReads ts program 0 (length ts) p

module _ {ts : List Token} where
  -- what a symbol read it reads, as the same tree
  pub old_reads : {s : Sym} {i j : ℕ} {x : Of s} → OldReads ts s i j x → Reads ts s i j x
  old_reads (program_seq p) = Now.program_seq (old_reads p)
  old_reads (program_def p q) = Now.program_def (old_reads p) (old_reads q)
  old_reads (def_is a b c p d q e r f) = Now.def_is a b c p d q e (old_reads r) f
  old_reads (seq_let p) = Now.seq_tail (Now.tail_let (old_reads p))
  old_reads (seq_item p) = Now.seq_item (old_reads p)
  old_reads (seq_more p h q) = Now.seq_more (old_reads p) h (old_reads q)
  old_reads (let_in a b c p d q) = Now.let_in a b c (old_reads p) d (old_reads q)
  old_reads (item_if a p b q c r) = Now.item_if a (old_reads p) b (old_reads q) c (old_reads r)
  old_reads (item_while a p b q c) = Now.item_while a (old_reads p) b (old_reads q) c
  old_reads (item_for p) = Now.item_for (old_reads p)
  old_reads (for_is a b c p d q e) = Now.for_is a b c (old_reads p) d (old_reads q) e
  old_reads (bounds_two p a q) = Now.bounds_two (old_reads p) a (old_reads q)
  old_reads (bounds_three p a q b r) = Now.bounds_three (old_reads p) a (old_reads q) b (old_reads r)
  old_reads (item_assign p) = Now.item_assign (old_reads p)
  old_reads (assign_one p) = Now.assign_one (old_reads p)
  old_reads (assign_to p h q) = Now.assign_to (old_reads p) h (old_reads q)
  old_reads (chain_one p) = Now.chain_one (old_reads p)
  old_reads (chain_more p h q) = Now.chain_more (old_reads p) h (old_reads q)
  old_reads (cmp_one p) = Now.cmp_one (old_reads p)
  old_reads (cmp_two p h q) = Now.cmp_two (old_reads p) h (old_reads q)
  old_reads (un_prefix h p) = Now.un_prefix h (old_reads p)
  old_reads (un_atom p) = Now.un_atom (old_reads p)
  old_reads (atom_name a) = Now.atom_name a
  old_reads (atom_call a b p) = Now.atom_call a b (old_reads p)
  old_reads (atom_number a) = Now.atom_number a
  old_reads (atom_float a) = Now.atom_float a
  old_reads (atom_constant a) = Now.atom_constant a
  old_reads (atom_group a p b) = Now.atom_group a (old_reads p) b
  old_reads (atom_block a p b) = Now.atom_block a (old_reads p) b
  old_reads (actuals_none a) = Now.actuals_none a
  old_reads (actuals_some p a) = Now.actuals_some (old_reads p) a
  old_reads (args_one p) = Now.args_one (old_reads p)
  old_reads (args_more p h q) = Now.args_more (old_reads p) h (old_reads q)

-- ---- and back, where no `let` stands directly behind an `else`

abbrev pub NoElseLet : List Token → Type 0
NoElseLet ts = (k : ℕ) → At ts k ELSE → At ts (k + 1) LET → ⊥

-- a Tail was a Let
abbrev Was : (ts : List Token) (s : Sym) → ℕ → ℕ → Of s → Type 0
Was ts program = OldReads ts program
Was ts def = OldReads ts def
Was ts formals = λ i j x. Unit {0}
Was ts params = λ i j x. Unit {0}
Was ts type = λ i j x. Unit {0}
Was ts seq = OldReads ts seq
Was ts tail = OldReads ts bound
Was ts bound = OldReads ts bound
Was ts item = OldReads ts item
Was ts counting = OldReads ts counting
Was ts bounds = OldReads ts bounds
Was ts assign = OldReads ts assign
Was ts (tier t) = OldReads ts (tier t)
Was ts atom = OldReads ts atom
Was ts actuals = OldReads ts actuals
Was ts args = OldReads ts args

module _ {ts : List Token} (none : NoElseLet ts) where
  no_tail_at : {m : ℕ} {j : ℕ} {x : Exp} → Reads ts tail m j x → (k : ℕ) → m ≡ k + 1 → At ts k ELSE → ⊥
  no_tail_at (Now.tail_let (Now.let_in a b c p d q)) k e h = none k h (subst (λ (n : ℕ). At ts n LET) e a)
  no_tail_at (Now.tail_if {k = n} a p b q c r) k e h = no_tail_at r n refl c

  no_tail : (k : ℕ) {j : ℕ} {x : Exp} → At ts k ELSE → Reads ts tail (k + 1) j x → ⊥
  no_tail k h r = no_tail_at r k refl h

  was : {s : Sym} {i j : ℕ} {x : Of s} → Reads ts s i j x → Was ts s i j x
  was (Now.program_seq p) = program_seq (was p)
  was (Now.program_def p q) = program_def (was p) (was q)
  was (Now.def_is a b c p d q e r f) = def_is a b c p d q e (was r) f
  was (Now.formals_none a) = tt
  was (Now.formals_some p a) = tt
  was (Now.params_one a b p) = tt
  was (Now.params_more a b p c q) = tt
  was (Now.type_basic a) = tt
  was (Now.type_ref p a) = tt
  was (Now.seq_tail p) = seq_let (was p)
  was (Now.seq_item p) = seq_item (was p)
  was (Now.seq_more p h q) = seq_more (was p) h (was q)
  was (Now.tail_let p) = was p
  was (Now.tail_if {k = k} a p b q c r) = absurd (no_tail k c r)
  was (Now.let_in a b c p d q) = let_in a b c (was p) d (was q)
  was (Now.item_if a p b q c r) = item_if a (was p) b (was q) c (was r)
  was (Now.item_while a p b q c) = item_while a (was p) b (was q) c
  was (Now.item_for p) = item_for (was p)
  was (Now.for_is a b c p d q e) = for_is a b c (was p) d (was q) e
  was (Now.bounds_two p a q) = bounds_two (was p) a (was q)
  was (Now.bounds_three p a q b r) = bounds_three (was p) a (was q) b (was r)
  was (Now.item_assign p) = item_assign (was p)
  was (Now.assign_one p) = assign_one (was p)
  was (Now.assign_to p h q) = assign_to (was p) h (was q)
  was (Now.chain_one p) = chain_one (was p)
  was (Now.chain_more p h q) = chain_more (was p) h (was q)
  was (Now.cmp_one p) = cmp_one (was p)
  was (Now.cmp_two p h q) = cmp_two (was p) h (was q)
  was (Now.un_prefix h p) = un_prefix h (was p)
  was (Now.un_atom p) = un_atom (was p)
  was (Now.atom_name a) = atom_name a
  was (Now.atom_call a b p) = atom_call a b (was p)
  was (Now.atom_number a) = atom_number a
  was (Now.atom_float a) = atom_float a
  was (Now.atom_constant a) = atom_constant a
  was (Now.atom_group a p b) = atom_group a (was p) b
  was (Now.atom_block a p b) = atom_block a (was p) b
  was (Now.actuals_none a) = actuals_none a
  was (Now.actuals_some p a) = actuals_some (was p) a
  was (Now.args_one p) = args_one (was p)
  was (Now.args_more p h q) = args_more (was p) h (was q)

-- ---- whole lists

module _ {ts : List Token} {p : Program} where
  -- an old reading is a reading
  pub old_reading_reads : OldReading ts p → Reading ts p
  old_reading_reads r = old_reads r

  -- and there is no other, but where a `let` stands directly behind an `else`
  pub nothing_else : NoElseLet ts → OldReading ts p ↔ Reading ts p
  nothing_else none = (λ r. old_reads r, λ r. was none r)
