-- How many tokens a tree covers (S131): exactly those that it is read from.
use mathlib.Core.List.{List}
use mathlib.Core.Path.{◌≡◌, refl}
use Prim.Native.Nat.{ℕ, ◌+◌}
use native.Mathlib.Omega.{arith}
use Rattle.language.specs.Tokens.{Token}
use Rattle.language.specs.Trees.{Exp, name, literal, unary, binary, follow, group, block, call, bind, branch, loop, counted, Exps, last, more}
use Rattle.language.specs.Grammar.{Sym, program, def, formals, params, type, seq, tail, bound, item, counting, bounds, assign, atom, actuals, args, tier, Of}
use Rattle.language.specs.Grammar.{Reads, program_seq, program_def, def_is, formals_none, formals_some, params_one, params_more}
use Rattle.language.specs.Grammar.{type_basic, type_ref, seq_tail, seq_item, seq_more, tail_let, tail_if, let_in, item_if, item_while, item_assign, assign_one}
use Rattle.language.specs.Grammar.{item_for, for_is, bounds_two, bounds_three}
use Rattle.language.specs.Grammar.{assign_to, chain_one, chain_more, cmp_one, cmp_two, un_prefix, un_atom, atom_name, atom_call}
use Rattle.language.specs.Grammar.{atom_number, atom_float, atom_constant, atom_group, atom_block, actuals_none, actuals_some, args_one, args_more}

-- ---- what is covered

unfoldable mutual
  -- its own token, the words and marks between its parts, and what these cover
  pub covers : Exp → ℕ
  covers (name i x) = 1
  covers (literal i l) = 1
  covers (unary i o e) = 1 + covers e
  covers (binary i o e f) = 1 + covers e + covers f
  covers (follow i e f) = 1 + covers e + covers f
  covers (group i e) = 2 + covers e
  covers (block i e) = 2 + covers e
  covers (call i x es) = 2 + opened es
  covers (bind i x e f) = 4 + covers e + covers f
  covers (branch i c e f) = 3 + covers c + covers e + covers f
  covers (loop i c e) = 1 + covers c + covers e
  covers (counted i x b es e) = 2 + covers_all es + covers e

  -- a list's, each with the mark before it: `(` or `,`, and in a `for` what stands before a bound
  pub covers_all : Exps → ℕ
  covers_all last = 0
  covers_all (more e es) = 1 + covers e + covers_all es

  -- that of a call, whose `(` is there without arguments too
  pub opened : Exps → ℕ
  opened last = 1
  opened (more e es) = 1 + covers e + covers_all es

-- ---- and it is what was read

-- Of what stands for trees: from i up to j there are as many tokens as it covers. The mark before the first of a list is
-- not among the list's own.
abbrev Covers : (s : Sym) → ℕ → ℕ → Of s → Type 0
Covers program i j p = Unit {0}
Covers def i j d = Unit {0}
Covers formals i j ps = Unit {0}
Covers params i j ps = Unit {0}
Covers type i j t = Unit {0}
Covers seq i j e = i + covers e ≡ j
Covers tail i j e = i + covers e ≡ j
Covers bound i j e = i + covers e ≡ j
Covers item i j e = i + covers e ≡ j
Covers counting i j e = i + covers e ≡ j
Covers bounds i j r = i + covers_all r.parts ≡ j + 1
Covers assign i j e = i + covers e ≡ j
Covers atom i j e = i + covers e ≡ j
Covers actuals i j es = i + opened es ≡ j
Covers args i j es = (i + covers_all es ≡ j + 1) × (opened es ≡ covers_all es)
Covers (tier l) i j e = i + covers e ≡ j

module _ (ts : List Token) where
  pub reads_covers : {s : Sym} {i j : ℕ} {x : Of s} → Reads ts s i j x → Covers s i j x
  unfolding covers
  reads_covers (program_seq p) = tt
  reads_covers (program_def p q) = tt
  reads_covers (def_is a b c p d q e r f) = tt
  reads_covers (formals_none a) = tt
  reads_covers (formals_some p a) = tt
  reads_covers (params_one a b p) = tt
  reads_covers (params_more a b p c q) = tt
  reads_covers (type_basic a) = tt
  reads_covers (type_ref p a) = tt
  reads_covers (seq_tail p) = reads_covers p
  reads_covers (seq_item p) = reads_covers p
  reads_covers (seq_more p h q) = omega (arith, reads_covers p, reads_covers q)
  reads_covers (tail_let p) = reads_covers p
  reads_covers (tail_if a p b q c r) = omega (arith, reads_covers p, reads_covers q, reads_covers r)
  reads_covers (let_in a b c p d q) = omega (arith, reads_covers p, reads_covers q)
  reads_covers (item_if a p b q c r) = omega (arith, reads_covers p, reads_covers q, reads_covers r)
  reads_covers (item_while a p b q c) = omega (arith, reads_covers p, reads_covers q)
  reads_covers (item_for p) = reads_covers p
  reads_covers (for_is a b c p d q e) = omega (arith, reads_covers p, reads_covers q)
  reads_covers (bounds_two p a q) = omega (arith, reads_covers p, reads_covers q)
  reads_covers (bounds_three p a q b r) = omega (arith, reads_covers p, reads_covers q, reads_covers r)
  reads_covers (item_assign p) = reads_covers p
  reads_covers (assign_one p) = reads_covers p
  reads_covers (assign_to p h q) = omega (arith, reads_covers p, reads_covers q)
  reads_covers (chain_one p) = reads_covers p
  reads_covers (chain_more p h q) = omega (arith, reads_covers p, reads_covers q)
  reads_covers (cmp_one p) = reads_covers p
  reads_covers (cmp_two p h q) = omega (arith, reads_covers p, reads_covers q)
  reads_covers (un_prefix h p) = omega (arith, reads_covers p)
  reads_covers (un_atom p) = reads_covers p
  reads_covers (atom_name a) = omega arith
  reads_covers (atom_call a b p) = omega (arith, reads_covers p)
  reads_covers (atom_number a) = omega arith
  reads_covers (atom_float a) = omega arith
  reads_covers (atom_constant a) = omega arith
  reads_covers (atom_group a p b) = omega (arith, reads_covers p)
  reads_covers (atom_block a p b) = omega (arith, reads_covers p)
  reads_covers (actuals_none a) = omega arith
  reads_covers (actuals_some p a) = let h = reads_covers p in omega (arith, h.0, h.1)
  reads_covers (args_one p) = (omega (arith, reads_covers p), refl)
  reads_covers (args_more p h q) = let k = reads_covers q in (omega (arith, reads_covers p, k.0), refl)
