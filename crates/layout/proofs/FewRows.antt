-- A reading takes no more rows than it has tokens: every row has a token that no other has.
use mathlib.Core.List.{List, [], ◌∷◌}
use Prim.Native.Nat.{ℕ, ◌+◌, ◌≤◌, ◌<◌}
use native.Mathlib.Omega.{arith}
use lib.ListN.{length}
use Rattle.language.specs.Tokens.{Token}
use Rattle.language.specs.Trees.{Def, Program}
use Rattle.language.specs.Grammar.{Sym, program, def, formals, params, type, seq, tail, bound, item, counting, bounds, assign, atom, actuals, args, tier, Of}
use Rattle.language.specs.Grammar.{Reads, Reading, program_seq, program_def, def_is, formals_none, formals_some, params_one, params_more}
use Rattle.language.specs.Grammar.{type_basic, type_ref, seq_tail, seq_item, seq_more, tail_let, tail_if, let_in, item_if, item_while, item_assign, assign_one}
use Rattle.language.specs.Grammar.{item_for, for_is, bounds_two, bounds_three}
use Rattle.language.specs.Grammar.{assign_to, chain_one, chain_more, cmp_one, cmp_two, un_prefix, un_atom, atom_name, atom_call}
use Rattle.language.specs.Grammar.{atom_number, atom_float, atom_constant, atom_group, atom_block, actuals_none, actuals_some, args_one, args_more}
use Rattle.layout.specs.Rows.{below, under, def_rows, defs_rows}

-- the rows of what a symbol is read as; one less for arguments, as the mark before the first is not among their tokens
abbrev rows : (s : Sym) → Of s → ℕ
rows program p = defs_rows p.defs + below p.main + 1
rows def d = def_rows d
rows formals ps = length ps
rows params ps = length ps
rows type t = 1
rows seq e = below e + 1
rows tail e = below e + 1
rows bound e = below e + 1
rows item e = below e + 1
rows counting e = below e + 1
rows bounds r = under r.parts
rows assign e = below e + 1
rows atom e = below e + 1
rows actuals es = under es
rows args es = under es
rows (tier l) e = below e + 1

abbrev spare : Sym → ℕ
spare program = 0
spare def = 0
spare formals = 0
spare params = 0
spare type = 0
spare seq = 0
spare tail = 0
spare bound = 0
spare item = 0
spare counting = 0
spare bounds = 1
spare assign = 0
spare atom = 0
spare actuals = 0
spare args = 1
spare (tier l) = 0

module _ (ts : List Token) where
  few : {s : Sym} {i j : ℕ} {x : Of s} → Reads ts s i j x → rows s x + i ≤ j + spare s
  unfolding below def_rows defs_rows
  few (program_seq p) = omega (arith, few p)
  few (program_def p q) = omega (arith, few p, few q)
  few (def_is a b c p d q e r f) = omega (arith, few p, few q, few r)
  few (formals_none a) = omega arith
  few (formals_some p a) = omega (arith, few p)
  few (params_one a b p) = omega (arith, few p)
  few (params_more a b p c q) = omega (arith, few p, few q)
  few (type_basic a) = omega arith
  few (type_ref p a) = omega (arith, few p)
  few (seq_tail p) = few p
  few (seq_item p) = few p
  few (seq_more p h q) = omega (arith, few p, few q)
  few (tail_let p) = few p
  few (tail_if a p b q c r) = omega (arith, few p, few q, few r)
  few (let_in a b c p d q) = omega (arith, few p, few q)
  few (item_if a p b q c r) = omega (arith, few p, few q, few r)
  few (item_while a p b q c) = omega (arith, few p, few q)
  few (item_for p) = few p
  few (for_is a b c p d q e) = omega (arith, few p, few q)
  few (bounds_two p a q) = omega (arith, few p, few q)
  few (bounds_three p a q b r) = omega (arith, few p, few q, few r)
  few (item_assign p) = few p
  few (assign_one p) = few p
  few (assign_to p h q) = omega (arith, few p, few q)
  few (chain_one p) = few p
  few (chain_more p h q) = omega (arith, few p, few q)
  few (cmp_one p) = few p
  few (cmp_two p h q) = omega (arith, few p, few q)
  few (un_prefix h p) = omega (arith, few p)
  few (un_atom p) = few p
  few (atom_name a) = omega arith
  few (atom_call a b p) = omega (arith, few p)
  few (atom_number a) = omega arith
  few (atom_float a) = omega arith
  few (atom_constant a) = omega arith
  few (atom_group a p b) = omega (arith, few p)
  few (atom_block a p b) = omega (arith, few p)
  few (actuals_none a) = omega arith
  few (actuals_some p a) = omega (arith, few p)
  few (args_one p) = omega (arith, few p)
  few (args_more p h q) = omega (arith, few p, few q)

  -- the rows of a program
  pub few_rows : (p : Program) → Reading ts p → defs_rows p.defs + below p.main < length ts
  few_rows p r = let h = few r in omega arith

-- functions are fewer than rows
pub few_defs : (ds : List Def) → length ds ≤ defs_rows ds
unfolding defs_rows def_rows
few_defs [] = omega arith
few_defs (d ∷ ds) = omega (arith, few_defs ds)
