-- In a reading the own tokens of each part lie in a stretch of their own (S042).
use mathlib.Core.List.{List}
use Prim.Native.Nat.{ℕ, ◌+◌, ◌≤◌, ◌<◌}
use native.Mathlib.Omega.{arith}
use lib.ListN.{length}
use Rattle.language.specs.Tokens.{Token}
use Rattle.language.specs.Trees.{Program}
use Rattle.language.specs.Grammar.{Of, tier, Sym, program, def, formals, params, type, seq, tail, bound, item, assign, atom, actuals, args}
use Rattle.language.specs.Grammar.{Reads, Reading, program_seq, program_def, def_is, formals_none, formals_some, params_one}
use Rattle.language.specs.Grammar.{params_more, type_basic, type_ref, seq_tail, seq_item, seq_more, tail_let, tail_if, let_in, item_if}
use Rattle.language.specs.Grammar.{item_while, item_assign, assign_one, assign_to, chain_one, chain_more, cmp_one, cmp_two, un_prefix, un_atom}
use Rattle.language.specs.Grammar.{atom_name, atom_call, atom_number, atom_float, atom_constant, atom_group, atom_block, actuals_none}
use Rattle.language.specs.Grammar.{actuals_some, args_one, args_more, item_for, for_is, bounds_two, bounds_three, counting, bounds}
use Rattle.resolver.specs.Spans.{Spans, SpansAll, SpansDefs}
use Rattle.resolver.proofs.Spanning.{ordered, widen, widen_all}

-- what is read from i up to j
abbrev Lies : (s : Sym) → ℕ → Of s → ℕ → Type 0
Lies program i p j = SpansDefs i p.defs p.main j
Lies def i d j = (m : ℕ) × (i ≤ m) × (length d.params ≤ m) × Spans m d.body j
Lies formals i ps j = i + length ps ≤ j
Lies params i ps j = i + length ps ≤ j
Lies type i t j = i < j
Lies seq i e j = Spans i e j
Lies tail i e j = Spans i e j
Lies bound i e j = Spans i e j
Lies item i e j = Spans i e j
Lies counting i e j = Spans i e j
Lies bounds i r j = SpansAll i r.parts j
Lies assign i e j = Spans i e j
Lies atom i e j = Spans i e j
Lies actuals i es j = SpansAll i es j
Lies args i es j = SpansAll i es j
Lies (tier l) i e j = Spans i e j

module _ (ts : List Token) where
  lies : {s : Sym} {i j : ℕ} {x : Of s} → Reads ts s i j x → Lies s i x j
  unfolding Spans SpansDefs
  lies (program_seq p) = lies p
  lies (program_def {m = m} p q) = let d = lies p in (d.0, (m, d.1, d.2, d.3, lies q))
  lies (def_is {i} {m} {k} {n} {e = e} a b c p d q g r f) =
      (k, omega (arith, lies p, lies q), omega (arith, lies p, lies q), (omega arith, widen e (lies r) (omega arith) (omega arith)))
  lies (formals_none a) = omega arith
  lies (formals_some p a) = omega (arith, lies p)
  lies (params_one a b p) = omega (arith, lies p)
  lies (params_more a b p c q) = omega (arith, lies p, lies q)
  lies (type_basic a) = omega arith
  lies (type_ref p a) = omega (arith, lies p)
  lies (seq_tail p) = lies p
  lies (seq_item p) = lies p
  lies (seq_more p h q) = (lies p, lies q)
  lies (tail_let p) = lies p
  lies (tail_if {m = m} {k = k} {e = e} {f = f} a p b q c r) =
      (omega arith, (m, (k, lies p, widen e (lies q) (omega arith) (omega arith), widen f (lies r) (omega arith) (omega arith))))
  lies (let_in {m = m} {e = e} {f = f} a b c p d q) =
      (omega arith, (m, widen e (lies p) (omega arith) (omega arith), widen f (lies q) (omega arith) (omega arith)))
  lies (item_if {m = m} {k = k} {e = e} {f = f} a p b q c r) =
      (omega arith, (m, (k, lies p, widen e (lies q) (omega arith) (omega arith), widen f (lies r) (omega arith) (omega arith))))
  lies (item_while {m = m} {e = e} a p b q c) =
      (omega arith, (m, lies p, (omega arith, widen e (lies q) (omega arith) (omega arith))))
  lies (item_for p) = lies p
  lies (for_is {i} {m} {r = r} {e = e} a b c p d q g) =
      let l = ordered r.parts (lies p) in (
        omega arith,
        (
          m,
          l,
          widen_all r.parts (lies p) (omega arith) (omega arith),
          (omega arith, widen e (lies q) (omega arith) (omega arith)),
        ),
      )
  lies (bounds_two {m = m} {j = j} {f = f} p a q) = (m, lies p, (j, widen f (lies q) (omega arith) (omega arith), omega arith))
  lies (bounds_three {m = m} {k = k} {j = j} {f = f} {g = g} p a q b r) =
      (m, lies p, (k, widen f (lies q) (omega arith) (omega arith), (j, widen g (lies r) (omega arith) (omega arith), omega arith)))
  lies (item_assign p) = lies p
  lies (assign_one p) = lies p
  lies (assign_to p h q) = (lies p, lies q)
  lies (chain_one p) = lies p
  lies (chain_more p h q) = (lies p, lies q)
  lies (cmp_one p) = lies p
  lies (cmp_two p h q) = (lies p, lies q)
  lies (un_prefix h p) = (omega arith, lies p)
  lies (un_atom p) = lies p
  lies (atom_name a) = (omega arith, omega arith)
  lies (atom_call {es = es} a b p) = (omega arith, widen_all es (lies p) (omega arith) (omega arith))
  lies (atom_number a) = (omega arith, omega arith)
  lies (atom_float a) = (omega arith, omega arith)
  lies (atom_constant a) = (omega arith, omega arith)
  lies (atom_group {e = e} a p b) = (omega arith, widen e (lies p) (omega arith) (omega arith))
  lies (atom_block {e = e} a p b) = (omega arith, widen e (lies p) (omega arith) (omega arith))
  lies (actuals_none a) = omega arith
  lies (actuals_some {es = es} p a) = widen_all es (lies p) (omega arith) (omega arith)
  lies (args_one {j = j} p) = (j, lies p, omega arith)
  lies (args_more {m = m} {es = es} p h q) = (m, lies p, widen_all es (lies q) (omega arith) (omega arith))

  -- a whole reading
  pub program_spans : {p : Program} → Reading ts p → SpansDefs 0 p.defs p.main (length ts)
  program_spans r = lies r
