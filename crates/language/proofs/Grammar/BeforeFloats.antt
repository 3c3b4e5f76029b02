-- The grammar as it was before there were floats (R08.1): today's without the productions that read a token of a float, the number and
-- the word, or of a counted loop, which came later still. A reading leaves no token unread, so it read what is read
-- today of lists without such tokens; and their trees have no float number and no counted loop.
use mathlib.Core.Bool.{Bool, true, false}
use mathlib.Core.List.{List}
use Prim.Native.Nat.{ℕ}
use lib.Dec.{T}
use Rattle.language.specs.Tokens.{Token, At, FLOAT_NUMBER, FLOAT, FOR, kind_at}
use Rattle.language.specs.Trees.{Literal, whole, truth, trivial, decimal, Program}
use Rattle.language.specs.Grammar.{Of, Sym, program, def, formals, params, type, seq, tail, bound}
use Rattle.language.specs.Grammar.{item, counting, bounds, assign, atom, actuals, args, tier}
use Rattle.language.specs.Grammar.{constants, Reading, Reads, program_seq, program_def, def_is, formals_none, formals_some, params_one}
use Rattle.language.specs.Grammar.{params_more, type_basic, type_ref, seq_tail, seq_item, seq_more, tail_let, tail_if, let_in, item_if}
use Rattle.language.specs.Grammar.{item_for, for_is, bounds_two, bounds_three, item_while, item_assign, assign_one}
use Rattle.language.specs.Grammar.{assign_to, chain_one, chain_more, cmp_one, cmp_two, un_prefix, un_atom}
use Rattle.language.specs.Grammar.{atom_name, atom_call, atom_number, atom_float, atom_constant, atom_group, atom_block, actuals_none}
use Rattle.language.specs.Grammar.{actuals_some, args_one, args_more}
use Rattle.language.proofs.Grammar.Entries.{every, entry_passes}
use Rattle.language.proofs.Meaning.OldMeaning.{BareLiteral, Bare, BareAll, BareDefs, BareProgram}

-- no token of a float, nor of a counted loop
pub record NoFloats (ts : List Token) : Type 0 where
  pub no_number : (k : ℕ) → At ts k FLOAT_NUMBER → ⊥
  pub no_word : (k : ℕ) → At ts k FLOAT → ⊥
  pub no_for : (k : ℕ) → At ts k FOR → ⊥

-- the tokens had this reading
pub record ReadBefore (ts : List Token) (p : Program) : Type 0 where
  pub reads : Reading ts p
  pub without : NoFloats ts

-- ---- its tree has no float number

abbrev is_bare : Literal → Bool
is_bare (whole n) = true
is_bare (truth b) = true
is_bare trivial = true
is_bare (decimal x) = false

bare_literal : (l : Literal) → T (is_bare l) → BareLiteral l
bare_literal (whole n) t = tt
bare_literal (truth b) t = tt
bare_literal trivial t = tt
bare_literal (decimal x) t = absurd t

abbrev BareOf : (s : Sym) → Of s → Type 0
BareOf program x = BareProgram x
BareOf def x = Bare x.body
BareOf formals x = Unit {0}
BareOf params x = Unit {0}
BareOf type x = Unit {0}
BareOf seq x = Bare x
BareOf tail x = Bare x
BareOf bound x = Bare x
BareOf item x = Bare x
BareOf counting x = Bare x
BareOf bounds x = Unit {0}
BareOf assign x = Bare x
BareOf atom x = Bare x
BareOf actuals x = BareAll x
BareOf args x = BareAll x
BareOf (tier l) x = Bare x

module _ {ts : List Token} (w : NoFloats ts) where
  bare : {s : Sym} {i j : ℕ} {x : Of s} → Reads ts s i j x → BareOf s x
  unfolding Bare BareAll BareDefs every
  bare (program_seq p) = record { defs = tt; main = bare p }
  bare (program_def p q) = let r = bare q in record { defs = (bare p, r.defs); main = r.main }
  bare (def_is a b c p d q e r f) = bare r
  bare (formals_none a) = tt
  bare (formals_some p a) = tt
  bare (params_one a b p) = tt
  bare (params_more a b p c q) = tt
  bare (type_basic a) = tt
  bare (type_ref p a) = tt
  bare (seq_tail p) = bare p
  bare (seq_item p) = bare p
  bare (seq_more p a q) = (bare p, bare q)
  bare (tail_let p) = bare p
  bare (tail_if a p b q c r) = (bare p, bare q, bare r)
  bare (let_in a b c p d q) = (bare p, bare q)
  bare (item_if a p b q c r) = (bare p, bare q, bare r)
  bare (item_while a p b q c) = (bare p, bare q)
  bare (item_for p) = bare p
  bare (for_is {i} a b c p d q e) = absurd (w.no_for i a)
  bare (bounds_two p a q) = tt
  bare (bounds_three p a q b r) = tt
  bare (item_assign p) = bare p
  bare (assign_one p) = bare p
  bare (assign_to p a q) = (bare p, bare q)
  bare (chain_one p) = bare p
  bare (chain_more p a q) = (bare p, bare q)
  bare (cmp_one p) = bare p
  bare (cmp_two p a q) = (bare p, bare q)
  bare (un_prefix a p) = bare p
  bare (un_atom p) = bare p
  bare (atom_name a) = tt
  bare (atom_call a b p) = bare p
  bare (atom_number a) = tt
  bare (atom_float {i} a) = absurd (w.no_number i a)
  bare (atom_constant {i} {l} a) = bare_literal l (entry_passes (λ _ k. is_bare k) constants (kind_at ts i) tt a)
  bare (atom_group a p b) = bare p
  bare (atom_block a p b) = bare p
  bare (actuals_none a) = tt
  bare (actuals_some p a) = bare p
  bare (args_one p) = (bare p, tt)
  bare (args_more p a q) = (bare p, bare q)

pub bare_before : {ts : List Token} {p : Program} → ReadBefore ts p → BareProgram p
bare_before r = bare r.without r.reads
