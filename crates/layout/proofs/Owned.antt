-- A reading's nodes own tokens of the right kinds: a name's token is a name and spelled so, a number's is a number, with a point or without.
use mathlib.Core.Bool.{Bool, true, false, cond}
use mathlib.Core.List.{List, [], ◌∷◌}
use mathlib.Core.Option.{Option, none, some}
use mathlib.Core.Path.{◌≡◌, refl, subst}
use Prim.Native.Nat.{ℕ, ◌+◌}
use lib.Dec.{eqb}
use lib.Ieee.{Float}
use Rattle.language.specs.Tokens.{Token, At, kind_at, entry, value_at, spelling_at}
use Rattle.language.specs.Tokens.{NAME, NUMBER, FLOAT_NUMBER, TRUE, FALSE, TT}
use Rattle.language.specs.Decimals.{float_of}
use Rattle.language.specs.Trees.{Literal, whole, truth, trivial, decimal, Exp, name, literal, unary, binary, follow}
use Rattle.language.specs.Trees.{group, block, call, bind, branch, loop, counted, Exps, last, more, Param, Def, Program}
use Rattle.language.specs.Grammar.{Sym, program, def, formals, params, type, seq, tail, bound, item, counting, bounds, assign, atom, actuals, args, tier, Of}
use Rattle.language.specs.Grammar.{constants, Reads, Reading, program_seq, program_def, def_is, formals_none, formals_some, params_one}
use Rattle.language.specs.Grammar.{params_more, type_basic, type_ref, seq_tail, seq_item, seq_more, tail_let, tail_if, let_in, item_if, item_while, item_assign}
use Rattle.language.specs.Grammar.{item_for, for_is, bounds_two, bounds_three}
use Rattle.language.specs.Grammar.{assign_one, assign_to, chain_one, chain_more, cmp_one, cmp_two, un_prefix, un_atom, atom_name, atom_call}
use Rattle.language.specs.Grammar.{atom_number, atom_float, atom_constant, atom_group, atom_block, actuals_none, actuals_some, args_one, args_more}

-- a literal at token i
pub data OwnedLiteral (ts : List Token) (i : ℕ) : Literal → Type 0 where
  owned_whole : {n : ℕ} → At ts i NUMBER → n ≡ value_at ts i → OwnedLiteral ts i (whole n)
  owned_truth : {b : Bool} → OwnedLiteral ts i (truth b)
  owned_trivial : OwnedLiteral ts i trivial
  owned_decimal : {x : Float} → At ts i FLOAT_NUMBER → x ≡ float_of (spelling_at ts i) → OwnedLiteral ts i (decimal x)

mutual
  pub data Owned (ts : List Token) : Exp → Type 0 where
    owned_name : {i : ℕ} {x : List ℕ} → At ts i NAME → x ≡ spelling_at ts i → Owned ts (name i x)
    owned_literal : {i : ℕ} {l : Literal} → OwnedLiteral ts i l → Owned ts (literal i l)
    owned_unary : {i : ℕ} {o : _} {e : Exp} → Owned ts e → Owned ts (unary i o e)
    owned_binary : {i : ℕ} {o : _} {e f : Exp} → Owned ts e → Owned ts f → Owned ts (binary i o e f)
    owned_follow : {i : ℕ} {e f : Exp} → Owned ts e → Owned ts f → Owned ts (follow i e f)
    owned_group : {i : ℕ} {e : Exp} → Owned ts e → Owned ts (group i e)
    owned_block : {i : ℕ} {e : Exp} → Owned ts e → Owned ts (block i e)
    owned_call : {i : ℕ} {x : List ℕ} {es : Exps} → At ts i NAME → x ≡ spelling_at ts i → OwnedAll ts es → Owned ts (call i x es)
    owned_bind : {i : ℕ} {x : List ℕ} {e f : Exp} → At ts (i + 1) NAME → x ≡ spelling_at ts (i + 1) → Owned ts e → Owned ts f → Owned ts (bind i x e f)
    owned_branch : {i : ℕ} {c e f : Exp} → Owned ts c → Owned ts e → Owned ts f → Owned ts (branch i c e f)
    owned_loop : {i : ℕ} {c e : Exp} → Owned ts c → Owned ts e → Owned ts (loop i c e)
    owned_counted : {i : ℕ} {x : List ℕ} {b : Bool} {es : Exps} {e : Exp}
        → At ts (i + 1) NAME → x ≡ spelling_at ts (i + 1) → OwnedAll ts es → Owned ts e → Owned ts (counted i x b es e)

  pub data OwnedAll (ts : List Token) : Exps → Type 0 where
    owned_last : OwnedAll ts last
    owned_more : {e : Exp} {es : Exps} → Owned ts e → OwnedAll ts es → OwnedAll ts (more e es)

pub data OwnedParams (ts : List Token) : List Param → Type 0 where
  owned_none : OwnedParams ts []
  owned_param : {p : Param} {ps : List Param} → At ts p.at NAME → p.called ≡ spelling_at ts p.at → OwnedParams ts ps → OwnedParams ts (p ∷ ps)

-- a function's body is a Block
pub data IsBlock : Exp → Type 0 where
  is_block : {i : ℕ} {e : Exp} → IsBlock (block i e)

pub record OwnedDef (ts : List Token) (d : Def) : Type 0 where
  pub named : d.named ≡ d.at + 1
  pub name : At ts (d.at + 1) NAME
  pub called : d.called ≡ spelling_at ts (d.at + 1)
  pub params : OwnedParams ts d.params
  pub body : Owned ts d.body
  pub block : IsBlock d.body

pub data OwnedDefs (ts : List Token) : List Def → Type 0 where
  owned_end : OwnedDefs ts []
  owned_def : {d : Def} {ds : List Def} → OwnedDef ts d → OwnedDefs ts ds → OwnedDefs ts (d ∷ ds)

pub record OwnedProgram (ts : List Token) (p : Program) : Type 0 where
  pub defs : OwnedDefs ts p.defs
  pub main : Owned ts p.main

abbrev OwnedBy : List Token → (s : Sym) → Of s → Type 0
OwnedBy ts program p = OwnedProgram ts p
OwnedBy ts def d = OwnedDef ts d
OwnedBy ts formals ps = OwnedParams ts ps
OwnedBy ts params ps = OwnedParams ts ps
OwnedBy ts type t = Unit {0}
OwnedBy ts seq e = Owned ts e
OwnedBy ts tail e = Owned ts e
OwnedBy ts bound e = Owned ts e
OwnedBy ts item e = Owned ts e
OwnedBy ts counting e = Owned ts e
OwnedBy ts bounds r = OwnedAll ts r.parts
OwnedBy ts assign e = Owned ts e
OwnedBy ts atom e = Owned ts e
OwnedBy ts actuals es = OwnedAll ts es
OwnedBy ts args es = OwnedAll ts es
OwnedBy ts (tier l) e = Owned ts e

-- ---- constants are truths or `tt`

data Plain : Option Literal → Type 0 where
  plain_none : Plain none
  plain_truth : {b : Bool} → Plain (some (truth b))
  plain_trivial : Plain (some trivial)

plain : (k : ℕ) → Plain (entry constants k)
unfolding entry
plain k = go (eqb k TRUE) (eqb k FALSE) (eqb k TT)
  where
    go : (a b c : Bool) → Plain (cond a (some (truth true)) (cond b (some (truth false)) (cond c (some trivial) none)))
    go true b c = plain_truth
    go false true c = plain_truth
    go false false true = plain_trivial
    go false false false = plain_none

of_plain : {ts : List Token} {i : ℕ} {l : Literal} → Plain (some l) → OwnedLiteral ts i l
of_plain plain_truth = owned_truth
of_plain plain_trivial = owned_trivial

-- ---- every reading

module _ (ts : List Token) where
  owns : {s : Sym} {i j : ℕ} {x : Of s} → Reads ts s i j x → OwnedBy ts s x
  owns (program_seq p) = record { defs = owned_end; main = owns p }
  owns (program_def p q) = let r = owns q in record { defs = owned_def (owns p) r.defs; main = r.main }
  owns (def_is a b c p d q e r f) =
      record { named = refl; name = b; called = refl; params = owns p; body = owned_block (owns r); block = is_block }
  owns (formals_none a) = owned_none
  owns (formals_some p a) = owns p
  owns (params_one a b p) = owned_param a refl owned_none
  owns (params_more a b p c q) = owned_param a refl (owns q)
  owns (type_basic a) = tt
  owns (type_ref p a) = tt
  owns (seq_tail p) = owns p
  owns (seq_item p) = owns p
  owns (seq_more p h q) = owned_follow (owns p) (owns q)
  owns (tail_let p) = owns p
  owns (tail_if a p b q c r) = owned_branch (owns p) (owns q) (owns r)
  owns (let_in a b c p d q) = owned_bind b refl (owns p) (owns q)
  owns (item_if a p b q c r) = owned_branch (owns p) (owns q) (owns r)
  owns (item_while a p b q c) = owned_loop (owns p) (owned_block (owns q))
  owns (item_for p) = owns p
  owns (for_is a b c p d q e) = owned_counted b refl (owns p) (owned_block (owns q))
  owns (bounds_two p a q) = owned_more (owns p) (owned_more (owns q) owned_last)
  owns (bounds_three p a q b r) = owned_more (owns p) (owned_more (owns q) (owned_more (owns r) owned_last))
  owns (item_assign p) = owns p
  owns (assign_one p) = owns p
  owns (assign_to p h q) = owned_binary (owns p) (owns q)
  owns (chain_one p) = owns p
  owns (chain_more p h q) = owned_binary (owns p) (owns q)
  owns (cmp_one p) = owns p
  owns (cmp_two p h q) = owned_binary (owns p) (owns q)
  owns (un_prefix h p) = owned_unary (owns p)
  owns (un_atom p) = owns p
  owns (atom_name a) = owned_name a refl
  owns (atom_call a b p) = owned_call a refl (owns p)
  owns (atom_number a) = owned_literal (owned_whole a refl)
  owns (atom_float a) = owned_literal (owned_decimal a refl)
  owns (atom_constant {i} {l} h) = owned_literal (of_plain (subst Plain h (plain (kind_at ts i))))
  owns (atom_group a p b) = owned_group (owns p)
  owns (atom_block a p b) = owned_block (owns p)
  owns (actuals_none a) = owned_last
  owns (actuals_some p a) = owns p
  owns (args_one p) = owned_more (owns p) owned_last
  owns (args_more p h q) = owned_more (owns p) (owns q)

  -- a program that is read owns its tokens
  pub reading_owned : (p : Program) → Reading ts p → OwnedProgram ts p
  reading_owned p r = owns r
