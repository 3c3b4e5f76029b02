-- A fault is told at a token that was read.
use mathlib.Core.List.{List, [], ◌∷◌}
use Prim.Native.Nat.{ℕ, ◌+◌, ◌≤◌, ◌<◌}
use native.Mathlib.Omega.{arith}
use lib.ListN.{length}
use Rattle.language.specs.Sizes.{Sizes}
use Rattle.language.specs.Tokens.{Token}
use Rattle.language.specs.Trees.{Ty, Exp, Exps, Param, Def, Program, Scope}
use Rattle.language.specs.Grammar.{program, formals, params, Reads, Reading, program_seq, program_def}
use Rattle.language.specs.Grammar.{def_is, formals_none, formals_some, params_one, params_more}
use Rattle.language.specs.Types.{Sig}
use Rattle.language.specs.Faults.{Reason, FaultUnder, f_name, f_unary, f_unary_here, f_left, f_right, f_binary_here, f_first, f_second, f_follow_here}
use Rattle.language.specs.Faults.{f_group, f_block, f_arguments, f_no_function, f_wrong_number, f_wrong_argument, f_bound, f_inside, f_if}
use Rattle.language.specs.Faults.{f_then, f_else, f_if_here, f_branches_here, f_while, f_do, f_while_here, f_do_here, FaultAllUnder, f_one, f_rest}
use Rattle.language.specs.Faults.{FaultTakesUnder, p_ninth, p_twice, p_refs, p_later, FaultDefUnder, d_many, d_twice, d_params, d_refs, d_body, d_type}
use Rattle.language.specs.Faults.{FaultFromUnder, fault_main, fault_here, fault_later, HasFaultUnder, f_bounds, f_pass, f_bounds_here, f_pass_here}
use Rattle.language.proofs.Grammar.FirstTokens.{grows}
use Rattle.language.proofs.Grammar.OwnTokens.{Own, owns, all_owns, def_owns, program_owns, All, first, rest, front, back, all_same}
use Rattle.language.proofs.Grammar.OwnOnce.{own_inside}

-- ---- the heads of functions

-- the parameters, and the functions, are named by tokens before n
data Named (n : ℕ) : List Param → Type 0 where
  named_none : Named n []
  named_more : {p : Param} {ps : List Param} → p.at < n → Named n ps → Named n (p ∷ ps)

data Headed (n : ℕ) : List Def → Type 0 where
  headed_none : Headed n []
  headed_more : {d : Def} {ds : List Def} → d.at < n → d.named < n → Named n d.params → Headed n ds → Headed n (d ∷ ds)

named_up : {m n : ℕ} {ps : List Param} → m ≤ n → Named m ps → Named n ps
named_up h named_none = named_none
named_up {n = n} h (named_more {p} k q) = let l : p.at < n = omega arith in named_more l (named_up h q)

module _ (ts : List Token) where
  params_named : {i j : ℕ} {ps : List Param} → Reads ts params i j ps → Named j ps
  params_named (params_one {i} {j} a b p) = let l : i < j = omega (arith, grows ts p) in named_more l named_none
  params_named (params_more {i} {m} {j} a b p c q) = let l : i < j = omega (arith, grows ts p, grows ts q) in named_more l (params_named q)

  formals_named : {i j : ℕ} {ps : List Param} → Reads ts formals i j ps → Named j ps
  formals_named (formals_none a) = named_none
  formals_named (formals_some p a) = named_up (omega arith) (params_named p)

  headed : {i j : ℕ} {p : Program} (n : ℕ) → j ≤ n → Reads ts program i j p → Headed n p.defs
  headed n h (program_seq p) = headed_none
  headed n h (program_def {i} {m} {j} (def_is a b c p d q e r f) more) =
      let k = grows ts more in
      let u = grows ts p in
      let v = grows ts q in
      let w = grows ts r in
      let x : i < n = omega arith in
      let y : i + 1 < n = omega arith in
      headed_more x y (named_up (omega arith) (formals_named p)) (headed n h more)

-- ---- trees

module _ (P : ℕ → Type 0) where
  abbrev Owned : List Own → Type 0
  Owned os = All (λ o. P o.at) os

  module _ {Δ : Scope Sig} where
    mutual
      unfolding owns

      fault_own : {σ : Sizes} {Γ : Scope Ty} {e : Exp} {r : Reason} {n : ℕ} → FaultUnder σ Δ Γ e r n → Owned (owns e) → P n
      fault_own (f_name h) m = first m
      fault_own (f_unary p) m = fault_own p (rest m)
      fault_own (f_unary_here a b c) m = first m
      fault_own (f_left {e = e} p) m = fault_own p (front (owns e) _ m)
      fault_own (f_right {e = e} a p) m = fault_own p (rest (back (owns e) _ m))
      fault_own (f_binary_here {e = e} a b c) m = first (back (owns e) _ m)
      fault_own (f_first {e = e} p) m = fault_own p (front (owns e) _ m)
      fault_own (f_second {e = e} a p) m = fault_own p (rest (back (owns e) _ m))
      fault_own (f_follow_here {e = e} a b c) m = first (back (owns e) _ m)
      fault_own (f_group p) m = fault_own p (rest m)
      fault_own (f_block p) m = fault_own p (rest m)
      fault_own (f_arguments p) m = fault_owns p (rest m)
      fault_own (f_no_function a b) m = first m
      fault_own (f_wrong_number a b c) m = first m
      fault_own (f_wrong_argument a b c d) m = first m
      fault_own (f_bound {e = e} p) m = fault_own p (front (owns e) _ (rest m))
      fault_own (f_inside {e = e} a p) m = fault_own p (back (owns e) _ (rest m))
      fault_own (f_if {c = c} p) m = fault_own p (front (owns c) _ (rest m))
      fault_own (f_then {c = c} {e = e} a p) m = fault_own p (front (owns e) _ (back (owns c) _ (rest m)))
      fault_own (f_else {c = c} {e = e} a b p) m = fault_own p (back (owns e) _ (back (owns c) _ (rest m)))
      fault_own (f_if_here a b c d) m = first m
      fault_own (f_branches_here a b c d) m = first m
      fault_own (f_while {c = c} p) m = fault_own p (front (owns c) _ (rest m))
      fault_own (f_do {c = c} a p) m = fault_own p (back (owns c) _ (rest m))
      fault_own (f_while_here a b c) m = first m
      fault_own (f_do_here a b c) m = first m
      fault_own (f_bounds {es = es} p) m = fault_owns p (front (all_owns es) _ (rest m))
      fault_own (f_pass {es = es} a p) m = fault_own p (back (all_owns es) _ (rest m))
      fault_own (f_bounds_here a b c) m = first m
      fault_own (f_pass_here a b c d) m = first m

      fault_owns : {σ : Sizes} {Γ : Scope Ty} {es : Exps} {r : Reason} {n : ℕ} → FaultAllUnder σ Δ Γ es r n → Owned (all_owns es) → P n
      fault_owns (f_one {e = e} p) m = fault_own p (front (owns e) _ m)
      fault_owns (f_rest {e = e} a p) m = fault_owns p (back (owns e) _ m)

-- ---- programs

module _ (n : ℕ) where
  takes_inside : {σ : Sizes} {Γ : Scope Ty} {ps : List Param} {r : Reason} {i : ℕ} → FaultTakesUnder σ Γ ps r i → Named n ps → i < n
  takes_inside (p_ninth a) (named_more h k) = h
  takes_inside (p_twice a b) (named_more h k) = h
  takes_inside (p_refs a b c) (named_more h k) = h
  takes_inside (p_later a b c p) (named_more h k) = takes_inside p k

  def_inside : {σ : Sizes} {Δ : Scope Sig} {d : Def} {r : Reason} {i : ℕ} → FaultDefUnder σ Δ d r i → d.at < n → d.named < n → Named n d.params
      → Owned (λ k. k < n) (owns d.body) → i < n
  def_inside (d_many a) h k l m = h
  def_inside (d_twice a b) h k l m = k
  def_inside (d_params a b p) h k l m = takes_inside p l
  def_inside (d_refs a b c e) h k l m = h
  def_inside (d_body a b c e p) h k l m = fault_own (λ k. k < n) p m
  def_inside (d_type a b c e f g) h k l m = h

  from_inside : {σ : Sizes} {Δ : Scope Sig} {ds : List Def} {e : Exp} {r : Reason} {i : ℕ} → FaultFromUnder σ Δ ds e r i → Headed n ds
      → Owned (λ k. k < n) (def_owns ds (owns e)) → i < n
  unfolding def_owns
  from_inside (fault_main p) h m = fault_own (λ k. k < n) p m
  from_inside (fault_here {d = d} p) (headed_more a b c h) m = def_inside p a b c (front (owns d.body) _ m)
  from_inside (fault_later {d = d} f p) (headed_more a b c h) m = from_inside p h (back (owns d.body) _ m)

pub fault_inside : {σ : Sizes} (ts : List Token) (p : Program) (r : Reason) (i : ℕ) → Reading ts p → HasFaultUnder σ p r i → i < length ts
unfolding program_owns
fault_inside ts p r i reading h =
    from_inside (length ts) h (headed ts (length ts) (omega arith) reading) (all_same (λ o k. k.0) (own_inside ts p reading))
