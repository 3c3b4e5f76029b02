-- A type that a reading has under some sizes it has under larger ones.
use mathlib.Core.List.{List}
use native.Mathlib.Omega.{arith}
use Rattle.language.specs.Sizes.{Sizes}
use Rattle.language.specs.Trees.{Ty, Unary, Exp, Exps, Param, Def, Program, Scope}
use Rattle.language.specs.Types.{Sig, UnopTypeUnder, u_minus, u_not, u_fetch, u_new, TypedUnder, t_name, t_whole, t_truth, t_trivial}
use Rattle.language.specs.Types.{t_decimal, t_unary, t_binary, t_follow, t_group, t_block, t_call, t_bind, t_branch, t_loop, t_counted}
use Rattle.language.specs.Types.{TypedAllUnder, t_last, t_more, TakesUnder, takes_none, takes_more, FineUnder, fine}
use Rattle.language.specs.Types.{TypedFromUnder, typed_main, typed_def, HasTypeUnder}
use Rattle.language.proofs.Sizes.Larger.{Larger}

module _ {σ τ : Sizes} (l : Larger σ τ) where
  unop_larger : {o : Unary} {t u : Ty} → UnopTypeUnder σ o t u → UnopTypeUnder τ o t u
  unop_larger u_minus = u_minus
  unop_larger u_not = u_not
  unop_larger u_fetch = u_fetch
  unop_larger (u_new {t = t} h) = u_new {t = t} (omega (arith, h, l.refs))

  module _ (Δ : Scope Sig) where
    mutual
      pub typed_larger : {Γ : Scope Ty} {e : Exp} {t : Ty} → TypedUnder σ Δ Γ e t → TypedUnder τ Δ Γ e t
      typed_larger (t_name h) = t_name h
      typed_larger t_whole = t_whole
      typed_larger t_truth = t_truth
      typed_larger t_trivial = t_trivial
      typed_larger t_decimal = t_decimal
      typed_larger (t_unary p h) = t_unary (typed_larger p) (unop_larger h)
      typed_larger (t_binary p q h) = t_binary (typed_larger p) (typed_larger q) h
      typed_larger (t_follow p q) = t_follow (typed_larger p) (typed_larger q)
      typed_larger (t_group p) = t_group (typed_larger p)
      typed_larger (t_block p) = t_block (typed_larger p)
      typed_larger (t_call p h) = t_call (all_larger p) h
      typed_larger (t_bind p q) = t_bind (typed_larger p) (typed_larger q)
      typed_larger (t_branch p q r) = t_branch (typed_larger p) (typed_larger q) (typed_larger r)
      typed_larger (t_loop p q) = t_loop (typed_larger p) (typed_larger q)
      typed_larger (t_counted p h q) = t_counted (all_larger p) h (typed_larger q)

      pub all_larger : {Γ : Scope Ty} {es : Exps} {ts : List Ty} → TypedAllUnder σ Δ Γ es ts → TypedAllUnder τ Δ Γ es ts
      all_larger t_last = t_last
      all_larger (t_more p q) = t_more (typed_larger p) (all_larger q)

  pub takes_larger : {Γ Γ' : Scope Ty} {ps : List Param} → TakesUnder σ Γ ps Γ' → TakesUnder τ Γ ps Γ'
  takes_larger takes_none = takes_none
  takes_larger (takes_more {Γ = Γ} {p = p} a b c q) =
      takes_more {Γ = Γ} {p = p} (omega (arith, a, l.parameters)) b (omega (arith, c, l.refs)) (takes_larger q)

  pub fine_larger : {Δ : Scope Sig} {d : Def} → FineUnder σ Δ d → FineUnder τ Δ d
  fine_larger (fine a b p c q) = fine (omega (arith, a, l.functions)) b (takes_larger p) (omega (arith, c, l.refs)) (typed_larger _ q)

  from_larger : {Δ : Scope Sig} {ds : List Def} {e : Exp} {t : Ty} → TypedFromUnder σ Δ ds e t → TypedFromUnder τ Δ ds e t
  from_larger (typed_main p) = typed_main (typed_larger _ p)
  from_larger (typed_def p q) = typed_def (fine_larger p) (from_larger q)

  pub type_larger : (p : Program) (t : Ty) → HasTypeUnder σ p t → HasTypeUnder τ p t
  type_larger p t h = from_larger h
