-- A fault that a reading has under some sizes it has under larger ones, the same at the same token, unless it is one of size.
use mathlib.Core.Bool.{false}
use mathlib.Core.List.{List}
use mathlib.Core.Path.{◌≡◌, ap, ◌∙◌}
use Prim.Native.Nat.{ℕ}
use native.Mathlib.Omega.{arith}
use Rattle.language.specs.Sizes.{Sizes}
use Rattle.language.specs.Trees.{Ty, Unary, Exp, Exps, Param, Def, Program, Scope}
use Rattle.language.specs.Types.{Sig, UnopTypeUnder, u_minus, u_not, u_fetch, u_new}
use Rattle.language.specs.Faults.{Reason, unsuited, FaultUnder, f_name, f_unary, f_unary_here, f_left, f_right, f_binary_here, f_first, f_second}
use Rattle.language.specs.Faults.{f_follow_here, f_group, f_block, f_arguments, f_no_function, f_wrong_number, f_wrong_argument, f_bound}
use Rattle.language.specs.Faults.{f_inside, f_if, f_then, f_else, f_if_here, f_branches_here, f_while, f_do, f_while_here, f_do_here}
use Rattle.language.specs.Faults.{f_bounds, f_pass, f_bounds_here, f_pass_here, FaultAllUnder, f_one, f_rest}
use Rattle.language.specs.Faults.{FaultTakesUnder, p_ninth, p_twice, p_refs, p_later, FaultDefUnder, d_many, d_twice, d_params, d_refs, d_body, d_type}
use Rattle.language.specs.Faults.{FaultFromUnder, fault_main, fault_here, fault_later, HasFaultUnder}
use Rattle.language.proofs.Sizes.Larger.{Larger, of_both, reason_of_size}
use Rattle.language.proofs.Sizes.TypesLarger.{typed_larger, all_larger, takes_larger, fine_larger}

module _ {σ τ : Sizes} (l : Larger σ τ) where
  -- but for `ref`, which asks of sizes, an operand that suits under the larger ones suits
  unop_back : {o : Unary} {t u : Ty} → reason_of_size (unsuited o) ≡ false → UnopTypeUnder τ o t u → UnopTypeUnder σ o t u
  unfolding unsuited
  unop_back n u_minus = u_minus
  unop_back n u_not = u_not
  unop_back n u_fetch = u_fetch
  unop_back n (u_new h) = of_both n

  module _ (Δ : Scope Sig) where
    mutual
      fault_larger : {Γ : Scope Ty} {e : Exp} {r : Reason} {n : ℕ} → FaultUnder σ Δ Γ e r n → reason_of_size r ≡ false → FaultUnder τ Δ Γ e r n
      fault_larger (f_name h) k = f_name h
      fault_larger (f_unary f) k = f_unary (fault_larger f k)
      fault_larger (f_unary_here p h e) k =
          f_unary_here (typed_larger l Δ p) (λ u q. h u (unop_back (ap reason_of_size e ∙ k) q)) e
      fault_larger (f_left f) k = f_left (fault_larger f k)
      fault_larger (f_right p f) k = f_right (typed_larger l Δ p) (fault_larger f k)
      fault_larger (f_binary_here p q h) k = f_binary_here (typed_larger l Δ p) (typed_larger l Δ q) h
      fault_larger (f_first f) k = f_first (fault_larger f k)
      fault_larger (f_second p f) k = f_second (typed_larger l Δ p) (fault_larger f k)
      fault_larger (f_follow_here p q h) k = f_follow_here (typed_larger l Δ p) (typed_larger l Δ q) h
      fault_larger (f_group f) k = f_group (fault_larger f k)
      fault_larger (f_block f) k = f_block (fault_larger f k)
      fault_larger (f_arguments f) k = f_arguments (faults_larger f k)
      fault_larger (f_no_function p e) k = f_no_function (all_larger l Δ p) e
      fault_larger (f_wrong_number p e h) k = f_wrong_number (all_larger l Δ p) e h
      fault_larger (f_wrong_argument p e h d) k = f_wrong_argument (all_larger l Δ p) e h d
      fault_larger (f_bound f) k = f_bound (fault_larger f k)
      fault_larger (f_inside p f) k = f_inside (typed_larger l Δ p) (fault_larger f k)
      fault_larger (f_if f) k = f_if (fault_larger f k)
      fault_larger (f_then p f) k = f_then (typed_larger l Δ p) (fault_larger f k)
      fault_larger (f_else p q f) k = f_else (typed_larger l Δ p) (typed_larger l Δ q) (fault_larger f k)
      fault_larger (f_if_here p q s h) k = f_if_here (typed_larger l Δ p) (typed_larger l Δ q) (typed_larger l Δ s) h
      fault_larger (f_branches_here p q s h) k = f_branches_here (typed_larger l Δ p) (typed_larger l Δ q) (typed_larger l Δ s) h
      fault_larger (f_while f) k = f_while (fault_larger f k)
      fault_larger (f_do p f) k = f_do (typed_larger l Δ p) (fault_larger f k)
      fault_larger (f_while_here p q h) k = f_while_here (typed_larger l Δ p) (typed_larger l Δ q) h
      fault_larger (f_do_here p q h) k = f_do_here (typed_larger l Δ p) (typed_larger l Δ q) h
      fault_larger (f_bounds f) k = f_bounds (faults_larger f k)
      fault_larger (f_pass p f) k = f_pass (all_larger l Δ p) (fault_larger f k)
      fault_larger (f_bounds_here p q h) k = f_bounds_here (all_larger l Δ p) (typed_larger l Δ q) h
      fault_larger (f_pass_here p q b h) k = f_pass_here (all_larger l Δ p) (typed_larger l Δ q) b h

      faults_larger : {Γ : Scope Ty} {es : Exps} {r : Reason} {n : ℕ} → FaultAllUnder σ Δ Γ es r n → reason_of_size r ≡ false → FaultAllUnder τ Δ Γ es r n
      faults_larger (f_one f) k = f_one (fault_larger f k)
      faults_larger (f_rest p f) k = f_rest (typed_larger l Δ p) (faults_larger f k)

  takes_fault : {Γ : Scope Ty} {ps : List Param} {r : Reason} {n : ℕ} → FaultTakesUnder σ Γ ps r n → reason_of_size r ≡ false → FaultTakesUnder τ Γ ps r n
  takes_fault (p_ninth h) k = of_both k
  takes_fault (p_twice {Γ = Γ} a h) k = p_twice {Γ = Γ} (omega (arith, a, l.parameters)) h
  takes_fault (p_refs a b h) k = of_both k
  takes_fault (p_later {Γ = Γ} {p = p} a b c f) k =
      p_later {Γ = Γ} {p = p} (omega (arith, a, l.parameters)) b (omega (arith, c, l.refs)) (takes_fault f k)

  def_fault : {Δ : Scope Sig} {d : Def} {r : Reason} {n : ℕ} → FaultDefUnder σ Δ d r n → reason_of_size r ≡ false → FaultDefUnder τ Δ d r n
  def_fault (d_many h) k = of_both k
  def_fault (d_twice a h) k = d_twice (omega (arith, a, l.functions)) h
  def_fault (d_params a b f) k = d_params (omega (arith, a, l.functions)) b (takes_fault f k)
  def_fault (d_refs a b p h) k = of_both k
  def_fault (d_body a b p c f) k =
      d_body (omega (arith, a, l.functions)) b (takes_larger l p) (omega (arith, c, l.refs)) (fault_larger _ f k)
  def_fault (d_type a b p c q h) k =
      d_type (omega (arith, a, l.functions)) b (takes_larger l p) (omega (arith, c, l.refs)) (typed_larger l _ q) h

  from_fault : {Δ : Scope Sig} {ds : List Def} {e : Exp} {r : Reason} {n : ℕ} → FaultFromUnder σ Δ ds e r n → reason_of_size r ≡ false
      → FaultFromUnder τ Δ ds e r n
  from_fault (fault_main f) k = fault_main (fault_larger _ f k)
  from_fault (fault_here f) k = fault_here (def_fault f k)
  from_fault (fault_later p f) k = fault_later (fine_larger l p) (from_fault f k)

  pub has_fault_larger : (p : Program) (r : Reason) (n : ℕ) → HasFaultUnder σ p r n → reason_of_size r ≡ false → HasFaultUnder τ p r n
  has_fault_larger p r n h k = from_fault h k
