-- A program without endless nodes, run with at least the units that are worked out before, uses no more and never ends in 50 (R10.6):
-- a program that has a type, under whatever sizes (R13.5).
use mathlib.Core.Path.{◌≡◌, refl, sym, ap, subst, ◌∙◌}
use mathlib.Core.Bool.{Bool, true, false, cond}
use mathlib.Core.List.{List, [], ◌∷◌}
use mathlib.Core.Option.{Option, none, some}
use Prim.Native.Nat.{ℕ, ◌+◌, ◌-◌, ◌≤◌}
use native.Mathlib.Omega.{arith}
use Rattle.language.specs.Sizes.{Sizes, ACTIVE}
use Rattle.language.specs.Tokens.{same}
use Rattle.language.specs.Trees.{Name, Ty, Exp, name, literal, unary, binary, follow, group, block, call, bind, branch}
use Rattle.language.specs.Trees.{loop, Exps, last, more, Def, Program, Scope, empty, push, nearest, PUTCHAR, counted}
use Rattle.language.specs.Types.{Sig, TypedUnder, t_name, t_whole, t_truth, t_trivial, t_unary, t_binary, t_follow, t_group, t_block}
use Rattle.language.specs.Types.{t_call, t_bind, t_branch, t_loop, t_decimal, t_counted, TypedAllUnder, t_last, t_more, fine, with_def}
use Rattle.language.specs.Types.{TypedFromUnder, typed_main, typed_def, HasTypeUnder}
use Rattle.language.specs.State.{Stop, no_unit, Value, State, Outcome, value, stop}
use Rattle.language.specs.Meaning.{Fun, functions, start, run}
use Rattle.language.specs.Profile.{or_else, endless, any_endless, endless_from, first_endless, or_zero, cost, all_cost, body_costs, units_most}
use Rattle.language.proofs.Meaning.CellTypes.{none_some, some_one}
use Rattle.language.proofs.Meaning.NeverStuck.{same_true}
use Rattle.language.proofs.Meaning.Finishing.{Other, Within, in_value, in_stop, left_none, right_none, nobody, Affordable, eval_in}

-- ---- without endless nodes there is none for nobody

join_none : {x y : Option ℕ} → x ≡ none → y ≡ none → or_else x y ≡ none
unfolding or_else
join_none p q = rw p q

module _ (self : Name → Bool) where
  mutual
    unfolding endless

    loopless : (e : Exp) → endless self e ≡ none → endless nobody e ≡ none
    loopless (name i x) h = refl
    loopless (literal i l) h = refl
    loopless (unary i o e) h = loopless e h
    loopless (binary i o e f) h = join_none (loopless e (left_none _ _ h)) (loopless f (right_none _ _ h))
    loopless (follow i e f) h = join_none (loopless e (left_none _ _ h)) (loopless f (right_none _ _ h))
    loopless (group i e) h = loopless e h
    loopless (block i e) h = loopless e h
    loopless (call i f es) h = join_none (all_loopless es (left_none _ _ h)) refl
    loopless (bind i x e f) h = join_none (loopless e (left_none _ _ h)) (loopless f (right_none _ _ h))
    loopless (branch i c e f) h =
        let k = right_none _ _ h in
        join_none (loopless c (left_none _ _ h)) (join_none (loopless e (left_none _ _ k)) (loopless f (right_none _ _ k)))
    loopless (loop i c e) h = absurd (none_some (sym (right_none (endless self e) (some i) (right_none (endless self c) _ h))))
    loopless (counted i x b es e) h =
        absurd (none_some (sym (right_none (endless self e) (some i) (right_none (any_endless self es) _ h))))

    all_loopless : (es : Exps) → any_endless self es ≡ none → any_endless nobody es ≡ none
    all_loopless last h = refl
    all_loopless (more e es) h = join_none (loopless e (left_none _ _ h)) (all_loopless es (right_none _ _ h))

-- ---- a tree costs the same where all functions that it calls do

picked : (b : Bool) (i : ℕ) → cond b (some i) none ≡ none → b ≡ false
picked true i e = absurd (none_some (sym e))
picked false i e = refl

module _ {σ : Sizes} (self : Name → Bool) (Δ : Scope Sig) (A B : Scope ℕ)
    (agree : (f : Name) (s : Sig) → nearest f Δ ≡ some s → self f ≡ false → nearest f A ≡ nearest f B) where
  mutual
    unfolding endless cost

    cost_same : {Γ : Scope Ty} {e : Exp} {t : Ty} → TypedUnder σ Δ Γ e t → endless self e ≡ none → cost A e ≡ cost B e
    cost_same (t_name p) h = refl
    cost_same t_whole h = refl
    cost_same t_truth h = refl
    cost_same t_trivial h = refl
    cost_same (t_unary p q) h = rw (cost_same p h) refl
    cost_same (t_binary p q r) h = rw (cost_same p (left_none _ _ h), cost_same q (right_none _ _ h)) refl
    cost_same (t_follow p q) h = rw (cost_same p (left_none _ _ h), cost_same q (right_none _ _ h)) refl
    cost_same (t_group p) h = rw (cost_same p h) refl
    cost_same (t_block p) h = rw (cost_same p h) refl
    cost_same (t_call {i = i} {f = f} p q) h =
        rw (all_same p (left_none _ _ h), agree f _ q (picked (self f) i (right_none _ _ h))) refl
    cost_same (t_bind p q) h = rw (cost_same p (left_none _ _ h), cost_same q (right_none _ _ h)) refl
    cost_same (t_branch p q r) h =
        let k = right_none _ _ h in
        rw (cost_same p (left_none _ _ h), cost_same q (left_none _ _ k), cost_same r (right_none _ _ k)) refl
    cost_same (t_loop {i = i} {c = c} {e = e} p q) h =
        absurd (none_some (sym (right_none (endless self e) (some i) (right_none (endless self c) _ h))))
    cost_same t_decimal h = refl
    cost_same (t_counted {i = i} {es = es} {e = e} p q r) h =
        absurd (none_some (sym (right_none (endless self e) (some i) (right_none (any_endless self es) _ h))))

    all_same : {Γ : Scope Ty} {es : Exps} {ts : List Ty} → TypedAllUnder σ Δ Γ es ts → any_endless self es ≡ none → all_cost A es ≡ all_cost B es
    all_same t_last h = refl
    all_same (t_more p q) h = rw (cost_same p (left_none _ _ h), all_same q (right_none _ _ h)) refl

-- ---- functions by name: what they take and give, and what they cost, in one order

data Named : Scope Sig → Scope ℕ → Type 0 where
  named_none : Named empty empty
  named_push : {f : Name} {s : Sig} {c : ℕ} {ss : Scope Sig} {cs : Scope ℕ} → Named ss cs → Named (push f s ss) (push f c cs)

-- what is in sight has a cost
sighted : {ss : Scope Sig} {cs : Scope ℕ} (f : Name) (s : Sig) → Named ss cs → nearest f ss ≡ some s → (c : ℕ) × (nearest f cs ≡ some c)
unfolding nearest
sighted f s named_none e = absurd (none_some e)
sighted f s (named_push {f = h} {s = r} {c = c} {ss = ss} {cs = cs} q) e = by (same f h) e (λ m. sighted f s q m)
  where
    by : (b : Bool) → cond b (some r) (nearest f ss) ≡ some s → (nearest f ss ≡ some s → (c : ℕ) × (nearest f cs ≡ some c))
        → (n : ℕ) × (cond b (some c) (nearest f cs) ≡ some n)
    by true e k = (c, refl)
    by false e k = k e

hidden : {ss : Scope Sig} {cs : Scope ℕ} (f : Name) → Named ss cs → nearest f ss ≡ none → nearest f cs ≡ none
unfolding nearest
hidden f named_none e = refl
hidden f (named_push {f = h} {s = r} {c = c} {ss = ss} {cs = cs} q) e = by (same f h) e (λ m. hidden f q m)
  where
    by : (b : Bool) → cond b (some r) (nearest f ss) ≡ none → (nearest f ss ≡ none → nearest f cs ≡ none) → cond b (some c) (nearest f cs) ≡ none
    by true e k = absurd (none_some (sym e))
    by false e k = k e

-- a new name hides no cost
kept : (cs : Scope ℕ) (g : Name) (n : ℕ) → nearest g cs ≡ none → (f : Name) (c : ℕ) → nearest f cs ≡ some c → nearest f (push g n cs) ≡ some c
unfolding nearest
kept cs g n e f c h = by (same f g) refl
  where
    by : (b : Bool) → same f g ≡ b → cond b (some n) (nearest f cs) ≡ some c
    by true d = absurd (none_some (sym e ∙ ap (λ x. nearest x cs) (sym (same_true f g d)) ∙ h))
    by false d = h

-- so a cost stays as it is while further functions come
stays : {σ : Sizes} {Δ : Scope Sig} {ds : List Def} {e : Exp} {t : Ty} {cs : Scope ℕ} (f : Name) (c : ℕ) → TypedFromUnder σ Δ ds e t → Named Δ cs
    → nearest f cs ≡ some c → nearest f (body_costs ds cs) ≡ some c
unfolding body_costs
stays f c (typed_main p) m h = h
stays {cs = cs} f c (typed_def {d = d} (fine a b k l n) q) m h = stays f c q (named_push m) (kept cs d.called _ (hidden d.called m b) f c h)

-- ---- functions and what they cost; F has the costs of all

data Beside (F : Scope ℕ) : Scope Fun → Scope ℕ → Type 0 where
  beside_none : Beside F empty empty
  beside_push : {f : Name} {g : Fun} {c : ℕ} {fs : Scope Fun} {cs : Scope ℕ}
      → Affordable F g c → Beside F fs cs → Beside F (push f g fs) (push f c cs)

affordable : {F : Scope ℕ} {fs : Scope Fun} {cs : Scope ℕ} (f : Name) (g : Fun) → Beside F fs cs → nearest f fs ≡ some g
    → Affordable F g (or_zero (nearest f cs))
unfolding nearest
affordable f g beside_none e = absurd (none_some e)
affordable {F} f g (beside_push {f = h} {g = r} {c = c} {fs = fs} {cs = cs} p q) e = by (same f h) e (λ m. affordable f g q m)
  where
    by : (b : Bool) → cond b (some r) (nearest f fs) ≡ some g → (nearest f fs ≡ some g → Affordable F g (or_zero (nearest f cs)))
        → Affordable F g (or_zero (cond b (some c) (nearest f cs)))
    by true e k = subst (λ x. Affordable F x c) (some_one e) p
    by false e k = k e

-- what a body calls is in sight and not the function itself, so it costs in the end what it cost when it was worked out
body_same : {σ : Sizes} {Δ : Scope Sig} {Γ : Scope Ty} {t : Ty} (d : Def) (F cs : Scope ℕ) → Named Δ cs
    → ((f : Name) (c : ℕ) → nearest f cs ≡ some c → nearest f F ≡ some c)
    → TypedUnder σ (with_def Δ d) Γ d.body t → endless (λ f. same f d.called) d.body ≡ none → cost F d.body ≡ cost cs d.body
unfolding nearest
body_same {Δ = Δ} d F cs m up p h = cost_same (λ f. same f d.called) (with_def Δ d) F cs agree p h
  where
    agree : (f : Name) (s : Sig) → nearest f (with_def Δ d) ≡ some s → same f d.called ≡ false → nearest f F ≡ nearest f cs
    agree f s e k = let c = sighted f s m (rw k at e) in up f c.0 c.1 ∙ sym c.1

beside_all : {σ : Sizes} {Δ : Scope Sig} {ds : List Def} {e : Exp} {t : Ty} {fs : Scope Fun} {cs : Scope ℕ} (F : Scope ℕ) → TypedFromUnder σ Δ ds e t
    → endless_from ds e ≡ none → Named Δ cs → body_costs ds cs ≡ F → Beside F fs cs → Beside F (functions ds fs) F
unfolding endless_from body_costs functions
beside_all F (typed_main p) h m k q = subst (Beside F _) k q
beside_all {cs = cs} F (typed_def {Δ} {d} (fine a b c l p) r) h m k q =
    let body = left_none _ _ h in
    let up : (f : Name) (n : ℕ) → nearest f cs ≡ some n → nearest f F ≡ some n = λ f n e. ap (nearest f) (sym k)
    ∙ stays f n (typed_def {d = d} (fine a b c l p) r) m e in
    let same_cost = body_same d F cs m up p body in
    beside_all F r (right_none _ _ h) (named_push m) k (beside_push (loopless _ d.body body, omega (arith, same_cost)) q)

last_endless : (ds : List Def) (e : Exp) → endless_from ds e ≡ none → endless nobody e ≡ none
unfolding endless_from
last_endless [] e h = h
last_endless (d ∷ ds) e h = last_endless ds e (right_none _ _ h)

-- ---- a run

run_in : {σ : Sizes} (p : Program) (t : Ty) (allowance room : ℕ) → HasTypeUnder σ p t → first_endless p ≡ none → units_most p ≤ allowance
    → Within (units_most p) allowance (run p allowance room)
unfolding units_most run
run_in p t a r h k l =
    let F = body_costs p.defs (push PUTCHAR 0 empty) in
    let q = beside_all F h k (named_push named_none) refl (beside_push tt beside_none) in
    eval_in F _ (λ f g e. affordable f g q e) ACTIVE p.main empty (start a r) (last_endless p.defs p.main k) l

value_used : {n u : ℕ} {o : Outcome} {v : Value} {s : State} → Within n u o → o ≡ value v s → u ≤ s.units + n
value_used {n} {u} {v = v} {s = s} h e = used (subst (Within n u) e h)
  where
    used : {v : Value} {s : State} → Within n u (value v s) → u ≤ s.units + n
    used (in_value k) = k.most

stop_used : {n u i : ℕ} {o : Outcome} {w : Stop} {s : State} → Within n u o → o ≡ stop w i s → Other w × (u ≤ s.units + n)
stop_used {n} {u} {i} {w = w} {s = s} h e = used (subst (Within n u) e h)
  where
    used : {i : ℕ} {w : Stop} {s : State} → Within n u (stop w i s) → Other w × (u ≤ s.units + n)
    used (in_stop a k) = (a, k.most)

-- R10.6: the units used are those that the allowance has lost
module _ {σ : Sizes} (p : Program) (t : Ty) (allowance room : ℕ) (typed : HasTypeUnder σ p t) (ends : first_endless p ≡ none)
    (enough : units_most p ≤ allowance) where
  pub value_in_count : (v : Value) (s : State) → run p allowance room ≡ value v s → allowance - s.units ≤ units_most p
  value_in_count v s e = omega (arith, value_used (run_in p t allowance room typed ends enough) e)

  pub stop_in_count : (w : Stop) (i : ℕ) (s : State) → run p allowance room ≡ stop w i s → allowance - s.units ≤ units_most p
  stop_in_count w i s e = omega (arith, (stop_used (run_in p t allowance room typed ends enough) e).1)

  pub never_50 : (i : ℕ) (s : State) → run p allowance room ≡ stop no_unit i s → ⊥
  never_50 i s e = (stop_used (run_in p t allowance room typed ends enough) e).0
