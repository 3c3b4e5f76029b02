-- Arguments suit exactly when their types are those that the callee takes, and what a call then answers.
use mathlib.Core.Bool.{Bool, true, false, ◌&&◌}
use mathlib.Core.List.{List, [], ◌∷◌, map}
use mathlib.Core.Path.{◌≡◌, refl, sym, ap, subst, ◌∙◌}
use Rattle.std.specs.Prelude.{Err}
use Prim.Native.Nat.{ℕ, suc, ◌+◌}
use native.Mathlib.Omega.{arith}
use lib.Dec.{eqb}
use lib.ListN.{length, length-map}
use borrow.Author.Tests.{eqb-true, eqb-false, lt-ltb}
use Rattle.language.specs.Tokens.{Token}
use Rattle.language.specs.Trees.{Ty, int, Param}
use Rattle.language.specs.Types.{sig}
use Rattle.language.specs.Meaning.{type_number}
use Rattle.language.proofs.Types.TypeNumbers.{one_number}
use Rattle.language.proofs.Executable.Checks.{after_ok, after_bad, told_some, told_none}
use Rattle.language.proofs.Executable.Checker.{infer}
use Rattle.layout.specs.Table.{TYPE, ARITY, RESULT, row_word}
use Rattle.layout.specs.Decode.{ParamsAt, params_none, params_more}
use Rattle.rules.specs.Asked.{Typing, suits, Matches, AsksCall}
use Rattle.numbers.specs.declared.Reason.TheVariants.{NoFunction}
use Rattle.rules.specs.declared.sight.Callee.{Callee}
use Rattle.rules.specs.declared.sight.Taker.TheVariants as Taker
use Rattle.rules.proofs.TellLaws.{fault_is, tells_from}

-- the flag tells whether the statement holds
abbrev pub Decided : Bool → Type 0 → Type 0
Decided b A = (b ≡ true → A) × (b ≡ false → A → ⊥)

-- the flag is not both
pub clash : {A : Type 0} → true ≡ false → A
clash e = absurd (let z : ◌≡◌ {A = ℕ} 0 1 = cc in omega arith)

-- of two lists of types, by their heads and their tails
pub decided_more : (a b : Bool) (t u : Ty) (ts us : List Ty) → Decided a (t ≡ u) → Decided b (ts ≡ us) → Decided (a && b) ((t ∷ ts) ≡ (u ∷ us))
decided_more true b t u ts us p q = ((λ e. let x = p.0 refl in let y = q.0 e in cc), λ e d. q.1 e (cc))
decided_more false b t u ts us p q = ((λ e. clash (sym e)), λ e d. p.1 refl (cc))

-- and of two types
pub decided_type : (t u : Ty) → Decided (eqb (type_number t) (type_number u)) (t ≡ u)
decided_type t u = ((λ e. one_number t u (eqb-true _ _ e)), λ e d. eqb-false _ _ e (ap type_number d))

-- as many arguments as parameters suit when their types are the parameters'
suits_params : {ts : List Token} (w : List ℕ) (r k : ℕ) (us : List Ty) {ps : List Param} (j : ℕ) → j ≡ r + k + 1 → ParamsAt ts w j ps
    → k + length ps ≡ row_word w r ARITY → length us ≡ length ps
    → Decided (suits w (Taker.Call (Callee.Function r)) k us) (us ≡ map (λ (p : Param). p.type) ps)
unfolding suits
suits_params w r k [] j e params_none l n = ((λ _. refl), λ d _. clash d)
suits_params w r k (u ∷ us) j e params_none l n = absurd (omega arith)
suits_params w r k [] j e (params_more a b c d q) l n = absurd (omega arith)
suits_params w r k (u ∷ us) j e (params_more {p = p} {ps = ps} a b c d q) l n =
    let t : row_word w (r + k + 1) TYPE ≡ type_number p.type = ap (λ (i : ℕ). row_word w i TYPE) (sym e) ∙ d in
    rw (lt-ltb k (row_word w r ARITY) (omega arith), t)
    (decided_more _ _ u p.type us (map (λ (p : Param). p.type) ps) (decided_type u p.type)
    (suits_params w r (suc k) us (j + 1) (omega arith) q (omega arith) (omega arith)))

suits_putchar : (w : List ℕ) (us : List Ty) → length us ≡ 1 → Decided (suits w (Taker.Call Callee.Putchar) 0 us) (us ≡ (int ∷ []))
unfolding suits
suits_putchar w [] n = absurd (omega arith)
suits_putchar w (u ∷ []) n = decided_more _ true u int [] [] (decided_type u int) ((λ _. refl), λ d _. clash d)
suits_putchar w (u ∷ v ∷ us) n = absurd (omega arith)

module _ (w : List ℕ) {c : Callee} {n : ℕ} {b : Bool} (i : ℕ) where
  -- a function's answer
  pub call_function : {r a g : ℕ} {q : Typing} → c ≡ Callee.Function r → a ≡ row_word w r ARITY → g ≡ row_word w r RESULT → Matches a g n b i q
      → AsksCall w c n b i q
  unfolding infer
  call_function {r} {q = q} e x y m =
      subst (λ (c : Callee). AsksCall w c n b i q) (sym e) λ ts f Δ Γ z es us h k l s.
      let d = h.0 in
      let at = h.1 in
      let o = length-map d.params (λ (p : Param). p.type) in
      tells_from (after_ok _ k (after_ok _ (told_some _ _ h.2) refl))
      (m (sig d) us (x ∙ at.count ∙ sym o) (y ∙ at.result) l
      (λ v. rw s (suits_params w r 0 us (r + 1) (omega arith) at.params (omega (arith, at.count)) (v ∙ o))))

  -- that of `putchar`
  pub call_putchar : {q : Typing} → c ≡ Callee.Putchar → Matches 1 (type_number int) n b i q → AsksCall w c n b i q
  unfolding infer
  call_putchar {q} e m =
      subst (λ (c : Callee). AsksCall w c n b i q) (sym e) λ ts f Δ Γ z es us h k l s.
      tells_from (after_ok _ k (after_ok _ (told_some _ _ h) refl))
      (m record { takes = int ∷ []; gives = int } us refl refl l (λ v. rw s (suits_putchar w us v)))

  -- and that of a call of nobody
  pub call_nobody : c ≡ Callee.Nobody → AsksCall w c n b i (Err record { why = NoFunction; place = i })
  unfolding infer
  call_nobody e =
      subst (λ (c : Callee). AsksCall w c n b i (Err record { why = NoFunction; place = i })) (sym e) λ ts f Δ Γ z es us h k l s.
      fault_is (after_ok _ k (after_bad _ (told_none _ _ h)))
