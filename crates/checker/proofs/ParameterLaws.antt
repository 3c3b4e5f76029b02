-- Parameters become variables one by one: one law for each way through the code, and the loop over them.
use mathlib.Core.List.{List, ◌∷◌}
use mathlib.Core.Option.{Option, none, some}
use mathlib.Core.Path.{◌≡◌, refl, sym, ap, subst, ◌∙◌}
use Rattle.std.specs.Prelude as P
use Rattle.std.specs.Prelude.{true, false, is_some, None, Some, Ok, Err}
use Prim.Native.Nat.{ℕ, suc, ◌≤◌, ◌<◌}
use native.Mathlib.Omega.{arith}
use lib.ListN.{length}
use Rattle.language.specs.Sizes.{TOKENS, PARAMETERS}
use Rattle.language.specs.Tokens.{Token, spelling_at}
use Rattle.language.specs.Trees.{Name, Ty, Param, Scope, nearest, size}
use Rattle.language.specs.Faults as Faults
use Rattle.language.specs.Faults.{no_binding}
use Rattle.language.specs.Meaning.{type_number}
use Rattle.language.proofs.Types.TypeNumbers.{number_refs}
use Rattle.language.proofs.Executable.Checks.{Res, ok, bad, told, need_yes, need_no}
use Rattle.language.proofs.Executable.Checker.{unbound, take_params}
use Rattle.layout.specs.Types.{OVER}
use Rattle.layout.specs.Table.{OWN, TYPE, token_value, row_word, put_variable, without_variables}
use Rattle.layout.specs.Names.{Stand, Named}
use Rattle.layout.specs.Decode.{ParamsAt, params_more}
use Rattle.layout.proofs.NameLaws.{named_at}
use Rattle.layout.proofs.VariablesWords.{row_without, token_without}
use Rattle.numbers.specs.Meanings.{reason_meant}
use Rattle.rules.specs.Sight.{Variables, variables_none, variables_more, find_variable}
use Rattle.phrase_types.specs.Inferred.{looked}
use Rattle.checker.specs.Ruled.{ParameterAt, Bound}
use Rattle.numbers.specs.declared.Reason.TheVariants.{TooManyParameters, ParameterTwice, TooManyRefs}
use Rattle.rules.proofs.TellLaws.{type_told, fault_told, tells_as}
use Rattle.phrase_types.proofs.KeptLaws.{kept_self, kept_put, variables_put}
use Rattle.phrase_types.proofs.ScopeLaws.{look_tells, stand_few}

-- ---- what is bound under a name

-- a name that is new goes on
pub unbound_none : {A B : Type 0} {x : Option A} {y : Res B} (r : Faults.Reason) (n : ℕ) (f : Unit {0} → Res B) → x ≡ none → f tt ≡ y
    → unbound x r n f ≡ y
unfolding unbound
unbound_none r n f e h = rw e h

-- and one that is bound ends it
pub unbound_some : {A B : Type 0} {x : Option A} {a : A} (r : Faults.Reason) (n : ℕ) (f : Unit {0} → Res B) → x ≡ some a
    → unbound x r n f ≡ bad r n
unfolding unbound
unbound_some r n f e = rw e refl

told_found : (o : Option Ty) (r : Faults.Reason) (i : ℕ) (t : Ty) → told o r i ≡ ok t → o ≡ some t
unfolding told
told_found none r i t e = absurd (let z : ◌≡◌ {A = ℕ} 0 1 = cc in omega arith)
told_found (some u) r i t e = cc

told_nothing : (o : Option Ty) (r q : Faults.Reason) (i j : ℕ) → told o r i ≡ bad q j → o ≡ none
unfolding told
told_nothing none r q i j e = refl
told_nothing (some u) r q i j e = absurd (let z : ◌≡◌ {A = ℕ} 0 1 = cc in omega arith)

module _ {ts : List Token} (few : length ts ≤ TOKENS) {w : List ℕ} {x : ℕ} {y : Name} (called : Named ts x y) {n : ℕ} {Γ : Scope Ty}
    (scope : Variables ts w n Γ) where
  -- where the search finds a variable the scope has one
  pub found_some : {t : ℕ} → find_variable w x n ≡ Some t → (u : Ty) × (nearest y Γ ≡ some u)
  found_some e =
      let h = type_told (tells_as (ap (λ o. looked o 0) e) (look_tells few called 0 scope)) in
      (h.0, told_found (nearest y Γ) no_binding 0 h.0 h.1)

  -- and where it finds none the scope has none
  pub found_none : find_variable w x n ≡ None → nearest y Γ ≡ none
  found_none e = told_nothing (nearest y Γ) no_binding _ 0 0 (fault_told (tells_as (ap (λ o. looked o 0) e)
      (look_tells few called 0 scope)))

-- as many as there are variables
pub variables_size : {ts : List Token} {w : List ℕ} {n : ℕ} {Γ : Scope Ty} → Variables ts w n Γ → size Γ ≡ n
unfolding size
variables_size variables_none = refl
variables_size (variables_more e a b r) = ap suc (variables_size r) ∙ sym e

-- a search that found none, and one that found some
none_where : (o : P.Option ℕ) → is_some o ≡ false → o ≡ None
none_where None e = refl
none_where (Some t) e = cc

some_where : (o : P.Option ℕ) → is_some o ≡ true → (t : ℕ) × (o ≡ Some t)
some_where None e = cc
some_where (Some t) e = (t, refl)

-- ---- one parameter

module _ {w : List ℕ} {row : ℕ} (r : ParameterAt w row) {at : ℕ} (ea : at ≡ row_word w row OWN) where
  own : {ts : List Token} {q : Param} {qs : List Param} → ParamsAt ts (without_variables w) row (q ∷ qs) → at ≡ q.at
  own (params_more a n c t h) = ea ∙ sym (row_without w row 1 r.inside (omega arith)) ∙ a

  deep : {ts : List Token} {q : Param} {qs : List Param} {number : ℕ} → number ≡ row_word w row TYPE
      → ParamsAt ts (without_variables w) row (q ∷ qs) → number ≡ type_number q.type
  deep e (params_more a n c t h) = e ∙ sym (row_without w row 2 r.inside (omega arith)) ∙ t

  -- a ninth
  pub ninth_bound : {k : ℕ} → PARAMETERS ≤ k → Bound w w row k (Err record { why = TooManyParameters; place = at })
  unfolding take_params
  ninth_bound {k} l = record {
    kept = kept_self w k;
    right = λ ts count Γ q qs st ps vs.
        let s = variables_size vs in
        need_no _ _ _ _ (λ h. omega arith) ∙ ap (bad (reason_meant TooManyParameters)) (sym (own ps));
  }

  module _ {k : ℕ} (few : k < PARAMETERS) {token name : ℕ} (et : token ≡ row_word w row OWN) (en : name ≡ token_value w token) where
    named : {ts : List Token} {count : ℕ} {q : Param} {qs : List Param} → Stand (without_variables w) count ts
        → ParamsAt ts (without_variables w) row (q ∷ qs) → Named ts name q.called
    named {ts} {q = q} st (params_more a n c t h) =
        let e = sym (row_without w row 1 r.inside (omega arith)) ∙ a in
        let d : token_value (without_variables w) q.at ≡ name =
        ap (λ (i : ℕ). token_value (without_variables w) i) (sym e) ∙ token_without w (row_word w row OWN) 3 r.name (omega arith)
        ∙ sym (en ∙ ap (λ (i : ℕ). token_value w i) et) in
        subst (λ (s : Name). Named ts name s) (sym c)
        (subst (λ (z : ℕ). Named ts z (spelling_at ts q.at)) d (named_at st q.at n))

    module _ (b : P.Option ℕ) (eb : b ≡ find_variable w name k) where
      -- a name that another has
      pub twice_bound : is_some b ≡ true → Bound w w row k (Err record { why = ParameterTwice; place = at })
      unfolding take_params
      twice_bound e = record {
        kept = kept_self w k;
        right = λ ts count Γ q qs st ps vs.
            let s = variables_size vs in
            let h = found_some (stand_few st) (named st ps) vs (sym eb ∙ (some_where b e).1) in
            need_yes _ _ _ _ (omega arith) (unbound_some _ _ _ h.1) ∙ ap (bad (reason_meant ParameterTwice)) (sym (own ps));
      }

      module _ (new : is_some b ≡ false) {number : ℕ} (ed : number ≡ row_word w row TYPE) where
        -- too many `ref`
        pub deep_bound : OVER ≤ number → Bound w w row k (Err record { why = TooManyRefs; place = at })
        unfolding take_params
        deep_bound l = record {
          kept = kept_self w k;
          right = λ ts count Γ q qs st ps vs.
              let s = variables_size vs in
              let h = found_none (stand_few st) (named st ps) vs (sym eb ∙ none_where b new) in
              let m = number_refs q.type in
              let d = deep ed ps in
              need_yes _ _ _ _ (omega arith) (unbound_none _ _ _ h (need_no _ _ _ _ (λ x. omega (arith, m.1))))
              ∙ ap (bad (reason_meant TooManyRefs)) (sym (own ps));
        }

        -- one more variable
        pub fine_bound : {v : List ℕ} → number < OVER → v ≡ put_variable w k name number → Bound w v row k (Ok tt)
        unfolding take_params
        fine_bound {v} l ev = subst (λ (v : List ℕ). Bound w v row k (Ok tt)) (sym ev) record {
          kept = kept_put w k name number (omega arith);
          right = λ ts count Γ q qs st ps vs.
              let s = variables_size vs in
              let h = found_none (stand_few st) (named st ps) vs (sym eb ∙ none_where b new) in
              let m = number_refs q.type in
              let d = deep ed ps in (
                variables_put r.long (omega arith) (named st ps) d vs,
                need_yes _ _ _ _ (omega arith) (unbound_none _ _ _ h (need_yes _ _ _ _ (omega (arith, m.0)) refl)),
              );
        }
