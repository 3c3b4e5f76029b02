-- A function's body, and the function whole: one law for each way through the code.
use mathlib.Core.List.{List}
use mathlib.Core.Option.{Option, none, some}
use mathlib.Core.Path.{◌≡◌, refl, sym, ap, subst, subst₂, ◌∙◌}
use Rattle.std.specs.Prelude.{true, false, eqb, MatchResult, Ok, Err}
use Prim.Native.Nat.{ℕ, zero, suc, ◌+◌, ◌≤◌, ◌<◌}
use native.Mathlib.Omega.{arith}
use lib.ListN.{length}
use Rattle.language.specs.Sizes.{TOKENS, NODES, TABLE, REFS}
use Rattle.language.specs.Tokens.{Token}
use Rattle.language.specs.Trees.{Ty, refs, Param, Def, Exp, Scope, empty}
use Rattle.language.specs.Types.{Sig, with_def}
use Rattle.language.specs.Faults as Faults
use Rattle.language.specs.Meaning.{type_number}
use Rattle.language.proofs.Types.TypeNumbers.{number_refs}
use Rattle.language.proofs.Executable.Checks.{Res, ok, bad, after, need, after_ok, after_bad, need_yes, need_no}
use Rattle.language.proofs.Executable.Checker.{unbound, infer, take_params, check_def}
use Rattle.layout.specs.Types.{OVER}
use Rattle.layout.specs.Table.{OWN, ARITY, RESULT, BODY, row_word, function_row, without_variables}
use Rattle.layout.specs.Rows.{below}
use Rattle.layout.specs.Decode.{tree_at, Right, ParamsAt, params_none, params_more, FunctionAt}
use Rattle.layout.proofs.NameLaws.{name_inside}
use Rattle.layout.proofs.VariablesWords.{row_without, function_without}
use Rattle.numbers.specs.Meanings.{reason_meant}
use Rattle.rules.specs.Sight.{Variables, InSight}
use Rattle.rules.specs.Asked.{Tells}
use Rattle.phrase_types.specs.Inferred.{Kept, Ready, Inferred}
use Rattle.checker.specs.Ruled.{Verdict, Rules, check_head, check_body, Headings, Taken, Next, Headlines, Fresh, Bodied, Fitting, Listed, Ruled}
use Rattle.rules.specs.Asked.{Fault}
use Rattle.numbers.specs.declared.Reason.TheVariants.{TooManyRefs, WrongBody}
use Rattle.rules.specs.Asked.{Typing}
use Rattle.rules.proofs.TellLaws.{type_told, fault_told, tells_as}
use Rattle.rules.proofs.OperatorLaws.{is_type, isnt_type}
use Rattle.phrase_types.proofs.KeptLaws.{kept_self, kept_then, kept_fewer, kept_row}
use Rattle.rules.proofs.PlainLaws.{headed_plain}
use Rattle.checker.proofs.FunctionLaws.{sight_with, next_few, next_headed}

-- ---- its body

-- its root can be checked
pub body_ready : {w : List ℕ} {k row root count : ℕ} → Bodied w k row → root ≡ row_word w row BODY → count ≡ row_word w row ARITY
    → Ready w root (k + 1) count
body_ready {w} {k} b e d = subst₂ (λ (i n : ℕ). Ready w i (k + 1) n) (sym e) (sym d) b.ready

module _ {w : List ℕ} {k row : ℕ} (b : Bodied w k row) {at result : ℕ} (ea : at ≡ row_word w row OWN) (er : result ≡ row_word w row RESULT) where
  module _ {ts : List Token} {f : ℕ} {Δ : Scope Sig} {d : Def} (n : Next ts f (without_variables w) k Δ d) (e : row ≡ function_row
      (without_variables w) k) where
    here : FunctionAt f ts (without_variables w) row d
    here = subst (λ (r : ℕ). FunctionAt f ts (without_variables w) r d) (sym e) n.here

    at_is : at ≡ d.at
    at_is = ea ∙ sym (row_without w row 1 b.inside (omega arith)) ∙ here.at

    result_is : result ≡ type_number d.result
    result_is = er ∙ sym (row_without w row 3 b.inside (omega arith)) ∙ here.result

    -- a result's type that is allowed
    shallow : result < OVER → refs d.result ≤ REFS
    shallow l = let m = number_refs d.result in let q = result_is in omega (arith, m.0)

  -- a result's type with too many `ref`
  pub deep_fits : OVER ≤ result → Fitting w w k row (Err record { why = TooManyRefs; place = at })
  deep_fits l = record {
    kept = kept_self w 0;
    right = λ ts f Δ Γ d n e vs.
        let m = number_refs d.result in
        let q = result_is n e in
        need_no _ _ _ _ (λ x. omega (arith, m.1)) ∙ ap (bad (reason_meant TooManyRefs)) (sym (at_is n e));
  }

  module _ (few : result < OVER) {root count : ℕ} (eo : root ≡ row_word w row BODY) (ec : count ≡ row_word w row ARITY) {w' : List ℕ} {q : Typing}
      (j : Inferred w w' root (k + 1) count q) where
    -- what is told of the body
    body_told : {ts : List Token} {f : ℕ} {Δ : Scope Sig} {Γ : Scope Ty} {d : Def} → Next ts f (without_variables w) k Δ d
        → row ≡ function_row (without_variables w) k → Variables ts w (length d.params) Γ → Tells q (infer (with_def Δ d) d.body Γ)
    body_told {ts} {f} {Δ} {Γ} {d} n e vs =
        let p = without_variables w in
        let a = here n e in
        let r = eo ∙ sym (row_without w row 4 b.inside (omega arith)) in
        let c = ec ∙ sym (row_without w row 2 b.inside (omega arith)) ∙ a.count in
        subst (λ (x : Exp). Tells q (infer (with_def Δ d) x Γ)) (ap (λ (i : ℕ). tree_at f ts p i) r ∙ a.body)
        (j.right ts f (with_def Δ d) Γ record {
          depth = f;
          sight = sight_with n;
          whole = subst (λ (i : ℕ). Right f ts p i) (sym r) a.right;
          scope = subst (λ (i : ℕ). Variables ts w i Γ) (sym c) vs;
        })

    body_kept : Kept w w' 0
    body_kept = kept_fewer (omega arith) j.kept

    -- a fault of the body
    pub fault_fits : {fault : Fault} → q ≡ Err fault → Fitting w w' k row (Err fault)
    fault_fits e = record {
      kept = body_kept;
      right = λ ts f Δ Γ d n o vs. need_yes _ _ _ _ (shallow n o few) (after_bad _ (fault_told (tells_as e (body_told n o vs))));
    }

    module _ {t : ℕ} (e : q ≡ Ok t) where
      -- a body of the result's type
      pub type_fits : eqb t result ≡ true → Fitting w w' k row (Ok tt)
      type_fits s = record {
        kept = body_kept;
        right = λ ts f Δ Γ d n o vs.
            let u = type_told (tells_as e (body_told n o vs)) in (
              tt,
              need_yes _ _ _ _ (shallow n o few) (after_ok _ u.1 (need_yes _ _ _ _ (is_type u.0 d.result u.2
                  (result_is n o) s) refl)),
              tt,
            );
      }

      -- and of another
      pub other_fits : eqb t result ≡ false → Fitting w w' k row (Err record { why = WrongBody; place = at })
      other_fits s = record {
        kept = body_kept;
        right = λ ts f Δ Γ d n o vs.
            let u = type_told (tells_as e (body_told n o vs)) in
            need_yes _ _ _ _ (shallow n o few) (after_ok _ u.1 (need_no _ _ _ _ (isnt_type u.0 d.result u.2 (result_is n o) s)))
            ∙ ap (bad (reason_meant WrongBody)) (sym (at_is n o));
      }

      -- so it is tested
      pub tested_fits : (s : Verdict) → MatchResult s (λ _. eqb t result ≡ true) (λ x. (eqb t result ≡ false) × (x ≡ record { why = WrongBody; place = at }))
          → Fitting w w' k row s
      tested_fits (Ok _) h = type_fits h
      tested_fits (Err x) h = rw h.1 (other_fits h.0)

-- ---- the whole function

-- where the head is fine the rest decides, and where it is not nothing does
module _ {A B C : Type 0} (r q : Faults.Reason) (n m : ℕ) (f : Unit {0} → Res C) where
  gate_fine : (d : Dec A) (o : Option B) → ◌≡◌ {A = Res (Unit {0})} (need d r n λ _. unbound o q m λ _. ok tt) (ok tt)
      → need d r n (λ _. unbound o q m f) ≡ f tt
  unfolding need unbound
  gate_fine (yes p) none e = refl
  gate_fine (yes p) (some a) e = absurd (let z : ◌≡◌ {A = ℕ} 0 1 = cc in omega arith)
  gate_fine (no p) o e = absurd (let z : ◌≡◌ {A = ℕ} 0 1 = cc in omega arith)

  gate_wrong : (d : Dec A) (o : Option B) (s : Faults.Reason) (i : ℕ)
      → ◌≡◌ {A = Res (Unit {0})} (need d r n λ _. unbound o q m λ _. ok tt) (bad s i)
      → need d r n (λ _. unbound o q m f) ≡ bad s i
  unfolding need unbound
  gate_wrong (yes p) none s i e = absurd (let z : ◌≡◌ {A = ℕ} 0 1 = cc in omega arith)
  gate_wrong (yes p) (some a) s i e = cc
  gate_wrong (no p) o s i e = cc

-- the names of parameters are tokens
params_named : {ts : List Token} {w : List ℕ} {r : ℕ} {ps : List Param} → ParamsAt ts w r ps → length ts ≤ TOKENS → (j : ℕ)
    → j < length ps → row_word w (r + j) OWN < TOKENS
params_named params_none few j l = absurd (omega arith)
params_named {ts} {w} {r} (params_more {p = p} a n c t h) few zero l =
    let e : row_word w (r + 0) OWN ≡ p.at = ap (λ (i : ℕ). row_word w i OWN) (omega arith) ∙ a in
    omega (arith, name_inside ts p.at n)
params_named {ts} {w} {r} (params_more a n c t h) few (suc j) l =
    let i = params_named h few j (omega arith) in
    subst (λ (x : ℕ). row_word w x OWN < TOKENS) (omega arith) i

module _ {w : List ℕ} {k row : ℕ} (l : Listed w k) (er : row ≡ function_row w k) where
  row_is : row ≡ function_row (without_variables w) k
  row_is = er ∙ sym (function_without w k (next_few l.next))

  at_row : FunctionAt l.f l.tokens (without_variables w) row l.def
  at_row = subst (λ (r : ℕ). FunctionAt l.f l.tokens (without_variables w) r l.def) (sym row_is) l.next.here

  -- its row and the names before it
  pub listed_heads : Headlines w k row
  listed_heads = record { long = l.long; at = er; heads = λ j h. headed_plain w (next_headed l.next j h) }

  -- the rows of its parameters
  pub listed_params : Headings w row
  listed_params =
      let a = at_row in
      let e = row_without w row 2 a.inside (omega arith) in
      let few : length l.tokens ≤ TOKENS = omega (arith, l.next.stand.long, l.next.stand.few) in
      record {
        long = l.long;
        last = omega (arith, a.last_param, a.count);
        names = λ j h.
            let i = params_named a.params few j (omega (arith, a.count)) in
            let d = row_without w (row + j + 1) 1 (omega (arith, a.last_param, a.count)) (omega arith) in
            let x = ap (λ (z : ℕ). row_word (without_variables w) z OWN) (params_row row j) in
            omega arith;
      }
    where
      params_row : (r j : ℕ) → r + 1 + j ≡ r + j + 1
      params_row r j = omega arith

  -- the head is wrong
  pub head_ruled : {v : Verdict} → Fresh w k v → {fault : Fault} → v ≡ Err fault → Ruled w w k (Err fault)
  unfolding check_def
  head_ruled {v} h e = record {
    kept = kept_self w 0;
    right = λ ts f Δ d n. gate_wrong _ _ _ _ _ _ _ _ _ (subst (λ (v : Verdict). Rules v (check_head Δ d) λ _. Unit {0}) e
        (h.right ts f Δ d n));
  }

  module _ {u : Verdict} (h : Fresh w k u) (eu : u ≡ Ok tt) {w₁ : List ℕ} {v : Verdict} (t : Taken w w₁ row v) where
    -- where the head is fine the parameters decide
    head_fine : (ts : List Token) (f : ℕ) (Δ : Scope Sig) (d : Def) → Next ts f (without_variables w) k Δ d
        → check_def Δ d ≡ after (take_params d.params empty) λ Γ. check_body Δ Γ d
    unfolding check_def
    head_fine ts f Δ d n =
        let e = subst (λ (v : Verdict). Rules v (check_head Δ d) λ _. Unit {0}) eu (h.right ts f Δ d n) in
        gate_fine _ _ _ _ _ _ _ e.1

    here_at : {ts : List Token} {f : ℕ} {Δ : Scope Sig} {d : Def} → Next ts f (without_variables w) k Δ d
        → FunctionAt f ts (without_variables w) row d
    here_at {ts} {f} {d = d} n = subst (λ (r : ℕ). FunctionAt f ts (without_variables w) r d) (sym row_is) n.here

    -- a parameter is wrong
    pub params_ruled : {fault : Fault} → v ≡ Err fault → Ruled w w₁ k (Err fault)
    params_ruled e = record {
      kept = t.kept;
      right = λ ts f Δ d n.
          let a = subst (λ (v : Verdict). Rules v (take_params d.params empty) λ Γ. Variables ts w₁ (length d.params) Γ) e
          (t.right ts n.count f d n.stand (here_at n)) in
          head_fine ts f Δ d n ∙ after_bad _ a;
    }

    module _ (ev : v ≡ Ok tt) where
      taken : {ts : List Token} {f : ℕ} {Δ : Scope Sig} {d : Def} → Next ts f (without_variables w) k Δ d
          → (Γ : Scope Ty) × (take_params d.params empty ≡ ok Γ) × Variables ts w₁ (length d.params) Γ
      taken {ts} {f} {d = d} n =
          subst (λ (v : Verdict). Rules v (take_params d.params empty) λ Γ. Variables ts w₁ (length d.params) Γ) ev
          (t.right ts n.count f d n.stand (here_at n))

      -- the body can be checked
      pub listed_body : Bodied w₁ k row
      listed_body =
          let a = at_row in
          let p = without_variables w in
          let c = taken l.next in
          let r₂ : row_word w₁ row ARITY ≡ length l.def.params = kept_row t.kept row 2 a.inside (omega arith)
          ∙ sym (row_without w row 2 a.inside (omega arith)) ∙ a.count in
          let r₄ : row_word w₁ row BODY ≡ row_word p row BODY = kept_row t.kept row 4 a.inside (omega arith)
          ∙ sym (row_without w row 4 a.inside (omega arith)) in
          let long : TABLE ≤ length w₁ = omega (arith, l.long, t.kept.long) in
          record {
            long = long;
            inside = a.inside;
            few = next_few l.next;
            ready = subst₂ (λ (i n : ℕ). Ready w₁ i (k + 1) n) (sym r₄) (sym r₂) record {
              tokens = l.tokens;
              depth = l.f;
              functions = with_def l.functions l.def;
              variables = c.0;
              long = long;
              stands = record {
                depth = l.f;
                sight = subst (λ (v : List ℕ). InSight l.tokens l.f v (k + 1) (with_def l.functions l.def)) (sym
                    t.kept.rest) (sight_with l.next);
                whole = subst (λ (v : List ℕ). Right l.f l.tokens v (row_word p row BODY)) (sym t.kept.rest) a.right;
                scope = c.2;
              };
              room = subst (λ (v : List ℕ). length l.def.params + below (tree_at l.f l.tokens v (row_word p row BODY)) < NODES)
                  (sym t.kept.rest)
                  (subst (λ (x : Exp). length l.def.params + below x < NODES) (sym a.body) a.room);
            };
          }

      -- and decides
      pub body_ruled : {w₂ : List ℕ} {q : Verdict} → Fitting w₁ w₂ k row q → Ruled w w₂ k q
      body_ruled {q = q} g = record {
        kept = kept_then t.kept g.kept;
        right = λ ts f Δ d n.
            let c = taken n in
            subst (λ (x : Res (Unit {0})). Rules q x λ _. Unit {0}) (sym (head_fine ts f Δ d n ∙ after_ok _ c.1 refl))
            (g.right ts f Δ c.0 d (subst (λ (v : List ℕ). Next ts f v k Δ d) (sym t.kept.rest) n)
            (row_is ∙ ap (λ (v : List ℕ). function_row v k) (sym t.kept.rest)) c.2);
      }
