-- A function's head: the functions before it are counted, and its name is new. One law for each way through the code.
use mathlib.Core.List.{List}
use mathlib.Core.Option.{some}
use mathlib.Core.Path.{◌≡◌, refl, sym, ap, subst, ◌∙◌}
use Rattle.std.specs.Prelude.{Ok, Err}
use Prim.Native.Nat.{ℕ, suc, ◌+◌, ◌≤◌, ◌<◌}
use native.Mathlib.Numerals.{add-one}
use native.Mathlib.Omega.{arith}
use Rattle.language.specs.Sizes.{TOKENS, NODES, FUNCTIONS}
use Rattle.language.specs.Tokens.{Token}
use Rattle.language.specs.Trees.{Def, Scope, nearest, size}
use Rattle.language.specs.Types.{Sig, with_def}
use Rattle.language.specs.Faults as Faults
use Rattle.language.proofs.Executable.Checks.{bad, need_yes, need_no}
use Rattle.layout.specs.Table.{OWN, row_word, without_variables}
use Rattle.layout.proofs.VariablesWords.{row_without, function_without}
use Rattle.numbers.specs.Meanings.{reason_meant}
use Rattle.layout.specs.Functions.{Headed, function_name}
use Rattle.layout.proofs.FunctionLaws.{function_named}
use Rattle.rules.specs.Sight.{Functions, functions_given, functions_more, InSight, callee_in, Means}
use Rattle.checker.specs.Ruled.{check_head, Next, Headlines, Fresh}
use Rattle.numbers.specs.declared.Reason.TheVariants.{TooManyFunctions, FunctionTwice}
use Rattle.rules.specs.declared.sight.Callee.{Callee}
use Rattle.phrase_types.proofs.ScopeLaws.{sight_headed, callee_means}
use Rattle.rules.proofs.PlainLaws.{name_plain, callee_plain}
use Rattle.checker.proofs.ParameterLaws.{unbound_none, unbound_some}

-- ---- the functions in sight

-- as many as are counted, and `putchar`
functions_size : {f : ℕ} {ts : List Token} {p : List ℕ} {n : ℕ} {Δ : Scope Sig} → Functions f ts p n Δ → size Δ ≡ suc n
unfolding size
functions_size functions_given = refl
functions_size (functions_more e a r) = ap suc (functions_size r ∙ sym e)

module _ {ts : List Token} {f : ℕ} {p : List ℕ} {k : ℕ} {Δ : Scope Sig} {d : Def} (n : Next ts f p k Δ d) where
  -- those before it
  pub sight_before : InSight ts f p k Δ
  sight_before = record { count = n.count; stand = n.stand; few = omega (arith, n.few); functions = n.before }

  -- and those that its body sees
  pub sight_with : InSight ts f p (k + 1) (with_def Δ d)
  sight_with = record {
    count = n.count;
    stand = n.stand;
    few = omega (arith, n.few);
    functions = functions_more (add-one k)
        n.here n.before;
  }

  -- it is one of the functions that there is room for
  pub next_few : k < TOKENS
  next_few = omega (arith, n.few, n.stand.few)

  -- its head, and those before it
  pub next_headed : (j : ℕ) → j ≤ k → Headed p j
  next_headed j l = sight_headed sight_with j (omega arith)

-- ---- its head

-- its row is one of the rows
pub heads_inside : {w : List ℕ} {k row : ℕ} → Headlines w k row → row < NODES
heads_inside {k = k} h = omega (arith, h.at, (h.heads k (omega arith)).row)

module _ {w : List ℕ} {k row : ℕ} (h : Headlines w k row) {at : ℕ} (ea : at ≡ row_word w row OWN) where
  -- the token of its `def`
  def_at : {ts : List Token} {f : ℕ} {Δ : Scope Sig} {d : Def} → Next ts f (without_variables w) k Δ d → at ≡ d.at
  def_at n =
      let e = function_without w k (next_few n) in
      ea ∙ ap (λ (i : ℕ). row_word w i OWN) (h.at ∙ sym e) ∙ sym (row_without w _ 1 n.here.inside (omega arith)) ∙ n.here.at

  -- and its name one of the tokens
  pub def_inside : at + 1 < TOKENS
  def_inside = let e = ea ∙ ap (λ (i : ℕ). row_word w i OWN) h.at in omega (arith, (h.heads k (omega arith)).name)

  -- too many functions before it
  pub many_fresh : FUNCTIONS ≤ k → Fresh w k (Err record { why = TooManyFunctions; place = at })
  many_fresh l = record {
    right = λ ts f Δ d n.
        let s = functions_size n.before in
        need_no _ _ _ _ (λ x. omega arith) ∙ ap (bad (reason_meant TooManyFunctions)) (sym (def_at n));
  }

  module _ (few : k < FUNCTIONS) {name : ℕ} {c : Callee} (en : name ≡ function_name w k) (ec : c ≡ callee_in w name k) where
    -- whom its name means before it
    means : {ts : List Token} {f : ℕ} {Δ : Scope Sig} {d : Def} → Next ts f (without_variables w) k Δ d
        → Means f ts (without_variables w) c (nearest d.called Δ)
    means {ts} {f} {Δ} {d} n =
        let p = without_variables w in
        let a = callee_means (sight_before n) (function_named n.stand n.here) in
        let e : callee_in p (function_name p k) k ≡ c =
        callee_plain w (function_name p k) k (sight_headed (sight_before n))
        ∙ ap (λ (x : ℕ). callee_in w x k) (name_plain w (next_headed n k (omega arith)) ∙ sym en) ∙ sym ec in
        subst (λ (c : Callee). Means f ts p c (nearest d.called Δ)) e a

    twice : {s : Sig} {ts : List Token} {f : ℕ} {Δ : Scope Sig} {d : Def} → (n : Next ts f (without_variables w) k Δ d)
        → nearest d.called Δ ≡ some s
        → check_head Δ d ≡ bad Faults.function_twice (at + 1)
    twice n e =
        let s = functions_size n.before in
        need_yes _ _ _ _ (omega arith) (unbound_some _ _ _ e) ∙ ap (bad Faults.function_twice) (n.here.named
        ∙ ap (λ (i : ℕ). i + 1) (sym (def_at n)))

    -- a name that is another function's, or `putchar`
    pub other_fresh : (c ≡ Callee.Nobody → ⊥) → Fresh w k (Err record { why = FunctionTwice; place = at + 1 })
    other_fresh o = record { right = λ ts f Δ d n. go c (means n) o n }
      where
        go : (c : Callee) {ts : List Token} {f : ℕ} {Δ : Scope Sig} {d : Def} → Means f ts (without_variables w) c (nearest d.called Δ)
            → (c ≡ Callee.Nobody → ⊥) → Next ts f (without_variables w) k Δ d → check_head Δ d ≡ bad Faults.function_twice (at + 1)
        go (Callee.Function r) m o n = twice n m.2
        go Callee.Putchar m o n = twice n m
        go Callee.Nobody m o n = absurd (o refl)

    -- a new name
    pub nobody_fresh : c ≡ Callee.Nobody → Fresh w k (Ok tt)
    nobody_fresh e = record {
      right = λ ts f Δ d n.
          let s = functions_size n.before in (
            tt,
            need_yes _ _ _ _ (omega arith) (unbound_none _ _ _ (subst (λ (c : Callee). Means f ts (without_variables w) c (nearest
                d.called Δ)) e (means n)) refl),
            tt,
          );
    }
