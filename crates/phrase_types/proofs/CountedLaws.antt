-- A `for`: what a call on its bounds and on its body asks, and its answer, one law for each way through the code.
use mathlib.Core.Bool.{Bool, true}
use mathlib.Core.List.{List}
use mathlib.Core.Path.{◌≡◌, refl, sym, ap, subst, subst₂, ◌∙◌}
use Rattle.rules.specs.Asked.{Fault}
use Rattle.std.specs.Prelude.{Ok, Err}
use Prim.Native.Nat.{ℕ, suc, ◌+◌, ◌≤◌, ◌<◌}
use native.Mathlib.Omega.{arith}
use lib.ListN.{length}
use Rattle.language.specs.Sizes.{TOKENS, TABLE}
use Rattle.language.specs.Tokens.{Token, spelling_at}
use Rattle.language.specs.Trees.{Ty, int, Scope, push}
use Rattle.language.specs.Types.{Sig}
use Rattle.language.specs.Meaning.{type_number}
use Rattle.language.proofs.Executable.Checks.{after_ok, after_bad}
use Rattle.language.proofs.Executable.Checker.{infer}
use Rattle.layout.specs.Table.{KIND, OWN, START, PASS, token_value, row_word, put_variable, without_variables}
use Rattle.layout.specs.Decode.{a_for, counts, build, tree_at, args_at, Node, Right, RightArgs}
use Rattle.layout.specs.Names.{Named}
use Rattle.layout.proofs.NameLaws.{named_at}
use Rattle.layout.proofs.VariablesWords.{token_without}
use Rattle.rules.specs.Asked.{Tells, AsksFor}
use Rattle.phrase_types.specs.Inferred.{Kept, Stands, Ready, Told, Inferred, ReadyAll, ToldAll, InferredAll}
use Rattle.rules.specs.Asked.{Typing}
use Rattle.rules.specs.declared.sight.Taker.TheVariants as Taker
use Rattle.phrase_types.specs.Inferred.{Passing}
use Rattle.rules.proofs.TellLaws.{fault_is, type_told, fault_told}
use Rattle.rules.proofs.ShapeLaws.{for_shape}
use Rattle.phrase_types.proofs.KeptLaws.{kept_then, kept_fewer, kept_put}
use Rattle.phrase_types.proofs.NodeLaws.{over, told_shape}
use Rattle.phrase_types.proofs.BindLaws.{under_told, types_told, wrong_told}
use Rattle.phrase_types.proofs.ReadyLaws.{ready_parts, ready_row, ready_binds, ready_counts, ready_looped}
use Rattle.phrase_types.proofs.ReadyLaws.{covered_with, ready_with, behind_named, ready_list}
use Rattle.phrase_types.proofs.CoveredLaws.{covered, covered_all, fewer_bounds, fewer_pass}
use Rattle.phrase_types.proofs.InferredLaws.{inferred_as, plain}

-- ---- what its parts are told, it is

module _ {p w : List ℕ} {node seen binds : ℕ} (kind : counts (row_word p node KIND) ≡ true) where
  -- it is enough to tell of a `for` with its bounds and its body
  told_for : {r : Typing}
      → ((ts : List Token) (f : ℕ) (Δ : Scope Sig) (Γ : Scope Ty) (through : Bool) → Stands Right p w node seen binds ts (suc f) Δ Γ
      → Node (λ j. Right f ts p j) (λ j. RightArgs f ts p j) ts p node → Tells r (infer Δ (over f ts p node (a_for through)) Γ))
      → Told p w node seen binds r
  told_for h = let s = for_shape _ kind in told_shape (a_for s.0) s.1 λ ts f Δ Γ st nd. h ts f Δ Γ s.0 st nd

  stands_bounds : {ts : List Token} {f : ℕ} {Δ : Scope Sig} {Γ : Scope Ty} → Stands Right p w node seen binds ts (suc f) Δ Γ
      → Node (λ j. Right f ts p j) (λ j. RightArgs f ts p j) ts p node
      → Stands RightArgs p w (row_word p node START) seen binds ts f Δ Γ
  stands_bounds st nd = record { depth = st.depth; sight = st.sight; whole = (nd.loops kind).bounds.1; scope = st.scope }

  -- a fault of its bounds
  bounds_stop : {fault : Fault} → ToldAll p w (row_word p node START) seen binds Taker.For 0 true (Err fault)
      → Told p w node seen binds (Err fault)
  unfolding infer build
  bounds_stop h = told_for λ ts f Δ Γ b st nd. fault_is (after_bad _ (wrong_told (h ts f Δ Γ (stands_bounds st nd))))

  module _ {w' : List ℕ} (same : p ≡ without_variables w') (kept : Kept w w' binds) (long : TABLE ≤ length w') (room : binds < TOKENS)
      {x m n : ℕ} {s : Bool} (ex : x ≡ token_value p (row_word p node OWN + 1)) (ei : m ≡ type_number int)
      (h : ToldAll p w (row_word p node START) seen binds Taker.For 0 true (Ok record { count = n; suited = s })) where
    pass_told : {r : Typing}
        → Told (without_variables (put_variable w' binds x m)) (put_variable w' binds x m) (row_word p node PASS) seen (binds + 1) r
        → {ts : List Token} {f : ℕ} {Δ : Scope Sig} {Γ : Scope Ty} → Stands Right p w node seen binds ts (suc f) Δ Γ
        → Node (λ j. Right f ts p j) (λ j. RightArgs f ts p j) ts p node
        → Tells r (infer Δ (tree_at f ts p (row_word p node PASS)) (push (spelling_at ts (row_word p node OWN + 1)) int Γ))
    pass_told g {ts} {f} {Δ} {Γ} st nd =
        let y = spelling_at ts (row_word p node OWN + 1) in
        let nm = subst (λ (z : ℕ). Named ts z y) (sym ex) (named_at st.sight.stand (row_word p node OWN + 1) (nd.loops kind).named) in
        under_told same kept long room g ts st.depth f Δ Γ y int st.sight st.scope (nd.loops kind).body.1 nm ei

    -- a fault of its body
    pass_stops : {fault : Fault}
        → Told (without_variables (put_variable w' binds x m)) (put_variable w' binds x m) (row_word p node PASS) seen (binds + 1) (Err fault)
        → Told p w node seen binds (Err fault)
    unfolding infer build
    pass_stops g = told_for λ ts f Δ Γ b st nd.
        let u = types_told (h ts f Δ Γ (stands_bounds st nd)) in
        fault_is (after_ok _ u.1 (after_bad _ (fault_told (pass_told g st nd))))

    -- all have types: the `for` asks
    for_goes : {v i : ℕ} {r : Typing} → i ≡ row_word p node OWN
        → Told (without_variables (put_variable w' binds x m)) (put_variable w' binds x m) (row_word p node PASS) seen (binds + 1) (Ok v)
        → AsksFor n s v i r → Told p w node seen binds r
    unfolding build
    for_goes {v} {r = r} eo g asks = told_for λ ts f Δ Γ b st nd.
        let u = types_told (h ts f Δ Γ (stands_bounds st nd)) in
        let q = type_told (pass_told g st nd) in
        subst (λ (i : ℕ). AsksFor n s v i r) eo asks p Δ Γ (spelling_at ts (row_word p node OWN + 1)) b (args_at f ts p (row_word p node START))
        (tree_at f ts p (row_word p node PASS)) u.0 q.0 u.1 (u.2 ∙ omega arith) u.3 q.1 q.2

-- ---- what a call on its parts asks, and what it promises

module _ {w : List ℕ} {node seen binds : ℕ} (r : Ready w node seen binds) (kind : counts (row_word w node KIND) ≡ true) where
  abbrev pf : List ℕ
  pf = without_variables w

  -- its bounds can be checked
  pub ready_bounds : {row : ℕ} → row ≡ row_word w node START → (covered_all w row < covered w node) × ReadyAll w row seen binds Taker.For 0
  ready_bounds e =
      let q = ready_parts r in
      let h = (q.row.loops (ready_counts r kind)).bounds in
      subst (λ (row : ℕ). (covered_all w row < covered w node) × ReadyAll w row seen binds Taker.For 0) (ready_row r 2 (omega arith) ∙ sym e)
      (fewer_bounds w q.f r.tokens q.row (ready_counts r kind), ready_list r q.f _ h.0 h.1 (q.bounds (ready_counts r kind)) tt)

  module _ {row : ℕ} (er : row ≡ row_word w node START) {w₁ : List ℕ} {s : Passing} (h : InferredAll w w₁ row seen binds Taker.For 0 true s) where
    bounds_told : {q : Passing} → s ≡ q → ToldAll pf w (row_word pf node START) seen binds Taker.For 0 true q
    bounds_told e = subst₂ (λ (s : Passing) (j : ℕ). ToldAll pf w j seen binds Taker.For 0 true s) e (plain r 2 (omega arith) er) h.right

    -- a fault of a bound
    pub bounds_inferred : {fault : Fault} → s ≡ Err fault → Inferred w w₁ node seen binds (Err fault)
    bounds_inferred e = record { kept = h.kept; right = bounds_stop (ready_counts r kind) (bounds_told e) }

    module _ {x m j : ℕ} {v : List ℕ} (ex : x ≡ token_value w (row_word w node OWN + 1)) (ei : m ≡ type_number int)
        (ev : v ≡ put_variable w₁ binds x m) (ej : j ≡ row_word w node PASS) where
      -- its body can be checked, with its name in sight
      pub ready_pass : (covered v j < covered w node) × Ready v j seen (binds + 1)
      ready_pass =
          let q = ready_parts r in
          let l = q.row.loops (ready_counts r kind) in
          subst₂ (λ (v : List ℕ) (j : ℕ). (covered v j < covered w node) × Ready v j seen (binds + 1)) (sym ev) (ready_row r 3 (omega arith) ∙ sym ej) (
            rw (covered_with r h.kept x m) (fewer_pass w q.f r.tokens q.row (ready_counts r kind)),
            ready_with r h.kept int q.f _ (behind_named r h.kept l.named ex) ei l.body.1 (q.body (ready_counts r kind)),
          )

      module _ {n : ℕ} {b : Bool} (es : s ≡ Ok record { count = n; suited = b }) {w₂ : List ℕ} {t : Typing} (g : Inferred v w₂ j seen (binds + 1) t) where
        body_inferred : {q : Typing} → t ≡ q → Inferred (put_variable w₁ binds x m) w₂ (row_word pf node PASS) seen (binds + 1) q
        body_inferred e =
            inferred_as e (subst₂ (λ (v : List ℕ) (j : ℕ). Inferred v w₂ j seen (binds + 1) t) ev (plain r 3 (omega arith) ej) g)

        pass_kept : Kept w w₂ binds
        pass_kept =
            kept_then h.kept (kept_then (kept_put w₁ binds x m (ready_binds r)) (kept_fewer (omega arith) (body_inferred refl).kept))

        name_plain : x ≡ token_value pf (row_word pf node OWN + 1)
        name_plain =
            ex ∙ sym (ap (λ (i : ℕ). token_value pf (i + 1)) (ready_row r 1 (omega arith))
            ∙ token_without w (row_word w node OWN + 1) 3 (ready_looped r kind) (omega arith))

        -- a fault of its body
        pub pass_inferred : {fault : Fault} → t ≡ Err fault → Inferred w w₂ node seen binds (Err fault)
        pass_inferred e = record {
          kept = pass_kept;
          right = pass_stops (ready_counts r kind) (sym h.kept.rest) h.kept (omega (arith, r.long, h.kept.long)) (ready_binds r)
              name_plain ei (bounds_told es) (body_inferred e).right;
        }

        -- a `for` asks
        pub counted_inferred : {k i : ℕ} {q : Typing} → t ≡ Ok k → i ≡ row_word w node OWN → AsksFor n b k i q
            → Inferred w w₂ node seen binds q
        counted_inferred e eo asks = record {
          kept = pass_kept;
          right = for_goes (ready_counts r kind) (sym h.kept.rest) h.kept (omega (arith, r.long, h.kept.long)) (ready_binds r)
              name_plain ei (bounds_told es) (plain r 1 (omega arith) eo) (body_inferred e).right asks;
        }
