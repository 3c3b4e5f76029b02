-- A `let`, a call and its arguments, one law for each way through the code.
use mathlib.Core.Bool.{Bool, true, false, ◌&&◌}
use mathlib.Core.List.{List, [], ◌∷◌}
use mathlib.Core.Option.{some}
use mathlib.Core.Path.{◌≡◌, refl, sym, ap, ap₂, subst, ◌∙◌}
use Rattle.rules.specs.Asked.{Fault}
use Rattle.std.specs.Prelude.{Ok, Err}
use Prim.Native.Nat.{ℕ, zero, suc, ◌+◌, ◌≤◌, ◌<◌}
use native.Mathlib.Numerals.{add-one}
use native.Mathlib.Omega.{arith}
use lib.Dec.{eqb}
use lib.ListN.{length}
use borrow.Author.Tests.{eq-eqb, ne_eqb}
use Rattle.language.specs.Sizes.{TOKENS, TABLE}
use Rattle.language.specs.Tokens.{Token, entry, LET, spelling_at}
use Rattle.language.specs.Trees.{Name, Ty, last, more, Scope, push, nearest}
use Rattle.language.specs.Types.{Sig}
use Rattle.language.specs.Faults as Faults
use Rattle.language.specs.Meaning.{type_number}
use Rattle.language.proofs.Executable.Checks.{Res, ok, bad, after_ok, after_bad}
use Rattle.language.proofs.Executable.Checker.{infer, infers}
use Rattle.layout.specs.Table.{KIND, OWN, FIRST, SECOND, EXPRESSION, NEXT, token_value, row_word, put_variable, without_variables}
use Rattle.layout.specs.Rows.{CALL}
use Rattle.layout.specs.Decode.{a_call, a_let, shape_of, children, build, tree_at, args_at, Right, RightArgs}
use Rattle.layout.specs.Names.{Named}
use Rattle.layout.proofs.NameLaws.{named_at}
use Rattle.layout.proofs.VariablesWords.{without_put_variable}
use Rattle.numbers.specs.Meanings.{reason_meant}
use Rattle.rules.specs.Sight.{Variables, InSight, callee_in, Means, expected_in}
use Rattle.rules.specs.Asked.{Tells, Children, AsksCall, suits}
use Rattle.phrase_types.specs.Inferred.{Kept, Told, ToldAll, TellsAll, tells_types, tells_wrong}
use Rattle.rules.specs.Asked.{Typing}
use Rattle.rules.specs.declared.sight.Callee.{Callee}
use Rattle.rules.specs.declared.sight.Taker.{Taker}
use Rattle.phrase_types.specs.Inferred.{Passing}
use Rattle.rules.proofs.TellLaws.{fault_is, type_told, fault_told, tells_from}
use Rattle.phrase_types.proofs.KeptLaws.{variables_kept, variables_put}
use Rattle.phrase_types.proofs.ScopeLaws.{callee_means}
use Rattle.phrase_types.proofs.NodeLaws.{stands_child, told_shape}

-- ---- let

-- a `let` has two children
pub let_children : (k : ℕ) → k ≡ LET → Children k 2
unfolding shape_of entry
let_children k e s h = let d : some a_let ≡ some s = ap shape_of (sym e) ∙ h in let q : a_let ≡ s = cc in ap children q

module _ {p w w' : List ℕ} {seen binds : ℕ} (same : p ≡ without_variables w') (kept : Kept w w' binds) (long : TABLE ≤ length w')
    (room : binds < TOKENS) where
  -- what is told of a part that sees one variable more
  pub under_told : {x n j : ℕ} {r : Typing}
      → Told (without_variables (put_variable w' binds x n)) (put_variable w' binds x n) j seen (binds + 1) r
      → (ts : List Token) (depth f : ℕ) (Δ : Scope Sig) (Γ : Scope Ty) (y : Name) (t : Ty) → InSight ts depth p seen Δ → Variables ts w binds Γ
      → Right f ts p j → Named ts x y → n ≡ type_number t → Tells r (infer Δ (tree_at f ts p j) (push y t Γ))
  under_told {x} {n} {j} {r} g ts depth f Δ Γ y t sight scope whole named e =
      let d : without_variables (put_variable w' binds x n) ≡ p = without_put_variable w' binds x n room ∙ sym same in
      subst (λ (v : List ℕ). Told v (put_variable w' binds x n) j seen (binds + 1) r) d g ts f Δ (push y t Γ) (record {
        depth = depth;
        sight = sight;
        whole = whole;
        scope = variables_put long room named e (variables_kept kept scope);
      })

  -- its body's answer is that of a `let`, where the body sees what is bound
  pub let_goes : {node x n : ℕ} {r : Typing} → row_word p node KIND ≡ LET → x ≡ token_value p (row_word p node OWN + 1)
      → Told p w (row_word p node FIRST) seen binds (Ok n)
      → Told (without_variables (put_variable w' binds x n)) (put_variable w' binds x n) (row_word p node SECOND) seen (binds + 1) r
      → Told p w node seen binds r
  unfolding infer build shape_of entry
  let_goes {node} {x} k ex h g =
      told_shape a_let (ap shape_of k) λ ts f Δ Γ st nd.
      let y = spelling_at ts (row_word p node OWN + 1) in
      let a = let_children _ k nd.shape nd.known in
      let q = type_told (h ts f Δ Γ (stands_child st (nd.first (omega arith)).1)) in
      let nm = subst (λ (z : ℕ). Named ts z y) (sym ex) (named_at st.sight.stand (row_word p node OWN + 1) (nd.bound k)) in
      tells_from (after_ok _ q.1 refl)
      (under_told g ts st.depth f Δ Γ y q.0 st.sight st.scope (nd.second (omega arith)).1 nm q.2)

-- ---- lists

-- an answer by its case, and back
types_are : {w : List ℕ} {c : Taker} {k : ℕ} {b : Bool} {n : ℕ} {s : Bool} {x : Res (List Ty)} (ts : List Ty) → x ≡ ok ts
    → n ≡ k + length ts
    → s ≡ (b && suits w c k ts) → TellsAll w c k b (Ok record { count = n; suited = s }) x
types_are {w} {c} {k} {b} {n} {s} ts e p q = subst (λ (x : Res (List Ty)). TellsAll w c k b (Ok record { count = n; suited = s }) x) (sym e) (tells_types p q)

wrong_is : {w : List ℕ} {c : Taker} {k : ℕ} {b : Bool} {fault : Fault} {x : Res (List Ty)} → x ≡ bad (reason_meant fault.why) fault.place
    → TellsAll w c k b (Err fault) x
wrong_is {w} {c} {k} {b} {fault} e = subst (λ (x : Res (List Ty)). TellsAll w c k b (Err fault) x) (sym e) (tells_wrong refl)

-- what was told
pub types_told : {w : List ℕ} {c : Taker} {k : ℕ} {b : Bool} {n : ℕ} {s : Bool} {x : Res (List Ty)} → TellsAll w c k b (Ok record { count = n; suited = s }) x
    → (ts : List Ty) × (x ≡ ok ts) × (n ≡ k + length ts) × (s ≡ (b && suits w c k ts))
types_told (tells_types {ts = ts} p q) = (ts, refl, p, q)

-- what was told
pub wrong_told : {w : List ℕ} {c : Taker} {k : ℕ} {b : Bool} {fault : Fault} {x : Res (List Ty)}
    → TellsAll w c k b (Err fault) x → x ≡ bad (reason_meant fault.why) fault.place
wrong_told (tells_wrong {e = fault} p) = ap (λ q. bad q fault.place) (sym p)

and_true : (b : Bool) → b ≡ (b && true)
and_true true = refl
and_true false = refl

and_and : (a b c : Bool) → ((a && b) && c) ≡ (a && (b && c))
and_and true b c = refl
and_and false b c = refl

no_argument : (f : ℕ) (ts : List Token) (p : List ℕ) (i : ℕ) → i ≡ 0 → args_at f ts p i ≡ last
unfolding args_at
no_argument zero ts p i e = refl
no_argument (suc f) ts p i e = rw (eq-eqb i 0 e) refl

-- a row that is not 0 is an argument and those behind it
pub an_argument : (f : ℕ) (ts : List Token) (p : List ℕ) (i : ℕ) → (i ≡ 0 → ⊥)
    → args_at (suc f) ts p i ≡ more (tree_at f ts p (row_word p i EXPRESSION)) (args_at f ts p (row_word p i NEXT))
unfolding args_at
an_argument f ts p i h = rw (ne_eqb i 0 h) refl

-- one more argument's answer with those of the later ones
one_more : {w : List ℕ} {c : Taker} {k n v : ℕ} {b : Bool} {q : Passing} {x : Res (List Ty)} {t : Ty} → n ≡ type_number t
    → v ≡ expected_in w c k
    → TellsAll w c (k + 1) (b && eqb n v) q x → {y : Res (List Ty)} → ((ts : List Ty) → x ≡ ok ts → y ≡ ok (t ∷ ts))
    → ((r : Faults.Reason) (i : ℕ) → x ≡ bad r i → y ≡ bad r i)
    → TellsAll w c k b q y
unfolding suits
one_more {w} {c} {k} {n} {v} {b} {t = t} p o (tells_types {ts = ts} e d) f g =
    types_are (t ∷ ts) (f ts refl) (e ∙ omega arith)
    (d ∙ ap (λ (j : ℕ). (b && eqb n v) && suits w c j ts) (add-one k) ∙ and_and b (eqb n v) (suits w c (suc k) ts)
    ∙ ap (λ (z : Bool). b && (z && suits w c (suc k) ts)) (ap₂ eqb p o))
one_more p o (tells_wrong {e = fault} {q = r} e) f g = wrong_is (g r fault.place refl ∙ ap (λ r. bad r fault.place) (sym e))

module _ {p w : List ℕ} {row seen binds : ℕ} {c : Taker} {k : ℕ} {b : Bool} where
  -- no argument
  pub args_end : row ≡ 0 → ToldAll p w row seen binds c k b (Ok record { count = k; suited = b })
  unfolding infers suits
  args_end e ts f Δ Γ st = types_are [] (ap (λ es. infers Δ es Γ) (no_argument f ts p row e)) (omega arith) (and_true b)

  module _ (some_row : row ≡ 0 → ⊥) where
    -- a fault of the first
    pub args_stop : {fault : Fault} → Told p w (row_word p row EXPRESSION) seen binds (Err fault)
        → ToldAll p w row seen binds c k b (Err fault)
    unfolding infers RightArgs
    args_stop h ts zero Δ Γ st = absurd (some_row st.whole)
    args_stop h ts (suc f) Δ Γ st =
        let a = st.whole some_row in
        wrong_is (ap (λ es. infers Δ es Γ) (an_argument f ts p row some_row)
        ∙ after_bad _ (fault_told (h ts f Δ Γ record { depth = st.depth; sight = st.sight; whole = a.exp.1; scope = st.scope })))

    -- the later ones' answer, with the first
    pub args_go : {n v : ℕ} {q : Passing} → v ≡ expected_in p c k → Told p w (row_word p row EXPRESSION) seen binds (Ok n)
        → ToldAll p w (row_word p row NEXT) seen binds c (k + 1) (b && eqb n v) q → ToldAll p w row seen binds c k b q
    unfolding infers RightArgs
    args_go o h g ts zero Δ Γ st = absurd (some_row st.whole)
    args_go o h g ts (suc f) Δ Γ st =
        let a = st.whole some_row in
        let u = type_told (h ts f Δ Γ record { depth = st.depth; sight = st.sight; whole = a.exp.1; scope = st.scope }) in
        let e = ap (λ es. infers Δ es Γ) (an_argument f ts p row some_row) in
        one_more u.2 o (g ts f Δ Γ record { depth = st.depth; sight = st.sight; whole = a.next.1; scope = st.scope })
        (λ us d. e ∙ after_ok _ u.1 (after_ok _ d refl)) (λ r i d. e ∙ after_ok _ u.1 (after_bad _ d))

-- ---- a call

module _ {p w : List ℕ} {node seen binds : ℕ} (kind : row_word p node KIND ≡ CALL) {c : Callee} where
  -- a fault of its arguments is the call's
  pub call_stops : {fault : Fault} → ToldAll p w (row_word p node FIRST) seen binds (Taker.Call c) 0 true (Err fault)
      → Told p w node seen binds (Err fault)
  unfolding infer build shape_of entry
  call_stops h =
      told_shape a_call (ap shape_of kind) λ ts f Δ Γ st nd.
      fault_is (after_bad _ (wrong_told (h ts f Δ Γ record
      { depth = st.depth; sight = st.sight; whole = (nd.args kind).1; scope = st.scope })))

  -- and when all have types the call asks
  pub call_goes : {x n i : ℕ} {s : Bool} {r : Typing} → x ≡ token_value p (row_word p node OWN) → c ≡ callee_in p x seen
      → i ≡ row_word p node OWN
      → ToldAll p w (row_word p node FIRST) seen binds (Taker.Call c) 0 true (Ok record { count = n; suited = s }) → AsksCall p c n s i r → Told p w node seen binds r
  unfolding build shape_of entry
  call_goes {x} {n} {s = s} {r = r} ex ec ei h asks =
      told_shape a_call (ap shape_of kind) λ ts f Δ Γ st nd.
      let y = spelling_at ts (row_word p node OWN) in
      let nm = subst (λ (z : ℕ). Named ts z y) (sym ex) (named_at st.sight.stand (row_word p node OWN) (nd.called kind)) in
      let u = types_told (h ts f Δ Γ record { depth = st.depth; sight = st.sight; whole = (nd.args kind).1; scope = st.scope }) in
      let m = subst (λ (c : Callee). Means st.depth ts p c (nearest y Δ)) (sym ec) (callee_means st.sight nm) in
      subst (λ (i : ℕ). AsksCall p c n s i r) ei asks ts st.depth Δ Γ y (args_at f ts p (row_word p node FIRST)) u.0 m u.1 (u.2
      ∙ omega arith) u.3
