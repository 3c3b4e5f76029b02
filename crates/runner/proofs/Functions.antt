-- A function is entered: its body sees the arguments, which lie in the first slots of its frame.
use mathlib.Core.Path.{◌≡◌, refl, sym, ap, subst, ◌∙◌}
use mathlib.Core.List.{List, [], ◌∷◌, ◌++◌}
use mathlib.Core.Option.{none, some}
use Rattle.std.specs.Prelude as P
use Prim.Native.Nat.{ℕ, zero, suc, ◌+◌}
use native.Mathlib.Omega.{arith}
use native.Mathlib.Numerals.{add-one}
use native.Mathlib.Decide.{ℕ_discrete}
use lib.ListN.{length}
use Rattle.language.specs.Tokens.{Token}
use Rattle.language.specs.Trees.{Name, Param, Def, Exp, push, empty, nearest}
use Rattle.language.specs.State as M
use Rattle.language.specs.State.{stuck, then, as_int, only, when_some, want}
use Rattle.language.specs.Meaning.{putchar, defined, Env, put, enter, invoke, eval}
use Rattle.layout.specs.Table.{OWN, token_value, row_word}
use Rattle.layout.specs.Names.{Named, Stand}
use Rattle.layout.specs.Decode.{ParamsAt, params_none, params_more}
use Rattle.layout.specs.Slots.{value_at}
use Rattle.layout.proofs.NameLaws.{named_at}
use Rattle.machine.specs.Slots.{values_from}
use Rattle.layout.specs.Resolved.{parameters_in}
use Rattle.runner.specs.Trees.{Function}
use Rattle.runner.specs.Waiting.{Run, Then, Binds, binds_none, binds_name, called}
use Rattle.runner.proofs.Finding.{Calls, calls_putchar, calls_nobody, calls_function}

-- ---- slots

pub parameters_length : (t : List ℕ) (row n : ℕ) → length (parameters_in t row n) ≡ n
unfolding parameters_in
parameters_length t row zero = refl
parameters_length t row (suc n) = ap suc (parameters_length t row n)

-- one value more
pub values_more : (w : List ℕ) (a k : ℕ) → values_from w 0 a (suc k) ≡ values_from w 0 a k ++ (value_at w 0 (a + k) ∷ [])
unfolding values_from
values_more w a zero = let e : a ≡ a + 0 = omega arith in ap (λ (j : ℕ). value_at w 0 j ∷ []) e
values_more w a (suc k) =
    let e : a + 1 + k ≡ a + suc k = omega arith in
    ap (λ (l : List M.Value). value_at w 0 a ∷ l) (values_more w (a + 1) k ∙ ap (λ (j : ℕ). values_from w 0 (a + 1) k ++ (value_at w 0 j ∷ [])) e)

pub values_length : (w : List ℕ) (a k : ℕ) → length (values_from w 0 a k) ≡ k
unfolding values_from
values_length w a zero = refl
values_length w a (suc k) = ap suc (values_length w (a + 1) k)

-- ---- parameters

-- a wrong number of arguments
enter_wrong : (ps : List Param) (vs : List M.Value) (env : Env) (k : Env → M.Outcome) → (length vs ≡ length ps → ⊥) → enter ps vs env k ≡ stuck
unfolding enter
enter_wrong [] [] env k h = absurd (h refl)
enter_wrong [] (v ∷ vs) env k h = refl
enter_wrong (p ∷ ps) [] env k h = refl
enter_wrong (p ∷ ps) (v ∷ vs) env k h = enter_wrong ps vs (push p.called v env) k (λ e. h (ap suc e))

-- the parameters ps, behind j others, are bound to the values from slot j on
record Entered (ts : List Token) (t w : List ℕ) (base row j : ℕ) (ps : List Param) (env : Env) : Type 0 where
  inner : Env
  binds : Binds ts w base (parameters_in t row (j + length ps)) inner
  is : (k : Env → M.Outcome) → enter ps (values_from w 0 (base + j) (length ps)) env k ≡ k inner

module _ {ts : List Token} {t : List ℕ} (stand : Stand t (length ts) ts) (w : List ℕ) (base row : ℕ) where
  none_entered : (j : ℕ) (env : Env) → Binds ts w base (parameters_in t row j) env → Entered ts t w base row j [] env
  unfolding enter values_from
  none_entered j env b =
      let e : j + 0 ≡ j = omega arith in
      record { inner = env; binds = subst (λ (n : ℕ). Binds ts w base (parameters_in t row n) env) (sym e) b; is = λ k. refl }

  more_entered : (j : ℕ) (env : Env) (p : Param) (ps : List Param) → Entered ts t w base row (j + 1) ps (push p.called (value_at w 0 (base + j)) env)
      → Entered ts t w base row j (p ∷ ps) env
  unfolding enter values_from
  more_entered j env p ps n =
      let e : j + 1 + length ps ≡ j + suc (length ps) = omega arith in
      let f : base + j + 1 ≡ base + (j + 1) = omega arith in
      record {
        inner = n.inner;
        binds = subst (λ (m : ℕ). Binds ts w base (parameters_in t row m) n.inner) e n.binds;
        is = λ k. ap (λ (m : ℕ). enter ps (values_from w 0 m (length ps)) (push p.called (value_at w 0 (base + j)) env) k) f ∙ n.is k;
      }

  one_more : (j : ℕ) (env : Env) {x : Name} → Named ts (token_value t (row_word t (row + 1 + j) OWN)) x
      → Binds ts w base (parameters_in t row j) env → Binds ts w base (parameters_in t row (j + 1)) (push x (value_at w 0 (base + j)) env)
  unfolding parameters_in
  one_more j env m b = rw (add-one j) (binds_name m (ap (λ (i : ℕ). value_at w 0 (base + i)) (parameters_length t row j)) b)

  entered : (j : ℕ) {r : ℕ} {ps : List Param} → ParamsAt ts t r ps → r ≡ row + 1 + j → {env : Env}
      → Binds ts w base (parameters_in t row j) env → Entered ts t w base row j ps env
  entered j params_none er {env} b = none_entered j env b
  entered j {r} (params_more {p = p} {ps = ps} e a c y rest) er {env} b =
      let q : row_word t (row + 1 + j) OWN ≡ p.at = ap (λ (n : ℕ). row_word t n OWN) (sym er) ∙ e in
      let m : Named ts (token_value t (row_word t (row + 1 + j) OWN)) p.called =
      subst (λ (m : ℕ). Named ts (token_value t m) p.called) (sym q)
      (subst (λ (x : Name). Named ts (token_value t p.at) x) (sym c) (named_at stand p.at a)) in
      more_entered j env p ps (entered (j + 1) rest (omega arith) (one_more j env m b))

empty_binds : (ts : List Token) (t w : List ℕ) (base row : ℕ) → Binds ts w base (parameters_in t row 0) empty
unfolding parameters_in
empty_binds ts t w base row = binds_none

-- ---- what is called

-- `putchar` has one argument
one_value : (q : Run) (κ : Then) (us : List M.Value) (v : M.Value) (k : M.Value → M.Outcome) → then (want (only (us ++ (v ∷ []))) k) κ ≡ q.whole
    → then (k v) κ ≡ q.whole
unfolding only when_some then
one_value q κ [] v k e = e
one_value q κ (u ∷ []) v k e = absurd (q.safe (sym e))
one_value q κ (u ∷ x ∷ us) v k e = absurd (q.safe (sym e))

module _ (q : Run) (κ : Then) (d i : ℕ) (x : Name) (s : M.State) where
  putchar_whole : nearest x q.fs ≡ some putchar → (us : List M.Value) (v : M.Value) → then (called q.fs d i x (us ++ (v ∷ [])) s) κ ≡ q.whole
      → then (want (as_int v) λ z. put i z s) κ ≡ q.whole
  unfolding when_some invoke
  putchar_whole f us v means =
      let m : then (want (only (us ++ (v ∷ []))) λ u. want (as_int u) λ z. put i z s) κ ≡ q.whole = rw f at means in
      one_value q κ us v (λ u. want (as_int u) λ z. put i z s) m

  nobody_whole : {A : Type 0} → nearest x q.fs ≡ none → (vs : List M.Value) → then (called q.fs d i x vs s) κ ≡ q.whole → A
  unfolding when_some then
  nobody_whole f vs means = let m : stuck ≡ q.whole = rw f at means in absurd (q.safe (sym m))

  putchar_none : {A : Type 0} → nearest x q.fs ≡ some putchar → then (called q.fs d i x [] s) κ ≡ q.whole → A
  unfolding when_some invoke only then
  putchar_none f means = let m : stuck ≡ q.whole = rw f at means in absurd (q.safe (sym m))

  function_whole : (ps : List Param) (body : Exp) → nearest x q.fs ≡ some (defined ps body) → (vs : List M.Value)
      → then (called q.fs d i x vs s) κ ≡ q.whole → then (enter ps vs empty λ env. eval q.fs d body env s) κ ≡ q.whole
  unfolding when_some invoke
  function_whole ps body f vs means = rw f at means

  count_whole : (ps : List Param) (body : Exp) (vs : List M.Value) → then (enter ps vs empty λ env. eval q.fs d body env s) κ ≡ q.whole
      → length vs ≡ length ps
  unfolding then
  count_whole ps body vs means = by (ℕ_discrete (length vs) (length ps))
    where
      by : Dec (length vs ≡ length ps) → length vs ≡ length ps
      by (yes e) = e
      by (no n) =
          let m : stuck ≡ q.whole = rw (enter_wrong ps vs empty (λ env. eval q.fs d body env s) n) at means in
          absurd (q.safe (sym m))

-- a function with its arguments
pub record Called (q : Run) (t : List ℕ) (head d : ℕ) (vs : List M.Value) (s : M.State) (κ : Then) : Type 0 where
  pub f : Def
  pub function : Function q.ts t q.defs head f
  pub count : length vs ≡ length f.params
  pub means : then (enter f.params vs empty λ env. eval q.fs d f.body env s) κ ≡ q.whole

function_enters : (q : Run) {t : List ℕ} (κ : Then) (d i : ℕ) (x : Name) (s : M.State) {head : ℕ} (f : Def) → Function q.ts t q.defs head f
    → nearest x q.fs ≡ some (defined f.params f.body) → (vs : List M.Value) → then (called q.fs d i x vs s) κ ≡ q.whole
    → Called q t head d vs s κ
function_enters q κ d i x s f g e vs means =
    let m = function_whole q κ d i x s f.params f.body e vs means in
    record { f = f; function = g; count = count_whole q κ d i x s f.params f.body vs m; means = m }

module _ (q : Run) {t : List ℕ} (κ : Then) (d i : ℕ) (x : Name) (s : M.State) where
  -- it is `putchar`
  pub call_prints : {found : P.Option ℕ} → Calls q.ts t q.defs found (nearest x q.fs) → found ≡ P.None → (us : List M.Value) (v : M.Value)
      → then (called q.fs d i x (us ++ (v ∷ [])) s) κ ≡ q.whole → then (want (as_int v) λ z. put i z s) κ ≡ q.whole
  call_prints (calls_putchar f) e us v means = putchar_whole q κ d i x s f us v means
  call_prints (calls_nobody f) e us v means = nobody_whole q κ d i x s f (us ++ (v ∷ [])) means
  call_prints (calls_function f g h) e us v means = cc

  -- or a function
  pub call_enters : {found : P.Option ℕ} {head : ℕ} → Calls q.ts t q.defs found (nearest x q.fs) → found ≡ P.Some head → (vs : List M.Value)
      → then (called q.fs d i x vs s) κ ≡ q.whole → Called q t head d vs s κ
  call_enters (calls_putchar f) e vs means = cc
  call_enters (calls_nobody f) e vs means = cc
  call_enters (calls_function {row = row} f g h) e vs means =
      function_enters q κ d i x s f (subst (λ (r : ℕ). Function q.ts t q.defs r f) (cc) g) h vs means

  -- without arguments it is a function
  pub call_empty : {A : Type 0} {found : P.Option ℕ} → Calls q.ts t q.defs found (nearest x q.fs) → found ≡ P.None
      → then (called q.fs d i x [] s) κ ≡ q.whole → A
  call_empty (calls_putchar f) e means = putchar_none q κ d i x s f means
  call_empty (calls_nobody f) e means = nobody_whole q κ d i x s f [] means
  call_empty (calls_function f g h) e means = cc

-- ---- the body

-- what the body sees, and what it means
pub record Body (q : Run) (t w : List ℕ) (head d base : ℕ) (f : Def) (s : M.State) (κ : Then) : Type 0 where
  pub env : Env
  pub binds : Binds q.ts w base (parameters_in t head (length f.params)) env
  pub means : then (eval q.fs d f.body env s) κ ≡ q.whole

pub body_of : {q : Run} {t w : List ℕ} {head d base : ℕ} {vs : List M.Value} {s : M.State} {κ : Then} → Stand t (length q.ts) q.ts
    → (e : Called q t head d vs s κ) → vs ≡ values_from w 0 base (length vs)
    → Body q t w head d base e.f s κ
body_of {q} {t} {w} {head} {d} {base} {vs} {s} {κ} stand e v =
    let n = entered stand w base head 0 e.function.params (omega arith)
    (empty_binds q.ts t w base head) in
    let z : values_from w 0 (base + 0) (length e.f.params) ≡ vs =
    ap (λ (m : ℕ). values_from w 0 m (length e.f.params)) (omega arith) ∙ ap (λ (m : ℕ). values_from w 0 base m) (sym e.count) ∙ sym v in
    let k : Env → M.Outcome = λ env. eval q.fs d e.f.body env s in
    record {
      env = n.inner;
      binds = subst (λ (m : ℕ). Binds q.ts w base (parameters_in t head m) n.inner) (omega arith) n.binds;
      means = ap (λ (m : M.Outcome). then m κ) (sym (n.is k) ∙ ap (λ (us : List M.Value). enter e.f.params us empty k) z) ∙ e.means;
    }
