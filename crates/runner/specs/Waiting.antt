-- What waits: which bindings the slots of a frame are, and which continuation of the written meaning the frames are.
use Rattle.std.specs.Prelude.{Bool, true, false, List, [], ◌∷◌, ◌++◌, ◌≡◌, ℕ, suc, ◌+◌, ◌*◌, ◌≤◌, ◌<◌, ℤ, ◌+ℤ◌, eqb, length}
use Rattle.language.specs.Sizes.{NODES, ACTIVE, PARAMETERS}
use Rattle.language.specs.Tokens.{Token}
use Rattle.language.specs.Trees.{Name, Unary, Binary, Exp, Exps, Scope, empty, push, nearest}
use Rattle.language.specs.State as M
use Rattle.language.specs.State.{number, nothing, value, stop, stuck, zero_step, then}
use Rattle.language.specs.State.{as_bool, as_unit, want, choose, keep, with_cells}
use Rattle.language.specs.Meaning.{Fun, Env, in_range, is_zero, apply_unary, apply_binary}
use Rattle.language.specs.Meaning.{settles, with_bounds, arguments, invoke, eval}
use Rattle.language.proofs.Meaning.Spending.{while}
use Rattle.language.proofs.Meaning.Turns.{for_from}
use Rattle.layout.specs.Table.{FIRST, SECOND, THIRD, NEXT, token_value, row_word}
use Rattle.layout.specs.Names.{Named}
use Rattle.layout.specs.Rows.{CALL, unary_kind, binary_kind, range_kind}
use Rattle.layout.specs.Slots.{TAGS, HELD, WAITING, key_at, value_at}
use Rattle.layout.specs.Notes.{noted}
use Rattle.layout.specs.Resolved.{callee_row, counting}
use Rattle.layout.specs.Frames.{NODE, PHASE, BASE, CELLS_AT, frame_word, frame_size, frame_mark}
use Rattle.machine.specs.Slots.{values_from}
use Rattle.runner.specs.Phases.{LAST, UNARY, LEFT, RIGHT, BEFORE, INSIDE, BOUND}
use Rattle.runner.specs.Phases.{CONDITION, TEST, PASS, ARGUMENT, COUNTED}
use Rattle.runner.specs.Trees.{Head, NameAt, count, helds, At, Args}

-- ---- a run: its tokens and functions, the outcome of the whole, not stuck, and the memories as they were lent

pub record Run : Type 0 where
  pub ts : List Token
  pub defs : ℕ
  pub fs : Scope Fun
  pub whole : M.Outcome
  pub safe : whole ≡ stuck → ⊥
  pub work : List ℕ
  pub out : List ℕ

abbrev pub Then : Type 0
Then = M.Value → M.State → M.Outcome

-- ---- bindings

-- the slots from slot `base` on, which L names, the newest first, are the bindings env
pub data Binds (ts : List Token) (w : List ℕ) (base : ℕ) : List ℕ → Env → Type 0 where
  binds_none : Binds ts w base [] empty
  binds_name : {n : ℕ} {x : Name} {L : List ℕ} {env : Env} {v : M.Value}
      → Named ts n x → value_at w 0 (base + length L) ≡ v → Binds ts w base L env
      → Binds ts w base (n ∷ L) (push x v env)
  binds_held : {L : List ℕ} {env : Env} → Binds ts w base L env → Binds ts w base (HELD ∷ L) env

-- ---- frames

pub record FrameAt (w : List ℕ) (h row phase base size mark : ℕ) : Type 0 where
  pub row_is : frame_word w h NODE ≡ row
  pub phase_is : frame_word w h PHASE ≡ phase
  pub base_is : frame_word w h BASE ≡ base
  pub size_is : frame_size w h ≡ size
  pub mark_is : frame_mark w h ≡ mark

-- of c cells, n of which were born when b were born in all, the others were born later
pub record Later (w : List ℕ) (n b c d : ℕ) : Type 0 where
  pub few : n ≤ c
  pub older : b ≤ d
  pub later : (i : ℕ) → n ≤ i → i < c → b < key_at w CELLS_AT i

unfoldable pub which : Bool → Type 0 → Type 0 → Type 0
which true A B = A
which false A B = B

-- what a `while` does with the value of a test
abbrev pub tested : Scope Fun → ℕ → Exp → Exp → Env → Then
tested fs d c e env v s =
    want (as_bool v) λ b.
    choose b (λ _. then (eval fs d e env s) λ u s. want (as_unit u) λ _. while fs d c e env s) λ _.
    value nothing s

-- what a call does with the values of its arguments
abbrev pub called : Scope Fun → ℕ → ℕ → Name → List M.Value → M.State → M.Outcome
called fs d i x vs s = want (nearest x fs) λ g. invoke fs (eval fs d) i g vs s

-- what a `for` does with the values of its bounds, and with that of a pass for z
abbrev pub bounded : Scope Fun → ℕ → ℕ → Name → Bool → Exp → Env → List M.Value → M.State → M.Outcome
bounded fs d i x through e env vs s =
    with_bounds vs λ from to by. choose (is_zero by) (λ _. stop zero_step i s)
    λ _. for_from fs d x through to by e env from s

abbrev pub passed : Scope Fun → ℕ → Name → Bool → ℤ → ℤ → Exp → Env → ℤ → Then
passed fs d x through to by e env z v s =
    want (as_unit v) λ _. choose (in_range (z +ℤ by)) (λ _. for_from fs d x through to by e env (z +ℤ by) s)
    λ _. value nothing s

-- the `for` at a row, which begins where its frame has the slots L
pub record ForAt (q : Run) (t : List ℕ) (row : ℕ) (L : List ℕ) : Type 0 where
  pub i : ℕ
  pub x : Name
  pub through : Bool
  pub e : Exp
  pub head : Head t row (range_kind through) i
  pub named : NameAt q.ts t (i + 1) x
  pub at : At q.ts t q.defs (counting (token_value t (i + 1)) L) (row_word t row SECOND) e

-- what the node at a row does with the values of its arguments is a call's, or a `for`'s
module _ (q : Run) (t : List ℕ) (d row : ℕ) (L : List ℕ) (env : Env) (done : List M.Value → M.State → M.Outcome) where
  pub record CallDoes : Type 0 where
    pub i : ℕ
    pub x : Name
    pub head : Head t row CALL i
    pub named : NameAt q.ts t i x
    pub calls : noted t i ≡ callee_row t q.defs (token_value t i)
    pub is : (vs : List M.Value) (s : M.State) → done vs s ≡ called q.fs d i x vs s

  pub record ForDoes : Type 0 where
    pub loop : ForAt q t row L
    pub is : (vs : List M.Value) (s : M.State)
        → done vs s ≡ bounded q.fs d loop.i loop.x loop.through loop.e env vs s

  pub data Does : Type 0 where
    by_call : CallDoes → Does
    by_for : ForDoes → Does

-- A frame of the node at a row, whose part may have d more active: κ is what comes behind the node, κ' what comes
-- behind the part, and u slots above its own L hold values. There were n cells and b births when it began to wait.
module _ (q : Run) (t w : List ℕ) (d row base mark n b : ℕ) (L : List ℕ) (env : Env) (κ κ' : Then) (u : ℕ) where
  abbrev Tree : List ℕ → ℕ → Exp → Type 0
  Tree M r e = At q.ts t q.defs M r e

  -- there is room for what its parts need
  abbrev Roomy : Type 0
  Roomy = base + length L + WAITING * suc d ≤ WAITING * ACTIVE

  pub record WaitsLast : Type 0 where
    pub deep : suc d ≤ ACTIVE
    pub goes : (v : M.Value) (s : M.State) → κ' v s ≡ κ v s

  pub record WaitsUnary : Type 0 where
    pub i : ℕ
    pub o : Unary
    pub head : Head t row (unary_kind o) i
    pub room : Roomy
    pub goes : (v : M.Value) (s : M.State) → κ' v s ≡ then (apply_unary i o v s) κ

  pub record WaitsLeft : Type 0 where
    pub i : ℕ
    pub o : Binary
    pub f : Exp
    pub head : Head t row (binary_kind o) i
    pub room : Roomy
    pub at : Tree (HELD ∷ L) (row_word t row SECOND) f
    pub goes : (v : M.Value) (s : M.State)
        → κ' v s ≡ then (choose (settles o v) (λ _. value v s) λ _. then (eval q.fs d f env s)
        λ x s. apply_binary i o v x s) κ

  pub record WaitsRight : Type 0 where
    pub i : ℕ
    pub o : Binary
    pub left : M.Value
    pub head : Head t row (binary_kind o) i
    pub room : Roomy
    pub used : u ≡ 1
    pub held : value_at w 0 (base + length L) ≡ left
    pub goes : (v : M.Value) (s : M.State) → κ' v s ≡ then (apply_binary i o left v s) κ

  pub record WaitsBefore : Type 0 where
    pub f : Exp
    pub inside : row < NODES
    pub room : Roomy
    pub at : Tree L (row_word t row SECOND) f
    pub goes : (v : M.Value) (s : M.State) → κ' v s ≡ then (want (as_unit v) λ _. eval q.fs d f env s) κ

  pub record WaitsInside : Type 0 where
    pub live : mark ≡ n
    pub deep : suc d ≤ ACTIVE
    pub low : (i : ℕ) → i < n → key_at w CELLS_AT i ≤ b
    pub goes : (v : M.Value) (s : M.State) → κ' v s ≡ κ v (with_cells (keep b s.cells) s)

  pub record WaitsBound : Type 0 where
    pub i : ℕ
    pub x : Name
    pub f : Exp
    pub inside : row < NODES
    pub named : NameAt q.ts t (i + 1) x
    pub room : Roomy
    pub at : Tree (token_value t (i + 1) ∷ L) (row_word t row SECOND) f
    pub goes : (v : M.Value) (s : M.State) → κ' v s ≡ then (eval q.fs d f (push x v env) s) κ

  pub record WaitsCondition : Type 0 where
    pub e : Exp
    pub f : Exp
    pub inside : row < NODES
    pub room : Roomy
    pub at_e : Tree L (row_word t row SECOND) e
    pub at_f : Tree L (row_word t row THIRD) f
    pub goes : (v : M.Value) (s : M.State)
        → κ' v s ≡ then (want (as_bool v) λ b. choose b (λ _. eval q.fs d e env s) λ _. eval q.fs d f env s) κ

  pub record WaitsTest : Type 0 where
    pub c : Exp
    pub e : Exp
    pub inside : row < NODES
    pub room : Roomy
    pub at_c : Tree L (row_word t row FIRST) c
    pub at_e : Tree L (row_word t row SECOND) e
    pub goes : (v : M.Value) (s : M.State) → κ' v s ≡ then (tested q.fs d c e env v s) κ

  pub record WaitsPass : Type 0 where
    pub c : Exp
    pub e : Exp
    pub inside : row < NODES
    pub room : Roomy
    pub at_c : Tree L (row_word t row FIRST) c
    pub at_e : Tree L (row_word t row SECOND) e
    pub goes : (v : M.Value) (s : M.State) → κ' v s ≡ then (want (as_unit v) λ _. while q.fs d c e env s) κ

  -- for argument or bound k, whose row and number are the mark, with the values vs before it and the arguments es
  -- behind it
  pub record WaitsArgument : Type 0 where
    pub arg : ℕ
    pub k : ℕ
    pub vs : List M.Value
    pub es : Exps
    pub done : List M.Value → M.State → M.Outcome
    pub by : Does q t d row L env done
    pub marked : mark ≡ TAGS * arg + k
    pub inside : arg < NODES
    pub room : Roomy
    pub few : suc k + count es ≤ PARAMETERS
    pub used : u ≡ k
    pub long : length vs ≡ k
    pub held : values_from w 0 (base + length L) k ≡ vs
    pub sees : Binds q.ts w base (helds k L) env
    pub rest : Args q.ts t q.defs (helds (suc k) L) (row_word t arg NEXT) es
    pub goes : (v : M.Value) (s : M.State)
        → κ' v s ≡ then (arguments q.fs (eval q.fs d) es env s λ ws s. done (vs ++ (v ∷ ws)) s) κ

  -- for the pass for z, to which the name is bound in the slot above L, with the end and the step above that
  pub record WaitsCounted : Type 0 where
    pub loop : ForAt q t row L
    pub to : ℤ
    pub by : ℤ
    pub z : ℤ
    pub room : Roomy
    pub used : u ≡ 3
    pub counter : value_at w 0 (base + length L) ≡ number z
    pub end : value_at w 0 (base + length L + 1) ≡ number to
    pub step : value_at w 0 (base + length L + 2) ≡ number by
    pub goes : (v : M.Value) (s : M.State)
        → κ' v s ≡ then (passed q.fs d loop.x loop.through to by loop.e env z v s) κ

  pub record WaitsWhole : Type 0 where
    pub goes : (v : M.Value) (s : M.State) → κ' v s ≡ value v s

  unfoldable pub Waits : ℕ → Type 0
  Waits p =
      which (eqb p LAST) WaitsLast
      (which (eqb p RIGHT) WaitsRight
      (which (eqb p LEFT) WaitsLeft
      (which (eqb p UNARY) WaitsUnary
      (which (eqb p BEFORE) WaitsBefore
      (which (eqb p INSIDE) WaitsInside
      (which (eqb p BOUND) WaitsBound
      (which (eqb p CONDITION) WaitsCondition
      (which (eqb p TEST) WaitsTest
      (which (eqb p PASS) WaitsPass
      (which (eqb p ARGUMENT) WaitsArgument
      (which (eqb p COUNTED) WaitsCounted WaitsWhole)))))))))))

-- h frames, above which d more nodes may be active, with c cells live and m births in all; they use slots below a
pub data Stack (q : Run) (t w : List ℕ) : ℕ → ℕ → ℕ → ℕ → ℕ → Then → Type 0 where
  ground : {d a c m : ℕ} {κ : Then} → Stack q t w d 0 a c m κ
  frame : {d h a c m row p base mark n b : ℕ} {L : List ℕ} {env : Env} {κ κ' : Then} (u : ℕ)
      → FrameAt w h row p base (length L) mark → Binds q.ts w base L env → base + length L + u ≤ a → Later w n b c m
      → Waits q t w d row base mark n b L env κ κ' u p → Stack q t w (suc d) h (base + length L) n b κ
      → Stack q t w d (suc h) a c m κ'
