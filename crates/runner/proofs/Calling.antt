-- Calls: who is called, the first argument begins, or the body of a function without parameters.
use mathlib.Core.Path.{◌≡◌, refl, sym, ap, subst, ◌∙◌}
use mathlib.Core.List.{List, []}
use Rattle.std.specs.Prelude.{Option, None, Some}
use Prim.Native.Nat.{ℕ, suc, ◌+◌, ◌*◌, ◌≤◌, ◌<◌}
use native.Mathlib.Omega.{arith}
use lib.ListN.{length}
use Rattle.language.specs.Sizes.{NODES, ACTIVE, PARAMETERS}
use Rattle.language.specs.Trees.{Name, Exp, call, Exps, nearest}
use Rattle.language.specs.State as M
use Rattle.language.specs.State.{then}
use Rattle.language.specs.Meaning.{arguments, step, eval}
use Rattle.layout.specs.Table.{KIND, FIRST, EXPRESSION, ARITY, BODY, row_word, token_value}
use Rattle.layout.specs.Notes.{noted}
use Rattle.layout.specs.Resolved.{callee_row}
use Rattle.layout.specs.Rows.{CALL}
use Rattle.layout.specs.Slots.{TAGS, WAITING, SLOTS}
use Rattle.layout.specs.Frames.{put_frame}
use Rattle.layout.proofs.Shapes.{unary_high, binary_between}
use Rattle.machine.specs.Slots.{values_from}
use Rattle.machine.specs.Outcomes.{memory}
use Rattle.machine.specs.declared.state.Tally.{Tally}
use Rattle.runner.specs.Phases.{LAST, ARGUMENT}
use Rattle.runner.specs.Trees.{Head, NameAt, count, At, at_name, at_literal, at_unary, at_binary, at_follow, at_group}
use Rattle.runner.specs.Trees.{at_block, at_call, at_bind, at_branch, at_loop, at_counted, Args, slack, Scene}
use Rattle.runner.specs.Waiting.{Run, FrameAt, which, called, Does, by_call, Waits}
use Rattle.runner.specs.Standing.{Begins, Starts, Heads, row_noted, callee, Callable}
use Rattle.runner.specs.declared.state.Spot.{Spot}
use Rattle.runner.proofs.Memory.{Stored, stored_frame, frame_pushed}
use Rattle.runner.proofs.Finding.{Calls, noted_calls}
use Rattle.runner.proofs.Functions.{parameters_length, Called, call_enters, call_empty, Body, body_of}
use Rattle.runner.proofs.RowKinds.{literal_range, range_between, clash}
use Rattle.runner.proofs.Entering.{spot}
use Rattle.runner.proofs.Waiting.{part_begins_at}
use Rattle.runner.proofs.Arguments.{none_left, first_inside, first_begins_at}

-- ---- a call begins

-- the row of a call
record Call (q : Run) (t L : List ℕ) (node : ℕ) (e : Exp) : Type 0 where
  i : ℕ
  x : Name
  es : Exps
  is : e ≡ call i x es
  head : Head t node CALL i
  named : NameAt q.ts t i x
  few : count es ≤ PARAMETERS
  args : Args q.ts t q.defs L (row_word t node FIRST) es
  calls : noted t i ≡ callee_row t q.defs (token_value t i)

module _ (q : Run) {t L : List ℕ} where
  call_at : {node : ℕ} {e : Exp} → At q.ts t q.defs L node e → row_word t node KIND ≡ CALL → Call q t L node e
  call_at (at_call {i = i} {x = x} {es = es} h n f a m) k =
      record { i = i; x = x; es = es; is = refl; head = h; named = n; few = f; args = a; calls = m }
  call_at (at_name h x m) k = clash h.kind_is k (λ z. omega arith)
  call_at (at_literal {l = l} h x y) k = clash h.kind_is k (λ z. omega (arith, literal_range l))
  call_at (at_unary {o = o} h x) k = clash h.kind_is k (λ z. omega (arith, unary_high o))
  call_at (at_binary {o = o} h x y) k = clash h.kind_is k (λ z. omega (arith, binary_between o))
  call_at (at_follow h x y) k = clash h.kind_is k (λ z. omega arith)
  call_at (at_group h x) k = clash h.kind_is k (λ z. omega arith)
  call_at (at_block h x) k = clash h.kind_is k (λ z. omega arith)
  call_at (at_bind h x y z) k = clash h.kind_is k (λ z. omega arith)
  call_at (at_branch h x y z) k = clash h.kind_is k (λ z. omega arith)
  call_at (at_loop h x y) k = clash h.kind_is k (λ z. omega arith)
  call_at (at_counted {b = b} h x y z u) k = clash h.kind_is k (λ e. omega (arith, range_between b))

-- ---- who is called

module _ (q : Run) {t : List ℕ} {node i : ℕ} {x : Name} (scene : Scene q.ts t q.defs q.fs) (head : Head t node CALL i)
    (named : NameAt q.ts t i x) where
  -- what is noted can be read
  pub heads_at : Heads t node
  heads_at = record { long = scene.long; inside = head.inside; token = omega (arith, head.own_is, named.inside) }

  pub callee_of : noted t i ≡ callee_row t q.defs (token_value t i) → (found : Option ℕ) → found ≡ callee t node
      → Calls q.ts t q.defs found (nearest x q.fs)
  callee_of calls found e =
      subst (λ (f : Option ℕ). Calls q.ts t q.defs f (nearest x q.fs)) (sym (e ∙ ap (λ (j : ℕ). row_noted (noted t j)) head.own_is))
      (noted_calls scene.stand.few named.named scene.functions calls)

module _ {q : Run} {t w o : List ℕ} {node : ℕ} {p : Spot} {s : Tally} (b : Starts q t w o node p s) (tag : row_word t node KIND ≡ CALL) where
  abbrev σ : M.State
  σ = memory w o s

  calling : Call q t b.L node b.e
  calling = call_at q b.at tag

  pub call_inside : node < NODES
  call_inside = calling.head.inside

  pub call_heads : Heads t node
  call_heads = heads_at q b.scene calling.head calling.named

  call_means : then (step q.fs (eval q.fs b.d) (call calling.i calling.x calling.es) b.env σ) b.κ ≡ q.whole
  call_means = ap (λ (e : Exp). then (step q.fs (eval q.fs b.d) e b.env σ) b.κ) (sym calling.is) ∙ b.means

  call_room : p.base + length b.L + WAITING * suc b.d ≤ WAITING * ACTIVE
  unfolding slack
  call_room =
      let r : p.base + length b.L + WAITING * suc b.d ≤ WAITING * ACTIVE + slack (call calling.i calling.x calling.es) =
      subst (λ (e : Exp). p.base + length b.L + WAITING * suc b.d ≤ WAITING * ACTIVE + slack e) calling.is b.room in
      omega arith

  -- ---- without arguments

  module _ (empty : row_word t node FIRST ≡ 0) where
    empty_means : then (called q.fs b.d calling.i calling.x [] σ) b.κ ≡ q.whole
    unfolding step arguments
    empty_means =
        ap (λ (es : Exps). then (step q.fs (eval q.fs b.d) (call calling.i calling.x es) b.env σ) b.κ)
        (sym (none_left q calling.args empty)) ∙ call_means

    -- it is not `putchar`
    pub start_nobody : {A : Type 0} → None ≡ callee t node → A
    start_nobody e =
        call_empty q b.κ b.d calling.i calling.x σ
        (callee_of q b.scene calling.head calling.named calling.calls None e) refl empty_means

    module _ {row : ℕ} (who : Some row ≡ callee t node) where
      one : Called q t row b.d [] σ b.κ
      one =
          call_enters q b.κ b.d calling.i calling.x σ
          (callee_of q b.scene calling.head calling.named calling.calls (Some row) who) refl [] empty_means

      pub start_callable : Callable t row
      start_callable = record { long = b.scene.long; inside = one.function.inside }

      no_params : row_word t row ARITY ≡ 0
      no_params = omega (arith, one.function.arity, one.count)

      pub start_fits : p.base + p.size + row_word t row ARITY ≤ SLOTS
      start_fits = omega (arith, no_params, b.sized, call_room)

      abbrev W1 : List ℕ
      W1 = put_frame w p.height node LAST p.base p.size 0

      stored_all : Stored w W1 (p.base + length b.L) p.height
      stored_all =
          stored_frame w p.height node LAST p.base p.size 0 (p.base + length b.L) (omega (arith, b.deep)) (omega (arith, call_room))

      frame_is : FrameAt W1 p.height node LAST p.base (length b.L) 0
      frame_is =
          subst (λ (n : ℕ). FrameAt W1 p.height node LAST p.base n 0) b.sized
          (frame_pushed w p.height node LAST p.base p.size 0 (omega (arith, b.deep, b.fair.room.long)) (omega (arith, b.sized, call_room)))

      body : Body q t W1 row b.d (p.base + p.size) one.f σ b.κ
      unfolding values_from
      body = body_of b.scene.stand one refl

      -- the body begins
      pub start_enters : Begins q t W1 o (row_word t row BODY) (spot (p.base + p.size) (row_word t row ARITY) (p.height + 1)) s
      unfolding Waits which
      start_enters =
          let m = parameters_length t row (length one.f.params) in
          part_begins_at b.d p.height node LAST p.base 0 b.L b.env s b.κ b.scene b.fair b.deep b.binds b.stack
          stored_all frame_is b.κ (omega (arith, one.function.arity)) (omega (arith, b.sized)) one.function.at body.binds
          (omega (arith, call_room, one.function.block, one.count, b.sized)) (record { deep = omega (arith, call_room); goes = λ x s. refl })
          body.means

  -- ---- the first argument

  abbrev doing : List M.Value → M.State → M.Outcome
  doing = called q.fs b.d calling.i calling.x

  does : Does q t b.d node b.L b.env doing
  does =
      by_call (record {
        i = calling.i;
        x = calling.x;
        head = calling.head;
        named = calling.named;
        calls = calling.calls;
        is = λ vs s. refl;
      })

  all_means : then (arguments q.fs (eval q.fs b.d) calling.es b.env σ doing) b.κ ≡ q.whole
  unfolding step
  all_means = call_means

  module _ (row : ℕ) (is : row ≡ row_word t node FIRST) (some_there : row ≡ 0 → ⊥) where
    pub argument_inside : row < NODES
    argument_inside = first_inside b doing does calling.args calling.few call_room all_means row is some_there

    -- it begins
    pub start_pass : Begins q t (put_frame w p.height node ARGUMENT p.base p.size (TAGS * row + 0)) o (row_word t row EXPRESSION)
        (spot p.base (p.size + 0) (p.height + 1)) s
    start_pass = first_begins_at b doing does calling.args calling.few call_room all_means row is some_there
