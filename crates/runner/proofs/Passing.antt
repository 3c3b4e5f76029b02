-- An argument has its value: the next one begins, or the body; or a byte is printed.
use mathlib.Core.Path.{◌≡◌, refl, sym, ap, subst, ◌∙◌}
use mathlib.Core.Bool.{false}
use mathlib.Core.List.{List, [], ◌∷◌, ◌++◌, append_assoc}
use Rattle.std.specs.Prelude.{None, Some}
use Prim.Native.Nat.{ℕ, suc, ◌+◌, ◌*◌, ◌/◌, ◌%◌, ◌≤◌, ◌<◌}
use native.Mathlib.Omega.{arith}
use lib.ListN.{length}
use Rattle.language.specs.Sizes.{NODES, PARAMETERS}
use Rattle.language.specs.Trees.{Exps, last}
use Rattle.language.specs.State as M
use Rattle.language.specs.State.{then, as_int, want}
use Rattle.language.specs.Meaning.{put, arguments, eval}
use Rattle.layout.specs.Table.{KIND, OWN, EXPRESSION, NEXT, ARITY, BODY, row_word}
use Rattle.layout.specs.Decode.{counts}
use Rattle.layout.specs.Slots.{TAGS, SLOTS, value_at, put_slot}
use Rattle.layout.specs.Frames.{frame_mark, put_frame}
use Rattle.layout.specs.Values.{meant, Survives}
use Rattle.layout.specs.declared.values.Value.{Value}
use Rattle.layout.proofs.Packed.{packed_key, packed_tag}
use Rattle.machine.specs.Slots.{values_from}
use Rattle.machine.specs.Outcomes.{memory}
use Rattle.machine.specs.declared.state.Tally.{Tally}
use Rattle.machine.proofs.Slotted.{put_value}
use Rattle.runner.specs.Phases.{LAST, ARGUMENT, NAMELESS}
use Rattle.runner.specs.Trees.{count, helds, Args}
use Rattle.runner.specs.Waiting.{Run, Then, Binds, binds_held, FrameAt, which, called, CallDoes, WaitsArgument, Waits}
use Rattle.runner.specs.Standing.{Begins, Resumes, Good, Printing, Heads, callee, Callable}
use Rattle.runner.specs.declared.state.Spot.{Spot}
use Rattle.runner.specs.declared.state.Next.{Next}
use Rattle.runner.proofs.Memory.{Stored, stored_frame, stored_slot, stored_then}
use Rattle.runner.proofs.Memory.{frame_pushed, value_kept, values_kept}
use Rattle.runner.proofs.Stacks.{then_then, helds_length, binds_kept}
use Rattle.runner.proofs.Functions.{values_more, values_length, parameters_length, Called, call_prints, call_enters, body_of}
use Rattle.runner.proofs.Entering.{spot, told_whole, onward_good, fair_printed, same_stack}
use Rattle.runner.proofs.Giving.{waits_at, frame_room, frame_low, below, part_enters}
use Rattle.runner.proofs.Arguments.{does_inside, call_does, arguments_same, none_left, Argued, some_left}
use Rattle.runner.proofs.Calling.{heads_at, callee_of}

module _ {q : Run} {t w o : List ℕ} {v : Value} {row phase : ℕ} {p : Spot} {s : Tally} (r : Resumes q t w o v row phase p s) (e : phase ≡ ARGUMENT) where
  abbrev σ : M.State
  σ = memory w o s

  abbrev B : ℕ
  B = p.base

  abbrev N : ℕ
  N = length r.L

  abbrev H : ℕ
  H = p.height

  -- the mark, as it is read
  abbrev M1 : ℕ
  M1 = frame_mark w H

  pub waiting : WaitsArgument q t w r.d row B r.mark r.n r.b r.L r.env r.κ r.κ' r.u
  unfolding Waits which
  waiting = waits_at r ARGUMENT e

  abbrev K : ℕ
  K = waiting.k

  pub argument_row : row < NODES
  argument_row = does_inside waiting.by

  small : K < TAGS
  small = omega (arith, waiting.few)

  mark_is : M1 ≡ TAGS * waiting.arg + K
  mark_is = r.there.mark_is ∙ waiting.marked

  -- the argument's row and number
  row_is : M1 / TAGS ≡ waiting.arg
  row_is = ap (λ (m : ℕ). m / TAGS) mark_is ∙ packed_key waiting.arg K small

  pub number_is : M1 % TAGS ≡ K
  number_is = ap (λ (m : ℕ). m % TAGS) mark_is ∙ packed_tag waiting.arg K small

  pub argument_inside : M1 / TAGS < NODES
  argument_inside = omega (arith, row_is, waiting.inside)

  in_slot : B + N + K < SLOTS
  in_slot = omega (arith, waiting.room, waiting.few)

  pub argument_slot : B + p.size + M1 % TAGS < SLOTS
  argument_slot = omega (arith, r.sized, number_is, in_slot)

  argument_means : then (arguments q.fs (eval q.fs r.d) waiting.es r.env σ
      λ ws s. waiting.done (waiting.vs ++ (meant v ∷ ws)) s) r.κ ≡ q.whole
  argument_means = sym (waiting.goes (meant v) σ) ∙ r.means

  -- ---- the value is put into its slot, and the frame is put anew

  module _ (back : Survives v) (ph mark : ℕ) where
    abbrev S : List ℕ
    S = put_slot w 0 (B + N + K) NAMELESS v

    abbrev W : List ℕ
    W = put_frame S H row ph B N mark

    slotted : (a : ℕ) → a ≤ B + N + K → Stored w S a H
    slotted a l = stored_slot w (B + N + K) NAMELESS v a H l in_slot

    framed : (a : ℕ) → a ≤ B + N + K + 1 → Stored S W a H
    framed a l = stored_frame S H row ph B N mark a (frame_low r) (omega (arith, in_slot))

    passed : Stored w W (B + N) H
    passed = stored_then (slotted (B + N) (omega arith)) (framed (B + N) (omega arith))

    long_enough : 0 + 3 * (B + N + K) + 3 ≤ length w
    long_enough = omega (arith, in_slot, r.fair.room.long)

    there : value_at W 0 (B + N + K) ≡ meant v
    there =
        value_kept (framed (B + N + K + 1) (omega arith)).slots (B + N + K) (omega arith) ∙ put_value w 0 (B + N + K) NAMELESS v long_enough back

    -- the values so far
    values_are : values_from W 0 (B + N) (suc K) ≡ waiting.vs ++ (meant v ∷ [])
    values_are =
        values_more W (B + N) K
        ∙ ap (λ (vs : List M.Value). vs ++ (value_at W 0 (B + N + K) ∷ []))
        (values_kept (framed (B + N + K + 1) (omega arith)).slots (B + N) K (omega arith)
        ∙ values_kept (slotted (B + N + K) (omega arith)).slots (B + N) K (omega arith) ∙ waiting.held)
        ∙ ap (λ (u : M.Value). waiting.vs ++ (u ∷ [])) there

    frame_is : FrameAt W H row ph B N mark
    frame_is = frame_pushed S H row ph B N mark (omega (arith, frame_room r, (slotted 0 (omega arith)).long)) (omega (arith, in_slot))

    -- what the next argument sees
    held_all : Binds q.ts W B (helds (suc K) r.L) r.env
    unfolding helds
    held_all =
        let l = helds_length K r.L in
        binds_held (binds_kept (framed (B + N + K) (omega arith)).slots (omega arith)
        (binds_kept (slotted (B + N + K) (omega arith)).slots (omega arith) waiting.sees))

  -- ---- the last argument

  module _ (end : row_word t (M1 / TAGS) NEXT ≡ 0) where
    last_is : waiting.es ≡ last
    last_is = none_left q waiting.rest (ap (λ (m : ℕ). row_word t m NEXT) (sym row_is) ∙ end)

    abbrev all : List M.Value
    all = waiting.vs ++ (meant v ∷ [])

    pub last_means : then (waiting.done all σ) r.κ ≡ q.whole
    unfolding arguments
    last_means =
        ap (λ (es : Exps). then (arguments q.fs (eval q.fs r.d) es r.env σ λ ws s. waiting.done (waiting.vs ++ (meant v ∷ ws)) s) r.κ)
        (sym last_is) ∙ argument_means

  -- they are those of a call
  module _ (end : row_word t (M1 / TAGS) NEXT ≡ 0) (k : counts (row_word t row KIND) ≡ false) where
    call_of : CallDoes q t r.d row r.L r.env waiting.done
    call_of = call_does waiting.by k

    pub argument_heads : Heads t row
    argument_heads = heads_at q r.scene call_of.head call_of.named

    call_means : then (called q.fs r.d call_of.i call_of.x (all end) σ) r.κ ≡ q.whole
    call_means = ap (λ (m : M.Outcome). then m r.κ) (sym (call_of.is (all end) σ)) ∙ last_means end

    -- `putchar` prints it
    pub argument_prints : None ≡ callee t row → {o1 : List ℕ} {z : Next} → Printing (row_word t row OWN) v o o1 p s z → Good q t w o1 z
    argument_prints n {o1} {z} c =
        let m = call_prints q r.κ r.d call_of.i call_of.x σ
        (callee_of q r.scene call_of.head call_of.named call_of.calls None n) refl waiting.vs (meant v) call_means in
        let i = call_of.head.own_is in
        subst (λ (y : Next). Good q t w o1 y) (sym c.is)
        (onward_good (suc r.d) (B + N) p c.outcome (row_word t row OWN) v r.scene (fair_printed c.outcome r.fair c.printed) r.deep
        (omega (arith, r.deep, waiting.room)) (same_stack s c.outcome (below r))
        (told_whole q r.κ (c.printed.right (row_word t row OWN) w)
        (ap (λ (j : ℕ). then (want (as_int (meant v)) λ z. put j z σ) r.κ) i ∙ m)))

    module _ {head : ℕ} (who : Some head ≡ callee t row) where
      one : Called q t head r.d (all end) σ r.κ
      one =
          call_enters q r.κ r.d call_of.i call_of.x σ
          (callee_of q r.scene call_of.head call_of.named call_of.calls (Some head) who) refl (all end) call_means

      pub argument_callable : Callable t head
      argument_callable = record { long = r.scene.long; inside = one.function.inside }

      pub argument_fits : B + p.size + row_word t head ARITY ≤ SLOTS
      argument_fits = omega (arith, r.sized, one.function.arity, one.function.few, waiting.room)

      all_long : Survives v → length (all end) ≡ suc K
      all_long back = ap length (sym (values_are back LAST 0)) ∙ values_length (W back LAST 0) (B + N) (suc K)

      module _ (back : Survives v) where
        -- as the frame is put
        body_begins : Begins q t (W back LAST 0) o (row_word t head BODY) (spot (B + N) (row_word t head ARITY) (H + 1)) s
        unfolding Waits which
        body_begins =
            let m = parameters_length t head (length one.f.params) in
            let vs : all end ≡ values_from (W back LAST 0) 0 (B + N) (length (all end)) =
            sym (values_are back LAST 0) ∙ ap (λ (k : ℕ). values_from (W back LAST 0) 0 (B + N) k) (sym (all_long back)) in
            let body = body_of r.scene.stand one vs in
            part_enters r (passed back LAST 0) LAST 0 0 r.κ (frame_is back LAST 0)
            (record { deep = omega (arith, waiting.room); goes = λ x s. refl })
            (B + N) (row_word t head ARITY) (omega (arith, one.function.arity)) (omega arith) one.function.at body.binds
            (omega (arith, waiting.room, one.function.block, one.function.few)) body.means

        abbrev EntersAt : ℕ → ℕ → Type 0
        EntersAt n k =
            Begins q t (put_frame (put_slot w 0 (B + n + k) NAMELESS v) H row LAST B n 0) o (row_word t head BODY)
            (spot (B + n) (row_word t head ARITY) (H + 1)) s

        -- the body begins
        pub argument_enters : EntersAt p.size (M1 % TAGS)
        argument_enters =
            subst (λ (n : ℕ). EntersAt n (M1 % TAGS)) (sym r.sized) (subst (λ (k : ℕ). EntersAt N k) (sym number_is) body_begins)

  -- ---- another argument

  module _ (next : ℕ) (is : next ≡ row_word t (M1 / TAGS) NEXT) (some_there : next ≡ 0 → ⊥) where
    argued : Argued q t (helds (suc K) r.L) next waiting.es
    argued =
        some_left q (subst (λ (j : ℕ). Args q.ts t q.defs (helds (suc K) r.L) j waiting.es)
        (sym (is ∙ ap (λ (m : ℕ). row_word t m NEXT) row_is)) waiting.rest) some_there

    pub next_inside : next < NODES
    next_inside = argued.inside

    argued_few : suc K + suc (count argued.rest) ≤ PARAMETERS
    unfolding count
    argued_few = subst (λ (es : Exps). suc K + count es ≤ PARAMETERS) argued.is waiting.few

    pub next_small : M1 % TAGS + 1 < PARAMETERS
    next_small = omega (arith, number_is, argued_few)

    abbrev after : Then
    after x s =
        arguments q.fs (eval q.fs r.d) argued.rest r.env s λ ws s.
        waiting.done (waiting.vs ++ (meant v ∷ x ∷ ws)) s

    next_means : then (then (eval q.fs r.d argued.e r.env σ) after) r.κ ≡ q.whole
    unfolding arguments
    next_means =
        ap (λ (es : Exps). then (arguments q.fs (eval q.fs r.d) es r.env σ
        λ ws s. waiting.done (waiting.vs ++ (meant v ∷ ws)) s) r.κ) (sym argued.is) ∙ argument_means

    regroup : (x : M.Value) (s : M.State) → after x s
        ≡ arguments q.fs (eval q.fs r.d) argued.rest r.env s λ ws s.
        waiting.done ((waiting.vs ++ (meant v ∷ [])) ++ (x ∷ ws)) s
    regroup x s =
        arguments_same q r.d r.env argued.rest s _ _
        (λ ws s. ap (λ (us : List M.Value). waiting.done us s) (sym (append_assoc waiting.vs (meant v ∷ []) (x ∷ ws))))

    next_begins : Survives v → Begins q t (put_frame (put_slot w 0 (B + N + K) NAMELESS v) H row ARGUMENT B N (TAGS * next + (K + 1))) o
        (row_word t next EXPRESSION) (spot B (N + (K + 1)) (H + 1)) s
    unfolding Waits which helds
    next_begins back =
        let mark = TAGS * next + (K + 1) in
        let long = helds_length (suc K) r.L in
        part_enters r (passed back ARGUMENT mark) ARGUMENT mark (suc K) (λ x s. then (after x s) r.κ) (frame_is back ARGUMENT mark)
        (record {
          arg = next;
          k = suc K;
          vs = waiting.vs ++ (meant v ∷ []);
          es = argued.rest;
          done = waiting.done;
          by = waiting.by;
          marked = omega arith;
          inside = argued.inside;
          room = waiting.room;
          few = omega (arith, argued_few);
          used = refl;
          long = ap length (sym (values_are back ARGUMENT mark)) ∙ values_length (W back ARGUMENT mark) (B + N) (suc K);
          held = values_are back ARGUMENT mark;
          sees = held_all back ARGUMENT mark;
          rest = argued.args;
          goes = λ x s. ap (λ (m : M.Outcome). then m r.κ) (regroup x s);
        })
        B (N + (K + 1)) (omega arith) (omega arith) argued.at (held_all back ARGUMENT mark) (omega (arith, waiting.room, argued_few))
        (sym (then_then (eval q.fs r.d argued.e r.env σ) after r.κ) ∙ next_means)

    abbrev Passes : ℕ → ℕ → Type 0
    Passes n k =
        Begins q t (put_frame (put_slot w 0 (B + n + k) NAMELESS v) H row ARGUMENT B n (TAGS * next + (k + 1))) o (row_word t next EXPRESSION)
        (spot B (n + (k + 1)) (H + 1)) s

    -- it begins
    pub argument_passes : Survives v → Passes p.size (M1 % TAGS)
    argument_passes back =
        subst (λ (n : ℕ). Passes n (M1 % TAGS)) (sym r.sized) (subst (λ (k : ℕ). Passes N k) (sym number_is) (next_begins back))
