-- What the functions of `begin` and the first half of `calls` ask and promise, by the ways through them.
use mathlib.Core.Path.{◌≡◌, refl, sym, ap, subst, ◌∙◌}
use mathlib.Core.Bool.{Bool, true, false}
use mathlib.Core.List.{List}
use Rattle.std.specs.Prelude as P
use Prim.Native.Nat.{ℕ, ◌+◌, ◌*◌, ◌≤◌, ◌<◌}
use native.Mathlib.Omega.{arith}
use Rattle.language.specs.Sizes.{TOKENS, NODES, ACTIVE}
use Rattle.language.specs.Tokens.{NAME, NUMBER, LBRACE}
use Rattle.language.specs.Meaning.{literal_value}
use Rattle.layout.specs.Table.{KIND, OWN, FIRST, EXPRESSION, ARITY, row_word}
use Rattle.layout.specs.Rows.{PREFIX, CALL}
use Rattle.layout.specs.Decode.{counts}
use Rattle.layout.specs.Slots.{TAGS, SLOTS, value_at}
use Rattle.layout.specs.Notes.{noted}
use Rattle.layout.specs.Frames.{put_frame}
use Rattle.layout.specs.Values.{meant}
use Rattle.layout.specs.declared.values.Value.{Value}
use Rattle.machine.specs.Rows.{literal_of, LiteralRow}
use Rattle.machine.specs.declared.state.Tally.{Tally}
use Rattle.numbers.specs.declared.Stop.{Stop}
use Rattle.runner.specs.Phases.{UNARY, LEFT, ARGUMENT, waits, phase_of, operates}
use Rattle.runner.specs.Waiting.{Run}
use Rattle.runner.specs.Standing.{Begins, Starts, charged, above, begun, given, over, Some, Goes, Heads, callee, Callable, Enters}
use Rattle.runner.specs.declared.state.Spot.{Spot}
use Rattle.runner.specs.Standing.{Ending}
use Rattle.runner.specs.declared.state.Next.{Next}
use Rattle.runner.proofs.RowKinds.{Plain, number_waits, number_named, operator_plain, prefix_plain}
use Rattle.runner.proofs.Beginning.{begin_none, begin_deep, begin_starts, name_token, name_slot, start_name, literal_is, start_literal}
use Rattle.runner.proofs.Waiting.{start_waits}
use Rattle.runner.proofs.Calling.{call_heads, start_nobody, start_callable, start_fits, start_enters, argument_inside, start_pass}
use Rattle.runner.proofs.Counting.{bound_inside, start_bound}
use Rattle.runner.proofs.Promises.{goes_to}

abbrev Beginning : List ℕ → List ℕ → ℕ → Spot → Tally → Run → List ℕ → Type 0
Beginning t w node p s q o = Begins q t w o node p s

abbrev Started : List ℕ → List ℕ → ℕ → Spot → Tally → Run → List ℕ → Type 0
Started t w node p s q o = Starts q t w o node p s

module _ {t w : List ℕ} {node : ℕ} {p : Spot} {s : Tally} where
  -- ---- begin

  -- no unit is left
  pub begins_none : s.units ≡ 0 → {place : ℕ} → place ≡ row_word t node OWN → (v : Value) {r : Next}
      → r ≡ over (Ending.stopped Stop.NoUnit place) v p s → Goes (Beginning t w node p s) t w (3 * s.units + p.height + 1) r
  begins_none z {place} e v f = goes_to refl f (λ q o b. begin_none b z place e v) (omega arith)

  -- too many are active
  pub begins_deep : (s.units ≡ 0 → ⊥) → p.height ≡ ACTIVE + 1 → {place : ℕ} → place ≡ row_word t node OWN → (v : Value) {s1 : Tally}
      → s1 ≡ charged s → {r : Next} → r ≡ over (Ending.stopped Stop.TooDeep place) v p s1 → Goes (Beginning t w node p s) t w (3 * s.units + p.height + 1) r
  begins_deep n l {place} e v c f =
      goes_to refl (f ∙ ap (λ (x : Tally). over (Ending.stopped Stop.TooDeep place) v p x) c) (λ q o b. begin_deep b n l place e v) (omega arith)

  -- it has begun
  pub begins_starts : (s.units ≡ 0 → ⊥) → (p.height ≡ ACTIVE + 1 → ⊥) → {s1 : Tally} → s1 ≡ charged s → (q : Run) (o : List ℕ)
      → Beginning t w node p s q o
      → Starts q t w o node p s1
  begins_starts n l c q o b = subst (λ (x : Tally). Starts q t w o node p x) (sym c) (begin_starts b n l)

  -- ---- start

  module _ {kind : ℕ} (k : kind ≡ row_word t node KIND) where
    -- it waits for its first part
    pub starts_waits : (kind ≡ NAME → ⊥) → (kind ≡ CALL → ⊥) → {a : Bool} → a ≡ counts kind → a ≡ false → {b : Bool} → b ≡ waits kind
        → b ≡ true → {phase first mark : ℕ} → phase ≡ phase_of kind → first ≡ row_word t node FIRST → (kind ≡ LBRACE → mark ≡ s.cells)
        → (v : Value) {w1 : List ℕ} {r : Next} → w1 ≡ put_frame w p.height node phase p.base p.size mark
        → r ≡ begun first v (above p.base p.size p) s → Goes (Started t w node p s) t w1 (3 * s.units + p.height + 3) r
    starts_waits n c i j e f {mark = mark} g h live v x y =
        goes_to (x ∙ ap (λ (z : ℕ). put_frame w p.height node z p.base p.size mark) (g ∙ ap phase_of k))
        (y ∙ ap (λ (z : ℕ). begun z v (above p.base p.size p) s) h)
        (λ q o b. start_waits b (λ z. n (k ∙ z)) (λ z. c (k ∙ z)) (ap counts (sym k) ∙ sym i ∙ j) (ap waits (sym k) ∙ sym e ∙ f) mark (λ z. live (k ∙ z)))
        (omega arith)

    -- it is an operator, which waits for its first operand
    starts_operand : {phase : ℕ} → Plain kind phase → {first : ℕ} → first ≡ row_word t node FIRST → (v : Value) {w1 : List ℕ} {r : Next}
        → w1 ≡ put_frame w p.height node phase p.base p.size 0
        → r ≡ begun first v (above p.base p.size p) s → Goes (Started t w node p s) t w1 (3 * s.units + p.height + 3) r
    starts_operand x h v y z =
        starts_waits x.no_name x.no_call (sym x.no_for) refl (sym x.waits_for) refl x.phase_is h (λ w. absurd (x.no_block w)) v y z

    pub starts_operator : {b : Bool} → b ≡ operates kind → b ≡ true → {first : ℕ} → first ≡ row_word t node FIRST → (v : Value) {w1 : List ℕ}
        {r : Next} → w1 ≡ put_frame w p.height node LEFT p.base p.size 0
        → r ≡ begun first v (above p.base p.size p) s → Goes (Started t w node p s) t w1 (3 * s.units + p.height + 3) r
    starts_operator e f h v y z = starts_operand (operator_plain kind (sym e ∙ f)) h v y z

    pub starts_prefix : PREFIX ≤ kind → {first : ℕ} → first ≡ row_word t node FIRST → (v : Value) {w1 : List ℕ} {r : Next}
        → w1 ≡ put_frame w p.height node UNARY p.base p.size 0
        → r ≡ begun first v (above p.base p.size p) s → Goes (Started t w node p s) t w1 (3 * s.units + p.height + 3) r
    starts_prefix l h v y z = starts_operand (prefix_plain kind l) h v y z

    -- it is a `for`, whose first bound begins
    module _ {a : Bool} (i : a ≡ counts kind) (j : a ≡ true) {row : ℕ} (e : row ≡ row_word t node FIRST) where
      pub starts_inside : Some (Started t w node p s) → row < NODES
      starts_inside x = bound_inside x.holds (ap counts (sym k) ∙ sym i ∙ j) row e

      pub starts_bound : {v : Value} {w1 : List ℕ} {r : Next} → w1 ≡ put_frame w p.height node ARGUMENT p.base p.size (TAGS * row + 0)
          → r ≡ begun (row_word t row EXPRESSION) v (above p.base (p.size + 0) p) s
          → Goes (Started t w node p s) t w1 (3 * s.units + p.height + 3) r
      starts_bound x y = goes_to x y (λ q o b. start_bound b (ap counts (sym k) ∙ sym i ∙ j) row e) (omega arith)

    -- it is a literal
    pub starts_literal : (kind ≡ NAME → ⊥) → {b : Bool} → b ≡ waits kind → b ≡ false → Some (Started t w node p s) → LiteralRow t node
    starts_literal n e f x = literal_is x.holds (λ z. n (k ∙ z)) (ap waits (sym k) ∙ sym e ∙ f)

    pub starts_leaf : (kind ≡ NAME → ⊥) → {b : Bool} → b ≡ waits kind → b ≡ false → {v : Value} → meant v ≡ literal_value (literal_of t node)
        → {r : Next} → r ≡ given v p s → Goes (Started t w node p s) t w (3 * s.units + p.height + 3) r
    starts_leaf n e f {v} g h =
        goes_to refl h (λ q o b. start_literal b (λ z. n (k ∙ z)) (ap waits (sym k) ∙ sym e ∙ f) v g) (omega arith)

    -- it is a number
    module _ (e : kind ≡ NUMBER) where
      pub starts_number : Some (Started t w node p s) → LiteralRow t node
      starts_number x = starts_literal (number_named kind e) refl (ap waits e ∙ number_waits) x

      pub starts_amount : {v : Value} → meant v ≡ literal_value (literal_of t node) → {r : Next} → r ≡ given v p s
          → Goes (Started t w node p s) t w (3 * s.units + p.height + 3) r
      starts_amount g h = starts_leaf (number_named kind e) refl (ap waits e ∙ number_waits) g h

  -- ---- call

  module _ (k : row_word t node KIND ≡ CALL) where
    pub calls_heads : Some (Started t w node p s) → Heads t node
    calls_heads x = call_heads x.holds k

    module _ {row : ℕ} (f : row ≡ row_word t node FIRST) where
      module _ (e : row ≡ 0) where
        module _ {head : ℕ} (who : P.Some head ≡ callee t node) where
          pub calls_callable : Some (Started t w node p s) → Callable t head
          calls_callable x = start_callable x.holds k (sym f ∙ e) who

          pub calls_fits : Some (Started t w node p s) → p.base + p.size + row_word t head ARITY ≤ SLOTS
          calls_fits x = start_fits x.holds k (sym f ∙ e) who

          -- the body begins
          pub calls_enters : {w1 : List ℕ} {v : Value} {r : Next} → Enters t w w1 node head v p s r
              → Goes (Started t w node p s) t w1 (3 * s.units + p.height + 3) r
          calls_enters x = goes_to x.laid x.is (λ q o b. start_enters b k (sym f ∙ e) who) (omega arith)

        pub calls_nobody : P.None ≡ callee t node → {v : Value} {r : Next} → r ≡ given v p s
            → Goes (Started t w node p s) t w (3 * s.units + p.height + 3) r
        calls_nobody who h = goes_to refl h (λ q o b. start_nobody b k (sym f ∙ e) who) (omega arith)

      module _ (n : row ≡ 0 → ⊥) where
        pub calls_inside : Some (Started t w node p s) → row < NODES
        calls_inside x = argument_inside x.holds k row f n

        -- the first argument begins
        pub calls_passes : {v : Value} {w1 : List ℕ} {r : Next}
            → w1 ≡ put_frame w p.height node ARGUMENT p.base p.size (TAGS * row + 0)
            → r ≡ begun (row_word t row EXPRESSION) v (above p.base (p.size + 0) p) s
            → Goes (Started t w node p s) t w1 (3 * s.units + p.height + 3) r
        calls_passes x y = goes_to x y (λ q o b. start_pass b k row f n) (omega arith)

-- ---- look

module _ {t w : List ℕ} {node : ℕ} {p : Spot} {s : Tally} (k : row_word t node KIND ≡ NAME) where
  pub looks_token : Some (λ q o. Starts q t w o node p s) → row_word t node OWN < TOKENS
  looks_token x = name_token x.holds k

  module _ {own slot : ℕ} (e : own ≡ row_word t node OWN) (f : slot ≡ noted t own) where
    pub looks_slot : Some (λ q o. Starts q t w o node p s) → p.base + slot < SLOTS
    looks_slot x = omega (arith, f ∙ ap (λ (n : ℕ). noted t n) e, name_slot x.holds k)

    pub looks : {v : Value} → meant v ≡ value_at w 0 (p.base + slot) → {r : Next} → r ≡ given v p s
        → Goes (λ q o. Starts q t w o node p s) t w (3 * s.units + p.height + 3) r
    looks {v} g h =
        let z = f ∙ ap (λ (n : ℕ). noted t n) e in
        goes_to refl h (λ q o b. start_name b k v (g ∙ ap (λ (n : ℕ). value_at w 0 (p.base + n)) z)) (omega arith)
