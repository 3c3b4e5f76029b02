-- A `for`: its first bound begins, and with the last one its step is looked at.
use mathlib.Core.Path.{◌≡◌, refl, sym, ap, subst, ◌∙◌}
use mathlib.Core.Bool.{Bool, true, false}
use mathlib.Core.List.{List, [], ◌∷◌, ◌++◌}
use Prim.Native.Nat.{ℕ, zero, suc, ◌+◌, ◌*◌, ◌/◌, ◌%◌, ◌≤◌, ◌<◌}
use native.Mathlib.Omega.{arith}
use lib.Dec.{eqb}
use lib.IntN.{ℤ}
use lib.ListN.{length}
use borrow.Author.Tests.{eqb-true}
use Rattle.language.specs.Sizes.{NODES, ACTIVE, PARAMETERS}
use Rattle.language.specs.Tokens.{UPTO, THROUGH}
use Rattle.language.specs.Trees.{Exp, counted, Exps}
use Rattle.language.specs.State as M
use Rattle.language.specs.State.{number, float, flag, nothing, cell, stop, zero_step, then, as_int, when_some, want, choose}
use Rattle.language.specs.Meaning.{is_zero, towards, with_bounds, arguments, step, eval}
use Rattle.language.proofs.Meaning.Turns.{for_from}
use Rattle.layout.specs.Table.{KIND, OWN, FIRST, EXPRESSION, NEXT, row_word}
use Rattle.layout.specs.Decode.{counts}
use Rattle.layout.specs.Slots.{TAGS, WAITING, value_at}
use Rattle.layout.specs.Frames.{frame_mark, put_frame}
use Rattle.layout.specs.Values.{meant}
use Rattle.layout.specs.declared.values.Value.{Value}
use Rattle.layout.proofs.Shapes.{unary_high, binary_between}
use Rattle.machine.specs.Operands.{OfInt}
use Rattle.machine.specs.Slots.{values_from}
use Rattle.machine.specs.Outcomes.{memory}
use Rattle.machine.specs.declared.state.Tally.{Tally}
use Rattle.numbers.specs.declared.Stop.{Stop}
use Rattle.runner.specs.Phases.{ARGUMENT}
use Rattle.runner.specs.Trees.{count, slack, At, at_name, at_literal, at_unary, at_binary, at_follow}
use Rattle.runner.specs.Trees.{at_group, at_block, at_call, at_bind, at_branch, at_loop, at_counted, Args}
use Rattle.runner.specs.Waiting.{Run, Then, bounded, ForAt, ForDoes, Does, by_for}
use Rattle.runner.specs.Standing.{Begins, Starts, Resumes, Good, over}
use Rattle.runner.specs.Loops.{Counting}
use Rattle.runner.specs.declared.state.Spot.{Spot}
use Rattle.runner.specs.Standing.{Ending}
use Rattle.runner.proofs.RowKinds.{literal_range}
use Rattle.runner.proofs.Entering.{fair_low, spot}
use Rattle.runner.proofs.Arguments.{for_does, none_left, first_inside, first_begins_at}
use Rattle.runner.proofs.Passing.{waiting, number_is, last_means}

-- ---- a `for` begins

counts_range : (k : ℕ) → counts k ≡ true → (UPTO ≤ k) × (k ≤ THROUGH)
unfolding counts
counts_range k e = by (eqb k UPTO) refl
  where
    by : (b : Bool) → eqb k UPTO ≡ b → (UPTO ≤ k) × (k ≤ THROUGH)
    by true d = let f = eqb-true k UPTO d in (omega arith, omega arith)
    by false d = let g : eqb k THROUGH ≡ true = rw d at e in let f = eqb-true k THROUGH g in (omega arith, omega arith)

-- no other row is of its kinds
other : {A : Type 0} {x a : ℕ} → x ≡ a → counts x ≡ true → ((UPTO ≤ a) × (a ≤ THROUGH) → ⊥) → A
other {a = a} e k n = absurd (n (counts_range a (ap counts (sym e) ∙ k)))

record Loop (q : Run) (t L : List ℕ) (node : ℕ) (e : Exp) : Type 0 where
  loop : ForAt q t node L
  es : Exps
  is : e ≡ counted loop.i loop.x loop.through es loop.e
  few : count es ≤ PARAMETERS
  args : Args q.ts t q.defs L (row_word t node FIRST) es

module _ (q : Run) {t L : List ℕ} where
  loop_at : {node : ℕ} {e : Exp} → At q.ts t q.defs L node e → counts (row_word t node KIND) ≡ true → Loop q t L node e
  loop_at (at_counted {i = i} {x = x} {b = b} {es = es} {e = e} h n f a m) k =
      record { loop = record { i = i; x = x; through = b; e = e; head = h; named = n; at = m }; es = es; is = refl; few = f; args = a }
  loop_at (at_name h x m) k = other h.kind_is k (λ z. omega arith)
  loop_at (at_literal {l = l} h x y) k = other h.kind_is k (λ z. omega (arith, literal_range l))
  loop_at (at_unary {o = o} h x) k = other h.kind_is k (λ z. omega (arith, unary_high o))
  loop_at (at_binary {o = o} h x y) k = other h.kind_is k (λ z. omega (arith, binary_between o))
  loop_at (at_follow h x y) k = other h.kind_is k (λ z. omega arith)
  loop_at (at_group h x) k = other h.kind_is k (λ z. omega arith)
  loop_at (at_block h x) k = other h.kind_is k (λ z. omega arith)
  loop_at (at_call h x y z m) k = other h.kind_is k (λ z. omega arith)
  loop_at (at_bind h x y z) k = other h.kind_is k (λ z. omega arith)
  loop_at (at_branch h x y z) k = other h.kind_is k (λ z. omega arith)
  loop_at (at_loop h x y) k = other h.kind_is k (λ z. omega arith)

module _ {q : Run} {t w o : List ℕ} {node : ℕ} {p : Spot} {s : Tally} (b : Starts q t w o node p s) (k : counts (row_word t node KIND) ≡ true) where
  looping : Loop q t b.L node b.e
  looping = loop_at q b.at k

  abbrev doing : List M.Value → M.State → M.Outcome
  doing = bounded q.fs b.d looping.loop.i looping.loop.x looping.loop.through looping.loop.e b.env

  does : Does q t b.d node b.L b.env doing
  does = by_for (record { loop = looping.loop; is = λ vs s. refl })

  loop_room : p.base + length b.L + WAITING * suc b.d ≤ WAITING * ACTIVE
  unfolding slack
  loop_room =
      let l = looping.loop in
      let r : p.base + length b.L + WAITING * suc b.d ≤ WAITING * ACTIVE + slack (counted l.i l.x l.through looping.es l.e) =
      subst (λ (e : Exp). p.base + length b.L + WAITING * suc b.d ≤ WAITING * ACTIVE + slack e) looping.is b.room in
      omega arith

  loop_means : then (arguments q.fs (eval q.fs b.d) looping.es b.env (memory w o s) doing) b.κ ≡ q.whole
  unfolding step
  loop_means = ap (λ (e : Exp). then (step q.fs (eval q.fs b.d) e b.env (memory w o s)) b.κ) (sym looping.is) ∙ b.means

  -- it has bounds, or it would be stuck
  some_bound : row_word t node FIRST ≡ 0 → ⊥
  unfolding arguments with_bounds then
  some_bound z =
      q.safe
      (sym (ap (λ (es : Exps). then (arguments q.fs (eval q.fs b.d) es b.env (memory w o s) doing) b.κ) (sym (none_left q looping.args z))
      ∙ loop_means))

  module _ (row : ℕ) (is : row ≡ row_word t node FIRST) where
    pub bound_inside : row < NODES
    bound_inside = first_inside b doing does looping.args looping.few loop_room loop_means row is (λ z. some_bound (sym is ∙ z))

    -- the first one begins
    pub start_bound : Begins q t (put_frame w p.height node ARGUMENT p.base p.size (TAGS * row + 0)) o (row_word t row EXPRESSION)
        (spot p.base (p.size + 0) (p.height + 1)) s
    start_bound = first_begins_at b doing does looping.args looping.few loop_room loop_means row is (λ z. some_bound (sym is ∙ z))

-- ---- values that are wanted to be ints, where the run is not stuck

-- the int, and what is done with it
record Int (q : Run) (κ : Then) (v : M.Value) (f : ℤ → M.Outcome) : Type 0 where
  x : ℤ
  is : v ≡ number x
  rest : then (f x) κ ≡ q.whole

module _ (q : Run) (κ : Then) where
  int_whole : (v : M.Value) (f : ℤ → M.Outcome) → then (want (as_int v) f) κ ≡ q.whole → Int q κ v f
  unfolding when_some then
  int_whole (number x) f e = record { x = x; is = refl; rest = e }
  int_whole (float x) f e = absurd (q.safe (sym e))
  int_whole (flag b) f e = absurd (q.safe (sym e))
  int_whole nothing f e = absurd (q.safe (sym e))
  int_whole (cell b) f e = absurd (q.safe (sym e))

-- start, end and step, and what is done with them
record Three (q : Run) (κ : Then) (from to : M.Value) (by : ℤ → ℤ → ℤ → Type 0) (f : ℤ → ℤ → ℤ → M.Outcome) : Type 0 where
  x : ℤ
  y : ℤ
  n : ℤ
  from_is : from ≡ number x
  to_is : to ≡ number y
  by_is : by x y n
  rest : then (f x y n) κ ≡ q.whole

module _ (q : Run) (κ : Then) (w : List ℕ) (a : ℕ) (v : M.Value) (f : ℤ → ℤ → ℤ → M.Outcome) where
  abbrev Known : ℕ → Type 0
  Known k = then (with_bounds (values_from w 0 a k ++ (v ∷ [])) f) κ ≡ q.whole

  two_bounds : Known 1 → Three q κ (value_at w 0 a) v (λ x y n. n ≡ towards x y) f
  unfolding with_bounds values_from
  two_bounds e =
      let i = int_whole q κ (value_at w 0 a) (λ x. want (as_int v) λ y. f x y (towards x y)) e in
      let j = int_whole q κ v (λ y. f i.x y (towards i.x y)) i.rest in
      record { x = i.x; y = j.x; n = towards i.x j.x; from_is = i.is; to_is = j.is; by_is = refl; rest = j.rest }

  three_bounds : (k : ℕ) → (k ≡ 1 → ⊥) → Known k → Three q κ (value_at w 0 a) (value_at w 0 (a + 1)) (λ x y n. v ≡ number n) f
  unfolding with_bounds values_from then
  three_bounds zero d e = absurd (q.safe (sym e))
  three_bounds (suc zero) d e = absurd (d refl)
  three_bounds (suc (suc zero)) d e =
      let i = int_whole q κ (value_at w 0 a) (λ x. want (as_int (value_at w 0 (a + 1))) λ y. want (as_int v) λ n. f x y n) e in
      let j = int_whole q κ (value_at w 0 (a + 1)) (λ y. want (as_int v) λ n. f i.x y n) i.rest in
      let l = int_whole q κ v (λ n. f i.x j.x n) j.rest in
      record { x = i.x; y = j.x; n = l.x; from_is = i.is; to_is = j.is; by_is = l.is; rest = l.rest }
  three_bounds (suc (suc (suc zero))) d e = absurd (q.safe (sym e))
  three_bounds (suc (suc (suc (suc k)))) d e = absurd (q.safe (sym e))

-- ---- the last bound has its value

module _ {q : Run} {t w o : List ℕ} {v : Value} {row : ℕ} {p : Spot} {s : Tally} (r : Resumes q t w o v row ARGUMENT p s)
    (end : row_word t (frame_mark w p.height / TAGS) NEXT ≡ 0) (k : counts (row_word t row KIND) ≡ true) where
  does_loop : ForDoes q t r.d row r.L r.env (waiting r refl).done
  does_loop = for_does (waiting r refl).by k

  abbrev loop : ForAt q t row r.L
  loop = does_loop.loop

  abbrev opens : ℤ → ℤ → ℤ → M.Outcome
  opens from to by =
      choose (is_zero by) (λ _. stop zero_step loop.i (memory w o s)) λ _.
      for_from q.fs r.d loop.x loop.through to by loop.e r.env from (memory w o s)

  bounds : Known q r.κ w (p.base + length r.L) (meant v) opens (frame_mark w p.height % TAGS)
  bounds =
      ap (λ (m : M.Outcome). then m r.κ) (sym (does_loop.is _ (memory w o s)))
      ∙ ap (λ (vs : List M.Value). then ((waiting r refl).done (vs ++ (meant v ∷ [])) (memory w o s)) r.κ)
      (ap (λ (n : ℕ). values_from w 0 (p.base + length r.L) n) (number_is r refl) ∙ (waiting r refl).held) ∙ last_means r refl end

  at_is : (i : ℕ) → p.base + p.size + i ≡ p.base + length r.L + i
  at_is i = ap (λ (n : ℕ). p.base + n + i) r.sized

  counting : {z to by : Value} (x y n : ℤ) → meant z ≡ number x → meant to ≡ number y → meant by ≡ number n → then (opens x y n) r.κ ≡ q.whole
      → Counting q t w o true row z to by p s
  counting x y n a b c e = record {
    v = v;
    phase = ARGUMENT;
    frame = r;
    loop = loop;
    n = x;
    end = y;
    step = n;
    counter_is = a;
    end_is = b;
    step_is = c;
    room = (waiting r refl).room;
    means = e;
  }

  -- without a step
  pub bounded_two : frame_mark w p.height % TAGS ≡ 1 → {from by : Value} → meant from ≡ value_at w 0 (p.base + p.size)
      → OfInt (meant from) (λ x. OfInt (meant v) (λ y. meant by ≡ number (towards x y))) → Counting q t w o true row from v by p s
  bounded_two one {from} {by} e h =
      let b = two_bounds q r.κ w (p.base + length r.L) (meant v) opens
      (subst (Known q r.κ w (p.base + length r.L) (meant v) opens) one bounds) in
      let f : meant from ≡ number b.x = e ∙ ap (λ (n : ℕ). value_at w 0 (p.base + n)) r.sized ∙ b.from_is in
      counting b.x b.y b.n f b.to_is
      ((h.is b.x (ap as_int f)).is b.y (ap as_int b.to_is) ∙ ap number (sym b.by_is)) b.rest

  -- with one
  pub bounded_three : (frame_mark w p.height % TAGS ≡ 1 → ⊥) → {from to : Value} → meant from ≡ value_at w 0 (p.base + p.size)
      → meant to ≡ value_at w 0 (p.base + p.size + 1) → Counting q t w o true row from to v p s
  bounded_three other {from} {to} e f =
      let b = three_bounds q r.κ w (p.base + length r.L) (meant v) opens _ other bounds in
      counting b.x b.y b.n (e ∙ ap (λ (n : ℕ). value_at w 0 (p.base + n)) r.sized ∙ b.from_is)
      (f ∙ ap (λ (j : ℕ). value_at w 0 j) (at_is 1) ∙ b.to_is) b.by_is b.rest

-- ---- the step is looked at

module _ {q : Run} {t w o : List ℕ} {node : ℕ} {z to by : Value} {p : Spot} {s : Tally} (c : Counting q t w o true node z to by p s) where
  pub open_zero : is_zero c.step ≡ true → (place : ℕ) → place ≡ row_word t node OWN → (v : Value)
      → Good q t w o (over (Ending.stopped Stop.ZeroStep place) v p s)
  unfolding choose then
  open_zero h place e v = record {
    fair = fair_low 0 (omega arith) c.frame.fair;
    tells = ap (λ (i : ℕ). stop zero_step i (memory w o s)) (e ∙ c.loop.head.own_is) ∙ (rw h at c.means);
  }

  pub open_turns : is_zero c.step ≡ false → Counting q t w o false node z to by p s
  unfolding choose
  open_turns h = record {
    v = c.v;
    phase = c.phase;
    frame = c.frame;
    loop = c.loop;
    n = c.n;
    end = c.end;
    step = c.step;
    counter_is = c.counter_is;
    end_is = c.end_is;
    step_is = c.step_is;
    room = c.room;
    means = rw h at c.means;
  }
