-- A value goes to an operator's frame, a Block's, or one whose part was the last.
use Rattle.std.specs.Prelude as P
use mathlib.Core.Path.{◌≡◌, refl, sym, ap, subst, ◌∙◌}
use mathlib.Core.Bool.{true, false}
use mathlib.Core.List.{List}
use Prim.Native.Nat.{ℕ, suc, ◌+◌, ◌≤◌, ◌<◌}
use native.Mathlib.Omega.{arith}
use lib.ListN.{length}
use Rattle.language.specs.Sizes.{NODES}
use Rattle.language.specs.Trees.{Unary, minus, fetch, new, Binary}
use Rattle.language.specs.State as M
use Rattle.language.specs.State.{value, then, choose, with_cells}
use Rattle.language.specs.Meaning.{apply_unary, apply_binary, settles, eval}
use Rattle.layout.specs.Table.{KIND, OWN, SECOND, row_word}
use Rattle.layout.specs.Rows.{PREFIX, unary_kind, binary_kind}
use Rattle.language.specs.Tokens.{REF}
use Rattle.layout.specs.Slots.{SLOTS, value_at, put_slot}
use Rattle.layout.specs.Frames.{CELLS_AT, frame_mark, put_phase}
use Rattle.layout.specs.Values.{meant, Survives}
use Rattle.layout.specs.declared.values.Value.{Value}
use Rattle.machine.specs.Rows.{unary_of, binary_of}
use Rattle.machine.specs.Outcomes.{memory, Answered, Applied, after_birth}
use Rattle.machine.specs.declared.state.Tally.{Tally}
use Rattle.machine.specs.Outcomes.{Outcome}
use Rattle.machine.proofs.Slotted.{keep_slots}
use Rattle.runner.specs.Phases.{LAST, UNARY, LEFT, RIGHT, INSIDE, NAMELESS}
use Rattle.runner.specs.Waiting.{Run, Then, binds_held, which, WaitsLast, WaitsUnary, WaitsLeft, WaitsRight, WaitsInside, Waits}
use Rattle.runner.specs.Standing.{Fair, Begins, Gives, Resumes, Good, onward, Creating}
use Rattle.runner.specs.declared.state.Spot.{Spot}
use Rattle.runner.specs.declared.state.Next.{Next}
use Rattle.runner.proofs.Stacks.{then_then, stack_raise}
use Rattle.runner.proofs.Entering.{fair_low, spot, told_whole, onward_good, fair_stepped, stepped_good}
use Rattle.runner.proofs.Giving.{waits_at, below, back, sees, holding, holding_value, holds}

-- ---- operators by the kinds of their rows

pub unary_back : (o : Unary) → unary_of (unary_kind o) ≡ o
unfolding unary_of unary_kind
unary_back minus = refl
unary_back Unary.not = refl
unary_back fetch = refl
unary_back new = refl

pub binary_back : (o : Binary) → binary_of (binary_kind o) ≡ o
unfolding binary_of binary_kind
binary_back Binary.add = refl
binary_back Binary.sub = refl
binary_back Binary.mul = refl
binary_back Binary.div = refl
binary_back Binary.less = refl
binary_back Binary.equal = refl
binary_back Binary.and = refl
binary_back Binary.or = refl
binary_back Binary.assign = refl

pub new_kind : (o : Unary) → unary_kind o ≡ PREFIX + REF → o ≡ new
unfolding unary_kind
new_kind minus e = absurd (omega arith)
new_kind Unary.not e = absurd (omega arith)
new_kind fetch e = absurd (omega arith)
new_kind new e = refl

not_new : (o : Unary) → (unary_kind o ≡ PREFIX + REF → ⊥) → o ≡ new → ⊥
unfolding unary_kind
not_new o h e = h (ap unary_kind e)

-- a birth adds one
after_small : (x : Outcome) (s : Tally) → ((after_birth x s).births ≤ s.births + 1) × ((after_birth x s).units ≡ s.units) ×
    ((after_birth x s).printed ≡ s.printed)
after_small (P.Ok v) s = (omega arith, refl, refl)
after_small (P.Err y) s = (omega arith, refl, refl)

module _ {q : Run} {t w o : List ℕ} {v : Value} {row phase : ℕ} {p : Spot} {s : Tally} (r : Resumes q t w o v row phase p s) where
  abbrev σ : M.State
  σ = memory w o s

  -- the last part's value is the node's
  pub resume_last : phase ≡ LAST → Gives q t w o v p s
  unfolding Waits which
  resume_last e =
      let x : WaitsLast q t w r.d row p.base r.mark r.n r.b r.L r.env r.κ r.κ' r.u = waits_at r LAST e in
      back r x.deep v (sym (x.goes (meant v) σ) ∙ r.means)

  -- ---- Blocks

  module _ (e : phase ≡ INSIDE) (live : ℕ) (f : live ≡ frame_mark w p.height) where
    inside : WaitsInside q t w r.d row p.base r.mark r.n r.b r.L r.env r.κ r.κ' r.u
    unfolding Waits which
    inside = waits_at r INSIDE e

    live_is : live ≡ r.n
    live_is = f ∙ r.there.mark_is ∙ inside.live

    abbrev cut : ℕ → Tally
    cut c = record { units = s.units; births = s.births; cells = c; printed = s.printed }

    cut_fair : Fair q w o (cut r.n) p.height
    cut_fair = record {
      room = record {
        long = r.fair.room.long;
        few = omega (arith, r.later.few, r.fair.room.few);
        low = λ i l. r.fair.room.low i (omega (arith, r.later.few));
        rising = λ i j l m. r.fair.room.rising i j l (omega (arith, r.later.few));
      };
      paid = omega (arith, r.fair.paid);
      printed = r.fair.printed;
      long = r.fair.long;
      beyond = r.fair.beyond;
      wide = r.fair.wide;
      rest = r.fair.rest;
    }

    cut_means : r.κ (meant v) (memory w o (cut r.n)) ≡ q.whole
    cut_means =
        let k = keep_slots w CELLS_AT r.b r.n s.cells r.later.few inside.low r.later.later in
        ap (λ (cs : M.Cells). r.κ (meant v) (with_cells cs σ)) (sym k) ∙ sym (inside.goes (meant v) σ) ∙ r.means

    cut_gives : Gives q t w o v p (cut r.n)
    cut_gives = record {
      scene = r.scene;
      fair = cut_fair;
      d = suc r.d;
      a = p.base + length r.L;
      κ = r.κ;
      deep = r.deep;
      high = omega (arith, r.deep, inside.deep);
      stack = stack_raise (p.base + length r.L) r.n s.births (omega arith) (omega arith) r.later.older (λ i x y. absurd (omega arith)) r.stack;
      means = cut_means;
    }

    -- the cells born in a Block are freed
    pub resume_inside : Gives q t w o v p (cut live)
    resume_inside = subst (λ (c : ℕ). Gives q t w o v p (cut c)) (sym live_is) cut_gives

  -- ---- one operand

  module _ (e : phase ≡ UNARY) where
    unary : WaitsUnary q t w r.d row p.base r.mark r.n r.b r.L r.env r.κ r.κ' r.u
    unfolding Waits which
    unary = waits_at r UNARY e

    pub unary_inside : row < NODES
    unary_inside = unary.head.inside

    unary_means : then (apply_unary unary.i unary.o (meant v) σ) r.κ ≡ q.whole
    unary_means = sym (unary.goes (meant v) σ) ∙ r.means

    pub unary_other : (op : ℕ) → op ≡ row_word t row KIND → (op ≡ PREFIX + REF → ⊥) → unary_of op ≡ new → ⊥
    unary_other op f n g =
        let k : op ≡ unary_kind unary.o = f ∙ unary.head.kind_is in
        not_new unary.o (λ z. n (k ∙ z)) (sym (unary_back unary.o) ∙ ap unary_of (sym k) ∙ g)

    -- it is applied, and work memory stays
    pub resume_unary : (op place : ℕ) → op ≡ row_word t row KIND → place ≡ row_word t row OWN → (x : Outcome)
        → Answered (λ i σ. apply_unary i (unary_of op) (meant v) σ) w s x → Good q t w o (onward x place v p s)
    resume_unary op place f g x h =
        let a : apply_unary place (unary_of op) (meant v) σ ≡ apply_unary unary.i unary.o (meant v) σ =
        ap (λ (k : ℕ). apply_unary k (unary_of op) (meant v) σ) (g ∙ unary.head.own_is)
        ∙ ap (λ (u : Unary). apply_unary unary.i u (meant v) σ) (ap unary_of (f ∙ unary.head.kind_is) ∙ unary_back unary.o) in
        onward_good (suc r.d) (p.base + length r.L) p x place v r.scene (fair_low p.height (omega arith) r.fair) r.deep
        (omega (arith, r.deep, unary.room)) (below r)
        (told_whole q r.κ (h place o) (ap (λ (m : M.Outcome). then m r.κ) a ∙ unary_means))

    unary_room : p.base + length r.L ≤ SLOTS
    unary_room = omega (arith, unary.room)

    -- a cell is born
    pub resume_create : (op place : ℕ) → op ≡ row_word t row KIND → op ≡ PREFIX + REF → place ≡ row_word t row OWN → {w1 : List ℕ} {z : Next}
        → Creating place v w w1 p s z → Good q t w1 o z
    resume_create op place f g h {w1} {z} c =
        let new_is : unary.o ≡ new = new_kind unary.o (sym (f ∙ unary.head.kind_is) ∙ g) in
        let a : apply_unary place new (meant v) σ ≡ apply_unary unary.i unary.o (meant v) σ =
        ap (λ (k : ℕ). apply_unary k new (meant v) σ) (h ∙ unary.head.own_is) ∙ ap (λ (u : Unary). apply_unary unary.i u (meant v) σ) (sym new_is) in
        let b = after_small c.outcome s in
        subst (λ (x : Next). Good q t w1 o x) (sym c.is)
        (stepped_good (suc r.d) (p.base + length r.L) p c.outcome place v r.scene
        (fair_stepped r.fair c.created.kept c.created.room b.0 b.1 b.2) r.deep
        (omega (arith, r.deep, unary.room)) unary_room (below r) c.created.kept
        (told_whole q r.κ (c.created.right place o) (ap (λ (m : M.Outcome). then m r.κ) a ∙ unary_means)))

  -- ---- two operands

  module _ (e : phase ≡ RIGHT) where
    right : WaitsRight q t w r.d row p.base r.mark r.n r.b r.L r.env r.κ r.κ' r.u
    unfolding Waits which
    right = waits_at r RIGHT e

    pub right_inside : row < NODES
    right_inside = right.head.inside

    pub right_slot : p.base + p.size < SLOTS
    right_slot = omega (arith, r.sized, right.room)

    -- the left side was held
    pub resume_right : (op place at : ℕ) → op ≡ row_word t row KIND → place ≡ row_word t row OWN → at ≡ p.base + p.size
        → (a : Value) → meant a ≡ value_at w 0 at → {w1 : List ℕ} (x : Outcome)
        → Applied (λ i σ. apply_binary i (binary_of op) (meant a) (meant v) σ) w w1 s x → Good q t w1 o (onward x place v p s)
    resume_right op place at f g h a k {w1} x c =
        let left_is : meant a ≡ right.left = k ∙ ap (λ (j : ℕ). value_at w 0 j) (h ∙ ap (λ (j : ℕ). p.base + j) r.sized) ∙ right.held in
        let same : apply_binary place (binary_of op) (meant a) (meant v) σ ≡ apply_binary right.i right.o right.left (meant v) σ =
        ap (λ (j : ℕ). apply_binary j (binary_of op) (meant a) (meant v) σ) (g ∙ right.head.own_is)
        ∙ ap (λ (u : Binary). apply_binary right.i u (meant a) (meant v) σ) (ap binary_of (f ∙ right.head.kind_is) ∙ binary_back right.o)
        ∙ ap (λ (u : M.Value). apply_binary right.i right.o u (meant v) σ) left_is in
        stepped_good (suc r.d) (p.base + length r.L) p x place v r.scene
        (fair_stepped r.fair c.kept c.room (omega arith) refl refl) r.deep
        (omega (arith, r.deep, right.room)) (omega (arith, right.room)) (below r) c.kept
        (told_whole q r.κ (c.right place o)
        (ap (λ (m : M.Outcome). then m r.κ) same ∙ sym (right.goes (meant v) σ) ∙ r.means))

  module _ (e : phase ≡ LEFT) where
    left : WaitsLeft q t w r.d row p.base r.mark r.n r.b r.L r.env r.κ r.κ' r.u
    unfolding Waits which
    left = waits_at r LEFT e

    pub left_inside : row < NODES
    left_inside = left.head.inside

    pub left_slot : p.base + p.size < SLOTS
    left_slot = omega (arith, r.sized, left.room)

    settled_is : (op : ℕ) → op ≡ row_word t row KIND → settles (binary_of op) (meant v) ≡ settles left.o (meant v)
    settled_is op f = ap (λ (u : Binary). settles u (meant v)) (ap binary_of (f ∙ left.head.kind_is) ∙ binary_back left.o)

    left_means : then (choose (settles left.o (meant v)) (λ _. value (meant v) σ) λ _. then (eval q.fs r.d left.f r.env σ)
        λ x s. apply_binary left.i left.o (meant v) x s) r.κ ≡ q.whole
    left_means = sym (left.goes (meant v) σ) ∙ r.means

    -- the left side settles it
    pub resume_settled : (op : ℕ) → op ≡ row_word t row KIND → settles (binary_of op) (meant v) ≡ true → Gives q t w o v p s
    unfolding choose then
    resume_settled op f k =
        let z : settles left.o (meant v) ≡ true = sym (settled_is op f) ∙ k in
        back r (omega (arith, left.room)) v (rw z at left_means)

    -- it is held, and the right side begins
    pub resume_held : (op : ℕ) → op ≡ row_word t row KIND → settles (binary_of op) (meant v) ≡ false → Survives v
        → Begins q t (put_phase (put_slot w 0 (p.base + p.size) NAMELESS v) p.height RIGHT) o (row_word t row SECOND)
        (spot p.base (p.size + 1) (p.height + 1)) s
    unfolding choose Waits which
    resume_held op f k back1 =
        let z : settles left.o (meant v) ≡ false = sym (settled_is op f) ∙ k in
        let j : Then = λ x s. apply_binary left.i left.o (meant v) x s in
        holds r left.room RIGHT 1 (λ x s. then (j x s) r.κ)
        (record {
          i = left.i;
          o = left.o;
          left = meant v;
          head = left.head;
          room = left.room;
          used = refl;
          held = holding_value r left.room RIGHT back1;
          goes = λ x s. refl;
        })
        (omega arith) (omega arith) left.at
        (binds_held (sees r (holding r left.room RIGHT)))
        (sym (then_then (eval q.fs r.d left.f r.env σ) j r.κ) ∙ (rw z at left_means))
