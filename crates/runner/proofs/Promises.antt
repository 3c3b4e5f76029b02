-- The laws of the steps in the form in which the functions promise them, and what the functions ask of one another.
use Rattle.std.specs.Prelude as P
use mathlib.Core.Path.{◌≡◌, sym, ap, subst, ◌∙◌}
use mathlib.Core.Bool.{Bool, true, false}
use mathlib.Core.List.{List}
use Prim.Native.Nat.{ℕ, ◌+◌, ◌*◌, ◌≤◌, ◌<◌}
use native.Mathlib.Omega.{arith}
use lib.Dec.{eqb}
use lib.ListN.{length}
use borrow.Author.Tests.{eqb-true, eqb-false}
use Rattle.language.specs.Sizes.{NODES, ALLOWANCE, TABLE, WORK}
use Rattle.layout.specs.Slots.{SLOTS}
use Rattle.layout.specs.Table.{ARITY, BODY, row_word}
use Rattle.layout.specs.Frames.{SIZES, FRAMES, put_frame}
use Rattle.layout.specs.declared.values.Value.{Value}
use Rattle.language.specs.State as M
use Rattle.layout.specs.Values.{meant}
use Rattle.machine.specs.Outcomes.{Room, born, after_birth, Created, byte_more, after_byte, Printed}
use Rattle.machine.specs.Outcomes.{Outcome}
use Rattle.numbers.specs.declared.Stop.{Stop}
use Rattle.machine.specs.declared.state.Tally.{Tally}
use Rattle.runner.specs.Phases.{LAST}
use Rattle.runner.specs.Waiting.{Run}
use Rattle.runner.specs.Standing.{Begins, Starts, Resumes, Good, charged, above, begun, given, over, Enters}
use Rattle.runner.specs.Standing.{onward, weight, Some, Goes, Any, Prints, Printing, Creating}
use Rattle.runner.specs.Standing.{Ending}
use Rattle.runner.specs.declared.state.Spot.{Spot}
use Rattle.runner.specs.declared.state.Next.{Next}
use Rattle.runner.proofs.Beginning.{inside_at, slack_one}

-- ---- answers

-- the answer r is n, and the memory w1 is w2
pub goes_to : {Before : Run → List ℕ → Type 0} {t w1 w2 : List ℕ} {m : ℕ} {r n : Next} → w1 ≡ w2 → r ≡ n
    → ((q : Run) (o : List ℕ) → Before q o → Good q t w2 o n) → weight n < m → Goes Before t w1 m r
goes_to {t = t} {w1} {w2} {m} {r} {n} e f g l = record {
  right = λ q o b. subst (λ (x : List ℕ). Good q t x o r) (sym e) (subst (λ (x : Next). Good q t w2 o x) (sym f) (g q o b));
  less = subst (λ (x : Next). weight x < m) (sym f) l;
}

-- what another promises is enough
pub goes_from : {A B : Run → List ℕ → Type 0} {t w1 : List ℕ} {m k : ℕ} {r : Next} → ((q : Run) (o : List ℕ) → A q o → B q o) → k ≤ m
    → Goes B t w1 k r → Goes A t w1 m r
goes_from f l g = record { right = λ q o a. g.right q o (f q o a); less = omega (arith, g.less) }

pub some_from : {A B : Run → List ℕ → Type 0} → ((q : Run) (o : List ℕ) → A q o → B q o) → Some A → Some B
some_from f s = record { q = s.q; o = s.o; holds = f s.q s.o s.holds }

-- the same where the output may change
pub prints_to : {Before : Run → Type 0} {t w1 w2 o1 : List ℕ} {m : ℕ} {r n : Next} → w1 ≡ w2 → r ≡ n
    → ((q : Run) → Before q → Good q t w2 o1 n) → weight n < m → Prints Before t w1 o1 m r
prints_to {t = t} {w1} {w2} {o1} {m} {r} {n} e f g l = record {
  right = λ q b. subst (λ (x : List ℕ). Good q t x o1 r) (sym e) (subst (λ (x : Next). Good q t w2 o1 x) (sym f) (g q b));
  less = subst (λ (x : Next). weight x < m) (sym f) l;
}

pub prints_from : {A B : Run → Type 0} {t w1 o1 : List ℕ} {m k : ℕ} {r : Next} → ((q : Run) → A q → B q) → k ≤ m
    → Prints B t w1 o1 k r → Prints A t w1 o1 m r
prints_from f l g = record { right = λ q a. g.right q (f q a); less = omega (arith, g.less) }

pub prints_still : {A : Run → Type 0} {B : Run → List ℕ → Type 0} {t w1 : List ℕ} (o : List ℕ) {m k : ℕ} {r : Next}
    → ((q : Run) → A q → B q o) → k ≤ m → Goes B t w1 k r → Prints A t w1 o m r
prints_still o f l g = record { right = λ q a. g.right q o (f q a); less = omega (arith, g.less) }

pub any_from : {A B : Run → Type 0} → ((q : Run) → A q → B q) → Any A → Any B
any_from f s = record { q = s.q; holds = f s.q s.holds }

pub some_of : {A : Run → Type 0} {B : Run → List ℕ → Type 0} (o : List ℕ) → ((q : Run) → A q → B q o) → Any A → Some B
some_of o f s = record { q = s.q; o = o; holds = f s.q s.holds }

-- ---- units

pub units_none : {u : ℕ} {b : Bool} → b ≡ eqb u 0 → b ≡ true → u ≡ 0
units_none {u} e f = eqb-true u 0 (sym e ∙ f)

pub units_some : {u : ℕ} {b : Bool} → b ≡ eqb u 0 → b ≡ false → u ≡ 0 → ⊥
units_some {u} e f = eqb-false u 0 (sym e ∙ f)

pub units_one : (u : ℕ) → (u ≡ 0 → ⊥) → 1 ≤ u
units_one u n = omega arith

-- a node that has begun is nearer to the end
pub charged_less : (h : ℕ) (s s1 : Tally) → (s.units ≡ 0 → ⊥) → s1 ≡ charged s → 3 * s1.units + h + 3 ≤ 3 * s.units + h + 1
charged_less h s s1 n e = omega (arith, ap (λ (x : Tally). x.units) e)

-- ---- what a node's row and its frame ask

module _ {t w : List ℕ} {node : ℕ} {p : Spot} {s : Tally} where
  pub begins_row : Some (λ q o. Begins q t w o node p s) → (TABLE ≤ length t) × (node < NODES)
  begins_row x = (x.holds.scene.long, inside_at x.holds.at)

  pub starts_row : Some (λ q o. Starts q t w o node p s) → (TABLE ≤ length t) × (node < NODES)
  starts_row x = (x.holds.scene.long, inside_at x.holds.at)

  pub starts_room : Some (λ q o. Starts q t w o node p s) → p.base + p.size ≤ SLOTS
  starts_room x = omega (arith, x.holds.room, x.holds.sized, slack_one x.holds.e)

  pub starts_frame : Some (λ q o. Starts q t w o node p s)
      → (WORK ≤ length w) × (p.height < FRAMES) × (node < NODES) × (p.base ≤ WORK) × (p.size < SIZES) × (s.cells ≤ WORK)
  starts_frame x = (
    x.holds.fair.room.long,
    omega (arith, x.holds.deep),
    inside_at x.holds.at,
    omega (arith, starts_room x),
    omega (arith, starts_room x),
    omega (arith, x.holds.fair.room.few),
  )

module _ {t w : List ℕ} {v : Value} {row phase : ℕ} {p : Spot} {s : Tally} where
  pub resumes_table : Some (λ q o. Resumes q t w o v row phase p s) → TABLE ≤ length t
  resumes_table x = x.holds.scene.long

  pub resumes_frame : Some (λ q o. Resumes q t w o v row phase p s) → (WORK ≤ length w) × (p.height < FRAMES)
  resumes_frame x = (x.holds.fair.room.long, omega (arith, x.holds.deep))

  pub resumes_room : Some (λ q o. Resumes q t w o v row phase p s) → Room w s × (s.births ≤ ALLOWANCE)
  resumes_room x = (x.holds.fair.room, omega (arith, x.holds.fair.paid))

  -- in the phase that it is in
  pub phase_at : (k : ℕ) → phase ≡ k → (q : Run) (o : List ℕ) → Resumes q t w o v row phase p s → Resumes q t w o v row k p s
  phase_at k e q o r = subst (λ (j : ℕ). Resumes q t w o v row j p s) e r

-- ---- a function is entered

pub entered_at : {t w w1 : List ℕ} {node row : ℕ} {v : Value} {p : Spot} {s : Tally} {r : Next} {count body : ℕ}
    → w1 ≡ put_frame w p.height node LAST p.base p.size 0 → count ≡ row_word t row ARITY → body ≡ row_word t row BODY
    → r ≡ begun body v (above (p.base + p.size) count p) s → Enters t w w1 node row v p s r
entered_at {t} {row = row} {v} {p} {s} {count = count} e f g h = record {
  laid = e;
  is = h ∙ ap (λ (n : ℕ). begun n v (above (p.base + p.size) count p) s) g
      ∙ ap (λ (n : ℕ). begun (row_word t row BODY) v (above (p.base + p.size) n p) s) f;
}

-- ---- a byte is printed or a cell made

pub printed_room : {v : M.Value} {o o1 : List ℕ} {s : Tally} {r : Outcome} {x : Value} → Printed v o o1 s r → r ≡ P.Ok x → s.printed < length o1
printed_room {s = s} p e = omega (arith, p.fits, p.wide, ap (λ (y : Outcome). (after_byte y s).printed) e)

module _ {i : ℕ} {v : Value} {o o1 : List ℕ} {p : Spot} {s : Tally} {r : Outcome} (x : Printed (meant v) o o1 s r) where
  pub printing_gives : {y : Value} → r ≡ P.Ok y → {t : Tally} → t ≡ byte_more s → {n : Next} → n ≡ given y p t → Printing i v o o1 p s n
  printing_gives {y} e f g = record {
    outcome = r;
    printed = x;
    is = g ∙ ap (λ (z : Tally). given y p z) f ∙ ap (λ (z : Outcome). onward z i v p (after_byte z s)) (sym e);
  }

  pub printing_halts : {y : Stop} → r ≡ P.Err y → {place : ℕ} → place ≡ i → {n : Next} → n ≡ over (Ending.stopped y place) v p s
      → Printing i v o o1 p s n
  printing_halts {y} e f g = record {
    outcome = r;
    printed = x;
    is = g ∙ ap (λ (z : ℕ). over (Ending.stopped y z) v p s) f ∙ ap (λ (z : Outcome). onward z i v p (after_byte z s)) (sym e);
  }

module _ {i : ℕ} {v : Value} {w w1 : List ℕ} {p : Spot} {s : Tally} {r : Outcome} (x : Created (meant v) w w1 s r) where
  pub creating_gives : {y : Value} → r ≡ P.Ok y → {t : Tally} → t ≡ born s → {n : Next} → n ≡ given y p t → Creating i v w w1 p s n
  creating_gives {y} e f g = record {
    outcome = r;
    created = x;
    is = g ∙ ap (λ (z : Tally). given y p z) f ∙ ap (λ (z : Outcome). onward z i v p (after_birth z s)) (sym e);
  }

  pub creating_halts : {y : Stop} → r ≡ P.Err y → {n : Next} → n ≡ over (Ending.stopped y i) v p s → Creating i v w w1 p s n
  creating_halts {y} e g = record {
    outcome = r;
    created = x;
    is = g ∙ ap (λ (z : Outcome). onward z i v p (after_birth z s)) (sym e);
  }
