-- What the functions of arguments that have their values ask and promise, by the ways through them.
use Rattle.std.specs.Prelude as P
use mathlib.Core.Path.{◌≡◌, refl, sym, ap, subst, ◌∙◌}
use mathlib.Core.Bool.{Bool, false}
use mathlib.Core.List.{List}
use Rattle.std.specs.Prelude.{None, Some}
use Prim.Native.Nat.{ℕ, ◌+◌, ◌*◌, ◌/◌, ◌%◌, ◌≤◌, ◌<◌}
use native.Mathlib.Omega.{arith}
use lib.ListN.{length}
use Rattle.language.specs.Sizes.{NODES, PARAMETERS, TABLE, WORK}
use Rattle.layout.specs.Table.{KIND, OWN, EXPRESSION, NEXT, ARITY, row_word}
use Rattle.layout.specs.Decode.{counts}
use Rattle.layout.specs.Slots.{TAGS, SLOTS, put_slot}
use Rattle.layout.specs.Frames.{SIZES, FRAMES, frame_mark, put_frame}
use Rattle.layout.specs.Values.{Survives}
use Rattle.layout.specs.declared.values.Value.{Value}
use Rattle.machine.specs.Outcomes.{after_byte}
use Rattle.machine.specs.declared.state.Tally.{Tally}
use Rattle.machine.specs.Outcomes.{Outcome}
use Rattle.runner.specs.Phases.{LAST, ARGUMENT, NAMELESS}
use Rattle.runner.specs.Waiting.{Run}
use Rattle.runner.specs.Standing.{Resumes, above, begun, weight, Any, Prints, Printing, LastOf, Heads, callee, Callable, Enters}
use Rattle.runner.specs.declared.state.Spot.{Spot}
use Rattle.runner.specs.declared.state.Next.{Next}
use Rattle.runner.proofs.Passing.{argument_row, argument_heads, argument_inside, argument_slot, argument_prints}
use Rattle.runner.proofs.Passing.{argument_callable, argument_fits, argument_enters, next_inside, next_small, argument_passes}
use Rattle.runner.proofs.Promises.{prints_to}
use Rattle.runner.proofs.Resuming.{onward_less}

byte_units : (x : Outcome) (s : Tally) → (after_byte x s).units ≤ s.units
byte_units (P.Ok y) s = omega arith
byte_units (P.Err y) s = omega arith

abbrev Arguing : List ℕ → List ℕ → List ℕ → Value → ℕ → Spot → Tally → Run → Type 0
Arguing t w o v row p s q = Resumes q t w o v row ARGUMENT p s

-- the frame, and what is laid above it
pub record Framed (t w o : List ℕ) (row : ℕ) (p : Spot) (s : Tally) : Type 0 where
  pub long : TABLE ≤ length t
  pub work : WORK ≤ length w
  pub frame : p.height < FRAMES
  pub inside : row < NODES
  pub base : p.base ≤ WORK
  pub size : p.size < SIZES
  pub printed : s.printed ≤ length o

-- it is no `for`
is_call : (t : List ℕ) (row : ℕ) {kind : ℕ} → kind ≡ row_word t row KIND → {b : Bool} → b ≡ counts kind → b ≡ false → counts (row_word t row KIND) ≡ false
is_call t row e f g = ap counts (sym e) ∙ sym f ∙ g

-- the last one
pub last_one : (t w : List ℕ) (h : ℕ) {mark next : ℕ} → mark ≡ frame_mark w h → next ≡ row_word t (mark / TAGS) NEXT → next ≡ 0 → LastOf t w h (mark % TAGS)
last_one t w h m e f = record {
  number = ap (λ (n : ℕ). n % TAGS) m;
  last = ap (λ (n : ℕ). row_word t (n / TAGS) NEXT) (sym m) ∙ sym e ∙ f;
}

module _ {t w o : List ℕ} {v : Value} {row : ℕ} {p : Spot} {s : Tally} where
  -- ---- what is asked

  pub framed : Any (Arguing t w o v row p s) → Framed t w o row p s
  framed x =
      let r = x.holds in
      record {
        long = r.scene.long;
        work = r.fair.room.long;
        frame = omega (arith, r.deep);
        inside = argument_row r refl;
        base = omega (arith, argument_slot r refl);
        size = omega (arith, argument_slot r refl);
        printed = r.fair.printed;
      }

  module _ {mark : ℕ} (m : mark ≡ frame_mark w p.height) where
    pub argument_read : Any (Arguing t w o v row p s) → mark / TAGS < NODES
    argument_read x =
        subst (λ (n : ℕ). n / TAGS < NODES) (sym m) (argument_inside x.holds refl)

    pub argument_room : Any (Arguing t w o v row p s) → p.base + p.size + mark % TAGS < SLOTS
    argument_room x = subst (λ (n : ℕ). p.base + p.size + n % TAGS < SLOTS) (sym m) (argument_slot x.holds refl)

    -- another one
    module _ {next : ℕ} (e : next ≡ row_word t (mark / TAGS) NEXT) (f : next ≡ 0 → ⊥) where
      pub next_row : Any (Arguing t w o v row p s) → next < NODES
      next_row x = next_inside x.holds refl next (e ∙ ap (λ (n : ℕ). row_word t (n / TAGS) NEXT) m) f

      pub next_number : Any (Arguing t w o v row p s) → mark % TAGS + 1 < PARAMETERS
      next_number x = subst (λ (n : ℕ). n % TAGS + 1 < PARAMETERS) (sym m)
          (next_small x.holds refl next (e ∙ ap (λ (n : ℕ). row_word t (n / TAGS) NEXT) m) f)

      pub argues_next : Survives v → {w1 w2 : List ℕ} {r : Next} → w1 ≡ put_slot w 0 (p.base + p.size + mark % TAGS) NAMELESS v
          → w2 ≡ put_frame w1 p.height row ARGUMENT p.base p.size (TAGS * next + (mark % TAGS + 1))
          → r ≡ begun (row_word t next EXPRESSION) v (above p.base (p.size + (mark % TAGS + 1)) p) s
          → Prints (Arguing t w o v row p s) t w2 o (3 * s.units + p.height + 3) r
      argues_next back x y z =
          let k = ap (λ (n : ℕ). n % TAGS) m in
          prints_to
          (y ∙ ap (λ (u : List ℕ). put_frame u p.height row ARGUMENT p.base p.size (TAGS * next + (mark % TAGS + 1))) x
          ∙ ap (λ (n : ℕ). put_frame (put_slot w 0 (p.base + p.size + n) NAMELESS v) p.height row ARGUMENT p.base p.size (TAGS * next + (n + 1))) k)
          (z ∙ ap (λ (n : ℕ). begun (row_word t next EXPRESSION) v (above p.base (p.size + (n + 1)) p) s) k)
          (λ q b. argument_passes b refl next (e ∙ ap (λ (n : ℕ). row_word t (n / TAGS) NEXT) m) f back) (omega arith)

  -- ---- the last argument

  -- of a call
  module _ {kind : ℕ} (j : kind ≡ row_word t row KIND) {b : Bool} (f : b ≡ counts kind) (g : b ≡ false) {k : ℕ} (l : LastOf t w p.height k) where
    pub last_heads : Any (Arguing t w o v row p s) → Heads t row
    last_heads x = argument_heads x.holds refl l.last (is_call t row j f g)

    pub last_prints : None ≡ callee t row → {o1 : List ℕ} {r : Next} → Printing (row_word t row OWN) v o o1 p s r
        → Prints (Arguing t w o v row p s) t w o1 (3 * s.units + p.height + 3) r
    last_prints n {o1} {r} c = record {
      right = λ q b. argument_prints b refl l.last (is_call t row j f g) n c;
      less = subst (λ (x : Next). weight x < 3 * s.units + p.height + 3) (sym c.is)
          (onward_less c.outcome (row_word t row OWN) v p (after_byte c.outcome s) (byte_units c.outcome s));
    }

    pub last_slot : Any (Arguing t w o v row p s) → p.base + p.size + k < SLOTS
    last_slot x = omega (arith, l.number, argument_slot x.holds refl)

    module _ {head : ℕ} (who : Some head ≡ callee t row) where
      pub last_callable : Any (Arguing t w o v row p s) → Callable t head
      last_callable x = argument_callable x.holds refl l.last (is_call t row j f g) who

      pub last_fits : Any (Arguing t w o v row p s) → p.base + p.size + row_word t head ARITY ≤ SLOTS
      last_fits x = argument_fits x.holds refl l.last (is_call t row j f g) who

      pub last_enters : Survives v → {w1 w2 : List ℕ} {r : Next} → w1 ≡ put_slot w 0 (p.base + p.size + k) NAMELESS v
          → Enters t w1 w2 row head v p s r → Prints (Arguing t w o v row p s) t w2 o (3 * s.units + p.height + 3) r
      last_enters back e x =
          let k = l.number in
          prints_to
          (x.laid ∙ ap (λ (u : List ℕ). put_frame u p.height row LAST p.base p.size 0)
          (e ∙ ap (λ (n : ℕ). put_slot w 0 (p.base + p.size + n) NAMELESS v) k)) x.is
          (λ q b. argument_enters b refl l.last (is_call t row j f g) who back) (omega arith)
