-- A part of a node begins above the node's frame; an outcome that is told ends the run, or its value is given.
use Rattle.std.specs.Prelude as P
use mathlib.Core.Path.{◌≡◌, sym, subst, ◌∙◌}
use mathlib.Core.List.{List}
use Prim.Native.Nat.{ℕ, suc, ◌+◌, ◌*◌, ◌≤◌}
use native.Mathlib.Omega.{arith}
use native.Mathlib.Numerals.{add-one}
use lib.ListN.{length}
use Rattle.language.specs.Sizes.{ACTIVE}
use Rattle.language.specs.Trees.{Exp}
use Rattle.language.specs.State as M
use Rattle.language.specs.State.{then}
use Rattle.language.specs.Meaning.{Env, eval}
use Rattle.layout.specs.Slots.{WAITING, SLOTS}
use Rattle.layout.specs.Frames.{FRAMES}
use Rattle.layout.specs.declared.values.Value.{Value}
use Rattle.machine.specs.Outcomes as Machine
use Rattle.machine.specs.Outcomes.{memory, told, Tells, tells, anything, Room, Printed, after_byte}
use Rattle.machine.specs.declared.state.Tally.{Tally}
use Rattle.machine.specs.Outcomes.{Outcome}
use Rattle.runner.specs.Trees.{At, slack, Scene}
use Rattle.runner.specs.Waiting.{Run, Then, Binds, FrameAt, Later, Waits, Stack, frame}
use Rattle.runner.specs.Standing.{Fair, Begins, Good, onward}
use Rattle.runner.specs.declared.state.Spot.{Spot}
use Rattle.runner.proofs.Stacks.{Kept, stack_kept, stack_raise}

-- fewer frames
pub fair_low : {q : Run} {w o : List ℕ} {s : Tally} {h : ℕ} (g : ℕ) → g ≤ h → Fair q w o s h → Fair q w o s g
fair_low g l f = record {
  room = f.room;
  paid = omega (arith, f.paid);
  printed = f.printed;
  long = f.long;
  beyond = f.beyond;
  wide = f.wide;
  rest = f.rest;
}

-- ---- a part

abbrev pub spot : ℕ → ℕ → ℕ → Spot
spot base size height = record { base = base; size = size; height = height }

pub enter : {q : Run} {t w o : List ℕ} (d h u : ℕ) (κ' : Then) {row p base mark n b : ℕ} {L : List ℕ} {env : Env} {κ : Then} {s : Tally}
    → Scene q.ts t q.defs q.fs → Fair q w o s (suc h) → suc d + h ≡ ACTIVE + 1
    → FrameAt w h row p base (length L) mark → Binds q.ts w base L env → Later w n b s.cells s.births
    → Waits q t w d row base mark n b L env κ κ' u p → Stack q t w (suc d) h (base + length L) n b κ
    → (base1 size1 : ℕ) {L1 : List ℕ} {env1 : Env} {node : ℕ} {e : Exp} → size1 ≡ length L1 → base + length L + u ≤ base1 + length L1
    → At q.ts t q.defs L1 node e → Binds q.ts w base1 L1 env1
    → base1 + length L1 + WAITING * d ≤ WAITING * ACTIVE + slack e
    → then (eval q.fs d e env1 (memory w o s)) κ' ≡ q.whole
    → Begins q t w o node (spot base1 size1 (h + 1)) s
enter {q} {t} {w} {o} d h u κ' {base = base} {L = L} {s = s} scene fair deep f binds later waits stack base1 size1 {L1} {env1} {node} {e} sized fits at
    binds1 room means =
    let top : Stack q t w d (suc h) (base1 + length L1) s.cells s.births κ' = frame u f binds fits later waits stack in
    record {
      scene = scene;
      fair = fair_low (h + 1) (omega arith) fair;
      d = d;
      e = e;
      L = L1;
      env = env1;
      κ = κ';
      deep = omega arith;
      high = omega arith;
      at = at;
      sized = sized;
      binds = binds1;
      room = room;
      stack = subst (λ (k : ℕ). Stack q t w d k (base1 + length L1) s.cells s.births κ') (sym (add-one h)) top;
      means = means;
    }

-- ---- an operator's outcome

-- what is told of the outcome, whatever comes behind it
pub told_whole : (q : Run) (κ : Then) {x m : M.Outcome} → Tells x m → then m κ ≡ q.whole → then x κ ≡ q.whole
unfolding then
told_whole q κ tells e = e
told_whole q κ anything e = absurd (q.safe (sym e))

-- it is given to the frames below, or it ends the run
pub onward_good : {q : Run} {t w o : List ℕ} (d a : ℕ) {κ : Then} (p : Spot) {s : Tally} (r : Outcome) (i : ℕ) (v : Value)
    → Scene q.ts t q.defs q.fs → Fair q w o s p.height → d + p.height ≡ ACTIVE + 1 → 1 ≤ p.height
    → Stack q t w d p.height a s.cells s.births κ → then (told i (memory w o s) r) κ ≡ q.whole
    → Good q t w o (onward r i v p s)
unfolding then
onward_good d a {κ} p (P.Ok x) i v scene fair deep high stack e =
    record { scene = scene; fair = fair; d = d; a = a; κ = κ; deep = deep; high = high; stack = stack; means = e }
onward_good d a p (P.Err y) i v scene fair deep high stack e = record { fair = fair_low 0 (omega arith) fair; tells = e }

-- ---- a step that changed cells alone

pub machine_kept : {w w1 : List ℕ} {s t : Tally} (a h : ℕ) → a ≤ SLOTS → h ≤ FRAMES → Machine.Kept w w1 s t → Kept w w1 a h s.cells
machine_kept a h l m k = record {
  slots = record { same = λ i x. k.below i (omega arith) (omega arith) };
  frames = λ i x y. k.below i (omega arith) (omega arith);
  keys = k.keys;
}

-- one birth more at most, which a frame paid for
pub fair_stepped : {q : Run} {w w1 o : List ℕ} {s t : Tally} {h : ℕ} → Fair q w o s (suc h) → Machine.Kept w w1 s t → Room w1 t
    → t.births ≤ s.births + 1 → t.units ≡ s.units → t.printed ≡ s.printed → Fair q w1 o t h
fair_stepped {s = s} {t = t} f k room b u p = record {
  room = room;
  paid = omega (arith, f.paid);
  printed = omega (arith, f.printed);
  long = k.long ∙ f.long;
  beyond = λ i l. k.beyond i l ∙ f.beyond i l;
  wide = f.wide;
  rest = λ i l. f.rest i (omega arith);
}

pub stepped_good : {q : Run} {t w w1 o : List ℕ} (d a : ℕ) {κ : Then} (p : Spot) {s s1 : Tally} (r : Outcome) (i : ℕ) (v : Value)
    → Scene q.ts t q.defs q.fs → Fair q w1 o s1 p.height → d + p.height ≡ ACTIVE + 1 → 1 ≤ p.height → a ≤ SLOTS
    → Stack q t w d p.height a s.cells s.births κ → Machine.Kept w w1 s s1 → then (told i (memory w1 o s1) r) κ ≡ q.whole
    → Good q t w1 o (onward r i v p s1)
stepped_good d a p {s = s} {s1 = s1} r i v scene fair deep high l stack k e =
    onward_good d a p r i v scene fair deep high
    (stack_raise a s1.cells s1.births (omega arith) k.above k.older k.newer
    (stack_kept (machine_kept a p.height l (omega arith) k) (omega arith) (omega arith) (omega arith) stack))
    e

-- ---- a step that changed the output alone

-- a byte is printed, or is not
pub fair_printed : {q : Run} {w o o1 : List ℕ} {s : Tally} {h : ℕ} {v : M.Value} (x : Outcome) → Fair q w o s (suc h) → Printed v o o1 s x
    → Fair q w o1 (after_byte x s) h
fair_printed (P.Ok y) f p = record {
  room = record { long = f.room.long; few = f.room.few; low = f.room.low; rising = f.room.rising };
  paid = omega (arith, f.paid);
  printed = omega (arith, p.fits, p.wide);
  long = f.long;
  beyond = f.beyond;
  wide = p.wide ∙ f.wide;
  rest = λ k l. p.rest k l ∙ f.rest k (omega arith);
}
fair_printed (P.Err y) f p = record {
  room = f.room;
  paid = omega (arith, f.paid);
  printed = omega (arith, p.fits, p.wide);
  long = f.long;
  beyond = f.beyond;
  wide = p.wide ∙ f.wide;
  rest = λ k l. p.rest k l ∙ f.rest k l;
}

pub same_stack : {q : Run} {t w : List ℕ} {d h a : ℕ} (s : Tally) {κ : Then} (x : Outcome) → Stack q t w d h a s.cells s.births κ
    → Stack q t w d h a (after_byte x s).cells (after_byte x s).births κ
same_stack s (P.Ok y) k = k
same_stack s (P.Err y) k = k
