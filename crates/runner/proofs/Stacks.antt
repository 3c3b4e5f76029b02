-- Frames stand for the same continuation after stores above them, and after steps that keep the cells' births.
use mathlib.Core.Bool.{Bool, true, false}
use mathlib.Core.Path.{◌≡◌, refl, ◌∙◌}
use mathlib.Core.List.{List}
use Prim.Native.Nat.{ℕ, zero, suc, ◌+◌, ◌*◌, ◌≤◌, ◌<◌}
use native.Mathlib.Omega.{arith}
use lib.Dec.{eqb, ltb}
use lib.ListN.{length, get_or}
use borrow.Author.Tests.{ltb-true, ltb-false}
use Rattle.language.specs.Tokens.{Token}
use Rattle.language.specs.State.{Outcome, value, stop, stuck, then}
use Rattle.language.specs.Meaning.{Env}
use Rattle.layout.specs.Slots.{key_at}
use Rattle.layout.specs.Frames.{FRAMES_AT, CELLS_AT}
use Rattle.runner.specs.Phases.{LAST, UNARY, LEFT, RIGHT, BEFORE, INSIDE, BOUND, CONDITION, TEST, PASS, ARGUMENT, COUNTED}
use Rattle.runner.specs.Waiting.{Run, Then, Binds, binds_none, binds_name, binds_held, Later, which, WaitsLast, WaitsUnary}
use Rattle.runner.specs.Waiting.{WaitsLeft, WaitsRight, WaitsBefore, WaitsInside, WaitsBound, WaitsCondition, WaitsTest}
use Rattle.runner.specs.Waiting.{WaitsPass, WaitsArgument, WaitsCounted, WaitsWhole, Waits, Stack, ground, frame}
use Rattle.runner.specs.Trees.{helds}
use Rattle.runner.proofs.Memory.{Below, frame_kept, value_kept, values_kept}

-- ---- one after another

pub then_then : (o : Outcome) (f g : Then) → then (then o f) g ≡ then o (λ v s. then (f v s) g)
unfolding then
then_then (value v s) f g = refl
then_then (stop y i s) f g = refl
then_then stuck f g = refl

-- ---- what is kept: slots below a, frames below h, and the births of the first c cells

pub record Kept (w w1 : List ℕ) (a h c : ℕ) : Type 0 where
  pub slots : Below w w1 a
  pub frames : (k : ℕ) → FRAMES_AT ≤ k → k < FRAMES_AT + 4 * h → get_or w1 k 0 ≡ get_or w k 0
  pub keys : (i : ℕ) → i < c → key_at w1 CELLS_AT i ≡ key_at w CELLS_AT i

pub kept_less : {w w1 : List ℕ} {a h c a1 h1 c1 : ℕ} → a1 ≤ a → h1 ≤ h → c1 ≤ c → Kept w w1 a h c → Kept w w1 a1 h1 c1
kept_less x y z k = record {
  slots = record { same = λ i l. k.slots.same i (omega arith) };
  frames = λ i l m. k.frames i l (omega arith);
  keys = λ i l. k.keys i (omega arith);
}

-- ---- bindings

pub helds_length : (k : ℕ) (L : List ℕ) → length (helds k L) ≡ k + length L
unfolding helds
helds_length zero L = omega arith
helds_length (suc k) L = let e = helds_length k L in omega arith

pub binds_kept : {ts : List Token} {w w1 : List ℕ} {a base : ℕ} {L : List ℕ} {env : Env}
    → Below w w1 a → base + length L ≤ a → Binds ts w base L env → Binds ts w1 base L env
binds_kept x l binds_none = binds_none
binds_kept {base = base} x l (binds_name {L = L} n e b) =
    binds_name n (value_kept x (base + length L) (omega arith) ∙ e) (binds_kept x (omega arith) b)
binds_kept x l (binds_held {L = L} b) = binds_held (binds_kept x (omega arith) b)

-- ---- frames

pub which_map : (b : Bool) {A B C D : Type 0} → (A → C) → (B → D) → which b A B → which b C D
unfolding which
which_map true f g x = f x
which_map false f g x = g x

module _ (q : Run) (t : List ℕ) {w w1 : List ℕ} {a h c : ℕ} (k : Kept w w1 a h c) (d row base mark n b : ℕ) (L : List ℕ) (env : Env) (κ κ' : Then) (u : ℕ)
    (fits : base + length L + u ≤ a) (few : n ≤ c) where
  last_kept : WaitsLast q t w d row base mark n b L env κ κ' u → WaitsLast q t w1 d row base mark n b L env κ κ' u
  last_kept x = record { deep = x.deep; goes = x.goes }

  whole_kept : WaitsWhole q t w d row base mark n b L env κ κ' u → WaitsWhole q t w1 d row base mark n b L env κ κ' u
  whole_kept x = record { goes = x.goes }

  unary_kept : WaitsUnary q t w d row base mark n b L env κ κ' u → WaitsUnary q t w1 d row base mark n b L env κ κ' u
  unary_kept x = record { i = x.i; o = x.o; head = x.head; room = x.room; goes = x.goes }

  left_kept : WaitsLeft q t w d row base mark n b L env κ κ' u → WaitsLeft q t w1 d row base mark n b L env κ κ' u
  left_kept x = record { i = x.i; o = x.o; f = x.f; head = x.head; room = x.room; at = x.at; goes = x.goes }

  right_kept : WaitsRight q t w d row base mark n b L env κ κ' u → WaitsRight q t w1 d row base mark n b L env κ κ' u
  right_kept x = record {
    i = x.i;
    o = x.o;
    left = x.left;
    head = x.head;
    room = x.room;
    used = x.used;
    held = value_kept k.slots (base + length L) (omega (arith, x.used)) ∙ x.held;
    goes = x.goes;
  }

  before_kept : WaitsBefore q t w d row base mark n b L env κ κ' u → WaitsBefore q t w1 d row base mark n b L env κ κ' u
  before_kept x = record { f = x.f; inside = x.inside; room = x.room; at = x.at; goes = x.goes }

  inside_kept : WaitsInside q t w d row base mark n b L env κ κ' u → WaitsInside q t w1 d row base mark n b L env κ κ' u
  inside_kept x = record { live = x.live; deep = x.deep; low = λ i l. omega (arith, k.keys i (omega arith), x.low i l); goes = x.goes }

  bound_kept : WaitsBound q t w d row base mark n b L env κ κ' u → WaitsBound q t w1 d row base mark n b L env κ κ' u
  bound_kept y = record {
    i = y.i;
    x = y.x;
    f = y.f;
    inside = y.inside;
    named = y.named;
    room = y.room;
    at = y.at;
    goes = y.goes;
  }

  condition_kept : WaitsCondition q t w d row base mark n b L env κ κ' u → WaitsCondition q t w1 d row base mark n b L env κ κ' u
  condition_kept x = record { e = x.e; f = x.f; inside = x.inside; room = x.room; at_e = x.at_e; at_f = x.at_f; goes = x.goes }

  test_kept : WaitsTest q t w d row base mark n b L env κ κ' u → WaitsTest q t w1 d row base mark n b L env κ κ' u
  test_kept x = record { c = x.c; e = x.e; inside = x.inside; room = x.room; at_c = x.at_c; at_e = x.at_e; goes = x.goes }

  pass_kept : WaitsPass q t w d row base mark n b L env κ κ' u → WaitsPass q t w1 d row base mark n b L env κ κ' u
  pass_kept x = record { c = x.c; e = x.e; inside = x.inside; room = x.room; at_c = x.at_c; at_e = x.at_e; goes = x.goes }

  argument_kept : WaitsArgument q t w d row base mark n b L env κ κ' u → WaitsArgument q t w1 d row base mark n b L env κ κ' u
  argument_kept y = record {
    arg = y.arg;
    k = y.k;
    vs = y.vs;
    es = y.es;
    done = y.done;
    by = y.by;
    marked = y.marked;
    inside = y.inside;
    room = y.room;
    few = y.few;
    used = y.used;
    long = y.long;
    held = values_kept k.slots (base + length L) y.k (omega (arith, y.used)) ∙ y.held;
    sees = let e = helds_length y.k L in binds_kept k.slots (omega (arith, y.used)) y.sees;
    rest = y.rest;
    goes = y.goes;
  }

  counted_kept : WaitsCounted q t w d row base mark n b L env κ κ' u → WaitsCounted q t w1 d row base mark n b L env κ κ' u
  counted_kept y = record {
    loop = y.loop;
    to = y.to;
    by = y.by;
    z = y.z;
    room = y.room;
    used = y.used;
    counter = value_kept k.slots (base + length L) (omega (arith, y.used)) ∙ y.counter;
    end = value_kept k.slots (base + length L + 1) (omega (arith, y.used)) ∙ y.end;
    step = value_kept k.slots (base + length L + 2) (omega (arith, y.used)) ∙ y.step;
    goes = y.goes;
  }

  pub waits_kept : (p : ℕ) → Waits q t w d row base mark n b L env κ κ' u p → Waits q t w1 d row base mark n b L env κ κ' u p
  unfolding Waits
  waits_kept p =
      which_map (eqb p LAST) last_kept
      (which_map (eqb p RIGHT) right_kept
      (which_map (eqb p LEFT) left_kept
      (which_map (eqb p UNARY) unary_kept
      (which_map (eqb p BEFORE) before_kept
      (which_map (eqb p INSIDE) inside_kept
      (which_map (eqb p BOUND) bound_kept
      (which_map (eqb p CONDITION) condition_kept
      (which_map (eqb p TEST) test_kept
      (which_map (eqb p PASS) pass_kept
      (which_map (eqb p ARGUMENT) argument_kept
      (which_map (eqb p COUNTED) counted_kept whole_kept)))))))))))

pub later_kept : {w w1 : List ℕ} {a h n b c m : ℕ} → Kept w w1 a h c → Later w n b c m → Later w1 n b c m
later_kept k l = record { few = l.few; older = l.older; later = λ i x y. omega (arith, k.keys i y, l.later i x y) }

pub stack_kept : {q : Run} {t w w1 : List ℕ} {d h a c m a1 h1 c1 : ℕ} {κ : Then} → Kept w w1 a1 h1 c1 → a ≤ a1 → h ≤ h1 → c ≤ c1
    → Stack q t w d h a c m κ → Stack q t w1 d h a c m κ
stack_kept k x y z ground = ground
stack_kept {q} {t} {d = d} k x y z (frame {row = row} {p = p} {base = base} {mark = mark} {n = n} {b = b} {L = L} {env = env} {κ = κ} {κ' = κ'} u f s l r v
    rest) =
    let here = kept_less x y z k in
    frame u (frame_kept here.frames (omega arith) f) (binds_kept here.slots (omega arith) s) l (later_kept here r)
    (waits_kept q t here d row base mark n b L env κ κ' u l r.few p v)
    (stack_kept here (omega arith) (omega arith) r.few rest)

-- more slots, cells that were born later, more births
pub stack_raise : {q : Run} {t w : List ℕ} {d h a c m : ℕ} {κ : Then} (a1 c1 m1 : ℕ) → a ≤ a1 → c ≤ c1 → m ≤ m1
    → ((i : ℕ) → c ≤ i → i < c1 → m < key_at w CELLS_AT i) → Stack q t w d h a c m κ → Stack q t w d h a1 c1 m1 κ
stack_raise a1 c1 m1 x y z new ground = ground
stack_raise {w = w} {c = c} a1 c1 m1 x y z new (frame {n = n} {b = b} u f s l r v rest) =
    frame {a = a1} {c = c1} {m = m1} {n = n} {b = b} u f s (omega arith)
    (record { few = omega (arith, r.few); older = omega (arith, r.older); later = later }) v rest
  where
    later : (i : ℕ) → n ≤ i → i < c1 → b < key_at w CELLS_AT i
    later i e g = by (ltb i c) refl
      where
        by : (t : Bool) → ltb i c ≡ t → b < key_at w CELLS_AT i
        by true k = r.later i e (ltb-true i c k)
        by false k = omega (arith, new i (ltb-false i c k) g, r.older)
