-- Stores into slots and frames: what they leave as it was, and what is read back.
use mathlib.Core.Path.{◌≡◌, ap, ◌∙◌}
use mathlib.Core.List.{List}
use Prim.Native.Nat.{ℕ, ◌+◌, ◌*◌, ◌-◌, ◌/◌, ◌%◌, ◌≤◌, ◌<◌}
use native.Mathlib.Omega.{arith}
use native.Mathlib.Nat.{add-zero}
use lib.ListN.{length, get_or, set, length-set}
use lib.Seq.{get_or-set_same, get_or-set_other}
use Rattle.layout.specs.Slots.{TAGS, SLOTS, key_at, value_at, put_slot}
use Rattle.layout.specs.Frames.{PHASE, BASE, MARK, SIZES, FRAMES, FRAMES_AT, CELLS_AT, put_frame, put_phase}
use Rattle.layout.specs.declared.values.Value.{Value}
use Rattle.layout.proofs.Packed.{packed_high, packed_low}
use Rattle.machine.specs.Slots.{Slot, slots, cells_of, values_from}
use Rattle.machine.specs.Outcomes.{bytes, memory, Room}
use Rattle.machine.specs.declared.state.Tally.{Tally}
use Rattle.machine.proofs.Slotted.{slots_same, value_same, values_same, put_other, put_length}
use Rattle.machine.proofs.Keeping.{rising_same}
use Rattle.runner.specs.Waiting.{Run, FrameAt}
use Rattle.runner.specs.Standing.{Fair}

-- slots below a are as they were
pub record Below (w w1 : List ℕ) (a : ℕ) : Type 0 where
  pub same : (k : ℕ) → k < 3 * a → get_or w1 k 0 ≡ get_or w k 0

-- and frames below h, and all from the cells on
pub record Stored (w w1 : List ℕ) (a h : ℕ) : Type 0 where
  pub slots : Below w w1 a
  pub frames : (k : ℕ) → FRAMES_AT ≤ k → k < FRAMES_AT + 4 * h → get_or w1 k 0 ≡ get_or w k 0
  pub cells : (k : ℕ) → CELLS_AT ≤ k → get_or w1 k 0 ≡ get_or w k 0
  pub long : length w1 ≡ length w

-- ---- stores

frame_other : (w : List ℕ) (h row p base size mark k : ℕ) → (FRAMES_AT + 4 * h ≤ k → k < FRAMES_AT + 4 * h + 4 → ⊥)
    → get_or (put_frame w h row p base size mark) k 0 ≡ get_or w k 0
unfolding put_frame
frame_other w h row p base size mark k d =
    let at = FRAMES_AT + 4 * h in
    let one = set w at row in
    let two = set one (at + PHASE) p in
    let three = set two (at + BASE) base in
    get_or-set_other three (at + MARK) k (SIZES * mark + size) 0 (λ e. d (omega arith) (omega arith))
    ∙ get_or-set_other two (at + BASE) k base 0 (λ e. d (omega arith) (omega arith))
    ∙ get_or-set_other one (at + PHASE) k p 0 (λ e. d (omega arith) (omega arith))
    ∙ get_or-set_other w at k row 0 (λ e. d (omega arith) (omega arith))

frame_length : (w : List ℕ) (h row p base size mark : ℕ) → length (put_frame w h row p base size mark) ≡ length w
unfolding put_frame
frame_length w h row p base size mark = simp length-set

phase_length : (w : List ℕ) (h p : ℕ) → length (put_phase w h p) ≡ length w
unfolding put_phase
phase_length w h p = simp length-set

-- a frame
pub stored_frame : (w : List ℕ) (h row p base size mark a : ℕ) → h < FRAMES → a ≤ SLOTS
    → Stored w (put_frame w h row p base size mark) a h
stored_frame w h row p base size mark a l m = record {
  slots = record { same = λ k i. frame_other w h row p base size mark k (λ x y. omega arith) };
  frames = λ k i j. frame_other w h row p base size mark k (λ x y. omega arith);
  cells = λ k i. frame_other w h row p base size mark k (λ x y. omega arith);
  long = frame_length w h row p base size mark;
}

-- its phase
pub stored_phase : (w : List ℕ) (h p a : ℕ) → h < FRAMES → a ≤ SLOTS → Stored w (put_phase w h p) a h
unfolding put_phase
stored_phase w h p a l m = record {
  slots = record { same = λ k i. get_or-set_other w (FRAMES_AT + 4 * h + PHASE) k p 0 (λ e. omega arith) };
  frames = λ k i j. get_or-set_other w (FRAMES_AT + 4 * h + PHASE) k p 0 (λ e. omega arith);
  cells = λ k i. get_or-set_other w (FRAMES_AT + 4 * h + PHASE) k p 0 (λ e. omega arith);
  long = phase_length w h p;
}

-- a slot
pub stored_slot : (w : List ℕ) (j key : ℕ) (v : Value) (a h : ℕ) → a ≤ j → j < SLOTS → Stored w (put_slot w 0 j key v) a h
stored_slot w j key v a h l m = record {
  slots = record { same = λ k i. put_other w 0 j key v k (λ x y. omega arith) };
  frames = λ k i u. put_other w 0 j key v k (λ x y. omega arith);
  cells = λ k i. put_other w 0 j key v k (λ x y. omega arith);
  long = put_length w 0 j key v;
}

pub stored_then : {w w1 w2 : List ℕ} {a h : ℕ} → Stored w w1 a h → Stored w1 w2 a h → Stored w w2 a h
stored_then x y = record {
  slots = record { same = λ k i. y.slots.same k i ∙ x.slots.same k i };
  frames = λ k i j. y.frames k i j ∙ x.frames k i j;
  cells = λ k i. y.cells k i ∙ x.cells k i;
  long = y.long ∙ x.long;
}

pub stored_less : {w w1 : List ℕ} {a h b g : ℕ} → b ≤ a → g ≤ h → Stored w w1 a h → Stored w w1 b g
stored_less l m x = record {
  slots = record { same = λ k i. x.slots.same k (omega arith) };
  frames = λ k i j. x.frames k i (omega arith);
  cells = x.cells;
  long = x.long;
}

-- ---- read back

pub frame_pushed : (w : List ℕ) (h row p base size mark : ℕ) → FRAMES_AT + 4 * h + 4 ≤ length w → size < SIZES
    → FrameAt (put_frame w h row p base size mark) h row p base size mark
unfolding put_frame
frame_pushed w h row p base size mark l s =
    let at = FRAMES_AT + 4 * h in
    let both = SIZES * mark + size in
    let one = set w at row in
    let two = set one (at + PHASE) p in
    let three = set two (at + BASE) base in
    let l1 : length one ≡ length w = length-set w at row in
    let l2 : length two ≡ length one = length-set one (at + PHASE) p in
    let l3 : length three ≡ length two = length-set two (at + BASE) base in
    let last : get_or (set three (at + MARK) both) (at + MARK) 0 ≡ both = get_or-set_same three (at + MARK) both 0 (omega arith) in
    record {
      row_is = rw add-zero (get_or-set_other three (at + MARK) at both 0 (λ e. omega arith)
          ∙ get_or-set_other two (at + BASE) at base 0 (λ e. omega arith)
          ∙ get_or-set_other one (at + PHASE) at p 0 (λ e. omega arith)
          ∙ get_or-set_same w at row 0 (omega arith));
      phase_is = get_or-set_other three (at + MARK) (at + PHASE) both 0 (λ e. omega arith)
          ∙ get_or-set_other two (at + BASE) (at + PHASE) base 0 (λ e. omega arith)
          ∙ get_or-set_same one (at + PHASE) p 0 (omega arith);
      base_is = get_or-set_other three (at + MARK) (at + BASE) both 0 (λ e. omega arith)
          ∙ get_or-set_same two (at + BASE) base 0 (omega arith);
      size_is = ap (λ (n : ℕ). n % SIZES) last ∙ packed_low SIZES (omega arith) mark size s;
      mark_is = ap (λ (n : ℕ). n / SIZES) last ∙ packed_high SIZES (omega arith) mark size s;
    }

pub frame_turned : (w : List ℕ) (h row p p1 base size mark : ℕ) → FRAMES_AT + 4 * h + 4 ≤ length w → FrameAt w h row p base size mark
    → FrameAt (put_phase w h p1) h row p1 base size mark
unfolding put_phase
frame_turned w h row p p1 base size mark l f =
    let at = FRAMES_AT + 4 * h in
    let last : get_or (set w (at + PHASE) p1) (at + MARK) 0 ≡ get_or w (at + MARK) 0 = get_or-set_other w (at + PHASE) (at + MARK) p1 0 (λ e. omega arith) in
    record {
      row_is = get_or-set_other w (at + PHASE) (at + 0) p1 0 (λ e. omega arith) ∙ f.row_is;
      phase_is = get_or-set_same w (at + PHASE) p1 0 (omega arith);
      base_is = get_or-set_other w (at + PHASE) (at + BASE) p1 0 (λ e. omega arith) ∙ f.base_is;
      size_is = ap (λ (n : ℕ). n % SIZES) last ∙ f.size_is;
      mark_is = ap (λ (n : ℕ). n / SIZES) last ∙ f.mark_is;
    }

-- a frame that the frames up to it leave
pub frame_kept : {w w1 : List ℕ} {g h row p base size mark : ℕ}
    → ((k : ℕ) → FRAMES_AT ≤ k → k < FRAMES_AT + 4 * h → get_or w1 k 0 ≡ get_or w k 0) → g < h
    → FrameAt w g row p base size mark → FrameAt w1 g row p base size mark
frame_kept {g = g} x l f = record {
  row_is = x _ (omega arith) (omega arith) ∙ f.row_is;
  phase_is = x _ (omega arith) (omega arith) ∙ f.phase_is;
  base_is = x _ (omega arith) (omega arith) ∙ f.base_is;
  size_is = ap (λ (n : ℕ). n % SIZES) (x (FRAMES_AT + 4 * g + MARK) (omega arith) (omega arith)) ∙ f.size_is;
  mark_is = ap (λ (n : ℕ). n / SIZES) (x (FRAMES_AT + 4 * g + MARK) (omega arith) (omega arith)) ∙ f.mark_is;
}

-- a slot that those below it leave
pub value_kept : {w w1 : List ℕ} {a : ℕ} → Below w w1 a → (j : ℕ) → j < a → value_at w1 0 j ≡ value_at w 0 j
value_kept {w} {w1} x j l = value_same w1 w 0 j (λ k m u. x.same k (omega arith))

pub values_kept : {w w1 : List ℕ} {a : ℕ} → Below w w1 a → (j n : ℕ) → j + n ≤ a
    → values_from w1 0 j n ≡ values_from w 0 j n
values_kept {w} {w1} x j n l = values_same w1 w 0 j n (λ k m u. x.same k (omega arith))

-- ---- the state of the run

module _ {w w1 : List ℕ} {a h : ℕ} (x : Stored w w1 a h) where
  pub keys_kept : (i : ℕ) → key_at w1 CELLS_AT i ≡ key_at w CELLS_AT i
  keys_kept i = ap (λ (n : ℕ). n / TAGS) (x.cells (CELLS_AT + 3 * i) (omega arith))

  pub memory_kept : (o : List ℕ) (s : Tally) → memory w1 o s ≡ memory w o s
  memory_kept o s =
      let e : slots w1 CELLS_AT s.cells ≡ slots w CELLS_AT s.cells = slots_same w1 w CELLS_AT s.cells (λ k l u. x.cells k l) in
      ap (λ (c : List Slot). record {
        units = s.units;
        births = s.births;
        room = length o - s.printed;
        cells = cells_of c;
        printed = bytes o s.printed;
      }) e

  pub room_kept : (s : Tally) → Room w s → Room w1 s
  room_kept s r = record {
    long = omega (arith, r.long, x.long);
    few = r.few;
    low = λ i l. omega (arith, keys_kept i, r.low i l);
    rising = rising_same w w1 s.cells (λ i l. keys_kept i) r.rising;
  }

  pub fair_kept : {q : Run} {o : List ℕ} {s : Tally} {g : ℕ} → Fair q w o s g → Fair q w1 o s g
  fair_kept {s = s} f = record {
    room = room_kept s f.room;
    paid = f.paid;
    printed = f.printed;
    long = x.long ∙ f.long;
    beyond = λ k l. x.cells k (omega arith) ∙ f.beyond k l;
    wide = f.wide;
    rest = f.rest;
  }
