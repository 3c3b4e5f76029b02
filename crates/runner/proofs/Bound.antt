-- The slots of a `for`: its name's, and above it those of the end and the step; and its frame, which waits for a pass.
use mathlib.Core.Path.{◌≡◌, ◌∙◌}
use mathlib.Core.List.{List}
use Prim.Native.Nat.{ℕ, suc, ◌+◌, ◌≤◌, ◌<◌}
use native.Mathlib.Omega.{arith}
use lib.ListN.{length}
use Rattle.language.specs.Sizes.{WORK}
use Rattle.layout.specs.Slots.{SLOTS, value_at, put_slot}
use Rattle.layout.specs.Frames.{FRAMES, put_phase}
use Rattle.layout.specs.Values.{meant, Survives}
use Rattle.layout.specs.declared.values.Value.{Value}
use Rattle.machine.proofs.Slotted.{put_value}
use Rattle.runner.specs.Phases.{COUNTED, NAMELESS}
use Rattle.runner.specs.Waiting.{FrameAt}
use Rattle.runner.specs.Loops.{put_bound}
use Rattle.runner.proofs.Memory.{Stored, stored_phase, stored_slot, stored_then, frame_turned, frame_kept, value_kept}

module _ (w : List ℕ) (a : ℕ) (z to by : Value) (h : ℕ) (inside : a + 2 < SLOTS) (low : h < FRAMES) (long : WORK ≤ length w) where
  abbrev S1 : List ℕ
  S1 = put_slot w 0 a NAMELESS z

  abbrev S2 : List ℕ
  S2 = put_slot S1 0 (a + 1) NAMELESS to

  abbrev S3 : List ℕ
  S3 = put_slot S2 0 (a + 2) NAMELESS by

  abbrev pub W : List ℕ
  W = put_phase (put_bound w a z to by) h COUNTED

  one : (b g : ℕ) → b ≤ a → Stored w S1 b g
  one b g l = stored_slot w a NAMELESS z b g l (omega arith)

  two : (b g : ℕ) → b ≤ a + 1 → Stored S1 S2 b g
  two b g l = stored_slot S1 (a + 1) NAMELESS to b g l (omega arith)

  three : (b g : ℕ) → b ≤ a + 2 → Stored S2 S3 b g
  three b g l = stored_slot S2 (a + 2) NAMELESS by b g l inside

  four : (b : ℕ) → b ≤ a + 3 → Stored S3 W b h
  four b l = stored_phase S3 h COUNTED b low (omega arith)

  pub bound_stored : Stored w W a h
  bound_stored =
      stored_then (one a h (omega arith)) (stored_then (two a h (omega arith)) (stored_then (three a h (omega arith)) (four a (omega arith))))

  pub bound_frame : {row p base size mark : ℕ} → FrameAt w h row p base size mark → FrameAt W h row COUNTED base size mark
  bound_frame {row} {p} {base} {size} {mark} f =
      let l : length S3 ≡ length w = (three 0 0 (omega arith)).long ∙ (two 0 0 (omega arith)).long ∙ (one 0 0 (omega arith)).long in
      frame_turned S3 h row p COUNTED base size mark (omega (arith, l, long, low))
      (frame_kept {w = S2} (three 0 (suc h) (omega arith)).frames (omega arith)
      (frame_kept {w = S1} (two 0 (suc h) (omega arith)).frames (omega arith)
      (frame_kept {w = w} (one 0 (suc h) (omega arith)).frames (omega arith) f)))

  -- ---- what is read back

  from_one : (j : ℕ) → j < a + 1 → value_at W 0 j ≡ value_at S1 0 j
  from_one j l =
      value_kept (four (a + 1) (omega arith)).slots j l ∙ value_kept (three (a + 1) h (omega arith)).slots j l
      ∙ value_kept (two (a + 1) h (omega arith)).slots j l

  from_two : (j : ℕ) → j < a + 2 → value_at W 0 j ≡ value_at S2 0 j
  from_two j l = value_kept (four (a + 2) (omega arith)).slots j l ∙ value_kept (three (a + 2) h (omega arith)).slots j l

  from_three : (j : ℕ) → j < a + 3 → value_at W 0 j ≡ value_at S3 0 j
  from_three j l = value_kept (four (a + 3) (omega arith)).slots j l

  long_one : length S1 ≡ length w
  long_one = (one 0 0 (omega arith)).long

  long_two : length S2 ≡ length w
  long_two = (two 0 0 (omega arith)).long ∙ long_one

  pub bound_value : Survives z → value_at W 0 a ≡ meant z
  bound_value back = from_one a (omega arith) ∙ put_value w 0 a NAMELESS z (omega (arith, inside, long)) back

  pub end_value : Survives to → value_at W 0 (a + 1) ≡ meant to
  end_value back = from_two (a + 1) (omega arith) ∙ put_value S1 0 (a + 1) NAMELESS to (omega (arith, inside, long, long_one)) back

  pub step_value : Survives by → value_at W 0 (a + 2) ≡ meant by
  step_value back = from_three (a + 2) (omega arith) ∙ put_value S2 0 (a + 2) NAMELESS by (omega (arith, inside, long, long_two)) back
