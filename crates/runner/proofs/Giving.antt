-- A value goes to the last frame: the frame is read, and by its phase the value is given on, or another part begins.
use mathlib.Core.Path.{◌≡◌, sym, ap, subst, ◌∙◌}
use mathlib.Core.List.{List}
use Prim.Native.Nat.{ℕ, suc, ◌+◌, ◌*◌, ◌≤◌, ◌<◌}
use native.Mathlib.Omega.{arith}
use lib.ListN.{length}
use Rattle.language.specs.Sizes.{ACTIVE}
use Rattle.language.specs.Trees.{Exp}
use Rattle.language.specs.State as M
use Rattle.language.specs.State.{then}
use Rattle.language.specs.Meaning.{Env, eval}
use Rattle.layout.specs.Slots.{WAITING, value_at, put_slot}
use Rattle.layout.specs.Frames.{NODE, PHASE, BASE, FRAMES, FRAMES_AT, frame_word, frame_size, put_phase}
use Rattle.layout.specs.Values.{meant, Survives}
use Rattle.layout.specs.declared.values.Value.{Value}
use Rattle.machine.specs.Outcomes.{memory}
use Rattle.machine.specs.declared.state.Tally.{Tally}
use Rattle.machine.proofs.Slotted.{put_value}
use Rattle.runner.specs.Phases.{NAMELESS}
use Rattle.runner.specs.Trees.{At, slack, Scene}
use Rattle.runner.specs.Waiting.{Run, Then, Binds, FrameAt, Waits, Stack, ground, frame}
use Rattle.runner.specs.Standing.{Fair, Begins, Gives, Resumes}
use Rattle.runner.specs.declared.state.Spot.{Spot}
use Rattle.runner.proofs.Memory.{Stored, stored_phase, stored_slot, stored_then, frame_turned}
use Rattle.runner.proofs.Memory.{frame_kept, value_kept, keys_kept, memory_kept, fair_kept}
use Rattle.runner.proofs.Stacks.{Kept, binds_kept, later_kept, stack_kept, stack_raise}
use Rattle.runner.proofs.Entering.{fair_low, spot, enter}

-- ---- the last frame is read

resumed : {q : Run} {t w o : List ℕ} {d h a : ℕ} {s : Tally} {κ : Then} → Stack q t w d h a s.cells s.births κ
    → Scene q.ts t q.defs q.fs → Fair q w o s h → d + h ≡ ACTIVE + 1 → (g : ℕ) → h ≡ suc g
    → (v : Value) → κ (meant v) (memory w o s) ≡ q.whole
    → (row p base size : ℕ) → row ≡ frame_word w g NODE → p ≡ frame_word w g PHASE → base ≡ frame_word w g BASE → size ≡ frame_size w g
    → Resumes q t w o v row p (spot base size g) s
resumed ground scene fair deep g e v means row p base size x y z k = absurd (omega arith)
resumed {q} {t} {w} {o} {d} {s = s} {κ = κ'}
    (frame {h = h} {row = row0} {p = p0} {base = base0} {mark = mark} {n = n} {b = b} {L = L} {env = env} {κ = κ} u f binds fits later waits stack) scene
    fair deep g e v means row p base size x y z k =
    let same : h ≡ g = omega arith in
    let row_same : row0 ≡ row = sym f.row_is ∙ ap (λ (j : ℕ). frame_word w j NODE) same ∙ sym x in
    let p_same : p0 ≡ p = sym f.phase_is ∙ ap (λ (j : ℕ). frame_word w j PHASE) same ∙ sym y in
    let base_same : base0 ≡ base = sym f.base_is ∙ ap (λ (j : ℕ). frame_word w j BASE) same ∙ sym z in
    let size_same : size ≡ length L = k ∙ ap (λ (j : ℕ). frame_size w j) (sym same) ∙ f.size_is in
    let first : Resumes q t w o v row0 p0 (spot base0 size h) s = record {
      scene = scene;
      fair = fair;
      d = d;
      u = u;
      n = n;
      b = b;
      mark = mark;
      L = L;
      env = env;
      κ = κ;
      κ' = κ';
      deep = omega arith;
      there = f;
      sized = size_same;
      binds = binds;
      later = later;
      waits = waits;
      stack = stack;
      means = means;
    } in
    subst (λ (j : ℕ). Resumes q t w o v row p (spot base size j) s) same
    (subst (λ (j : ℕ). Resumes q t w o v row p (spot j size h) s) base_same
    (subst (λ (j : ℕ). Resumes q t w o v row j (spot base0 size h) s) p_same
    (subst (λ (j : ℕ). Resumes q t w o v j p0 (spot base0 size h) s) row_same first)))

pub give_resumes : {q : Run} {t w o : List ℕ} {v : Value} {p : Spot} {s : Tally} → Gives q t w o v p s → (g : ℕ) → p.height ≡ suc g
    → (row phase base size : ℕ) → row ≡ frame_word w g NODE → phase ≡ frame_word w g PHASE → base ≡ frame_word w g BASE → size ≡ frame_size w g
    → Resumes q t w o v row phase (spot base size g) s
give_resumes {v = v} r g e row phase base size x y z k =
    resumed r.stack r.scene r.fair r.deep g e v r.means row phase base size x y z k

-- ---- what every phase has

module _ {q : Run} {t w o : List ℕ} {v : Value} {row phase : ℕ} {p : Spot} {s : Tally} (r : Resumes q t w o v row phase p s) where
  abbrev H : ℕ
  H = p.height

  abbrev B : ℕ
  B = p.base

  abbrev N : ℕ
  N = length r.L

  pub waits_at : (k : ℕ) → phase ≡ k → Waits q t w r.d row B r.mark r.n r.b r.L r.env r.κ r.κ' r.u k
  waits_at k e = subst (λ (x : ℕ). Waits q t w r.d row B r.mark r.n r.b r.L r.env r.κ r.κ' r.u x) e r.waits

  pub frame_room : FRAMES_AT + 4 * H + 4 ≤ length w
  frame_room = omega (arith, r.deep, r.fair.room.long)

  pub frame_low : H < FRAMES
  frame_low = omega (arith, r.deep)

  -- the frames below, with the cells that are live now
  pub below : Stack q t w (suc r.d) H (B + N) s.cells s.births r.κ
  below = stack_raise (B + N) s.cells s.births (omega arith) r.later.few r.later.older r.later.later r.stack

  -- a value goes on
  pub back : suc r.d ≤ ACTIVE → (x : Value) → r.κ (meant x) (memory w o s) ≡ q.whole → Gives q t w o x p s
  back l x e = record {
    scene = r.scene;
    fair = fair_low H (omega arith) r.fair;
    d = suc r.d;
    a = B + N;
    κ = r.κ;
    deep = r.deep;
    high = omega (arith, r.deep);
    stack = below;
    means = e;
  }

  -- ---- another part begins, and the frame waits for it

  module _ {w1 : List ℕ} (x : Stored w w1 (B + N) H) where
    kept : Kept w w1 (B + N) H r.n
    kept = record { slots = x.slots; frames = x.frames; keys = λ i l. keys_kept x i }

    kept_all : Kept w w1 (B + N) H s.cells
    kept_all = record { slots = x.slots; frames = x.frames; keys = λ i l. keys_kept x i }

    pub part_enters : (ph mark1 u1 : ℕ) (κ1 : Then) → FrameAt w1 H row ph B N mark1
        → Waits q t w1 r.d row B mark1 r.n r.b r.L r.env r.κ κ1 u1 ph
        → (base1 size1 : ℕ) {L1 : List ℕ} {env1 : Env} {part : ℕ} {e : Exp} → size1 ≡ length L1 → B + N + u1 ≤ base1 + length L1
        → At q.ts t q.defs L1 part e → Binds q.ts w1 base1 L1 env1
        → base1 + length L1 + WAITING * r.d ≤ WAITING * ACTIVE + slack e
        → then (eval q.fs r.d e env1 (memory w o s)) κ1 ≡ q.whole
        → Begins q t w1 o part (spot base1 size1 (H + 1)) s
    part_enters ph mark1 u1 κ1 f wait base1 size1 {env1 = env1} {e = e} sized fits at binds room means =
        enter r.d H u1 κ1 r.scene (fair_kept x r.fair) r.deep f (binds_kept x.slots (omega arith) r.binds)
        (later_kept kept_all r.later) wait (stack_kept kept (omega arith) (omega arith) (omega arith) r.stack) base1 size1 sized fits at binds room
        (ap (λ (σ : M.State). then (eval q.fs r.d e env1 σ) κ1) (memory_kept x o s) ∙ means)

    pub sees : Binds q.ts w1 B r.L r.env
    sees = binds_kept x.slots (omega arith) r.binds

  -- from the same frame, in another phase
  module _ (room : B + N + WAITING * suc r.d ≤ WAITING * ACTIVE) (ph : ℕ) where
    pub turned : Stored w (put_phase w H ph) (B + N) H
    turned = stored_phase w H ph (B + N) frame_low (omega arith)

    pub turns : (κ1 : Then) {part : ℕ} {e : Exp} → Waits q t (put_phase w H ph) r.d row B r.mark r.n r.b r.L r.env r.κ κ1 0 ph
        → At q.ts t q.defs r.L part e → then (eval q.fs r.d e r.env (memory w o s)) κ1 ≡ q.whole
        → Begins q t (put_phase w H ph) o part (spot B p.size (H + 1)) s
    turns κ1 {e = e} wait at means =
        part_enters turned ph r.mark 0 κ1 (frame_turned w H row phase ph B N r.mark frame_room r.there) wait B p.size r.sized (omega arith) at
        (sees turned) (omega arith) means

  -- and the value is put into the slot above
  module _ (room : B + N + WAITING * suc r.d ≤ WAITING * ACTIVE) (ph : ℕ) where
    abbrev S : List ℕ
    S = put_slot w 0 (B + N) NAMELESS v

    abbrev W : List ℕ
    W = put_phase S H ph

    slotted : Stored w S (B + N) (suc H)
    slotted = stored_slot w (B + N) NAMELESS v (B + N) (suc H) (omega arith) (omega arith)

    pub holding : Stored w W (B + N) H
    holding =
        stored_then (stored_slot w (B + N) NAMELESS v (B + N) H (omega arith) (omega arith))
        (stored_phase S H ph (B + N) frame_low (omega arith))

    turned_on : Stored S W (B + N + 1) H
    turned_on = stored_phase S H ph (B + N + 1) frame_low (omega arith)

    -- what the slot holds
    pub holding_value : Survives v → value_at W 0 (B + N) ≡ meant v
    holding_value back =
        value_kept turned_on.slots (B + N) (omega arith) ∙ put_value w 0 (B + N) NAMELESS v (omega (arith, r.fair.room.long)) back

    pub holds : (u1 : ℕ) (κ1 : Then) {L1 : List ℕ} {env1 : Env} {part : ℕ} {e : Exp}
        → Waits q t W r.d row B r.mark r.n r.b r.L r.env r.κ κ1 u1 ph → u1 ≤ 1 → length L1 ≡ N + 1
        → At q.ts t q.defs L1 part e → Binds q.ts W B L1 env1
        → then (eval q.fs r.d e env1 (memory w o s)) κ1 ≡ q.whole
        → Begins q t (put_phase (put_slot w 0 (B + p.size) NAMELESS v) H ph) o part (spot B (p.size + 1) (H + 1)) s
    holds u1 κ1 {L1} {part = part} wait l long at binds means =
        let go = part_enters holding ph r.mark u1 κ1
        (frame_turned S H row phase ph B N r.mark (omega (arith, frame_room, slotted.long)) (frame_kept slotted.frames (omega arith) r.there))
        wait B (p.size + 1) (omega (arith, r.sized)) (omega arith) at binds (omega arith) means in
        subst (λ (m : ℕ). Begins q t (put_phase (put_slot w 0 (B + m) NAMELESS v) H ph) o part (spot B (p.size + 1) (H + 1)) s) (sym r.sized) go
