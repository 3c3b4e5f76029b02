-- A node that waits for its first part: a frame is put above the others, and the part begins.
use mathlib.Core.Path.{◌≡◌, refl, sym, ap, subst, ◌∙◌}
use mathlib.Core.Bool.{true, false}
use mathlib.Core.List.{List}
use Prim.Native.Nat.{ℕ, suc, ◌+◌, ◌*◌, ◌≤◌, ◌<◌}
use native.Mathlib.Omega.{arith}
use lib.ListN.{length}
use Rattle.language.specs.Sizes.{ACTIVE}
use Rattle.language.specs.Tokens.{NAME, LBRACE}
use Rattle.language.specs.Trees.{Exp, push}
use Rattle.language.specs.State as M
use Rattle.language.specs.State.{value, then, as_bool, as_unit, want, choose, keep, with_cells}
use Rattle.language.specs.Meaning.{Env, apply_unary, apply_binary, settles, step, eval}
use Rattle.language.proofs.Meaning.Spending.{while_is}
use Rattle.layout.specs.Table.{KIND, FIRST, row_word}
use Rattle.layout.specs.Rows.{CALL}
use Rattle.layout.specs.Decode.{counts}
use Rattle.layout.specs.Slots.{WAITING, key_at}
use Rattle.layout.specs.Frames.{CELLS_AT, put_frame}
use Rattle.layout.proofs.Shapes.{range_counts}
use Rattle.machine.specs.Outcomes.{memory}
use Rattle.machine.specs.declared.state.Tally.{Tally}
use Rattle.runner.specs.Phases.{waits, phase_of}
use Rattle.runner.specs.Trees.{At, at_name, at_literal, at_unary, at_binary, at_follow, at_group}
use Rattle.runner.specs.Trees.{at_block, at_call, at_bind, at_branch, at_loop, at_counted, slack, Scene}
use Rattle.runner.specs.Waiting.{Run, Then, Binds, FrameAt, Later, which, tested, Waits, Stack}
use Rattle.runner.specs.Standing.{Fair, Begins, Starts}
use Rattle.runner.specs.declared.state.Spot.{Spot}
use Rattle.runner.proofs.Memory.{Stored, stored_frame, frame_pushed, keys_kept, memory_kept, fair_kept}
use Rattle.runner.proofs.Stacks.{then_then, Kept, binds_kept, stack_kept}
use Rattle.runner.proofs.RowKinds.{literal_waits, unary_phase, binary_phase, group_phase, block_phase}
use Rattle.runner.proofs.RowKinds.{semi_phase, let_phase, if_phase, while_phase, clash_bool, clash_still}
use Rattle.runner.proofs.Entering.{spot, enter}

-- what is live now
pub later_now : (w : List ℕ) (c m : ℕ) → Later w c m c m
later_now w c m = record { few = omega arith; older = omega arith; later = λ i x y. absurd (omega arith) }

-- ---- a part begins, with the node's frame above the others

module _ {q : Run} {t w o : List ℕ} (d h row p base mark : ℕ) (L : List ℕ) (env : Env) (s : Tally) (κ : Then)
    (scene : Scene q.ts t q.defs q.fs) (fair : Fair q w o s (suc h)) (deep : suc d + h ≡ ACTIVE + 1) (binds : Binds q.ts w base L env)
    (stack : Stack q t w (suc d) h (base + length L) s.cells s.births κ) {w1 : List ℕ} (stored : Stored w w1 (base + length L) h)
    (there : FrameAt w1 h row p base (length L) mark) where
  kept_at : Kept w w1 (base + length L) h s.cells
  kept_at = record { slots = stored.slots; frames = stored.frames; keys = λ i l. keys_kept stored i }

  -- a part of the node, which sees base1 and L1
  pub part_begins_at : (κ' : Then) {base1 size1 : ℕ} {L1 : List ℕ} {env1 : Env} {part : ℕ} {e : Exp} → size1 ≡ length L1
      → base + length L ≤ base1 + length L1 → At q.ts t q.defs L1 part e → Binds q.ts w1 base1 L1 env1
      → base1 + length L1 + WAITING * d ≤ WAITING * ACTIVE + slack e
      → Waits q t w1 d row base mark s.cells s.births L env κ κ' 0 p
      → then (eval q.fs d e env1 (memory w o s)) κ' ≡ q.whole
      → Begins q t w1 o part (spot base1 size1 (h + 1)) s
  part_begins_at κ' {base1} {size1} {L1} {env1} {part} {e} sized fits at binds1 room1 wait means =
      enter d h 0 κ' scene (fair_kept stored fair) deep there (binds_kept stored.slots (omega arith) binds)
      (later_now w1 s.cells s.births) wait (stack_kept kept_at (omega arith) (omega arith) (omega arith) stack) base1 size1 sized
      (omega arith) at binds1 room1 (ap (λ (σ : M.State). then (eval q.fs d e env1 σ) κ') (memory_kept stored o s) ∙ means)

-- ---- a frame is put, and a part begins

module _ {q : Run} {t w o : List ℕ} (d h row p base mark : ℕ) (L : List ℕ) (env : Env) (s : Tally) (κ : Then)
    (scene : Scene q.ts t q.defs q.fs) (fair : Fair q w o s (suc h)) (deep : suc d + h ≡ ACTIVE + 1)
    (binds : Binds q.ts w base L env) (room : base + length L + WAITING * suc d ≤ WAITING * ACTIVE + 1)
    (stack : Stack q t w (suc d) h (base + length L) s.cells s.births κ) where
  abbrev pub pushed : List ℕ
  pushed = put_frame w h row p base (length L) mark

  stored : Stored w pushed (base + length L) h
  stored = stored_frame w h row p base (length L) mark (base + length L) (omega arith) (omega arith)

  pub part_begins : (κ' : Then) {base1 size1 : ℕ} {L1 : List ℕ} {env1 : Env} {part : ℕ} {e : Exp} → size1 ≡ length L1
      → base + length L ≤ base1 + length L1 → At q.ts t q.defs L1 part e → Binds q.ts pushed base1 L1 env1
      → base1 + length L1 + WAITING * d ≤ WAITING * ACTIVE + slack e
      → Waits q t pushed d row base mark s.cells s.births L env κ κ' 0 p
      → then (eval q.fs d e env1 (memory w o s)) κ' ≡ q.whole
      → Begins q t pushed o part (spot base1 size1 (h + 1)) s
  part_begins κ' sized fits at binds1 room1 wait means =
      part_begins_at d h row p base mark L env s κ scene fair deep binds stack stored
      (frame_pushed w h row p base (length L) mark (omega (arith, fair.room.long)) (omega arith)) κ' sized fits at binds1 room1 wait means

  -- one that sees what the node sees, and what the node does with its value
  pub first_begins : (k : Then) (size : ℕ) {part : ℕ} {e : Exp} → size ≡ length L → At q.ts t q.defs L part e
      → Waits q t pushed d row base mark s.cells s.births L env κ (λ v σ. then (k v σ) κ) 0 p
      → then (then (eval q.fs d e env (memory w o s)) k) κ ≡ q.whole
      → Begins q t pushed o part (spot base size (h + 1)) s
  first_begins k size {e = e} sized at wait means =
      part_begins (λ v σ. then (k v σ) κ) sized (omega arith) at (binds_kept stored.slots (omega arith) binds) (omega arith) wait
      (sym (then_then (eval q.fs d e env (memory w o s)) k κ) ∙ means)

  -- the cells that are live were born before
  pub low_now : (i : ℕ) → i < s.cells → key_at pushed CELLS_AT i ≤ s.births
  low_now i l = omega (arith, keys_kept stored i, fair.room.low i l)

-- ---- by the kind of the node

module _ {q : Run} {t w o : List ℕ} (d h node base : ℕ) (L : List ℕ) (env : Env) (s : Tally) (κ : Then)
    (scene : Scene q.ts t q.defs q.fs) (fair : Fair q w o s (suc h)) (deep : suc d + h ≡ ACTIVE + 1)
    (high : 1 ≤ h) (size : ℕ) (sized : size ≡ length L) (binds : Binds q.ts w base L env)
    (stack : Stack q t w (suc d) h (base + length L) s.cells s.births κ)
    (mark : ℕ) (live : row_word t node KIND ≡ LBRACE → mark ≡ s.cells) where
  abbrev K : ℕ
  K = row_word t node KIND

  abbrev W : List ℕ
  W = put_frame w h node (phase_of K) base (length L) mark

  abbrev Waiting : Then → ℕ → Type 0
  Waiting κ' z = Waits q t W d node base mark s.cells s.births L env κ κ' 0 z

  begins : (k : Then) {e : Exp} → base + length L + WAITING * suc d ≤ WAITING * ACTIVE + 1 → At q.ts t q.defs L (row_word t node FIRST) e
      → {z : ℕ} → phase_of K ≡ z → Waiting (λ v σ. then (k v σ) κ) z → then (then (eval q.fs d e env (memory w o s)) k) κ ≡ q.whole
      → Begins q t W o (row_word t node FIRST) (spot base size (h + 1)) s
  begins k room x e wait means =
      first_begins d h node (phase_of K) base mark L env s κ scene fair deep binds room stack k size sized x
      (subst (Waiting (λ v σ. then (k v σ) κ)) (sym e) wait) means

  wait_begins : {e : Exp} → At q.ts t q.defs L node e → base + length L + WAITING * suc d ≤ WAITING * ACTIVE + slack e
      → then (step q.fs (eval q.fs d) e env (memory w o s)) κ ≡ q.whole
      → (K ≡ NAME → ⊥) → (K ≡ CALL → ⊥) → counts K ≡ false → waits K ≡ true → Begins q t W o (row_word t node FIRST) (spot base size (h + 1)) s
  unfolding step Waits which slack then
  wait_begins (at_name hd x m) room means a b g c = absurd (a hd.kind_is)
  wait_begins (at_literal {l = l} hd x y) room means a b g c = clash_still hd.kind_is c (literal_waits l)
  wait_begins (at_call hd x y z m) room means a b g c = absurd (b hd.kind_is)
  wait_begins (at_counted {b = u} hd x y z v) room means a b g c = clash_bool (ap counts hd.kind_is ∙ range_counts u) g
  wait_begins (at_unary {i = i} {o = o} hd x) room means a b g c =
      begins (λ v σ. apply_unary i o v σ) (omega arith) x (ap phase_of hd.kind_is ∙ unary_phase o)
      (record { i = i; o = o; head = hd; room = omega arith; goes = λ v σ. refl }) means
  wait_begins (at_binary {i = i} {o = o} {f = f} hd x y) room means a b g c =
      begins (λ v σ. choose (settles o v) (λ _. value v σ) λ _. then (eval q.fs d f env σ) λ u σ. apply_binary i o v u σ) (omega arith) x
      (ap phase_of hd.kind_is ∙ binary_phase o)
      (record { i = i; o = o; f = f; head = hd; room = omega arith; at = y; goes = λ v σ. refl }) means
  wait_begins (at_follow {i = i} {f = f} hd x y) room means a b g c =
      begins (λ v σ. want (as_unit v) λ _. eval q.fs d f env σ) (omega arith) x (ap phase_of hd.kind_is ∙ semi_phase)
      (record { f = f; inside = hd.inside; room = omega arith; at = y; goes = λ v σ. refl }) means
  wait_begins (at_block {i = i} hd x) room means a b g c =
      begins (λ v σ. value v (with_cells (keep s.births σ.cells) σ)) (omega arith) x (ap phase_of hd.kind_is ∙ block_phase)
      (record {
        live = live hd.kind_is;
        deep = omega arith;
        low = low_now d h node (phase_of K) base mark L env s κ scene fair deep binds (omega arith) stack;
        goes = λ v σ. refl;
      }) means
  wait_begins (at_bind {i = i} {x = n} {f = f} hd x y z) room means a b g c =
      begins (λ v σ. eval q.fs d f (push n v env) σ) (omega arith) y (ap phase_of hd.kind_is ∙ let_phase)
      (record { i = i; x = n; f = f; inside = hd.inside; named = x; room = omega arith; at = z; goes = λ v σ. refl }) means
  wait_begins (at_branch {i = i} {e = e} {f = f} hd x y z) room means a b g c =
      begins (λ v σ. want (as_bool v) λ b. choose b (λ _. eval q.fs d e env σ) λ _. eval q.fs d f env σ) (omega arith) x
      (ap phase_of hd.kind_is ∙ if_phase)
      (record { e = e; f = f; inside = hd.inside; room = omega arith; at_e = y; at_f = z; goes = λ v σ. refl }) means
  wait_begins (at_loop {i = i} {c = c1} {e = e} hd x y) room means a b g c =
      begins (tested q.fs d c1 e env) (omega arith) x (ap phase_of hd.kind_is ∙ while_phase)
      (record { c = c1; e = e; inside = hd.inside; room = omega arith; at_c = x; at_e = y; goes = λ v σ. refl })
      (ap (λ (m : M.Outcome). then m κ) (sym (while_is q.fs d c1 e env (memory w o s))) ∙ means)
  wait_begins (at_group {i = i} hd x) room means a b g c =
      part_begins d h node (phase_of K) base mark L env s κ scene fair deep binds (omega arith) stack κ sized (omega arith) x
      (binds_kept (stored_frame w h node (phase_of K) base (length L) mark (base + length L) (omega arith) (omega arith)).slots (omega arith) binds)
      (omega arith)
      (subst (Waiting κ) (sym (ap phase_of hd.kind_is ∙ group_phase)) (record { deep = omega arith; goes = λ v σ. refl })) means

module _ {q : Run} {t w o : List ℕ} {node : ℕ} {p : Spot} {s : Tally} (b : Starts q t w o node p s) where
  pub start_waits : (row_word t node KIND ≡ NAME → ⊥) → (row_word t node KIND ≡ CALL → ⊥) → counts (row_word t node KIND) ≡ false
      → waits (row_word t node KIND) ≡ true → (mark : ℕ) → (row_word t node KIND ≡ LBRACE → mark ≡ s.cells)
      → Begins q t (put_frame w p.height node (phase_of (row_word t node KIND)) p.base p.size mark) o (row_word t node FIRST)
      (spot p.base p.size (p.height + 1)) s
  start_waits x y g z mark live =
      subst (λ (n : ℕ). Begins q t (put_frame w p.height node (phase_of (row_word t node KIND)) p.base n mark) o (row_word t node FIRST)
      (spot p.base p.size (p.height + 1)) s) (sym b.sized)
      (wait_begins b.d p.height node p.base b.L b.env s b.κ b.scene b.fair b.deep b.high p.size b.sized
      b.binds b.stack mark live b.at b.room b.means x y g z)
