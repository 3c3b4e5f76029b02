-- What the functions of `resume` and the second half of `calls` ask and promise, by the ways through them.
use Rattle.std.specs.Prelude as P
use mathlib.Core.Path.{◌≡◌, refl, sym, ap, subst, ◌∙◌}
use mathlib.Core.Bool.{Bool, true, false}
use mathlib.Core.List.{List}
use Prim.Native.Nat.{ℕ, ◌+◌, ◌*◌, ◌-◌, ◌≤◌, ◌<◌}
use native.Mathlib.Omega.{arith}
use lib.ListN.{length}
use Rattle.language.specs.Sizes.{NODES, WORK}
use Rattle.language.specs.Tokens.{REF}
use Rattle.language.specs.Trees.{new}
use Rattle.language.specs.Meaning.{apply_unary, apply_binary, settles}
use Rattle.layout.specs.Table.{KIND, OWN, FIRST, SECOND, THIRD, row_word}
use Rattle.layout.specs.Rows.{PREFIX}
use Rattle.layout.specs.Slots.{SLOTS, value_at, put_slot}
use Rattle.layout.specs.Frames.{NODE, PHASE, BASE, FRAMES, frame_word, frame_size, frame_mark, put_phase}
use Rattle.layout.specs.Values.{meant, Survives}
use Rattle.layout.specs.declared.values.Value.{Value}
use Rattle.layout.specs.declared.values.Value.TheVariants.{Nothing}
use Rattle.machine.specs.Operands.{is_true}
use Rattle.machine.specs.Rows.{unary_of, binary_of}
use Rattle.machine.specs.Outcomes.{Answered, Applied, after_birth}
use Rattle.machine.specs.declared.state.Tally.{Tally}
use Rattle.machine.specs.Outcomes.{Outcome}
use Rattle.runner.specs.Phases.{LAST, UNARY, LEFT, RIGHT, BEFORE, INSIDE, BOUND, CONDITION, TEST, PASS, ARGUMENT, COUNTED, NAMELESS, Controls}
use Rattle.runner.specs.Waiting.{Run}
use Rattle.runner.specs.Standing.{Gives, Resumes, Good, above, begun, given, over, onward, weight, Some, Goes, Any, Creating}
use Rattle.runner.specs.declared.state.Spot.{Spot}
use Rattle.runner.specs.Standing.{Ending}
use Rattle.runner.specs.declared.state.Next.{Next}
use Rattle.runner.proofs.Giving.{give_resumes}
use Rattle.runner.proofs.Operating.{resume_last, resume_inside, unary_inside, unary_other, resume_unary, resume_create}
use Rattle.runner.proofs.Operating.{right_inside, right_slot, resume_right, left_inside, left_slot, resume_settled, resume_held}
use Rattle.runner.proofs.Controlling.{before_inside, resume_before, bound_inside, bound_slot, resume_bound, condition_inside}
use Rattle.runner.proofs.Controlling.{resume_then, resume_else, test_inside, resume_test, resume_end, pass_inside, resume_pass, resume_whole}
use Rattle.runner.proofs.Promises.{goes_to}

-- what an operator gave is less than what it was given
pub onward_less : (x : Outcome) (i : ℕ) (v : Value) (p : Spot) (s : Tally) {u : ℕ} → s.units ≤ u → weight (onward x i v p s) < 3 * u + p.height + 3
onward_less (P.Ok y) i v p s l = omega arith
onward_less (P.Err y) i v p s l = omega arith

birth_units : (x : Outcome) (s : Tally) → (after_birth x s).units ≤ s.units
birth_units (P.Ok y) s = omega arith
birth_units (P.Err y) s = omega arith

-- ---- give

abbrev Giving : List ℕ → List ℕ → List ℕ → Value → Spot → Tally → Run → Type 0
Giving t w o v p s q = Gives q t w o v p s

abbrev spot : ℕ → ℕ → ℕ → Spot
spot base size height = record { base = base; size = size; height = height }

module _ {t w o : List ℕ} {v : Value} {p : Spot} {s : Tally} where
  pub gives_high : Any (Giving t w o v p s) → (1 ≤ p.height) × (p.height ≤ FRAMES) × (WORK ≤ length w)
  gives_high x = (x.holds.high, omega (arith, x.holds.deep), x.holds.fair.room.long)

  -- the last frame is read
  module _ {g row phase base size : ℕ} (high : 1 ≤ p.height) (e : g ≡ p.height - 1) (a : row ≡ frame_word w g NODE) (b : phase ≡ frame_word w g PHASE)
      (c : base ≡ frame_word w g BASE) (d : size ≡ frame_size w g) where
    pub gives_resumes : (q : Run) → Giving t w o v p s q → Resumes q t w o v row phase (spot base size g) s
    gives_resumes q x = give_resumes x g (omega arith) row phase base size a b c d

    pub gives_argument : phase ≡ ARGUMENT → (q : Run) → Giving t w o v p s q → Resumes q t w o v row ARGUMENT (spot base size g) s
    gives_argument f q x = subst (λ (k : ℕ). Resumes q t w o v row k (spot base size g) s) f (gives_resumes q x)

    pub gives_counted : phase ≡ COUNTED → (q : Run) → Giving t w o v p s q → Resumes q t w o v row COUNTED (spot base size g) s
    gives_counted f q x = subst (λ (k : ℕ). Resumes q t w o v row k (spot base size g) s) f (gives_resumes q x)

-- ---- resume and control

-- a value goes to the frame of a node in a phase
abbrev Resuming : List ℕ → List ℕ → Value → ℕ → ℕ → Spot → Tally → Run → List ℕ → Type 0
Resuming t w v row phase p s q o = Resumes q t w o v row phase p s

abbrev Less : List ℕ → List ℕ → Value → ℕ → ℕ → Spot → Tally → List ℕ → Next → Type 0
Less t w v row phase p s w1 r = Goes (λ q o. Resumes q t w o v row phase p s) t w1 (3 * s.units + p.height + 3) r

abbrev turned : Value → Spot → Tally → ℕ → Next
turned v p s part = begun part v (above p.base p.size p) s

module _ {t w : List ℕ} {v : Value} {row phase : ℕ} {p : Spot} {s : Tally} where
  pub resumes_last : phase ≡ LAST → {r : Next} → r ≡ given v p s → Less t w v row phase p s w r
  resumes_last e f = goes_to refl f (λ q o r. resume_last r e) (omega arith)

  pub resumes_inside : phase ≡ INSIDE → {live : ℕ} → live ≡ frame_mark w p.height → {s1 : Tally}
      → s1 ≡ record { units = s.units; births = s.births; cells = live; printed = s.printed } → {r : Next} → r ≡ given v p s1 → Less t w v row phase p s w r
  resumes_inside e {live} f g h =
      goes_to refl (h ∙ ap (λ (x : Tally). given v p x) g) (λ q o r. resume_inside r e live f) (omega arith)

  -- the frame waits for another part
  module _ {part : ℕ} {w1 : List ℕ} {r : Next} (y : r ≡ turned v p s part) where
    turns_to : (ph k : ℕ) → part ≡ row_word t row k → w1 ≡ put_phase w p.height ph
        → ((q : Run) (o : List ℕ) → Resuming t w v row phase p s q o → Good q t (put_phase w p.height ph) o (turned v p s (row_word t row k)))
        → Less t w v row phase p s w1 r
    turns_to ph k e x f = goes_to x (y ∙ ap (turned v p s) e) f (omega arith)

    pub resumes_before : phase ≡ BEFORE → part ≡ row_word t row SECOND → w1 ≡ put_phase w p.height LAST → Less t w v row phase p s w1 r
    resumes_before e f x = turns_to LAST SECOND f x (λ q o r. resume_before r e)

    pub resumes_then : phase ≡ CONDITION → {b : Bool} → b ≡ is_true (meant v) → b ≡ true → part ≡ row_word t row SECOND
        → w1 ≡ put_phase w p.height LAST → Less t w v row phase p s w1 r
    resumes_then e g h f x = turns_to LAST SECOND f x (λ q o r. resume_then r e (sym g ∙ h))

    pub resumes_else : phase ≡ CONDITION → {b : Bool} → b ≡ is_true (meant v) → b ≡ false → part ≡ row_word t row THIRD
        → w1 ≡ put_phase w p.height LAST → Less t w v row phase p s w1 r
    resumes_else e g h f x = turns_to LAST THIRD f x (λ q o r. resume_else r e (sym g ∙ h))

    pub resumes_test : phase ≡ TEST → {b : Bool} → b ≡ is_true (meant v) → b ≡ true → part ≡ row_word t row SECOND
        → w1 ≡ put_phase w p.height PASS → Less t w v row phase p s w1 r
    resumes_test e g h f x = turns_to PASS SECOND f x (λ q o r. resume_test r e (sym g ∙ h))

    pub resumes_pass : phase ≡ PASS → part ≡ row_word t row FIRST → w1 ≡ put_phase w p.height TEST → Less t w v row phase p s w1 r
    resumes_pass e f x = turns_to TEST FIRST f x (λ q o r. resume_pass r e)

  pub resumes_end : phase ≡ TEST → {b : Bool} → b ≡ is_true (meant v) → b ≡ false → {r : Next} → r ≡ given Nothing p s → Less t w v row phase p s w r
  resumes_end e g h f = goes_to refl f (λ q o r. resume_end r e (sym g ∙ h)) (omega arith)

  pub resumes_bound : phase ≡ BOUND → {part : ℕ} → part ≡ row_word t row SECOND → Survives v → {w1 : List ℕ} {r : Next}
      → w1 ≡ put_phase (put_slot w 0 (p.base + p.size) NAMELESS v) p.height LAST
      → r ≡ begun part v (above p.base (p.size + 1) p) s → Less t w v row phase p s w1 r
  resumes_bound e c back x y =
      goes_to x (y ∙ ap (λ (k : ℕ). begun k v (above p.base (p.size + 1) p) s) c) (λ q o r. resume_bound r e back) (omega arith)

  pub resumes_whole : Controls phase → (phase ≡ BOUND → ⊥) → (phase ≡ CONDITION → ⊥) → (phase ≡ TEST → ⊥) → (phase ≡ PASS → ⊥) → {r : Next}
      → r ≡ over Ending.complete v p s → Less t w v row phase p s w r
  resumes_whole c a b d e f = goes_to refl f (λ q o r. resume_whole r c a b d e) (omega arith)

  -- ---- what they ask

  pub row_before : phase ≡ BEFORE → Some (Resuming t w v row phase p s) → row < NODES
  row_before e x = before_inside x.holds e

  pub row_bound : phase ≡ BOUND → Some (Resuming t w v row phase p s) → row < NODES
  row_bound e x = bound_inside x.holds e

  pub row_condition : phase ≡ CONDITION → Some (Resuming t w v row phase p s) → row < NODES
  row_condition e x = condition_inside x.holds e

  pub row_test : phase ≡ TEST → Some (Resuming t w v row phase p s) → row < NODES
  row_test e x = test_inside x.holds e

  pub row_pass : phase ≡ PASS → Some (Resuming t w v row phase p s) → row < NODES
  row_pass e x = pass_inside x.holds e

  pub slot_bound : phase ≡ BOUND → Some (Resuming t w v row phase p s) → p.base + p.size < SLOTS
  slot_bound e x = bound_slot x.holds e

-- ---- operators

module _ {t w : List ℕ} {v : Value} {row : ℕ} {p : Spot} {s : Tally} where
  pub row_left : Some (Resuming t w v row LEFT p s) → row < NODES
  row_left x = left_inside x.holds refl

  pub slot_left : Some (Resuming t w v row LEFT p s) → p.base + p.size < SLOTS
  slot_left x = left_slot x.holds refl

  module _ {op : ℕ} (k : op ≡ row_word t row KIND) where
    pub lefts_settled : {b : Bool} → b ≡ settles (binary_of op) (meant v) → b ≡ true → {r : Next} → r ≡ given v p s
        → Goes (Resuming t w v row LEFT p s) t w (3 * s.units + p.height + 3) r
    lefts_settled e f g = goes_to refl g (λ q o r. resume_settled r refl op k (sym e ∙ f)) (omega arith)

    pub lefts_held : {b : Bool} → b ≡ settles (binary_of op) (meant v) → b ≡ false → {part : ℕ} → part ≡ row_word t row SECOND → Survives v
        → {w1 : List ℕ} {r : Next} → w1 ≡ put_phase (put_slot w 0 (p.base + p.size) NAMELESS v) p.height RIGHT
        → r ≡ begun part v (above p.base (p.size + 1) p) s → Goes (Resuming t w v row LEFT p s) t w1 (3 * s.units + p.height + 3) r
    lefts_held e f g back x y =
        goes_to x (y ∙ ap (λ (j : ℕ). begun j v (above p.base (p.size + 1) p) s) g)
        (λ q o r. resume_held r refl op k (sym e ∙ f) back) (omega arith)

  pub row_right : Some (Resuming t w v row RIGHT p s) → row < NODES
  row_right x = right_inside x.holds refl

  pub slot_right : Some (Resuming t w v row RIGHT p s) → p.base + p.size < SLOTS
  slot_right x = right_slot x.holds refl

  pub rights : {op place at : ℕ} → op ≡ row_word t row KIND → place ≡ row_word t row OWN → at ≡ p.base + p.size → (a : Value)
      → meant a ≡ value_at w 0 at → {w1 : List ℕ} {x : Outcome} → Applied (λ i σ. apply_binary i (binary_of op) (meant a) (meant v) σ) w w1 s x
      → {r : Next} → r ≡ onward x place v p s → Goes (Resuming t w v row RIGHT p s) t w1 (3 * s.units + p.height + 3) r
  rights {op} {place} {at} e f g a h {x = x} c d =
      goes_to refl d (λ q o r. resume_right r refl op place at e f g a h x c) (onward_less x place v p s (omega arith))

  pub row_unary : Some (Resuming t w v row UNARY p s) → row < NODES
  row_unary x = unary_inside x.holds refl

  module _ {op place : ℕ} (k : op ≡ row_word t row KIND) (i : place ≡ row_word t row OWN) where
    pub not_new : (op ≡ PREFIX + REF → ⊥) → Some (Resuming t w v row UNARY p s) → unary_of op ≡ new → ⊥
    not_new n x = unary_other x.holds refl op k n

    pub unaries : (x : Outcome) → Answered (λ i σ. apply_unary i (unary_of op) (meant v) σ) w s x → {r : Next} → r ≡ onward x place v p s
        → Goes (Resuming t w v row UNARY p s) t w (3 * s.units + p.height + 3) r
    unaries x c d = goes_to refl d (λ q o r. resume_unary r refl op place k i x c) (onward_less x place v p s (omega arith))

    pub creates : op ≡ PREFIX + REF → {w1 : List ℕ} {r : Next} → Creating place v w w1 p s r
        → Goes (Resuming t w v row UNARY p s) t w1 (3 * s.units + p.height + 3) r
    creates e {w1} {r} c = record {
      right = λ q o x. resume_create x refl op place k e i c;
      less = subst (λ (n : Next). weight n < 3 * s.units + p.height + 3) (sym c.is)
          (onward_less c.outcome place v p (after_birth c.outcome s) (birth_units c.outcome s));
    }
