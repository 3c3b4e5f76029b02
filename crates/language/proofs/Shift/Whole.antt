-- What is fed, one byte after the other or in whatever pieces, comes to the written report of the whole (R14.6, R14.8).
use lib.Dec.{ltb}
use lib.ListN.{length, take, length-append}
use lib.Seq.{take-nil}
use mathlib.Core.Bool.{Bool, true, false, cond}
use mathlib.Core.List.{List, [], ◌∷◌, ◌++◌, append_assoc, append-nil}
use mathlib.Core.Option.{Option, none, some}
use mathlib.Core.Path.{◌≡◌, refl, sym, ap, subst, ◌∙◌}
use borrow.Author.Tests.{lt-ltb, le-ltb}
use native.Mathlib.Omega.{arith}
use Prim.Native.Nat.{ℕ, suc, ◌+◌, ◌-◌, ◌≤◌, ◌<◌}
use Rattle.language.specs.Sizes.{LINES}
use Rattle.language.specs.Text.{is_in_line}
use Rattle.language.specs.Answers.{Lent}
use Rattle.language.specs.Shift.{Line, led_by, lines, all_bytes, job_of, Outcome, bad, Comes, comes_bad, AllCome, none_comes, one_comes}
use Rattle.language.specs.Shift.{ShiftRefusal, many_lines, report_of, told_of, Shift}
use Rattle.language.specs.Feeding.{Sofar, begun, with_byte, with_outcome, ended_line, open_line, step_past, step_full, step_byte}
use Rattle.language.specs.Feeding.{step_feed, Fed, fed_none, fed_more, closed, closed_told}
use Rattle.language.proofs.Text.Choices.{and_both, clash}
use Rattle.language.proofs.Shift.Decimals.{all_append}

-- ---- the lines of bytes that hold no LF

lines_open : (b : ℕ) (p : List ℕ) → all_bytes is_in_line (b ∷ p) ≡ true → lines (b ∷ p) ≡ open_line (b ∷ p) ∷ []
unfolding lines all_bytes
lines_open b [] h = rw (and_both (is_in_line b) true h).0
lines_open b (c ∷ p) h =
    let z = and_both (is_in_line b) (all_bytes is_in_line (c ∷ p)) h in
    rw z.0 (ap (led_by b) (lines_open c p z.1))

lines_ended : (p : List ℕ) (b : ℕ) (t : List ℕ) → all_bytes is_in_line p ≡ true → is_in_line b ≡ false → lines (p ++ (b ∷ t)) ≡ ended_line p ∷ lines t
unfolding lines all_bytes
lines_ended [] b t h e = rw e
lines_ended (a ∷ p) b t h e =
    let z = and_both (is_in_line a) (all_bytes is_in_line p) h in
    rw z.0 (ap (led_by a) (lines_ended p b t z.1 e))

led_some : (b : ℕ) (ls : List Line) → 0 < length (led_by b ls)
led_some b [] = omega arith
led_some b (l ∷ ls) = omega arith

lines_some : (b : ℕ) (t : List ℕ) → 0 < length (lines (b ∷ t))
unfolding lines
lines_some b t = go (is_in_line b)
  where
    go : (x : Bool) → 0 < length (cond x (led_by b (lines t)) (ended_line [] ∷ lines t))
    go true = led_some b (lines t)
    go false = omega arith

open_bad : (p : List ℕ) → job_of (open_line p) ≡ none
unfolding job_of
open_bad p = refl

-- what is so of it, while no line is too many
pub record Open (s : Sofar) : Type 0 where
  pub going : s.over ≡ false
  pub in_line : all_bytes is_in_line s.part ≡ true
  pub few : length s.outcomes ≤ LINES
  pub room : 0 < length s.part → length s.outcomes < LINES

abbrev told_at : ℕ → Option ShiftRefusal
told_at n = cond (ltb LINES n) (some many_lines) none

empty_in_line : all_bytes is_in_line [] ≡ true
unfolding all_bytes
empty_in_line = refl

record Tells (ed : ℕ) (book : List ℕ) (l : Lent) (s : Sofar) (ls : List Line) (e : Sofar) : Type 0 where
  outcomes : List Outcome
  come : AllCome ed book l (take (LINES - length s.outcomes) ls) outcomes s.output e.output
  reports : closed e ≡ s.outcomes ++ outcomes
  refuses : closed_told e ≡ told_at (length s.outcomes + length ls)

module _ {ed : ℕ} {book : List ℕ} {l : Lent} where
  past_stays : {s e : Sofar} {x : List ℕ} → s.over ≡ true → Fed ed book l s x e → e ≡ s
  past_stays h fed_none = refl
  past_stays h (fed_more (step_past k) f) = past_stays h f
  past_stays h (fed_more (step_full k r) f) = absurd (clash h k)
  past_stays h (fed_more (step_byte k r i) f) = absurd (clash h k)
  past_stays h (fed_more (step_feed k r i c) f) = absurd (clash h k)

  -- no byte
  nothing_more : (s : Sofar) (p : List ℕ) → p ≡ s.part → Open s → Tells ed book l s (lines (p ++ [])) s
  unfolding lines closed closed_told
  nothing_more s [] q o = record {
    outcomes = [];
    come = rw (take-nil (LINES - length s.outcomes)) none_comes;
    reports = rw (o.going, sym q) refl;
    refuses = rw (o.going, le-ltb LINES (length s.outcomes + 0) (omega (arith, o.few))) refl;
  }
  nothing_more s (b ∷ p) q o =
      let n : length s.outcomes < LINES = o.room (omega (arith, ap length q)) in
      let k : LINES - length s.outcomes ≡ suc (LINES - length s.outcomes - 1) = omega arith in
      let e : lines ((b ∷ p) ++ []) ≡ open_line (b ∷ p) ∷ [] =
      ap lines (append-nil (b ∷ p)) ∙ lines_open b p (rw q o.in_line) in
      rw e
      (record {
        outcomes = bad ∷ [];
        come = rw (k, take-nil (LINES - length s.outcomes - 1)) (one_comes (comes_bad (open_bad (b ∷ p))) none_comes);
        reports = rw (o.going, sym q) refl;
        refuses = rw (o.going, le-ltb LINES (length s.outcomes + 1) (omega arith)) refl;
      })

  -- a line past the last that there may be
  too_many : (s : Sofar) (b : ℕ) (t : List ℕ) → LINES ≤ length s.outcomes → Open s
      → Tells ed book l s (lines (s.part ++ (b ∷ t))) record { outcomes = s.outcomes; part = s.part; over = true; output = s.output }
  unfolding closed closed_told
  too_many s b t n o = go s.part o.room
    where
      go : (p : List ℕ) → (0 < length p → length s.outcomes < LINES)
          → Tells ed book l s (lines (p ++ (b ∷ t))) record { outcomes = s.outcomes; part = s.part; over = true; output = s.output }
      go (a ∷ p) h = absurd (omega (arith, h (omega arith)))
      go [] h =
          let k : LINES - length s.outcomes ≡ 0 = omega arith in
          record {
            outcomes = [];
            come = rw k none_comes;
            reports = sym (append-nil s.outcomes);
            refuses = rw (lt-ltb LINES (length s.outcomes + length (lines (b ∷ t))) (omega (arith, o.few, lines_some b t))) refl;
          }

  -- a line that ends
  line_more : (s : Sofar) (b : ℕ) (t : List ℕ) (x : Outcome) (printed : List ℕ) (e : Sofar) → length s.outcomes < LINES → is_in_line b ≡ false → Open s
      → Comes ed book l (ended_line s.part) x printed → Tells ed book l (with_outcome s x printed) (lines t) e
      → Tells ed book l s (lines (s.part ++ (b ∷ t))) e
  line_more s b t x printed e n i o c h =
      let k : LINES - length s.outcomes ≡ suc (LINES - length (s.outcomes ++ (x ∷ []))) = omega (arith, length-append s.outcomes (x ∷ [])) in
      let z : length (s.outcomes ++ (x ∷ [])) + length (lines t) ≡ length s.outcomes + suc (length (lines t)) =
      omega (arith, length-append s.outcomes (x ∷ []))
      in
      rw (lines_ended s.part b t o.in_line i)
      (record {
        outcomes = x ∷ h.outcomes;
        come = rw k (one_comes c h.come);
        reports = h.reports ∙ append_assoc s.outcomes (x ∷ []) h.outcomes;
        refuses = h.refuses ∙ ap told_at z;
      })

  -- a byte of a line
  byte_more : (s : Sofar) (b : ℕ) (t : List ℕ) (e : Sofar) → Tells ed book l (with_byte s b) (lines ((s.part ++ (b ∷ [])) ++ t)) e
      → Tells ed book l s (lines (s.part ++ (b ∷ t))) e
  byte_more s b t e h =
      let z : lines ((s.part ++ (b ∷ [])) ++ t) ≡ lines (s.part ++ (b ∷ t)) = ap lines (append_assoc s.part (b ∷ []) t) in
      rw (sym z) (record { outcomes = h.outcomes; come = h.come; reports = h.reports; refuses = h.refuses })

  fed_tells : {s e : Sofar} (t : List ℕ) → Open s → Fed ed book l s t e → Tells ed book l s (lines (s.part ++ t)) e
  fed_tells {s} [] o fed_none = nothing_more s s.part refl o
  fed_tells (b ∷ t) o (fed_more (step_past k) f) = absurd (clash k o.going)
  fed_tells {s} {e} (b ∷ t) o (fed_more (step_full k n) f) =
      subst (Tells ed book l s (lines (s.part ++ (b ∷ t)))) (sym (past_stays refl f)) (too_many s b t n o)
  fed_tells {s} {e} (b ∷ t) o (fed_more (step_byte k n i) f) =
      byte_more s b t e
      (fed_tells t
      record {
        going = k;
        in_line = all_append is_in_line s.part b o.in_line i;
        few = o.few;
        room = λ h. n;
      }
      f)
  fed_tells {s} {e} (b ∷ t) o (fed_more (step_feed {o = x} {printed = printed} k n i c) f) =
      line_more s b t x printed e n i o c
      (fed_tells t
      record {
        going = k;
        in_line = empty_in_line;
        few = omega (arith, length-append s.outcomes (x ∷ []));
        room = λ h. absurd (omega arith);
      }
      f)

-- R14.8: what is fed from the start on comes to the written report
pub fed_shift : {ed : ℕ} {book : List ℕ} {l : Lent} {e : Sofar} (input output : List ℕ) → Fed ed book l (begun output) input e
    → Shift ed book l input output (closed_told e) (report_of (closed e)) e.output
unfolding told_of
fed_shift input output f =
    let o : Open (begun output) =
    record { going = refl; in_line = empty_in_line; few = omega arith; room = λ h. absurd (omega arith) } in
    let z = fed_tells input o f in
    let n : 0 + length (lines input) ≡ length (lines input) = omega arith in
    record { outcomes = z.outcomes; come = z.come; reports = ap report_of z.reports; refuses = z.refuses ∙ ap told_at n }
