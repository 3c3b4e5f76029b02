-- What a state takes is what is fed, by the written meaning: a state that has what is known of an input so far has it with the
-- bytes behind it (R14.2 to R14.6).
use lib.ListN.{length}
use mathlib.Core.List.{List, [], ◌∷◌, ◌++◌}
use mathlib.Core.Path.{◌≡◌, refl, sym, ap, subst, ◌∙◌}
use native.Mathlib.Omega.{arith}
use Prim.Native.Nat.{ℕ, ◌<◌}
use Rattle.language.specs.Sizes.{LINES}
use Rattle.language.specs.Answers.{Lent}
use Rattle.language.specs.Shift.{job_of, Comes, comes_bad, comes_run}
use Rattle.language.specs.Feeding.{Sofar, begun, filled, with_outcome, ended_line, Steps, step_past, step_full, step_byte, step_feed, Fed, fed_none, fed_more}
use Rattle.language.specs.Feeding as Written
use Rattle.tally.specs.Parts.{no_part, longer_by, job_told}
use Rattle.tally.specs.Parts as Tally
use Rattle.tally.specs.Stands.{Stands, job_meant, outcome_meant}
use Rattle.std.specs.Prelude as Prelude
use Rattle.tally.specs.declared.lines.Job.{Job}
use Rattle.tally.specs.declared.lines.Part.{Part}
use Rattle.tally.specs.declared.sums.Outcome.{Outcome}
use Rattle.tally.proofs.Jobs.{kept_job}
use Rattle.tally.proofs.Reported.{added_stands, none_stands}
use Rattle.shift.specs.declared.State.{State}
use Rattle.shift.specs.Meanings.{new_state}
use Rattle.shift.specs.After.{After}
use Rattle.shift.specs.Taking.{needed, EndedLine, Ends, ends_bad, ends_run, printed_over, with_byte, overfull, summed_up, EndsNone}
use Rattle.shift.specs.Taking.{past, full, inside, Takes, takes_none, takes_byte, takes_line}
use Rattle.shift.proofs.Kept.{longer_last}
use Rattle.shift.proofs.Sound as Sound
use Rattle.shift.proofs.Sound.{bad_ints, run_ints}
use Rattle.shift.proofs.Taken.{takes_joined, takes_allowance}

-- the state has what is known so far
pub record Keeps (state : State) (s : Sofar) : Type 0 where
  pub part : state.part ≡ longer_by no_part s.part
  pub sums : Stands s.outcomes state.sums
  pub over : state.over ≡ s.over
  pub ints : Sound.Ints s

pub new_keeps : (allowance : ℕ) (output : List ℕ) → Keeps (new_state allowance) (begun output)
unfolding longer_by
new_keeps allowance output = record { part = refl; sums = none_stands; over = refl; ints = Sound.begun_ints output }

-- ---- one byte

module _ {s : State} {x : Sofar} (k : Keeps s x) where
  goes_on : {y : _} → s.over ≡ y → x.over ≡ y
  goes_on h = sym k.over ∙ h

  full_keeps : Keeps (overfull s) (filled x)
  full_keeps = record { part = k.part; sums = k.sums; over = refl; ints = k.ints }

  byte_keeps : (b : ℕ) → Keeps (with_byte s b) (Written.with_byte x b)
  byte_keeps b = record {
    part = ap (λ (p : Part). Tally.longer p b) k.part ∙ sym (longer_last no_part x.part b);
    sums = k.sums;
    over = k.over;
    ints = k.ints;
  }

  line_keeps : (o : Outcome) (printed : List ℕ) → length x.outcomes < LINES → Sound.Ints (with_outcome x (outcome_meant o) printed)
      → Keeps (summed_up s o) (with_outcome x (outcome_meant o) printed)
  unfolding longer_by
  line_keeps o printed few ints =
      record { part = refl; sums = added_stands x.outcomes s.sums o k.sums few k.ints; over = k.over; ints = ints }

  -- the job that was kept is the one of the line
  job_so : {j : Prelude.Option Job} → job_told s.part ≡ j → job_of (ended_line x.part) ≡ job_meant j
  job_so e = sym (kept_job x.part) ∙ ap (λ (p : Part). job_meant (job_told p)) (sym k.part) ∙ ap job_meant e

  ends_comes : {ed : ℕ} {book : List ℕ} {l : Lent} {line : EndedLine} → Ends ed book l s.part line
      → Comes ed book l (ended_line x.part) (outcome_meant line.outcome) line.printed
  ends_comes (ends_bad e) = comes_bad (job_so e)
  ends_comes (ends_run e r) = comes_run (job_so e) r

  ends_ints : {ed : ℕ} {book : List ℕ} {l : Lent} {line : EndedLine} → Ends ed book l s.part line
      → Sound.Ints (with_outcome x (outcome_meant line.outcome) line.printed)
  ends_ints (ends_bad e) = bad_ints x [] k.ints
  ends_ints (ends_run {o = o} {printed = printed} e r) = run_ints x (outcome_meant o) printed k.ints r

-- ---- one after the other

-- so many bytes more were fed, and the state has that; what lies in the output is what the lines printed
pub record Stood (ed : ℕ) (book : List ℕ) (l : Lent) (x : Sofar) (bytes : List ℕ) (lines : List EndedLine) (e : State) : Type 0 where
  pub so_far : Sofar
  pub fed : Fed ed book l x bytes so_far
  pub keeps : Keeps e so_far
  pub output : so_far.output ≡ printed_over x.output lines

module _ {ed : ℕ} {book : List ℕ} where
  more : {l : Lent} {x m : Sofar} {b : ℕ} {bytes : List ℕ} {lines : List EndedLine} {e : State} → Steps ed book l x b m → m.output ≡ x.output
      → Stood ed book l m bytes lines e → Stood ed book l x (b ∷ bytes) lines e
  more {lines = lines} a h z = record {
    so_far = z.so_far;
    fed = fed_more a z.fed;
    keeps = z.keeps;
    output = z.output ∙ ap (λ (out : List ℕ). printed_over out lines) h;
  }

module _ {ed : ℕ} {book : List ℕ} {room : ℕ} where
  -- one byte that ends no line, where what follows stands from any state in which it leaves the shift
  one_byte : {s e : State} (b : ℕ) {m : State} {bytes : List ℕ} {lines : List EndedLine} {x : Sofar} → Keeps s x → EndsNone s b m
      → ((y : Sofar) → Keeps m y → Stood ed book (needed room m.allowance) y bytes lines e)
      → Stood ed book (needed room s.allowance) x (b ∷ bytes) lines e
  one_byte b {x = x} k (past h) later = more (step_past (goes_on k h)) refl (later x k)
  one_byte b k (full h n) later = more (step_full (goes_on k h) (omega (arith, k.sums.lines))) refl (later _ (full_keeps k))
  one_byte b k (inside g i) later =
      more (step_byte (goes_on k g.going) (omega (arith, k.sums.lines, g.few)) i) refl (later _ (byte_keeps k b))

  pub takes_stood : {s e : State} {bytes : List ℕ} {lines : List EndedLine} {x : Sofar} → Keeps s x → Takes ed book room s bytes lines e
      → Stood ed book (needed room s.allowance) x bytes lines e
  unfolding printed_over
  takes_stood {x = x} k takes_none = record { so_far = x; fed = fed_none; keeps = k; output = refl }
  takes_stood k (takes_byte {b = b} a t) = one_byte b k a (λ y h. takes_stood {x = y} h t)
  takes_stood {x = x} k (takes_line {line = line} g i c t) =
      let few : length x.outcomes < LINES = omega (arith, k.sums.lines, g.few) in
      let z = takes_stood (line_keeps k line.outcome line.printed few (ends_ints k c)) t in
      record {
        so_far = z.so_far;
        fed = fed_more (step_feed (goes_on k g.going) few i (ends_comes k c)) z.fed;
        keeps = z.keeps;
        output = z.output;
      }

-- ---- what a state stands for

module _ {ed : ℕ} {book : List ℕ} {room : ℕ} where
  -- a new one for no input
  pub after_start : (allowance : ℕ) → After ed book room [] (new_state allowance)
  after_start allowance = record { lines = []; taken = takes_none }

  -- and with a piece behind it for the input with the piece behind it
  pub after_more : {input piece : List ℕ} {s e : State} {lines : List EndedLine} → After ed book room input s → Takes ed book room s piece lines e
      → After ed book room (input ++ piece) e
  after_more {input} {piece} {e = e} {lines} a t = record {
    lines = a.lines ++ lines;
    taken = subst (λ (n : ℕ). Takes ed book room (new_state n) (input ++ piece) (a.lines ++ lines) e) (sym (takes_allowance t))
        (takes_joined a.taken t);
  }
