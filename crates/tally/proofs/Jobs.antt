-- What is kept of a line's bytes tells the written job of the line (R14.2 to R14.4).
use lib.Dec.{eqb, leb}
use lib.ListN.{length}
use lib.Seq.{slice, take-nil, drop-nil}
use mathlib.Core.Bool.{Bool, true, false, cond, ◌&&◌}
use mathlib.Core.List.{List, [], ◌∷◌}
use mathlib.Core.Logic.{⊎_elim}
use mathlib.Core.Option.{Option, none, some}
use mathlib.Core.Path.{◌≡◌, refl, sym, ap, ◌∙◌}
use borrow.Author.Tests.{lt-leb, ne_eqb}
use native.Mathlib.Omega.{arith}
use Prim.Native.Nat.{ℕ, suc, ◌+◌, ◌*◌, ◌-◌, ◌≤◌, ◌<◌}
use Rattle.language.specs.Sizes.{LARGEST}
use Rattle.language.specs.Text.{worth, number_from}
use Rattle.language.specs.Shift as Shift
use Rattle.language.specs.Shift.{all_bytes, is_capital_hex, job_of}
use Rattle.language.specs.Feeding.{ended_line}
use Rattle.language.proofs.Text.Choices.{either, outcome}
use Rattle.language.proofs.Text.Digits.{number_least}
use Rattle.tally.specs.declared.lines.Part.{Part}
use Rattle.std.specs.Prelude.{Some, None}
use Rattle.tally.specs.Stands.{job_meant}
use Rattle.tally.specs.Parts.{no_part, spoilt, longer, longer_by, job_told}
use Rattle.tally.proofs.Laws.{spoilt_longer, digit_longer, other_longer, past_longer, loom_digit, picks_digit, picks_over, rate_digit, rate_over}

-- a line that is bad stays so
spoilt_by : (p : Part) (bytes : List ℕ) → p.bad ≡ true → longer_by p bytes ≡ p
unfolding longer_by
spoilt_by p [] e = refl
spoilt_by p (b ∷ bytes) e = ap (λ (q : Part). longer_by q bytes) (sym (spoilt_longer p b e)) ∙ spoilt_by p bytes e

-- ---- what is told of a part and the bytes that follow it

module _ (at picks rate : ℕ) (bytes : List ℕ) where
  abbrev all_picks : ℕ
  all_picks = number_from 16 picks (slice (4 - at) (12 - at) bytes)

  abbrev all_rate : ℕ
  all_rate = number_from 16 rate (slice (12 - at) (20 - at) bytes)

  told : Option Shift.Job
  told =
      cond (eqb (at + length bytes) 20 && (all_bytes is_capital_hex bytes && (leb all_picks LARGEST && leb all_rate LARGEST)))
      (some record { picks = all_picks; rate = all_rate }) none

-- none of four tests may fail
module _ {A : Type 0} (x : A) where
  abbrev four : Bool → Bool → Bool → Bool → Option A
  four a b c d = cond (a && (b && (c && d))) (some x) none

  second_fails : (a b c d : Bool) → b ≡ false → four a b c d ≡ none
  second_fails true b c d e = rw e
  second_fails false b c d e = refl

  third_fails : (a b c d : Bool) → c ≡ false → four a b c d ≡ none
  third_fails true true c d e = rw e
  third_fails true false c d e = refl
  third_fails false b c d e = refl

  fourth_fails : (a b c d : Bool) → d ≡ false → four a b c d ≡ none
  fourth_fails true true true d e = rw e
  fourth_fails true true false d e = refl
  fourth_fails true false c d e = refl
  fourth_fails false b c d e = refl

empty_slice : (i j : ℕ) → slice {A = ℕ} i j [] ≡ []
empty_slice i j = rw (take-nil {A = ℕ} j) (drop-nil i)

last_told : (p : Part) → p.bad ≡ false → job_meant (job_told p) ≡ told p.at p.picks p.rate []
unfolding told job_told all_bytes number_from
last_told p ok =
    let z : p.at + 0 ≡ p.at = omega arith in
    rw (ok, empty_slice (4 - p.at) (12 - p.at), empty_slice (12 - p.at) (20 - p.at), z)
    (by_tests (eqb p.at 20) (leb p.picks LARGEST) (leb p.rate LARGEST))
  where
    by_tests : (a b c : Bool) → job_meant (cond a (cond b (cond c (Some record { picks = p.picks; rate = p.rate }) None) None) None)
        ≡ cond (a && (true && (b && c))) (some record { picks = p.picks; rate = p.rate }) none
    by_tests true true true = refl
    by_tests true true false = refl
    by_tests true false c = refl
    by_tests false b c = refl

-- ---- one byte and the rest

module _ (p : Part) (ok : p.bad ≡ false) (b : ℕ) (t : List ℕ) where
  abbrev goal : Type 0
  goal = job_meant (job_told (longer_by p (b ∷ t))) ≡ told p.at p.picks p.rate (b ∷ t)

  bad_told : spoilt p ≡ longer p b → job_meant (job_told (longer_by p (b ∷ t))) ≡ none
  unfolding longer_by job_told
  bad_told e = ap (λ (q : Part). job_meant (job_told (longer_by q t))) (sym e) ∙ ap (λ (q : Part). job_meant (job_told q)) (spoilt_by (spoilt p) t refl)

  past_told : 20 ≤ p.at → goal
  unfolding told
  past_told h =
      bad_told (past_longer p ok b h) ∙ sym (rw (ne_eqb (p.at + suc (length t)) 20 (λ e. omega arith)) refl)

  other_told : p.at < 20 → is_capital_hex b ≡ false → goal
  unfolding told all_bytes
  other_told h e =
      let x = leb (all_picks p.at p.picks p.rate (b ∷ t)) LARGEST in
      let y = leb (all_rate p.at p.picks p.rate (b ∷ t)) LARGEST in
      let z : (is_capital_hex b && all_bytes is_capital_hex t) ≡ false = rw e in
      bad_told (other_longer p ok b h e)
      ∙ sym (second_fails _ (eqb (p.at + suc (length t)) 20) (is_capital_hex b && all_bytes is_capital_hex t) x y z)

  picks_large : 4 ≤ p.at → p.at < 12 → LARGEST < p.picks → is_capital_hex b ≡ true → goal
  unfolding told
  picks_large h k l e =
      let n = number_least 16 p.picks (slice (4 - p.at) (12 - p.at) (b ∷ t)) (omega arith) in
      bad_told (picks_over p (worth b) h k l ∙ digit_longer p ok b (omega arith) e)
      ∙ sym (third_fails _ (eqb (p.at + suc (length t)) 20) (all_bytes is_capital_hex (b ∷ t)) (leb (all_picks p.at p.picks p.rate (b ∷ t)) LARGEST)
      (leb (all_rate p.at p.picks p.rate (b ∷ t)) LARGEST) (lt-leb (all_picks p.at p.picks p.rate (b ∷ t)) LARGEST (omega arith)))

  rate_large : 12 ≤ p.at → p.at < 20 → LARGEST < p.rate → is_capital_hex b ≡ true → goal
  unfolding told
  rate_large h k l e =
      let n = number_least 16 p.rate (slice (12 - p.at) (20 - p.at) (b ∷ t)) (omega arith) in
      bad_told (rate_over p (worth b) h l ∙ digit_longer p ok b k e)
      ∙ sym (fourth_fails _ (eqb (p.at + suc (length t)) 20) (all_bytes is_capital_hex (b ∷ t)) (leb (all_picks p.at p.picks p.rate (b ∷ t)) LARGEST)
      (leb (all_rate p.at p.picks p.rate (b ∷ t)) LARGEST) (lt-leb (all_rate p.at p.picks p.rate (b ∷ t)) LARGEST (omega arith)))

  -- a digit, and what is told of the rest
  digit_told : (q : Part) → q ≡ longer p b → job_meant (job_told (longer_by q t)) ≡ told q.at q.picks q.rate t
      → told q.at q.picks q.rate t ≡ told p.at p.picks p.rate (b ∷ t) → goal
  unfolding longer_by
  digit_told q e h k = ap (λ (q : Part). job_meant (job_told (longer_by q t))) (sym e) ∙ h ∙ k

-- ---- a digit counts for the loom, the picks or the rate

module _ (at picks rate b : ℕ) (t : List ℕ) (hex : is_capital_hex b ≡ true) where
  longer_at : at + suc (length t) ≡ at + 1 + length t
  longer_at = omega arith

  loom_told : at < 4 → told (at + 1) picks rate t ≡ told at picks rate (b ∷ t)
  unfolding told all_bytes
  loom_told h =
      let x : 4 - at ≡ suc (4 - (at + 1)) = omega arith in
      let y : 12 - at ≡ suc (12 - (at + 1)) = omega arith in
      let z : 20 - at ≡ suc (20 - (at + 1)) = omega arith in
      rw (x, y, z, longer_at, hex) refl

  picks_told : 4 ≤ at → at < 12 → told (at + 1) (picks * 16 + worth b) rate t ≡ told at picks rate (b ∷ t)
  unfolding told all_bytes number_from
  picks_told h k =
      let w : 4 - (at + 1) ≡ 0 = omega arith in
      let x : 4 - at ≡ 0 = omega arith in
      let y : 12 - at ≡ suc (12 - (at + 1)) = omega arith in
      let z : 20 - at ≡ suc (20 - (at + 1)) = omega arith in
      rw (w, x, y, z, longer_at, hex) refl

  rate_told : 12 ≤ at → at < 20 → told (at + 1) picks (rate * 16 + worth b) t ≡ told at picks rate (b ∷ t)
  unfolding told all_bytes number_from
  rate_told h k =
      let v : 4 - (at + 1) ≡ 0 = omega arith in
      let w : 12 - (at + 1) ≡ 0 = omega arith in
      let x : 4 - at ≡ 0 = omega arith in
      let y : 12 - at ≡ 0 = omega arith in
      let z : 20 - at ≡ suc (20 - (at + 1)) = omega arith in
      rw (v, w, x, y, z, longer_at, hex) refl

-- ---- all bytes

told_by : (bytes : List ℕ) (p : Part) → p.bad ≡ false → p.at ≤ 20 → job_meant (job_told (longer_by p bytes)) ≡ told p.at p.picks p.rate bytes
unfolding longer_by
told_by [] p ok few = last_told p ok
told_by (b ∷ t) p ok few =
    ⊎_elim
    (λ l. ⊎_elim
    (λ hex. ⊎_elim
    (λ a. let q : Part = record { at = p.at + 1; picks = p.picks; rate = p.rate; bad = p.bad } in
    digit_told p ok b t q (loom_digit p (worth b) a ∙ digit_longer p ok b l hex) (told_by t q ok (omega arith))
    (loom_told p.at p.picks p.rate b t hex a))
    (λ a. ⊎_elim
    (λ c. ⊎_elim (λ o. picks_large p ok b t a c o hex)
    (λ o. let q : Part = record { at = p.at + 1; picks = p.picks * 16 + worth b; rate = p.rate; bad = p.bad } in
    digit_told p ok b t q (picks_digit p (worth b) a c o ∙ digit_longer p ok b l hex) (told_by t q ok (omega arith))
    (picks_told p.at p.picks p.rate b t hex a c))
    (either LARGEST p.picks))
    (λ c. ⊎_elim (λ o. rate_large p ok b t c l o hex)
    (λ o. let q : Part = record { at = p.at + 1; picks = p.picks; rate = p.rate * 16 + worth b; bad = p.bad } in
    digit_told p ok b t q (rate_digit p (worth b) c o ∙ digit_longer p ok b l hex) (told_by t q ok (omega arith))
    (rate_told p.at p.picks p.rate b t hex c l))
    (either LARGEST p.rate))
    (either p.at 12))
    (either p.at 4))
    (λ other. other_told p ok b t l other) (outcome (is_capital_hex b)))
    (λ l. past_told p ok b t l) (either p.at 20)

-- so the bytes of a line that has ended tell its job
pub kept_job : (bytes : List ℕ) → job_meant (job_told (longer_by no_part bytes)) ≡ job_of (ended_line bytes)
unfolding told job_of
kept_job bytes =
    let z : 0 + length bytes ≡ length bytes = omega arith in
    rw z at (told_by bytes no_part refl (omega arith))
