-- A line of an input by the run of digits at its begin: what it holds, or why it is none; and the count.
use borrow.Author.Tests.{ltb-true, ltb-false}
use lib.ListN.{length, take, drop, take-append-drop, get_or-eq_default}
use lib.Seq.{slice, length-slice, drop-cons, drop-append-le, length-take-le, get_or-take, get_or-drop, drop-length}
use mathlib.Core.List.{List, [], ◌∷◌, ◌++◌, append-nil}
use mathlib.Core.Logic.{⊎_elim}
use mathlib.Core.Path.{◌≡◌, refl, sym, ap, subst, ◌∙◌}
use native.Mathlib.Numerals.{add-one}
use native.Mathlib.Omega.{arith}
use Prim.Native.Nat.{ℕ, zero, suc, ◌+◌, ◌-◌, ◌*◌, ◌/◌, ◌%◌, ◌≤◌, ◌<◌}
use Rattle.language.proofs.Stored.Digits as Digits
use Rattle.language.proofs.Stored.Digits.{Digits, each_digit, hex_shown, hex_long, digits_line, odd_none, stray_none, digits_unended}
use Rattle.language.proofs.Stored.Hex.{digit_worth}
use Rattle.language.proofs.Stored.Lines.{first_taken, taken_count, one_first_line}
use Rattle.language.proofs.Text.Choices.{either}
use Rattle.language.proofs.Text.Runs.{Run}
use Rattle.language.specs.Stored.{hex, count_line, FirstLine, FirstCount}
use Rattle.language.specs.Text.{byte}
use Rattle.tokens.proofs.HexDigits.{told_shown}
use Rattle.tokens.specs.Shown.{is_capital, told}
use Rattle.stored.specs.Lines.{LineTo, CountTo}

module _ {t : List ℕ} {p e : ℕ} (r : Run is_capital t p e) where
  -- what begins at p is the run, and what is behind it
  cut : drop p t ≡ slice p e t ++ drop e t
  cut =
      ap (drop p) (sym (take-append-drop e t))
      ∙ drop-append-le p (take e t) (drop e t) (omega (arith, r.order, length-take-le e t r.within))

  digit : (i : ℕ) → i < length (slice p e t) → digit_worth (byte (slice p e t) i) < 16
  unfolding is_capital
  digit i h =
      let l = length-slice p e t r.within in
      let x : p + i < e = omega (arith, l, r.order) in
      let same : byte (slice p e t) i ≡ byte t (p + i) = get_or-drop p (take e t) i 0 ∙ get_or-take e t (p + i) 0 x in
      subst (λ (b : ℕ). digit_worth b < 16) (sym same) (ltb-true (digit_worth (byte t (p + i))) 16 (r.each (p + i) x (omega arith)))

  digits : Digits (slice p e t)
  digits = each_digit (slice p e t) digit

  -- the byte behind the run, and what follows it
  behind : e < length t → drop p t ≡ slice p e t ++ (byte t e ∷ drop (e + 1) t)
  behind h = cut ∙ rw (drop-cons t e 0 h, add-one e) refl

  -- the run ends with no LF
  pub no_feed : (byte t e ≡ 10 → ⊥) → (s more : List ℕ) → FirstLine (drop p t) s more → ⊥
  unfolding is_capital
  no_feed n s more f =
      ⊎_elim
      (λ h. stray_none (slice p e t) (byte t e) (drop (e + 1) t) digits (ltb-false (digit_worth (byte t e)) 16 (r.stop h)) n (behind h) f)
      (λ h. let x : e ≡ length t = omega (arith, r.within) in
      let y : slice p e t ≡ drop p t = sym (append-nil (slice p e t)) ∙ rw (← drop-length t, ← x) (sym cut) in
      digits_unended (subst Digits y digits) f)
      (either e (length t))

  -- its digits are none or odd
  pub no_pairs : ((e - p) % 2 ≡ 0 → e ≡ p) → (s more : List ℕ) → FirstLine (drop p t) s more → ⊥
  no_pairs n s more f = ⊎_elim (λ x. no_feed (λ y. omega arith) s more f)
      (λ x. ⊎_elim (λ y. no_feed (λ z. omega arith) s more f) (λ y. ended (omega arith)) (either 10 (byte t e)))
      (either (byte t e) 10)
    where
      ended : byte t e ≡ 10 → ⊥
      ended x =
          ⊎_elim
          (λ h. let l = length-slice p e t r.within in
          odd_none (slice p e t) (drop (e + 1) t) digits (λ k. let z = n (rw (← l) k) in omega arith)
          (behind h ∙ ap (λ (b : ℕ). slice p e t ++ (b ∷ drop (e + 1) t)) x) f)
          (λ h. omega (arith, x, past h)) (either e (length t))
        where
          past : length t ≤ e → byte t e ≡ 0
          past h = get_or-eq_default t 0 h

  -- two digits a byte, and LF
  pub line_is : (e ≡ p → ⊥) → (e - p) % 2 ≡ 0 → byte t e ≡ 10 → LineTo t p e
  line_is some even feed = record {
    some = omega (arith, r.order, some);
    inside = inside;
    line = subst (λ (s : List ℕ). FirstLine (drop p t) s (drop (e + 1) t)) (sym told_is) found;
    digits = ap hex told_is ∙ hex_shown (slice p e t) digits pairs;
  }
    where
      long : length (slice p e t) ≡ e - p
      long = length-slice p e t r.within

      pairs : length (slice p e t) % 2 ≡ 0
      pairs = rw long even

      inside : e < length t
      inside = ⊎_elim (λ h. h) (λ h. absurd (omega (arith, feed, get_or-eq_default t 0 h))) (either e (length t))

      told_is : told (slice p e t) ≡ Digits.shown (slice p e t)
      told_is = told_shown (slice p e t) digits

      found : FirstLine (drop p t) (Digits.shown (slice p e t)) (drop (e + 1) t)
      found =
          digits_line (drop p t) (slice p e t) (drop (e + 1) t) digits (omega (arith, long, r.order, some)) pairs
          (behind inside ∙ ap (λ (b : ℕ). slice p e t ++ (b ∷ drop (e + 1) t)) feed)

-- ---- bytes and digits of a line

module _ {t : List ℕ} {p e : ℕ} (l : LineTo t p e) where
  pub line_digits : e - p ≡ length (told (slice p e t)) * 2
  line_digits = sym (length-slice p e t (omega (arith, l.inside))) ∙ ap length (sym l.digits) ∙ hex_long (told (slice p e t))

-- ---- the count

count_first : {t r : List ℕ} {n : ℕ} → FirstCount t n r → FirstLine t (n / 256 ∷ n % 256 ∷ []) r
unfolding count_line
count_first {n = n} f = record { begins = f.begins; bytes = record { some = omega arith; each = each } }
  where
    each : (i : ℕ) → byte (n / 256 ∷ n % 256 ∷ []) i ≤ 255
    each zero = omega (arith, f.digits)
    each (suc zero) = omega arith
    each (suc (suc i)) = none i
      where
        none : (i : ℕ) → byte [] i ≤ 255
        none zero = omega arith
        none (suc i) = omega arith

-- a first line that is none, or has another number of digits, tells no count
pub no_count : {t : List ℕ} → ((s more : List ℕ) → FirstLine t s more → ⊥) → (n : ℕ) (rest : List ℕ) → FirstCount t n rest → ⊥
no_count h n rest f = h _ rest (count_first f)

pub other_count : {t : List ℕ} {e : ℕ} → LineTo t 0 e → (e ≡ 4 → ⊥) → (n : ℕ) (rest : List ℕ) → FirstCount t n rest → ⊥
other_count l h n rest f = h (omega (arith, line_digits l, ap length (one_first_line l.line (count_first f)).0))

two_bytes : (s : List ℕ) → length s ≡ 2 → s ≡ byte s 0 ∷ byte s 1 ∷ []
two_bytes [] h = absurd (omega arith)
two_bytes (a ∷ []) h = absurd (omega arith)
two_bytes (a ∷ b ∷ []) h = refl
two_bytes (a ∷ b ∷ c ∷ s) h = absurd (omega arith)

-- four digits do
pub count_is : {t : List ℕ} {e high low : ℕ} → LineTo t 0 e → e ≡ 4 → high ≡ byte (told (slice 0 4 t)) 0 → low ≡ byte (told (slice 0 4 t)) 1
    → CountTo t (high * 256 + low)
count_is {t} {e} {high} {low} l h x y =
    let k = subst (LineTo t 0) h l in
    let s = told (slice 0 4 t) in
    let z = two_bytes s (omega (arith, line_digits k)) in
    record {
      inside = omega (arith, k.inside);
      count = rw (x, y) (taken_count t (byte s 0) (byte s 1) (drop 5 t) (first_taken k.line ∙ rw (← z) refl));
    }
