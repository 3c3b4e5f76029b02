-- A token is spelled with bytes: letters, digits, `_` and the point are, and so are the marks of both editions. So each token of a
-- split has a line.
use lib.Dec.{eqb, leb}
use lib.ListN.{length, get_or, get_or-eq_default}
use lib.Seq.{slice, length-slice}
use mathlib.Core.Bool.{Bool, true, ◌&&◌, ◌||◌}
use mathlib.Core.List.{List, [], ◌∷◌}
use mathlib.Core.Logic.{⊎_elim}
use mathlib.Core.Path.{◌≡◌, refl, ap, ◌∙◌}
use borrow.Author.Tests.{eqb-true, leb-true}
use native.Mathlib.Omega.{arith}
use Prim.Native.Nat.{ℕ, zero, suc, ◌+◌, ◌-◌, ◌≤◌, ◌<◌}
use Rattle.language.specs.Sizes.{BYTE}
use Rattle.language.specs.Tokens.{Spelling, Vocabulary, EDITION_1, EDITION_2, Token}
use Rattle.language.specs.Text.{byte, is_letter, is_digit, is_name_byte, Content, token, Form}
use Rattle.language.specs.Text.Form.{blank, line, comment, unended, name, number, based, float, mark}
use Rattle.language.specs.Stored.{Bytes}
use Rattle.language.proofs.Text.Alone.{byte_slice, IsToken}
use Rattle.language.proofs.Text.Choices.{either, and_both, or_either}
use Rattle.language.proofs.Text.Classes.{letter_bounds, digit_bounds, name_digit_of}
use Rattle.language.proofs.Text.Marks.{Laws, base_shape}
use Rattle.language.proofs.Text.OnePiece.{form_bounds}
use Rattle.language.proofs.Text.Tables.{spelling_of, every, passes}
use Rattle.language.proofs.Writing.Spelled.{Spelled}

-- ---- classes

letter_low : (b : ℕ) → is_letter b ≡ true → b ≤ BYTE
letter_low b e = ⊎_elim (λ x. omega (arith, x.1)) (λ x. omega (arith, x.1)) (letter_bounds b e)

digit_low : (b : ℕ) → is_digit b ≡ true → b ≤ BYTE
digit_low b e = omega (arith, (digit_bounds b e).1)

name_low : (b : ℕ) → is_name_byte b ≡ true → b ≤ BYTE
unfolding is_name_byte
name_low b e =
    ⊎_elim (λ x. ⊎_elim (λ y. letter_low b y) (λ y. digit_low b y) (or_either (is_letter b) (is_digit b) x))
    (λ x. omega (arith, eqb-true b 95 x)) (or_either (is_letter b || is_digit b) (eqb b 95) e)

-- ---- marks

unfoldable pub low : Spelling → Bool
low [] = true
low (b ∷ s) = leb b BYTE && low s

low_byte : (s : Spelling) → low s ≡ true → (i : ℕ) → byte s i ≤ BYTE
unfolding low
low_byte [] e zero = omega arith
low_byte [] e (suc i) = omega arith
low_byte (b ∷ s) e zero = leb-true b BYTE (and_both (leb b BYTE) (low s) e).0
low_byte (b ∷ s) e (suc i) = low_byte s (and_both (leb b BYTE) (low s) e).1 i

-- what is asked of a vocabulary besides its other laws
pub record ByteMarks (voc : Vocabulary) : Type 0 where
  pub low : every (λ r. low (spelling_of r)) voc.marks ≡ true

pub byte_marks_1 : ByteMarks EDITION_1
unfolding every low
byte_marks_1 = record { low = refl }

pub byte_marks_2 : ByteMarks EDITION_2
unfolding every low
byte_marks_2 = record { low = refl }

-- ---- a token's form

module _ {voc : Vocabulary} (laws : Laws voc) (marks : ByteMarks voc) where
  form_low : {t : List ℕ} {p q : ℕ} (c : Content) → IsToken c → Form voc t p q c → (i : ℕ) → p ≤ i → i < q → byte t i ≤ BYTE
  form_low c x (blank a b e) i h l = absurd x
  form_low c x (line s a b e) i h l = absurd x
  form_low c x (comment d) i h l = absurd x
  form_low c x (unended s n e) i h l = absurd x
  form_low {t} c x (name a b e) i h l = name_low (byte t i) (e i l h)
  form_low {t} c x (number a e) i h l = digit_low (byte t i) (e i l h)
  form_low {t} {p} c x (based {base = base} s a e) i h l =
      let b = base_shape laws t p base (omega (arith, a.some, a.inside)) s in
      ⊎_elim
      (λ k. ⊎_elim (λ j. let z : i ≡ p = omega arith in rw z (digit_low (byte t p) b.0))
      (λ j. let z : i ≡ p + 1 = omega arith in rw z (letter_low (byte t (p + 1)) b.1)) (either i (p + 1)))
      (λ k. name_low (byte t i) (name_digit_of base (byte t i) (e i l k))) (either i (p + 2))
  form_low {t} c x (float {m = k} a b e d o n g) i h l =
      ⊎_elim (λ j. digit_low (byte t i) (e i j h))
      (λ (j : k ≤ i). ⊎_elim (λ (f : i < k + 1). let z : i ≡ k = omega arith in rw (z, d) (omega arith)) (λ f. digit_low (byte t i) (g i l f))
      (either i (k + 1)))
      (either i k)
  form_low {t} {p} {q} c x (mark {k = k} a e) i h l =
      rw (byte_slice t p q i h l) (low_byte (slice p q t) (passes low voc.marks (slice p q t) k marks.low e) (i - p))

  -- what a token is spelled with can stand on a line
  pub spelled_line : {t : Token} → Spelled voc t → Bytes t.spelling
  spelled_line {t} x = rw x.bytes record { some = omega (arith, z, long); each = each }
    where
      z : (x.from < x.to) × (x.to ≤ length x.text)
      z = form_bounds x.text x.from x.to (token t.kind t.value) x.form

      long : length (slice x.from x.to x.text) ≡ x.to - x.from
      long = length-slice x.from x.to x.text z.1

      inside : (i : ℕ) → x.from + i < x.to → byte (slice x.from x.to x.text) i ≤ BYTE
      inside i h =
          let e : x.from + i - x.from ≡ i = omega arith in
          let s = slice x.from x.to x.text in
          let same : byte x.text (x.from + i) ≡ byte s i =
          byte_slice x.text x.from x.to (x.from + i) (omega arith) h ∙ ap (λ (k : ℕ). get_or s k 0) e in
          omega (arith, same, form_low (token t.kind t.value) tt x.form (x.from + i) (omega arith) h)

      each : (i : ℕ) → byte (slice x.from x.to x.text) i ≤ BYTE
      each i =
          ⊎_elim (λ h. inside i h)
          (λ h. omega (arith, get_or-eq_default (slice x.from x.to x.text) 0 {n = i} (omega (arith, long))))
          (either (x.from + i) x.to)
