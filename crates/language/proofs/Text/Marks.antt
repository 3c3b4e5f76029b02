-- What the theorems on texts ask of a vocabulary, which is little and of its marks and bases alone; and that today's has it.
use borrow.Author.Tests.{ltb-true, not-true, eq-eqb, eqb-true}
use lib.Dec.{eqb, ltb}
use lib.ListN.{length}
use lib.Seq.{slice, slice-cons, slice_empty}
use mathlib.Core.Bool.{Bool, true, false, not, ◌&&◌, false≢true}
use mathlib.Core.List.{List, [], ◌∷◌}
use mathlib.Core.Option.{some}
use mathlib.Core.Path.{◌≡◌, refl}
use native.Mathlib.Numerals.{add-one}
use native.Mathlib.Omega.{arith}
use Prim.Native.Nat.{ℕ, suc, ◌+◌, ◌≤◌, ◌<◌}
use Rattle.language.proofs.Text.Choices.{clash, and_both}
use Rattle.language.proofs.Text.Spellings.{byte_inside}
use Rattle.language.proofs.Text.Tables.{spelling_of, every, passes}
use Rattle.language.specs.Text.{byte, Stands, between, is_blank, is_letter, is_digit}
use Rattle.language.specs.Tokens.{Spelling, Vocabulary, EDITION_1, EDITION_2, spelled}

-- ---- the shape of a mark

-- no byte is 0
unfoldable pub positive : Spelling → Bool
positive [] = true
positive (a ∷ s) = ltb 0 a && positive s

-- bytes that are not 0 lie in the text
pub stands_inside : (t : List ℕ) (p : ℕ) (s : Spelling) → positive s ≡ true → p ≤ length t → Stands t p s → p + length s ≤ length t
unfolding positive
stands_inside t p [] e h x = omega arith
stands_inside t p (a ∷ s) e h x =
    let z = and_both (ltb 0 a) (positive s) e in
    let l : p < length t = byte_inside t p a x.0 (ltb-true 0 a z.0) in
    omega (arith, stands_inside t (p + 1) s z.1 (omega arith) x.1)

-- no blank, letter or digit
unfoldable pub is_plain : ℕ → Bool
is_plain b = not (is_blank b) && (not (is_letter b) && not (is_digit b))

-- the same, as a statement
pub record Plain (b : ℕ) : Type 0 where
  pub blank : is_blank b ≡ false
  pub letter : is_letter b ≡ false
  pub digit : is_digit b ≡ false

plain : (b : ℕ) → is_plain b ≡ true → Plain b
unfolding is_plain
plain b e =
    let x = and_both (not (is_blank b)) (not (is_letter b) && not (is_digit b)) e in
    let y = and_both (not (is_letter b)) (not (is_digit b)) x.1 in
    record { blank = not-true (is_blank b) x.0; letter = not-true (is_letter b) y.0; digit = not-true (is_digit b) y.1 }

-- nothing stands behind `/`, with which comments begin
alone : ℕ → Spelling → Bool
alone a [] = true
alone a (b ∷ s) = not (eqb a 47)

alone_none : (a : ℕ) (s : Spelling) → alone a s ≡ true → a ≡ 47 → length s ≡ 0
unfolding alone
alone_none a [] e h = refl
alone_none a (b ∷ s) e h = absurd (clash (eq-eqb a 47 h) (not-true (eqb a 47) e))

-- no byte is a blank
unfoldable pub unbroken : Spelling → Bool
unbroken [] = true
unbroken (a ∷ s) = not (is_blank a) && unbroken s

-- what the laws ask of a mark
unfoldable pub shaped : Spelling → Bool
unfolding is_plain positive alone unbroken
shaped [] = false
shaped (a ∷ s) = is_plain a && (positive (a ∷ s) && (alone a s && unbroken (a ∷ s)))

-- what is then true of a mark that begins with a and goes on with s
pub record Shape (a : ℕ) (s : Spelling) : Type 0 where
  pub first : Plain a
  pub bytes : positive (a ∷ s) ≡ true
  pub slash : a ≡ 47 → length s ≡ 0
  pub whole : unbroken (a ∷ s) ≡ true

-- ---- the shape of what tells a base

-- a digit, and behind it a letter
unfoldable pub led : Spelling → Bool
led [] = false
led (a ∷ []) = false
led (a ∷ b ∷ s) = is_digit a && is_letter b

-- ---- the laws

-- each mark begins with a byte that is no letter or digit, has no byte 0 and no blank, and is its first byte alone where that
-- is `/`; a base is told by a digit and a letter, so that no other number goes on there
pub record Laws (voc : Vocabulary) : Type 0 where
  pub shapes : every (λ r. shaped (spelling_of r)) voc.marks ≡ true
  pub leads : every (λ r. led (spelling_of r)) voc.bases ≡ true
  -- where a number may have a point at all, a blank or the end may follow it
  pub loose : (a b : ℕ) → voc.points a ≡ true → is_blank b ≡ true → voc.points b ≡ true
  pub last : (a : ℕ) → voc.points a ≡ true → voc.points 0 ≡ true

-- those of today
pub laws_1 : Laws EDITION_1
unfolding shaped led every is_plain unbroken is_blank is_letter is_digit between
laws_1 = record { shapes = refl; leads = refl; loose = λ a b p q. refl; last = λ a p. refl }

-- a blank is no point
blank_loose : (b : ℕ) → is_blank b ≡ true → not (eqb b 46) ≡ true
unfolding is_blank
blank_loose b h = by (eqb b 46) refl
  where
    by : (x : Bool) → eqb b 46 ≡ x → not x ≡ true
    by false e = refl
    by true e = let z : b ≡ 46 = eqb-true b 46 e in absurd (false≢true (rw z at h))

-- those of edition 2
pub laws_2 : Laws EDITION_2
unfolding shaped led every is_plain is_blank is_letter is_digit between
laws_2 = record { shapes = refl; leads = refl; loose = λ a b p q. blank_loose b q; last = λ a p. refl }

-- two bytes of a text
pub slice_two : (t : List ℕ) (p : ℕ) → p + 2 ≤ length t → slice p (p + 2) t ≡ byte t p ∷ byte t (p + 1) ∷ []
slice_two t p h =
    let e : p + 2 ≡ suc (suc p) = omega arith in
    rw (slice-cons p (p + 2) t 0 (omega arith) h, slice-cons (suc p) (p + 2) t 0 (omega arith) h, e, slice_empty (suc (suc p)) t, add-one p)

module _ {voc : Vocabulary} (laws : Laws voc) where
  pub mark_shape : (a : ℕ) (s : Spelling) (k : ℕ) → spelled voc.marks (a ∷ s) ≡ some k → Shape a s
  unfolding shaped
  mark_shape a s k e =
      let end = alone a s && unbroken (a ∷ s) in
      let x = and_both (is_plain a) (positive (a ∷ s) && end) (passes shaped voc.marks (a ∷ s) k laws.shapes e) in
      let y = and_both (positive (a ∷ s)) end x.1 in
      let z = and_both (alone a s) (unbroken (a ∷ s)) y.1 in
      record { first = plain a x.0; bytes = y.0; slash = alone_none a s z.0; whole = z.1 }

  -- where two bytes tell a base, the first is a digit and the second a letter
  pub base_shape : (t : List ℕ) (p base : ℕ) → p + 2 ≤ length t → spelled voc.bases (slice p (p + 2) t) ≡ some base
      → (is_digit (byte t p) ≡ true) × (is_letter (byte t (p + 1)) ≡ true)
  unfolding led
  base_shape t p base h e =
      let f = passes led voc.bases (slice p (p + 2) t) base laws.leads e in
      let g : led (byte t p ∷ byte t (p + 1) ∷ []) ≡ true = rw (slice_two t p h) at f in
      and_both (is_digit (byte t p)) (is_letter (byte t (p + 1))) g

  -- a mark has a byte
  pub mark_some : (k : ℕ) → spelled voc.marks [] ≡ some k → ⊥
  unfolding shaped
  mark_some k e = false≢true (passes shaped voc.marks [] k laws.shapes e)
