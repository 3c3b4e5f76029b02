-- A number's base as a program finds it: by two bytes, and a digit behind them.
use borrow.Author.Tests.{le-ltb, leb-true, ne_eqb}
use lib.Dec.{eqb, leb}
use lib.ListN.{length}
use lib.Seq.{slice}
use mathlib.Core.Bool.{Bool, true, false, ◌&&◌}
use mathlib.Core.List.{List, [], ◌∷◌}
use mathlib.Core.Option.{Option, none, some}
use mathlib.Core.Path.{◌≡◌, refl, sym, ◌∙◌, ap, subst}
use native.Mathlib.Omega.{arith}
use Prim.Native.Nat.{ℕ, zero, suc, ◌+◌, ◌≤◌, ◌<◌}
use Prim.Native.String.{String}
use Rattle.language.proofs.Text.Choices.{clash}
use Rattle.language.proofs.Text.Classes.{digit_of_some, digit_of_ten}
use Rattle.language.proofs.Text.Marks.{Laws, slice_two}
use Rattle.language.proofs.Text.Pieces.{Tells, number_piece, based_piece}
use Rattle.language.proofs.Text.Runs.{Run}
use Rattle.language.proofs.Text.Spellings.{byte_inside}
use Rattle.language.proofs.Text.Tables.{kind_of, row, every, every_row, found, no_kind}
use Rattle.language.specs.Text.{byte, is_digit, is_digit_of, is_hex_digit, worth, Piece, number_from}
use Rattle.language.specs.Text.Content.{token}
use Rattle.language.specs.Tokens.{Spelling, same, Entry, Vocabulary, bases, spelled, NUMBER}

-- ---- the base that is told

-- 0 where none is
abbrev pub or_none : Option ℕ → ℕ
or_none none = 0
or_none (some base) = base

-- the base that bytes tell
unfoldable pub base_told : Spelling → ℕ
base_told s = or_none (spelled bases s)

zero_first : Spelling → Bool
zero_first [] = false
zero_first (a ∷ s) = eqb a 48

-- two bytes tell none where the first is no `0`, and else the second decides
pub base_first : (a b : ℕ) → (a ≡ 48 → ⊥) → 0 ≡ base_told (a ∷ b ∷ [])
unfolding base_told zero_first every
base_first a b h = sym (ap or_none (no_kind zero_first bases (a ∷ b ∷ []) refl (ne_eqb a 48 h)))

pub base_hex : (a b : ℕ) → a ≡ 48 → b ≡ 120 → 16 ≡ base_told (a ∷ b ∷ [])
unfolding base_told spelled same
base_hex a b e f = rw (e, f)

pub base_binary : (a b : ℕ) → a ≡ 48 → b ≡ 98 → 2 ≡ base_told (a ∷ b ∷ [])
unfolding base_told spelled same
base_binary a b e f = rw (e, f)

pub base_other : (a b : ℕ) → a ≡ 48 → (b ≡ 120 → ⊥) → (b ≡ 98 → ⊥) → 0 ≡ base_told (a ∷ b ∷ [])
unfolding base_told spelled same
base_other a b e f g = rw (e, ne_eqb 120 b (λ x. f (sym x)), ne_eqb 98 b (λ x. g (sym x)))

-- none is over 16
small : (s : Spelling) (base : ℕ) → spelled bases s ≡ some base → base ≤ 16
unfolding every
small s base e =
    let f = found bases s base e in
    let l = leb-true (kind_of (row bases f.at)) 16 (every_row (λ r. leb (kind_of r) 16) bases refl f.at f.inside) in
    omega (arith, f.means)

and_false : (x : Bool) {y : Bool} → y ≡ false → (x && y) ≡ false
and_false true e = e
and_false false e = refl

-- 0 has no digit
no_digit : (b : ℕ) → is_digit_of 0 b ≡ false
unfolding is_digit_of
no_digit b = and_false (is_hex_digit b) (le-ltb (worth b) 0 (omega arith))

-- what has a digit is told
told : (s : Spelling) (base b : ℕ) → base ≡ base_told s → is_digit_of base b ≡ true → spelled bases s ≡ some base
unfolding base_told
told s base b e d = go (spelled bases s) e
  where
    go : (o : Option ℕ) → base ≡ or_none o → o ≡ some base
    go none x = absurd (clash d (subst (λ n. is_digit_of n b ≡ false) (sym x) (no_digit b)))
    go (some n) x = ap some (sym x)

-- ---- the digits of a number

-- by a vocabulary, from `from` on the digits of the number at p stand, over this base
pub record Digits (voc : Vocabulary) (t : List ℕ) (p from base : ℕ) : Type 0 where
  pub within : from ≤ length t
  pub low : 0 < base
  pub high : base ≤ 16
  -- a decimal one if no point of its own follows
  pub piece : (q : ℕ) → Run (is_digit_of base) t from q → (from ≡ p → voc.points (byte t (q + 1)) ≡ true → byte t q ≡ 46 → ⊥)
      → Piece voc t p q (token NUMBER (number_from base 0 (slice from q t)))

-- the bases are the same in every edition
module _ {voc : Vocabulary} (laws : Laws voc) (shared : voc.bases ≡ bases) (t : List ℕ) (p base : ℕ)
    (e : base ≡ base_told (byte t p ∷ byte t (p + 1) ∷ [])) where
  -- the two bytes at p tell this base
  abbrev Told : List (Entry String ℕ) → ℕ → Type 0
  Told rows n = spelled rows (slice p (p + 2) t) ≡ some n

  there : (n : ℕ) → is_digit_of n (byte t (p + 2)) ≡ true → p + 2 < length t
  there n d = byte_inside t (p + 2) (byte t (p + 2)) refl (digit_of_some n (byte t (p + 2)) d)

  -- where a digit of the base that is told stands behind the two bytes
  pub told_digits : is_digit_of base (byte t (p + 2)) ≡ true → Digits voc t p (p + 2) base
  told_digits d =
      let l = there base d in
      let s = told (byte t p ∷ byte t (p + 1) ∷ []) base (byte t (p + 2)) e d in
      let tells : Tells laws t p base =
      (subst (λ (rows : List (Entry String ℕ)). Told rows base) (sym shared) (rw (slice_two t p (omega arith)) s), d) in
      let high = small (byte t p ∷ byte t (p + 1) ∷ []) base s in
      record { within = omega arith; low = positive d; high = high; piece = λ q r n. based_piece laws t p base q tells r }
    where
      positive : is_digit_of base (byte t (p + 2)) ≡ true → 0 < base
      positive d = go base d
        where
          go : (n : ℕ) → is_digit_of n (byte t (p + 2)) ≡ true → 0 < n
          go zero x = absurd (clash x (no_digit (byte t (p + 2))))
          go (suc n) x = omega arith

  -- where none does, the number is decimal
  pub untold_digits : p < length t → is_digit (byte t p) ≡ true → is_digit_of base (byte t (p + 2)) ≡ false → Digits voc t p p 10
  unfolding base_told
  untold_digits h b d =
      record {
        within = omega arith;
        low = omega arith;
        high = omega arith;
        piece = λ q r n. number_piece laws t p q h b none_told (λ x. n refl x.0 x.1) (decimal r);
      }
    where
      none_told : (n : ℕ) → Tells laws t p n → ⊥
      none_told n x =
          let l = there n x.1 in
          let y : Told bases n = subst (λ (rows : List (Entry String ℕ)). Told rows n) shared x.0 in
          let s : spelled bases (byte t p ∷ byte t (p + 1) ∷ []) ≡ some n = rw (slice_two t p (omega arith)) at y in
          let z : base ≡ n = e ∙ ap or_none s in
          clash x.1 (subst (λ m. is_digit_of m (byte t (p + 2)) ≡ false) z d)

      decimal : {q : ℕ} → Run (is_digit_of 10) t p q → Run is_digit t p q
      decimal {q} r = record {
        order = r.order;
        within = r.within;
        each = λ k a b. sym (digit_of_ten (byte t k)) ∙ r.each k a b;
        stop = λ l. sym (digit_of_ten (byte t q)) ∙ r.stop l;
      }
