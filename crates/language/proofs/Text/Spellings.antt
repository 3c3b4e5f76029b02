-- What it says that bytes stand at a place: the test for it, that they lie in the text, and that they are a slice of it.
use borrow.Author.Tests.{eq-eqb, eqb-true}
use lib.Dec.{eqb}
use lib.ListN.{length, get_or-eq_default}
use lib.Seq.{slice, slice-cons, slice_empty, length-slice}
use mathlib.Core.Bool.{Bool, true, false, ◌&&◌}
use mathlib.Core.List.{List, [], ◌∷◌}
use mathlib.Core.Logic.{⊎_elim}
use mathlib.Core.Path.{◌≡◌, refl, sym, ◌∙◌, ap, ap₂}
use native.Mathlib.Numerals.{add-one}
use native.Mathlib.Omega.{arith}
use Prim.Native.Nat.{ℕ, suc, ◌+◌, ◌≤◌, ◌<◌}
use Rattle.language.proofs.Text.Choices.{either, outcome, clash, and_both}
use Rattle.language.specs.Text.{byte, Stands}
use Rattle.language.specs.Tokens.{Spelling}

-- the bytes of s stand at p, as a test
unfoldable pub stands : List ℕ → ℕ → Spelling → Bool
stands t p [] = true
stands t p (b ∷ s) = eqb (byte t p) b && stands t (p + 1) s

module _ (t : List ℕ) where
  -- where the test passes the bytes stand
  pub stands_yes : (p : ℕ) (s : Spelling) → stands t p s ≡ true → Stands t p s
  unfolding stands
  stands_yes p [] e = tt
  stands_yes p (b ∷ s) e =
      let z = and_both (eqb (byte t p) b) (stands t (p + 1) s) e in
      (eqb-true (byte t p) b z.0, stands_yes (p + 1) s z.1)

  -- where the bytes stand the test passes
  pub yes_stands : (p : ℕ) (s : Spelling) → Stands t p s → stands t p s ≡ true
  unfolding stands
  yes_stands p [] e = refl
  yes_stands p (b ∷ s) e = rw (eq-eqb (byte t p) b e.0, yes_stands (p + 1) s e.1)

  -- where the test fails the bytes do not stand
  pub stands_no : (p : ℕ) (s : Spelling) → stands t p s ≡ false → Stands t p s → ⊥
  stands_no p s f e = clash (yes_stands p s e) f

  -- where the bytes do not stand the test fails
  pub no_stands : (p : ℕ) (s : Spelling) → (Stands t p s → ⊥) → stands t p s ≡ false
  no_stands p s n = ⊎_elim (λ x. absurd (n (stands_yes p s x))) (λ x. x) (outcome (stands t p s))

  -- a byte that is not 0 lies in the text
  pub byte_inside : (p b : ℕ) → byte t p ≡ b → 0 < b → p < length t
  byte_inside p b e h =
      ⊎_elim (λ l. l) (λ g. absurd (let z : byte t p ≡ 0 = get_or-eq_default t 0 g in omega arith)) (either p (length t))

  -- two bytes that are not 0 lie in the text
  pub two_inside : (p a b : ℕ) → Stands t p (a ∷ b ∷ []) → 0 < b → p + 2 ≤ length t
  two_inside p a b s h = omega (arith, byte_inside (p + 1) b s.1.0 h)

  -- bytes that stand in the text are the slice there
  pub stands_slice : (p : ℕ) (s : Spelling) → p + length s ≤ length t → Stands t p s → slice p (p + length s) t ≡ s
  stands_slice p [] h e = let z : p + 0 ≡ p = omega arith in rw z (slice_empty p t)
  stands_slice p (b ∷ s) h e =
      let z : p + suc (length s) ≡ p + 1 + length s = omega arith in
      let r : slice (p + 1) (p + 1 + length s) t ≡ s = stands_slice (p + 1) s (omega arith) e.1 in
      rw (z, slice-cons p (p + 1 + length s) t 0 (omega arith) (omega arith), ← add-one p) (ap₂ (λ x y. x ∷ y) e.0 r)

  -- a slice of the text stands where it was taken
  pub slice_stands : (p : ℕ) (s : Spelling) (q : ℕ) → p ≤ q → q ≤ length t → slice p q t ≡ s → Stands t p s
  slice_stands p [] q o h e = tt
  slice_stands p (b ∷ s) q o h e =
      let l : p < q = omega (arith, length-slice p q t h, ap length e) in
      let z : byte t p ∷ slice (suc p) q t ≡ b ∷ s = sym (slice-cons p q t 0 l h) ∙ e in
      let r : slice (suc p) q t ≡ s = cc in
      let x : byte t p ≡ b = cc in
      (x, slice_stands (p + 1) s q (omega arith) h (rw (add-one p) r))
