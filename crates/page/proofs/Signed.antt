-- A number with or without a sign: what the proofs of `signed` and its helpers cite.
use lib.IntN.{ℤ, pos, negsuc, neg_ℤ, ◌-ℤ◌}
use lib.Dec.{leb}
use lib.ListN.{length, get_or, take, drop}
use lib.Seq.{take_all}
use mathlib.Core.Bool.{Bool, true, false, cond, ◌&&◌}
use mathlib.Core.List.{List, [], ◌∷◌}
use mathlib.Core.Path.{◌≡◌, refl, sym, ap, ◌∙◌}
use borrow.Author.Tests.{lt-ltb, eq-eqb, ne_eqb}
use mir.Syntax.{w64}
use mir.Facts.{to_z-of_z, to_z_pos}
use mir.Val.{SFits, to_z, of_z}
use native.Mathlib.Omega.{arith}
use Prim.Native.Nat.{ℕ, zero, suc, ◌-◌, ◌≤◌}
use Rattle.language.specs.Text.{number_from}
use Rattle.page.specs.Amounts.{is_number, AMOUNT, number_up_to, amount_by, amount_in}
use Rattle.std.specs.Prelude.{Some, None, option_map}

-- ---- by the digits

module _ (f : ℕ → ℤ) (w : List ℕ) where
  mapped : amount_by f w ≡ option_map f (number_up_to AMOUNT w)
  unfolding amount_by number_up_to
  mapped = either (is_number w && leb (number_from 10 0 w) AMOUNT)
    where
      either : (q : Bool) → cond q (Some (f (number_from 10 0 w))) None ≡ option_map f (cond q (Some (number_from 10 0 w)) None)
      either true = refl
      either false = refl

  pub by_number : {n : ℕ} → number_up_to AMOUNT w ≡ Some n → Some (f n) ≡ amount_by f w
  by_number e = sym (mapped ∙ ap (option_map f) e)

  pub by_none : number_up_to AMOUNT w ≡ None → None ≡ amount_by f w
  by_none e = sym (mapped ∙ ap (option_map f) e)

-- ---- by the first byte

pub no_bytes : (w : List ℕ) → length w ≡ 0 → None ≡ amount_in w
unfolding amount_in
no_bytes [] h = refl
no_bytes (b ∷ w) h = absurd (omega arith)

pub with_sign : (w : List ℕ) → (length w ≡ 0 → ⊥) → get_or w 0 0 ≡ 45
    → amount_by (λ n. neg_ℤ (pos n)) (take (length w - 1) (drop 1 w)) ≡ amount_in w
unfolding amount_in
with_sign [] h e = absurd (h refl)
with_sign (b ∷ w) h e =
    let n : length w ≤ suc (length w) - 1 = omega arith in
    rw (eq-eqb b 45 e, take_all (suc (length w) - 1) w n) refl

pub without_sign : (w : List ℕ) → (length w ≡ 0 → ⊥) → (get_or w 0 0 ≡ 45 → ⊥) → amount_by pos w ≡ amount_in w
unfolding amount_in
without_sign [] h e = absurd (h refl)
without_sign (b ∷ w) h e = rw (ne_eqb b 45 e) refl

-- ---- below zero

turned : (n : ℕ) → pos 0 -ℤ pos n ≡ neg_ℤ (pos n)
turned zero = refl
turned (suc n) = rw (lt-ltb 0 (suc n) (omega arith)) (ap negsuc (omega arith))

turned_fits : (n : ℕ) → n ≤ AMOUNT → SFits w64 (neg_ℤ (pos n))
turned_fits zero h = record { sfits = omega arith }
turned_fits (suc n) h = record { sfits = omega arith }

module _ (n : ℕ) (h : n ≤ AMOUNT) where
  pub plain_back : to_z w64 n ≡ pos n
  plain_back = to_z_pos w64 (omega arith)

  lowered : pos 0 -ℤ to_z w64 n ≡ neg_ℤ (pos n)
  lowered = rw plain_back (turned n)

  pub lowered_fits : SFits w64 (pos 0 -ℤ to_z w64 n)
  lowered_fits = rw lowered (turned_fits n h)

  pub lowered_back : to_z w64 (of_z w64 (pos 0 -ℤ to_z w64 n)) ≡ neg_ℤ (pos n)
  lowered_back = to_z-of_z {w = w64} lowered_fits ∙ lowered
