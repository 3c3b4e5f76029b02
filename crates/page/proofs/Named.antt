-- A name and a value on a line, sought byte by byte.
use lib.Dec.{eqb}
use lib.ListN.{length, get_or, take, drop, length-drop, drop_of_length-le}
use lib.Seq.{drop-cons, drop-drop, take_all}
use mathlib.Core.Bool.{Bool, true, false, ◌&&◌}
use mathlib.Core.List.{List, [], ◌∷◌}
use mathlib.Core.Path.{◌≡◌, refl, sym, ap, ◌∙◌}
use borrow.Author.Tests.{eqb-true, eqb-false, eq-eqb, ne_eqb}
use native.Mathlib.Numerals.{add-one}
use native.Mathlib.Omega.{arith}
use Prim.Native.Nat.{ℕ, suc, ◌+◌, ◌-◌, ◌≤◌, ◌<◌}
use Rattle.language.proofs.Text.Choices.{and_both, clash}
use Rattle.page.specs.Fields.{starts_with, value_from, value_named}
use lib.Pointwise.{pointwise}
use Rattle.std.specs.Prelude.{nat_eq}
use Rattle.std.proofs.Math.Option.{none, some}
use Rattle.page.specs.Lines.{ahead}

-- ---- a name

-- as the library finds it
pub begins_is : (n t : List ℕ) → pointwise nat_eq n (take (length n) t) ≡ starts_with n t
unfolding starts_with
begins_is [] t = refl
begins_is (b ∷ n) [] = refl
begins_is (b ∷ n) (c ∷ t) = rw (turned (eqb c b) refl, begins_is n t)
  where
    turned : (q : Bool) → eqb c b ≡ q → eqb b c ≡ eqb c b
    turned true e = eq-eqb b c (sym (eqb-true c b e)) ∙ sym e
    turned false e = ne_eqb b c (λ z. eqb-false c b e (sym z)) ∙ sym e

pub begins_from : (n t : List ℕ) (at : ℕ)
    → pointwise nat_eq n (take (length n) (take (length t - at) (drop at t))) ≡ starts_with n (drop at t)
begins_from n t at =
    let all : take (length t - at) (drop at t) ≡ drop at t = take_all _ (drop at t) (omega (arith, length-drop at t)) in
    rw all (begins_is n (drop at t))

starts_long : (n t : List ℕ) → starts_with n t ≡ true → length n ≤ length t
unfolding starts_with
starts_long [] t e = omega arith
starts_long (b ∷ n) [] e = absurd (clash e refl)
starts_long (b ∷ n) (c ∷ t) e = omega (arith, starts_long n t (and_both (eqb c b) (starts_with n t) e).1)

-- ---- a line

pub record Seeks (name t : List ℕ) (fresh : Bool) (i : ℕ) : Type 0 where
  pub within : i ≤ length t
  pub left : value_named name t ≡ value_from name fresh (drop i t)

pub seek_first : (name t : List ℕ) → Seeks name t true 0
seek_first name t = record { within = omega arith; left = refl }

module _ {name t : List ℕ} {fresh : Bool} {i : ℕ} (s : Seeks name t fresh i) where
  module _ (h : i < length t) {b : Bool} (e : b ≡ (fresh && starts_with name (drop i t))) where
    pub room : b ≡ true → i + length name ≤ length t
    room k =
        let z = (and_both fresh (starts_with name (drop i t)) (sym e ∙ k)).1 in
        omega (arith, starts_long name (drop i t) z, length-drop i t)

    pub seek_found : b ≡ true → (from to : ℕ) → from ≡ i + length name → to ≡ from + ahead (drop from t)
        → value_named name t ≡ some (take (to - from) (drop from t))
    unfolding value_from
    seek_found k from to ef et =
        let z : (fresh && starts_with name (get_or t i 0 ∷ drop (suc i) t)) ≡ true = rw (← drop-cons t i 0 h) (sym e ∙ k) in
        let n : to - from ≡ ahead (drop from t) = omega (arith, et) in
        let d : drop (length name) (drop i t) ≡ drop from t = drop-drop (length name) i t ∙ ap (λ (k : ℕ). drop k t) (sym ef) in
        s.left ∙ rw (n, ← d, drop-cons t i 0 h, z) refl

    pub seek_more : b ≡ false → {f : Bool} → f ≡ eqb (get_or t i 0) 10 → Seeks name t f (i + 1)
    unfolding value_from
    seek_more k {f} ef =
        let z : (fresh && starts_with name (get_or t i 0 ∷ drop (suc i) t)) ≡ false = rw (← drop-cons t i 0 h) (sym e ∙ k) in
        record { within = omega arith; left = s.left ∙ rw (drop-cons t i 0 h, z, add-one i, ef) refl }

  pub seek_none : length t ≤ i → value_named name t ≡ none
  unfolding value_from
  seek_none h = s.left ∙ rw (drop_of_length-le t {i = i} h) refl
