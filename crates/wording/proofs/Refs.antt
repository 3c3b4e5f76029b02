-- What a type is of, and as many `ref` as it has, out of a text that has them all.
use borrow.Author.Tests.{ne_eqb}
use lib.ListN.{length, take}
use mathlib.Core.List.{List, ◌++◌}
use mathlib.Core.Path.{◌≡◌, refl, ◌∙◌, ap}
use native.Mathlib.Omega.{arith}
use Prim.Native.Nat.{ℕ, zero, suc, ◌*◌, min}
use Rattle.language.specs.Tokens.{spell}
use Rattle.wording.specs.Types.{base_words, ref_words}

pub refs_long : (k : ℕ) → length (ref_words k) ≡ k * 4
unfolding ref_words
refs_long zero = refl
refs_long (suc k) = omega (arith, refs_long k)

first_refs : (j k : ℕ) → take (j * 4) (ref_words k) ≡ ref_words (min j k)
unfolding ref_words
first_refs zero k = let m : min 0 k ≡ 0 = omega arith in rw m
first_refs (suc j) zero =
    let e : suc j * 4 ≡ suc (suc (suc (suc (j * 4)))) = omega arith in
    let m : min (suc j) 0 ≡ 0 = omega arith in
    rw (e, m)
first_refs (suc j) (suc k) =
    let e : suc j * 4 ≡ suc (suc (suc (suc (j * 4)))) = omega arith in
    let m : min (suc j) (suc k) ≡ suc (min j k) = omega arith in
    rw (e, m) (ap (λ (t : List ℕ). spell " ref" ++ t) (first_refs j k))

-- the first j of k, where they are counted in bytes
pub taken : (j k : ℕ) → take (min (j * 4) (length (ref_words k))) (ref_words k) ≡ ref_words (min j k)
taken j k =
    let m : min (j * 4) (length (ref_words k)) ≡ min j k * 4 = omega (arith, refs_long k) in
    let e : min (min j k) k ≡ min j k = omega arith in
    rw m (first_refs (min j k) k ∙ ap ref_words e)

-- a type that is no int, bool or float is a unit
pub unit_base : (n : ℕ) → (n ≡ 1 → ⊥) → (n ≡ 2 → ⊥) → (n ≡ 4 → ⊥) → spell "unit" ≡ base_words n
unfolding base_words
unit_base n a b c = rw (ne_eqb n 1 a, ne_eqb n 2 b, ne_eqb n 4 c)
