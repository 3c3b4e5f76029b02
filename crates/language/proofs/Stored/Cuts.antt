-- What it says that an input begins with a line of hexadecimal, or with none (R09.6): its bytes up to the first LF are such digits,
-- two at least; where there is no LF there is no line.
use mathlib.Core.List.{List, [], ◌∷◌, ◌++◌}
use mathlib.Core.Logic.{◌↔◌}
use mathlib.Core.Path.{◌≡◌, refl, sym, ap, ◌∙◌}
use lib.Seq.{append_snoc}
use native.Mathlib.Omega.{arith}
use Prim.Native.Nat.{ℕ, ◌/◌, ◌%◌, ◌≤◌}
use Rattle.language.specs.Stored.{hex, line, COUNT, count_line, Bytes, FirstLine, FirstCount}
use Rattle.language.proofs.Stored.LineNumbers.{InLine, hex_in_line}

-- bytes are cut at their first LF in one way
pub one_cut : (l m : List ℕ) {r u : List ℕ} → InLine l → InLine m → l ++ (10 ∷ r) ≡ m ++ (10 ∷ u) → (l ≡ m) × (r ≡ u)
one_cut [] [] a b e = (refl, cc)
one_cut [] (c ∷ m) a b e = absurd (b.0 (cc))
one_cut (c ∷ l) [] a b e = absurd (a.0 (cc))
one_cut (c ∷ l) (d ∷ m) {r} {u} a b e =
    let f : c ≡ d = cc in
    let g : l ++ (10 ∷ r) ≡ m ++ (10 ∷ u) = cc in
    let z = one_cut l m a.1 b.1 g in
    let x = z.0 in
    (cc, z.1)

-- bytes without LF have no line
never_cut : (t m u : List ℕ) → InLine t → t ≡ m ++ (10 ∷ u) → ⊥
never_cut [] [] u a e = let z : ◌≡◌ {A = ℕ} 0 1 = cc in omega arith
never_cut [] (c ∷ m) u a e = let z : ◌≡◌ {A = ℕ} 0 1 = cc in omega arith
never_cut (b ∷ t) [] u a e = a.0 (cc)
never_cut (b ∷ t) (c ∷ m) u a e = let g : t ≡ m ++ (10 ∷ u) = cc in never_cut t m u a.1 g

pub never_ended : {t s r : List ℕ} → InLine t → FirstLine t s r → ⊥
unfolding line
never_ended {t} {s} {r} a f = never_cut t (hex s) r a (f.begins ∙ append_snoc (hex s) 10 r)

module _ (t l rest : List ℕ) (a : InLine l) (cut : t ≡ l ++ (10 ∷ rest)) where
  digits_are : (s r : List ℕ) → t ≡ line s ++ r → (l ≡ hex s) × (rest ≡ r)
  unfolding line
  digits_are s r e = one_cut l (hex s) a (hex_in_line s) (sym cut ∙ e ∙ append_snoc (hex s) 10 r)

  are_digits : (s : List ℕ) → l ≡ hex s → t ≡ line s ++ rest
  unfolding line
  are_digits s e = cut ∙ ap (λ (l : List ℕ). l ++ (10 ∷ rest)) e ∙ sym (append_snoc (hex s) 10 rest)

  -- the first line holds the bytes s exactly where it is the digits of them
  pub line_exactly : (s : List ℕ) → FirstLine t s rest ↔ ((l ≡ hex s) × Bytes s)
  line_exactly s = (λ f. ((digits_are s rest f.begins).0, f.bytes), λ x. record { begins = are_digits s x.0; bytes = x.1 })

  -- and tells the count n exactly where it is the four digits of it
  pub count_exactly : (n : ℕ) → FirstCount t n rest ↔ ((l ≡ hex (n / 256 ∷ n % 256 ∷ [])) × (n ≤ COUNT))
  unfolding count_line
  count_exactly n = (
    λ f. ((digits_are (n / 256 ∷ n % 256 ∷ []) rest f.begins).0, f.digits),
    λ x. record { begins = are_digits (n / 256 ∷ n % 256 ∷ []) x.0; digits = x.1 },
  )
