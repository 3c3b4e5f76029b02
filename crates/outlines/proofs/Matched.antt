-- Numbers that are found one after the other, and how a loop finds them.
use lib.Dec.{eqb}
use lib.ListN.{length, get_or, drop, drop_of_length-le}
use lib.Seq.{drop-cons}
use mathlib.Core.Bool.{Bool, true, false, cond, ◌&&◌}
use mathlib.Core.List.{List, [], ◌∷◌}
use mathlib.Core.Path.{◌≡◌, refl, sym, ap, ◌∙◌}
use borrow.Author.Tests.{eq-eqb, ne_eqb, lt-ltb, le-ltb, eqb-true, eqb-false}
use native.Mathlib.Numerals.{add-one}
use native.Mathlib.Omega.{arith}
use Prim.Native.Nat.{ℕ, suc, ◌+◌, ◌-◌, ◌≤◌, ◌<◌}
use Rattle.language.specs.Tokens.{same}
use Rattle.language.specs.Outline.{Wanted}
use Rattle.language.specs.Sizes.{NODES}
use Rattle.layout.specs.Table.{OWN, ARITY, RESULT, row_word, function_row, token_place, token_end}
use Rattle.outlines.specs.Words.{matches, byte_of, type_of, spelled_in, takes_in, Whole, suits_at, suits_in, any_from}

-- ---- as a loop finds them

module _ (f : ℕ → ℕ) (p : ℕ) (ns : List ℕ) (i : ℕ) (h : i < length ns) where
  pub match_step : f (p + i) ≡ get_or ns i 0 → matches f (p + i) (drop i ns) ≡ matches f (p + (i + 1)) (drop (i + 1) ns)
  unfolding matches
  match_step e =
      let z : p + i + 1 ≡ p + (i + 1) = omega arith in
      rw (drop-cons ns i 0 h, eq-eqb _ _ e, z, add-one i)

  pub match_none : (f (p + i) ≡ get_or ns i 0 → ⊥) → matches f (p + i) (drop i ns) ≡ false
  unfolding matches
  match_none e = rw (drop-cons ns i 0 h, ne_eqb _ _ e)

pub match_end : (f : ℕ → ℕ) (p : ℕ) (ns : List ℕ) (i : ℕ) → length ns ≤ i → matches f (p + i) (drop i ns) ≡ true
unfolding matches
match_end f p ns i h = rw (drop_of_length-le ns h)

pub match_start : (f : ℕ → ℕ) (p : ℕ) (ns : List ℕ) → matches f (p + 0) (drop 0 ns) ≡ matches f p ns
match_start f p ns = let z : p + 0 ≡ p = omega arith in rw z

-- ---- the two uses

module _ (t : List ℕ) (p e : ℕ) (name : List ℕ) where
  pub before_none : e < p → spelled_in t p e name ≡ false
  unfolding spelled_in
  before_none h = rw (lt-ltb e p h)

  pub long_none : p ≤ e → (e - p ≡ length name → ⊥) → spelled_in t p e name ≡ false
  unfolding spelled_in
  long_none h n = rw (le-ltb e p h, ne_eqb (e - p) (length name) n)

  pub spelled_is : p ≤ e → e - p ≡ length name → spelled_in t p e name ≡ matches (byte_of t) p name
  unfolding spelled_in
  spelled_is h n = rw (le-ltb e p h, eq-eqb (e - p) (length name) n)

module _ (w : List ℕ) (r : ℕ) (takes : List ℕ) where
  pub many_none : (row_word w r ARITY ≡ length takes → ⊥) → takes_in w r takes ≡ false
  unfolding takes_in
  many_none n = rw (ne_eqb _ (length takes) n)

  pub takes_is : row_word w r ARITY ≡ length takes → takes_in w r takes ≡ matches (type_of w) (r + 1) takes
  unfolding takes_in
  takes_is n = rw (eq-eqb _ (length takes) n)

-- ---- functions, from one on

module _ (t w : List ℕ) (x : Wanted) (k n : ℕ) (h : k < n) where
  left : n - k ≡ suc (n - (k + 1))
  left = omega arith

  pub any_here : {b : Bool} → b ≡ suits_in t w k x → b ≡ true → any_from t w x k (n - k) ≡ true
  unfolding any_from
  any_here e f = rw (left, sym e ∙ f)

  pub any_later : {b : Bool} → b ≡ suits_in t w k x → b ≡ false → any_from t w x k (n - k) ≡ any_from t w x (k + 1) (n - (k + 1))
  unfolding any_from
  any_later e f = rw (left, sym e ∙ f)

pub any_none : (t w : List ℕ) (x : Wanted) (k n : ℕ) → n ≤ k → any_from t w x k (n - k) ≡ false
unfolding any_from
any_none t w x k n h = let z : n - k ≡ 0 = omega arith in rw z

-- ---- by comparison of lists

-- these are found from p on
pub data Found (f : ℕ → ℕ) : ℕ → List ℕ → Type 0 where
  found_none : {p : ℕ} → Found f p []
  found_more : {p n : ℕ} {ns : List ℕ} → f p ≡ n → Found f (p + 1) ns → Found f p (n ∷ ns)

suc_eqb : (a b : ℕ) → eqb (suc a) (suc b) ≡ eqb a b
suc_eqb a b = go (eqb a b) refl
  where
    go : (x : Bool) → eqb a b ≡ x → eqb (suc a) (suc b) ≡ x
    go true e = eq-eqb _ _ (ap suc (eqb-true a b e))
    go false e = ne_eqb (suc a) (suc b) (λ z. eqb-false a b e (omega (arith, z)))

in_turn : (a b c : Bool) → cond a (cond b c false) false ≡ (b && cond a c false)
in_turn true true c = refl
in_turn true false c = refl
in_turn false true c = refl
in_turn false false c = refl

-- as many, and the same ones
pub found_same : {f : ℕ → ℕ} {p : ℕ} {xs : List ℕ} → Found f p xs → (ns : List ℕ)
    → cond (eqb (length xs) (length ns)) (matches f p ns) false ≡ same xs ns
unfolding matches same
found_same found_none [] = refl
found_same found_none (n ∷ ns) = rw (ne_eqb 0 (suc (length ns)) (λ e. omega arith))
found_same (found_more {ns = xs} e r) [] = rw (ne_eqb (suc (length xs)) 0 (λ e. omega arith))
found_same {f} {p} (found_more {n = x} {ns = xs} e r) (n ∷ ns) =
    rw (suc_eqb (length xs) (length ns), e)
    (in_turn (eqb (length xs) (length ns)) (eqb x n) (matches f (p + 1) ns) ∙ ap (λ (b : Bool). eqb x n && b) (found_same r ns))

-- ---- one function, as the code looks at it

module _ (t w : List ℕ) (k : ℕ) (x : Wanted) {row own at end : ℕ} (er : row ≡ function_row w k) (eo : own ≡ row_word w row OWN)
    (ea : at ≡ token_place w (own + 1)) (ee : end ≡ token_end w (own + 1)) where
  abbrev n : ℕ
  n = row_word w (function_row w k) OWN + 1

  name_is : spelled_in t at end x.called ≡ spelled_in t (token_place w n) (token_end w n) x.called
  name_is = rw (ea, ee, eo, er)

  pub name_differs : {a : Bool} → a ≡ spelled_in t at end x.called → a ≡ false → false ≡ suits_in t w k x
  unfolding suits_at
  name_differs e f = rw (sym name_is ∙ sym e ∙ f)

  pub takes_differ : {a b : Bool} → a ≡ spelled_in t at end x.called → a ≡ true → b ≡ takes_in w row x.takes → b ≡ false → false ≡ suits_in t w k x
  unfolding suits_at
  takes_differ e f g h = rw (sym name_is ∙ sym e ∙ f, ap (λ (r : ℕ). takes_in w r x.takes) (sym er) ∙ sym g ∙ h)

  pub gives_told : {a b : Bool} {n : ℕ} → a ≡ spelled_in t at end x.called → a ≡ true → b ≡ takes_in w row x.takes → b ≡ true → n ≡ row_word w row RESULT
      → eqb n x.gives ≡ suits_in t w k x
  unfolding suits_at
  gives_told e f g h m =
      rw (sym name_is ∙ sym e ∙ f, ap (λ (r : ℕ). takes_in w r x.takes) (sym er) ∙ sym g ∙ h)
      (ap (λ (n : ℕ). eqb n x.gives) (m ∙ ap (λ (r : ℕ). row_word w r RESULT) er))

-- its parameters have rows
pub params_inside : (w : List ℕ) (k : ℕ) {row : ℕ} → Whole w k → row ≡ function_row w k → row + row_word w row ARITY < NODES
params_inside w k h e = rw e h.params

pub any_start : (t w : List ℕ) (x : Wanted) (n : ℕ) → any_from t w x 0 n ≡ any_from t w x 0 (n - 0)
any_start t w x n = let z : n - 0 ≡ n = omega arith in rw z
