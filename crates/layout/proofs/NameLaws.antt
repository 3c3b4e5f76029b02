-- Name numbers tell names apart: two are equal exactly when the spellings are, and that of `putchar` is no other name's.
use mathlib.Core.Bool.{Bool, true, false, ◌&&◌}
use mathlib.Core.List.{List, [], ◌∷◌}
use mathlib.Core.Path.{◌≡◌, refl, sym, ap, subst, ◌∙◌}
use Prim.Native.Nat.{ℕ, zero, suc, ◌+◌, ◌≤◌, ◌<◌}
use native.Mathlib.Decide.{dec_lt}
use native.Mathlib.Omega.{arith}
use lib.Dec.{eqb}
use lib.ListN.{length, get_or, get_or-eq_default}
use borrow.Author.Tests.{eq-eqb, ne_eqb, eqb-true}
use Rattle.language.specs.Sizes.{TOKENS}
use Rattle.language.specs.Tokens.{Spelling, same, Token, NAME, PAST, past, kind_at, spelling_at, At}
use Rattle.language.specs.Trees.{PUTCHAR}
use Rattle.layout.specs.Table.{token_value}
use Rattle.layout.specs.Names.{first_from, name_number, Named, value_word, Stand}
use Rattle.layout.proofs.TokenLaws.{same_self}

-- ---- spellings

both_true : (a b : Bool) → (a && b) ≡ true → (a ≡ true) × (b ≡ true)
both_true true true e = (refl, refl)
both_true true false e = (refl, e)
both_true false b e = absurd (let z : ◌≡◌ {A = ℕ} 0 1 = cc in omega arith)

-- spellings that are the same are equal
pub same_equal : (s t : Spelling) → same s t ≡ true → s ≡ t
unfolding same
same_equal [] [] e = refl
same_equal [] (y ∷ t) e = cc
same_equal (x ∷ s) [] e = cc
same_equal (x ∷ s) (y ∷ t) e =
    let h = both_true (eqb x y) (same s t) e in
    let p = eqb-true x y h.0 in
    let q = same_equal s t h.1 in
    cc

-- and those that are not the same differ
pub same_differ : (s t : Spelling) → same s t ≡ false → s ≡ t → ⊥
same_differ s t e p =
    let q : same s t ≡ true = subst (λ (u : Spelling). same s u ≡ true) p (same_self s) in
    let z : ◌≡◌ {A = ℕ} 0 1 = cc in
    omega arith

-- ---- the first token of a spelling

-- where a token of the list is spelled s, the first such token is one of the list's, and is spelled s
record First (n : ℕ) (ts : List Token) (s : Spelling) : Type 0 where
  at : ℕ
  reached : first_from n ts s ≡ n + at
  inside : at < length ts
  spelled : spelling_at ts at ≡ s

first_of : (n : ℕ) (ts : List Token) (s : Spelling) (i : ℕ) → i < length ts → spelling_at ts i ≡ s → First n ts s
unfolding first_from spelling_at
first_of n [] s i l e = absurd (omega arith)
first_of n (t ∷ ts) s i l e = go (same t.spelling s) refl i l e λ j m d. first_of (suc n) ts s j m d
  where
    go : (b : Bool) → same t.spelling s ≡ b → (i : ℕ) → i < length (t ∷ ts) → spelling_at (t ∷ ts) i ≡ s
        → ((j : ℕ) → j < length ts → spelling_at ts j ≡ s → First (suc n) ts s) → First n (t ∷ ts) s
    go true p i l e ih = record { at = 0; reached = rw p (omega arith); inside = omega arith; spelled = same_equal _ _ p }
    go false p zero l e ih = absurd (same_differ _ _ p e)
    go false p (suc j) l e ih =
        let f = ih j (omega arith) e in
        record { at = suc f.at; reached = rw p (f.reached ∙ omega arith); inside = omega (arith, f.inside); spelled = f.spelled }

-- ---- name numbers

module _ {ts : List Token} (few : length ts ≤ TOKENS) {n : ℕ} {s : Spelling} (h : Named ts n s) where
  -- the number of `putchar` is TOKENS
  pub number_putchar : same s PUTCHAR ≡ true → n ≡ TOKENS
  unfolding name_number
  number_putchar e = h.number ∙ rw e refl

  -- that of any other name is the ordinal of a token that is spelled so
  pub number_other : same s PUTCHAR ≡ false → (n < TOKENS) × (spelling_at ts n ≡ s)
  unfolding name_number
  number_other e =
      let f = first_of 0 ts s h.at h.inside h.spelled in
      let p : n ≡ f.at = h.number ∙ rw e (f.reached ∙ omega arith) in
      (omega (arith, f.inside), ap (λ (i : ℕ). spelling_at ts i) p ∙ f.spelled)

  number_is : (b : Bool) → same s PUTCHAR ≡ b → eqb n TOKENS ≡ b
  number_is true e = eq-eqb n TOKENS (number_putchar e)
  number_is false e = let k = number_other e in ne_eqb n TOKENS (λ p. omega (arith, k.0))

  -- so a name is `putchar` exactly when its number is TOKENS
  pub putchar_number : eqb n TOKENS ≡ same s PUTCHAR
  putchar_number = number_is (same s PUTCHAR) refl

module _ {ts : List Token} (few : length ts ≤ TOKENS) {m n : ℕ} {s t : Spelling} (h : Named ts m s) (k : Named ts n t) where
  -- names of one number are equal
  pub one_name : m ≡ n → s ≡ t
  one_name e = go (same s PUTCHAR) refl (same t PUTCHAR) refl
    where
      go : (b : Bool) → same s PUTCHAR ≡ b → (c : Bool) → same t PUTCHAR ≡ c → s ≡ t
      go true p true q = same_equal s PUTCHAR p ∙ sym (same_equal t PUTCHAR q)
      go true p false q = let x = number_putchar few h p in let y = number_other few k q in absurd (omega (arith, y.0))
      go false p true q = let x = number_other few h p in let y = number_putchar few k q in absurd (omega (arith, x.0))
      go false p false q =
          let x = number_other few h p in
          let y = number_other few k q in
          sym x.1 ∙ ap (λ (i : ℕ). spelling_at ts i) e ∙ y.1

  -- the names are the same exactly when their numbers are
  pub named_same : eqb m n ≡ same s t
  named_same = go (same s t) refl
    where
      go : (b : Bool) → same s t ≡ b → eqb m n ≡ b
      go true p = eq-eqb m n (h.number ∙ ap (name_number ts) (same_equal s t p) ∙ sym k.number)
      go false p = ne_eqb m n (λ e. same_differ s t p (one_name e))

-- ---- tokens that are names

-- a token that is a name is one of the list's
pub name_inside : (ts : List Token) (i : ℕ) → At ts i NAME → i < length ts
unfolding kind_at
name_inside ts i e = go (dec_lt i (length ts))
  where
    go : Dec (i < length ts) → i < length ts
    go (yes h) = h
    go (no h) =
        let p : get_or ts i past ≡ past = get_or-eq_default ts past (omega (arith, h)) in
        let z : PAST ≡ NAME = sym (ap (λ (t : Token). t.kind) p) ∙ e in
        absurd (omega arith)

-- the fourth word of a token that is a name is its number
pub named_at : {w : List ℕ} {count : ℕ} {ts : List Token} → Stand w count ts → (i : ℕ) → At ts i NAME
    → Named ts (token_value w i) (spelling_at ts i)
unfolding kind_at spelling_at value_word
named_at {w} {count} {ts} st i e =
    let l = name_inside ts i e in
    record { at = i; inside = l; spelled = refl; number = st.values i (omega (arith, st.long)) ∙ rw e refl }
