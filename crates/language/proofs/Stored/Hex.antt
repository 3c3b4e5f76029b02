-- Lines of hexadecimal, worked out: the bytes of an input's first line, if it is one. It is proof vocabulary, and is shown to find
-- exactly the lines that are written.
use borrow.Author.Tests.{ltb-true, ltb-false, lt-ltb, le-ltb, ne_eqb, eqb-true}
use lib.Dec.{eqb, ltb}
use mathlib.Core.Bool.{Bool, true, false, cond, ◌&&◌}
use mathlib.Core.List.{List, [], ◌∷◌, ◌++◌}
use mathlib.Core.Logic.{⊎_elim}
use mathlib.Core.Path.{◌≡◌, refl, sym, ap, ap₂, subst, ◌∙◌}
use native.Mathlib.Omega.{arith}
use Prim.Native.Nat.{ℕ, zero, suc, ◌+◌, ◌-◌, ◌*◌, ◌/◌, ◌%◌, ◌≤◌, ◌<◌}
use Rattle.language.specs.Sizes.{BYTE}
use Rattle.language.specs.Text.{byte}
use Rattle.language.specs.Stored.{capital, hex, line}
use Rattle.language.proofs.Text.Choices.{either, and_both}

-- ---- digits

-- what holds in both outcomes of a test holds of the choice by it
pick : {A : Type 0} (P : A → Type 0) (x : Bool) (a b : A) → (x ≡ true → P a) → (x ≡ false → P b) → P (cond x a b)
pick P true a b f g = f refl
pick P false a b f g = g refl

-- what a digit is worth, and 16 where it is none
unfoldable pub digit_worth : ℕ → ℕ
digit_worth d = cond (ltb d 48) 16 (cond (ltb d 58) (d - 48) (cond (ltb d 65) 16 (cond (ltb d 71) (d - 55) 16)))

capital_low : (n : ℕ) → n < 10 → capital n ≡ 48 + n
unfolding capital
capital_low n h = rw (lt-ltb n 10 h) refl

capital_high : (n : ℕ) → 10 ≤ n → capital n ≡ 65 + (n - 10)
unfolding capital
capital_high n h = rw (le-ltb n 10 h) refl

-- a digit has one worth
pub worth_capital : (d : ℕ) → digit_worth d < 16 → capital (digit_worth d) ≡ d
unfolding digit_worth
worth_capital d =
    pick Right (ltb d 48) _ _ (λ e l. absurd (omega arith))
    (λ e. pick Right (ltb d 58) _ _ (λ f l. capital_low (d - 48) (omega (arith, ltb-true d 58 f)) ∙ omega (arith, ltb-false d 48 e))
    (λ f. pick Right (ltb d 65) _ _ (λ g l. absurd (omega arith))
    (λ g. pick Right (ltb d 71) _ _
    (λ k l. capital_high (d - 55) (omega (arith, ltb-false d 65 g)) ∙ omega (arith, ltb-false d 65 g))
    (λ k l. absurd (omega arith)))))
  where
    Right : ℕ → Type 0
    Right w = w < 16 → capital w ≡ d

worth_low : (n : ℕ) → n < 10 → digit_worth (48 + n) ≡ n
unfolding digit_worth
worth_low n h = rw (le-ltb (48 + n) 48 (omega arith), lt-ltb (48 + n) 58 (omega arith)) (omega arith)

worth_high : (n : ℕ) → 10 ≤ n → n < 16 → digit_worth (65 + (n - 10)) ≡ n
unfolding digit_worth
worth_high n h l =
    let d = 65 + (n - 10) in
    rw (le-ltb d 48 (omega arith), le-ltb d 58 (omega arith), le-ltb d 65 (omega arith), lt-ltb d 71 (omega arith)) (omega arith)

-- and a worth one digit
pub capital_worth : (n : ℕ) → n < 16 → digit_worth (capital n) ≡ n
capital_worth n h =
    ⊎_elim (λ l. ap digit_worth (capital_low n l) ∙ worth_low n l) (λ l. ap digit_worth (capital_high n l) ∙ worth_high n l h) (either n 10)

-- LF is no digit
pub not_capital : (n : ℕ) → capital n ≡ 10 → ⊥
not_capital n e =
    ⊎_elim (λ l. let z = capital_low n l in absurd (omega arith)) (λ l. let z = capital_high n l in absurd (omega arith)) (either n 10)

-- ---- the first line

-- the bytes that it holds, and what follows it
pub data Taken : Type 0 where
  untaken : Taken
  taken : List ℕ → List ℕ → Taken

put : ℕ → Taken → Taken
put b untaken = untaken
put b (taken s r) = taken (b ∷ s) r

digits : ℕ → ℕ → Bool
digits d e = ltb (digit_worth d) 16 && ltb (digit_worth e) 16

-- by whether LF comes, and else two digits of the byte b; x is what is taken behind those, and r stands behind LF
by_two : Bool → Bool → ℕ → List ℕ → Taken → Taken
unfolding put
by_two true ds b r x = taken [] r
by_two false true b r x = put b x
by_two false false b r x = untaken

unfoldable pub take_line : List ℕ → Taken
unfolding by_two put digits digit_worth
take_line [] = untaken
take_line (d ∷ []) = by_two (eqb d 10) false 0 [] untaken
take_line (d ∷ e ∷ r) = by_two (eqb d 10) (digits d e) (digit_worth d * 16 + digit_worth e) (e ∷ r) (take_line r)

abbrev pub EachByte : List ℕ → Type 0
EachByte s = (i : ℕ) → byte s i ≤ BYTE

-- what is taken is a line
abbrev IsLine : List ℕ → Taken → Type 0
IsLine t untaken = Unit {0}
IsLine t (taken s r) = (t ≡ line s ++ r) × EachByte s

pub no_byte : EachByte []
no_byte zero = omega arith
no_byte (suc i) = omega arith

pub both : {a b c d : ℕ} {r u : List ℕ} → a ≡ c → b ≡ d → r ≡ u → a ∷ b ∷ r ≡ c ∷ d ∷ u
both x y z = cc

put_line : (d e : ℕ) (r : List ℕ) (x : Taken) → digits d e ≡ true → IsLine r x → IsLine (d ∷ e ∷ r) (put (digit_worth d * 16 + digit_worth e) x)
unfolding put digits line hex
put_line d e r untaken h l = tt
put_line d e r (taken s u) h l = (same, each)
  where
    low : (digit_worth d < 16) × (digit_worth e < 16)
    low = let z = and_both (ltb (digit_worth d) 16) (ltb (digit_worth e) 16) h in (ltb-true (digit_worth d) 16 z.0, ltb-true (digit_worth e) 16 z.1)

    b : ℕ
    b = digit_worth d * 16 + digit_worth e

    high_is : b / 16 ≡ digit_worth d
    high_is = omega (arith, low)

    low_is : b % 16 ≡ digit_worth e
    low_is = omega (arith, low)

    same : d ∷ e ∷ r ≡ line (b ∷ s) ++ u
    same = both (sym (worth_capital d low.0) ∙ ap capital (sym high_is)) (sym (worth_capital e low.1) ∙ ap capital (sym low_is)) l.0

    each : EachByte (b ∷ s)
    each zero = omega (arith, low)
    each (suc i) = l.1 i

-- where LF comes the line holds nothing
ended_line : (d : ℕ) (r : List ℕ) → eqb d 10 ≡ true → IsLine (d ∷ r) (taken [] r)
unfolding line hex
ended_line d r h = (ap (λ (b : ℕ). b ∷ r) (eqb-true d 10 h), no_byte)

line_one : (d : ℕ) (x : Bool) → eqb d 10 ≡ x → IsLine (d ∷ []) (by_two x false 0 [] untaken)
unfolding by_two
line_one d true h = ended_line d [] h
line_one d false h = tt

line_two : (d e : ℕ) (r : List ℕ) (x y : Bool) → eqb d 10 ≡ x → digits d e ≡ y → (z : Taken) → IsLine r z
    → IsLine (d ∷ e ∷ r) (by_two x y (digit_worth d * 16 + digit_worth e) (e ∷ r) z)
unfolding by_two
line_two d e r true y h k z l = ended_line d (e ∷ r) h
line_two d e r false true h k z l = put_line d e r z k l
line_two d e r false false h k z l = tt

line_from : (t : List ℕ) → IsLine t (take_line t)
unfolding take_line
line_from [] = tt
line_from (d ∷ []) = line_one d (eqb d 10) refl
line_from (d ∷ e ∷ r) = line_two d e r (eqb d 10) (digits d e) refl refl (take_line r) (line_from r)

-- what is taken from t is its first line
pub taken_line : (t s r : List ℕ) → take_line t ≡ taken s r → (t ≡ line s ++ r) × EachByte s
taken_line t s r e = subst (IsLine t) e (line_from t)

-- ---- and every line is taken

taken_two : (d e : ℕ) (r : List ℕ) → eqb d 10 ≡ false → digits d e ≡ true
    → take_line (d ∷ e ∷ r) ≡ put (digit_worth d * 16 + digit_worth e) (take_line r)
unfolding take_line
taken_two d e r h k = ap₂ (λ (x y : Bool). by_two x y (digit_worth d * 16 + digit_worth e) (e ∷ r) (take_line r)) h k

module _ (b : ℕ) (h : b ≤ BYTE) where
  two_digits : digits (capital (b / 16)) (capital (b % 16)) ≡ true
  unfolding digits
  two_digits =
      rw (capital_worth (b / 16) (omega arith), capital_worth (b % 16) (omega arith), lt-ltb (b / 16) 16 (omega arith), lt-ltb (b % 16) 16 (omega arith))
      refl

  byte_again : digit_worth (capital (b / 16)) * 16 + digit_worth (capital (b % 16)) ≡ b
  byte_again = rw (capital_worth (b / 16) (omega arith), capital_worth (b % 16) (omega arith)) (omega arith)

pub line_taken : (s r : List ℕ) → EachByte s → take_line (line s ++ r) ≡ taken s r
unfolding take_line line hex put
line_taken [] [] e = refl
line_taken [] (b ∷ r) e = refl
line_taken (b ∷ s) r e =
    taken_two (capital (b / 16)) (capital (b % 16)) (line s ++ r) (ne_eqb (capital (b / 16)) 10 (not_capital (b / 16))) (two_digits b (e 0))
    ∙ ap₂ put (byte_again b (e 0)) (line_taken s r (λ i. e (suc i)))
