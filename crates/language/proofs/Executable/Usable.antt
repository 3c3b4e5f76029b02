-- The kinds of tokens with which what was read is completed where reading fails (R01.4): a few that both editions have, and
-- behind a `for` the mark of its bounds.
use mathlib.Core.Bool.{Bool, true, false, ◌&&◌, ◌||◌, false≢true}
use mathlib.Core.List.{List, [], ◌∷◌, ◌++◌}
use mathlib.Core.Path.{◌≡◌, refl, ap}
use Prim.Native.Nat.{ℕ, zero, suc, ◌≤◌, ◌<◌}
use native.Mathlib.Omega.{arith}
use lib.Dec.{eqb}
use borrow.Author.Tests.{eq-eqb}
use Rattle.language.specs.Tokens.{Token, At, kind_at, NAME, NUMBER, DEF, LET, IN, THEN, ELSE, INT, IS, COLON}
use Rattle.language.specs.Tokens.{LPAR, RPAR, LBRACE, RBRACE, FOR, UPTO}

abbrev pub among : List ℕ → ℕ → Bool
among [] k = false
among (c ∷ cs) k = eqb k c || among cs k

abbrev pub shared : List ℕ
shared = NAME ∷ NUMBER ∷ DEF ∷ LET ∷ IN ∷ THEN ∷ ELSE ∷ INT ∷ IS ∷ COLON ∷ LPAR ∷ RPAR ∷ LBRACE ∷ RBRACE ∷ []

-- whether a `for` was read before
abbrev pub usable : Bool → ℕ → Bool
usable b k = among shared k || (eqb k UPTO && b)

abbrev pub all_usable : Bool → List ℕ → Bool
all_usable b [] = true
all_usable b (k ∷ ks) = usable b k && all_usable b ks

pub usable_both : (b : Bool) (k : ℕ) → usable false k ≡ true → usable b k ≡ true
usable_both b k e = by (among shared k) (eqb k UPTO) e
  where
    by : (x y : Bool) → (x || (y && false)) ≡ true → (x || (y && b)) ≡ true
    by true y e = refl
    by false true e = absurd (false≢true e)
    by false false e = absurd (false≢true e)

-- one kind more
pub usable_one : (b : Bool) (k : ℕ) → usable b k ≡ true → all_usable b (k ∷ []) ≡ true
usable_one b k e = ap (λ (x : Bool). x && true) e

pub usable_append : (b : Bool) (ks ls : List ℕ) → all_usable b ks ≡ true → all_usable b ls ≡ true → all_usable b (ks ++ ls) ≡ true
usable_append b [] ls e f = f
usable_append b (k ∷ ks) ls e f = by (usable b k) e (λ h. usable_append b ks ls h f)
  where
    by : (x : Bool) → (x && all_usable b ks) ≡ true → (all_usable b ks ≡ true → all_usable b (ks ++ ls) ≡ true)
        → (x && all_usable b (ks ++ ls)) ≡ true
    by true e more = more e
    by false e more = absurd (false≢true e)

-- ---- a `for` among the first e tokens

unfoldable pub looped : List Token → ℕ → Bool
looped ts zero = false
looped [] (suc e) = false
looped (t ∷ ts) (suc e) = eqb t.kind FOR || looped ts e

or_right : (x y : Bool) → y ≡ true → (x || y) ≡ true
or_right true y e = refl
or_right false y e = e

pub looped_at : (ts : List Token) (k e : ℕ) → k < e → At ts k FOR → looped ts e ≡ true
unfolding looped kind_at
looped_at ts k zero h a = absurd (omega arith)
looped_at [] k (suc e) h a = let z : ◌≡◌ {A = ℕ} 0 43 = a in absurd (omega arith)
looped_at (t ∷ ts) zero (suc e) h a = ap (λ (x : Bool). x || looped ts e) (eq-eqb t.kind FOR a)
looped_at (t ∷ ts) (suc k) (suc e) h a = or_right (eqb t.kind FOR) (looped ts e) (looped_at ts k e (omega arith) a)

-- more tokens
pub looped_more : (ts : List Token) (i e : ℕ) → i ≤ e → looped ts i ≡ true → looped ts e ≡ true
unfolding looped
looped_more ts zero e h l = absurd (false≢true l)
looped_more [] (suc i) e h l = absurd (false≢true l)
looped_more (t ∷ ts) (suc i) zero h l = absurd (omega arith)
looped_more (t ∷ ts) (suc i) (suc e) h l = by (eqb t.kind FOR) l (λ m. looped_more ts i e (omega arith) m)
  where
    by : (x : Bool) → (x || looped ts i) ≡ true → (looped ts i ≡ true → looped ts e ≡ true) → (x || looped ts e) ≡ true
    by true l more = refl
    by false l more = more l
