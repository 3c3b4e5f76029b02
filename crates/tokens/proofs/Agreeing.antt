-- Tables that are the same but for the words of rows and functions: what is written among these changes nothing else, and the same
-- tokens written into both leave them the same.
use borrow.Author.Tests.{eqb-true, eqb-false}
use lib.Dec.{eqb}
use lib.ListN.{length, get_or, set, length-set}
use lib.Seq.{get_or-set_same, get_or-set_other}
use mathlib.Core.List.{List, [], ◌∷◌}
use mathlib.Core.Logic.{⊎_elim}
use mathlib.Core.Path.{◌≡◌, refl, sym, ◌∙◌, subst}
use native.Mathlib.Omega.{arith}
use Prim.Native.Nat.{ℕ, zero, suc, ◌+◌, ◌*◌, ◌≤◌, ◌<◌}
use Rattle.language.proofs.Text.Choices.{either, outcome}
use Rattle.language.specs.Sizes.{TOKENS, TABLE}
use Rattle.language.specs.Tokens.{Token}
use Rattle.layout.proofs.Clearing.{zeros_same}
use Rattle.layout.specs.Names.{lay_tokens, high_word, value_word}
use Rattle.layout.specs.Table.{ROWS_AT, VARIABLES_AT, SPANS, put_token, zeros}
use Rattle.tokens.specs.Forks.{ButRows, STARTS_AT, FORKS_AT, SameForks}

pub but_self : (w : List ℕ) → ButRows w w
but_self w = record { long = refl; words = λ i h. refl }

pub but_next : {u v w : List ℕ} → ButRows u v → ButRows v w → ButRows u w
but_next a b = record { long = a.long ∙ b.long; words = λ i h. a.words i h ∙ b.words i h }

pub but_back : {v w : List ℕ} → ButRows v w → ButRows w v
but_back a = record { long = sym a.long; words = λ i h. sym (a.words i h) }

-- a word among those of rows and functions is written
pub but_inside : {v w : List ℕ} (j x : ℕ) → ROWS_AT ≤ j → j < VARIABLES_AT → ButRows v w → ButRows (set v j x) w
but_inside {v} {w} j x l h a = record {
  long = length-set v j x ∙ a.long;
  words = λ i n. get_or-set_other v j i x 0 (λ e. n (omega arith) (omega arith)) ∙ a.words i n;
}

-- a word is written in both
but_both : {v w : List ℕ} (j x : ℕ) → ButRows v w → ButRows (set v j x) (set w j x)
but_both {v} {w} j x a = record {
  long = length-set v j x ∙ a.long ∙ sym (length-set w j x);
  words = λ i n.
      ⊎_elim (λ e. here i (eqb-true i j e))
      (λ e. let d = eqb-false i j e in get_or-set_other v j i x 0 d ∙ a.words i n ∙ sym (get_or-set_other w j i x 0 d)) (outcome (eqb i j));
}
  where
    within : (k : ℕ) → (k < length v → get_or (set v k x) k 0 ≡ get_or (set w k x) k 0) → (length v ≤ k → get_or (set v k x) k 0 ≡ get_or (set w k x) k 0)
        → get_or (set v k x) k 0 ≡ get_or (set w k x) k 0
    within k f g = ⊎_elim f g (either k (length v))

    past : (l : List ℕ) (k : ℕ) → length l ≤ k → get_or l k 0 ≡ 0
    past [] k h = refl
    past (y ∷ l) zero h = absurd (omega arith)
    past (y ∷ l) (suc k) h = past l k (omega arith)

    here : (i : ℕ) → i ≡ j → get_or (set v j x) i 0 ≡ get_or (set w j x) i 0
    here i e = subst (λ (k : ℕ). get_or (set v j x) k 0 ≡ get_or (set w j x) k 0) (sym e) (within j
        (λ h. get_or-set_same v j x 0 h ∙ sym (get_or-set_same w j x 0 (omega (arith, a.long))))
        (λ h. past (set v j x) j (omega (arith, length-set v j x)) ∙ sym (past (set w j x) j (omega (arith, length-set w j x, a.long)))))

pub but_token : {v w : List ℕ} (i k a b h l : ℕ) → ButRows v w → ButRows (put_token v i k a b h l) (put_token w i k a b h l)
unfolding put_token
but_token i k a b h l x =
    but_both (4 * i + 3) l (but_both (4 * i + 2) h (but_both (4 * i + 1) (SPANS * b + a) (but_both (4 * i) k x)))

pub but_tokens : {v w : List ℕ} (ts : List Token) (n : ℕ) (us : List Token) → ButRows v w → ButRows (lay_tokens ts v n us) (lay_tokens ts w n us)
unfolding lay_tokens
but_tokens ts n [] x = x
but_tokens {v = v} {w = w} ts n (u ∷ us) x =
    let put : List ℕ → List ℕ = λ t. put_token t n u.kind u.place (u.place + length u.spelling) (high_word u) (value_word ts u) in
    but_tokens {v = put v} {w = put w} ts (n + 1) us (but_token n _ _ _ _ _ x)

-- a token's words lie before those of rows
pub put_above : (w : List ℕ) (n k a b h l i : ℕ) → 4 * n + 3 < i → get_or (put_token w n k a b h l) i 0 ≡ get_or w i 0
unfolding put_token
put_above w n k a b h l i c =
    let w₁ = set w (4 * n) k in
    let w₂ = set w₁ (4 * n + 1) (SPANS * b + a) in
    get_or-set_other (set w₂ (4 * n + 2) h) (4 * n + 3) i l 0 (omega arith) ∙ get_or-set_other w₂ (4 * n + 2) i h 0 (omega arith)
    ∙ get_or-set_other w₁ (4 * n + 1) i (SPANS * b + a) 0 (omega arith) ∙ get_or-set_other w (4 * n) i k 0 (omega arith)

pub forks_token : (w : List ℕ) (n k a b h l : ℕ) → n < TOKENS → SameForks (put_token w n k a b h l) w
forks_token w n k a b h l c = record {
  words = λ i x y. put_above w n k a b h l i (omega arith);
  count = put_above w n k a b h l FORKS_AT (omega arith);
}

pub forks_next : {u v w : List ℕ} → SameForks u v → SameForks v w → SameForks u w
forks_next a b = record { words = λ i x y. a.words i x y ∙ b.words i x y; count = a.count ∙ b.count }

-- nor is where a spelling stands a word of a fork
pub forks_start : (w : List ℕ) (n x : ℕ) → n < TOKENS → SameForks (set w (STARTS_AT + n) x) w
forks_start w n x h = record {
  words = λ i y z. get_or-set_other w (STARTS_AT + n) i x 0 (omega arith);
  count = get_or-set_other w (STARTS_AT + n) FORKS_AT x 0 (omega arith);
}

-- ---- cleared

-- with all of their words cleared they are the same
pub but_cleared : {v w : List ℕ} → ButRows v w → zeros v 0 TABLE ≡ zeros w 0 TABLE
but_cleared {v} {w} a = zeros_same TABLE 0 v w a.long (λ i h. a.words i (λ x y. h (omega arith) (omega arith)))
