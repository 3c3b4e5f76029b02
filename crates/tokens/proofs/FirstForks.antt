-- The forks at which ways begin, as they are written first.
use lib.ListN.{length, get_or, set, length-set}
use lib.Seq.{get_or-set_same, get_or-set_other}
use mathlib.Core.List.{List}
use mathlib.Core.Logic.{⊎_elim}
use mathlib.Core.Path.{◌≡◌, sym, ◌∙◌, ap, subst₂}
use native.Mathlib.Omega.{arith}
use Prim.Native.Nat.{ℕ, zero, suc, ◌+◌, ◌*◌, ◌≤◌, ◌<◌}
use borrow.Author.Tests.{lt-ltb, le-ltb}
use Rattle.language.proofs.Text.Choices.{either}
use Rattle.language.specs.Sizes.{TOKENS, TABLE}
use Rattle.layout.proofs.VariablesWords.{length_zeros, zeros_before}
use Rattle.layout.specs.Table.{ROWS_AT, VARIABLES_AT, zeros}
use Rattle.tokens.proofs.Agreeing.{but_self, but_inside}
use Rattle.tokens.proofs.NewFork.{token_link}
use Rattle.tokens.specs.Forks.{ButRows, ROOTS, FORKS_AT, root_of, start_at, Link, Begun}

-- ---- words that become 0

but_zeros : {v w : List ℕ} (n a : ℕ) → ROWS_AT ≤ a → a + n ≤ VARIABLES_AT → ButRows v w → ButRows (zeros v a n) w
unfolding zeros
but_zeros zero a h l x = x
but_zeros (suc n) a h l x = but_zeros n (a + 1) (omega arith) (omega arith) (but_inside a 0 h (omega arith) x)

zeros_inside : (n : ℕ) (w : List ℕ) (a j : ℕ) → a + n ≤ length w → a ≤ j → j < a + n → get_or (zeros w a n) j 0 ≡ 0
unfolding zeros
zeros_inside zero w a j r h l = absurd (omega arith)
zeros_inside (suc n) w a j r h l =
    ⊎_elim (λ c. zeros_inside n (set w a 0) (a + 1) j (omega (arith, length-set w a 0)) (omega arith) (omega arith))
    (λ c. let e : j ≡ a = omega arith in
    rw e (zeros_before n (set w a 0) (a + 1) a (omega arith) ∙ get_or-set_same w a 0 0 (omega arith))) (either a j)

-- ---- and then how many forks there are

pub begun : {w u v : List ℕ} → TABLE ≤ length w → u ≡ zeros w ROWS_AT (4 * ROOTS) → v ≡ set u FORKS_AT ROOTS → Begun w v
begun {w} {u} {v} room e f = record {
  rest =
      rw (f, e) (but_inside FORKS_AT ROOTS (omega arith) (omega arith) (but_zeros (4 * ROOTS) ROWS_AT (omega arith) (omega arith) (but_self w)));
  shape = record {
    some = omega (arith, forks);
    few = omega (arith, forks);
    bits = λ i h l. absurd (omega (arith, forks));
    links = λ i side h l t. subst₂ (λ (m x : ℕ). Link 0 m i x) (sym forks) (sym (none (4 * i + 2 + side) (omega arith) (omega (arith, forks))))
        (token_link i (omega arith, omega arith));
  };
}
  where
    long : length u ≡ length w
    long = ap length e ∙ length_zeros (4 * ROOTS) w ROWS_AT

    forks : get_or v FORKS_AT 0 ≡ ROOTS
    forks = ap (λ (z : List ℕ). get_or z FORKS_AT 0) f ∙ get_or-set_same u FORKS_AT ROOTS 0 (omega (arith, long))

    none : (i : ℕ) → ROWS_AT ≤ i → i < ROWS_AT + 4 * ROOTS → get_or v i 0 ≡ 0
    none i h l =
        ap (λ (z : List ℕ). get_or z i 0) f ∙ get_or-set_other u FORKS_AT i ROOTS 0 (omega arith) ∙ ap (λ (z : List ℕ). get_or z i 0) e
        ∙ zeros_inside (4 * ROOTS) w ROWS_AT i (omega arith) h l

-- ---- where a way begins

pub start_short : (n : ℕ) → n < 255 → 4 * (TOKENS + n) + 2 ≡ start_at n
unfolding root_of
start_short n h = rw (lt-ltb n 255 h)

pub start_long : (n : ℕ) → 255 ≤ n → 4 * (TOKENS + 255) + 2 ≡ start_at n
unfolding root_of
start_long n h = rw (le-ltb n 255 h)
