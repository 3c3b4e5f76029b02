-- Digits, and the bytes that they show: a line is digits up to its LF, an even number of them and not none; and each way in which
-- an input does not begin with such a line (R09.6).
use lib.ListN.{length}
use lib.Seq.{append_snoc}
use mathlib.Core.List.{List, [], ◌∷◌, ◌++◌}
use mathlib.Core.Path.{◌≡◌, refl, sym, ap, ap₂, ◌∙◌}
use native.Mathlib.Omega.{arith}
use Prim.Native.Nat.{ℕ, zero, suc, ◌+◌, ◌*◌, ◌/◌, ◌%◌, ◌≤◌, ◌<◌}
use Rattle.language.specs.Sizes.{BYTE}
use Rattle.language.specs.Text.{byte}
use Rattle.language.specs.Stored.{capital, hex, line, FirstLine}
use Rattle.language.proofs.Stored.Hex.{digit_worth, worth_capital, capital_worth, EachByte, no_byte, both}
use Rattle.language.proofs.Stored.LineNumbers.{InLine}
use Rattle.language.proofs.Stored.Cuts.{one_cut, never_ended}

-- each of them is a digit
abbrev pub Digits : List ℕ → Type 0
Digits [] = Unit {0}
Digits (d ∷ l) = (digit_worth d < 16) × Digits l

pub each_digit : (l : List ℕ) → ((i : ℕ) → i < length l → digit_worth (byte l i) < 16) → Digits l
each_digit [] h = tt
each_digit (d ∷ l) h = (h 0 (omega arith), each_digit l (λ i k. h (suc i) (omega arith)))

-- LF is none
lf_none : digit_worth 10 ≡ 16
unfolding digit_worth
lf_none = refl

pub digits_in_line : (l : List ℕ) → Digits l → InLine l
digits_in_line [] h = tt
digits_in_line (d ∷ l) h = (λ e. omega (arith, lf_none, ap digit_worth e, h.0), digits_in_line l h.1)

-- ---- the bytes that digits show, two for each

unfoldable pub shown : List ℕ → List ℕ
unfolding digit_worth
shown [] = []
shown (d ∷ []) = []
shown (d ∷ e ∷ l) = (digit_worth d * 16 + digit_worth e) ∷ shown l

pub shown_long : (l : List ℕ) → length (shown l) ≡ length l / 2
unfolding shown
shown_long [] = omega arith
shown_long (d ∷ []) = omega arith
shown_long (d ∷ e ∷ l) = omega (arith, shown_long l)

pub byte_shown : (l : List ℕ) (i : ℕ) → i * 2 + 1 < length l
    → byte (shown l) i ≡ digit_worth (byte l (i * 2)) * 16 + digit_worth (byte l (i * 2 + 1))
unfolding shown
byte_shown [] i h = absurd (omega arith)
byte_shown (d ∷ []) i h = absurd (omega arith)
byte_shown (d ∷ e ∷ l) zero h = refl
byte_shown (d ∷ e ∷ l) (suc i) h =
    let x : suc (suc (i * 2)) ≡ suc i * 2 = omega arith in
    let y : suc (suc (i * 2 + 1)) ≡ suc i * 2 + 1 = omega arith in
    byte_shown l i (omega arith)
    ∙ ap₂ (λ (m n : ℕ). digit_worth (byte (d ∷ e ∷ l) m) * 16 + digit_worth (byte (d ∷ e ∷ l) n)) x y

shown_bytes : (l : List ℕ) → Digits l → EachByte (shown l)
unfolding shown
shown_bytes [] h i = no_byte i
shown_bytes (d ∷ []) h i = no_byte i
shown_bytes (d ∷ e ∷ l) h zero = omega (arith, h.0, h.1.0)
shown_bytes (d ∷ e ∷ l) h (suc i) = shown_bytes l h.1.1 i

-- ---- an even number of digits is hexadecimal

pub hex_shown : (l : List ℕ) → Digits l → length l % 2 ≡ 0 → hex (shown l) ≡ l
unfolding shown hex
hex_shown [] h e = refl
hex_shown (d ∷ []) h e = absurd (omega arith)
hex_shown (d ∷ e ∷ l) h k =
    let a = h.0 in
    let b = h.1.0 in
    let x : (digit_worth d * 16 + digit_worth e) / 16 ≡ digit_worth d = omega arith in
    let y : (digit_worth d * 16 + digit_worth e) % 16 ≡ digit_worth e = omega arith in
    both (ap capital x ∙ worth_capital d a) (ap capital y ∙ worth_capital e b) (hex_shown l h.1.1 (omega arith))

-- and what is hexadecimal is so many digits
pub hex_long : (s : List ℕ) → length (hex s) ≡ length s * 2
unfolding hex
hex_long [] = omega arith
hex_long (b ∷ s) = omega (arith, hex_long s)

pub hex_digits : (s : List ℕ) → EachByte s → Digits (hex s)
unfolding hex
hex_digits [] h = tt
hex_digits (b ∷ s) h =
    let k : b ≤ BYTE = h 0 in (
      omega (arith, capital_worth (b / 16) (omega arith)),
      (omega (arith, capital_worth (b % 16) (omega arith)), hex_digits s (λ i. h (suc i))),
    )

-- ---- what an input begins with

-- digits and LF
pub digits_line : (t l rest : List ℕ) → Digits l → 0 < length l → length l % 2 ≡ 0 → t ≡ l ++ (10 ∷ rest) → FirstLine t (shown l) rest
unfolding line
digits_line t l rest h k e f = record {
  begins = f ∙ ap (λ (s : List ℕ). s ++ (10 ∷ rest)) (sym (hex_shown l h e)) ∙ sym (append_snoc (hex (shown l)) 10 rest);
  bytes = record { some = omega (arith, shown_long l); each = shown_bytes l h };
}

-- digits and LF, and the digits are odd or none
pub odd_none : {t s r : List ℕ} (l rest : List ℕ) → Digits l → (length l % 2 ≡ 0 → length l ≡ 0) → t ≡ l ++ (10 ∷ rest) → FirstLine t s r → ⊥
unfolding line
odd_none {t} {s} {r} l rest h k e f =
    let z = one_cut l (hex s) (digits_in_line l h) (digits_in_line (hex s) (hex_digits s f.bytes.each))
    (sym e ∙ f.begins ∙ append_snoc (hex s) 10 r) in
    let x : length l ≡ length s * 2 = ap length z.0 ∙ hex_long s in
    let y : length l ≡ 0 = k (omega arith) in
    omega (arith, f.bytes.some)

-- digits, and then a byte that is neither a digit nor LF
pub stray_none : {t s r : List ℕ} (l : List ℕ) (c : ℕ) (rest : List ℕ) → Digits l → 16 ≤ digit_worth c → (c ≡ 10 → ⊥) → t ≡ l ++ (c ∷ rest)
    → FirstLine t s r → ⊥
unfolding line
stray_none {t} {s} {r} l c rest h k n e f =
    go l (hex s) h (hex_digits s f.bytes.each) (sym e ∙ f.begins ∙ append_snoc (hex s) 10 r)
  where
    go : (l m : List ℕ) → Digits l → Digits m → l ++ (c ∷ rest) ≡ m ++ (10 ∷ r) → ⊥
    go [] [] a b x = n (cc)
    go [] (d ∷ m) a b x = let y : c ≡ d = cc in omega (arith, ap digit_worth y, b.0)
    go (d ∷ l) [] a b x = let y : d ≡ 10 = cc in omega (arith, ap digit_worth y, lf_none, a.0)
    go (d ∷ l) (e ∷ m) a b x = go l m a.1 b.1 (cc)

-- digits, and then nothing
pub digits_unended : {t s r : List ℕ} → Digits t → FirstLine t s r → ⊥
digits_unended {t} h f = never_ended (digits_in_line t h) f
