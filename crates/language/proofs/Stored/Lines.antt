-- What an input begins with, by what is taken from it: its first line holds the same bytes for everyone, and so does a count.
use lib.ListN.{length, length-append}
use mathlib.Core.List.{List, [], ◌∷◌, ◌++◌, append-nil, append_assoc}
use mathlib.Core.Path.{◌≡◌, sym, ap, ◌∙◌}
use native.Mathlib.Omega.{arith}
use Prim.Native.Nat.{ℕ, zero, suc, ◌+◌, ◌*◌, ◌/◌, ◌%◌, ◌≤◌, ◌<◌}
use Rattle.language.specs.Tokens.{Token}
use Rattle.language.specs.Stored.{line, count_line, token_lines, Bytes, FirstLine, FirstCount}
use Rattle.language.proofs.Stored.Hex.{untaken, taken, take_line, EachByte, no_byte, taken_line, line_taken}

-- ---- lines

pub first_taken : {t s r : List ℕ} → FirstLine t s r → take_line t ≡ taken s r
first_taken {t} {s} {r} f = ap take_line f.begins ∙ line_taken s r f.bytes.each

-- there is one first line
pub one_first_line : {t s r u w : List ℕ} → FirstLine t s r → FirstLine t u w → (s ≡ u) × (r ≡ w)
one_first_line a b = let e = sym (first_taken a) ∙ first_taken b in (cc, cc)

-- two spellings are one exactly where their lines are
pub one_spelling : {s u : List ℕ} → Bytes s → Bytes u → line s ≡ line u → s ≡ u
one_spelling {s} {u} a b e =
    (one_first_line record { begins = sym (append-nil (line s)); bytes = a } record { begins = e ∙ sym (append-nil (line u)); bytes = b }).0

-- what holds a byte is a line, if it is taken
pub taken_first : (t : List ℕ) (b : ℕ) (s r : List ℕ) → take_line t ≡ taken (b ∷ s) r → FirstLine t (b ∷ s) r
taken_first t b s r e =
    let z = taken_line t (b ∷ s) r e in
    record { begins = z.0; bytes = record { some = omega arith; each = z.1 } }

-- an input with nothing to take, or with an empty line, begins with none
pub untaken_none : {t s r : List ℕ} → take_line t ≡ untaken → FirstLine t s r → ⊥
untaken_none e f = let g = first_taken f in let z : ◌≡◌ {A = ℕ} 0 1 = cc in omega arith

pub empty_none : {t s r u : List ℕ} → take_line t ≡ taken [] u → FirstLine t s r → ⊥
empty_none {s = s} {u = u} e f =
    let g = sym (first_taken f) ∙ e in
    let z : s ≡ [] = cc in
    omega (arith, ap length z, f.bytes.some)

-- ---- counts

two_bytes : (a b : ℕ) → a ≤ 255 → b ≤ 255 → EachByte (a ∷ b ∷ [])
two_bytes a b h k zero = h
two_bytes a b h k (suc zero) = k
two_bytes a b h k (suc (suc i)) = no_byte i

pub count_taken : {t r : List ℕ} {n : ℕ} → FirstCount t n r → take_line t ≡ taken (n / 256 ∷ n % 256 ∷ []) r
unfolding count_line
count_taken {t} {r} {n} f =
    ap take_line f.begins ∙ line_taken (n / 256 ∷ n % 256 ∷ []) r (two_bytes (n / 256) (n % 256) (omega (arith, f.digits)) (omega arith))

pub taken_count : (t : List ℕ) (a b : ℕ) (r : List ℕ) → take_line t ≡ taken (a ∷ b ∷ []) r → FirstCount t (a * 256 + b) r
unfolding count_line
taken_count t a b r e =
    let z = taken_line t (a ∷ b ∷ []) r e in
    let x : a ≤ 255 = z.1 0 in
    let y : b ≤ 255 = z.1 1 in
    let f : (a * 256 + b) / 256 ≡ a = omega arith in
    let g : (a * 256 + b) % 256 ≡ b = omega arith in
    record { begins = rw (f, g) z.0; digits = omega arith }

-- there is one count
pub one_count : {t r w : List ℕ} {n m : ℕ} → FirstCount t n r → FirstCount t m w → (n ≡ m) × (r ≡ w)
one_count {n = n} {m = m} a b =
    let e = sym (count_taken a) ∙ count_taken b in
    let f : n / 256 ≡ m / 256 = cc in
    let g : n % 256 ≡ m % 256 = cc in
    (omega arith, cc)

-- ---- lines of tokens

pub lines_snoc : (ts : List Token) (t : Token) (r : List ℕ) → token_lines (ts ++ (t ∷ [])) ++ r ≡ token_lines ts ++ (line t.spelling ++ r)
unfolding token_lines
lines_snoc [] t r = ap (λ (s : List ℕ). s ++ r) (append-nil (line t.spelling))
lines_snoc (u ∷ ts) t r =
    append_assoc (line u.spelling) (token_lines (ts ++ (t ∷ []))) r
    ∙ ap (λ (s : List ℕ). line u.spelling ++ s) (lines_snoc ts t r)
    ∙ sym (append_assoc (line u.spelling) (token_lines ts) (line t.spelling ++ r))

-- a line has its LF
pub line_long : (s r : List ℕ) → length r < length (line s ++ r)
unfolding line
line_long s r = simp length-append (omega arith)
