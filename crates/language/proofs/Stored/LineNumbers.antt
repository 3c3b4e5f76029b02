-- What a place of a stored sheet is: the number of a line, from 1. Each token stands on the line of its place, the end is the line
-- behind the last, and a line that is denied begins where its number says (R09.6, R09.9).
use lib.ListN.{length, take, drop, take-append-drop}
use lib.Seq.{append_snoc, drop-cons, length-take-le}
use mathlib.Core.List.{List, [], ◌∷◌, ◌++◌, append-nil, append_assoc}
use mathlib.Core.Path.{◌≡◌, refl, sym, ap, subst, ◌∙◌}
use native.Mathlib.Omega.{arith}
use Prim.Native.Nat.{ℕ, suc, ◌+◌, ◌/◌, ◌%◌, ◌<◌}
use Rattle.language.specs.Sizes.{Sizes}
use Rattle.language.specs.Tokens.{Vocabulary, Token, past, spelling_at}
use Rattle.language.specs.Numbers.{Refusal}
use Rattle.language.specs.Answers.{at, place_in}
use Rattle.language.specs.Stored.{hex, line, count_line, token_lines, stored, StoredGivesUnder, GoodLinesUnder, stored_under}
use Rattle.language.specs.Stored.{StoredDeniesUnder, no_count, large_count, no_line, no_token, miscounted, overlong}
use Rattle.language.proofs.Stored.Hex.{not_capital}

-- ---- lines of an input, whatever stands on them

-- no LF among these bytes
abbrev pub InLine : List ℕ → Type 0
InLine [] = Unit {0}
InLine (b ∷ s) = (b ≡ 10 → ⊥) × InLine s

-- `rest` begins line number x
pub data LineAt (input : List ℕ) : ℕ → List ℕ → Type 0 where
  first : LineAt input 1 input
  behind : {x : ℕ} {t : List ℕ} (l : List ℕ) {rest : List ℕ} → LineAt input x t → InLine l → t ≡ l ++ (10 ∷ rest) → LineAt input (x + 1) rest

-- ---- lines of hexadecimal are lines

pub hex_in_line : (s : List ℕ) → InLine (hex s)
unfolding hex
hex_in_line [] = tt
hex_in_line (b ∷ s) = (not_capital (b / 16), (not_capital (b % 16), hex_in_line s))

module _ {input : List ℕ} where
  line_behind : {x : ℕ} {t : List ℕ} (s rest : List ℕ) → LineAt input x t → t ≡ line s ++ rest → LineAt input (x + 1) rest
  unfolding line
  line_behind s rest a e = behind (hex s) a (hex_in_line s) (e ∙ append_snoc (hex s) 10 rest)

  lines_behind : {x : ℕ} {t : List ℕ} (ts : List Token) (rest : List ℕ) → LineAt input x t → t ≡ token_lines ts ++ rest
      → LineAt input (length ts + x) rest
  unfolding token_lines
  lines_behind {x} [] rest a e =
      let z : x ≡ 0 + x = omega arith in
      subst (λ (n : ℕ). LineAt input n rest) z (subst (LineAt input x) e a)
  lines_behind {x} (t ∷ ts) rest a e =
      let z : length ts + (x + 1) ≡ suc (length ts) + x = omega arith in
      let b = line_behind t.spelling (token_lines ts ++ rest) a (e ∙ append_assoc (line t.spelling) (token_lines ts) rest) in
      subst (λ (n : ℕ). LineAt input n rest) z (lines_behind {x = x + 1} ts rest b refl)

  second : (n : ℕ) (rest : List ℕ) → input ≡ count_line n ++ rest → LineAt input 2 rest
  unfolding count_line
  second n rest e = line_behind (n / 256 ∷ n % 256 ∷ []) rest first e

  -- what stands behind good lines begins the line of that number
  pub good_at : {σ : Sizes} {voc : Vocabulary} {n : ℕ} {ts : List Token} {rest : List ℕ} → GoodLinesUnder σ voc input n ts rest
      → LineAt input (length ts + 2) rest
  good_at {n = n} {ts = ts} {rest = rest} g = lines_behind ts rest (second n (token_lines ts ++ rest) g.lines) refl

-- ---- the place of a token, and of the end

lines_append : (ts us : List Token) → token_lines (ts ++ us) ≡ token_lines ts ++ token_lines us
unfolding token_lines
lines_append [] us = refl
lines_append (t ∷ ts) us =
    ap (λ (s : List ℕ). line t.spelling ++ s) (lines_append ts us) ∙ sym (append_assoc (line t.spelling) (token_lines ts) (token_lines us))

-- the lines of tokens, as they stand before token i, on its line and behind it
lines_around : (ts : List Token) (i : ℕ) → i < length ts
    → token_lines ts ≡ token_lines (take i ts) ++ (line (spelling_at ts i) ++ token_lines (drop (suc i) ts))
unfolding token_lines spelling_at
lines_around ts i h =
    ap token_lines (sym (take-append-drop i ts))
    ∙ lines_append (take i ts) (drop i ts)
    ∙ ap (λ (us : List Token). token_lines (take i ts) ++ token_lines us) (drop-cons ts i past h)

module _ {σ : Sizes} {voc : Vocabulary} {input : List ℕ} {ts : List Token} (g : StoredGivesUnder σ voc input ts) where
  -- token i is on the line of its place
  pub token_at : (i : ℕ) → i < length ts → (rest : List ℕ) × LineAt input (place_in (stored_under σ voc input) ts (at i)) (line (spelling_at ts i) ++ rest)
  unfolding stored
  token_at i h =
      let rest = token_lines (drop (suc i) ts) in
      let a = second (length ts) (token_lines ts) g.form in
      let b = lines_behind (take i ts) (line (spelling_at ts i) ++ rest) a (lines_around ts i h) in
      (rest, subst (λ (n : ℕ). LineAt input (n + 2) (line (spelling_at ts i) ++ rest)) (length-take-le i ts (omega arith)) b)

  -- the end is where a line would begin behind the last
  pub end_at : LineAt input (place_in (stored_under σ voc input) ts (at (length ts))) []
  unfolding stored
  end_at = lines_behind ts [] (second (length ts) (token_lines ts) g.form) (sym (append-nil (token_lines ts)))

-- ---- the place of a denial

-- it is a line, or nothing
pub denied_at : {σ : Sizes} {voc : Vocabulary} {input : List ℕ} {r : Refusal} {x : ℕ} → StoredDeniesUnder σ voc input r x → 0 < x
    → (rest : List ℕ) × LineAt input x rest
denied_at {input = input} (no_count h) k = (input, first)
denied_at {input = input} (large_count f h) k = (input, first)
denied_at (no_line g h) k = (_, good_at g)
denied_at (no_token g f h) k = (_, good_at g)
denied_at {input = input} (miscounted g h) k = (input, first)
denied_at (overlong g h) k = absurd (omega arith)
