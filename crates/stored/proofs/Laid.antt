-- Tokens of lines in a table: where the line of each begins, and that its digits are those of its spelling.
use lib.ListN.{length, get_or, take, drop, length-append, take-append-drop}
use lib.Seq.{slice, take-suc, drop-cons, take-append_seam, drop-append_seam, take-append-add, take-length, length-take-le}
use mathlib.Core.List.{List, [], ◌∷◌, ◌++◌, append_assoc}
use mathlib.Core.Path.{◌≡◌, refl, sym, ap, ap₂, ◌∙◌}
use native.Mathlib.Nat.{zero-add}
use native.Mathlib.Omega.{arith}
use Prim.Native.Nat.{ℕ, zero, suc, ◌+◌, ◌*◌, ◌/◌, ◌≤◌, ◌<◌}
use Rattle.language.proofs.Stored.Digits.{hex_long}
use Rattle.language.proofs.Stored.Lone.{lone_piece, piece_lone, one_lone}
use Rattle.language.proofs.Text.Marks.{Laws}
use Rattle.language.specs.Sizes.{TOKENS}
use Rattle.language.specs.Stored.{hex, line, count_line, token_lines, spelled_bytes, Lone, AllLone, lone_none, lone_more, GoodLines}
use Rattle.language.specs.Tokens.{Vocabulary, Token, past}
use Rattle.layout.proofs.TokenLaws.{lay_holds, end_held}
use Rattle.layout.specs.Table.{SPANS, token_end}
use Rattle.tokens.specs.Answer.{Laid}
use Rattle.stored.specs.Names.{line_from, digits_of}

-- ---- lengths

line_length : (s : List ℕ) → length (line s) ≡ length s * 2 + 1
unfolding line
line_length s = simp (length-append, hex_long) (omega arith)

pub count_length : (n : ℕ) → length (count_line n) ≡ 5
unfolding count_line line hex
count_length n = refl

pub lines_length : (ts : List Token) → length (token_lines ts) ≡ spelled_bytes ts * 2 + length ts
unfolding token_lines spelled_bytes
lines_length [] = omega arith
lines_length (t ∷ ts) =
    omega (arith, length-append (line t.spelling) (token_lines ts), line_length t.spelling, lines_length ts)

pub spelled_snoc : (ts : List Token) (t : Token) → spelled_bytes (ts ++ (t ∷ [])) ≡ spelled_bytes ts + length t.spelling
unfolding spelled_bytes
spelled_snoc [] t = omega arith
spelled_snoc (u ∷ ts) t = omega (arith, spelled_snoc ts t)

pub good_length : {voc : Vocabulary} {t : List ℕ} {n : ℕ} {ts : List Token} {rest : List ℕ} → GoodLines voc t n ts rest
    → length t ≡ 5 + (spelled_bytes ts * 2 + length ts) + length rest
good_length {n = n} {ts = ts} {rest = rest} g =
    ap length g.lines ∙ simp length-append (omega (arith, count_length n, lines_length ts))

-- ---- one token of many

module _ {voc : Vocabulary} (laws : Laws voc) where
  pub lone_at : {ts : List Token} → AllLone voc ts → (i : ℕ) → i < length ts → Lone voc (get_or ts i past)
  lone_at lone_none i h = absurd (omega arith)
  lone_at (lone_more x xs) zero h = x
  lone_at (lone_more x xs) (suc i) h = lone_at xs i (omega arith)

  -- it begins at 0, as it stands alone
  pub lone_place : {u : Token} → Lone voc u → u.place ≡ 0
  lone_place {u} x =
      let w = lone_piece x.splits in
      ap (λ (t : Token). t.place) (one_lone laws x.splits (piece_lone u.spelling u.kind u.value w.piece w.small) refl)

lines_append : (ts us : List Token) → token_lines (ts ++ us) ≡ token_lines ts ++ token_lines us
unfolding token_lines
lines_append [] us = refl
lines_append (t ∷ ts) us =
    ap (λ (s : List ℕ). line t.spelling ++ s) (lines_append ts us) ∙ sym (append_assoc (line t.spelling) (token_lines ts) (token_lines us))

lines_around : (ts : List Token) (i : ℕ) → i < length ts
    → token_lines ts ≡ token_lines (take i ts) ++ (line (get_or ts i past).spelling ++ token_lines (drop (suc i) ts))
unfolding token_lines
lines_around ts i h =
    ap token_lines (sym (take-append-drop i ts)) ∙ lines_append (take i ts) (drop i ts)
    ∙ ap (λ (us : List Token). token_lines (take i ts) ++ token_lines us) (drop-cons ts i past h)

-- a part between two others
part : (a s b : List ℕ) → slice (length a) (length a + length s) (a ++ (s ++ b)) ≡ s
part a s b =
    ap (drop (length a)) (take-append-add a (s ++ b) (length s) ∙ ap (λ (r : List ℕ). a ++ r) (take-append_seam s b))
    ∙ drop-append_seam a s

module _ {voc : Vocabulary} (laws : Laws voc) {t : List ℕ} {n : ℕ} {ts : List Token} {rest : List ℕ} (g : GoodLines voc t n ts rest) where
  before : ℕ → List ℕ
  before i = count_line n ++ token_lines (take i ts)

  around : (i : ℕ) → i < length ts
      → t ≡ before i ++ (hex (get_or ts i past).spelling ++ (10 ∷ (token_lines (drop (suc i) ts) ++ rest)))
  unfolding before line
  around i h =
      let s = (get_or ts i past).spelling in
      let a = token_lines (take i ts) in
      let b = token_lines (drop (suc i) ts) in
      g.lines
      ∙ ap (λ (r : List ℕ). count_line n ++ (r ++ rest)) (lines_around ts i h)
      ∙ simp append_assoc

  module _ (w₀ : List ℕ) {w : List ℕ} (room : 4 * length ts ≤ length w₀) (few : length ts ≤ TOKENS) (laid : Laid ts w₀ w) where
    -- the table tells how long each spelling is
    pub end_is : (i : ℕ) → i < length ts → token_end w i ≡ length (get_or ts i past).spelling
    end_is i h =
        let z = lay_holds ts w₀ room i h in
        let e = lone_place laws (lone_at laws g.tokens i h) in
        ap (λ (x : ℕ). x / SPANS) (laid.words (4 * i + 1) (λ a b. omega arith)) ∙ end_held z (omega arith)
        ∙ rw e (zero-add (length (get_or ts i past).spelling))

    -- so where its line begins
    pub from_is : (i : ℕ) → i ≤ length ts → line_from w i ≡ 5 + (spelled_bytes (take i ts) * 2 + i)
    unfolding line_from spelled_bytes
    from_is zero h = refl
    from_is (suc i) h =
        let u = get_or ts i past in
        let x = from_is i (omega arith) in
        let y = end_is i (omega arith) in
        let z = ap spelled_bytes (take-suc ts i past (omega arith)) ∙ spelled_snoc (take i ts) u in
        omega arith

    pub from_end : line_from w (length ts) ≡ 5 + (spelled_bytes ts * 2 + length ts)
    from_end = from_is (length ts) (omega arith) ∙ ap (λ (us : List Token). 5 + (spelled_bytes us * 2 + length ts)) (take-length ts)

    before_length : (i : ℕ) → i < length ts → length (before i) ≡ line_from w i
    unfolding before
    before_length i h =
        let z = from_is i (omega arith) in
        let l = length-take-le i ts (omega arith) in
        simp length-append (omega (arith, count_length n, lines_length (take i ts)))

    -- and its digits are those of the spelling
    pub digits_are : (i : ℕ) → i < length ts → digits_of t w i ≡ hex (get_or ts i past).spelling
    digits_are i h =
        let s = (get_or ts i past).spelling in
        let a = before_length i h in
        let b : length (before i) + length (hex s) ≡ line_from w i + token_end w i * 2 = omega (arith, hex_long s, end_is i h, a) in
        let r : List ℕ = 10 ∷ (token_lines (drop (suc i) ts) ++ rest) in
        ap (slice (line_from w i) (line_from w i + token_end w i * 2)) (around i h)
        ∙ sym (ap₂ (λ (x y : ℕ). slice x y (before i ++ (hex s ++ r))) a b)
        ∙ part (before i) (hex s) r
