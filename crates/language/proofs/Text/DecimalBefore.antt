-- Before there were bases a text that now has a number in one had the number 0 there and a name behind it. So a text splits
-- as it did, if in no place a number was followed by a name (R06.6).
use lib.Dec.{eqb}
use lib.ListN.{length, get_or, length-append, get_or-append}
use lib.Seq.{slice, slice-cons, get_or-append_seam}
use mathlib.Core.Bool.{Bool, true, false, not}
use mathlib.Core.List.{List, [], ◌∷◌, ◌++◌}
use mathlib.Core.Logic.{◌⊎◌, inl, inr}
use mathlib.Core.Option.{Option, none, some, none-ne-some}
use mathlib.Core.Path.{◌≡◌, refl, sym, ◌∙◌, ap, subst}
use borrow.Author.Tests.{eqb-true}
use native.Mathlib.Nat.{le_refl}
use native.Mathlib.Omega.{arith}
use Prim.Native.Nat.{ℕ, suc, ◌+◌, ◌≤◌, ◌<◌}
use Rattle.language.proofs.Text.Choices.{either}
use Rattle.language.proofs.Text.Classes.{letter_not_digit, point_no_letter, digit_of_some, name_digit_of, name_letter}
use Rattle.language.proofs.Text.Marks.{Laws, laws_1, base_shape, slice_two}
use Rattle.language.proofs.Text.OnePiece.{one_piece}
use Rattle.language.proofs.Text.OneSplit.{Step, over, put, Later, here, step, from_start}
use Rattle.language.proofs.Text.Pieces.{Tells, number_piece}
use Rattle.language.proofs.Text.Places.{sort_letter, view, View}
use Rattle.language.proofs.Text.Places.Sort.{letters}
use Rattle.language.proofs.Text.Spellings.{byte_inside}
use Rattle.language.proofs.Text.Tables.{every, spelling_of, passes, no_kind}
use Rattle.language.specs.Sizes.{Sizes}
use Rattle.language.specs.Text.{byte, between, is_letter, is_digit, is_hex_digit, worth, is_digit_of, is_name_byte}
use Rattle.language.specs.Text.{Content, Form, Piece, word_kind, number_from, token_of, Reaches, SplitsUnder}
use Rattle.language.specs.Text.Content.{space, token}
use Rattle.language.specs.Text.Form.{blank, line, comment, unended, name, number, based, float, mark}
use Rattle.language.specs.Text.Reaches.{start, skip, next}
use Rattle.language.specs.Tokens.{Spelling, same, Vocabulary, EDITION_1, words, marks, bases, spelled, Token, past, At, kind_at, NAME, NUMBER}

-- the vocabulary of that time
abbrev pub DECIMAL : Vocabulary
DECIMAL = record { words = words; marks = marks; bases = []; points = λ _. true }

pub laws_then : Laws DECIMAL
unfolding every
laws_then = record { shapes = laws_1.shapes; leads = refl; loose = λ a b p q. refl; last = λ a p. refl }

-- ---- what begins like a number in a base is no word

-- the byte behind the `0`, which tells a base, and a digit of it
unfoldable digit_told : Option ℕ → ℕ → Bool
digit_told none c = false
digit_told (some base) c = is_digit_of base c

goes_on : ℕ → ℕ → Bool
unfolding digit_told
goes_on a c = digit_told (spelled bases (48 ∷ a ∷ [])) c

-- a word does not go on so
other_word : Spelling → Bool
unfolding goes_on
other_word [] = true
other_word (a ∷ []) = true
other_word (a ∷ c ∷ s) = not (goes_on a c)

words_other : every (λ r. other_word (spelling_of r)) words ≡ true
unfolding other_word every spelled same is_digit_of is_hex_digit worth is_digit between
words_other = refl

zero_first : Spelling → Bool
zero_first [] = false
zero_first (a ∷ s) = eqb a 48

told : (a b base c : ℕ) → spelled bases (a ∷ b ∷ []) ≡ some base → is_digit_of base c ≡ true → goes_on b c ≡ true
unfolding goes_on every zero_first
told a b base c e d =
    let z : a ≡ 48 = eqb-true a 48 (passes zero_first bases (a ∷ b ∷ []) base refl e) in
    let f : spelled bases (48 ∷ b ∷ []) ≡ some base = subst (λ x. spelled bases (x ∷ b ∷ []) ≡ some base) z e in
    rw f d

-- so it is a name
name_told : (a c : ℕ) (s : Spelling) → goes_on a c ≡ true → word_kind DECIMAL (a ∷ c ∷ s) ≡ NAME
unfolding word_kind other_word
name_told a c s h =
    let f : spelled words (a ∷ c ∷ s) ≡ none = no_kind other_word words (a ∷ c ∷ s) words_other (rw h) in
    rw f

-- ---- one piece

module _ (t : List ℕ) (p : ℕ) where
  lift_form : {q : ℕ} {c : Content} → Form DECIMAL t p q c → Form EDITION_1 t p q c
  unfolding word_kind spelled
  lift_form (blank h b e) = blank h b e
  lift_form (line s a b e) = line s a b e
  lift_form (comment d) = comment d
  lift_form (unended s n e) = unended s n e
  lift_form (name w l e) = name w l e
  lift_form (number w e) = number w e
  lift_form (based {base = base} s w e) = absurd (none-ne-some base s)
  lift_form (float {m = m} a w e b l h g) = float {m = m} a w e b l h g
  lift_form (mark {k = k} w e) = mark {k = k} w e

  drop_form : {q : ℕ} {c : Content} → ((base : ℕ) → Tells laws_1 t p base → ⊥) → Form EDITION_1 t p q c → Form DECIMAL t p q c
  unfolding word_kind
  drop_form n (blank h b e) = blank h b e
  drop_form n (line s a b e) = line s a b e
  drop_form n (comment d) = comment d
  drop_form n (unended s m e) = unended s m e
  drop_form n (name w l e) = name w l e
  drop_form n (number w e) = number w e
  drop_form n (based {base = base} s w e) = absurd (n base (s, e (p + 2) w.some (le_refl (p + 2))))
  drop_form n (float {m = m} a w e b l h g) = float {m = m} a w e b l h g
  drop_form n (mark {k = k} w e) = mark {k = k} w e

  -- a piece is what it was, unless it begins like a number in a base
  lift_piece : {q : ℕ} {c : Content} → ((base : ℕ) → Tells laws_1 t p base → ⊥) → Piece DECIMAL t p q c → Piece EDITION_1 t p q c
  lift_piece n x = record { form = lift_form x.form; longest = λ e d y. x.longest e d (drop_form n y) }

-- ---- a number in a base was two tokens

letter_second : Spelling → Bool
letter_second [] = false
letter_second (a ∷ []) = false
letter_second (a ∷ b ∷ s) = is_letter b

letters_second : every (λ r. letter_second (spelling_of r)) bases ≡ true
unfolding every letter_second is_letter between
letters_second = refl

-- one token is put behind ts, of kind k
record Puts (ts vs : List Token) (k : ℕ) : Type 0 where
  token : Token
  kind : token.kind ≡ k
  puts : vs ≡ ts ++ (token ∷ [])

module _ (t : List ℕ) (p base : ℕ) (h : Tells laws_1 t p base) where
  there : p + 2 < length t
  there = byte_inside t (p + 2) (byte t (p + 2)) refl (digit_of_some base (byte t (p + 2)) h.1)

  spells : spelled bases (byte t p ∷ byte t (p + 1) ∷ []) ≡ some base
  spells = rw (slice_two t p (omega (arith, there))) at h.0

  letter : is_letter (byte t (p + 1)) ≡ true
  unfolding letter_second
  letter = passes letter_second bases (byte t p ∷ byte t (p + 1) ∷ []) base letters_second spells

  then_number : Piece DECIMAL t p (p + 1) (token NUMBER (number_from 10 0 (slice p (p + 1) t)))
  unfolding spelled
  then_number =
      let z = base_shape laws_1 t p base (omega (arith, there)) h.0 in
      let digit : (k : ℕ) → k < p + 1 → p ≤ k → is_digit (byte t k) ≡ true =
      λ k a b. let e : k ≡ p = omega arith in subst (λ x. is_digit (byte t x) ≡ true) (sym e) z.0 in
      number_piece laws_then t p (p + 1) (omega (arith, there)) z.0 (λ b x. none-ne-some b x.0)
      (λ x. point_no_letter (byte t (p + 1)) x.1 letter)
      (record { order = omega arith; within = omega (arith, there); each = digit; stop = λ l. letter_not_digit (byte t (p + 1)) letter })

  then_name : {q : ℕ} {c : Content} → Piece DECIMAL t (p + 1) q c → c ≡ Content.token NAME 0
  then_name {q} {c} x =
      let v : View DECIMAL t (p + 1) q c letters = rw (sort_letter t (p + 1) letter) at (view laws_then t (p + 1) q c x.form) in
      let each : (k : ℕ) → k < p + 3 → p + 1 ≤ k → is_name_byte (byte t k) ≡ true = λ k a b. two k a b (either k (p + 2)) in
      let l = x.longest (p + 3) _ (name (record { some = omega arith; inside = omega (arith, there) }) letter each) in
      let e : slice (p + 1) q t ≡ byte t (p + 1) ∷ byte t (p + 2) ∷ slice (p + 3) q t = two_more l v.0.within in
      let w = name_told (byte t (p + 1)) (byte t (p + 2)) (slice (p + 3) q t) (told (byte t p) (byte t (p + 1)) base (byte t (p + 2)) spells h.1) in
      v.1 ∙ ap (λ s. Content.token (word_kind DECIMAL s) 0) e ∙ ap (λ k. Content.token k 0) w
    where
      two : (k : ℕ) → k < p + 3 → p + 1 ≤ k → (k < p + 2) ⊎ (p + 2 ≤ k) → is_name_byte (byte t k) ≡ true
      two k a b (inl u) =
          let e : k ≡ p + 1 = omega arith in
          subst (λ x. is_name_byte (byte t x) ≡ true) (sym e) (name_letter (byte t (p + 1)) letter)
      two k a b (inr u) =
          let e : k ≡ p + 2 = omega arith in
          subst (λ x. is_name_byte (byte t x) ≡ true) (sym e) (name_digit_of base (byte t (p + 2)) h.1)

      two_more : p + 3 ≤ q → q ≤ length t → slice (p + 1) q t ≡ byte t (p + 1) ∷ byte t (p + 2) ∷ slice (p + 3) q t
      two_more l m =
          let e : suc (p + 1) ≡ p + 2 = omega arith in
          let f : suc (p + 2) ≡ p + 3 = omega arith in
          rw (slice-cons (p + 1) q t 0 (omega arith) m, e, slice-cons (p + 2) q t 0 (omega arith) m, f)

  step_number : {ts vs : List Token} {e : ℕ} → Step DECIMAL t p ts e vs → (e ≡ p + 1) × Puts ts vs NUMBER
  step_number {e = e} (over a x) =
      absurd (let z = (one_piece laws_then t p e (p + 1) space _ a then_number).1 in let y : ◌≡◌ {A = ℕ} 0 1 = cc in omega arith)
  step_number {e = e} (put {k = k} {v = v} a l x) =
      let z = one_piece laws_then t p e (p + 1) (Content.token k v) _ a then_number in
      let w = z.1 in
      let y : k ≡ NUMBER = cc in
      (z.0, record { token = token_of t p e k v; kind = y; puts = x })

  step_name : {ts vs : List Token} {e : ℕ} → Step DECIMAL t (p + 1) ts e vs → Puts ts vs NAME
  step_name (over a x) = absurd (let z = then_name a in let y : ◌≡◌ {A = ℕ} 0 1 = cc in omega arith)
  step_name {e = e} (put {k = k} {v = v} a l x) =
      let z = then_name a in
      let y : k ≡ NAME = cc in
      record { token = token_of t (p + 1) e k v; kind = y; puts = x }

-- ---- the whole text

-- what is reached later has the tokens of before
later_keeps : {voc : Vocabulary} {t : List ℕ} {q : ℕ} {us : List Token} {p : ℕ} {ts : List Token} → Later voc t q us p ts
    → (i : ℕ) → i < length ts → get_or us i past ≡ get_or ts i past
later_keeps here i h = refl
later_keeps (step (over a x) l) i h = later_keeps l i (rw x h) ∙ ap (λ s. get_or s i past) x
later_keeps (step {ts = ts} (put {k = k} {v = v} a m x) l) i h =
    later_keeps l i (rw x (simp length-append (omega arith))) ∙ ap (λ s. get_or s i past) x ∙ get_or-append ts _ past i h

puts_last : {ts vs : List Token} {k : ℕ} → Puts ts vs k → (get_or vs (length ts) past).kind ≡ k
puts_last {ts} {vs} x =
    ap (λ s. (get_or s (length ts) past).kind) x.puts ∙ ap (λ u. u.kind) (get_or-append_seam ts x.token [] past) ∙ x.kind

puts_length : {ts vs : List Token} {k : ℕ} → Puts ts vs k → length vs ≡ length ts + 1
puts_length {ts} x = ap length x.puts ∙ simp length-append

-- no number is followed by a name
abbrev pub NoPair : List Token → Type 0
NoPair us = (k : ℕ) → At us k NUMBER → At us (k + 1) NAME → ⊥

module _ (t : List ℕ) (us : List Token) (apart : NoPair us) where
  -- so none of its numbers is now in a base
  no_base : {p e base : ℕ} {ts vs : List Token} → Tells laws_1 t p base → Step DECIMAL t p ts e vs → Later DECIMAL t (length t) us e vs → ⊥
  unfolding kind_at
  no_base {p} {e} {base} {ts} {vs} h s l = go (step_number t p base h s).0 (step_number t p base h s).1 l
    where
      go : {e : ℕ} {vs : List Token} → e ≡ p + 1 → Puts ts vs NUMBER → Later DECIMAL t (length t) us e vs → ⊥
      go z x here = omega (arith, there t p base h)
      go {vs = vs} z x (step {e = f} {vs = ws} s l) =
          let y = step_name t p base h (subst (λ n. Step DECIMAL t n vs f ws) z s) in
          let m = puts_length x in
          let n = puts_length y in
          let first = later_keeps (step s l) (length ts) (omega arith) in
          let second = later_keeps l (length vs) (omega arith) in
          apart (length ts) (ap (λ u. u.kind) first ∙ puts_last x)
          (ap (λ k. (get_or us k past).kind) (sym m) ∙ ap (λ u. u.kind) second ∙ puts_last y)

  onward : {p : ℕ} {ts : List Token} → Later DECIMAL t (length t) us p ts → Reaches EDITION_1 t p ts → Reaches EDITION_1 t (length t) us
  onward here r = r
  onward (step {p = p} {ts = ts} (over a x) l) r =
      onward l (subst (Reaches EDITION_1 t _) (sym x) (skip r (lift_piece t p (λ base h. no_base {ts = ts} h (over a x) l) a)))
  onward (step {p = p} {ts = ts} (put a h x) l) r = onward l (next r (lift_piece t p (λ base k. no_base {ts = ts} k (put a h x) l) a) h x)

-- a text splits as before
pub splits_as_before : {σ : Sizes} {t : List ℕ} {us : List Token} → NoPair us → SplitsUnder σ DECIMAL t us → SplitsUnder σ EDITION_1 t us
splits_as_before {t} {us} n s = record { whole = onward t us n (from_start s.whole here) start; few = s.few }
