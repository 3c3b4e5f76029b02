-- The tokens of a book: the same whatever is set under it, and behind them stand those of what is set under it (R14.5, R14.7).
use lib.ListN.{length, drop, length-append}
use lib.Seq.{take-append-le, get_or-append_seam}
use mathlib.Core.Bool.{true}
use mathlib.Core.List.{List, [], ◌∷◌, ◌++◌, append_assoc}
use mathlib.Core.Logic.{⊎_elim}
use mathlib.Core.Path.{◌≡◌, refl, sym, ap, subst, ◌∙◌}
use native.Mathlib.Omega.{arith}
use Prim.Native.Nat.{ℕ, ◌+◌, ◌-◌, ◌≤◌, ◌<◌}
use Rattle.language.specs.Sizes.{TOKENS, LARGEST}
use Rattle.language.specs.Tokens.{Vocabulary, Token, NUMBER}
use Rattle.language.specs.Text.{byte, between, is_blank, is_letter, is_digit, worth, number_from, Reaches, skip, Splits, Flawed}
use Rattle.language.specs.Text.{start, next, many_tokens, many}
use Rattle.language.specs.Pairs.{joined}
use Rattle.language.specs.Shift.{all_bytes, Job, call_of, ZERO}
use Rattle.language.proofs.Pairs.Joined.{joined_length, joined_first, joined_rest, byte_past}
use Rattle.language.proofs.Text.Choices.{either}
use Rattle.language.proofs.Text.Marks.{Laws}
use Rattle.language.proofs.Text.OneSplit.{one_list}
use Rattle.language.proofs.Text.Pieces.{blank_piece}
use Rattle.language.proofs.Shift.Alike.{Alike, reaches_too, feed_reached}
use Rattle.language.proofs.Shift.CallText.{Callable, number_step, call_tokens, call_reached}

-- ---- a book, one LF, and anything

module _ (book : List ℕ) where
  feed_there : (x : List ℕ) → byte (joined book x) (length book) ≡ 10
  feed_there x = get_or-append_seam book 10 x 0

  feed_inside : (x : List ℕ) → length book < length (joined book x)
  feed_inside x = omega (arith, joined_length book x)

  pub alike_under : (x y : List ℕ) → Alike (length book) (joined book x) (joined book y)
  alike_under x y = record {
    bytes = λ i h.
        ⊎_elim (λ l. joined_first book x i l ∙ sym (joined_first book y i l))
        (λ l. let e : i ≡ length book = omega arith in
        ap (byte (joined book x)) e ∙ feed_there x ∙ sym (feed_there y) ∙ ap (byte (joined book y)) (sym e)) (either i (length book));
    slices = λ p q h. ap (drop p) (take-append-le q book (10 ∷ x) h ∙ sym (take-append-le q book (10 ∷ y) h));
    feed = feed_there x;
    long = feed_inside x;
    longer = feed_inside y;
  }

  -- up to what is set under it
  abbrev pub led : List ℕ
  led = book ++ (10 ∷ [])

  led_long : length led ≡ length book + 1
  led_long = length-append book (10 ∷ [])

  under : (x : List ℕ) → joined book x ≡ led ++ x
  under x = sym (append_assoc book (10 ∷ []) x)

  blank_feed : (b : ℕ) → b ≡ 10 → is_blank b ≡ true
  unfolding is_blank
  blank_feed b e = rw e

  module _ {voc : Vocabulary} (laws : Laws voc) where
    -- so many tokens has the book, and these
    pub record Fronted (ts : List Token) : Type 0 where
      pub reached : (x : List ℕ) → Reaches voc (joined book x) (length led) ts

    fronted : {ts : List Token} (x : List ℕ) → Reaches voc (joined book x) (length book) ts → Fronted ts
    fronted x r = record {
      reached = λ y.
          rw led_long
          (skip (reaches_too laws (alike_under x y) r (omega arith))
          (blank_piece laws (joined book y) (length book) (feed_inside y) (blank_feed _ (feed_there y))));
    }

    zero_ends : (i : ℕ) → length book < i → byte (joined book ZERO) i ≡ 47 → ⊥
    zero_ends i h e =
        ⊎_elim (λ l. omega (arith, e, here (omega arith))) (λ l. omega (arith, e, byte_past (joined book ZERO) i (omega (arith, joined_length book ZERO))))
        (either i (length book + 2))
      where
        here : i ≡ length book + 1 → byte (joined book ZERO) i ≡ 48
        here z =
            let w : length book + 1 - length book ≡ 1 = omega arith in
            ap (byte (joined book ZERO)) z ∙ joined_rest book ZERO (length book + 1) (omega arith) ∙ ap (byte (10 ∷ ZERO)) w

    abbrev pub zero_token : Token
    zero_token = record { kind = NUMBER; value = 0; spelling = ZERO; place = length led }

    -- with `0` under it it has one token more
    pub with_zero : {ts : List Token} → Splits voc (joined book ZERO) ts → (us : List Token) × Fronted us × (ts ≡ us ++ (zero_token ∷ []))
    unfolding all_bytes is_digit is_letter between number_from worth
    with_zero {ts} s =
        let z = feed_reached laws (feed_there ZERO) (feed_inside ZERO) zero_ends s.whole (feed_inside ZERO) in
        let f = fronted ZERO z.1 in
        let r = number_step laws (joined book ZERO) led ZERO [] (under ZERO) (omega arith) z.0 (f.reached ZERO) 0 (omega arith) refl refl refl refl
        (λ (z : ◌≡◌ {A = ℕ} 0 46). omega arith)
        in
        let e : length (led ++ ZERO) ≡ length (joined book ZERO) = ap length (sym (under ZERO)) in
        (z.0, f, one_list laws s.whole (subst (λ n. Reaches voc (joined book ZERO) n (z.0 ++ (zero_token ∷ []))) e r))

    -- with a call under it it has six more
    pub with_call : {us : List Token} → Callable voc → Fronted us → (j : Job) → j.picks ≤ LARGEST → j.rate ≤ LARGEST
        → Reaches voc (joined book (call_of j)) (length (joined book (call_of j))) (us ++ call_tokens led j)
    with_call {us} able f j p q = call_reached laws able led (joined book (call_of j)) j p q (under (call_of j)) us (f.reached (call_of j))

-- ---- too many tokens

-- where more tokens are reached than there may be, that is the flaw
pub many_flaw : {voc : Vocabulary} {t : List ℕ} {q : ℕ} {us : List Token} → Reaches voc t q us → TOKENS < length us
    → (p : ℕ) × Flawed voc t many_tokens p
many_flaw start h = absurd (omega arith)
many_flaw (skip r x) h = many_flaw r h
many_flaw {voc} {t} (next {p = p} {ts = ts} r x l e) h =
    ⊎_elim (λ k. many_flaw r k)
    (λ k. let z : length ts ≡ TOKENS = omega (arith, simp length-append at (ap length e)) in
    (p, record { tokens = ts; before = r; few = k; here = many x l z }))
    (either TOKENS (length ts))
