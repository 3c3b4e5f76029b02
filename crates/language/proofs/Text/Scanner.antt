-- An executable twin of the written split: proof vocabulary, and no definition of the language. It goes through a text from
-- its start, and what it answers is proved to be what the definitions say; so every text has a split or a flaw.
use borrow.Author.Tests.{ltb-true, ltb-false, eqb-true, eqb-false}
use lib.Dec.{eqb, ltb}
use lib.ListN.{length, length-append}
use mathlib.Core.Bool.{true, false}
use mathlib.Core.List.{List, [], ◌∷◌, ◌++◌}
use mathlib.Core.Logic.{◌⊎◌, inl, inr}
use mathlib.Core.Path.{◌≡◌, refl, ap, ap₂, subst}
use native.Mathlib.Omega.{arith}
use Prim.Native.Nat.{ℕ, zero, suc, ◌+◌, ◌≤◌, ◌<◌}
use Rattle.language.proofs.Text.Choices.{choose}
use Rattle.language.proofs.Text.Marks.{Laws}
use Rattle.language.proofs.Text.OnePiece.{form_bounds}
use Rattle.language.proofs.Text.OneSplit.{one_split, one_flaw, not_both}
use Rattle.language.proofs.Text.Places.{sort, begins}
use Rattle.language.proofs.Text.Seeing.{run_end, run_from, close_end, Seen, mark_or, mark_seen, number_seen, decimal_seen, digits_seen}
use Rattle.language.proofs.Text.Seeing.{comment_seen, SeenIs, name_seen, piece_of, piece_is}
use Rattle.language.proofs.Text.Seeing.Seen.{seen, unseen}
use Rattle.language.proofs.Text.Spellings.{stands}
use Rattle.language.proofs.Text.Tables.{most}
use Rattle.language.specs.Sizes.{Sizes, LARGEST}
use Rattle.language.specs.Text.{between, is_blank, is_letter, is_digit, is_hex_digit, worth, is_digit_of}
use Rattle.language.specs.Text.{is_name_byte, is_in_line}
use Rattle.language.specs.Text.{word_kind, number_from, token_of, Reaches, SplitsUnder, Flaw, FlawedUnder}
use Rattle.language.specs.Text.Content.{space, unclosed, overlong, token}
use Rattle.language.specs.Text.Flaw.{strange_byte, open_comment, large_number, many_tokens, long_float}
use Rattle.language.specs.Text.Reaches.{start, skip, next}
use Rattle.language.specs.Text.WrongUnder.{strange, opened, long, large, many}
use Rattle.language.specs.Tokens.{same, spelled, Vocabulary, Token}

-- ---- the whole text

-- the tokens of a text, or its flaw and where it is
pub data Result : Type 0 where
  split : List Token → Result
  flawed : Flaw → ℕ → Result

-- what such an answer says
abbrev pub Says : Sizes → Vocabulary → List ℕ → Result → Type 0
Says σ voc t (split ts) = SplitsUnder σ voc t ts
Says σ voc t (flawed f p) = FlawedUnder σ voc t f p

-- what comes of the piece at p, with the tokens ts before it
settle : Sizes → List ℕ → ℕ → List Token → (ℕ → List Token → Result) → Seen → Result
settle σ t p ts go unseen = flawed strange_byte p
settle σ t p ts go (seen q space) = go q ts
settle σ t p ts go (seen q unclosed) = flawed open_comment p
settle σ t p ts go (seen q overlong) = flawed long_float p
settle σ t p ts go (seen q (token k v)) =
    elim (ltb LARGEST v) [
      | true ↦ flawed large_number p
      | false ↦ elim (eqb (length ts) σ.tokens) [ true ↦ flawed many_tokens p | false ↦ go q (ts ++ (token_of t p q k v ∷ [])) ]
    ]

module _ (σ : Sizes) (voc : Vocabulary) where
  -- the split from p on, of at most n pieces
  scan_from : List ℕ → ℕ → ℕ → List Token → Result
  scan_from t zero p ts = split ts
  scan_from t (suc n) p ts =
      elim (ltb p (length t)) [ true ↦ settle σ t p ts (λ q us. scan_from t n q us) (piece_of voc t p (sort t p)) | false ↦ split ts ]

  -- the answer for a text; whoever unfolds it unfolds all that it computes with
  unfoldable pub scan : List ℕ → Result
  unfolding scan_from settle piece_of name_seen digits_seen decimal_seen number_seen comment_seen mark_seen mark_or most close_end run_from run_end
      sort stands is_blank is_letter is_digit is_hex_digit worth is_digit_of is_name_byte is_in_line between word_kind spelled same number_from
  scan t = scan_from t (length t) 0 []

settled : (σ : Sizes) {voc : Vocabulary} (t : List ℕ) (p : ℕ) (ts : List Token) (go : ℕ → List Token → Result)
    → p < length t → Reaches voc t p ts → length ts ≤ σ.tokens
    → ((q : ℕ) (us : List Token) → (p < q) × (q ≤ length t) → Reaches voc t q us → length us ≤ σ.tokens → Says σ voc t (go q us))
    → (s : Seen) → SeenIs voc t p s → Says σ voc t (settle σ t p ts go s)
unfolding settle
settled σ t p ts go h r l f unseen x = record { tokens = ts; before = r; few = l; here = strange h x }
settled σ t p ts go h r l f (seen q space) x = f q ts (form_bounds t p q space x.form) (skip r x) l
settled σ t p ts go h r l f (seen q unclosed) x = record { tokens = ts; before = r; few = l; here = opened x }
settled σ t p ts go h r l f (seen q overlong) x = record { tokens = ts; before = r; few = l; here = long x }
settled σ {voc} t p ts go h r l f (seen q (token k v)) x =
    choose (Says σ voc t) (ltb LARGEST v) _ _
    (λ e. record { tokens = ts; before = r; few = l; here = large x (ltb-true LARGEST v e) })
    (λ e. choose (Says σ voc t) (eqb (length ts) σ.tokens) _ _
    (λ g. record { tokens = ts; before = r; few = l; here = many x (ltb-false LARGEST v e) (eqb-true (length ts) σ.tokens g) })
    (λ g. f q (ts ++ (token_of t p q k v ∷ [])) (form_bounds t p q (token k v) x.form) (next r x (ltb-false LARGEST v e) refl)
    (let z = eqb-false (length ts) σ.tokens g in simp length-append (omega arith))))

module _ {voc : Vocabulary} (laws : Laws voc) where
  scanned_from : (σ : Sizes) (t : List ℕ) (n p : ℕ) (ts : List Token) → p ≤ length t → length t ≤ p + n → Reaches voc t p ts → length ts ≤ σ.tokens
      → Says σ voc t (scan_from σ voc t n p ts)
  unfolding scan_from
  scanned_from σ t zero p ts a b r l =
      let e : p ≡ length t = omega arith in
      record { whole = subst (λ q. Reaches voc t q ts) e r; few = l }
  scanned_from σ t (suc n) p ts a b r l =
      choose (Says σ voc t) (ltb p (length t)) _ _
      (λ g. let h = ltb-true p (length t) g in
      settled σ t p ts (λ q us. scan_from σ voc t n q us) h r l (λ q us z s k. scanned_from σ t n q us z.1 (omega (arith, z.0)) s k)
      (piece_of voc t p (sort t p)) (piece_is laws t p h (sort t p) (begins t p)))
      (λ g. let e : p ≡ length t = omega (arith, ltb-false p (length t) g) in
      record { whole = subst (λ q. Reaches voc t q ts) e r; few = l })

  -- what the scan answers is so
  pub scanned : (σ : Sizes) (t : List ℕ) → Says σ voc t (scan σ voc t)
  unfolding scan
  scanned σ t = scanned_from σ t (length t) 0 [] (omega arith) (omega arith) start (omega arith)

  -- so what it computes to is so
  pub computed : (σ : Sizes) (t : List ℕ) (r : Result) → scan σ voc t ≡ r → Says σ voc t r
  computed σ t r e = subst (Says σ voc t) e (scanned σ t)

  -- a split of the text is the answer
  pub split_scanned : {σ : Sizes} {t : List ℕ} {ts : List Token} → SplitsUnder σ voc t ts → scan σ voc t ≡ split ts
  split_scanned {σ} {t} {ts} s = go (scan σ voc t) (scanned σ t)
    where
      go : (r : Result) → Says σ voc t r → r ≡ split ts
      go (split us) x = ap split (one_split laws x s)
      go (flawed f p) x = absurd (not_both laws s x)

  -- a flaw of the text is the answer
  pub flaw_scanned : {σ : Sizes} {t : List ℕ} {f : Flaw} {p : ℕ} → FlawedUnder σ voc t f p → scan σ voc t ≡ flawed f p
  flaw_scanned {σ} {t} {f} {p} s = go (scan σ voc t) (scanned σ t)
    where
      go : (r : Result) → Says σ voc t r → r ≡ flawed f p
      go (split us) x = absurd (not_both laws x s)
      go (flawed g q) x = let z = one_flaw laws x s in ap₂ flawed z.0 z.1

  -- every text has a split or a flaw
  pub split_or_flaw : (σ : Sizes) (t : List ℕ) → ((ts : List Token) × SplitsUnder σ voc t ts) ⊎ ((f : Flaw) × (p : ℕ) × FlawedUnder σ voc t f p)
  split_or_flaw σ t = go (scan σ voc t) (scanned σ t)
    where
      go : (r : Result) → Says σ voc t r → ((ts : List Token) × SplitsUnder σ voc t ts) ⊎ ((f : Flaw) × (p : ℕ) × FlawedUnder σ voc t f p)
      go (split ts) s = inl (ts, s)
      go (flawed f p) s = inr (f, p, s)
