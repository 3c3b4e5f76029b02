-- Whatever the written origin of a stored sheet says, its reader of lines answers: so an input comes to one token list or to one
-- refusal at one line.
use lib.Dec.{leb, ltb}
use lib.ListN.{length}
use mathlib.Core.Bool.{Bool}
use mathlib.Core.List.{List, [], ◌∷◌, ◌++◌, append-nil, append_assoc}
use mathlib.Core.Option.{Option, none, some}
use mathlib.Core.Path.{◌≡◌, refl, sym, ap, ap₂, ◌∙◌}
use borrow.Author.Tests.{eq-eqb, ne_eqb, le-leb, lt-leb, lt-ltb, le-ltb}
use lib.Seq.{append_snoc}
use native.Mathlib.Omega.{arith}
use Prim.Native.Nat.{ℕ, zero, suc, ◌+◌, ◌*◌, ◌/◌, ◌%◌, ◌≤◌, ◌<◌}
use Rattle.language.specs.Sizes.{Sizes}
use Rattle.language.specs.Tokens.{Vocabulary, Token}
use Rattle.language.specs.Numbers.{Refusal, not_hexadecimal, not_one_token}
use Rattle.language.specs.Stored.{COUNT, hex, line, token_lines, spelled_bytes, Bytes, FirstLine, FirstCount, Lone, AllLone, lone_none, lone_more}
use Rattle.language.specs.Stored.{StoredGivesUnder, GoodLinesUnder, StoredDeniesUnder, no_count, large_count, no_line, no_token, miscounted, overlong}
use Rattle.language.proofs.Text.Marks.{Laws}
use Rattle.language.proofs.Stored.Hex.{Taken, untaken, taken, take_line, line_taken}
use Rattle.language.proofs.Stored.Lines.{taken_first, count_taken, taken_count, line_long}
use Rattle.language.proofs.Stored.GoodLines.{gives_good}
use Rattle.language.proofs.Stored.Lone.{lone, lone_is, is_lone}
use Rattle.language.proofs.Stored.Reader.{Answer, given, denied, by_size, finish, by_token, by_line, walk, by_limit, by_count, read_stored}

module _ (σ : Sizes) {voc : Vocabulary} (laws : Laws voc) where
  -- ---- one line, and many

  -- a line of bytes is asked for its token
  step_line : (k n : ℕ) (us : List Token) (s r : List ℕ) → Bytes s
      → walk σ voc (suc k) n us (line s ++ r) ≡ by_token us (λ vs. walk σ voc k n vs r) (lone voc s)
  unfolding walk by_line line hex
  step_line k n us [] r h = absurd (omega (arith, h.some))
  step_line k n us (b ∷ s) r h = ap (by_line voc us (λ vs u. walk σ voc k n vs u)) (line_taken (b ∷ s) r h.each)

  step_token : (k n : ℕ) (us : List Token) (t : Token) (r : List ℕ) → Lone voc t
      → walk σ voc (suc k) n us (line t.spelling ++ r) ≡ walk σ voc k n (us ++ (t ∷ [])) r
  unfolding by_token
  step_token k n us t r h =
      step_line k n us t.spelling r h.bytes
      ∙ ap (by_token us (λ vs. walk σ voc k n vs r)) (is_lone laws t h.splits)

  -- the walk has come to `rest`, with these tokens
  record At (a : Answer) (n : ℕ) (ts : List Token) (rest : List ℕ) : Type 0 where
    left : ℕ
    enough : length rest ≤ left
    is : a ≡ walk σ voc left n ts rest

  module _ (t : Token) (ts : List Token) (rest : List ℕ) where
    lines_joined : token_lines (t ∷ ts) ++ rest ≡ line t.spelling ++ (token_lines ts ++ rest)
    unfolding token_lines
    lines_joined = append_assoc (line t.spelling) (token_lines ts) rest

    lines_longer : length (token_lines ts ++ rest) < length (token_lines (t ∷ ts) ++ rest)
    lines_longer = omega (arith, line_long t.spelling (token_lines ts ++ rest), ap length lines_joined)

    one_on : (k n : ℕ) (us : List Token) → Lone voc t → At (walk σ voc k n (us ++ (t ∷ [])) (token_lines ts ++ rest)) n (us ++ (t ∷ []) ++ ts) rest
        → At (walk σ voc (suc k) n us (token_lines (t ∷ ts) ++ rest)) n (us ++ (t ∷ ts)) rest
    one_on k n us x z = record {
      left = z.left;
      enough = z.enough;
      is = ap (walk σ voc (suc k) n us) lines_joined
          ∙ step_token k n us t (token_lines ts ++ rest) x
          ∙ z.is
          ∙ ap (λ (vs : List Token). walk σ voc z.left n vs rest) (append_snoc us t ts);
    }

  lines_walk : (k n : ℕ) (us ts : List Token) (rest : List ℕ) → AllLone voc ts → length (token_lines ts ++ rest) ≤ k
      → At (walk σ voc k n us (token_lines ts ++ rest)) n (us ++ ts) rest
  unfolding token_lines
  lines_walk k n us [] rest lone_none h = record {
    left = k;
    enough = h;
    is = ap (λ (vs : List Token). walk σ voc k n vs rest) (sym (append-nil us));
  }
  lines_walk zero n us (t ∷ ts) rest (lone_more x xs) h = absurd (omega (arith, lines_longer t ts rest))
  lines_walk (suc k) n us (t ∷ ts) rest (lone_more x xs) h =
      one_on t ts rest k n us x (lines_walk k n (us ++ (t ∷ [])) ts rest xs (omega (arith, lines_longer t ts rest)))

  -- ---- the count

  counted : {input rest : List ℕ} {n : ℕ} → FirstCount input n rest → read_stored σ voc input ≡ by_limit σ voc (ltb σ.tokens n) n rest
  unfolding read_stored by_count
  counted {input} {rest} {n} f =
      let e : n / 256 * 256 + n % 256 ≡ n = omega arith in
      ap (by_count σ voc) (count_taken f) ∙ ap (λ (n : ℕ). by_limit σ voc (ltb σ.tokens n) n rest) e

-- ---- where a count can tell as many tokens as there may be

module _ (σ : Sizes) (told : σ.tokens ≤ COUNT) {voc : Vocabulary} (laws : Laws voc) where
  -- as far as lines are good the reader comes
  good_walk : {input rest : List ℕ} {n : ℕ} {ts : List Token} → GoodLinesUnder σ voc input n ts rest → At σ laws (read_stored σ voc input) n ts rest
  unfolding by_limit
  good_walk {input} {rest} {n} {ts} g =
      let f : FirstCount input n (token_lines ts ++ rest) = record { begins = g.lines; digits = omega (arith, g.few) } in
      let z = lines_walk σ laws (length (token_lines ts ++ rest)) n [] ts rest g.tokens (omega arith) in
      record {
        left = z.left;
        enough = z.enough;
        is = counted σ laws f ∙ ap (λ (x : Bool). by_limit σ voc x n (token_lines ts ++ rest)) (le-ltb σ.tokens n g.few) ∙ z.is;
      }

  -- ---- the end

  walk_end : (k n : ℕ) (ts : List Token) → walk σ voc k n ts [] ≡ finish σ n ts
  unfolding walk
  walk_end zero n ts = refl
  walk_end (suc k) n ts = refl

  good_end : {input : List ℕ} {n : ℕ} {ts : List Token} → GoodLinesUnder σ voc input n ts [] → read_stored σ voc input ≡ finish σ n ts
  good_end {n = n} {ts = ts} g = let z = good_walk g in z.is ∙ walk_end z.left n ts

  -- ---- whatever is written is answered

  pub gives_read : {input : List ℕ} {ts : List Token} → StoredGivesUnder σ voc input ts → read_stored σ voc input ≡ given ts
  unfolding finish by_size
  gives_read {input} {ts} g =
      good_end (gives_good g)
      ∙ ap₂ (λ (x y : Bool). by_size x y ts) (eq-eqb (length ts) (length ts) refl) (le-leb (spelled_bytes ts) σ.source g.short)

  -- a line that is none
  line_denied : (k n : ℕ) (ts : List Token) (b : ℕ) (rest : List ℕ) → ((s more : List ℕ) → FirstLine (b ∷ rest) s more → ⊥)
      → walk σ voc (suc k) n ts (b ∷ rest) ≡ denied not_hexadecimal (length ts + 2)
  unfolding walk by_line
  line_denied k n ts b rest h = go (take_line (b ∷ rest)) refl
    where
      go : (x : Taken) → take_line (b ∷ rest) ≡ x → by_line voc ts (λ vs u. walk σ voc k n vs u) x ≡ denied not_hexadecimal (length ts + 2)
      go untaken e = refl
      go (taken [] u) e = refl
      go (taken (c ∷ s) u) e = absurd (h (c ∷ s) u (taken_first (b ∷ rest) c s u e))

  -- a line that is no token
  token_denied : (k n : ℕ) (ts : List Token) (s more : List ℕ) → Bytes s → ((t : Token) → t.spelling ≡ s → Lone voc t → ⊥)
      → walk σ voc (suc k) n ts (line s ++ more) ≡ denied not_one_token (length ts + 2)
  unfolding by_token
  token_denied k n ts s more b h = step_line σ laws k n ts s more b ∙ go (lone voc s) refl
    where
      go : (x : Option Token) → lone voc s ≡ x → by_token ts (λ vs. walk σ voc k n vs more) x ≡ denied not_one_token (length ts + 2)
      go none e = refl
      go (some t) e = let z = lone_is laws s t e in absurd (h t z.0 record { bytes = rw z.0 b; splits = z.1 })

  -- nothing to take, or another number of bytes than a count has
  count_denied : {input : List ℕ} → ((n : ℕ) (rest : List ℕ) → FirstCount input n rest → ⊥)
      → read_stored σ voc input ≡ denied not_hexadecimal 1
  unfolding read_stored by_count
  count_denied {input} h = go (take_line input) refl
    where
      go : (x : Taken) → take_line input ≡ x → by_count σ voc x ≡ denied not_hexadecimal 1
      go untaken e = refl
      go (taken [] r) e = refl
      go (taken (a ∷ []) r) e = refl
      go (taken (a ∷ b ∷ []) r) e = absurd (h (a * 256 + b) r (taken_count input a b r e))
      go (taken (a ∷ b ∷ c ∷ s) r) e = refl

  -- where something is left there is a line more to go
  on_line : {a : Answer} {n : ℕ} {ts : List Token} {rest : List ℕ} {y : Answer} → 0 < length rest → At σ laws a n ts rest
      → ((k : ℕ) → walk σ voc (suc k) n ts rest ≡ y) → a ≡ y
  on_line {a} {n} {ts} {rest} {y} l z f = go z.left z.enough z.is
    where
      go : (k : ℕ) → length rest ≤ k → a ≡ walk σ voc k n ts rest → a ≡ y
      go zero h e = absurd (omega arith)
      go (suc k) h e = e ∙ f k

  pub denies_read : {input : List ℕ} {r : Refusal} {x : ℕ} → StoredDeniesUnder σ voc input r x → read_stored σ voc input ≡ denied r x
  unfolding by_limit finish by_size
  denies_read (no_count h) = count_denied h
  denies_read (large_count {n = n} {rest = rest} f h) =
      counted σ laws f ∙ ap (λ (x : Bool). by_limit σ voc x n rest) (lt-ltb σ.tokens n h)
  denies_read (no_line {n = n} {b = b} {ts = ts} {rest = rest} g h) =
      on_line {rest = b ∷ rest} (omega arith) (good_walk g) (λ k. line_denied k n ts b rest h)
  denies_read (no_token {n = n} {ts = ts} {rest = rest} {s = s} {more = more} g f h) =
      on_line (omega (arith, line_long s more, ap length f.begins)) (good_walk g)
      (λ k. ap (walk σ voc (suc k) n ts) f.begins ∙ token_denied k n ts s more f.bytes h)
  denies_read (miscounted {n = n} {ts = ts} g h) =
      good_end g ∙ ap (λ (x : Bool). by_size x (leb (spelled_bytes ts) σ.source) ts) (ne_eqb n (length ts) h)
  denies_read (overlong {ts = ts} g h) =
      good_end g ∙ ap₂ (λ (x y : Bool). by_size x y ts) (eq-eqb (length ts) (length ts) refl) (lt-leb (spelled_bytes ts) σ.source h)
