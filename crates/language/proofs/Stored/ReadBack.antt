-- What is stored of a sheet comes to its tokens again, places aside (R09.9), and one token list has one stored form (R09.10).
use mathlib.Core.List.{List, [], ◌∷◌, ◌++◌}
use mathlib.Core.Path.{◌≡◌, refl, sym, ap, subst, ◌∙◌}
use Prim.Native.Nat.{ℕ, ◌+◌, ◌*◌, ◌/◌, ◌%◌, ◌≤◌, ◌<◌}
use native.Mathlib.Omega.{arith}
use lib.ListN.{length, length-append}
use lib.Seq.{length-slice, take-length}
use Rattle.language.specs.Sizes.{Sizes}
use Rattle.language.specs.Tokens.{Token, Vocabulary, Spelling, SameButPlaces, same_none, same_more}
use Rattle.language.specs.Text.{space, token, Piece, token_of, Reaches, start, skip, next, SplitsUnder}
use Rattle.language.specs.Stored.{COUNT, hex, line, count_line, token_lines, stored, spelled_bytes, Lone, AllLone, lone_none, lone_more, StoredGivesUnder}
use Rattle.language.proofs.Text.Marks.{Laws}
use Rattle.language.proofs.Text.OnePiece.{form_bounds}
use Rattle.language.proofs.Text.Alone.{alone}
use Rattle.language.proofs.Answers.PlacesAside.{same_long, same_back}
use Rattle.language.proofs.Writing.Spelled.{Spelled, AllSpelled, spelled_none, spelled_more, reached_spelled}
use Rattle.language.proofs.Writing.ReadBack.{moved}
use Rattle.language.proofs.Stored.Bytes.{ByteMarks, spelled_line}
use Rattle.language.proofs.Stored.Lone.{piece_lone}
use Rattle.language.proofs.Stored.Digits.{hex_long}
use Rattle.language.proofs.Stored.Origin.{one_list}

-- ---- a stored form looks at no places

same_lines : {ts us : List Token} → SameButPlaces ts us → token_lines ts ≡ token_lines us
unfolding token_lines
same_lines same_none = refl
same_lines (same_more x s) = rw (x.spelling, same_lines s) refl

pub same_stored : {ts us : List Token} → SameButPlaces ts us → stored ts ≡ stored us
unfolding stored
same_stored s = rw (same_long s, same_lines s) refl

same_bytes : {ts us : List Token} → SameButPlaces ts us → spelled_bytes ts ≡ spelled_bytes us
unfolding spelled_bytes
same_bytes same_none = refl
same_bytes (same_more x s) = rw (x.spelling, same_bytes s) refl

same_on : {ts us vs : List Token} → SameButPlaces ts us → SameButPlaces us vs → SameButPlaces ts vs
same_on same_none same_none = same_none
same_on (same_more x s) (same_more y r) =
    same_more record { kind = x.kind ∙ y.kind; value = x.value ∙ y.value; spelling = x.spelling ∙ y.spelling } (same_on s r)

-- ---- each token by itself

-- the tokens as their lines have them
unfoldable pub each_alone : List Token → List Token
each_alone [] = []
each_alone (t ∷ ts) = moved 0 t ∷ each_alone ts

pub alone_same : (ts : List Token) → SameButPlaces ts (each_alone ts)
unfolding each_alone
alone_same [] = same_none
alone_same (t ∷ ts) = same_more record { kind = refl; value = refl; spelling = refl } (alone_same ts)

-- ---- the bytes of a text are enough for those of its tokens

more_bytes : (ts : List Token) (t : Token) → spelled_bytes (ts ++ (t ∷ [])) ≡ spelled_bytes ts + length t.spelling
unfolding spelled_bytes
more_bytes [] t = omega arith
more_bytes (u ∷ ts) t = omega (arith, more_bytes ts t)

pub reached_bytes : {voc : Vocabulary} {t : List ℕ} {p : ℕ} {ts : List Token} → Reaches voc t p ts → spelled_bytes ts ≤ p
unfolding spelled_bytes
reached_bytes start = omega arith
reached_bytes {t = t} (skip {p = p} {q = q} r x) = omega (arith, reached_bytes r, form_bounds t p q space x.form)
reached_bytes {t = t} (next {p = p} {q = q} {k = k} {v = v} {ts = ts} r x h e) =
    let z = form_bounds t p q (token k v) x.form in
    let l = length-slice p q t z.1 in
    rw e (omega (arith, z, l, reached_bytes r, more_bytes ts (token_of t p q k v)))

-- ---- how long a stored form is

lines_long : (ts : List Token) → length (token_lines ts) ≡ spelled_bytes ts * 2 + length ts
unfolding token_lines spelled_bytes line
lines_long [] = omega arith
lines_long (t ∷ ts) =
    omega (
      arith,
      length-append (line t.spelling) (token_lines ts),
      length-append (hex t.spelling) (10 ∷ []),
      hex_long t.spelling,
      lines_long ts,
    )

pub stored_long : (ts : List Token) → length (stored ts) ≡ spelled_bytes ts * 2 + length ts + 5
unfolding stored count_line line
stored_long ts =
    let n = length ts in
    omega (
      arith,
      length-append (count_line n) (token_lines ts),
      length-append (hex (n / 256 ∷ n % 256 ∷ [])) (10 ∷ []),
      hex_long (n / 256 ∷ n % 256 ∷ []),
      lines_long ts,
    )

-- so there is a room in which that of every source fits
pub stored_room : {σ : Sizes} {voc : Vocabulary} {t : List ℕ} {ts : List Token} → SplitsUnder σ voc t ts → length t ≤ σ.source
    → length (stored ts) ≤ σ.source * 2 + σ.tokens + 5
stored_room {ts = ts} x h = omega (arith, stored_long ts, reached_bytes x.whole, x.few)

module _ {voc : Vocabulary} (laws : Laws voc) (marks : ByteMarks voc) where
  spelled_lone : {t : Token} → Spelled voc t → Lone voc (moved 0 t)
  spelled_lone {t} x = record { bytes = spelled_line laws marks x; splits = piece_lone s t.kind t.value piece x.small }
    where
      s : Spelling
      s = t.spelling

      z : (x.from < x.to) × (x.to ≤ length x.text)
      z = form_bounds x.text x.from x.to (token t.kind t.value) x.form

      long : 0 < length s
      long = omega (arith, z, ap length x.bytes, length-slice x.from x.to x.text z.1)

      piece : Piece voc s 0 (length s) (token t.kind t.value)
      piece =
          alone laws t.kind t.value x.form
          record {
            within = record { some = z.0; inside = z.1 };
            there = record { some = long; inside = omega arith };
            same = take-length s ∙ x.bytes;
          }
          (λ h. absurd (omega arith))

  all_lone : {ts : List Token} → AllSpelled voc ts → AllLone voc (each_alone ts)
  unfolding each_alone
  all_lone spelled_none = lone_none
  all_lone (spelled_more x xs) = lone_more (spelled_lone x) (all_lone xs)

  -- ---- and all of them

  -- what is stored of a text comes to the text's tokens
  pub stored_back : {σ : Sizes} {t : List ℕ} {ts : List Token} → SplitsUnder σ voc t ts → length t ≤ σ.source
      → StoredGivesUnder σ voc (stored ts) (each_alone ts)
  stored_back {t} {ts} x h = record {
    form = same_stored (alone_same ts);
    tokens = all_lone (reached_spelled x.whole);
    few = omega (arith, x.few, same_long (alone_same ts));
    short = omega (arith, reached_bytes x.whole, same_bytes (alone_same ts));
  }

  -- so two texts have one stored form only where their tokens are the same
  pub told_apart : {σ : Sizes} {t u : List ℕ} {ts us : List Token} → σ.tokens ≤ COUNT → SplitsUnder σ voc t ts → length t ≤ σ.source
      → SplitsUnder σ voc u us → length u ≤ σ.source
      → stored ts ≡ stored us → SameButPlaces ts us
  told_apart {σ} {t} {u} {ts} {us} told x h y k e =
      let z = one_list told laws (stored us) (each_alone ts) (each_alone us)
      (subst (λ (s : List ℕ). StoredGivesUnder σ voc s (each_alone ts)) e (stored_back x h)) (stored_back y k) in
      same_on (alone_same ts) (subst (λ (vs : List Token). SameButPlaces vs us) (sym z) (same_back (alone_same us)))

-- one token list has one stored form: inputs that come to the same tokens are one
pub one_form : {σ : Sizes} {voc : Vocabulary} {a b : List ℕ} {ts us : List Token} → StoredGivesUnder σ voc a ts → StoredGivesUnder σ voc b us
    → SameButPlaces ts us → a ≡ b
one_form x y s = x.form ∙ same_stored s ∙ sym y.form

-- and stored again it is itself
pub stored_again : {σ : Sizes} {voc : Vocabulary} {input : List ℕ} {ts : List Token} → StoredGivesUnder σ voc input ts → stored ts ≡ input
stored_again x = sym x.form
