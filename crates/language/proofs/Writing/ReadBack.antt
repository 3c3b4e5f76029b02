-- What is written splits into the tokens that were written, places aside (R03.3).
use mathlib.Core.Bool.{true}
use mathlib.Core.List.{List, [], ◌∷◌, ◌++◌, append-nil, append_assoc}
use mathlib.Core.Path.{◌≡◌, refl, sym, ap, subst, ◌∙◌}
use Prim.Native.Nat.{ℕ, suc, ◌+◌, ◌≤◌, ◌<◌}
use native.Mathlib.Omega.{arith}
use lib.ListN.{length, get_or, take, drop, length-append}
use lib.Seq.{slice, length-slice, append_snoc, take-append_seam, drop-append_seam, get_or-append_seam}
use Rattle.language.specs.Sizes.{Sizes}
use Rattle.language.specs.Tokens.{Token, Vocabulary, Spelling, SameButPlaces, same_none, same_more}
use Rattle.language.specs.Text.{byte, is_blank, token, Piece, token_of, Reaches, start, skip, next, SplitsUnder, SplitsWhole}
use Rattle.language.specs.Writing.{behind, written_out}
use Rattle.language.proofs.Text.Marks.{Laws}
use Rattle.language.proofs.Text.OnePiece.{form_bounds}
use Rattle.language.proofs.Text.Pieces.{blank_piece}
use Rattle.language.proofs.Text.Alone.{alone}
use Rattle.language.proofs.Writing.Spelled.{Spelled, AllSpelled, spelled_more, reached_spelled}

-- a token at another place
abbrev pub moved : ℕ → Token → Token
moved n t = record { kind = t.kind; value = t.value; spelling = t.spelling; place = n }

-- the tokens with the places that they have where they are written from byte n on
unfoldable pub placed : ℕ → List Token → List Token
placed n [] = []
placed n (t ∷ ts) = moved n t ∷ placed (n + length t.spelling + 1) ts

pub placed_same : (n : ℕ) (ts : List Token) → SameButPlaces ts (placed n ts)
unfolding placed
placed_same n [] = same_none
placed_same n (t ∷ ts) = same_more record { kind = refl; value = refl; spelling = refl } (placed_same (n + length t.spelling + 1) ts)

placed_long : (n : ℕ) (ts : List Token) → length (placed n ts) ≡ length ts
unfolding placed
placed_long n [] = refl
placed_long n (t ∷ ts) = ap suc (placed_long (n + length t.spelling + 1) ts)

pub behind_blank : (ts : List Token) → is_blank (behind ts) ≡ true
unfolding behind is_blank
behind_blank [] = refl
behind_blank (t ∷ ts) = refl

-- ---- some bytes, a spelling, a byte, and further bytes

module _ (a : List ℕ) (s : Spelling) (b : ℕ) (w u : List ℕ) (e : u ≡ a ++ (s ++ (b ∷ w))) where
  abbrev from : ℕ
  from = length a

  abbrev to : ℕ
  to = length a + length s

  joined : u ≡ a ++ s ++ (b ∷ w)
  joined = e ∙ sym (append_assoc a s (b ∷ w))

  head_long : length (a ++ s) ≡ to
  head_long = length-append a s

  -- the spelling stands where it was put
  put_slice : slice from to u ≡ s
  put_slice =
      ap (λ (v : List ℕ). drop from (take to v)) joined
      ∙ ap (λ (n : ℕ). drop from (take n (a ++ s ++ (b ∷ w)))) (sym head_long)
      ∙ ap (λ (v : List ℕ). drop from v) (take-append_seam (a ++ s) (b ∷ w))
      ∙ drop-append_seam a s

  -- and the byte behind it
  put_byte : byte u to ≡ b
  put_byte =
      ap (λ (v : List ℕ). get_or v to 0) joined
      ∙ ap (λ (n : ℕ). get_or (a ++ s ++ (b ∷ w)) n 0) (sym head_long)
      ∙ get_or-append_seam (a ++ s) b w 0

  put_inside : to < length u
  put_inside = omega (arith, ap length joined, length-append (a ++ s) (b ∷ w), head_long)

  put_on : u ≡ (a ++ (s ++ (b ∷ []))) ++ w
  put_on = joined ∙ sym (append_snoc (a ++ s) b w) ∙ ap (λ (v : List ℕ). v ++ w) (append_assoc a s (b ∷ []))

  put_long : length (a ++ (s ++ (b ∷ []))) ≡ to + 1
  put_long = simp length-append (omega arith)

module _ {voc : Vocabulary} (laws : Laws voc) where
  -- a spelling with a blank behind it is the token
  stands_alone : {t : Token} {u : List ℕ} (p q : ℕ) → Spelled voc t → slice p q u ≡ t.spelling → p + length t.spelling ≡ q → q < length u
      → is_blank (byte u q) ≡ true → Piece voc u p q (token t.kind t.value)
  stands_alone {t} {u} p q x same e inside b =
      let z = form_bounds x.text x.from x.to (token t.kind t.value) x.form in
      alone laws t.kind t.value x.form
      record {
        within = record { some = z.0; inside = z.1 };
        there = record { some = long x z.0 z.1 e; inside = omega arith };
        same = same ∙ x.bytes;
      }
      (λ h. b)
    where
      long : (x : Spelled voc t) → x.from < x.to → x.to ≤ length x.text → p + length t.spelling ≡ q → p < q
      long x h k e = omega (arith, ap length x.bytes, length-slice x.from x.to x.text k)

  -- the text behind a is what is written for ts, and as far as a goes it has the tokens us
  written_on : (ts us : List Token) (a u : List ℕ) → AllSpelled voc ts → u ≡ a ++ written_out ts → Reaches voc u (length a) us
      → Reaches voc u (length u) (us ++ placed (length a) ts)
  unfolding written_out placed
  written_on [] us a u x e r = rw (append-nil us) (subst (λ (n : ℕ). Reaches voc u n us) (sym (ap length (e ∙ append-nil a))) r)
  written_on (t ∷ ts) us a u (spelled_more x xs) e r =
      let s = t.spelling in
      let b = behind ts in
      let w = written_out ts in
      let here = put_slice a s b w u e in
      let end = put_byte a s b w u e in
      let room = put_inside a s b w u e in
      let dark : is_blank (byte u (length a + length s)) ≡ true = rw end (behind_blank ts) in
      let piece = stands_alone (length a) (length a + length s) x here refl room dark in
      let vs = us ++ (moved (length a) t ∷ []) in
      let one : vs ≡ us ++ (token_of u (length a) (length a + length s) t.kind t.value ∷ []) = rw here refl in
      let after = next r piece x.small one in
      let gap = skip after (blank_piece laws u (length a + length s) room dark) in
      let l = put_long a s b w u e in
      let more = written_on ts vs (a ++ (s ++ (b ∷ []))) u xs (put_on a s b w u e) (rw l gap) in
      rw (l, append_snoc us (moved (length a) t)) at more

  -- so what is written for tokens that are spelled as tokens are splits into them
  pub spelled_splits : {ts : List Token} → AllSpelled voc ts → SplitsWhole voc (written_out ts) (placed 0 ts)
  spelled_splits {ts} x = written_on ts [] [] (written_out ts) x refl start

  -- and what is written for those of a text into these
  pub written_splits : {σ : Sizes} {t : List ℕ} {ts : List Token} → SplitsUnder σ voc t ts → SplitsUnder σ voc (written_out ts) (placed 0 ts)
  written_splits {t} {ts} x = record {
    whole = spelled_splits (reached_spelled x.whole);
    few = omega (arith, x.few, placed_long 0 ts);
  }
