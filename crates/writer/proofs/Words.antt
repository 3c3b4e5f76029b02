-- The text by the words of a table: how long it is, how it goes on with each token, and that it is what the language writes.
use lib.ListN.{length, get_or, length-append}
use lib.Seq.{slice, length-slice, append_snoc}
use mathlib.Core.List.{List, [], ◌∷◌, ◌++◌}
use mathlib.Core.Path.{◌≡◌, refl, sym, ap, ◌∙◌}
use native.Mathlib.Omega.{arith}
use Prim.Native.Nat.{ℕ, zero, suc, ◌+◌, ◌-◌, ◌≤◌, ◌<◌}
use Rattle.language.specs.Sizes.{SOURCE}
use Rattle.language.specs.Tokens.{Vocabulary, Token, past, spelling_at, place_at}
use Rattle.language.specs.Text.{Splits}
use Rattle.language.specs.Writing.{behind, written_out}
use Rattle.language.proofs.Text.Spots.{Spot, reached_spot}
use Rattle.layout.specs.Table.{token_place, token_end}
use Rattle.layout.specs.Names.{Stand}
use Rattle.writer.specs.Texts.{Spanned, size_of, mark, with_mark, text_from, text_long, Writable}

-- ---- how long it is

module _ (source : List ℕ) {w : List ℕ} {count : ℕ} (s : Spanned (length source) w count) where
  pub mark_long : (i n : ℕ) → i < count → length (with_mark source w i n) ≡ size_of w i + 1
  unfolding with_mark
  mark_long i n h =
      omega (
        arith,
        length-append (slice (token_place w i) (token_end w i) source) (mark n ∷ []),
        length-slice (token_place w i) (token_end w i) source (s.inside i h),
      )

  pub text_length : (n i : ℕ) → i + n ≤ count → length (text_from source w i n) ≡ text_long w i n
  unfolding text_from text_long
  text_length zero i h = refl
  text_length (suc n) i h =
      omega (
        arith,
        length-append (with_mark source w i n) (text_from source w (i + 1) n),
        mark_long i n (omega arith),
        text_length n (i + 1) (omega arith),
      )

-- a token no longer than the source, and the byte behind it
pub sized : {w : List ℕ} {count i : ℕ} → Spanned SOURCE w count → i < count → size_of w i + 1 ≤ SOURCE + 1
sized {i = i} s h = omega (arith, s.inside i h)

-- ---- the byte behind a token

module _ (count i : ℕ) where
  pub mark_between : i + 1 < count → 32 ≡ mark (count - (i + 1))
  unfolding mark
  mark_between h = let e : count - (i + 1) ≡ suc (count - (i + 2)) = omega arith in rw e refl

  pub mark_last : count ≤ i + 1 → 10 ≡ mark (count - (i + 1))
  unfolding mark
  mark_last h = let e : count - (i + 1) ≡ 0 = omega arith in rw e refl

-- ---- token by token

module _ (w : List ℕ) (count i : ℕ) (h : i < count) where
  one_less : count - i ≡ suc (count - (i + 1))
  one_less = omega arith

  pub long_next : text_long w i (count - i) ≡ size_of w i + 1 + text_long w (i + 1) (count - (i + 1))
  unfolding text_long
  long_next = rw one_less refl

  pub text_next : (source : List ℕ) → text_from source w i (count - i) ≡ with_mark source w i (count - (i + 1)) ++ text_from source w (i + 1) (count - (i + 1))
  unfolding text_from
  text_next source = rw one_less refl

-- ---- it is what the language writes

behind_mark : (ts : List Token) → mark (length ts) ≡ behind ts
unfolding mark behind
behind_mark [] = refl
behind_mark (t ∷ ts) = refl

written_from : (source w : List ℕ) (ts : List Token) (i : ℕ)
    → ((k : ℕ) → k < length ts → slice (token_place w (i + k)) (token_end w (i + k)) source ≡ (get_or ts k past).spelling)
    → text_from source w i (length ts) ≡ written_out ts
unfolding text_from with_mark written_out
written_from source w [] i h = refl
written_from source w (t ∷ ts) i h =
    let z : i + 0 ≡ i = omega arith in
    let here : slice (token_place w i) (token_end w i) source ≡ t.spelling = rw z at (h 0 (omega arith)) in
    let rest = written_from source w ts (i + 1) (λ k l. let e : i + 1 + k ≡ i + suc k = omega arith in rw e (h (suc k) (omega arith))) in
    rw (here, behind_mark ts, rest) (append_snoc t.spelling (behind ts) (written_out ts))

module _ {voc : Vocabulary} {source w : List ℕ} {count : ℕ} {ts : List Token} (s : Stand w count ts) (x : Splits voc source ts) where
  pub stands_here : (i : ℕ) → i < count → Spot source (get_or ts i past)
  stands_here i h = reached_spot x.whole i (omega (arith, s.long))

  pub text_written : text_from source w 0 count ≡ written_out ts
  unfolding place_at spelling_at
  text_written =
      ap (text_from source w 0) (sym s.long)
      ∙ written_from source w ts 0
      (λ k l.
      let z : 0 + k ≡ k = omega arith in
      let h : k < count = omega (arith, s.long) in
      rw (z, s.places k h, s.ends k h) (stands_here k h).spells)

-- the table of a source can be written from
pub writable_spans : {source w : List ℕ} {count : ℕ} → Writable source w count → Spanned (length source) w count
unfolding place_at spelling_at
writable_spans {w = w} x = record {
  room = x.room;
  few = x.stand.few;
  order = λ i h. omega (arith, x.stand.places i h, x.stand.ends i h);
  inside = λ i h. omega (arith, x.stand.ends i h, (stands_here x.stand x.splits i h).inside);
}

pub spans_source : {source w : List ℕ} {count : ℕ} → Writable source w count → Spanned SOURCE w count
spans_source x =
    let s = writable_spans x in
    record { room = s.room; few = s.few; order = s.order; inside = λ i h. omega (arith, s.inside i h, x.short) }
