-- The stored form by the words of a table: how long it is, how it goes on with each token, and that it is what the language
-- stores; how its lines are put; and what `store` tells of it, a law for each way through it.
use lib.ListN.{length, get_or, set, length-append}
use lib.Seq.{slice, length-slice}
use mathlib.Core.List.{List, [], ◌∷◌, ◌++◌, append-nil, append_assoc}
use mathlib.Core.Path.{◌≡◌, refl, sym, ap, subst, ◌∙◌}
use native.Mathlib.Omega.{arith}
use Rattle.std.proofs.Common.{Some, None}
use Prim.Native.Nat.{ℕ, zero, suc, ◌+◌, ◌*◌, ◌-◌, ◌/◌, ◌%◌, ◌≤◌, ◌<◌}
use Rattle.language.specs.Sizes.{SOURCE, TOKENS}
use Rattle.language.specs.Tokens.{Vocabulary, Token, past, spelling_at, place_at}
use Rattle.language.specs.Text.{Splits}
use Rattle.language.specs.Stored.{hex, count_line, token_lines, stored}
use Rattle.layout.specs.Table.{token_place, token_end}
use Rattle.layout.specs.Names.{Stand}
use Rattle.writer.specs.Texts.{Put, Front, Spanned, size_of, text_long, Writable}
use Rattle.writer.specs.Forms.{HexRoom, LineRoom, token_line, lines_from, form_of, form_long, StoresOut}
use Rattle.writer.proofs.Words.{sized, stands_here, writable_spans, spans_source}
use Rattle.writer.proofs.Digits.{hex_slice_long, line_put, line_length, put_none, put_long, put_append, put_front}

-- ---- how long it is

pub count_length : (n : ℕ) → length (count_line n) ≡ 5
unfolding count_line
count_length n = omega (arith, line_length (n / 256 ∷ n % 256 ∷ []))

module _ (source : List ℕ) {w : List ℕ} {count : ℕ} (s : Spanned (length source) w count) where
  pub token_line_length : (i : ℕ) → i < count → length (token_line source w i) ≡ size_of w i * 2 + 1
  unfolding token_line
  token_line_length i h =
      line_length (slice (token_place w i) (token_end w i) source)
      ∙ ap (λ (n : ℕ). n * 2 + 1) (length-slice (token_place w i) (token_end w i) source (s.inside i h))

  -- each token has a byte less behind its digits than two texts have behind it
  pub lines_length : (n i : ℕ) → i + n ≤ count → length (lines_from source w i n) + n ≡ text_long w i n * 2
  unfolding lines_from text_long
  lines_length zero i h = omega arith
  lines_length (suc n) i h =
      omega (
        arith,
        length-append (token_line source w i) (lines_from source w (i + 1) n),
        token_line_length i (omega arith),
        lines_length n (i + 1) (omega arith),
      )

  pub form_length : length (form_of source w count) ≡ form_long w count
  unfolding form_of
  form_length =
      omega
      (arith, length-append (count_line count) (lines_from source w 0 count), count_length count, lines_length count 0 (omega arith))

  -- behind the count there is room for the lines
  module _ (entry : List ℕ) (room : form_long w count ≤ length entry) {next : List ℕ} {from : ℕ} (p : Put entry next (count_line count) 0 from) where
    pub counted_long : length next ≡ length entry
    counted_long = put_long entry (count_line count) 0 (omega (arith, count_length count)) p

    pub counted_room : from + length (lines_from source w 0 count) ≤ length next
    counted_room = omega (arith, counted_long, p.0, count_length count, lines_length count 0 (omega arith))

-- what is measured is small, and no less than the tokens are
text_small : {w : List ℕ} {count : ℕ} → Spanned SOURCE w count → (n i : ℕ) → i + n ≤ count → text_long w i n ≤ n * (SOURCE + 1)
unfolding text_long
text_small s zero i h = omega arith
text_small {w} s (suc n) i h = omega (arith, sized {w = w} {i = i} s (omega arith), text_small s n (i + 1) (omega arith))

text_many : (w : List ℕ) (n i : ℕ) → n ≤ text_long w i n
unfolding text_long
text_many w zero i = omega arith
text_many w (suc n) i = omega (arith, text_many w n (i + 1))

pub measured_small : {source w : List ℕ} {count : ℕ} → Writable source w count → (m : ℕ) → m ≡ text_long w 0 count
    → (m ≤ TOKENS * (SOURCE + 1)) × (count ≤ m)
measured_small {w = w} {count = count} x m e =
    (omega (arith, text_small (spans_source x) count 0 (omega arith), x.stand.few), omega (arith, text_many w count 0))

-- ---- it is what the language stores

lines_stored : (source w : List ℕ) (ts : List Token) (i : ℕ)
    → ((k : ℕ) → k < length ts → slice (token_place w (i + k)) (token_end w (i + k)) source ≡ (get_or ts k past).spelling)
    → lines_from source w i (length ts) ≡ token_lines ts
unfolding lines_from token_line token_lines
lines_stored source w [] i h = refl
lines_stored source w (t ∷ ts) i h =
    let z : i + 0 ≡ i = omega arith in
    let here : slice (token_place w i) (token_end w i) source ≡ t.spelling = rw z at (h 0 (omega arith)) in
    let rest = lines_stored source w ts (i + 1) (λ k l. let e : i + 1 + k ≡ i + suc k = omega arith in rw e (h (suc k) (omega arith))) in
    rw (here, rest) refl

pub form_stored : {voc : Vocabulary} {source w : List ℕ} {count : ℕ} {ts : List Token} → Stand w count ts → Splits voc source ts
    → form_of source w count ≡ stored ts
unfolding form_of stored place_at spelling_at
form_stored {source = source} {w = w} {count = count} {ts = ts} s x =
    let lines = lines_stored source w ts 0
    (λ k l.
    let z : 0 + k ≡ k = omega arith in
    let h : k < count = omega (arith, s.long) in
    rw (z, s.places k h, s.ends k h) (stands_here s x k h).spells) in
    ap (λ (n : ℕ). count_line n ++ lines_from source w 0 n) (sym s.long) ∙ ap (λ (r : List ℕ). count_line (length ts) ++ r) lines

-- ---- one line

module _ (source w : List ℕ) (count i out at from to : ℕ) (s : LineRoom (length source) w count i out at)
    (a : from ≡ token_place w i) (b : to ≡ token_end w i) where
  -- its digits have room
  pub line_room : HexRoom (length source) from to out at
  line_room =
      let h = s.here in
      record { order = omega (arith, s.spans.order i h); inside = omega (arith, s.spans.inside i h); room = omega (arith, s.room) }

  -- and so has its LF
  pub line_end : (entry now : List ℕ) (end : ℕ) → Put entry now (hex (slice from to source)) at end → end < out
  line_end entry now end p =
      let r = line_room in
      omega (arith, p.0, hex_slice_long source from to r.inside, s.room)

  -- which is put behind them
  pub line_put_at : (entry now : List ℕ) (end : ℕ) → out ≡ length entry → Put entry now (hex (slice from to source)) at end
      → Put entry (set now end 10) (token_line source w i) at (end + 1)
  unfolding token_line
  line_put_at entry now end l p =
      let r = line_room in
      let z = line_put entry (slice from to source) at end (omega (arith, hex_slice_long source from to r.inside, s.room)) p in
      rw (a, b) at z

-- ---- how its lines are put

-- the lines of the first i tokens stand from `from` up to `at`
pub record Lining (source w : List ℕ) (count : ℕ) (entry now : List ℕ) (from at i : ℕ) : Type 0 where
  pub within : i ≤ count
  pub done : List ℕ
  pub put : Put entry now done from at
  pub rest : done ++ lines_from source w i (count - i) ≡ lines_from source w 0 count

pub lining_none : (source w : List ℕ) (count : ℕ) (entry : List ℕ) (from : ℕ) → Lining source w count entry entry from from 0
lining_none source w count entry from =
    let e : count - 0 ≡ count = omega arith in
    record { within = omega arith; done = []; put = put_none entry from; rest = rw e refl }

module _ {source w : List ℕ} {count : ℕ} {entry now : List ℕ} {from at i : ℕ} (s : Spanned (length source) w count)
    (room : from + length (lines_from source w 0 count) ≤ length entry) (l : Lining source w count entry now from at i) where
  done_long : length l.done + length (lines_from source w i (count - i)) ≡ length (lines_from source w 0 count)
  done_long = omega (arith, ap length l.rest, length-append l.done (lines_from source w i (count - i)))

  pub lining_long : length now ≡ length entry
  lining_long = put_long entry l.done from (omega (arith, done_long)) l.put

  module _ (h : i < count) where
    next_line : lines_from source w i (count - i) ≡ token_line source w i ++ lines_from source w (i + 1) (count - (i + 1))
    unfolding lines_from
    next_line = let e : count - i ≡ suc (count - (i + 1)) = omega arith in rw e refl

    next_long : length (lines_from source w i (count - i)) ≡ size_of w i * 2 + 1 + length (lines_from source w (i + 1) (count - (i + 1)))
    next_long =
        omega (
          arith,
          ap length next_line,
          length-append (token_line source w i) (lines_from source w (i + 1) (count - (i + 1))),
          token_line_length source s i h,
        )

    -- the next line has room
    pub lining_room : at + size_of w i * 2 < length now
    lining_room = omega (arith, lining_long, done_long, next_long, l.put.0)

    pub lining_more : {next : List ℕ} {end : ℕ} → Put now next (token_line source w i) at end → Lining source w count entry next from end (i + 1)
    lining_more p = record {
      within = omega arith;
      done = l.done ++ token_line source w i;
      put = put_append entry from l.done (token_line source w i) (omega (arith, done_long)) l.put p;
      rest = append_assoc l.done (token_line source w i) (lines_from source w (i + 1) (count - (i + 1)))
          ∙ ap (λ (r : List ℕ). l.done ++ r) (sym next_line)
          ∙ l.rest;
    }

  -- all of them, behind the count
  pub lining_all : (first : List ℕ) → count ≤ i → 5 ≤ length first → Put first entry (count_line count) 0 from
      → Front (form_of source w count) first now
  unfolding form_of lines_from
  lining_all first h long p =
      let e : count - i ≡ 0 = omega arith in
      let z : l.done ++ [] ≡ lines_from source w 0 count = rw e at l.rest in
      let all : l.done ≡ lines_from source w 0 count = sym (append-nil l.done) ∙ z in
      put_front first (count_line count ++ lines_from source w 0 count)
      (put_append first 0 (count_line count) (lines_from source w 0 count) (omega (arith, count_length count)) p
      (subst (λ (r : List ℕ). Put entry now r from at) all l.put))

-- ---- what is told

module _ {source w : List ℕ} {count : ℕ} (x : Writable source w count) (n m : ℕ) (measured : m ≡ text_long w 0 count) (e : n ≡ m * 2 - count + 5) where
  pub form_long_is : n ≡ form_long w count
  form_long_is = omega arith

  long_is : {voc : Vocabulary} (ts : List Token) → Stand w count ts → Splits voc source ts → n ≡ length (stored ts)
  long_is ts d s = form_long_is ∙ sym (form_length source (writable_spans x)) ∙ ap length (form_stored d s)

  pub over_output : (out : List ℕ) → length out < n → StoresOut source w count out out None
  over_output out h = record { told = λ ts d s. (omega (arith, long_is ts d s), refl) }

  pub all_stored : (out out' : List ℕ) → n ≤ length out → Front (form_of source w count) out out' → StoresOut source w count out out' (Some n)
  all_stored out out' h f = record {
    told = λ ts d s.
        let l = long_is ts d s in
        (omega arith, l, subst (λ (s : List ℕ). Front s out out') (form_stored d s) f);
  }
