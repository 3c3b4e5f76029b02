-- What `put` does with one token; and what the two loops over tokens keep: how long the tokens so far are, and that they
-- stand at the front of the output.
use lib.ListN.{length, drop, set, length-append, length-drop}
use lib.Seq.{slice, length-slice}
use mathlib.Core.List.{List, [], ◌∷◌, ◌++◌, append-nil, append_assoc}
use mathlib.Core.Path.{◌≡◌, refl, sym, ap, subst, ◌∙◌}
use native.Mathlib.Omega.{arith}
use Prim.Native.Nat.{ℕ, ◌+◌, ◌*◌, ◌-◌, ◌≤◌, ◌<◌}
use Rattle.language.specs.Sizes.{SOURCE}
use Rattle.layout.specs.Table.{token_place, token_end}
use Rattle.writer.specs.Texts.{Put, Front, Room, Spanned, size_of, Span, mark, with_mark, text_from, text_long}
use Rattle.writer.proofs.Parts.{Begun, begun_none, begun_more, begun_front, put_mark}
use Rattle.writer.proofs.Words.{mark_long, text_length, long_next, text_next, sized}

-- ---- one token

module _ (source w : List ℕ) (count i out at from to : ℕ) (s : Span (length source) w count i out at)
    (a : from ≡ token_place w i) (b : to ≡ token_end w i) where
  -- its bytes have room
  pub span_room : Room (length source) from to out at
  span_room =
      let h = s.here in
      record { order = omega (arith, s.spans.order i h); inside = omega (arith, s.spans.inside i h); room = omega (arith, s.room) }

  -- and so has the byte behind them
  pub span_end : (entry now : List ℕ) (end : ℕ) → Put entry now (slice from to source) at end → end < out
  span_end entry now end p =
      let r = span_room in
      omega (arith, p.0, length-slice from to source r.inside, s.room)

  -- which is put behind them
  pub span_put : (entry now : List ℕ) (end c : ℕ) → out ≡ length entry → Put entry now (slice from to source) at end
      → c ≡ mark (count - (i + 1)) → Put entry (set now end c) (with_mark source w i (count - (i + 1))) at (end + 1)
  unfolding with_mark
  span_put entry now end c l p e =
      let r = span_room in
      let z = put_mark entry (slice from to source) c at end (omega (arith, length-slice from to source r.inside, s.room)) p in
      let part : List ℕ = slice (token_place w i) (token_end w i) source in
      subst (λ (m : ℕ). Put entry (set now end c) (part ++ (m ∷ [])) at (end + 1)) e (rw (a, b) at z)

-- ---- how long

-- the first i tokens have `long` bytes
pub record Measured (w : List ℕ) (count i long : ℕ) : Type 0 where
  pub within : i ≤ count
  pub sum : long + text_long w i (count - i) ≡ text_long w 0 count
  pub small : long ≤ i * (SOURCE + 1)

pub measured_none : (w : List ℕ) (count : ℕ) → Measured w count 0 0
measured_none w count =
    let e : count - 0 ≡ count = omega arith in
    record { within = omega arith; sum = rw e (omega arith); small = omega arith }

module _ {w : List ℕ} {count i long : ℕ} (m : Measured w count i long) where
  pub measured_more : {from to : ℕ} → Spanned SOURCE w count → i < count → from ≡ token_place w i → to ≡ token_end w i
      → Measured w count (i + 1) (long + (to - from) + 1)
  measured_more {from} {to} s h a b =
      let e : to - from ≡ size_of w i = omega arith in
      record {
        within = omega arith;
        sum = omega (arith, m.sum, long_next w count i h);
        small = omega (arith, m.small, sized s h);
      }

  pub measured_all : count ≤ i → long ≡ text_long w 0 count
  unfolding text_long
  measured_all h =
      let e : count - i ≡ 0 = omega arith in
      let z : long + 0 ≡ text_long w 0 count = rw e at m.sum in
      omega arith

-- ---- at the front

-- the first i tokens stand at the front, up to `at`
pub record Laying (source w : List ℕ) (count : ℕ) (entry now : List ℕ) (at i : ℕ) : Type 0 where
  pub within : i ≤ count
  pub done : List ℕ
  pub begun : Begun done entry now at
  pub rest : done ++ text_from source w i (count - i) ≡ text_from source w 0 count

pub laying_none : (source w : List ℕ) (count : ℕ) (entry : List ℕ) → Laying source w count entry entry 0 0
laying_none source w count entry =
    let e : count - 0 ≡ count = omega arith in
    record { within = omega arith; done = []; begun = begun_none entry; rest = rw e refl }

module _ {source w : List ℕ} {count : ℕ} {entry now : List ℕ} {at i : ℕ} (l : Laying source w count entry now at i) where
  pub laying_long : length now ≡ length entry
  laying_long =
      let g = l.begun in
      omega (arith, ap length g.held, length-append l.done (drop at entry), length-drop at entry, g.ends, g.room)

  module _ (s : Spanned (length source) w count) (room : text_long w 0 count ≤ length entry) (h : i < count) where
    abbrev part : List ℕ
    part = with_mark source w i (count - (i + 1))

    long : at + size_of w i + 1 ≤ length entry
    long =
        let all = text_length source s count 0 (omega arith) in
        let rest = text_length source s (count - i) i (omega arith) in
        omega
        (arith, all, rest, ap length l.rest, length-append l.done (text_from source w i (count - i)), l.begun.ends, long_next w count i h)

    -- there is room for the next one
    pub laying_room : at + size_of w i < length now
    laying_room = omega (arith, long, laying_long)

    -- which is put
    pub laying_more : {next : List ℕ} {end : ℕ} → Put now next part at end → Laying source w count entry next end (i + 1)
    laying_more p = record {
      within = omega arith;
      done = l.done ++ part;
      begun = begun_more part l.begun (omega (arith, long, mark_long source s i (count - (i + 1)) h)) p;
      rest = append_assoc l.done part (text_from source w (i + 1) (count - (i + 1)))
          ∙ ap (λ (r : List ℕ). l.done ++ r) (sym (text_next w count i h source))
          ∙ l.rest;
    }

  pub laying_all : count ≤ i → Front (text_from source w 0 count) entry now
  unfolding text_from
  laying_all h =
      let e : count - i ≡ 0 = omega arith in
      let z : l.done ++ [] ≡ text_from source w 0 count = rw e at l.rest in
      begun_front (text_from source w 0 count) l.begun (sym (append-nil l.done) ∙ z)
