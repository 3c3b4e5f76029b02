-- Digits put one behind the other: those of a byte, of a part of the source, and a line of them.
use lib.ListN.{length, get_or, take, drop, set, length-append}
use lib.Seq.{slice, paste, paste-zero, length-paste, take-paste, drop-paste, take-length, drop-drop, take-suc, length-take-le, length-slice, slice_empty}
use lib.Seq.{drop-append-le}
use mathlib.Core.List.{List, [], ◌∷◌, ◌++◌, append_assoc}
use mathlib.Core.Path.{◌≡◌, refl, sym, ap, ap₂, subst, ◌∙◌}
use borrow.Author.Tests.{lt-ltb, le-ltb}
use native.Mathlib.Numerals.{add-one}
use native.Mathlib.Omega.{arith}
use Prim.Native.Nat.{ℕ, ◌+◌, ◌*◌, ◌-◌, ◌/◌, ◌%◌, ◌≤◌, ◌<◌}
use Rattle.language.specs.Stored.{capital, hex, line, count_line}
use Rattle.language.proofs.Stored.Digits.{hex_long}
use Rattle.writer.specs.Texts.{Put, Front}
use Rattle.writer.specs.Forms.{HexRoom}
use Rattle.writer.proofs.Parts.{put_mark}

-- ---- one digit

pub low_capital : (n : ℕ) → n < 10 → 48 + n ≡ capital n
unfolding capital
low_capital n h = rw (lt-ltb n 10 h) refl

pub high_capital : (n : ℕ) → 10 ≤ n → 65 + (n - 10) ≡ capital n
unfolding capital
high_capital n h = rw (le-ltb n 10 h) refl

-- ---- parts

pub put_none : (entry : List ℕ) (at : ℕ) → Put entry entry [] at at
put_none entry at = (omega arith, paste-zero entry at [])

pub put_long : (entry s : List ℕ) (at : ℕ) {next : List ℕ} {end : ℕ} → at + length s ≤ length entry → Put entry next s at end
    → length next ≡ length entry
put_long entry s at h p = ap length p.1 ∙ length-paste entry at s (length s) h (omega arith)

-- a part behind a part
pub put_append : (entry : List ℕ) (at : ℕ) (s t : List ℕ) {now next : List ℕ} {mid end : ℕ} → at + length s ≤ length entry → Put entry now s at mid
    → Put now next t mid end → Put entry next (s ++ t) at end
put_append entry at s t {now} {next} {mid} {end} h p q =
    let n = length s in
    let m = length t in
    let first : take mid now ≡ take at entry ++ take n s =
    ap₂ (λ (k : ℕ) (b : List ℕ). take k b) p.0 p.1 ∙ take-paste entry at s n (omega arith) (omega arith) in
    let long : length (s ++ t) ≡ n + m = length-append s t in
    let sum : at + n + m ≡ at + length (s ++ t) = omega arith in
    let last : drop (mid + m) now ≡ drop (at + length (s ++ t)) entry =
    ap₂ (λ (k : ℕ) (b : List ℕ). drop (k + m) b) p.0 p.1
    ∙ sym (drop-drop m (at + n) (paste entry at s n))
    ∙ ap (drop m) (drop-paste entry at s n (omega arith) (omega arith))
    ∙ drop-drop m (at + n) entry
    ∙ ap (λ (k : ℕ). drop k entry) sum in
    let joined = append_assoc (take at entry) s t in
    let one = take-length s in
    let two = take-length t in
    let both = take-length (s ++ t) in
    (omega (arith, p.0, q.0), q.1 ∙ cc)

-- what is put first stands first
pub put_front : (entry s : List ℕ) {next : List ℕ} {end : ℕ} → Put entry next s 0 end → Front s entry next
put_front entry s p =
    let z : 0 + length s ≡ length s = omega arith in
    p.1 ∙ rw (take-length s, z) refl

-- ---- a byte

pub byte_put : (entry : List ℕ) (x b c at : ℕ) → at + 2 ≤ length entry → b ≡ capital (x / 16) → c ≡ capital (x % 16)
    → Put entry (set (set entry at b) (at + 1) c) (hex (x ∷ [])) at (at + 2)
unfolding hex
byte_put entry x b c at h e f =
    let one = put_mark entry [] b at at (omega arith) (put_none entry at) in
    let two = put_mark entry (b ∷ []) c at (at + 1) (omega arith) one in
    let z : at + 1 + 1 ≡ at + 2 = omega arith in
    let same : b ∷ c ∷ [] ≡ capital (x / 16) ∷ capital (x % 16) ∷ [] = cc in
    subst (λ (k : ℕ). Put entry (set (set entry at b) (at + 1) c) (capital (x / 16) ∷ capital (x % 16) ∷ []) at k) z
    (subst (λ (s : List ℕ). Put entry (set (set entry at b) (at + 1) c) s at (at + 1 + 1)) same two)

-- where they end
pub byte_end : (entry : List ℕ) (x at : ℕ) {next : List ℕ} {end : ℕ} → Put entry next (hex (x ∷ [])) at end → end ≡ at + 2
byte_end entry x at p = omega (arith, p.0, hex_long (x ∷ []))

-- ---- bytes of the source

pub hex_append : (s t : List ℕ) → hex (s ++ t) ≡ hex s ++ hex t
unfolding hex
hex_append [] t = refl
hex_append (b ∷ s) t = ap (λ (r : List ℕ). capital (b / 16) ∷ capital (b % 16) ∷ r) (hex_append s t)

module _ (source : List ℕ) (from i : ℕ) where
  slice_next : from ≤ i → i < length source → slice from (i + 1) source ≡ slice from i source ++ (get_or source i 0 ∷ [])
  slice_next h k =
      ap (drop from) (ap (λ (n : ℕ). take n source) (add-one i) ∙ take-suc source i 0 k)
      ∙ drop-append-le from (take i source) (get_or source i 0 ∷ []) (omega (arith, length-take-le i source (omega arith)))

  pub hex_next : from ≤ i → i < length source → hex (slice from (i + 1) source) ≡ hex (slice from i source) ++ hex (get_or source i 0 ∷ [])
  hex_next h k = ap hex (slice_next h k) ∙ hex_append (slice from i source) (get_or source i 0 ∷ [])

  pub hex_slice_long : i ≤ length source → length (hex (slice from i source)) ≡ (i - from) * 2
  hex_slice_long h = hex_long (slice from i source) ∙ ap (λ (n : ℕ). n * 2) (length-slice from i source h)

-- so many bytes from `from` on are put
pub record Putting (source : List ℕ) (from to : ℕ) (entry now : List ℕ) (at end i : ℕ) : Type 0 where
  pub after : from ≤ i
  pub within : i ≤ to
  pub put : Put entry now (hex (slice from i source)) at end

module _ (source entry : List ℕ) (from to at : ℕ) (given : HexRoom (length source) from to (length entry) at) where
  pub putting_none : Putting source from to entry entry at at from
  unfolding hex
  putting_none = record {
    after = omega arith;
    within = given.order;
    put = subst (λ (s : List ℕ). Put entry entry (hex s) at at) (sym (slice_empty from source)) (put_none entry at);
  }

  module _ {now : List ℕ} {end i : ℕ} (p : Putting source from to entry now at end i) where
    length_so : length (hex (slice from i source)) ≡ (i - from) * 2
    length_so = hex_slice_long source from i (omega (arith, p.within, given.inside))

    pub putting_long : length now ≡ length entry
    putting_long = put_long entry (hex (slice from i source)) at (omega (arith, length_so, p.after, p.within, given.room)) p.put

    -- the next byte's digits have room
    pub putting_room : i < to → end + 2 ≤ length now
    putting_room h = omega (arith, putting_long, length_so, p.put.0, p.after, given.room)

    pub putting_more : {next : List ℕ} {last : ℕ} → i < to → Put now next (hex (get_or source i 0 ∷ [])) end last
        → Putting source from to entry next at last (i + 1)
    putting_more {next} {last} h q = record {
      after = omega (arith, p.after);
      within = omega arith;
      put = let room : at + length (hex (slice from i source)) ≤ length entry = omega (arith, length_so, p.after, p.within, given.room) in
          subst (λ (s : List ℕ). Put entry next s at last) (sym (hex_next source from i p.after (omega (arith, given.inside))))
          (put_append entry at (hex (slice from i source)) (hex (get_or source i 0 ∷ [])) room p.put q);
    }

    pub putting_all : to ≤ i → Put entry now (hex (slice from to source)) at end
    putting_all h =
        let e : i ≡ to = omega (arith, p.within) in
        subst (λ (k : ℕ). Put entry now (hex (slice from k source)) at end) e p.put

-- ---- lines

-- LF behind the digits
pub line_put : (entry s : List ℕ) (at end : ℕ) {now : List ℕ} → at + length (hex s) < length entry → Put entry now (hex s) at end
    → Put entry (set now end 10) (line s) at (end + 1)
unfolding line
line_put entry s at end h p = put_mark entry (hex s) 10 at end h p

pub line_length : (s : List ℕ) → length (line s) ≡ length s * 2 + 1
unfolding line
line_length s = omega (arith, length-append (hex s) (10 ∷ []), hex_long s)

-- the four digits of a count, and LF
module _ (entry : List ℕ) (n : ℕ) (room : 5 ≤ length entry) {first second : List ℕ} {high end : ℕ}
    (p : Put entry first (hex (n / 256 ∷ [])) 0 high) (q : Put first second (hex (n % 256 ∷ [])) high end) where
  digits_put : Put entry second (hex (n / 256 ∷ n % 256 ∷ [])) 0 end
  unfolding hex
  digits_put = put_append entry 0 (hex (n / 256 ∷ [])) (hex (n % 256 ∷ [])) (omega (arith, hex_long (n / 256 ∷ []))) p q

  pub count_end : end ≡ 4
  count_end = omega (arith, digits_put.0, hex_long (n / 256 ∷ n % 256 ∷ []))

  pub count_put : Put entry (set second end 10) (count_line n) 0 (end + 1)
  unfolding count_line
  count_put = line_put entry (n / 256 ∷ n % 256 ∷ []) 0 end (omega (arith, hex_long (n / 256 ∷ n % 256 ∷ []))) digits_put

  pub count_long : length (set second end 10) ≡ length entry
  unfolding count_line
  count_long = put_long entry (count_line n) 0 (omega (arith, line_length (n / 256 ∷ n % 256 ∷ []))) count_put
