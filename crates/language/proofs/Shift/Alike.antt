-- Two texts that are the same up to an LF split in the same way up to there: no piece reaches over the LF but a comment, and
-- one that is closed before the LF is closed in both.
use lib.ListN.{length}
use lib.Seq.{slice}
use mathlib.Core.Bool.{Bool, true, false}
use mathlib.Core.List.{List, [], ◌∷◌, ◌++◌}
use mathlib.Core.Logic.{⊎_elim}
use mathlib.Core.Path.{◌≡◌, refl, sym, ap, subst, ◌∙◌}
use native.Mathlib.Decide.{dec_le}
use native.Mathlib.Omega.{arith}
use Prim.Native.Nat.{ℕ, ◌+◌, ◌-◌, ◌≤◌, ◌<◌}
use Rattle.language.proofs.Text.Alone.{IsToken, float_token, form_solid}
use Rattle.language.proofs.Text.Choices.{either, clash}
use Rattle.language.proofs.Text.Comments.{one_end, comment_bounds}
use Rattle.language.proofs.Text.Marks.{Laws}
use Rattle.language.proofs.Text.OnePiece.{form_bounds}
use Rattle.language.proofs.Text.Places.{Opened, closed, left}
use Rattle.language.specs.Text.{byte, is_blank, is_in_line, is_digit, is_digit_of, is_name_byte, Opens, Closes, Inside, ended, any_byte, nested, Comment}
use Rattle.language.specs.Text.{Content, space, unclosed, overlong, token, Form, blank, line, comment, unended, name, number, based, float, mark}
use Rattle.language.specs.Text.{Each, Within, word_kind, number_from, float_content, Piece, token_of}
use Rattle.language.specs.Text.{Reaches, start, skip, next}
use Rattle.language.specs.Tokens.{Vocabulary, Spelling, Token, spelled, NUMBER}

-- the same up to n, where an LF stands
pub record Alike (n : ℕ) (t u : List ℕ) : Type 0 where
  pub bytes : (i : ℕ) → i ≤ n → byte t i ≡ byte u i
  pub slices : (p q : ℕ) → q ≤ n → slice p q t ≡ slice p q u
  pub feed : byte t n ≡ 10
  pub long : n < length t
  pub longer : n < length u

pub other_way : {n : ℕ} {t u : List ℕ} → Alike n t u → Alike n u t
other_way {n} a = record {
  bytes = λ i h. sym (a.bytes i h);
  slices = λ p q h. sym (a.slices p q h);
  feed = sym (a.bytes n (omega arith)) ∙ a.feed;
  long = a.longer;
  longer = a.long;
}

line_feed_blank : (b : ℕ) → b ≡ 10 → is_blank b ≡ true
unfolding is_blank
line_feed_blank b e = rw e

line_feed_ends : (b : ℕ) → b ≡ 10 → is_in_line b ≡ false
unfolding is_in_line
line_feed_ends b e = rw e

-- ---- comments

module _ {n : ℕ} {t u : List ℕ} (a : Alike n t u) where
  opens_too : (p : ℕ) → p < n → Opens t p → Opens u p
  opens_too p h o = (sym (a.bytes p (omega arith)) ∙ o.0, (sym (a.bytes (p + 1) (omega arith)) ∙ o.1.0, tt))

  closes_too : (p : ℕ) → p < n → Closes t p → Closes u p
  closes_too p h o = (sym (a.bytes p (omega arith)) ∙ o.0, (sym (a.bytes (p + 1) (omega arith)) ∙ o.1.0, tt))

inside_order : {t : List ℕ} {p q : ℕ} → Inside t p q → p ≤ q
inside_order ended = omega arith
inside_order (any_byte h o c i) = omega (arith, inside_order i)
inside_order (nested o i c j) = omega (arith, inside_order i, inside_order j)

inside_too : {n : ℕ} {t u : List ℕ} → Alike n t u → {p q : ℕ} → Inside t p q → q < n → Inside u p q
inside_too a ended h = ended
inside_too a (any_byte {p = p} x o c i) h =
    let l = inside_order i in
    any_byte {p = p} (omega (arith, a.longer)) (λ y. o (opens_too (other_way a) p (omega arith) y)) (λ y. c (closes_too (other_way a) p (omega arith) y))
    (inside_too a i h)
inside_too a (nested {p = p} {m = m} o i c j) h =
    let k = inside_order i in
    let l = inside_order j in
    nested {p = p} {m = m} (opens_too a p (omega arith) o) (inside_too a i (omega arith)) (closes_too a m (omega arith) c) (inside_too a j h)

comment_too : {n : ℕ} {t u : List ℕ} → Alike n t u → (p q : ℕ) → Comment t p q → q ≤ n → Comment u p q
comment_too a p q c h =
    let e = c.ends in
    let l = comment_bounds _ p q c in
    record {
      at = c.at;
      opens = opens_too a p (omega arith) c.opens;
      inside = inside_too a c.inside (omega arith);
      closes = closes_too a c.at (omega arith) c.closes;
      ends = e;
    }

-- ---- forms

module _ {n : ℕ} {t u : List ℕ} (a : Alike n t u) where
  within_too : {p q : ℕ} → q ≤ n → Within t p q → Within u p q
  within_too h w = record { some = w.some; inside = omega (arith, a.longer) }

  each_too : (f : ℕ → Bool) {p q : ℕ} → q ≤ n → Each f t p q → Each f u p q
  each_too f h e k i j = rw (a.bytes k (omega arith)) at (e k i j)

  form_too : {voc : Vocabulary} (p q : ℕ) (c : Content) → q ≤ n → Form voc t p q c → Form voc u p q c
  form_too {voc} p q c h (blank x b e) = blank (omega (arith, a.longer)) (rw (a.bytes p (omega arith)) at b) e
  form_too {voc} p q c h (line s x y e) =
      line (sym (a.bytes p (omega arith)) ∙ s.0, (sym (a.bytes (p + 1) (omega arith)) ∙ s.1.0, tt)) x (omega (arith, a.longer))
      (each_too is_in_line h e)
  form_too {voc} p q c h (comment d) = comment (comment_too a p q d h)
  form_too {voc} p q c h (unended s x e) = absurd (omega (arith, a.long))
  form_too {voc} p q c h (name w l e) =
      subst (λ (s : Spelling). Form voc u p q (token (word_kind voc s) 0)) (sym (a.slices p q h))
      (name (within_too h w) (rw (a.bytes p (omega (arith, w.some))) at l) (each_too is_name_byte h e))
  form_too {voc} p q c h (number w e) =
      subst (λ (s : Spelling). Form voc u p q (token NUMBER (number_from 10 0 s))) (sym (a.slices p q h)) (number (within_too h w) (each_too is_digit h e))
  form_too {voc} p q c h (based {base = base} s w e) =
      subst (λ (r : Spelling). Form voc u p q (token NUMBER (number_from base 0 r))) (sym (a.slices (p + 2) q h))
      (based {base = base} (ap (spelled voc.bases) (sym (a.slices p (p + 2) (omega (arith, w.some)))) ∙ s) (within_too h w)
      (each_too (is_digit_of base) h e))
  form_too {voc} p q c h (float {m = m} o w e d l r g) =
      float {m = m} (rw (a.bytes (m + 1) (omega arith)) at o) (within_too (omega arith) w) (each_too is_digit (omega arith) e)
      (sym (a.bytes m (omega arith)) ∙ d) l (omega (arith, a.longer)) (each_too is_digit h g)
  form_too {voc} p q c h (mark {k = k} w s) = mark {k = k} (within_too h w) (ap (spelled voc.marks) (sym (a.slices p q h)) ∙ s)

module _ {voc : Vocabulary} (laws : Laws voc) {n : ℕ} {t u : List ℕ} (a : Alike n t u) where
  -- a token has no LF
  token_short : (p q : ℕ) (c : Content) → IsToken c → Form voc t p q c → p < n → n < q → ⊥
  token_short p q c i f h l = clash (line_feed_blank (byte t n) a.feed) (form_solid laws c i f n (omega arith) l)

  -- over the LF goes only a comment, closed or not
  over_feed : (p q : ℕ) (c : Content) → p < n → n < q → Form voc t p q c → Opens t p × Opened t p q c
  over_feed p q c h l (blank x b e) = absurd (omega arith)
  over_feed p q c h l (line s x y e) =
      ⊎_elim (λ z. absurd (second (one z))) (λ z. absurd (clash (e n l z) (line_feed_ends (byte t n) a.feed))) (either n (p + 2))
    where
      one : n < p + 2 → p + 1 ≡ n
      one z = omega arith

      second : p + 1 ≡ n → ⊥
      second z = omega (arith, s.1.0, a.feed, ap (byte t) z)
  over_feed p q c h l (comment d) = (d.opens, closed d refl)
  over_feed p q c h l (unended s x e) = (s, left x e refl)
  over_feed p q c h l (name w i e) = absurd (token_short p q c tt (name w i e) h l)
  over_feed p q c h l (number w e) = absurd (token_short p q c tt (number w e) h l)
  over_feed p q c h l (based {base = base} s w e) = absurd (token_short p q c tt (based {base = base} s w e) h l)
  over_feed p q c h l (float {m = m} o w e d r i g) =
      absurd (token_short p q (float_content (q - p)) (float_token (q - p)) (float {m = m} o w e d r i g) h l)
  over_feed p q c h l (mark {k = k} w s) = absurd (token_short p q c tt (mark {k = k} w s) h l)

-- a piece that a split goes over
abbrev ClosesIn : Content → Type 0
ClosesIn space = Unit {0}
ClosesIn unclosed = ⊥
ClosesIn overlong = ⊥
ClosesIn (token k v) = Unit {0}

-- ---- pieces

module _ {voc : Vocabulary} (laws : Laws voc) {n : ℕ} {t u : List ℕ} (a : Alike n t u) (p q : ℕ) (c : Content) (h : q ≤ n)
    (x : Piece voc t p q c) where
  before : p < q
  before = (form_bounds t p q c x.form).0

  two_ends : (e f : ℕ) (d : Content) → n < e → f ≤ n → Comment u p f → Opened u p e d → ⊥
  two_ends e f d l m y (closed z i) = omega (arith, one_end u p f e y z)
  two_ends e f d l m y (left z i j) = z f y

  -- a comment over the LF in one text would be one in the other, and longer than the piece
  not_over : (e : ℕ) (d : Content) → n < e → Form voc u p e d → ⊥
  not_over e d l f =
      let z = over_feed laws (other_way a) p e d (omega (arith, before)) l f in
      let o = opens_too (other_way a) p (omega (arith, before)) z.0 in
      let none : (g : ℕ) → Comment t p g → ⊥ =
      λ g y. let m = x.longest g space (comment y) in
      two_ends e g d l (omega arith) (comment_too a p g y (omega arith)) z.1 in
      omega (arith, x.longest (length t) unclosed (unended o none refl), a.long)

  piece_too : Piece voc u p q c
  piece_too = record {
    form = form_too a p q c h x.form;
    longest = λ e d f.
        ⊎_elim (λ l. absurd (not_over e d l f)) (λ l. x.longest e d (form_too (other_way a) p e d l f)) (either n e);
  }

-- ---- splits

module _ {voc : Vocabulary} (laws : Laws voc) {n : ℕ} {t u : List ℕ} (a : Alike n t u) where
  -- a place up to the LF is reached in both with the same tokens
  pub reaches_too : {p : ℕ} {ts : List Token} → Reaches voc t p ts → p ≤ n → Reaches voc u p ts
  reaches_too start h = start
  reaches_too {p = q} (skip {p = p} r x) h =
      skip (reaches_too r (omega (arith, form_bounds t p q space x.form))) (piece_too laws a p q space h x)
  reaches_too {p = q} (next {p = p} {k = k} {v = v} {ts = ts} r x l e) h =
      let s : token_of t p q k v ≡ token_of u p q k v = ap (λ s. record { kind = k; value = v; spelling = s; place = p }) (a.slices p q h) in
      next (reaches_too r (omega (arith, form_bounds t p q (token k v) x.form))) (piece_too laws a p q (token k v) h x) l
      (e ∙ ap (λ y. ts ++ (y ∷ [])) s)

-- ---- the LF is a piece of its own

module _ {voc : Vocabulary} (laws : Laws voc) {n : ℕ} {t : List ℕ} (feed : byte t n ≡ 10) (long : n < length t)
    (no_slash : (i : ℕ) → n < i → byte t i ≡ 47 → ⊥) where
  self : Alike n t t
  self = record { bytes = λ i h. refl; slices = λ p q h. refl; feed = feed; long = long; longer = long }

  -- where no comment is closed behind it
  none_over : (p q : ℕ) (c : Content) → ClosesIn c → p < n → n < q → Form voc t p q c → ⊥
  none_over p q c i h l f = go (over_feed laws self p q c h l f).1
    where
      go : Opened t p q c → ⊥
      go (closed y e) =
          let z = y.closes.1.0 in
          let w = y.ends in
          ⊎_elim (λ m. no_slash (y.at + 1) m z) (λ m. omega (arith, feed, z, ap (byte t) (one m w))) (either n (y.at + 1))
        where
          one : y.at + 1 ≤ n → q ≡ y.at + 2 → y.at + 1 ≡ n
          one m w = omega arith
      go (left y e w) = subst ClosesIn w i

  reached_or_here : {p : ℕ} {ts : List Token} → Reaches voc t p ts → (n < p → (us : List Token) × Reaches voc t n us) → (p < n → ⊥)
      → (us : List Token) × Reaches voc t n us
  reached_or_here {p} {ts} r f m = by_dec (dec_le p n) (dec_le n p)
    where
      by_dec : Dec (p ≤ n) → Dec (n ≤ p) → (us : List Token) × Reaches voc t n us
      by_dec (yes l) (yes k) = let e : p ≡ n = omega arith in (ts, rw e at r)
      by_dec (yes l) (no k) = absurd (m (omega (arith, k)))
      by_dec (no l) k = f (omega (arith, l))

  -- so it is reached
  pub feed_reached : {q : ℕ} {us : List Token} → Reaches voc t q us → n < q → (ts : List Token) × Reaches voc t n ts
  feed_reached start h = absurd (omega arith)
  feed_reached {q} (skip {p = p} {ts = ts} r x) h =
      reached_or_here r (feed_reached r) (λ l. none_over p q space tt l h x.form)
  feed_reached {q} (next {p = p} {k = k} {v = v} {ts = ts} r x y e) h =
      reached_or_here r (feed_reached r) (λ l. none_over p q (token k v) tt l h x.form)
