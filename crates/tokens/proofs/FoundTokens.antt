-- The tokens that are found at a place, each with what it is worth; of these a float number alone has the kind of one.
use borrow.Author.Tests.{eq-eqb, ne_eqb, eqb-true, le-leb, lt-leb, le-ltb, not-true}
use lib.Dec.{eqb}
use lib.ListN.{length}
use lib.Seq.{slice}
use mathlib.Core.Bool.{Bool, true, false, not, ◌&&◌}
use mathlib.Core.List.{List}
use mathlib.Core.Logic.{⊎_elim}
use mathlib.Core.Option.{Option, none, some}
use mathlib.Core.Path.{◌≡◌, refl, sym, ◌∙◌, ap, subst₂}
use native.Mathlib.Nat.{le_refl}
use native.Mathlib.Omega.{arith}
use Prim.Native.Nat.{ℕ, ◌+◌, ◌-◌, ◌≤◌, ◌<◌}
use Rattle.language.proofs.Text.Bases.{Digits, base_first, untold_digits}
use Rattle.language.proofs.Text.Choices.{either, clash, and_both}
use Rattle.language.proofs.Text.Classes.{digit_of_ten}
use Rattle.language.proofs.Text.Marks.{Laws}
use Rattle.language.proofs.Text.Pieces.{float_piece}
use Rattle.language.proofs.Text.Runs.{Run, run_some}
use Rattle.language.proofs.Text.Spellings.{byte_inside}
use Rattle.language.proofs.Text.Tables.{Table, kind_of, row, every, every_row, found}
use Rattle.language.specs.Sizes.{LARGEST, DIGITS}
use Rattle.language.specs.Text.{byte, is_digit, is_digit_of, is_hex_digit, worth, Content, Form, Piece, Wrong, word_kind, or_name, float_content}
use Rattle.language.specs.Text.Content.{token}
use Rattle.language.specs.Text.Flaw.{long_float}
use Rattle.language.specs.Text.Form.{blank, line, comment, unended, name, number, based, float, mark}
use Rattle.language.specs.Text.WrongUnder.{long}
use Rattle.language.specs.Tokens.{Spelling, Vocabulary, Token, spelled, NUMBER, FLOAT_NUMBER}
use Rattle.layout.specs.Names.{float_bits}
use Rattle.tokens.proofs.Editions.{laws_of, shared_bases, other_words, other_marks}
use Rattle.tokens.specs.declared.edition.Edition.{Edition}
use Rattle.tokens.specs.Editions.{meant}
use Rattle.tokens.specs.Found.{has_point, PointAt, Decimal, IsToken}

-- ---- no word and no mark has the kind of a float number

module _ (rows : Table) (other : every (λ r. not (eqb (kind_of r) FLOAT_NUMBER)) rows ≡ true) where
  row_kind : (s : Spelling) (k : ℕ) → spelled rows s ≡ some k → k ≡ FLOAT_NUMBER → ⊥
  row_kind s k e z =
      let f = found rows s k e in
      let l = every_row (λ r. not (eqb (kind_of r) FLOAT_NUMBER)) rows other f.at f.inside in
      clash (eq-eqb (kind_of (row rows f.at)) FLOAT_NUMBER (f.means ∙ z)) (not-true (eqb (kind_of (row rows f.at)) FLOAT_NUMBER) l)

  named : (s : Spelling) → or_name (spelled rows s) ≡ FLOAT_NUMBER → ⊥
  named s = go (spelled rows s) refl
    where
      go : (o : Option ℕ) → spelled rows s ≡ o → or_name o ≡ FLOAT_NUMBER → ⊥
      go none e z = omega arith
      go (some k) e z = row_kind s k e z

no_float : (ed : Edition) (t : List ℕ) (p q : ℕ) (c : Content) → Form (meant ed) t p q c → is_digit (byte t p) ≡ false
    → (k v : ℕ) → c ≡ token k v → k ≡ FLOAT_NUMBER → ⊥
unfolding word_kind
no_float ed t p q c (blank h b e) d k v z f = let y : ◌≡◌ {A = ℕ} 0 1 = cc in omega arith
no_float ed t p q c (line s a b e) d k v z f = let y : ◌≡◌ {A = ℕ} 0 1 = cc in omega arith
no_float ed t p q c (comment x) d k v z f = let y : ◌≡◌ {A = ℕ} 0 1 = cc in omega arith
no_float ed t p q c (unended s m e) d k v z f = let y : ◌≡◌ {A = ℕ} 0 1 = cc in omega arith
no_float ed t p q c (name w l e) d k v z f =
    named (meant ed).words (other_words ed) (slice p q t) (let y : word_kind (meant ed) (slice p q t) ≡ k = cc in y ∙ f)
no_float ed t p q c (number w e) d k v z f = let y : k ≡ NUMBER = cc in omega arith
no_float ed t p q c (based s w e) d k v z f = let y : k ≡ NUMBER = cc in omega arith
no_float ed t p q c (float h w e b l i g) d k v z f = clash (e p w.some (le_refl p)) d
no_float ed t p q c (mark {k = j} w e) d k v z f =
    let y : j ≡ k = cc in
    row_kind (meant ed).marks (other_marks ed) (slice p q t) j e (y ∙ f)

-- ---- tokens without a point

-- where no digit stands
pub plain_token : (ed : Edition) {t : List ℕ} {p k q : ℕ} → is_digit (byte t p) ≡ false → Piece (meant ed) t p q (token k 0)
    → IsToken (meant ed) t p k q 0
plain_token ed {t} {p} {k} {q} d x =
    record {
      value = 0;
      piece = x;
      small = omega arith;
      float = λ e. absurd (no_float ed t p q _ x.form d k 0 refl e);
      other = λ n. refl;
    }

-- a number
pub number_token : {voc : Vocabulary} {t : List ℕ} {p q v : ℕ} → Piece voc t p q (token NUMBER v) → v ≤ LARGEST → IsToken voc t p NUMBER q v
number_token {v = v} x h = record { value = v; piece = x; small = h; float = λ e. absurd (omega arith); other = λ n. refl }

-- ---- the point

module _ (voc : Vocabulary) (t : List ℕ) (p from q : ℕ) where
  -- asked for
  pub point_none : (from ≡ p → ⊥) → false ≡ has_point voc t p from q
  unfolding has_point
  point_none n = rw (ne_eqb from p n)

  module _ {b : ℕ} (e : from ≡ p) (f : b ≡ byte t q) where
    pub point_other : (b ≡ 46 → ⊥) → false ≡ has_point voc t p from q
    unfolding has_point
    point_other n = rw (eq-eqb from p e, ne_eqb (byte t q) 46 (λ x. n (f ∙ x)))

    pub point_some : {a : ℕ} {r : Bool} → b ≡ 46 → a ≡ byte t (q + 1) → r ≡ voc.points a → r ≡ has_point voc t p from q
    unfolding has_point
    point_some g h k = rw (eq-eqb from p e, eq-eqb (byte t q) 46 (sym f ∙ g)) (k ∙ ap voc.points h)

  -- and told
  pub point_no : has_point voc t p from q ≡ false → from ≡ p → voc.points (byte t (q + 1)) ≡ true → byte t q ≡ 46 → ⊥
  unfolding has_point
  point_no e f h g = clash (rw (eq-eqb from p f, eq-eqb (byte t q) 46 g) h) e

  pub point_yes : has_point voc t p from q ≡ true → (from ≡ p) × (byte t q ≡ 46) × (voc.points (byte t (q + 1)) ≡ true)
  unfolding has_point
  point_yes e =
      let z = and_both (eqb from p) (eqb (byte t q) 46 && voc.points (byte t (q + 1))) e in
      let y = and_both (eqb (byte t q) 46) (voc.points (byte t (q + 1))) z.1 in
      (eqb-true from p z.0, eqb-true (byte t q) 46 y.0, y.1)

-- a run of the digits of ten is one of digits
pub decimal_run : {t : List ℕ} {p q : ℕ} → Run (is_digit_of 10) t p q → Run is_digit t p q
decimal_run {t} {p} {q} r = record {
  order = r.order;
  within = r.within;
  each = λ k a b. sym (digit_of_ten (byte t k)) ∙ r.each k a b;
  stop = λ l. sym (digit_of_ten (byte t q)) ∙ r.stop l;
}

-- and the other way round
pub run_decimal : {t : List ℕ} {p q : ℕ} → Run is_digit t p q → Run (is_digit_of 10) t p q
run_decimal {t} {p} {q} r = record {
  order = r.order;
  within = r.within;
  each = λ k a b. digit_of_ten (byte t k) ∙ r.each k a b;
  stop = λ l. digit_of_ten (byte t q) ∙ r.stop l;
}

-- a number that begins with no 0 has no base
and_false : (x : Bool) {y : Bool} → y ≡ false → (x && y) ≡ false
and_false true e = e
and_false false e = refl

no_digit : (b : ℕ) → is_digit_of 0 b ≡ false
unfolding is_digit_of
no_digit b = and_false (is_hex_digit b) (le-ltb (worth b) 0 (omega arith))

pub no_base : (ed : Edition) (t : List ℕ) (p : ℕ) → p < length t → is_digit (byte t p) ≡ true → (byte t p ≡ 48 → ⊥)
    → Digits (meant ed) t p p 10
no_base ed t p h d n =
    untold_digits (laws_of ed) (shared_bases ed) t p 0 (base_first (byte t p) (byte t (p + 1)) n) h d (no_digit (byte t (p + 2)))

-- digits that have a point behind them
pub pointed : {voc : Vocabulary} {t : List ℕ} {p from base q : ℕ} → p < length t → is_digit (byte t p) ≡ true → (from ≡ p → base ≡ 10)
    → Run (is_digit_of base) t from q → has_point voc t p from q ≡ true → PointAt voc t p q
pointed {voc} {t} {p} {from} {base} {q} h d ten r e =
    let z = point_yes voc t p from q e in
    let run = decimal_run (subst₂ (λ (f b : ℕ). Run (is_digit_of b) t f q) z.0 (ten z.0) r) in
    record { some = run_some h d run; digits = run; point = z.1; own = z.2 }

-- it lies in the text
pub point_inside : {voc : Vocabulary} {t : List ℕ} {p m : ℕ} → PointAt voc t p m → m + 1 ≤ length t
point_inside {t = t} {m = m} x = omega (arith, byte_inside t m 46 x.point (omega arith))

-- ---- float numbers

module _ {voc : Vocabulary} (laws : Laws voc) {t : List ℕ} {p m q : ℕ} (x : PointAt voc t p m) (r : Run (is_digit_of 10) t (m + 1) q) where
  content : Piece voc t p q (float_content (q - p))
  content =
      let d = x.digits in
      float_piece laws t p m q (omega (arith, x.some, d.within)) (d.each p x.some (le_refl p)) d (x.own, x.point) (decimal_run r)

  -- too many digits
  pub float_long : DIGITS + 1 < q - p → (ts : List Token) → Wrong voc t p ts long_float
  float_long h ts = long (rw (lt-leb (q - p) (DIGITS + 1) h) at content)

  module _ (h : q - p ≤ DIGITS + 1) where
    pub float_decimal : Decimal t p m q
    float_decimal =
        let d = decimal_run r in
        record {
          before = x.some;
          behind = omega (arith, d.order);
          inside = d.within;
          few = h;
          point = x.point;
          digits = λ i a b n. ⊎_elim (λ l. x.digits.each i l a) (λ l. d.each i b (omega arith)) (either i m);
        }

    pub float_token : {b : ℕ} → b ≡ float_bits (slice p q t) → IsToken voc t p FLOAT_NUMBER q b
    float_token e =
        record {
          value = 0;
          piece = rw (le-leb (q - p) (DIGITS + 1) h) at content;
          small = omega arith;
          float = λ z. e;
          other = λ n. absurd (n refl);
        }
