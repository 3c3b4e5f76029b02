-- The piece at a place, for each way in which one may begin there: what a program that splits a text has to have found.
use lib.ListN.{length}
use lib.Seq.{slice, length-slice}
use mathlib.Core.Bool.{true}
use mathlib.Core.List.{List, [], ◌∷◌}
use mathlib.Core.Logic.{⊎_elim, inl, inr}
use mathlib.Core.Option.{none, some, none-ne-some}
use mathlib.Core.Path.{◌≡◌, refl, sym, ◌∙◌, subst}
use native.Mathlib.Nat.{le_refl}
use native.Mathlib.Omega.{arith}
use Prim.Native.Nat.{ℕ, ◌+◌, ◌-◌, ◌≤◌, ◌<◌}
use Rattle.language.proofs.Text.Choices.{either}
use Rattle.language.proofs.Text.Classes.{name_letter, digit_of_some}
use Rattle.language.proofs.Text.Comments.{one_end, comment_bounds, open_inside}
use Rattle.language.proofs.Text.Marks.{Laws, base_shape, mark_shape, mark_some, stands_inside}
use Rattle.language.proofs.Text.OnePiece.{not_decimal, not_pointed, never_both}
use Rattle.language.proofs.Text.Places.{Sort, sort, Begins, Based, Pointed, Opened, Slashed, View, view}
use Rattle.language.proofs.Text.Places.{sort_blank, sort_letter, sort_digit, sort_line, sort_open, sort_other}
use Rattle.language.proofs.Text.Places.Opened.{closed, left}
use Rattle.language.proofs.Text.Places.Sort.{blanks, letters, digits, lines, opens, others}
use Rattle.language.proofs.Text.Runs.{Run, run_longest, run_some}
use Rattle.language.proofs.Text.Spellings.{byte_inside}
use Rattle.language.proofs.Text.Tables.{most, most_bytes}
use Rattle.language.specs.Text.{byte, Stands, Each, is_blank, is_letter, is_digit, is_digit_of, is_name_byte, is_in_line}
use Rattle.language.specs.Text.{Opens, Comment, Content, Within, Form, Piece, word_kind, number_from, float_content}
use Rattle.language.specs.Text.Content.{space, unclosed, token}
use Rattle.language.specs.Text.Form.{blank, line, comment, unended, name, number, based, float, mark}
use Rattle.language.specs.Tokens.{Spelling, spell, Vocabulary, NUMBER, spelled}

-- no mark from p on has more than n bytes
pub record AtMost (voc : Vocabulary) (t : List ℕ) (p n : ℕ) : Type 0 where
  pub bytes : (q k : ℕ) → p < q → q ≤ length t → spelled voc.marks (slice p q t) ≡ some k → q ≤ p + n

-- none has more than the longest of the vocabulary
pub at_most : (voc : Vocabulary) (t : List ℕ) (p : ℕ) → AtMost voc t p (most voc.marks)
at_most voc t p =
    record { bytes = λ q k o h e. omega (arith, length-slice p q t h, most_bytes voc.marks (slice p q t) k e) }

-- where none has n + 1, none has more than n
pub at_most_less : {voc : Vocabulary} {t : List ℕ} {p n : ℕ} → AtMost voc t p (n + 1)
    → (p + (n + 1) ≤ length t → spelled voc.marks (slice p (p + (n + 1)) t) ≡ none) → AtMost voc t p n
at_most_less {voc} {t} {p} {n} f g = record { bytes = λ q k o h e. go q k o h e }
  where
    go : (q k : ℕ) → p < q → q ≤ length t → spelled voc.marks (slice p q t) ≡ some k → q ≤ p + n
    go q k o h e =
        let l = f.bytes q k o h e in
        ⊎_elim (λ x. omega arith)
        (λ x. let z : q ≡ p + (n + 1) = omega arith in absurd (none-ne-some k (sym (g (omega arith)) ∙ rw z at e)))
        (either q (p + (n + 1)))

module _ {voc : Vocabulary} (laws : Laws voc) (t : List ℕ) (p : ℕ) where
  upto : (q : ℕ) (s : Sort) → sort t p ≡ s → ((e : ℕ) (d : Content) → View voc t p e d s → e ≤ q)
      → (e : ℕ) (d : Content) → Form voc t p e d → e ≤ q
  upto q s z f e d x = f e d (rw z at (view laws t p e d x))

  -- a blank is a piece of one byte that is no token
  pub blank_piece : p < length t → is_blank (byte t p) ≡ true → Piece voc t p (p + 1) space
  blank_piece h b = record { form = blank h b refl; longest = upto (p + 1) blanks (sort_blank t p b) (λ e d x. omega (arith, x.0)) }

  -- from a letter on the longest run of name bytes is a name or a word
  pub name_piece : (q : ℕ) → p < length t → is_letter (byte t p) ≡ true → Run is_name_byte t p q
      → Piece voc t p q (token (word_kind voc (slice p q t)) 0)
  name_piece q h b r =
      record {
        form = name (record { some = run_some h (name_letter (byte t p) b) r; inside = r.within }) b r.each;
        longest = upto q letters (sort_letter t p b) (λ e d x. run_longest r x.0);
      }

  -- the two bytes at p tell this base, and a digit of it stands behind them
  abbrev pub Tells : ℕ → Type 0
  Tells base = (spelled voc.bases (slice p (p + 2) t) ≡ some base) × (is_digit_of base (byte t (p + 2)) ≡ true)

  based_tells : {q : ℕ} {c : Content} (x : Based voc t p q c) → Tells x.base
  based_tells x = (x.spells, x.each (p + 2) x.some (le_refl (p + 2)))

  -- digits and a point: the longest run of digits ends there
  pointed_end : {q e : ℕ} {d : Content} → Run is_digit t p q → (x : Pointed voc t p e d) → x.point ≡ q
  pointed_end {q} {e} r x =
      let a = run_longest r (record { order = omega (arith, x.some); within = omega (arith, x.behind, x.within); each = x.first }) in
      let b = not_pointed t p e q x (record { order = r.order; within = r.within; each = r.each }) in
      omega arith

  -- a point stands at q, where points are allowed
  abbrev pub Points : ℕ → Type 0
  Points q = (voc.points (byte t (q + 1)) ≡ true) × (byte t q ≡ 46)

  -- from a digit on, where no base is told, the longest run of digits is a number if no point follows
  pub number_piece : (q : ℕ) → p < length t → is_digit (byte t p) ≡ true → ((base : ℕ) → Tells base → ⊥) → (Points q → ⊥) → Run is_digit t p q
      → Piece voc t p q (token NUMBER (number_from 10 0 (slice p q t)))
  number_piece q h b n m r =
      record {
        form = number (record { some = run_some h b r; inside = r.within }) r.each;
        longest = upto q digits (sort_digit t p b) ends;
      }
    where
      ends : (e : ℕ) (d : Content) → View voc t p e d digits → e ≤ q
      ends e d (inl x) = run_longest r x.0
      ends e d (inr (inl x)) = absurd (n x.base (based_tells x))
      ends e d (inr (inr x)) = absurd (m (subst Points (pointed_end r x) (x.has, x.dot)))

  -- and a float number if one follows, with the digits behind it
  pub float_piece : (m q : ℕ) → p < length t → is_digit (byte t p) ≡ true → Run is_digit t p m → Points m → Run is_digit t (m + 1) q
      → Piece voc t p q (float_content (q - p))
  float_piece m q h b r s u =
      record {
        form = float {m = m} s.0 (record { some = some; inside = r.within }) r.each s.1 behind u.within u.each;
        longest = upto q digits (sort_digit t p b) ends;
      }
    where
      some : p < m
      some = run_some h b r

      behind : m < q
      behind = omega (arith, u.order)

      this : Pointed voc t p q (float_content (q - p))
      this = record {
        point = m;
        has = s.0;
        some = some;
        first = r.each;
        dot = s.1;
        behind = behind;
        within = u.within;
        rest = u.each;
        comes = refl;
      }

      ends : (e : ℕ) (d : Content) → View voc t p e d digits → e ≤ q
      ends e d (inl x) = omega (arith, run_longest r x.0)
      ends e d (inr (inl x)) = absurd (never_both laws t p e q x this)
      ends e d (inr (inr x)) =
          let z = pointed_end r x in
          let rest = subst (λ k. Each is_digit t (k + 1) e) z x.rest in
          run_longest u (record { order = omega (arith, x.behind); within = x.within; each = rest })

  -- where one is told, the longest run of its digits is
  pub based_piece : (base q : ℕ) → Tells base → Run (is_digit_of base) t (p + 2) q
      → Piece voc t p q (token NUMBER (number_from base 0 (slice (p + 2) q t)))
  based_piece base q s r =
      record {
        form = based {base = base} s.0 (record { some = some; inside = r.within }) r.each;
        longest = upto q digits (sort_digit t p (base_shape laws t p base (omega arith) s.0).0) ends;
      }
    where
      there : p + 2 < length t
      there = byte_inside t (p + 2) (byte t (p + 2)) refl (digit_of_some base (byte t (p + 2)) s.1)

      some : p + 2 < q
      some = run_some there s.1 r

      this : Based voc t p q (token NUMBER (number_from base 0 (slice (p + 2) q t)))
      this = record { base = base; spells = s.0; some = some; within = r.within; each = r.each; comes = refl }

      ends : (e : ℕ) (d : Content) → View voc t p e d digits → e ≤ q
      ends e d (inl x) = omega (arith, not_decimal laws t p q e this x.0)
      ends e d (inr (inr x)) = absurd (never_both laws t p q e this x)
      ends e d (inr (inl x)) =
          let f = s.0 in
          let g = x.spells in
          let z : x.base ≡ base = cc in
          let each = subst (λ b. Each (is_digit_of b) t (p + 2) e) z x.each in
          run_longest r (record { order = omega (arith, x.some); within = x.within; each = each })

  slashed_upto : (q e : ℕ) (d : Content) {A : Type 0} → p + 2 ≤ q → (A → e ≤ q) → Slashed voc t p e d A → e ≤ q
  slashed_upto q e d h f (inl x) = f x.1
  slashed_upto q e d h f (inr x) = let z = x.0 in omega arith

  -- from `//` on the rest of the line is no token
  pub line_piece : (q : ℕ) → Stands t p (spell "//") → Run is_in_line t (p + 2) q → Piece voc t p q space
  line_piece q s r =
      record {
        form = line s r.order r.within r.each;
        longest = upto q lines (sort_line t p s) (λ e d x. slashed_upto q e d r.order (λ y. run_longest r y.0) x);
      }

  -- a comment that is closed is no token
  pub comment_piece : (q : ℕ) → Comment t p q → Piece voc t p q space
  comment_piece q c =
      record {
        form = comment c;
        longest = upto q opens (sort_open t p c.opens) (λ e d x. slashed_upto q e d long (ends e d) x);
      }
    where
      long : p + 2 ≤ q
      long = omega (arith, comment_bounds t p q c)

      ends : (e : ℕ) (d : Content) → Opened t p e d → e ≤ q
      ends e d (closed y z) = omega (arith, one_end t p q e c y)
      ends e d (left n y z) = absurd (n q c)

  -- a comment that is not closed takes the rest of the text
  pub open_piece : Opens t p → ((e : ℕ) → Comment t p e → ⊥) → Piece voc t p (length t) unclosed
  open_piece s n =
      record {
        form = unended s n refl;
        longest = upto (length t) opens (sort_open t p s) (λ e d x. slashed_upto (length t) e d (open_inside t p s) (ends e d) x);
      }
    where
      ends : (e : ℕ) (d : Content) → Opened t p e d → e ≤ length t
      ends e d (closed y z) = absurd (n e y)
      ends e d (left m y z) = omega arith

  -- where none of these begins, a mark is a token if no longer one stands there
  pub mark_piece : (n k : ℕ) → Begins t p others → Within t p (p + n) → spelled voc.marks (slice p (p + n) t) ≡ some k
      → AtMost voc t p n → Piece voc t p (p + n) (token k 0)
  mark_piece n k b w x f =
      record {
        form = mark {k = k} w x;
        longest = upto (p + n) others (sort_other t p b.0 b.1 b.2) (λ e d y. f.bytes e y.kind y.some y.within y.spells);
      }

  -- where no mark stands either, there is no form
  pub no_form : Begins t p others → AtMost voc t p 0 → (e : ℕ) (d : Content) → Form voc t p e d → ⊥
  no_form b f e d x =
      let y : View voc t p e d others = rw (sort_other t p b.0 b.1 b.2) at (view laws t p e d x) in
      omega (arith, y.some, f.bytes e y.kind y.some y.within y.spells)

  -- the bytes of a mark that stand at p lie in the text
  pub mark_within : (s : Spelling) (k : ℕ) → p ≤ length t → spelled voc.marks s ≡ some k → Stands t p s → Within t p (p + length s)
  mark_within [] k h e x = absurd (mark_some laws k e)
  mark_within (c ∷ s) k h e x =
      record { some = omega arith; inside = stands_inside t p (c ∷ s) (mark_shape laws c s k e).bytes h x }
