-- What may stand at a place is settled by its first two bytes: the sorts of places, and what a form at each of them can be.
use lib.ListN.{length}
use lib.Seq.{slice, slice-cons, length-slice}
use mathlib.Core.Bool.{true, false, cond}
use mathlib.Core.List.{List, ◌∷◌}
use mathlib.Core.Logic.{⊎_elim, ◌⊎◌, inl, inr}
use mathlib.Core.Option.{Option}
use mathlib.Core.Path.{◌≡◌, refl}
use native.Mathlib.Nat.{le_refl}
use native.Mathlib.Omega.{arith}
use Prim.Native.Nat.{ℕ, suc, ◌+◌, ◌-◌, ◌≤◌, ◌<◌}
use Rattle.language.proofs.Text.Choices.{outcome, clash}
use Rattle.language.proofs.Text.Classes.{letter_not_blank, digit_not_blank, digit_not_letter}
use Rattle.language.proofs.Text.Comments.{open_inside, comment_bounds}
use Rattle.language.proofs.Text.Marks.{Plain, Laws, mark_shape, base_shape}
use Rattle.language.proofs.Text.Runs.{Scanned}
use Rattle.language.proofs.Text.Spellings.{stands, stands_yes, stands_no, yes_stands, no_stands}
use Rattle.language.specs.Text.{byte, Stands, Each, between, is_blank, is_letter, is_digit, is_digit_of, is_name_byte, is_in_line}
use Rattle.language.specs.Text.{Opens, Comment, Content, Form, word_kind, number_from, float_content}
use Rattle.language.specs.Text.Content.{space, unclosed, token}
use Rattle.language.specs.Text.Form.{blank, line, comment, unended, name, number, based, float, mark}
use Rattle.language.specs.Tokens.{spell, Vocabulary, NUMBER, spelled}

-- ---- the sorts of places

-- what begins there: a blank, a name, a number, a line comment, a comment, or none of these
pub data Sort : Type 0 where
  blanks letters digits lines opens others : Sort

-- the sort of a place
unfoldable pub sort : List ℕ → ℕ → Sort
sort t p =
    cond (is_blank (byte t p)) blanks
    (cond (is_letter (byte t p)) letters
    (cond (is_digit (byte t p)) digits
    (cond (stands t p (spell "//")) lines
    (cond (stands t p (spell "/*")) opens others))))

module _ (t : List ℕ) (p : ℕ) where
  -- a blank is a place of the sort of blanks
  pub sort_blank : is_blank (byte t p) ≡ true → sort t p ≡ blanks
  unfolding sort
  sort_blank e = rw e

  -- a letter is one of names
  pub sort_letter : is_letter (byte t p) ≡ true → sort t p ≡ letters
  unfolding sort
  sort_letter e = rw (letter_not_blank (byte t p) e, e)

  -- a digit is one of numbers
  pub sort_digit : is_digit (byte t p) ≡ true → sort t p ≡ digits
  unfolding sort
  sort_digit e = rw (digit_not_blank (byte t p) e, digit_not_letter (byte t p) e, e)

  slash : byte t p ≡ 47 → Plain (byte t p)
  unfolding is_blank is_letter is_digit between
  slash e = record { blank = rw e; letter = rw e; digit = rw e }

  -- `//` is one of line comments
  pub sort_line : Stands t p (spell "//") → sort t p ≡ lines
  unfolding sort
  sort_line s = let n = slash s.0 in rw (n.blank, n.letter, n.digit, yes_stands t p (spell "//") s)

  -- `/*` is one of comments
  pub sort_open : Opens t p → sort t p ≡ opens
  unfolding sort
  sort_open s =
      let n = slash s.0 in
      let f : stands t p (spell "//") ≡ false = no_stands t p (spell "//") (λ x. let y = x.1.0 in let z = s.1.0 in omega arith) in
      rw (n.blank, n.letter, n.digit, f, yes_stands t p (spell "/*") s)

  -- any other place is of the last sort
  pub sort_other : Plain (byte t p) → (Stands t p (spell "//") → ⊥) → (Opens t p → ⊥) → sort t p ≡ others
  unfolding sort
  sort_other n f g = rw (n.blank, n.letter, n.digit, no_stands t p (spell "//") f, no_stands t p (spell "/*") g)

-- what begins at a place of each sort
abbrev pub Begins : List ℕ → ℕ → Sort → Type 0
Begins t p blanks = is_blank (byte t p) ≡ true
Begins t p letters = is_letter (byte t p) ≡ true
Begins t p digits = is_digit (byte t p) ≡ true
Begins t p lines = Stands t p (spell "//")
Begins t p opens = Opens t p
Begins t p others = Plain (byte t p) × (Stands t p (spell "//") → ⊥) × (Opens t p → ⊥)

-- and it does begin there
pub begins : (t : List ℕ) (p : ℕ) → Begins t p (sort t p)
begins t p =
    ⊎_elim (λ b. rw (sort_blank t p b) b)
    (λ b. ⊎_elim (λ l. rw (sort_letter t p l) l)
    (λ l. ⊎_elim (λ d. rw (sort_digit t p d) d)
    (λ d. ⊎_elim (λ x. let s = stands_yes t p (spell "//") x in rw (sort_line t p s) s)
    (λ x. ⊎_elim (λ y. let s = stands_yes t p (spell "/*") y in rw (sort_open t p s) s)
    (λ y. let n : Plain (byte t p) = record { blank = b; letter = l; digit = d } in
    let f = stands_no t p (spell "//") x in
    let g = stands_no t p (spell "/*") y in
    rw (sort_other t p n f g) (n, f, g))
    (outcome (stands t p (spell "/*"))))
    (outcome (stands t p (spell "//"))))
    (outcome (is_digit (byte t p))))
    (outcome (is_letter (byte t p))))
    (outcome (is_blank (byte t p)))

-- ---- the forms at a place of each sort

-- a mark from p up to q
pub record Marked (voc : Vocabulary) (t : List ℕ) (p q : ℕ) (c : Content) : Type 0 where
  pub kind : ℕ
  pub some : p < q
  pub within : q ≤ length t
  pub spells : spelled voc.marks (slice p q t) ≡ Option.some kind
  pub comes : c ≡ token kind 0

-- digits in the base that the bytes before them tell
pub record Based (voc : Vocabulary) (t : List ℕ) (p q : ℕ) (c : Content) : Type 0 where
  pub base : ℕ
  pub spells : spelled voc.bases (slice p (p + 2) t) ≡ Option.some base
  pub some : p + 2 < q
  pub within : q ≤ length t
  pub each : Each (is_digit_of base) t (p + 2) q
  pub comes : c ≡ token NUMBER (number_from base 0 (slice (p + 2) q t))

-- digits with a point among them
pub record Pointed (voc : Vocabulary) (t : List ℕ) (p q : ℕ) (c : Content) : Type 0 where
  pub point : ℕ
  pub has : voc.points (byte t (point + 1)) ≡ true
  pub some : p < point
  pub first : Each is_digit t p point
  pub dot : byte t point ≡ 46
  pub behind : point < q
  pub within : q ≤ length t
  pub rest : Each is_digit t (point + 1) q
  pub comes : c ≡ float_content (q - p)

-- a comment, closed or not
pub data Opened (t : List ℕ) (p q : ℕ) (c : Content) : Type 0 where
  closed : Comment t p q → c ≡ space → Opened t p q c
  left : ((e : ℕ) → Comment t p e → ⊥) → q ≡ length t → c ≡ unclosed → Opened t p q c

-- two bytes or more that A says more of, or the mark `/`
abbrev pub Slashed : Vocabulary → List ℕ → ℕ → ℕ → Content → Type 0 → Type 0
Slashed voc t p q c A = ((p + 2 ≤ q) × A) ⊎ ((q ≡ p + 1) × Marked voc t p q c)

-- what a form with the content c can be, from p up to q, at a place of each sort
abbrev pub View : Vocabulary → List ℕ → ℕ → ℕ → Content → Sort → Type 0
View voc t p q c blanks = (q ≡ p + 1) × (c ≡ space)
View voc t p q c letters = Scanned is_name_byte t p q × (c ≡ token (word_kind voc (slice p q t)) 0)
View voc t p q c digits = (Scanned is_digit t p q × (c ≡ token NUMBER (number_from 10 0 (slice p q t)))) ⊎ (Based voc t p q c ⊎ Pointed voc t p q c)
View voc t p q c lines = Slashed voc t p q c (Scanned is_in_line t (p + 2) q × (c ≡ space))
View voc t p q c opens = Slashed voc t p q c (Opened t p q c)
View voc t p q c others = Marked voc t p q c

module _ {voc : Vocabulary} (laws : Laws voc) (t : List ℕ) (p q : ℕ) where
  -- a mark begins where no blank, letter or digit is, and is one byte where a comment begins
  marked_shape : {c : Content} → Marked voc t p q c → Plain (byte t p) × (byte t p ≡ 47 → q ≡ p + 1)
  marked_shape m =
      let e : slice p q t ≡ byte t p ∷ slice (suc p) q t = slice-cons p q t 0 m.some m.within in
      let z = mark_shape laws (byte t p) (slice (suc p) q t) m.kind (rw e at m.spells) in
      (z.first, λ s. omega (arith, m.some, z.slash s, length-slice (suc p) q t m.within))

  view_mark : {c : Content} → Marked voc t p q c → (s : Sort) → Begins t p s → View voc t p q c s
  view_mark m blanks b = absurd (clash b (marked_shape m).0.blank)
  view_mark m letters b = absurd (clash b (marked_shape m).0.letter)
  view_mark m digits b = absurd (clash b (marked_shape m).0.digit)
  view_mark m lines b = inr ((marked_shape m).1 b.0, m)
  view_mark m opens b = inr ((marked_shape m).1 b.0, m)
  view_mark m others b = m

  -- each form, as its place lets it be
  pub view : (c : Content) → Form voc t p q c → View voc t p q c (sort t p)
  view c (blank h b e) = rw (sort_blank t p b) (e, refl)
  view c (line s a b e) = rw (sort_line t p s) (inl (a, (record { order = a; within = b; each = e }, refl)))
  view c (comment d) = rw (sort_open t p d.opens) (inl (omega (arith, comment_bounds t p q d), closed d refl))
  view c (unended s n e) = rw (sort_open t p s) (inl (omega (arith, open_inside t p s), left n e refl))
  view c (name w l e) = rw (sort_letter t p l) (record { order = omega (arith, w.some); within = w.inside; each = e }, refl)
  view c (number w e) =
      rw (sort_digit t p (e p w.some (le_refl p))) (inl (record { order = omega (arith, w.some); within = w.inside; each = e }, refl))
  view c (based {base = base} s w e) =
      let x = base_shape laws t p base (omega (arith, w.some, w.inside)) s in
      rw (sort_digit t p x.0) (inr (inl (record { base = base; spells = s; some = w.some; within = w.inside; each = e; comes = refl })))
  view c (float {m = m} a w e b l h g) =
      rw (sort_digit t p (e p w.some (le_refl p)))
      (inr (inr (record { point = m; has = a; some = w.some; first = e; dot = b; behind = l; within = h; rest = g; comes = refl })))
  view c (mark {k = k} w e) =
      view_mark (record { kind = k; some = w.some; within = w.inside; spells = e; comes = refl }) (sort t p) (begins t p)
