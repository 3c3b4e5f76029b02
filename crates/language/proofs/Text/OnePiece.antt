-- At a place of a text stands at most one piece: two pieces there have the same end and the same content.
use lib.ListN.{length}
use mathlib.Core.List.{List}
use mathlib.Core.Logic.{⊎_elim, inl, inr}
use mathlib.Core.Path.{◌≡◌, sym, ◌∙◌, subst}
use native.Mathlib.Omega.{arith}
use Prim.Native.Nat.{ℕ, ◌+◌, ◌≤◌, ◌<◌}
use Rattle.language.proofs.Text.Comments.{open_inside, comment_bounds}
use Rattle.language.proofs.Text.Choices.{either, clash}
use Rattle.language.proofs.Text.Classes.{letter_not_digit, point_no_digit, point_no_letter}
use Rattle.language.proofs.Text.Marks.{Laws, base_shape}
use Rattle.language.proofs.Text.Places.{Sort, sort, Marked, Based, Pointed, Opened, Slashed, View, view}
use Rattle.language.proofs.Text.Runs.{Scanned}
use Rattle.language.proofs.Text.Places.Opened.{closed, left}
use Rattle.language.proofs.Text.Places.Sort.{blanks, letters, digits, lines, opens, others}
use Rattle.language.specs.Text.{byte, Content, Form, Piece, is_digit}
use Rattle.language.specs.Text.Form.{blank, line, comment, unended, name, number, based, float, mark}
use Rattle.language.specs.Tokens.{Vocabulary}

-- a base is told at p, so digits alone are one byte there
pub not_decimal : {voc : Vocabulary} → Laws voc → (t : List ℕ) (p q e : ℕ) {c : Content} → Based voc t p q c → Scanned is_digit t p e → e ≤ p + 1
not_decimal laws t p q e x s =
    let z = base_shape laws t p x.base (omega (arith, x.some, x.within)) x.spells in
    ⊎_elim (λ l. absurd (clash (s.each (p + 1) l (omega arith)) (letter_not_digit (byte t (p + 1)) z.1))) (λ l. l) (either (p + 1) e)

-- a point is no digit, so digits alone end at it
pub not_pointed : {voc : Vocabulary} (t : List ℕ) (p q e : ℕ) {c : Content} (x : Pointed voc t p q c) → Scanned is_digit t p e → e ≤ x.point
not_pointed t p q e x s =
    ⊎_elim (λ l. absurd (point_no_digit (byte t x.point) x.dot (s.each x.point l (omega (arith, x.some))))) (λ l. l) (either x.point e)

-- and it is no letter, so where a base is told none goes on
pub never_both : {voc : Vocabulary} → Laws voc → (t : List ℕ) (p q e : ℕ) {c d : Content} → Based voc t p q c → Pointed voc t p e d → ⊥
never_both laws t p q e x y =
    let z = base_shape laws t p x.base (omega (arith, x.some, x.within)) x.spells in
    ⊎_elim (λ l. clash (y.first (p + 1) l (omega arith)) (letter_not_digit (byte t (p + 1)) z.1))
    (λ l. let e : y.point ≡ p + 1 = omega (arith, y.some) in
    point_no_letter (byte t (p + 1)) (subst (λ k. byte t k ≡ 46) e y.dot) z.1)
    (either (p + 1) y.point)

module _ {voc : Vocabulary} (laws : Laws voc) (t : List ℕ) (p q : ℕ) (c d : Content) where
  same_based : Based voc t p q c → Based voc t p q d → c ≡ d
  same_based x y =
      let e = x.spells in
      let f = y.spells in
      let g = x.comes in
      let h = y.comes in
      let z : x.base ≡ y.base = cc in
      cc

  same_mark : Marked voc t p q c → Marked voc t p q d → c ≡ d
  same_mark x y =
      let e = x.spells in
      let f = y.spells in
      let g = x.comes in
      let h = y.comes in
      let z : x.kind ≡ y.kind = cc in
      cc

  same_opened : Opened t p q c → Opened t p q d → c ≡ d
  same_opened (closed x e) (closed y f) = e ∙ sym f
  same_opened (closed x e) (left n z f) = absurd (n q x)
  same_opened (left n z e) (closed y f) = absurd (n q y)
  same_opened (left n z e) (left m w f) = e ∙ sym f

  same_slashed : {A B : Type 0} → (A → B → c ≡ d) → Slashed voc t p q c A → Slashed voc t p q d B → c ≡ d
  same_slashed f (inl x) (inl y) = f x.1 y.1
  same_slashed f (inl x) (inr y) = absurd (let a = x.0 in let b = y.0 in omega arith)
  same_slashed f (inr x) (inl y) = absurd (let a = x.0 in let b = y.0 in omega arith)
  same_slashed f (inr x) (inr y) = same_mark x.1 y.1

  same_view : (s : Sort) → View voc t p q c s → View voc t p q d s → c ≡ d
  same_view blanks x y = x.1 ∙ sym y.1
  same_view letters x y = x.1 ∙ sym y.1
  same_view digits (inl x) (inl y) = x.1 ∙ sym y.1
  same_view digits (inl x) (inr (inl y)) = absurd (omega (arith, not_decimal laws t p q q y x.0, y.some))
  same_view digits (inl x) (inr (inr y)) = absurd (omega (arith, not_pointed t p q q y x.0, y.behind))
  same_view digits (inr (inl x)) (inl y) = absurd (omega (arith, not_decimal laws t p q q x y.0, x.some))
  same_view digits (inr (inr x)) (inl y) = absurd (omega (arith, not_pointed t p q q x y.0, x.behind))
  same_view digits (inr (inl x)) (inr (inl y)) = same_based x y
  same_view digits (inr (inl x)) (inr (inr y)) = absurd (never_both laws t p q q x y)
  same_view digits (inr (inr x)) (inr (inl y)) = absurd (never_both laws t p q q y x)
  same_view digits (inr (inr x)) (inr (inr y)) = x.comes ∙ sym y.comes
  same_view lines x y = same_slashed (λ a b. a.1 ∙ sym b.1) x y
  same_view opens x y = same_slashed same_opened x y
  same_view others x y = same_mark x y

  -- two forms with the same end have the same content
  pub same_content : Form voc t p q c → Form voc t p q d → c ≡ d
  same_content x y = same_view (sort t p) (view laws t p q c x) (view laws t p q d y)

-- two pieces at one place have the same end and the same content
pub one_piece : {voc : Vocabulary} → Laws voc → (t : List ℕ) (p q e : ℕ) (c d : Content) → Piece voc t p q c → Piece voc t p e d → (q ≡ e) × (c ≡ d)
one_piece laws t p q e c d x y =
    let a = x.longest e d y.form in
    let b = y.longest q c x.form in
    let z : q ≡ e = omega arith in
    (z, same_content laws t p e c d (rw z at x.form) y.form)

-- a form has a byte at least, and its bytes lie in the text
pub form_bounds : {voc : Vocabulary} (t : List ℕ) (p q : ℕ) (c : Content) → Form voc t p q c → (p < q) × (q ≤ length t)
form_bounds t p q c (blank h b e) = omega arith
form_bounds t p q c (line s a b e) = omega arith
form_bounds t p q c (comment d) = omega (arith, comment_bounds t p q d)
form_bounds t p q c (unended s n e) = omega (arith, open_inside t p s)
form_bounds t p q c (name w l e) = (w.some, w.inside)
form_bounds t p q c (number w e) = (w.some, w.inside)
form_bounds t p q c (based s w e) = omega (arith, w.some, w.inside)
form_bounds t p q c (float a w e b l h g) = omega (arith, w.some)
form_bounds t p q c (mark w e) = (w.some, w.inside)
