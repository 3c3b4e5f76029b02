-- What may stand at a point, and where digits end before one that belongs to no number.
use borrow.Author.Tests.{eq-eqb}
use lib.Dec.{eqb}
use lib.Seq.{slice, slice-cons}
use mathlib.Core.Bool.{Bool, true, false, not, false≢true}
use mathlib.Core.List.{List, [], ◌∷◌}
use mathlib.Core.Logic.{⊎_elim, inl, inr}
use mathlib.Core.Path.{◌≡◌, subst}
use native.Mathlib.Nat.{le_refl}
use native.Mathlib.Omega.{arith}
use Prim.Native.Nat.{ℕ, suc, ◌+◌, ◌≤◌}
use Rattle.language.proofs.Text.Choices.{clash, either}
use Rattle.language.proofs.Text.Classes.{letter_not_digit, point_no_digit, point_no_letter}
use Rattle.language.proofs.Text.Marks.{Laws, Plain, base_shape}
use Rattle.language.proofs.Text.Places.{Marked, Pointed, View, view, sort_digit, sort_other}
use Rattle.language.proofs.Text.Places.Sort.{digits, others}
use Rattle.language.proofs.Text.Tables.{every, spelling_of, passes}
use Rattle.language.specs.Text.{byte, Each, between, is_blank, is_letter, is_digit, Content, Form, Piece, Within}
use Rattle.language.specs.Text.Form.{number}
use Rattle.language.specs.Tokens.{Spelling, Vocabulary}

-- no mark begins with a point
unfoldable pub pointless : Spelling → Bool
pointless [] = true
pointless (a ∷ s) = not (eqb a 46)

abbrev pub Pointless : Vocabulary → Type 0
Pointless voc = every (λ r. pointless (spelling_of r)) voc.marks ≡ true

module _ {voc : Vocabulary} (laws : Laws voc) (t : List ℕ) where
  -- at a point stands a mark, if anything
  pub at_point : {p q : ℕ} {c : Content} → byte t p ≡ 46 → Form voc t p q c → Marked voc t p q c
  unfolding is_blank is_letter is_digit between
  at_point {p} {q} {c} b x =
      let n : Plain (byte t p) = record { blank = rw b; letter = rw b; digit = rw b } in
      let v : View voc t p q c others =
      rw (sort_other t p n (λ s. let z = s.0 in omega arith) (λ s. let z = s.0 in omega arith)) at (view laws t p q c x) in
      v

  -- so nothing does where no mark begins so
  pub no_form : Pointless voc → {p q : ℕ} {c : Content} → byte t p ≡ 46 → Form voc t p q c → ⊥
  unfolding pointless
  no_form bare {p} {q} b f =
      let m = at_point b f in
      let x = passes pointless voc.marks (slice p q t) m.kind bare m.spells in
      let y : slice p q t ≡ byte t p ∷ slice (suc p) q t = slice-cons p q t 0 m.some m.within in
      let z : not (eqb (byte t p) 46) ≡ true = rw y at x in
      false≢true (rw (eq-eqb (byte t p) 46 b) at z)

  -- digits end at a point that belongs to no number
  pub ends_at_point : {p q m : ℕ} {c : Content} → Piece voc t p q c → Within t p m → Each is_digit t p m → byte t m ≡ 46
      → voc.points (byte t (m + 1)) ≡ false → q ≡ m
  ends_at_point {p} {q} {m} {c} x w e b none =
      let v : View voc t p q c digits = rw (sort_digit t p (e p w.some (le_refl p))) at (view laws t p q c x.form) in
      by v (x.longest m _ (number w e))
    where
      pointed : Pointed voc t p q c → ⊥
      pointed y =
          let z : y.point ≡ m =
          ⊎_elim (λ u. absurd (point_no_digit (byte t y.point) y.dot (e y.point u (omega (arith, y.some)))))
          (λ u. ⊎_elim (λ l. absurd (point_no_digit (byte t m) b (y.first m l (omega (arith, w.some))))) (λ l. omega arith) (either m y.point))
          (either y.point m) in
          clash (subst (λ n. voc.points (byte t (n + 1)) ≡ true) z y.has) none

      by : View voc t p q c digits → m ≤ q → q ≡ m
      by (inl y) k =
          ⊎_elim (λ u. absurd (point_no_digit (byte t m) b (y.0.each m u (omega (arith, w.some))))) (λ u. omega arith) (either m q)
      by (inr (inl y)) k =
          let z = base_shape laws t p y.base (omega (arith, y.some, y.within)) y.spells in
          absurd (⊎_elim (λ u. clash (e (p + 1) u (omega arith)) (letter_not_digit (byte t (p + 1)) z.1))
          (λ u. let f : m ≡ p + 1 = omega (arith, w.some) in point_no_letter (byte t (p + 1)) (subst (λ n. byte t n ≡ 46) f b) z.1)
          (either (p + 1) m))
      by (inr (inr y)) k = absurd (pointed y)
