-- A token's spelling is a token by itself: wherever its bytes stand with a blank or the end of the text behind them, they are
-- a piece of the same kind and value. A form is said once here, by what it asks of its own bytes; all else follows.
use lib.Dec.{leb}
use lib.ListN.{length, get_or, take}
use lib.Seq.{slice, slice-cons, length-slice, get_or-take, get_or-drop}
use mathlib.Core.Bool.{Bool, true, false, cond, not}
use mathlib.Core.List.{List, [], ◌∷◌}
use mathlib.Core.Logic.{⊎_elim, inl, inr}
use mathlib.Core.Option.{some}
use mathlib.Core.Path.{◌≡◌, refl, sym, ap, subst, ◌∙◌}
use native.Mathlib.Nat.{le_refl}
use native.Mathlib.Numerals.{add-one}
use native.Mathlib.Omega.{arith}
use borrow.Author.Tests.{not-true}
use Prim.Native.Nat.{ℕ, zero, suc, ◌+◌, ◌-◌, ◌≤◌, ◌<◌}
use Rattle.language.proofs.Text.Choices.{either, clash, and_both}
use Rattle.language.proofs.Text.Classes.{high_not_blank, name_not_blank, letter_not_blank, digit_not_blank, name_digit_of}
use Rattle.language.proofs.Text.Marks.{Laws, mark_shape, mark_some, unbroken, slice_two, base_shape}
use Rattle.language.proofs.Text.OnePiece.{form_bounds}
use Rattle.language.proofs.Text.Places.{sort_line, sort_open, View, view}
use Rattle.language.proofs.Text.Places.Opened.{closed, left}
use Rattle.language.proofs.Text.Places.Sort.{lines, opens}
use Rattle.language.proofs.Text.Spellings.{byte_inside}
use Rattle.language.specs.Text.{byte, Each, Stands, is_blank, is_digit, is_digit_of, is_name_byte}
use Rattle.language.specs.Text.{Opens, Content, Within, Form, Piece, word_kind, number_from, float_content}
use Rattle.language.specs.Text.Content.{space, unclosed, overlong, token}
use Rattle.language.specs.Text.Form.{blank, line, comment, unended, name, number, based, float, mark}
use Rattle.language.specs.Tokens.{Spelling, spell, Vocabulary, NUMBER, FLOAT_NUMBER, spelled}

-- past the end there is no byte
past_end : (u : List ℕ) (n : ℕ) → length u ≤ n → byte u n ≡ 0
past_end [] n h = refl
past_end (b ∷ u) zero h = absurd (omega arith)
past_end (b ∷ u) (suc n) h = past_end u n (omega arith)

-- ---- bytes of a slice

-- a byte between p and q, as one of the slice
pub byte_slice : (t : List ℕ) (p q i : ℕ) → p ≤ i → i < q → byte t i ≡ get_or (slice p q t) (i - p) 0
byte_slice t p q i h l =
    let e : p + (i - p) ≡ i = omega arith in
    sym (get_or-drop p (take q t) (i - p) 0 ∙ ap (λ (k : ℕ). get_or (take q t) k 0) e ∙ get_or-take q t i 0 l)

-- the same bytes in two texts
pub record Copied (t : List ℕ) (p q : ℕ) (u : List ℕ) (m n : ℕ) : Type 0 where
  pub within : Within t p q
  pub there : Within u m n
  pub same : slice m n u ≡ slice p q t

module _ {t : List ℕ} {p q : ℕ} {u : List ℕ} {m n : ℕ} (c : Copied t p q u m n) where
  -- are as many
  pub copied_long : n - m ≡ q - p
  copied_long =
      omega (arith, length-slice m n u c.there.inside, length-slice p q t c.within.inside, ap length c.same)

  copied_byte : (i : ℕ) → m ≤ i → i < n → byte u i ≡ byte t (p + (i - m))
  copied_byte i h l =
      let w = c.within.some in
      let e : p + (i - m) - p ≡ i - m = omega arith in
      let z = byte_slice t p q (p + (i - m)) (omega arith) (omega (arith, copied_long)) in
      byte_slice u m n i h l ∙ ap (λ (s : List ℕ). get_or s (i - m) 0) c.same ∙ ap (λ (k : ℕ). get_or (slice p q t) k 0) (sym e) ∙ sym z

  -- and of the same classes
  pub copied_each : (f : ℕ → Bool) → Each f t p q → Each f u m n
  copied_each f e i l h =
      let w = c.within.some in
      rw (copied_byte i h l) (e (p + (i - m)) (omega (arith, copied_long)) (omega arith))

  copied_first : byte u m ≡ byte t p
  copied_first =
      let e : p + (m - m) ≡ p = omega arith in
      copied_byte m (le_refl m) c.there.some ∙ ap (byte t) e

-- a slice by its first two bytes
two_first : (t : List ℕ) (p q : ℕ) → p + 2 ≤ q → q ≤ length t → slice p q t ≡ byte t p ∷ byte t (p + 1) ∷ slice (p + 2) q t
two_first t p q h l =
    let e : suc (p + 1) ≡ p + 2 = omega arith in
    rw (slice-cons p q t 0 (omega arith) l, sym (add-one p), slice-cons (p + 1) q t 0 (omega arith) l, e)

behind_two : {a b c d : ℕ} {s u : Spelling} → (a ∷ b ∷ s) ≡ (c ∷ d ∷ u) → s ≡ u
behind_two e = cc

module _ {t : List ℕ} {p q : ℕ} {u : List ℕ} {m n : ℕ} (c : Copied t p q u m n) (h : p + 2 < q) where
  -- what follows the first two is the same too
  copied_rest : Copied t (p + 2) q u (m + 2) n
  copied_rest = record {
    within = record { some = h; inside = c.within.inside };
    there = record { some = long; inside = c.there.inside };
    same = behind_two (sym (two_first u m n (omega (arith, long)) c.there.inside) ∙ c.same ∙ two_first t p q (omega arith) c.within.inside);
  }
    where
      long : m + 2 < n
      long = omega (arith, copied_long c)

  copied_two : slice m (m + 2) u ≡ slice p (p + 2) t
  copied_two =
      let l = copied_rest.there.some in
      let w = c.there.inside in
      let x = c.within.inside in
      let e : p + (m + 1 - m) ≡ p + 1 = omega arith in
      let second : byte u (m + 1) ≡ byte t (p + 1) = copied_byte c (m + 1) (omega arith) (omega arith) ∙ ap (byte t) e in
      rw (slice_two u m (omega arith), slice_two t p (omega arith), copied_first c, second)

-- ---- a token's form

-- it comes to a token, or to a float number that is too long for one
abbrev pub IsToken : Content → Type 0
IsToken space = ⊥
IsToken unclosed = ⊥
IsToken overlong = Unit {0}
IsToken (token k v) = Unit {0}

pub float_token : (n : ℕ) → IsToken (float_content n)
float_token n = by (leb n 16)
  where
    by : (b : Bool) → IsToken (cond b (token FLOAT_NUMBER 0) overlong)
    by true = tt
    by false = tt

not_space : (c : Content) → IsToken c → c ≡ space → ⊥
not_space c i e = subst IsToken e i

not_unclosed : (c : Content) → IsToken c → c ≡ unclosed → ⊥
not_unclosed c i e = subst IsToken e i

-- no blank among some bytes
solid : (s : Spelling) → unbroken s ≡ true → (i : ℕ) → i < length s → is_blank (get_or s i 0) ≡ false
unfolding unbroken
solid [] e i h = absurd (omega arith)
solid (a ∷ s) e zero h = not-true (is_blank a) (and_both (not (is_blank a)) (unbroken s) e).0
solid (a ∷ s) e (suc i) h = solid s (and_both (not (is_blank a)) (unbroken s) e).1 i (omega arith)

module _ {voc : Vocabulary} (laws : Laws voc) where
  mark_whole : (s : Spelling) (k : ℕ) → spelled voc.marks s ≡ some k → unbroken s ≡ true
  mark_whole [] k e = absurd (mark_some laws k e)
  mark_whole (a ∷ s) k e = (mark_shape laws a s k e).whole

  -- a blank or the end stands at n
  abbrev pub Over : List ℕ → ℕ → Type 0
  Over u n = n < length u → is_blank (byte u n) ≡ true

  -- what stands there may follow a point
  over_point : (u : List ℕ) (n b : ℕ) → Over u n → voc.points b ≡ true → voc.points (byte u n) ≡ true
  over_point u n b over h =
      ⊎_elim (λ l. laws.loose b (byte u n) h (over l)) (λ l. rw (past_end u n l) (laws.last b h)) (either n (length u))

  -- the same bytes elsewhere, with a blank or the end behind them, have it too
  pub form_copied : {t : List ℕ} {p q : ℕ} {u : List ℕ} {m n : ℕ} (c : Content) → IsToken c → Copied t p q u m n → Over u n
      → Form voc t p q c → Form voc u m n c
  form_copied c i w o (blank h b e) = absurd i
  form_copied c i w o (line s a b e) = absurd i
  form_copied c i w o (comment d) = absurd i
  form_copied c i w o (unended s n e) = absurd i
  form_copied {t} {p} {q} {u} {m} {n} c i w o (name a l e) =
      subst (λ (s : Spelling). Form voc u m n (token (word_kind voc s) 0)) w.same
      (name w.there (rw (copied_first w) l) (copied_each w is_name_byte e))
  form_copied {t} {p} {q} {u} {m} {n} c i w o (number a e) =
      subst (λ (s : Spelling). Form voc u m n (token NUMBER (number_from 10 0 s))) w.same
      (number w.there (copied_each w is_digit e))
  form_copied {t} {p} {q} {u} {m} {n} c i w o (based {base = base} s a e) =
      let r = copied_rest w a.some in
      subst (λ (s : Spelling). Form voc u m n (token NUMBER (number_from base 0 s))) r.same
      (based {base = base} (rw (copied_two w a.some) s) r.there (copied_each r (is_digit_of base) e))
  form_copied {t} {p} {q} {u} {m} {n} c i w o (float {m = k} a b e d l h g) =
      subst (λ (j : ℕ). Form voc u m n (float_content j)) long
      (float {m = at} point (record { some = omega (arith, s); inside = omega (arith, long, x, y, s, end) })
      (λ j v f. rw (copied_byte w j f (omega (arith, long, x, y, s))) (e (p + (j - m)) (omega (arith, s)) (omega arith)))
      (copied_byte w at (omega arith) (omega (arith, long, x, y, s)) ∙ ap (byte t) z ∙ d) (omega (arith, long, x, y, s)) end
      λ j v f. rw (copied_byte w j (omega arith) v) (g (p + (j - m)) (omega (arith, long, x, y)) (omega (arith, s))))
    where
      long : n - m ≡ q - p
      long = copied_long w

      x : p < q
      x = w.within.some

      y : m < n
      y = w.there.some

      s : p < k
      s = b.some

      end : n ≤ length u
      end = w.there.inside

      at : ℕ
      at = m + (k - p)

      z : p + (at - m) ≡ k
      z = omega (arith, s)

      point : voc.points (byte u (at + 1)) ≡ true
      point =
          ⊎_elim
          (λ v. let f : p + (at + 1 - m) ≡ k + 1 = omega (arith, s) in
          rw (copied_byte w (at + 1) (omega arith) (omega (arith, long, x, y, s)), f) a)
          (λ v. let f : at + 1 ≡ n = omega (arith, long, x, y, s) in rw f (over_point u n (byte t (k + 1)) o a))
          (either (k + 1) q)
  form_copied {t} {p} {q} {u} {m} {n} c i w o (mark {k = k} a e) = mark {k = k} w.there (rw w.same e)

  -- none of its bytes is a blank
  pub form_solid : {t : List ℕ} {p q : ℕ} (c : Content) → IsToken c → Form voc t p q c → (i : ℕ) → p ≤ i → i < q → is_blank (byte t i) ≡ false
  form_solid c x (blank a b e) i h l = absurd x
  form_solid c x (line s a b e) i h l = absurd x
  form_solid c x (comment d) i h l = absurd x
  form_solid c x (unended s n e) i h l = absurd x
  form_solid {t} c x (name a b e) i h l = name_not_blank (byte t i) (e i l h)
  form_solid {t} c x (number a e) i h l = digit_not_blank (byte t i) (e i l h)
  form_solid {t} {p} {q} c x (based {base = base} s a e) i h l =
      let b = base_shape laws t p base (omega (arith, a.some, a.inside)) s in
      ⊎_elim
      (λ k. ⊎_elim (λ j. let z : i ≡ p = omega arith in rw z (digit_not_blank (byte t p) b.0))
      (λ j. let z : i ≡ p + 1 = omega arith in rw z (letter_not_blank (byte t (p + 1)) b.1)) (either i (p + 1)))
      (λ k. name_not_blank (byte t i) (name_digit_of base (byte t i) (e i l k))) (either i (p + 2))
  form_solid {t} c x (float {m = k} a b e d o n g) i h l =
      ⊎_elim (λ j. digit_not_blank (byte t i) (e i j h))
      (λ j. ⊎_elim (λ f. let z : i ≡ k = omega arith in rw (z, d) (high_not_blank 46 (omega arith)))
      (λ f. digit_not_blank (byte t i) (g i l f)) (either i (k + 1))) (either i k)
  form_solid {t} {p} {q} c x (mark {k = k} a e) i h l =
      rw (byte_slice t p q i h l)
      (solid (slice p q t) (mark_whole (slice p q t) k e) (i - p) (omega (arith, length-slice p q t a.inside)))

  -- ---- and nothing longer

  module _ {u : List ℕ} {m n : ℕ} (c : Content) (i : IsToken c) (f : Form voc u m n c) (over : Over u n) where
    -- a token's form is one byte where two bytes begin a comment, so the second of them is the blank
    short : (b : ℕ) → 33 ≤ b → byte u (m + 1) ≡ b → n ≡ m + 1 → ⊥
    short b h e z =
        let l : m + 1 < length u = byte_inside u (m + 1) b e (omega arith) in
        let w : is_blank (byte u (m + 1)) ≡ true = subst (λ (k : ℕ). Over u k) z over l in
        clash w (rw e (high_not_blank b h))

    no_line : Stands u m (spell "//") → ⊥
    no_line s = go (rw (sort_line u m s) at (view laws u m n c f))
      where
        go : View voc u m n c lines → ⊥
        go (inl x) = not_space c i x.1.1
        go (inr x) = short 47 (omega arith) s.1.0 x.0

    no_comment : Opens u m → ⊥
    no_comment s = go (rw (sort_open u m s) at (view laws u m n c f))
      where
        go : View voc u m n c opens → ⊥
        go (inl (h, closed x e)) = not_space c i e
        go (inl (h, left x y e)) = not_unclosed c i e
        go (inr x) = short 42 (omega arith) s.1.0 x.0

    longer : (e : ℕ) (d : Content) → IsToken d → Form voc u m e d → e ≤ n
    longer e d j x =
        let b = form_bounds u m n c f in
        let g = form_bounds u m e d x in
        ⊎_elim (λ l. absurd (clash (over (omega arith)) (form_solid d j x n (omega arith) l))) (λ l. l) (either n e)

    -- no form there is longer
    pub longest : (e : ℕ) (d : Content) → Form voc u m e d → e ≤ n
    longest e d (blank h b z) = omega (arith, (form_bounds u m n c f).0)
    longest e d (line s a b z) = absurd (no_line s)
    longest e d (comment z) = absurd (no_comment z.opens)
    longest e d (unended s z w) = absurd (no_comment s)
    longest e d (name a b z) = longer e _ tt (name a b z)
    longest e d (number a z) = longer e _ tt (number a z)
    longest e d (based {base = base} s a z) = longer e _ tt (based {base = base} s a z)
    longest e d (float {m = k} a b z p l h g) = longer e _ (float_token (e - m)) (float {m = k} a b z p l h g)
    longest e d (mark {k = k} a z) = longer e _ tt (mark {k = k} a z)

  -- so the bytes of a token are that token wherever they stand alone
  pub alone : {t : List ℕ} {p q : ℕ} {u : List ℕ} {m n : ℕ} (k v : ℕ) → Form voc t p q (token k v) → Copied t p q u m n → Over u n
      → Piece voc u m n (token k v)
  alone k v f w over =
      let g = form_copied (token k v) tt w over f in
      record { form = g; longest = longest (token k v) tt g over }
