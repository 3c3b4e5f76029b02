-- What stands at a place of a text by the two editions: the same, but for the words and marks of counted loops (R12.3).
use borrow.Author.Tests.{eqb-true}
use lib.Dec.{eqb}
use lib.ListN.{length}
use lib.Seq.{slice}
use mathlib.Core.Bool.{Bool, true, false, cond, false≢true}
use mathlib.Core.List.{List, [], ◌∷◌}
use mathlib.Core.Logic.{⊎_elim, ◌⊎◌, inl, inr}
use mathlib.Core.Option.{none, some, none-ne-some}
use mathlib.Core.Path.{◌≡◌, refl, sym, ◌∙◌, ap, subst}
use native.Mathlib.Nat.{le_refl}
use native.Mathlib.Omega.{arith}
use Prim.Native.Nat.{ℕ, ◌+◌, ◌-◌, ◌≤◌, ◌<◌}
use Prim.Native.String.{String}
use Rattle.language.proofs.Text.Choices.{outcome, clash, either}
use Rattle.language.proofs.Text.Classes.{letter_not_digit, point_no_digit, point_no_letter}
use Rattle.language.proofs.Text.Marks.{laws_1, laws_2, base_shape}
use Rattle.language.proofs.Text.Pieces.{Tells, number_piece}
use Rattle.language.proofs.Text.Points.{pointless, no_form, ends_at_point}
use Rattle.language.proofs.Text.Spellings.{byte_inside, slice_stands}
use Rattle.language.proofs.Text.Tables.{every, same_one}
use Rattle.language.specs.Text.{byte, Each, between, is_digit, Content, Form, Piece, Within, word_kind, number_from, float_content}
use Rattle.language.specs.Text.Content.{token}
use Rattle.language.specs.Text.Form.{blank, line, comment, unended, name, number, based, float, mark}
use Rattle.language.specs.Tokens.{Spelling, spell, same, spelled, EDITION_1, EDITION_2, marks, NAME, NUMBER, FOR, BY, UPTO, THROUGH}

-- ---- the words

-- what is spelled s comes to c in edition 1 and to d in edition 2: to the same, or to a name and to a new word
pub data Kin (s : Spelling) (c d : Content) : Type 0 where
  alike : d ≡ c → Kin s c d
  for_word : s ≡ spell "for" → c ≡ token NAME 0 → d ≡ token FOR 0 → Kin s c d
  by_word : s ≡ spell "by" → c ≡ token NAME 0 → d ≡ token BY 0 → Kin s c d

name_kin : (s : Spelling) → Kin s (token (word_kind EDITION_1 s) 0) (token (word_kind EDITION_2 s) 0)
unfolding word_kind spelled same
name_kin s = by (same (spell "for") s) (same (spell "by") s) refl refl
  where
    by : (x y : Bool) → same (spell "for") s ≡ x → same (spell "by") s ≡ y
        → Kin s (token (word_kind EDITION_1 s) 0) (token (word_kind EDITION_2 s) 0)
    by true y e f =
        let z = same_one (spell "for") s e in
        for_word (sym z) (subst (λ (s : Spelling). token (word_kind EDITION_1 s) 0 ≡ token NAME 0) z refl)
        (subst (λ (s : Spelling). token (word_kind EDITION_2 s) 0 ≡ token FOR 0) z refl)
    by false true e f =
        let z = same_one (spell "by") s f in
        by_word (sym z) (subst (λ (s : Spelling). token (word_kind EDITION_1 s) 0 ≡ token NAME 0) z refl)
        (subst (λ (s : Spelling). token (word_kind EDITION_2 s) 0 ≡ token BY 0) z refl)
    by false false e f = alike (rw (e, f))

-- ---- the marks

-- a mark of edition 2 is one of edition 1, or begins with two points
mark_either : (s : Spelling) (k : ℕ) → spelled EDITION_2.marks s ≡ some k
    → (spelled marks s ≡ some k) ⊎ (((s ≡ spell "..=") × (k ≡ THROUGH)) ⊎ ((s ≡ spell "..") × (k ≡ UPTO)))
unfolding spelled
mark_either s k e = by (same (spell "..=") s) (same (spell "..") s) refl refl e
  where
    by : (x y : Bool) → same (spell "..=") s ≡ x → same (spell "..") s ≡ y → cond x (some THROUGH) (cond y (some UPTO) (spelled marks s)) ≡ some k
        → (spelled marks s ≡ some k) ⊎ (((s ≡ spell "..=") × (k ≡ THROUGH)) ⊎ ((s ≡ spell "..") × (k ≡ UPTO)))
    by true y f g e = inr (inl (sym (same_one (spell "..=") s f), cc))
    by false true f g e = inr (inr (sym (same_one (spell "..") s g), cc))
    by false false f g e = inl e

-- those of edition 1 are marks of edition 2
mark_still : (s : Spelling) (k : ℕ) → spelled marks s ≡ some k → spelled EDITION_2.marks s ≡ some k
unfolding spelled same
mark_still s k e = rw (other "..=" refl, other ".." refl) e
  where
    other : (w : String) → spelled marks (spell w) ≡ none → same (spell w) s ≡ false
    other w n = ⊎_elim (λ x. absurd (none-ne-some k (sym n ∙ subst (λ (s : Spelling). spelled marks s ≡ some k) (sym (same_one (spell w) s x)) e)))
        (λ x. x) (outcome (same (spell w) s))

-- ---- forms and pieces

module _ (t : List ℕ) where
  -- two points stand side by side at m
  abbrev pub Pair : ℕ → Type 0
  Pair m = (byte t m ≡ 46) × (byte t (m + 1) ≡ 46)

  -- a number up to a point with another one behind it: in edition 1 the point is its last byte, in edition 2 it is not in it
  record Caught (p q : ℕ) : Type 0 where
    point : ℕ
    some : Within t p point
    digits : Each is_digit t p point
    pair : Pair point
    ends : q ≡ point + 1

  abbrev Raised : ℕ → ℕ → Content → Type 0
  Raised p q c = (d : Content) × Form EDITION_2 t p q d × Kin (slice p q t) c d

  float_up : {p q m : ℕ} → Within t p m → Each is_digit t p m → byte t m ≡ 46 → m < q → q ≤ length t → Each is_digit t (m + 1) q
      → Raised p q (float_content (q - p)) ⊎ Caught p q
  float_up {p} {q} {m} w e b l h g = by (eqb (byte t (m + 1)) 46) refl
    where
      by : (x : Bool) → eqb (byte t (m + 1)) 46 ≡ x → Raised p q (float_content (q - p)) ⊎ Caught p q
      by false x = inl (_, float {m = m} (rw x) w e b l h g, alike refl)
      by true x =
          let y = eqb-true (byte t (m + 1)) 46 x in
          let z : q ≡ m + 1 = ⊎_elim (λ u. absurd (point_no_digit (byte t (m + 1)) y (g (m + 1) u (le_refl (m + 1))))) (λ u. omega arith) (either (m + 1) q) in
          inr record { point = m; some = w; digits = e; pair = (b, y); ends = z }

  -- a form by edition 1 is one by edition 2
  form_up : {p q : ℕ} {c : Content} → Form EDITION_1 t p q c → Raised p q c ⊎ Caught p q
  form_up (blank h b e) = inl (_, blank h b e, alike refl)
  form_up (line s a b e) = inl (_, line s a b e, alike refl)
  form_up (comment d) = inl (_, comment d, alike refl)
  form_up (unended s n e) = inl (_, unended s n e, alike refl)
  form_up {p} {q} (name w l e) = inl (_, name w l e, name_kin (slice p q t))
  form_up (number w e) = inl (_, number w e, alike refl)
  form_up (based {base = base} s w e) = inl (_, based {base = base} s w e, alike refl)
  form_up (float h w e b l k g) = float_up w e b l k g
  form_up {p} {q} (mark {k = k} w e) = inl (_, mark {k = k} w (mark_still (slice p q t) k e), alike refl)

  -- where a mark begins with two points they stand there
  pair_stands : {p q : ℕ} (s : Spelling) → Within t p q → slice p q t ≡ 46 ∷ 46 ∷ s → Pair p
  pair_stands {p} {q} s w e =
      let z = slice_stands t p (46 ∷ 46 ∷ s) q (omega (arith, w.some)) w.inside e in
      (z.0, z.1.0)

  abbrev Lowered : ℕ → ℕ → Content → Type 0
  Lowered p q d = (c : Content) × Form EDITION_1 t p q c × Kin (slice p q t) c d

  -- one of the two new marks stands there
  abbrev pub NewMark : ℕ → Content → Type 0
  NewMark p d = Pair p × ((d ≡ token UPTO 0) ⊎ (d ≡ token THROUGH 0))

  -- and a form by edition 2 is one by edition 1, but for such a mark
  form_down : {p q : ℕ} {d : Content} → Form EDITION_2 t p q d → Lowered p q d ⊎ NewMark p d
  form_down (blank h b e) = inl (_, blank h b e, alike refl)
  form_down (line s a b e) = inl (_, line s a b e, alike refl)
  form_down (comment d) = inl (_, comment d, alike refl)
  form_down (unended s n e) = inl (_, unended s n e, alike refl)
  form_down {p} {q} (name w l e) = inl (_, name w l e, name_kin (slice p q t))
  form_down (number w e) = inl (_, number w e, alike refl)
  form_down (based {base = base} s w e) = inl (_, based {base = base} s w e, alike refl)
  form_down (float {m = m} h w e b l k g) = inl (_, float {m = m} refl w e b l k g, alike refl)
  form_down {p} {q} (mark {k = k} w e) = by (mark_either (slice p q t) k e)
    where
      by : (spelled marks (slice p q t) ≡ some k) ⊎ (((slice p q t ≡ spell "..=") × (k ≡ THROUGH)) ⊎ ((slice p q t ≡ spell "..") × (k ≡ UPTO)))
          → Lowered p q (token k 0) ⊎ NewMark p (token k 0)
      by (inl x) = inl (_, mark {k = k} w x, alike refl)
      by (inr (inl (x, y))) = inr (pair_stands (61 ∷ []) w x, inr (ap (λ (k : ℕ). token k 0) y))
      by (inr (inr (x, y))) = inr (pair_stands [] w x, inl (ap (λ (k : ℕ). token k 0) y))

  -- at a point edition 1 has no form
  pub no_point : {p q : ℕ} {c : Content} → Form EDITION_1 t p q c → byte t p ≡ 46 → ⊥
  unfolding every pointless
  no_point f b = no_form laws_1 t refl b f

  -- a piece by edition 1 is one by edition 2, unless it ends between two points
  pub piece_up : {p q : ℕ} {c : Content} → ((m : ℕ) → m + 1 ≡ q → Pair m → ⊥) → Piece EDITION_1 t p q c
      → (d : Content) × Piece EDITION_2 t p q d × Kin (slice p q t) c d
  piece_up {p} {q} {c} clear x = by (form_up x.form)
    where
      down : (e : ℕ) {d : Content} → Lowered p e d ⊎ NewMark p d → e ≤ q
      down e (inl (c, f, k)) = x.longest e c f
      down e (inr (z, n)) = absurd (no_point x.form z.0)

      by : Raised p q c ⊎ Caught p q → (d : Content) × Piece EDITION_2 t p q d × Kin (slice p q t) c d
      by (inl (d, f, k)) = (d, record { form = f; longest = λ e d y. down e (form_down y) }, k)
      by (inr z) = absurd (clear z.point (sym z.ends) z.pair)

  -- a piece by edition 2 is one by edition 1, unless it begins or ends where two points stand
  pub piece_down : {p q : ℕ} {d : Content} → (Pair p → ⊥) → (Pair q → ⊥) → Piece EDITION_2 t p q d
      → (c : Content) × Piece EDITION_1 t p q c × Kin (slice p q t) c d
  piece_down {p} {q} {d} clear ahead x = by (form_down x.form)
    where
      up : (e : ℕ) {c : Content} → Raised p e c ⊎ Caught p e → e ≤ q
      up e (inl (d, f, k)) = x.longest e d f
      up e (inr z) =
          let y = z.pair.1 in
          let w = ends_at_point laws_2 t x z.some z.digits z.pair.0 (rw y) in
          absurd (ahead (subst Pair (sym w) z.pair))

      by : Lowered p q d ⊎ NewMark p d → (c : Content) × Piece EDITION_1 t p q c × Kin (slice p q t) c d
      by (inl (c, f, k)) = (c, record { form = f; longest = λ e c y. up e (form_up y) }, k)
      by (inr (z, n)) = absurd (clear z)

  -- at a point edition 2 has one of the new marks or nothing
  pub at_points : {p q : ℕ} {d : Content} → Form EDITION_2 t p q d → byte t p ≡ 46 → NewMark p d
  at_points {p} {q} {d} f b = by (form_down f)
    where
      by : Lowered p q d ⊎ NewMark p d → NewMark p d
      by (inl (c, g, k)) = absurd (no_point g b)
      by (inr z) = z

  -- so where edition 1 has no form and no two points stand, edition 2 has none
  pub none_up : {p : ℕ} → ((q : ℕ) (c : Content) → Form EDITION_1 t p q c → ⊥) → (Pair p → ⊥) → (q : ℕ) (d : Content) → Form EDITION_2 t p q d → ⊥
  none_up {p} n clear q d f = by (form_down f)
    where
      by : Lowered p q d ⊎ NewMark p d → ⊥
      by (inl (c, g, k)) = n q c g
      by (inr z) = clear z.0

  -- R12.4: digits before two points are an int
  pub int_before : {p m : ℕ} → Within t p m → Each is_digit t p m → Pair m → Piece EDITION_2 t p m (token NUMBER (number_from 10 0 (slice p m t)))
  unfolding is_digit between
  int_before {p} {m} w e z =
      number_piece laws_2 t p m (omega (arith, w.some, w.inside)) (e p w.some (le_refl p)) no_base (λ y. false≢true (rw z.1 at y.0))
      (record { order = omega (arith, w.some); within = w.inside; each = e; stop = λ l. rw z.0 refl })
    where
      there : m + 1 < length t
      there = byte_inside t (m + 1) 46 z.1 (omega arith)

      no_base : (base : ℕ) → Tells laws_2 t p base → ⊥
      no_base base y =
          let x = base_shape laws_2 t p base (omega (arith, there, w.some)) y.0 in
          ⊎_elim (λ u. clash (e (p + 1) u (omega arith)) (letter_not_digit (byte t (p + 1)) x.1))
          (λ u. let f : m ≡ p + 1 = omega (arith, w.some) in point_no_letter (byte t (p + 1)) (subst (λ n. byte t n ≡ 46) f z.0) x.1)
          (either (p + 1) m)
