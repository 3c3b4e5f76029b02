-- The marks that edition 2 adds: both begin with two points, and where these do not stand its marks are those of edition 1.
use borrow.Author.Tests.{lt-leb}
use lib.Dec.{leb}
use lib.ListN.{length}
use lib.Seq.{slice, length-slice}
use mathlib.Core.Bool.{Bool, true, false}
use mathlib.Core.List.{List, [], ◌∷◌}
use mathlib.Core.Logic.{⊎_elim}
use mathlib.Core.Option.{none, some}
use mathlib.Core.Path.{◌≡◌, refl, sym, ◌∙◌, subst}
use native.Mathlib.Omega.{arith}
use Prim.Native.Nat.{ℕ, ◌+◌, ◌≤◌, ◌<◌}
use Rattle.language.proofs.Text.BothEditions.{none_up}
use Rattle.language.proofs.Text.Choices.{outcome}
use Rattle.language.proofs.Text.Marks.{laws_1, laws_2}
use Rattle.language.proofs.Text.Pieces.{AtMost, at_most, at_most_less, mark_piece, mark_within}
use Rattle.language.proofs.Text.Places.{Begins, Marked, view, sort_other}
use Rattle.language.proofs.Text.Places.Sort.{others}
use Rattle.language.proofs.Text.Spellings.{stands, stands_yes, stands_no, no_stands, stands_slice, slice_stands}
use Rattle.language.proofs.Text.Tables.{every, most, same_one, no_kind}
use Rattle.language.specs.Text.{byte, between, is_blank, is_letter, is_digit, Stands, Form, Piece}
use Rattle.language.specs.Text.Content.{token}
use Rattle.language.specs.Text.Form.{mark}
use Rattle.language.specs.Tokens.{Spelling, spell, same, spelled, marks, EDITION_1, EDITION_2, SLASH, UPTO, THROUGH}
use Rattle.language.specs.Tokens.Entry.{◌is◌}
use Rattle.tokens.proofs.Compared.{stands_same}
use Rattle.tokens.proofs.MarkBytes.{ahead, two_most, marked, unmarked, markless}
use Rattle.tokens.specs.Editions.{meant}
use Rattle.tokens.specs.Found.{Formless, IsMark}
use Rattle.tokens.specs.declared.edition.Edition.{Edition}
use Rattle.tokens.specs.declared.edition.Edition.TheVariants.{One, Two}
use Rattle.tokens.specs.declared.marks.Mark.{Mark}
use Rattle.std.specs.Prelude.{Option, Some, None}

-- no mark has more than three bytes
three_most : (t : List ℕ) (p : ℕ) → AtMost EDITION_2 t p 3
unfolding most
three_most t p = at_most EDITION_2 t p

-- and all but one have fewer
short : Spelling → Bool
short s = leb (length s) 2

no_three : (t : List ℕ) (p : ℕ) → stands t p (spell "..=") ≡ false → p + 3 ≤ length t → spelled EDITION_2.marks (slice p (p + 3) t) ≡ none
unfolding spelled every short
no_three t p n l =
    let s = slice p (p + 3) t in
    let z : same (spell "..=") s ≡ false = sym (stands_same t (spell "..=") p (p + 3) (omega arith) l (omega arith)) ∙ n in
    rw z (no_kind short (".." is UPTO ∷ marks) s refl (lt-leb (length s) 2 (omega (arith, length-slice p (p + 3) t l))))

-- where no blank, name, number or comment begins
module _ (t : List ℕ) (p : ℕ) (h : p < length t) (b : Begins t p others) where
  stood : (s : Spelling) (k : ℕ) → spelled EDITION_2.marks s ≡ some k → Stands t p s → AtMost EDITION_2 t p (length s)
      → Piece EDITION_2 t p (p + length s) (token k 0)
  stood s k e x m =
      let w = mark_within laws_2 t p s k (omega arith) e x in
      mark_piece laws_2 t p (length s) k b w (rw (stands_slice t p s w.inside x) e) m

  -- `..=`
  pub through : stands t p (spell "..=") ≡ true → Piece EDITION_2 t p (p + 3) (token THROUGH 0)
  unfolding spelled same
  through e = stood (spell "..=") THROUGH refl (stands_yes t p (spell "..=") e) (three_most t p)

  -- `..` alone
  pub upto : stands t p (spell "..=") ≡ false → stands t p (spell "..") ≡ true → Piece EDITION_2 t p (p + 2) (token UPTO 0)
  unfolding spelled same
  upto n e = stood (spell "..") UPTO refl (stands_yes t p (spell "..") e) (at_most_less (three_most t p) (no_three t p n))

  -- neither
  module _ (clear : stands t p (spell "..") ≡ false) where
    unlike : {q : ℕ} (s : Spelling) → p ≤ q → q ≤ length t → same (46 ∷ 46 ∷ s) (slice p q t) ≡ false
    unlike {q} s o l =
        ⊎_elim
        (λ x. let z = slice_stands t p (46 ∷ 46 ∷ s) q o l (sym (same_one (46 ∷ 46 ∷ s) (slice p q t) x)) in
        absurd (stands_no t p (spell "..") clear (z.0, (z.1.0, tt))))
        (λ x. x) (outcome (same (46 ∷ 46 ∷ s) (slice p q t)))

    kept : {q : ℕ} → p < q → q ≤ length t → spelled EDITION_2.marks (slice p q t) ≡ spelled marks (slice p q t)
    unfolding spelled
    kept o l = rw (unlike (61 ∷ []) (omega arith) l, unlike [] (omega arith) l)

    mark_kept : {q k : ℕ} → Piece EDITION_1 t p q (token k 0) → Piece EDITION_2 t p q (token k 0)
    mark_kept {q} {k} x =
        let z = sort_other t p b.0 b.1 b.2 in
        let m : Marked EDITION_1 t p q (token k 0) = rw z at (view laws_1 t p q (token k 0) x.form) in
        record {
          form =
              subst (Form EDITION_2 t p q) (sym m.comes)
              (mark {k = m.kind} (record { some = m.some; inside = m.within }) (kept m.some m.within ∙ m.spells));
          longest = λ e d y.
              let u : Marked EDITION_2 t p e d = rw z at (view laws_2 t p e d y) in
              x.longest e _ (mark {k = u.kind} (record { some = u.some; inside = u.within }) (sym (kept u.some u.within) ∙ u.spells));
        }

    -- the marks of edition 1 are those of edition 2
    pub as_before : (r : Option Mark) → IsMark EDITION_1 t p r → IsMark EDITION_2 t p r
    as_before (Some m) x = mark_kept x
    as_before None x = none_up t x (λ z. stands_no t p (spell "..") clear (z.0, (z.1, tt)))

  -- where no point stands they are those of every edition
  pub in_either : (byte t p ≡ 46 → ⊥) → (e : Edition) (r : Option Mark) → IsMark EDITION_1 t p r → IsMark (meant e) t p r
  in_either n One r x = x
  in_either n Two r x = as_before (no_stands t p (spell "..") (λ s. n s.0)) r x

-- ---- marks that are told by one byte

-- a slash that begins no comment begins a mark
pub slash_plain : (t : List ℕ) (p : ℕ) → byte t p ≡ 47 → (byte t (p + 1) ≡ 47 → ⊥) → (byte t (p + 1) ≡ 42 → ⊥) → Begins t p others
unfolding is_blank is_letter is_digit between
slash_plain t p e m n = (record { blank = rw e; letter = rw e; digit = rw e }, λ x. m x.1.0, λ x. n x.1.0)

module _ {t : List ℕ} {p : ℕ} (h : p < length t) (b : Begins t p others) where
  -- no mark of edition 1 begins with a point
  pub point_alone : byte t p ≡ 46 → Formless EDITION_1 t p
  unfolding spelled same
  point_alone e =
      let two : spelled marks (ahead t p 2) ≡ none = rw e in
      let one : spelled marks (ahead t p 1) ≡ none = rw e in
      markless b (unmarked h b 0 (unmarked h b 1 (two_most t p) two) one)

  -- and only one with a slash
  pub slash_mark : byte t p ≡ 47 → (e : Edition) → Piece (meant e) t p (p + 1) (token SLASH 0)
  unfolding spelled same
  slash_mark e =
      let two : spelled marks (ahead t p 2) ≡ none = rw e in
      let one : spelled marks (ahead t p 1) ≡ some SLASH = rw e in
      let piece = marked h b 1 (unmarked h b 1 (two_most t p) two) one in
      λ ed. in_either t p h b (λ z. omega (arith, e, z)) ed (Some (record { kind = SLASH; size = 1 })) piece
