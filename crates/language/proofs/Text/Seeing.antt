-- The executable twin of a piece: what stands at a place of a text, found by going through its bytes, and that it is what
-- the definitions say. Proof vocabulary for `Scanner`.
use borrow.Author.Tests.{ltb-true, ltb-false, leb-true, leb-false, eqb-true, eq-eqb}
use lib.Dec.{eqb, ltb, leb}
use lib.ListN.{length}
use lib.Seq.{slice}
use mathlib.Core.Bool.{Bool, true, false, ◌&&◌}
use mathlib.Core.List.{List}
use mathlib.Core.Option.{Option, none, some, none-ne-some}
use mathlib.Core.Path.{◌≡◌, refl, sym, ◌∙◌, subst}
use native.Mathlib.Numerals.{add-one}
use native.Mathlib.Omega.{arith}
use Prim.Native.Nat.{ℕ, zero, suc, ◌+◌, ◌-◌, ◌≤◌, ◌<◌}
use Rattle.language.proofs.Text.Choices.{choose, clash, and_both}
use Rattle.language.proofs.Text.Classes.{digit_of_some}
use Rattle.language.proofs.Text.Comments.{Depth, depth_start, depth_open, depth_close, depth_byte, depth_end, depth_done}
use Rattle.language.proofs.Text.Marks.{Laws}
use Rattle.language.proofs.Text.Pieces.{blank_piece, name_piece, Tells, number_piece, float_piece, based_piece}
use Rattle.language.proofs.Text.Pieces.{line_piece, comment_piece, open_piece}
use Rattle.language.proofs.Text.Pieces.{AtMost, at_most, at_most_less, mark_piece, no_form}
use Rattle.language.proofs.Text.Places.{Sort, Begins}
use Rattle.language.proofs.Text.Places.Sort.{blanks, letters, digits, lines, opens, others}
use Rattle.language.proofs.Text.Runs.{Scanned, Run, scan_none, scan_more, scan_stop, scan_end}
use Rattle.language.proofs.Text.Spellings.{stands, stands_yes, stands_no, byte_inside, two_inside}
use Rattle.language.proofs.Text.Tables.{Table, most}
use Rattle.language.specs.Text.{byte, is_digit, is_digit_of}
use Rattle.language.specs.Text.{is_name_byte, is_in_line, Opens, Comment}
use Rattle.language.specs.Text.{Content, Form, Piece, word_kind, number_from, float_content}
use Rattle.language.specs.Text.Content.{space, unclosed, token}
use Rattle.language.specs.Tokens.{spell, spelled, Vocabulary, NUMBER}

-- ---- the end of a run, of at most n bytes

unfoldable pub run_end : (ℕ → Bool) → List ℕ → ℕ → ℕ → ℕ
run_end f t zero p = p
run_end f t (suc n) p = elim (f (byte t p)) [ true ↦ run_end f t n (p + 1) | false ↦ p ]

run_ends : (f : ℕ → Bool) (t : List ℕ) (n o p : ℕ) → p + n ≡ length t → Scanned f t o p → Run f t o (run_end f t n p)
unfolding run_end
run_ends f t zero o p h s = scan_end s (omega arith)
run_ends f t (suc n) o p h s =
    choose (Run f t o) (f (byte t p)) _ _ (λ e. run_ends f t n o (p + 1) (omega arith) (scan_more s (omega arith) e)) (λ e. scan_stop s e)

unfoldable pub run_from : (ℕ → Bool) → List ℕ → ℕ → ℕ
run_from f t p = run_end f t (length t - p) p

run : (f : ℕ → Bool) (t : List ℕ) (p : ℕ) → p ≤ length t → Run f t p (run_from f t p)
unfolding run_from
run f t p h = run_ends f t (length t - p) p p (omega arith) (scan_none h)

-- ---- the end of a comment, d of which are open at i, found in at most n steps

-- where it ends, if it does
pub data Close : Type 0 where
  at : ℕ → Close
  never : Close

unfoldable pub close_end : List ℕ → ℕ → ℕ → ℕ → Close
close_end t zero zero i = at i
close_end t zero (suc d) i = never
close_end t (suc n) zero i = at i
close_end t (suc n) (suc d) i =
    elim (stands t i (spell "/*")) [
      | true ↦ close_end t n (suc (suc d)) (i + 2)
      | false ↦ elim (stands t i (spell "*/")) [
        | true ↦ close_end t n d (i + 2)
        | false ↦ elim (ltb i (length t)) [ true ↦ close_end t n (suc d) (i + 1) | false ↦ never ]
      ]
    ]

abbrev CloseIs : List ℕ → ℕ → Close → Type 0
CloseIs t p (at q) = Comment t p q
CloseIs t p never = (q : ℕ) → Comment t p q → ⊥

close_ends : (t : List ℕ) (p n d i : ℕ) → length t ≤ i + n → Depth t p d i → CloseIs t p (close_end t n d i)
unfolding close_end
close_ends t p zero zero i h s = depth_done t p i s
close_ends t p zero (suc d) i h s = depth_end t p d i (omega arith) s
close_ends t p (suc n) zero i h s = depth_done t p i s
close_ends t p (suc n) (suc d) i h s =
    choose (CloseIs t p) (stands t i (spell "/*")) _ _
    (λ e. close_ends t p n (suc (suc d)) (i + 2) (omega arith) (depth_open t p d i (stands_yes t i (spell "/*") e) s))
    (λ e. choose (CloseIs t p) (stands t i (spell "*/")) _ _
    (λ f. close_ends t p n d (i + 2) (omega arith) (depth_close t p d i (stands_yes t i (spell "*/") f) s))
    (λ f. choose (CloseIs t p) (ltb i (length t)) _ _
    (λ g. close_ends t p n (suc d) (i + 1) (omega arith)
    (depth_byte t p d i (ltb-true i (length t) g) (stands_no t i (spell "/*") e) (stands_no t i (spell "*/") f) s))
    (λ g. depth_end t p d i (ltb-false i (length t) g) s)))

-- ---- the piece at a place

-- its end and its content, if there is one
pub data Seen : Type 0 where
  seen : ℕ → Content → Seen
  unseen : Seen

-- the mark up to q where these bytes are one, else what is seen of fewer bytes
unfoldable pub mark_or : ℕ → Seen → Option ℕ → Seen
mark_or q s none = s
mark_or q s (some k) = seen q (token k 0)

-- the longest mark of at most n bytes
unfoldable pub mark_seen : Table → List ℕ → ℕ → ℕ → Seen
mark_seen marks t p zero = unseen
mark_seen marks t p (suc n) =
    elim (leb (p + suc n) (length t)) [
      | true ↦ mark_or (p + suc n) (mark_seen marks t p n) (spelled marks (slice p (p + suc n) t))
      | false ↦ mark_seen marks t p n
    ]

unfoldable pub number_seen : ℕ → List ℕ → ℕ → ℕ → Seen
number_seen base t p q = seen q (token NUMBER (number_from base 0 (slice p q t)))

-- digits up to m, and maybe a point
unfoldable pub decimal_seen : (ℕ → Bool) → List ℕ → ℕ → ℕ → Seen
decimal_seen points t p m =
    elim (points (byte t (m + 1)) && eqb (byte t m) 46) [
      | true ↦ (let q = run_from is_digit t (m + 1) in seen q (float_content (q - p)))
      | false ↦ number_seen 10 t p m
    ]

-- the number at p, whose first two bytes tell a base or none
unfoldable pub digits_seen : (ℕ → Bool) → List ℕ → ℕ → Option ℕ → Seen
digits_seen points t p none = decimal_seen points t p (run_from is_digit t p)
digits_seen points t p (some base) =
    elim (is_digit_of base (byte t (p + 2))) [
      | true ↦ number_seen base t (p + 2) (run_from (is_digit_of base) t (p + 2))
      | false ↦ decimal_seen points t p (run_from is_digit t p)
    ]

unfoldable pub comment_seen : List ℕ → Close → Seen
comment_seen t (at q) = seen q space
comment_seen t never = seen (length t) unclosed

module _ (voc : Vocabulary) where
  abbrev pub SeenIs : List ℕ → ℕ → Seen → Type 0
  SeenIs t p (seen q c) = Piece voc t p q c
  SeenIs t p unseen = (q : ℕ) (c : Content) → Form voc t p q c → ⊥

  unfoldable pub name_seen : List ℕ → ℕ → ℕ → Seen
  name_seen t p q = seen q (token (word_kind voc (slice p q t)) 0)

  unfoldable pub piece_of : List ℕ → ℕ → Sort → Seen
  piece_of t p blanks = seen (p + 1) space
  piece_of t p letters = name_seen t p (run_from is_name_byte t p)
  piece_of t p digits = digits_seen voc.points t p (spelled voc.bases (slice p (p + 2) t))
  piece_of t p lines = seen (run_from is_in_line t (p + 2)) space
  piece_of t p opens = comment_seen t (close_end t (length t) 1 (p + 2))
  piece_of t p others = mark_seen voc.marks t p (most voc.marks)

module _ {voc : Vocabulary} (laws : Laws voc) (t : List ℕ) (p : ℕ) (h : p < length t) where
  comment_is : (c : Close) → Opens t p → CloseIs t p c → SeenIs voc t p (comment_seen t c)
  unfolding comment_seen
  comment_is (at q) s x = comment_piece laws t p q x
  comment_is never s x = open_piece laws t p s x

  decimal_is : is_digit (byte t p) ≡ true → ((base : ℕ) → Tells laws t p base → ⊥)
      → SeenIs voc t p (decimal_seen voc.points t p (run_from is_digit t p))
  unfolding decimal_seen number_seen
  decimal_is b n =
      let m = run_from is_digit t p in
      let r = run is_digit t p (omega arith) in
      choose (SeenIs voc t p) (voc.points (byte t (m + 1)) && eqb (byte t m) 46) _ _
      (λ x. let y = and_both (voc.points (byte t (m + 1))) (eqb (byte t m) 46) x in
      let dot = eqb-true (byte t m) 46 y.1 in
      let l = byte_inside t m 46 dot (omega arith) in
      float_piece laws t p m (run_from is_digit t (m + 1)) h b r (y.0, dot) (run is_digit t (m + 1) (omega arith)))
      (λ x. number_piece laws t p m h b n (λ y. clash (rw (y.0, eq-eqb (byte t m) 46 y.1) refl) x) r)

  digits_is : is_digit (byte t p) ≡ true → (o : Option ℕ) → spelled voc.bases (slice p (p + 2) t) ≡ o
      → SeenIs voc t p (digits_seen voc.points t p o)
  unfolding digits_seen number_seen
  digits_is b none e = decimal_is b (λ base x. none-ne-some base (sym e ∙ x.0))
  digits_is b (some base) e =
      choose (SeenIs voc t p) (is_digit_of base (byte t (p + 2))) _ _
      (λ x. let l = byte_inside t (p + 2) (byte t (p + 2)) refl (digit_of_some base (byte t (p + 2)) x) in
      based_piece laws t p base (run_from (is_digit_of base) t (p + 2)) (e, x) (run (is_digit_of base) t (p + 2) (omega arith)))
      (λ x. decimal_is b (λ base' y. let f = y.0 in let z : base' ≡ base = cc in
      clash y.1 (subst (λ n. is_digit_of n (byte t (p + 2)) ≡ false) (sym z) x)))

  mark_or_is : (n : ℕ) (s : Seen) → Begins t p others → AtMost voc t p (n + 1) → p + (n + 1) ≤ length t
      → (AtMost voc t p n → SeenIs voc t p s) → (o : Option ℕ) → spelled voc.marks (slice p (p + (n + 1)) t) ≡ o
      → SeenIs voc t p (mark_or (p + (n + 1)) s o)
  unfolding mark_or
  mark_or_is n s b f l g none e = g (at_most_less f (λ x. e))
  mark_or_is n s b f l g (some k) e = mark_piece laws t p (n + 1) k b (record { some = omega arith; inside = l }) e f

  mark_is : (n : ℕ) → Begins t p others → AtMost voc t p n → SeenIs voc t p (mark_seen voc.marks t p n)
  unfolding mark_seen
  mark_is zero b f = no_form laws t p b f
  mark_is (suc n) b f =
      let z : n + 1 ≡ suc n = add-one n in
      let f' : AtMost voc t p (n + 1) = rw z f in
      choose (SeenIs voc t p) (leb (p + suc n) (length t)) _ _
      (λ x. rw z at (mark_or_is n (mark_seen voc.marks t p n) b f' (omega (arith, leb-true (p + suc n) (length t) x))
      (mark_is n b) (spelled voc.marks (slice p (p + (n + 1)) t)) refl))
      (λ x. mark_is n b (at_most_less f' (λ y. absurd (omega (arith, leb-false (p + suc n) (length t) x)))))

  pub piece_is : (s : Sort) → Begins t p s → SeenIs voc t p (piece_of voc t p s)
  unfolding piece_of name_seen
  piece_is blanks b = blank_piece laws t p h b
  piece_is letters b = name_piece laws t p (run_from is_name_byte t p) h b (run is_name_byte t p (omega arith))
  piece_is digits b = digits_is b (spelled voc.bases (slice p (p + 2) t)) refl
  piece_is lines b =
      line_piece laws t p (run_from is_in_line t (p + 2)) b (run is_in_line t (p + 2) (two_inside t p 47 47 b (omega arith)))
  piece_is opens b =
      comment_is (close_end t (length t) 1 (p + 2)) b (close_ends t p (length t) 1 (p + 2) (omega arith) (depth_start t p b))
  piece_is others b = mark_is (most voc.marks) b (at_most voc t p)
