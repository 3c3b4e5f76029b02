-- Spellings compared byte for byte: with bytes that are given, and with other bytes of the text; and the first token that is spelled so.
use borrow.Author.Tests.{eq-eqb, ne_eqb, lt-ltb, le-ltb}
use lib.Dec.{eqb}
use lib.ListN.{length, get_or, take, drop}
use lib.Seq.{slice, length-slice, take-length, drop-cons, drop-length, get_or-take, get_or-drop}
use mathlib.Core.Bool.{Bool, true, false, ◌&&◌}
use mathlib.Core.List.{List, [], ◌∷◌}
use mathlib.Core.Logic.{⊎_elim}
use mathlib.Core.Path.{◌≡◌, refl, sym, ◌∙◌, ap, subst, subst₂}
use native.Mathlib.Nat.{add-zero}
use native.Mathlib.Numerals.{add-one}
use native.Mathlib.Omega.{arith}
use Prim.Native.Nat.{min, ℕ, suc, ◌+◌, ◌-◌, ◌≤◌, ◌<◌}
use Rattle.language.proofs.Text.Choices.{either, outcome, clash}
use Rattle.language.proofs.Text.Spellings.{stands, stands_yes, stands_no, stands_slice, slice_stands}
use Rattle.language.proofs.Text.Tables.{same_one}
use Rattle.language.specs.Text.{byte}
use Rattle.language.specs.Tokens.{Spelling, same}
use Rattle.layout.proofs.TokenLaws.{same_self}
use Rattle.tokens.proofs.Planting.{none_before, none_alike}
use Rattle.std.specs.Prelude.{Option, Some, None}
use Rattle.tokens.specs.Forks.{letter_at, IsParting, Finds, Sought}
use Rattle.tokens.specs.Found.{bytes_of, First}

-- ---- bytes that are given

-- up to byte i the bytes w agree with those at p, and the rest decides whether they stand there
pub record Agrees (t : List ℕ) (p : ℕ) (w : List ℕ) (i : ℕ) : Type 0 where
  pub within : i ≤ length w
  pub left : stands t p w ≡ stands t (p + i) (drop i w)

-- at first no byte is compared
pub agrees_none : (t : List ℕ) (p : ℕ) (w : List ℕ) → Agrees t p w 0
agrees_none t p w = record { within = omega arith; left = rw (add-zero p) }

module _ {t w : List ℕ} {p i : ℕ} (g : Agrees t p w i) where
  heads : i < length w → stands t p w ≡ (eqb (byte t (p + i)) (get_or w i 0) && stands t (p + i + 1) (drop (suc i) w))
  unfolding stands
  heads h = g.left ∙ rw (drop-cons w i 0 h)

  -- byte i agrees too
  pub agrees_more : {b : ℕ} → i < length w → b ≡ byte t (p + i) → b ≡ get_or w i 0 → Agrees t p w (i + 1)
  agrees_more h e f =
      let x : p + (i + 1) ≡ p + i + 1 = omega arith in
      record { within = omega arith; left = heads h ∙ rw (eq-eqb (byte t (p + i)) (get_or w i 0) (sym e ∙ f), x, add-one i) }

  -- byte i does not agree
  pub agrees_less : {b : ℕ} → i < length w → b ≡ byte t (p + i) → (b ≡ get_or w i 0 → ⊥) → false ≡ stands t p w
  agrees_less h e f = sym (heads h ∙ rw (ne_eqb (byte t (p + i)) (get_or w i 0) (λ x. f (e ∙ x))))

  -- no byte is left
  pub agrees_all : length w ≤ i → true ≡ stands t p w
  unfolding stands
  agrees_all h = let y : i ≡ length w = omega (arith, g.within) in sym (g.left ∙ rw (y, drop-length w))

-- bytes of the right number are a slice exactly if they stand at its beginning
pub stands_same : (t w : List ℕ) (p q : ℕ) → p ≤ q → q ≤ length t → length w ≡ q - p → stands t p w ≡ same w (slice p q t)
stands_same t w p q o l n =
    let z : p + length w ≡ q = omega arith in
    ⊎_elim
    (λ x. let s : slice p q t ≡ w = rw z at (stands_slice t p w (omega arith) (stands_yes t p w x)) in
    x ∙ sym (rw s (same_self w)))
    (λ x. x ∙ ⊎_elim (λ y. absurd (stands_no t p w x (slice_stands t p w q o l (sym (same_one w (slice p q t) y))))) (λ y. sym y)
    (outcome (same w (slice p q t))))
    (outcome (stands t p w))

both_pass : (x y : Bool) → (x ≡ true → y ≡ false) → (x && y) ≡ false
both_pass true y h = h refl
both_pass false y h = refl

same_length : (w s : Spelling) → (length w ≡ length s → ⊥) → same w s ≡ false
unfolding same
same_length [] [] h = absurd (h refl)
same_length [] (b ∷ s) h = refl
same_length (a ∷ w) [] h = refl
same_length (a ∷ w) (b ∷ s) h = both_pass (eqb a b) (same w s) (λ x. same_length w s (λ e. h (ap suc e)))

-- bytes of another number are not
pub length_same : (t w : List ℕ) (p q : ℕ) → q ≤ length t → (length w ≡ q - p → ⊥) → false ≡ same w (slice p q t)
length_same t w p q l n = sym (same_length w (slice p q t) (λ e. n (e ∙ length-slice p q t l)))

-- which of two spellings comes first does not matter
pub same_swap : (s w : Spelling) → same s w ≡ same w s
same_swap s w =
    ⊎_elim (λ x. let e : s ≡ w = same_one s w x in rw e)
    (λ x. ⊎_elim (λ y. let e : w ≡ s = same_one w s y in rw e) (λ y. x ∙ sym y) (outcome (same w s)))
    (outcome (same s w))

-- ---- letters

pub letter_inside : (s : Spelling) (i : ℕ) → i < length s → letter_at s i ≡ get_or s i 0 + 1
unfolding letter_at
letter_inside s i h = rw (lt-ltb i (length s) h)

pub letter_past : (s : Spelling) (i : ℕ) → length s ≤ i → letter_at s i ≡ 0
unfolding letter_at
letter_past s i h = rw (le-ltb i (length s) h)

pub slice_byte : (t : List ℕ) (p q i : ℕ) → i < q - p → get_or (slice p q t) i 0 ≡ byte t (p + i)
slice_byte t p q i h = get_or-drop p (take q t) i 0 ∙ get_or-take q t (p + i) 0 (omega arith)

-- that of bytes of a text
pub letter_none : (t : List ℕ) (p q i : ℕ) → q ≤ length t → q - p ≤ i → 0 ≡ letter_at (slice p q t) i
letter_none t p q i l h = sym (letter_past (slice p q t) i (omega (arith, length-slice p q t l)))

pub letter_some : (t : List ℕ) (p q i : ℕ) → q ≤ length t → i < q - p → {b : ℕ} → b ≡ byte t (p + i) → b + 1 ≡ letter_at (slice p q t) i
letter_some t p q i l h e = sym (letter_inside (slice p q t) i (omega (arith, length-slice p q t l)) ∙ omega (arith, slice_byte t p q i h))

-- ---- other bytes of the text

-- the bytes from a up to b are as many as those from p up to q, and agree with them up to byte i
pub record Alike (t : List ℕ) (a b : ℕ) (u : List ℕ) (p q i : ℕ) : Type 0 where
  pub inside : b ≤ length t
  pub order : p ≤ q
  pub ends : q ≤ length u
  pub many : b - a ≡ q - p
  pub agrees : Agrees u p (slice a b t) i

-- at first no byte is compared
pub alike_none : {t u : List ℕ} {a b p q : ℕ} → b ≤ length t → p ≤ q → q ≤ length u → b - a ≡ q - p → Alike t a b u p q 0
alike_none {t} {u} {a} {b} {p} h o v n =
    record { inside = h; order = o; ends = v; many = n; agrees = agrees_none u p (slice a b t) }

module _ {t u : List ℕ} {a b p q i : ℕ} (g : Alike t a b u p q i) where
  size : length (slice a b t) ≡ b - a
  size = length-slice a b t g.inside

  -- no more bytes are compared than there are
  pub alike_within : i ≤ b - a
  alike_within = omega (arith, size, g.agrees.within)

  first_byte : {x : ℕ} → i < b - a → x ≡ byte t (a + i) → get_or (slice a b t) i 0 ≡ x
  first_byte h e = slice_byte t a b i h ∙ sym e

  settled : {r : Bool} → r ≡ stands u p (slice a b t) → r ≡ same (slice a b t) (slice p q u)
  settled e = e ∙ stands_same u (slice a b t) p q g.order g.ends (size ∙ g.many)

  -- byte i agrees too
  pub alike_more : {x y : ℕ} → i < b - a → x ≡ byte t (a + i) → y ≡ byte u (p + i) → x ≡ y → Alike t a b u p q (i + 1)
  alike_more h e f z =
      let more = agrees_more g.agrees (omega (arith, size)) f (sym (first_byte h e ∙ z)) in
      record { inside = g.inside; order = g.order; ends = g.ends; many = g.many; agrees = more }

  -- byte i does not agree
  pub alike_less : {x y : ℕ} → i < b - a → x ≡ byte t (a + i) → y ≡ byte u (p + i) → (x ≡ y → ⊥) → IsParting (slice a b t) (slice p q u) (Some i)
  alike_less h e f n =
      let l = length-slice p q u g.ends in
      let m = letter_inside (slice a b t) i (omega (arith, size)) in
      let v = letter_inside (slice p q u) i (omega (arith, g.many)) in
      (omega (arith, size), λ z. n (omega (arith, first_byte h e, slice_byte u p q i (omega (arith, g.many)))))

  -- no byte is left
  pub alike_all : b - a ≤ i → same (slice a b t) (slice p q u) ≡ true
  alike_all h = sym (settled (agrees_all g.agrees (omega (arith, size))))

-- the bytes of two lists that are as many, one after the other
abbrev pub Alongside : List ℕ → List ℕ → ℕ → Type 0
Alongside t u i = Alike t 0 (length t) u 0 (length u) i

whole : (t u : List ℕ) (r : Option ℕ) → IsParting (slice 0 (length t) t) (slice 0 (length u) u) r → IsParting t u r
whole t u r p = subst₂ (λ (x y : List ℕ). IsParting x y r) (take-length t) (take-length u) p

module _ {t u : List ℕ} {i : ℕ} (g : Alongside t u i) where
  behind : (l : List ℕ) {x : ℕ} → x ≡ byte l i → x ≡ byte l (0 + i)
  behind l e = let z : i ≡ 0 + i = omega arith in e ∙ ap (byte l) z

  pub whole_more : {x y : ℕ} → i < length t → x ≡ byte t i → y ≡ byte u i → x ≡ y → Alongside t u (i + 1)
  whole_more h e f n = alike_more g (omega arith) (behind t e) (behind u f) n

  pub whole_less : {x y : ℕ} → i < length t → x ≡ byte t i → y ≡ byte u i → (x ≡ y → ⊥) → IsParting t u (Some i)
  whole_less h e f n = whole t u (Some i) (alike_less g (omega arith) (behind t e) (behind u f) n)

  pub whole_all : length t ≤ i → IsParting t u None
  whole_all h = whole t u None (alike_all g (omega arith))

-- there are more bytes of one than of the other
pub fewer : (t : List ℕ) (a b : ℕ) (u : List ℕ) (p q : ℕ) → b ≤ length t → q ≤ length u → b - a < q - p → IsParting (slice a b t) (slice p q u) (Some (b - a))
fewer t a b u p q h l n =
    let x = length-slice a b t h in
    let y = length-slice p q u l in
    let m = letter_past (slice a b t) (b - a) (omega arith) in
    let v = letter_inside (slice p q u) (b - a) (omega arith) in
    (omega arith, λ z. omega arith)

pub further : (t : List ℕ) (a b : ℕ) (u : List ℕ) (p q : ℕ) → b ≤ length t → q ≤ length u → q - p < b - a → IsParting (slice a b t) (slice p q u) (Some (q - p))
further t a b u p q h l n =
    let x = length-slice a b t h in
    let y = length-slice p q u l in
    let m = letter_inside (slice a b t) (q - p) (omega arith) in
    let v = letter_past (slice p q u) (q - p) (omega arith) in
    (omega arith, λ z. omega arith)

-- so the shorter one has no byte where the other's next is
pub parted : (t : List ℕ) (a b : ℕ) (u : List ℕ) (p q : ℕ) {m : ℕ} → b ≤ length t → q ≤ length u → (b - a ≡ q - p → ⊥) → m ≡ min (b - a) (q - p)
    → IsParting (slice a b t) (slice p q u) (Some m)
parted t a b u p q {m} h l n e =
    let Apart = λ (i : ℕ). IsParting (slice a b t) (slice p q u) (Some i) in
    ⊎_elim
    (λ (k : b - a < q - p). let z : b - a ≡ m = omega arith in subst Apart z (fewer t a b u p q h l k))
    (λ (k : q - p ≤ b - a). let z : q - p ≡ m = omega arith in subst Apart z (further t a b u p q h l (omega arith)))
    (either (b - a) (q - p))

-- ---- the tokens of a table

pub unlike : (x s : Spelling) → (x ≡ s → ⊥) → same x s ≡ false
unlike x s h = ⊎_elim (λ e. absurd (h (same_one x s e))) (λ e. e) (outcome (same x s))

module _ {t w : List ℕ} {n : ℕ} {s : Spelling} (g : Sought (bytes_of t w) w n s) {r : ℕ} (f : Finds w s r) (h : r < n) where
  -- the token at the way's end is spelled s
  pub first_found : same (bytes_of t w r) s ≡ true → First t w n s r
  first_found e = record {
    within = omega arith;
    before = λ i l. unlike (bytes_of t w i) s (none_before g f i l (omega arith));
    here = λ l. e;
  }

  -- it is not
  pub first_none : same (bytes_of t w r) s ≡ false → First t w n s n
  first_none e = record {
    within = omega arith;
    before = λ i l. unlike (bytes_of t w i) s (none_alike g f (λ z. clash (same_is z) e) i l);
    here = λ l. absurd (omega arith);
  }
    where
      same_is : bytes_of t w r ≡ s → same (bytes_of t w r) s ≡ true
      same_is z = rw z (same_self s)

pub first_of_all : {t w : List ℕ} {s : Spelling} → First t w 0 s 0
first_of_all = record { within = omega arith; before = λ i l. absurd (omega arith); here = λ l. absurd (omega arith) }
