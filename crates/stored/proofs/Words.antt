-- The words of the next token: what the code finds it to be worth in the table is what the layout says.
use borrow.Author.Tests.{eqb-true, eqb-false}
use lib.Dec.{eqb}
use lib.ListN.{length, get_or}
use lib.Seq.{slice, take-length}
use mathlib.Core.Bool.{Bool, true}
use mathlib.Core.List.{List, [], ◌∷◌, ◌++◌}
use mathlib.Core.Logic.{⊎_elim}
use mathlib.Core.Path.{◌≡◌, refl, sym, ap, ap₂, ◌∙◌}
use native.Mathlib.Nat.{zero-add}
use native.Mathlib.Omega.{arith}
use Prim.Native.Nat.{ℕ, ◌*◌, ◌≤◌, ◌<◌}
use Rattle.language.proofs.Stored.Lines.{one_spelling}
use Rattle.language.proofs.Stored.Lone.{lone_token}
use Rattle.language.proofs.Text.Choices.{outcome, clash}
use Rattle.language.proofs.Text.Marks.{Laws}
use Rattle.language.proofs.Text.Tables.{same_one}
use Rattle.language.specs.Sizes.{TOKENS}
use Rattle.language.specs.Stored.{hex, line, Bytes, GoodLines}
use Rattle.language.specs.Text.{token}
use Rattle.language.specs.Tokens.{Vocabulary, Token, Spelling, same, NAME, FLOAT_NUMBER, past}
use Rattle.language.specs.Trees.{PUTCHAR}
use Rattle.layout.proofs.TokenLaws.{same_self, first_is}
use Rattle.layout.specs.Names.{first_from, name_number, float_bits}
use Rattle.tokens.proofs.Written.{no_value, Halves, name_halves, float_halves, value_halves}
use Rattle.tokens.specs.Answer.{Laid}
use Rattle.tokens.specs.Found.{IsToken}
use Rattle.tokens.specs.Shown.{told}
use Rattle.stored.proofs.Laid.{lone_at, digits_are}
use Rattle.stored.specs.Lines.{LineTo}
use Rattle.stored.specs.Names.{digits_of, First, Numbered, TableWorth}

same_lines : (a b : Spelling) → hex a ≡ hex b → line a ≡ line b
unfolding line
same_lines a b e = ap (λ (l : List ℕ). l ++ (10 ∷ [])) e

-- two that have the same digits are the same
pub one_hex : {a b : Spelling} → Bytes a → Bytes b → hex a ≡ hex b → a ≡ b
one_hex {a} {b} x y e = one_spelling x y (same_lines a b e)

-- lines are the same exactly where what they hold is
pub same_hex : (a b : Spelling) → Bytes a → Bytes b → same (hex a) (hex b) ≡ same a b
same_hex a b x y = ⊎_elim (λ e. let z = same_one a b e in rw z (same_self (hex b) ∙ sym (same_self b)))
    (λ e. ⊎_elim (λ f. absurd (clash (again f) e)) (λ f. f ∙ sym e) (outcome (same (hex a) (hex b))))
    (outcome (same a b))
  where
    again : same (hex a) (hex b) ≡ true → same a b ≡ true
    again f = let z = one_spelling x y (same_lines a b (same_one (hex a) (hex b) f)) in rw z (same_self b)

module _ {voc : Vocabulary} (laws : Laws voc) {t : List ℕ} {n : ℕ} {ts : List Token} {rest : List ℕ} (g : GoodLines voc t n ts rest)
    (w₀ : List ℕ) {w : List ℕ} (room : 4 * length ts ≤ length w₀) (few : length ts ≤ TOKENS) (laid : Laid ts w₀ w) {p q : ℕ} (l : LineTo t p q) where
  abbrev s : Spelling
  s = told (slice p q t)

  alike : (i : ℕ) → i < length ts → {r : Bool} → same (digits_of t w i) (slice p q t) ≡ r → same (get_or ts i past).spelling s ≡ r
  alike i h e =
      sym (same_hex (get_or ts i past).spelling s (lone_at laws g.tokens i h).bytes l.line.bytes)
      ∙ sym (ap₂ same (digits_are laws g w₀ room few laid i h) (sym l.digits)) ∙ e

  first_number : (u : Token) (m : ℕ) → u.spelling ≡ s → First t w (length ts) (slice p q t) m
      → first_from 0 (ts ++ (u ∷ [])) s ≡ m
  first_number u m e f =
      first_is 0 ts u s m f.within
      (λ i h. alike i (omega (arith, f.within)) (f.before i h))
      (λ h. alike m h (f.here h)) (rw e (same_self s))
      ∙ zero-add m

  name_numbered : (u : Token) (m : ℕ) → u.spelling ≡ s → Numbered t w (length ts) p q m → name_number (ts ++ (u ∷ [])) s ≡ m
  unfolding name_number
  name_numbered u m e x =
      ⊎_elim (λ y. rw y (sym (x.putchar y))) (λ y. rw y (first_number u m e (x.first y))) (outcome (same s PUTCHAR))

  small_number : (m : ℕ) → Numbered t w (length ts) p q m → m ≤ TOKENS
  small_number m x = ⊎_elim (λ y. omega (arith, x.putchar y)) (λ y. omega (arith, (x.first y).within)) (outcome (same s PUTCHAR))

  pub words_found : {k x m : ℕ} (y : IsToken voc (told (slice p q t)) 0 k (length (told (slice p q t))) x)
      → TableWorth t w (length ts) k p q x m
      → Halves (ts ++ (lone_token (told (slice p q t)) k y.value ∷ [])) (lone_token (told (slice p q t)) k y.value) m
  words_found {k} {x} {m} y z =
      let u = lone_token s k y.value in
      let us = ts ++ (u ∷ []) in
      ⊎_elim (λ a. let e = eqb-true k NAME a in
      name_halves us u m e (small_number m (z.name e)) (name_numbered u m refl (z.name e)))
      (λ a. let e = eqb-false k NAME a in
      ⊎_elim (λ b. let f = eqb-true k FLOAT_NUMBER b in float_halves us u m f (z.other e ∙ y.float f ∙ ap float_bits (take-length s)))
      (λ b. let f = eqb-false k FLOAT_NUMBER b in
      value_halves us u m e f (no_value s 0 (length s) (token k y.value) y.piece.form k y.value refl) y.small (z.other e ∙ y.other f))
      (outcome (eqb k FLOAT_NUMBER)))
      (outcome (eqb k NAME))
