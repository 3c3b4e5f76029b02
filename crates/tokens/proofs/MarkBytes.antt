-- The mark at a place, found by so many bytes there: the longest marks are looked for first.
use borrow.Author.Tests.{eqb-true, eqb-false, eq-eqb, ne_eqb}
use lib.Dec.{eqb}
use lib.ListN.{length}
use lib.Seq.{slice}
use mathlib.Core.Bool.{Bool, true, false, cond, ◌&&◌}
use mathlib.Core.List.{List, [], ◌∷◌}
use mathlib.Core.Logic.{⊎_elim}
use mathlib.Core.Option.{none, some}
use Rattle.std.specs.Prelude.{Option}
use mathlib.Core.Path.{◌≡◌, refl, sym, ◌∙◌, ap}
use native.Mathlib.Omega.{arith}
use Prim.Native.Nat.{ℕ, zero, suc, ◌+◌, ◌≤◌, ◌<◌}
use Rattle.language.proofs.Text.Choices.{outcome}
use Rattle.language.proofs.Text.Marks.{laws_1}
use Rattle.language.proofs.Text.Pieces.{AtMost, at_most, at_most_less, mark_piece, mark_within, no_form}
use Rattle.language.proofs.Text.Places.{Begins}
use Rattle.language.proofs.Text.Places.Sort.{others}
use Rattle.language.proofs.Text.Spellings.{stands_slice}
use Rattle.language.proofs.Text.Tables.{most}
use Rattle.language.specs.Text.{byte, Stands, Within, Piece}
use Rattle.language.specs.Text.Content.{token}
use Rattle.language.specs.Tokens.{Spelling, spelled, marks, EDITION_1}
use Rattle.std.specs.Bool.{then_some}
use Rattle.tokens.specs.Found.{Gives, Formless}

-- ---- kinds

eqb_swap : (a b : ℕ) → eqb a b ≡ eqb b a
eqb_swap a b =
    ⊎_elim (λ x. x ∙ sym (eq-eqb b a (sym (eqb-true a b x)))) (λ x. x ∙ sym (ne_eqb b a (λ e. eqb-false a b x (sym e))))
    (outcome (eqb a b))

-- the second byte of a mark compared with the one that it wants
pub second : (w k b : ℕ) → Gives (cond (eqb w b && true) (some k) none) (then_some (eqb b w) k)
second w k b = rw (eqb_swap b w) (go (eqb w b))
  where
    go : (x : Bool) → Gives (cond (x && true) (some k) none) (then_some x k)
    go true = refl
    go false = refl

pub second_is : (w k b : ℕ) {a f : ℕ} {r : Option ℕ} → a ≡ f → r ≡ then_some (eqb b w) k
    → spelled marks (f ∷ b ∷ []) ≡ cond (eqb w b && true) (some k) none → Gives (spelled marks (a ∷ b ∷ [])) r
second_is w k b x y z = rw (x, y, z) (second w k b)

-- ---- bytes

-- the n bytes from p on
abbrev pub ahead : List ℕ → ℕ → ℕ → Spelling
ahead t p zero = []
ahead t p (suc n) = byte t p ∷ ahead t (p + 1) n

ahead_stands : (t : List ℕ) (p n : ℕ) → Stands t p (ahead t p n)
ahead_stands t p zero = tt
ahead_stands t p (suc n) = (refl, ahead_stands t (p + 1) n)

ahead_length : (t : List ℕ) (p n : ℕ) → length (ahead t p n) ≡ n
ahead_length t p zero = refl
ahead_length t p (suc n) = ap suc (ahead_length t (p + 1) n)

ahead_slice : (t : List ℕ) (p n : ℕ) → p + n ≤ length t → slice p (p + n) t ≡ ahead t p n
ahead_slice t p n h =
    let l = ahead_length t p n in
    rw l at (stands_slice t p (ahead t p n) (rw l h) (ahead_stands t p n))

-- ---- the longest mark

-- no mark has more than two bytes
pub two_most : (t : List ℕ) (p : ℕ) → AtMost EDITION_1 t p 2
unfolding most
two_most t p = at_most EDITION_1 t p

-- n bytes looked up, with k for their kind, where none of the other forms begins
module _ {t : List ℕ} {p : ℕ} (h : p < length t) (b : Begins t p others) (n : ℕ) where
  -- they are a mark
  pub marked : {k : ℕ} → AtMost EDITION_1 t p n → spelled marks (ahead t p n) ≡ some k → Piece EDITION_1 t p (p + n) (token k 0)
  marked {k} m x =
      let y = mark_within laws_1 t p (ahead t p n) k (omega arith) x (ahead_stands t p n) in
      let w : Within t p (p + n) = rw (ahead_length t p n) at y in
      mark_piece laws_1 t p n k b w (rw (ahead_slice t p n w.inside) x) m

  -- n + 1 of them are none
  pub unmarked : AtMost EDITION_1 t p (n + 1) → spelled marks (ahead t p (n + 1)) ≡ none → AtMost EDITION_1 t p n
  unmarked m x = at_most_less m (λ l. rw (ahead_slice t p (n + 1) l) x)

-- where no byte is one, nothing is there
pub markless : {t : List ℕ} {p : ℕ} → Begins t p others → AtMost EDITION_1 t p 0 → Formless EDITION_1 t p
markless {t} {p} b m = no_form laws_1 t p b m
