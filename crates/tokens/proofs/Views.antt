-- The text that a view shows: how long it may be, and where its bytes come from.
use borrow.Author.Tests.{lt-ltb, le-ltb, le-leb, lt-leb}
use lib.Dec.{ltb, leb}
use lib.ListN.{length, drop, take, length-drop}
use lib.Seq.{slice, length-slice, take_all, get_or-take, get_or-drop}
use mathlib.Core.Bool.{true}
use mathlib.Core.List.{List, [], ◌∷◌}
use mathlib.Core.Logic.{⊎_elim}
use mathlib.Core.Path.{◌≡◌, refl, sym, ap, ap₂, ◌∙◌}
use native.Mathlib.Omega.{arith}
use Prim.Native.Nat.{min, ℕ, zero, suc, ◌+◌, ◌-◌, ◌*◌, ◌/◌, ◌≤◌, ◌<◌}
use Rattle.language.proofs.Pairs.Joined.{joined_length}
use Rattle.language.proofs.Text.Choices.{either}
use Rattle.language.specs.Pairs.{joined}
use Rattle.language.specs.Text.{byte}
use Rattle.tokens.specs.Shown.{two, told, shown, text_of}
use Rattle.tokens.specs.declared.view.Text as text
use Rattle.tokens.specs.declared.view.View as view
use Rattle.tokens.specs.declared.view.View.TheVariants.{Plain, Joined, Line}

-- ---- lines of digits

pub told_long : (l : List ℕ) → length (told l) ≡ length l / 2
unfolding told
told_long [] = omega arith
told_long (d ∷ []) = omega arith
told_long (d ∷ e ∷ l) = omega (arith, told_long l)

pub byte_told : (l : List ℕ) (i : ℕ) → i < length l / 2 → byte (told l) i ≡ two (byte l (i * 2)) (byte l (i * 2 + 1))
unfolding told
byte_told [] i h = absurd (omega arith)
byte_told (d ∷ []) i h = absurd (omega arith)
byte_told (d ∷ e ∷ l) zero h = refl
byte_told (d ∷ e ∷ l) (suc i) h =
    let x : suc (suc (i * 2)) ≡ suc i * 2 = omega arith in
    let y : suc (suc (i * 2 + 1)) ≡ suc i * 2 + 1 = omega arith in
    byte_told l i (omega arith) ∙ ap₂ (λ (m n : ℕ). two (byte (d ∷ e ∷ l) m) (byte (d ∷ e ∷ l) n)) x y

-- the digits between two places that lie in the sheet, and those up to its end
pub line_inside : (t : List ℕ) (from to : ℕ) → to ≤ length t → length (told (slice from to t)) ≡ (to - from) / 2
line_inside t from to h = told_long (slice from to t) ∙ ap (λ (n : ℕ). n / 2) (length-slice from to t h)

pub line_past : (t : List ℕ) (from to : ℕ) → length t < to → length (told (slice from to t)) ≡ (length t - from) / 2
line_past t from to h =
    ap (λ (l : List ℕ). length (told (drop from l))) (take_all to t (omega arith) ∙ sym (take_all (length t) t (omega arith)))
    ∙ line_inside t from (length t) (omega arith)

pub line_length : (t : List ℕ) (from to : ℕ) → length (told (slice from to t)) ≡ (min to (length t) - from) / 2
line_length t from to =
    ⊎_elim (λ (h : length t < to). line_past t from to h ∙ ap (λ (n : ℕ). (n - from) / 2) (omega arith))
    (λ (h : to ≤ length t). line_inside t from to h ∙ ap (λ (n : ℕ). (n - from) / 2) (omega arith)) (either (length t) to)

-- a part is no longer than what lies between its places, nor than what is left of the sheet
slice_long : (t : List ℕ) (from to : ℕ) → (length (slice from to t) ≤ to - from) × (length (slice from to t) ≤ length t - from)
slice_long t from to = ⊎_elim (λ h. let z = length-slice from to t (omega arith) in (omega arith, omega arith))
    (λ h. let z = ap (λ (l : List ℕ). length (drop from l)) (take_all to t h) ∙ length-drop from t in (omega arith, omega arith))
    (either to (length t))

-- a byte of the n that the line has is told by two digits of the sheet
module _ (t : List ℕ) (from to i : ℕ) {n : ℕ} (e : n ≡ length (told (slice from to t))) (h : i < n) where
  pub line_digits : from + i * 2 + 1 < length t
  line_digits = omega (arith, (slice_long t from to).1, told_long (slice from to t))

  digit : (j : ℕ) → from + j < to → byte (slice from to t) j ≡ byte t (from + j)
  digit j k = get_or-drop from (take to t) j 0 ∙ get_or-take to t (from + j) 0 k

  pub line_byte : byte (told (slice from to t)) i ≡ two (byte t (from + i * 2)) (byte t (from + i * 2 + 1))
  line_byte =
      let l = slice from to t in
      let few = slice_long t from to in
      let many = told_long l in
      let x : from + (i * 2 + 1) ≡ from + i * 2 + 1 = omega arith in
      byte_told l i (omega arith) ∙ ap₂ two (digit (i * 2) (omega arith)) (digit (i * 2 + 1) (omega arith) ∙ ap (byte t) x)

-- ---- any view

-- no longer than both sheets and a byte between them
pub shown_long : (first second : List ℕ) (v : view.View) → length (shown first second v) ≤ length first + 1 + length second
shown_long first second Plain = omega arith
shown_long first second Joined = omega (arith, joined_length first second)
shown_long first second (Line from to) =
    omega (arith, told_long (slice from to first), (slice_long first from to).1)

pub text_long : (t : text.Text) → length (text_of t) ≤ length t.first.now + 1 + length t.second.now
text_long t = shown_long t.first.now t.second.now t.view

-- ---- two sheets against a limit, of which no sum is made

module _ (first second : List ℕ) (most : ℕ) where
  pub first_longer : most < length first → true ≡ ltb most (length (joined first second))
  first_longer h = sym (lt-ltb most (length (joined first second)) (omega (arith, joined_length first second)))

  -- what the first leaves of the limit is no more than the second has
  pub both_longer : length first ≤ most → leb (most - length first) (length second) ≡ ltb most (length (joined first second))
  both_longer h =
      let z = joined_length first second in
      let n = length (joined first second) in
      ⊎_elim (λ l. lt-leb (most - length first) (length second) l ∙ sym (le-ltb most n (omega arith)))
      (λ l. le-leb (most - length first) (length second) l ∙ sym (lt-ltb most n (omega arith)))
      (either (length second) (most - length first))
