-- Where a place of the joined text falls, case by case (R07.3, R07.4): on a byte of the first sheet; on the LF between them,
-- which is the end of the first; on a byte of the second; on the end. At an end the empty part is shown.
use lib.Dec.{eqb}
use lib.ListN.{length}
use mathlib.Core.Bool.{cond}
use mathlib.Core.List.{List}
use mathlib.Core.Logic.{⊎_elim}
use mathlib.Core.Path.{◌≡◌, refl, ◌∙◌, ap}
use borrow.Author.Tests.{lt-ltb, le-ltb, le-leb, lt-leb}
use native.Mathlib.Nat.{le_refl}
use native.Mathlib.Omega.{arith}
use Prim.Native.Nat.{ℕ, suc, ◌+◌, ◌-◌, ◌≤◌, ◌<◌}
use Rattle.language.specs.Pairs.{joined, line_begin, line_end, Place, in_sheet, place_of, front}
use Rattle.language.proofs.Pairs.Joined.{joined_length}
use Rattle.language.proofs.Pairs.Lines.{line_is}
use Rattle.language.proofs.Text.Choices.{either}

-- the line around byte p, and the empty part at p
abbrev pub line_at : ℕ → List ℕ → ℕ → Place
line_at n sheet p = record { sheet = n; at = p; begins = line_begin sheet p; ends = line_end sheet p }

abbrev pub end_at : ℕ → ℕ → Place
end_at n p = record { sheet = n; at = p; begins = p; ends = p }

module _ (n : ℕ) (sheet : List ℕ) (p : ℕ) where
  pub sheet_line : p < length sheet → in_sheet n sheet p ≡ line_at n sheet p
  unfolding in_sheet
  sheet_line h = rw (lt-ltb p (length sheet) h)

  pub sheet_end : length sheet ≤ p → in_sheet n sheet p ≡ end_at n p
  unfolding in_sheet
  sheet_end h = rw (le-ltb p (length sheet) h)

module _ (first second : List ℕ) where
  pub place_first : (p : ℕ) → p ≤ length first → place_of first second p ≡ in_sheet 1 first p
  unfolding place_of
  place_first p h = rw (le-leb p (length first) h)

  pub place_second : (p : ℕ) → length first < p → place_of first second p ≡ in_sheet 2 second (p - suc (length first))
  unfolding place_of
  place_second p h = rw (lt-leb p (length first) h)

  -- a byte of the first
  pub in_first : (p : ℕ) → p < length first → place_of first second p ≡ line_at 1 first p
  in_first p h = place_first p (omega arith) ∙ sheet_line 1 first p h

  -- the LF between them
  pub at_feed : place_of first second (length first) ≡ end_at 1 (length first)
  at_feed = place_first (length first) (le_refl (length first)) ∙ sheet_end 1 first (length first) (le_refl (length first))

  -- a byte of the second
  pub in_second : (k : ℕ) → k < length second → place_of first second (length first + 1 + k) ≡ line_at 2 second k
  in_second k h =
      let e : length first + 1 + k - suc (length first) ≡ k = omega arith in
      place_second (length first + 1 + k) (omega arith) ∙ ap (in_sheet 2 second) e ∙ sheet_line 2 second k h

  -- the end of both
  pub at_end : place_of first second (length (joined first second)) ≡ end_at 2 (length second)
  at_end =
      let l = joined_length first second in
      let e : length (joined first second) - suc (length first) ≡ length second = omega arith in
      place_second (length (joined first second)) (omega arith) ∙ ap (in_sheet 2 second) e
      ∙ sheet_end 2 second (length second) (le_refl (length second))

-- ---- what is shown lies in its sheet

-- the sheet with this number
abbrev pub sheet_of : List ℕ → List ℕ → ℕ → List ℕ
sheet_of first second n = cond (eqb n 2) second first

-- a part of it
pub record Inside (first second : List ℕ) (x : Place) : Type 0 where
  pub ordered : x.begins ≤ x.ends
  pub within : x.ends ≤ length (sheet_of first second x.sheet)

sheet_inside : (first second sheet : List ℕ) (n p : ℕ) → sheet_of first second n ≡ sheet → p ≤ length sheet
    → Inside first second (in_sheet n sheet p)
sheet_inside first second sheet n p e h =
    ⊎_elim
    (λ l. let z = line_is sheet p h in
    rw (sheet_line n sheet p l) (record { ordered = omega (arith, z.begins, z.ends); within = rw e z.inside }))
    (λ l. rw (sheet_end n sheet p l) (record { ordered = omega arith; within = rw e h })) (either p (length sheet))

-- so it is with every place of the joined text
pub place_inside : (first second : List ℕ) (p : ℕ) → p ≤ length (joined first second) → Inside first second (place_of first second p)
place_inside first second p h =
    ⊎_elim
    (λ l. rw (place_second first second p l)
    (sheet_inside first second second 2 (p - suc (length first)) refl (omega (arith, joined_length first second))))
    (λ l. rw (place_first first second p l) (sheet_inside first second first 1 p refl l)) (either (length first) p)

-- and for want of one
pub front_inside : (first second : List ℕ) → Inside first second front
front_inside first second = record { ordered = omega arith; within = omega arith }
