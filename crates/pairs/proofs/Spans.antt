-- Lines sought byte for byte, and the spot of a place.
use lib.ListN.{length}
use mathlib.Core.Bool.{true, false}
use mathlib.Core.List.{List}
use mathlib.Core.Path.{◌≡◌, sym, ◌∙◌, ap}
use borrow.Author.Tests.{eq-eqb, ne_eqb}
use native.Mathlib.Numerals.{add-one}
use native.Mathlib.Omega.{arith}
use Prim.Native.Nat.{ℕ, suc, ◌+◌, ◌-◌, ◌≤◌, ◌<◌}
use Rattle.language.proofs.Pairs.Places.{sheet_line, place_second}
use Rattle.language.proofs.Pairs.Lines.{begin_here, begin_on, end_here, end_on, end_past}
use Rattle.language.specs.Pairs.{line_begin, line_end, Place, in_sheet, place_of}
use Rattle.language.specs.Text.{byte, is_in_line}

-- an LF ends a line, and no other byte does
pub feed : (b : ℕ) → b ≡ 10 → is_in_line b ≡ false
unfolding is_in_line
feed b e = rw (eq-eqb b 10 e)

pub no_feed : (b : ℕ) → (b ≡ 10 → ⊥) → is_in_line b ≡ true
unfolding is_in_line
no_feed b e = rw (ne_eqb b 10 e)

-- ---- back to where it begins

-- the line of `at` is that of i
pub record Back (sheet : List ℕ) (at i : ℕ) : Type 0 where
  pub low : i ≤ at
  pub same : line_begin sheet i ≡ line_begin sheet at

module _ {sheet : List ℕ} {at i k : ℕ} (g : Back sheet at i) (e : suc k ≡ i) where
  -- behind an LF
  pub back_here : byte sheet k ≡ 10 → i ≡ line_begin sheet at
  back_here f = sym (sym g.same ∙ ap (line_begin sheet) (sym e) ∙ begin_here sheet k (feed (byte sheet k) f) ∙ e)

  -- behind another byte
  pub back_on : (byte sheet k ≡ 10 → ⊥) → Back sheet at k
  back_on f =
      record {
        low = omega (arith, g.low);
        same = sym (begin_on sheet k (no_feed (byte sheet k) f)) ∙ ap (line_begin sheet) e ∙ g.same;
      }

-- at the front
pub back_all : {sheet : List ℕ} {at i : ℕ} → Back sheet at i → i ≡ 0 → i ≡ line_begin sheet at
unfolding line_begin
back_all {sheet} {at} {i} g e = e ∙ ap (line_begin sheet) (sym e) ∙ g.same

-- ---- on to where it ends

pub record On (sheet : List ℕ) (at i : ℕ) : Type 0 where
  pub inside : i ≤ length sheet
  pub same : line_end sheet i ≡ line_end sheet at

module _ {sheet : List ℕ} {at i : ℕ} (g : On sheet at i) where
  -- at an LF
  pub on_here : i < length sheet → byte sheet i ≡ 10 → i ≡ line_end sheet at
  on_here h f = sym (sym g.same ∙ end_here sheet i h (feed (byte sheet i) f))

  -- at another byte
  pub on_more : i < length sheet → (byte sheet i ≡ 10 → ⊥) → On sheet at (i + 1)
  on_more h f =
      record {
        inside = omega arith;
        same = ap (line_end sheet) (add-one i) ∙ sym (end_on sheet i h (no_feed (byte sheet i) f)) ∙ g.same;
      }

  -- at the end
  pub on_all : length sheet ≤ i → i ≡ line_end sheet at
  on_all h = sym (sym g.same ∙ end_past sheet i h)

-- ---- the spot

-- a byte of a sheet, with the line around it
pub spot_line : (n : ℕ) (sheet : List ℕ) (p b e : ℕ) → b ≡ line_begin sheet p → e ≡ line_end sheet p → p < length sheet
    → ◌≡◌ {A = Place} (record { sheet = n; at = p; begins = b; ends = e }) (in_sheet n sheet p)
spot_line n sheet p b e x y h = rw (x, y) (sym (sheet_line n sheet p h))

-- a byte of the second
pub spot_second : (first second : List ℕ) (p : ℕ) → length first < p → in_sheet 2 second (p - length first - 1) ≡ place_of first second p
spot_second first second p h =
    let e : p - length first - 1 ≡ p - suc (length first) = omega arith in
    ap (in_sheet 2 second) e ∙ sym (place_second first second p h)
