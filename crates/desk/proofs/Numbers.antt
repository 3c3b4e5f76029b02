-- A number that is read up to a limit is no larger.
use borrow.Author.Tests.{leb-true}
use lib.Dec.{leb}
use mathlib.Core.Bool.{Bool, true, false, cond, ◌&&◌}
use mathlib.Core.List.{List}
use mathlib.Core.Path.{◌≡◌, refl, sym, ◌∙◌, subst}
use native.Mathlib.Omega.{arith}
use Prim.Native.Nat.{ℕ, ◌≤◌}
use Rattle.std.proofs.Common.{Option, Some, None}
use Rattle.language.proofs.Text.Choices.{and_both}
use Rattle.language.specs.Sizes.{LARGEST}
use Rattle.language.specs.Text.{number_from}
use Rattle.orders.specs.Asked.{edition_of}
use Rattle.page.specs.Amounts.{is_number, number_up_to}
use Rattle.desk.specs.Numbers.{UpTo}

chosen : (most n : ℕ) (b : Bool) → (b ≡ true → n ≤ most) → UpTo most (cond b (Some n) None)
chosen most n true h = h refl
chosen most n false h = tt

pub read : (most : ℕ) (w : List ℕ) → UpTo most (number_up_to most w)
unfolding number_up_to
read most w = chosen most n (is_number w && leb n most) (λ e. leb-true n most (and_both (is_number w) (leb n most) e).1)
  where
    n : ℕ
    n = number_from 10 0 w

pub found : (most : ℕ) (w : List ℕ) {a b : Option ℕ} → a ≡ number_up_to most w → b ≡ a → UpTo most b
found most w e f = subst (UpTo most) (sym (f ∙ e)) (read most w)

-- an edition is 1 where no word says one
no_larger : (kept : Option ℕ) (w : List ℕ) → UpTo LARGEST (edition_of kept w)
no_larger None w = omega arith
no_larger (Some i) w = read LARGEST w

pub edition_found : (kept : Option ℕ) (w : List ℕ) {a b : Option ℕ} → a ≡ edition_of kept w → b ≡ a → UpTo LARGEST b
edition_found kept w e f = subst (UpTo LARGEST) (sym (f ∙ e)) (no_larger kept w)
