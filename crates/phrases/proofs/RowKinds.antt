-- What the tables of the grammar give for a token's kind, and the kind of the row that is put for it.
use mathlib.Core.Bool.{Bool, true, false}
use mathlib.Core.List.{List}
use mathlib.Core.Option.{Option, none, some}
use mathlib.Core.Path.{◌≡◌, refl}
use Prim.Native.Nat.{ℕ, zero, suc, ◌+◌, ◌≤◌, ◌<◌}
use native.Mathlib.Omega.{arith}
use lib.Dec.{leb, leb→le}
use Rattle.language.specs.Tokens.{Entry, entry, PAST, RBRACE}
use Rattle.language.specs.Trees.{Literal, Unary, Binary}
use Rattle.language.specs.Grammar.{or, and, sum, prod, operators, comparisons, prefixes, constants, ranges}
use Rattle.language.proofs.Grammar.Entries.{every, entry_passes, by_entries}
use Rattle.language.proofs.Executable.Climbing.{Joins, joins_or, joins_and, joins_cmp, joins_sum, joins_prod}
use Rattle.layout.specs.Table.{kind_of}
use Rattle.layout.specs.Rows.{PREFIX, literal_kind, unary_kind, binary_kind, range_kind}
use Rattle.layout.proofs.TableLaws.{kind_within}
use Rattle.phrases.specs.Parts.{has, in_table}

-- ---- a look into a table

module _ {A : Type 0} (rows : List (Entry ℕ A)) (k : ℕ) where
  -- what is in the table stands for something
  pub stands_for : in_table rows k ≡ true → (a : A) × (entry rows k ≡ some a)
  stands_for h = go (entry rows k) refl h
    where
      go : (o : Option A) → entry rows k ≡ o → has o ≡ true → (a : A) × (entry rows k ≡ some a)
      go (some a) e p = (a, e)
      go none e p = let z : ◌≡◌ {A = ℕ} 0 1 = cc in absurd (omega arith)

  -- and what is not, for nothing
  pub stands_for_none : in_table rows k ≡ false → entry rows k ≡ none
  stands_for_none h = go (entry rows k) h
    where
      go : (o : Option A) → has o ≡ false → o ≡ none
      go none p = refl
      go (some a) p = let z : ◌≡◌ {A = ℕ} 0 1 = cc in absurd (omega arith)

-- a token that is in a table stands before the end, past which there is none
module _ (w : List ℕ) (count i k : ℕ) (h : k ≡ kind_of w count i) where
  listed : {A : Type 0} (rows : List (Entry ℕ A)) → in_table rows PAST ≡ false → in_table rows k ≡ true → i < count
  listed rows p l = kind_within w count i (omega (arith, positive k refl))
    where
      positive : (c : ℕ) → k ≡ c → 0 < c
      positive zero e = let z : ◌≡◌ {A = ℕ} 0 1 = cc in absurd (omega arith)
      positive (suc c) e = omega arith

  -- a prefix
  pub prefix_within : in_table prefixes k ≡ true → i < count
  unfolding entry
  prefix_within l = listed prefixes refl l

  -- a constant
  pub constant_within : in_table constants k ≡ true → i < count
  unfolding entry
  constant_within l = listed constants refl l

  -- a mark between bounds
  pub range_within : in_table ranges k ≡ true → i < count
  unfolding entry
  range_within l = listed ranges refl l

-- ---- the kinds of rows

-- an operator before its operand
pub prefix_row : (k : ℕ) {o : Unary} → entry prefixes k ≡ some o → unary_kind o ≡ PREFIX + k
unfolding unary_kind every
prefix_row k e = by_entries unary_kind (λ c. PREFIX + c) prefixes k tt e

-- its kind is small
pub prefix_small : (k : ℕ) → in_table prefixes k ≡ true → k ≤ RBRACE
unfolding every
prefix_small k h = leb→le k RBRACE (entry_passes (λ c x. leb c RBRACE) prefixes k tt (stands_for prefixes k h).1)

-- a constant
pub constant_row : (k : ℕ) {l : Literal} → entry constants k ≡ some l → literal_kind l ≡ k
unfolding literal_kind every
constant_row k e = by_entries literal_kind (λ c. c) constants k tt e

-- a `for`, by the mark between its bounds
pub range_row : (k : ℕ) {b : Bool} → entry ranges k ≡ some b → range_kind b ≡ k
unfolding range_kind every
range_row k e = by_entries range_kind (λ c. c) ranges k tt e

-- an operator between two operands
pub joins_row : {k : ℕ} {o : Binary} {p : ℕ} → Joins k o p → binary_kind o ≡ k
unfolding binary_kind every
joins_row {k} (joins_or e) = by_entries binary_kind (λ c. c) (operators or) k tt e
joins_row {k} (joins_and e) = by_entries binary_kind (λ c. c) (operators and) k tt e
joins_row {k} (joins_cmp e) = by_entries binary_kind (λ c. c) comparisons k tt e
joins_row {k} (joins_sum e) = by_entries binary_kind (λ c. c) (operators sum) k tt e
joins_row {k} (joins_prod e) = by_entries binary_kind (λ c. c) (operators prod) k tt e
