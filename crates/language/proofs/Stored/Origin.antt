-- A stored sheet is a lawful origin of tokens, whatever bytes it is: it comes to one token list or to one refusal at one line. So
-- check and run of it have exactly one answer.
use mathlib.Core.Bool.{false}
use mathlib.Core.List.{List}
use mathlib.Core.Logic.{◌⊎◌, inl, inr}
use mathlib.Core.Path.{◌≡◌, refl, sym, ◌∙◌}
use native.Mathlib.Omega.{arith}
use Prim.Native.Nat.{ℕ, zero, suc, ◌≤◌}
use Rattle.language.specs.Sizes.{Sizes, LARGEST}
use Rattle.language.specs.Tokens.{Vocabulary, Token, value_at}
use Rattle.language.specs.Numbers.{Refusal, no_reading, long_text}
use Rattle.language.specs.Answers.{keeps}
use Rattle.language.specs.Stored.{COUNT, AllLone, lone_none, lone_more, stored_under, from_stored}
use Rattle.language.specs.Stored.{StoredGivesUnder, StoredDeniesUnder, no_count, large_count, no_line, no_token, miscounted, overlong}
use Rattle.language.proofs.Text.Marks.{Laws}
use Rattle.language.proofs.Text.SmallNumbers.{reached_small}
use Rattle.language.proofs.Answers.Origins.{LawfulUnder, Lawful, of_profile}
use Rattle.language.proofs.Stored.Reader.{Answer, given, denied, Says, read_stored, read_says}
use Rattle.language.proofs.Stored.ReaderComplete.{gives_read, denies_read}

-- what is found of an input
abbrev Comes : Sizes → Vocabulary → List ℕ → Type 0
Comes σ voc input = ((ts : List Token) × StoredGivesUnder σ voc input ts) ⊎ ((r : Refusal) × (x : ℕ) × StoredDeniesUnder σ voc input r x)

-- no number of lone tokens is too large
pub lone_small : {voc : Vocabulary} {ts : List Token} → AllLone voc ts → (i : ℕ) → value_at ts i ≤ LARGEST
unfolding value_at
lone_small lone_none zero = omega arith
lone_small lone_none (suc i) = omega arith
lone_small (lone_more x xs) zero = reached_small x.splits 0
lone_small (lone_more x xs) (suc i) = lone_small xs i

module _ {voc : Vocabulary} {input : List ℕ} where
  pub not_memory : {σ : Sizes} {r : Refusal} {x : ℕ} → StoredDeniesUnder σ voc input r x → keeps r ≡ false
  not_memory (no_count h) = refl
  not_memory (large_count f h) = refl
  not_memory (no_line g h) = refl
  not_memory (no_token g f h) = refl
  not_memory (miscounted g h) = refl
  not_memory (overlong g h) = refl

  pub not_reading : {σ : Sizes} {r : Refusal} {x : ℕ} → StoredDeniesUnder σ voc input r x → r ≡ no_reading → ⊥
  not_reading (no_count h) e = let z : ◌≡◌ {A = ℕ} 0 1 = cc in omega arith
  not_reading (large_count f h) e = let z : ◌≡◌ {A = ℕ} 0 1 = cc in omega arith
  not_reading (no_line g h) e = let z : ◌≡◌ {A = ℕ} 0 1 = cc in omega arith
  not_reading (no_token g f h) e = let z : ◌≡◌ {A = ℕ} 0 1 = cc in omega arith
  not_reading (miscounted g h) e = let z : ◌≡◌ {A = ℕ} 0 1 = cc in omega arith
  not_reading (overlong g h) e = let z : ◌≡◌ {A = ℕ} 0 1 = cc in omega arith

  pub not_written : {σ : Sizes} {r : Refusal} {x : ℕ} → StoredDeniesUnder σ voc input r x → r ≡ long_text → ⊥
  not_written (no_count h) e = let z : ◌≡◌ {A = ℕ} 0 1 = cc in omega arith
  not_written (large_count f h) e = let z : ◌≡◌ {A = ℕ} 0 1 = cc in omega arith
  not_written (no_line g h) e = let z : ◌≡◌ {A = ℕ} 0 1 = cc in omega arith
  not_written (no_token g f h) e = let z : ◌≡◌ {A = ℕ} 0 1 = cc in omega arith
  not_written (miscounted g h) e = let z : ◌≡◌ {A = ℕ} 0 1 = cc in omega arith
  not_written (overlong g h) e = let z : ◌≡◌ {A = ℕ} 0 1 = cc in omega arith

  pub not_profiled : {σ : Sizes} {r : Refusal} {x : ℕ} → StoredDeniesUnder σ voc input r x → of_profile r ≡ false
  not_profiled (no_count h) = refl
  not_profiled (large_count f h) = refl
  not_profiled (no_line g h) = refl
  not_profiled (no_token g f h) = refl
  not_profiled (miscounted g h) = refl
  not_profiled (overlong g h) = refl

-- where a count can tell as many tokens as there may be
module _ {σ : Sizes} (told : σ.tokens ≤ COUNT) {voc : Vocabulary} (laws : Laws voc) (input : List ℕ) where
  -- one input comes to one token list (R09.10)
  pub one_list : (ts us : List Token) → StoredGivesUnder σ voc input ts → StoredGivesUnder σ voc input us → ts ≡ us
  one_list ts us a b = let e = sym (gives_read σ told laws a) ∙ gives_read σ told laws b in cc

  pub one_denial : (r q : Refusal) (x y : ℕ) → StoredDeniesUnder σ voc input r x → StoredDeniesUnder σ voc input q y → (r ≡ q) × (x ≡ y)
  one_denial r q x y a b = let e = sym (denies_read σ told laws a) ∙ denies_read σ told laws b in (cc, cc)

  pub never_both : (ts : List Token) (r : Refusal) (x : ℕ) → StoredGivesUnder σ voc input ts → StoredDeniesUnder σ voc input r x → ⊥
  never_both ts r x a b =
      let e = sym (gives_read σ told laws a) ∙ denies_read σ told laws b in
      let z : ◌≡◌ {A = ℕ} 0 1 = cc in
      omega arith

  unfoldable some_stored : Comes σ voc input
  unfolding read_stored
  some_stored = go (read_stored σ voc input) (read_says σ laws input)
    where
      go : (a : Answer) → Says σ voc input a → Comes σ voc input
      go (given ts) h = inl (ts, h)
      go (denied r x) h = inr (r, x, h)

  unfoldable pub stored_lawful_under : LawfulUnder σ (stored_under σ voc input)
  unfolding some_stored
  stored_lawful_under = record {
    one_list = one_list;
    one_denial = one_denial;
    never_both = never_both;
    some = some_stored;
    few = λ ts g. g.few;
    small = λ ts g. lone_small g.tokens;
    not_memory = λ r x d. not_memory d;
    not_reading = λ x d. not_reading d refl;
    not_written = λ x d. not_written d refl;
    not_profiled = λ r x d. not_profiled d;
  }

-- under the box's sizes
unfoldable pub stored_lawful : {voc : Vocabulary} → Laws voc → (input : List ℕ) → Lawful (from_stored voc input)
unfolding stored_lawful_under
stored_lawful laws input = stored_lawful_under (omega arith) laws input
