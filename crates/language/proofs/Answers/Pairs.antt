-- Two sheets are a lawful origin, and a pair answers what the joined text answers: the same is told, with the same type, value,
-- units and bytes, and the place is that of the joined text, told of the sheet that it falls on (R07.2, R07.3).
use mathlib.Core.Bool.{Bool, true, false, cond}
use mathlib.Core.List.{List}
use mathlib.Core.Logic.{◌⊎◌, inl, inr}
use mathlib.Core.Option.{Option, none, some}
use mathlib.Core.Path.{◌≡◌, refl, sym, ap, subst}
use Prim.Native.Nat.{ℕ}
use native.Mathlib.Omega.{arith}
use lib.ListN.{length}
use Rattle.language.specs.Sizes.{Sizes}
use Rattle.language.specs.Tokens.{Vocabulary, Token}
use Rattle.language.specs.Trees.{Ty, Program}
use Rattle.language.specs.State.{Outcome, value, stop, stuck}
use Rattle.language.specs.Meaning.{type_number}
use Rattle.language.specs.Numbers.{Refusal, short_memory, large_allowance, no_edition, long_source, text}
use Rattle.language.specs.Numbers.{no_reading, types, long_text, not_hexadecimal, wrong_count, not_one_token}
use Rattle.language.specs.Numbers.{endless_node, many_units, Told, passed, refused, stopped}
use Rattle.language.specs.Answers as Answers
use Rattle.language.specs.Answers.{at, place_in, TextDeniesUnder, TextGivesUnder, unread, faulty, keeps, RefusedUnder, by_origin}
use Rattle.language.specs.Answers.{by_tokens, PassesUnder, Ending, ending, CheckReport, check_report, CheckedUnder, check_short}
use Rattle.language.specs.Answers.{check_refused, check_passed, CheckUnder, RunReport, Lent, RanUnder, run_short, run_large, run_refused}
use Rattle.language.specs.Answers.{run_ended, RunUnder}
use Rattle.language.specs.Edition.{unknown, known, text_in_under, pair_in_under}
use Rattle.language.specs.Pairs.{joined, Place, place_of, front, PairDeniesUnder, too_long, flawed, pair_under}
use Rattle.language.proofs.Text.Marks.{Laws}
use Rattle.language.proofs.Text.OneSplit.{one_flaw}
use Rattle.language.proofs.Text.OneSplit as OneSplit
use Rattle.language.proofs.Answers.Origins.{LawfulUnder, of_profile, text_lawful}

-- ---- the map

-- what is told of a place, and what for want of one (R07.5)
abbrev pub placed : Told → Bool
placed passed = false
placed (refused short_memory) = false
placed (refused large_allowance) = false
placed (refused no_edition) = false
placed (refused long_source) = false
placed (refused (text f)) = true
placed (refused no_reading) = true
placed (refused (types r)) = true
placed (refused long_text) = false
placed (refused not_hexadecimal) = true
placed (refused wrong_count) = true
placed (refused not_one_token) = true
placed (refused endless_node) = true
placed (refused many_units) = false
placed (stopped w) = true

module _ (first second : List ℕ) where
  abbrev pub moved : Told → ℕ → Place
  moved a p = cond (placed a) (place_of first second p) front

  -- a report of the joined text, as one of the pair
  abbrev pub check_moved : CheckReport ℕ → CheckReport Place
  check_moved r = check_report r.told (moved r.told r.place) r.type

  abbrev pub run_moved : RunReport ℕ → RunReport Place
  run_moved r = record {
    told = r.told;
    place = moved r.told r.place;
    type = r.type;
    value = r.value;
    units = r.units;
    printed = r.printed;
  }

-- ---- the laws

denied : {σ : Sizes} {voc : Vocabulary} (first second : List ℕ) {r : Refusal} {p : ℕ} → TextDeniesUnder σ voc (joined first second) r p
    → PairDeniesUnder σ voc first second r (moved first second (refused r) p)
denied first second (Answers.too_long h) = too_long h
denied first second (Answers.flawed h a) = flawed h a

module _ {voc : Vocabulary} (laws : Laws voc) (first second : List ℕ) where
  one_denial : {σ : Sizes} (r q : Refusal) (x y : Place) → PairDeniesUnder σ voc first second r x → PairDeniesUnder σ voc first second q y → (r ≡ q) × (x ≡ y)
  one_denial r q x y (too_long h) (too_long k) = (refl, refl)
  one_denial r q x y (too_long h) (flawed k b) = absurd (omega arith)
  one_denial r q x y (flawed h a) (too_long k) = absurd (omega arith)
  one_denial r q x y (flawed h a) (flawed k b) = let e = one_flaw laws a b in (ap text e.0, ap (place_of first second) e.1)

  never_both : {σ : Sizes} (ts : List Token) (r : Refusal) (x : Place) → TextGivesUnder σ voc (joined first second) ts
      → PairDeniesUnder σ voc first second r x → ⊥
  never_both ts r x g (too_long h) = omega (arith, g.short)
  never_both ts r x g (flawed h a) = OneSplit.not_both laws g.splits a

  not_memory : {σ : Sizes} (r : Refusal) (x : Place) → PairDeniesUnder σ voc first second r x → keeps r ≡ false
  not_memory r x (too_long h) = refl
  not_memory r x (flawed h a) = refl

  not_reading : {σ : Sizes} (r : Refusal) (x : Place) → PairDeniesUnder σ voc first second r x → r ≡ no_reading → ⊥
  not_reading r x (too_long h) e = let z : ◌≡◌ {A = ℕ} 0 1 = cc in omega arith
  not_reading r x (flawed h a) e = let z : ◌≡◌ {A = ℕ} 0 1 = cc in omega arith

  not_written : {σ : Sizes} (r : Refusal) (x : Place) → PairDeniesUnder σ voc first second r x → r ≡ long_text → ⊥
  not_written r x (too_long h) e = let z : ◌≡◌ {A = ℕ} 0 1 = cc in omega arith
  not_written r x (flawed h a) e = let z : ◌≡◌ {A = ℕ} 0 1 = cc in omega arith

  not_profiled : {σ : Sizes} (r : Refusal) (x : Place) → PairDeniesUnder σ voc first second r x → of_profile r ≡ false
  not_profiled r x (too_long h) = refl
  not_profiled r x (flawed h a) = refl

  some_of : {σ : Sizes}
      → ((ts : List Token) × TextGivesUnder σ voc (joined first second) ts) ⊎ ((r : Refusal) × (p : ℕ) × TextDeniesUnder σ voc (joined first second) r p)
      → ((ts : List Token) × TextGivesUnder σ voc (joined first second) ts) ⊎ ((r : Refusal) × (x : Place) × PairDeniesUnder σ voc first second r x)
  some_of (inl g) = inl g
  some_of (inr (r, p, d)) = inr (r, _, denied first second d)

  -- so of everything lent with two sheets there is exactly one answer (`Answers/OneAnswer`)
  pub pair_lawful : {σ : Sizes} → LawfulUnder σ (pair_under σ voc first second)
  pair_lawful = record {
    one_list = (text_lawful laws (joined first second)).one_list;
    one_denial = one_denial;
    never_both = never_both;
    some = some_of (text_lawful laws (joined first second)).some;
    few = (text_lawful laws (joined first second)).few;
    small = (text_lawful laws (joined first second)).small;
    not_memory = not_memory;
    not_reading = λ x a. not_reading no_reading x a refl;
    not_written = λ x a. not_written long_text x a refl;
    not_profiled = not_profiled;
  }

-- ---- as the joined text

-- in whatever edition
module _ (n : ℕ) (first second : List ℕ) where
  given_joined : {σ : Sizes} {ts : List Token} → (text_in_under σ n (joined first second)).gives ts → (pair_in_under σ n first second).gives ts
  given_joined g = record { words = g.words; named = g.named; given = g.given }

  denied_joined : {σ : Sizes} {r : Refusal} {p : ℕ} → (text_in_under σ n (joined first second)).denies r p
      → (pair_in_under σ n first second).denies r (moved first second (refused r) p)
  denied_joined (unknown e) = unknown e
  denied_joined (known e d) = known e (denied first second d)

  pub passes_joined : {σ : Sizes} {ts : List Token} {p : Program} {t : Ty} → PassesUnder σ (text_in_under σ n (joined first second)) ts p t
      → PassesUnder σ (pair_in_under σ n first second) ts p t
  passes_joined x = record { given = given_joined x.given; proper = x.proper }

  pub refused_joined : {σ : Sizes} {r : Refusal} {p : ℕ} → RefusedUnder σ (text_in_under σ n (joined first second)) r p
      → RefusedUnder σ (pair_in_under σ n first second) r (moved first second (refused r) p)
  refused_joined (by_origin d) = by_origin (denied_joined d)
  refused_joined (by_tokens g (unread w)) = by_tokens (given_joined g) (unread w)
  refused_joined (by_tokens g (faulty a f)) = by_tokens (given_joined g) (faulty a f)

  -- what check answers
  pub check_joined : {σ : Sizes} {table : ℕ} {r : CheckReport ℕ} → CheckedUnder σ (text_in_under σ n (joined first second)) table r
      → CheckedUnder σ (pair_in_under σ n first second) table (check_moved first second r)
  check_joined (check_short h) = check_short h
  check_joined (check_refused h x) = check_refused h (refused_joined x)
  check_joined (check_passed h x) = check_passed h (passes_joined x)

  abbrev Moved : Sizes → List Token → Option Ending → Type 0
  Moved σ ts none = Unit {0}
  Moved σ ts (some e) =
      moved first second e.told (place_in (text_in_under σ n (joined first second)) ts e.spot) ≡ place_in (pair_in_under σ n first second) ts e.spot

  end_moved : (σ : Sizes) (ts : List Token) (allowance : ℕ) (m : Outcome) → Moved σ ts (ending allowance m)
  unfolding ending
  end_moved σ ts allowance (value v s) = refl
  end_moved σ ts allowance (stop w i s) = refl
  end_moved σ ts allowance stuck = tt

  told_at : Place → Ty → Ending → RunReport Place
  told_at x t e = record {
    told = e.told;
    place = x;
    type = type_number t;
    value = e.value;
    units = e.units;
    printed = length e.printed;
  }

  -- and what run answers
  pub run_joined : {σ : Sizes} {l : Lent} {r : RunReport ℕ} {printed : List ℕ} → RanUnder σ (text_in_under σ n (joined first second)) l r printed
      → RanUnder σ (pair_in_under σ n first second) l (run_moved first second r) printed
  unfolding told_at
  run_joined (run_short h) = run_short h
  run_joined (run_large h a) = run_large h a
  run_joined (run_refused h a x) = run_refused h a (refused_joined x)
  run_joined {σ} {l} (run_ended {ts = ts} {t = t} {e = e} h a x z) =
      let place = subst (Moved σ ts) z (end_moved σ ts l.allowance _) in
      subst (λ y. RanUnder σ (pair_in_under σ n first second) l (told_at y t e) e.printed) (sym place) (run_ended h a (passes_joined x) z)

  -- so the contracts of the two, memory and output included
  pub pair_check : {σ : Sizes} {table table' : List ℕ} {r : CheckReport ℕ} → CheckUnder σ (text_in_under σ n (joined first second)) table r table'
      → CheckUnder σ (pair_in_under σ n first second) table (check_moved first second r) table'
  pair_check x = record { answer = check_joined x.answer; table_left = x.table_left }

  pub pair_run : {σ : Sizes} {table work output table' work' output' : List ℕ} {allowance : ℕ} {r : RunReport ℕ}
      → RunUnder σ (text_in_under σ n (joined first second)) table work output allowance r table' work' output'
      → RunUnder σ (pair_in_under σ n first second) table work output allowance (run_moved first second r) table' work' output'
  pair_run x = record {
    printed = x.printed;
    answer = run_joined x.answer;
    table_left = x.table_left;
    work_left = x.work_left;
    output_left = x.output_left;
  }
