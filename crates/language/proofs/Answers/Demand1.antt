-- Demand 1: whatever edition is named and whatever is lent with a text, what is told is a row of the table of numbers and the place is the one that the row
-- sets; and where nothing is run nothing is printed. What is left in memory is in the contracts themselves, as equations.
use mathlib.Core.List.{List, []}
use mathlib.Core.Logic.{◌⊎◌, inl}
use mathlib.Core.Option.{Option, none, some}
use mathlib.Core.Path.{◌≡◌, refl, sym, subst}
use Prim.Native.Nat.{ℕ, ◌<◌}
use native.Mathlib.Omega.{arith}
use lib.ListN.{length}
use Rattle.language.specs.Sizes.{Sizes, BOX, ALLOWANCE, PAY_COUNT, WORK}
use Rattle.language.specs.Tokens.{Vocabulary, Token}
use Rattle.language.specs.Text.{Flaw, SplitsUnder, FlawedUnder}
use Rattle.language.specs.Trees.{Ty, Program}
use Rattle.language.specs.Grammar.{Reading}
use Rattle.language.specs.Starts.{FirstWrong}
use Rattle.language.specs.Types.{HasTypeUnder}
use Rattle.language.specs.Faults.{Reason, HasFaultUnder}
use Rattle.language.specs.State.{Stop, State, Outcome, value, stop, stuck}
use Rattle.language.specs.Meaning.{run}
use Rattle.language.specs.Numbers.{Refusal, short_memory, large_allowance, no_edition, long_source, text}
use Rattle.language.specs.Numbers.{no_reading, types, long_text, endless_node, many_units, Told, passed, refused, stopped}
use Rattle.language.specs.Answers.{Origin, place_in, too_long, flawed, unread, faulty, PassesUnder, RefusedUnder}
use Rattle.language.specs.Answers.{by_origin, by_tokens, Ending, ending, CheckReport, CheckedUnder, check_short, check_refused}
use Rattle.language.specs.Answers.{check_passed, Lent, RunReport, RanUnder, run_short, run_large, run_refused, run_ended}
use Rattle.language.specs.Edition.{edition, unknown, known, text_in_under}
use Rattle.language.specs.Writing.{TooLongUnder, WriteReport, WroteUnder, write_short, write_refused, write_long, write_passed}
use Rattle.language.specs.Profile.{first_endless, units_most, ProfileReport, ProfiledUnder, profile_short, profile_refused, profile_endless}
use Rattle.language.specs.Profile.{profile_many, profile_passed}
use Rattle.language.proofs.Answers.Endings.{IsRun, is_run}

-- ---- numbers and places

module _ (σ : Sizes) (n : ℕ) (source : List ℕ) (l : Lent) where
  -- the byte of token i, or the text's length for the end
  abbrev byte_of : List Token → ℕ → ℕ
  byte_of ts i = (text_in_under σ n source).at ts i

  -- the table: what is told, when, and at which place; rows that differ in their number alone stand together
  pub data ListedUnder : Told → ℕ → Type 0 where
    row_40 : (l.table < σ.table) ⊎ (l.work < WORK) → ListedUnder (refused short_memory) 0
    row_41 : ALLOWANCE < l.allowance → ListedUnder (refused large_allowance) 0
    row_42 : edition n ≡ none → ListedUnder (refused no_edition) 0
    row_10 : σ.source < length source → ListedUnder (refused long_source) 0
    rows_11_to_15 : {voc : Vocabulary} {f : Flaw} {p : ℕ} → edition n ≡ some voc → FlawedUnder σ voc source f p → ListedUnder (refused (text f)) p
    row_20 : {voc : Vocabulary} {ts : List Token} {i : ℕ} → edition n ≡ some voc → SplitsUnder σ voc source ts → FirstWrong ts i
        → ListedUnder (refused no_reading) (byte_of ts i)
    rows_30_to_37 : {voc : Vocabulary} {ts : List Token} {p : Program} {r : Reason} {i : ℕ}
        → edition n ≡ some voc → SplitsUnder σ voc source ts → Reading ts p → HasFaultUnder σ p r i → ListedUnder (refused (types r)) (byte_of ts i)
    row_0 : {voc : Vocabulary} {ts : List Token} {p : Program} {t : Ty}
        → edition n ≡ some voc → SplitsUnder σ voc source ts → Reading ts p → HasTypeUnder σ p t → ListedUnder passed 0
    row_44 : {voc : Vocabulary} {ts : List Token} {p : Program} {t : Ty}
        → edition n ≡ some voc → SplitsUnder σ voc source ts → Reading ts p → HasTypeUnder σ p t → TooLongUnder σ ts l.output
        → ListedUnder (refused long_text) 0
    row_43 : {voc : Vocabulary} {ts : List Token} {p : Program} {t : Ty} {i : ℕ}
        → edition n ≡ some voc → SplitsUnder σ voc source ts → Reading ts p → HasTypeUnder σ p t → first_endless p ≡ some i
        → ListedUnder (refused endless_node) (byte_of ts i)
    row_45 : {voc : Vocabulary} {ts : List Token} {p : Program} {t : Ty}
        → edition n ≡ some voc → SplitsUnder σ voc source ts → Reading ts p → HasTypeUnder σ p t → first_endless p ≡ none
        → PAY_COUNT < units_most p → ListedUnder (refused many_units) 0
    rows_50_to_58 : {voc : Vocabulary} {ts : List Token} {p : Program} {t : Ty} {w : Stop} {i : ℕ} {s : State}
        → edition n ≡ some voc → SplitsUnder σ voc source ts → Reading ts p → HasTypeUnder σ p t → run p l.allowance l.output ≡ stop w i s
        → ListedUnder (stopped w) (byte_of ts i)

-- under the box's sizes
abbrev pub Listed : ℕ → List ℕ → Lent → Told → ℕ → Type 0
Listed = ListedUnder BOX

module _ {σ : Sizes} (n : ℕ) (source : List ℕ) (l : Lent) where
  pub refused_listed : {r : Refusal} {x : ℕ} → RefusedUnder σ (text_in_under σ n source) r x → ListedUnder σ n source l (refused r) x
  refused_listed (by_origin (unknown e)) = row_42 e
  refused_listed (by_origin (known e (too_long h))) = row_10 h
  refused_listed (by_origin (known e (flawed h a))) = rows_11_to_15 e a
  refused_listed (by_tokens g (unread h)) = row_20 g.named g.given.splits h
  refused_listed (by_tokens g (faulty a f)) = rows_30_to_37 g.named g.given.splits a f

  module _ {ts : List Token} {p : Program} {t : Ty} (a : PassesUnder σ (text_in_under σ n source) ts p t) where
    pub passed_listed : ListedUnder σ n source l passed 0
    passed_listed = row_0 a.given.named a.given.given.splits a.proper.reads a.proper.typed

    abbrev EndListed : Option Ending → Type 0
    EndListed none = Unit {0}
    EndListed (some e) = ListedUnder σ n source l e.told (place_in (text_in_under σ n source) ts e.spot)

    end_listed : (m : Outcome) → run p l.allowance l.output ≡ m → EndListed (ending l.allowance m)
    unfolding ending
    end_listed (value v s) x = passed_listed
    end_listed (stop w i s) x = rows_50_to_58 a.given.named a.given.given.splits a.proper.reads a.proper.typed x
    end_listed stuck x = tt

  pub ran_listed : {r : RunReport ℕ} {bs : List ℕ} → RanUnder σ (text_in_under σ n source) l r bs → ListedUnder σ n source l r.told r.place
  ran_listed (run_short h) = row_40 h
  ran_listed (run_large e h) = row_41 h
  ran_listed (run_refused e h a) = refused_listed a
  ran_listed (run_ended {p = p} e h a x) = subst (EndListed a) x (end_listed a (run p l.allowance l.output) refl)

  -- and of check, which is lent table memory alone and runs nothing
  pub checked_listed : {r : CheckReport ℕ} → CheckedUnder σ (text_in_under σ n source) l.table r → ListedUnder σ n source l r.told r.place
  checked_listed (check_short h) = row_40 (inl h)
  checked_listed (check_refused h a) = refused_listed a
  checked_listed (check_passed h a) = passed_listed a

  -- and of write, which is lent table memory and output
  pub wrote_listed : {r : WriteReport ℕ} {bs : List ℕ} → WroteUnder σ (text_in_under σ n source) l.table l.output r bs
      → ListedUnder σ n source l r.told r.place
  wrote_listed (write_short h) = row_40 (inl h)
  wrote_listed (write_refused h a) = refused_listed a
  wrote_listed (write_long h a k) =
      row_44 a.given.named a.given.given.splits a.proper.reads a.proper.typed k
  wrote_listed (write_passed h a k) = passed_listed a

  -- and of profile, which is lent table memory alone
  pub profiled_listed : {r : ProfileReport ℕ} → ProfiledUnder σ (text_in_under σ n source) l.table r → ListedUnder σ n source l r.told r.place
  profiled_listed (profile_short h) = row_40 (inl h)
  profiled_listed (profile_refused h a) = refused_listed a
  profiled_listed (profile_endless h a k) =
      row_43 a.given.named a.given.given.splits a.proper.reads a.proper.typed k
  profiled_listed (profile_many h a k m) =
      row_45 a.given.named a.given.given.splits a.proper.reads a.proper.typed k m
  profiled_listed (profile_passed h a k m) = passed_listed a

abbrev Stops : Told → Type 0
Stops passed = ⊥
Stops (refused r) = ⊥
Stops (stopped w) = Unit {0}

module _ {P : Type 0} {o : Origin P} where
  pub check_never_stops : {σ : Sizes} {table : ℕ} {r : CheckReport P} → CheckedUnder σ o table r → (w : Stop) → r.told ≡ stopped w → ⊥
  check_never_stops {σ} a w e = go a (subst Stops (sym e) tt)
    where
      go : {table : ℕ} {r : CheckReport P} → CheckedUnder σ o table r → Stops r.told → ⊥
      go (check_short h) x = x
      go (check_refused h a) x = x
      go (check_passed h a) x = x

  -- ---- where nothing is run nothing is printed

  pub silent : {σ : Sizes} {l : Lent} {r : RunReport P} {bs : List ℕ} → RanUnder σ o l r bs → (y : Refusal) → r.told ≡ refused y → (r.printed ≡ 0) × (bs ≡ [])
  silent (run_short h) y x = (refl, refl)
  silent (run_large e h) y x = (refl, refl)
  silent (run_refused e h a) y x = (refl, refl)
  silent {l} (run_ended {p = p} e h a z) y x = absurd (subst IsRun x (is_run l.allowance (run p l.allowance l.output) z))

  -- ---- where a sheet is not written out nothing is written

  pub unwritten : {σ : Sizes} {table room : ℕ} {r : WriteReport P} {bs : List ℕ} → WroteUnder σ o table room r bs → (y : Refusal) → r.told ≡ refused y
      → (r.written ≡ 0) × (bs ≡ [])
  unwritten (write_short h) y x = (refl, refl)
  unwritten (write_refused h a) y x = (refl, refl)
  unwritten (write_long h a k) y x = (refl, refl)
  unwritten (write_passed h a k) y x = let z : ◌≡◌ {A = ℕ} 0 1 = cc in absurd (omega arith)

  pub write_never_stops : {σ : Sizes} {table room : ℕ} {r : WriteReport P} {bs : List ℕ} → WroteUnder σ o table room r bs → (w : Stop) → r.told ≡ stopped w → ⊥
  write_never_stops {σ} a w e = go a (subst Stops (sym e) tt)
    where
      go : {table room : ℕ} {r : WriteReport P} {bs : List ℕ} → WroteUnder σ o table room r bs → Stops r.told → ⊥
      go (write_short h) x = x
      go (write_refused h a) x = x
      go (write_long h a k) x = x
      go (write_passed h a k) x = x

  pub profile_never_stops : {σ : Sizes} {table : ℕ} {r : ProfileReport P} → ProfiledUnder σ o table r → (w : Stop) → r.told ≡ stopped w → ⊥
  profile_never_stops {σ} a w e = go a (subst Stops (sym e) tt)
    where
      go : {table : ℕ} {r : ProfileReport P} → ProfiledUnder σ o table r → Stops r.told → ⊥
      go (profile_short h) x = x
      go (profile_refused h a) x = x
      go (profile_endless h a k) x = x
      go (profile_many h a k m) x = x
      go (profile_passed h a k m) x = x
