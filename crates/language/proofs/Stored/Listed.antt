-- Demand 1 of stored sheets: whatever edition is named and whatever is lent with one, what is told is a row of the table of numbers
-- and the place is the line that the row sets; and of store, which is lent a text, that what is told is a row of the text's, or 44.
use mathlib.Core.List.{List}
use mathlib.Core.Logic.{◌⊎◌, inl}
use mathlib.Core.Option.{Option, none, some}
use mathlib.Core.Path.{◌≡◌, refl, subst}
use Prim.Native.Nat.{ℕ, ◌+◌, ◌<◌}
use lib.ListN.{length}
use Rattle.language.specs.Sizes.{Sizes, BOX, ALLOWANCE, WORK}
use Rattle.language.specs.Tokens.{Vocabulary, Token}
use Rattle.language.specs.Trees.{Ty, Program}
use Rattle.language.specs.Grammar.{Reading}
use Rattle.language.specs.Starts.{FirstWrong}
use Rattle.language.specs.Types.{HasTypeUnder}
use Rattle.language.specs.Faults.{Reason, HasFaultUnder}
use Rattle.language.specs.State.{Stop, State, Outcome, value, stop, stuck}
use Rattle.language.specs.Meaning.{run}
use Rattle.language.specs.Numbers.{Refusal, short_memory, large_allowance, no_edition, no_reading, types, long_text}
use Rattle.language.specs.Numbers.{Told, passed, refused, stopped}
use Rattle.language.specs.Answers.{place_in, unread, faulty, PassesUnder, RefusedUnder, by_origin, by_tokens, Ending, ending}
use Rattle.language.specs.Answers.{CheckReport, CheckedUnder, check_short, check_refused, check_passed}
use Rattle.language.specs.Answers.{Lent, RunReport, RanUnder, run_short, run_large, run_refused, run_ended}
use Rattle.language.specs.Stored.{stored, StoredGivesUnder, StoredDeniesUnder}
use Rattle.language.specs.Edition.{edition, unknown, known, text_in_under, stored_in_under}
use Rattle.language.specs.Writing.{WriteReport, StoresUnder, store_short, store_refused, store_long, store_passed}
use Rattle.language.proofs.Answers.Demand1.{ListedUnder, row_40, refused_listed, passed_listed}

module _ (σ : Sizes) (n : ℕ) (input : List ℕ) (l : Lent) where
  -- the table: what is told, when, and at which line; rows that differ in their number alone stand together
  pub data StoredListedUnder : Told → ℕ → Type 0 where
    line_40 : (l.table < σ.table) ⊎ (l.work < WORK) → StoredListedUnder (refused short_memory) 0
    line_41 : ALLOWANCE < l.allowance → StoredListedUnder (refused large_allowance) 0
    line_42 : edition n ≡ none → StoredListedUnder (refused no_edition) 0
    -- 60, 14, 62, 61 and 10
    lines_denied : {voc : Vocabulary} {r : Refusal} {x : ℕ} → edition n ≡ some voc → StoredDeniesUnder σ voc input r x → StoredListedUnder (refused r) x
    line_20 : {voc : Vocabulary} {ts : List Token} {i : ℕ} → edition n ≡ some voc → StoredGivesUnder σ voc input ts → FirstWrong ts i
        → StoredListedUnder (refused no_reading) (i + 2)
    lines_30_to_37 : {voc : Vocabulary} {ts : List Token} {p : Program} {r : Reason} {i : ℕ}
        → edition n ≡ some voc → StoredGivesUnder σ voc input ts → Reading ts p → HasFaultUnder σ p r i → StoredListedUnder (refused (types r)) (i + 2)
    line_0 : {voc : Vocabulary} {ts : List Token} {p : Program} {t : Ty}
        → edition n ≡ some voc → StoredGivesUnder σ voc input ts → Reading ts p → HasTypeUnder σ p t → StoredListedUnder passed 0
    lines_50_to_58 : {voc : Vocabulary} {ts : List Token} {p : Program} {t : Ty} {w : Stop} {i : ℕ} {s : State}
        → edition n ≡ some voc → StoredGivesUnder σ voc input ts → Reading ts p → HasTypeUnder σ p t → run p l.allowance l.output ≡ stop w i s
        → StoredListedUnder (stopped w) (i + 2)

-- under the box's sizes
abbrev pub StoredListed : ℕ → List ℕ → Lent → Told → ℕ → Type 0
StoredListed = StoredListedUnder BOX

module _ {σ : Sizes} (n : ℕ) (input : List ℕ) (l : Lent) where
  line_refused : {r : Refusal} {x : ℕ} → RefusedUnder σ (stored_in_under σ n input) r x → StoredListedUnder σ n input l (refused r) x
  line_refused (by_origin (unknown e)) = line_42 e
  line_refused (by_origin (known e d)) = lines_denied e d
  line_refused (by_tokens g (unread h)) = line_20 g.named g.given h
  line_refused (by_tokens g (faulty a f)) = lines_30_to_37 g.named g.given a f

  module _ {ts : List Token} {p : Program} {t : Ty} (a : PassesUnder σ (stored_in_under σ n input) ts p t) where
    line_passed : StoredListedUnder σ n input l passed 0
    line_passed = line_0 a.given.named a.given.given a.proper.reads a.proper.typed

    abbrev EndListed : Option Ending → Type 0
    EndListed none = Unit {0}
    EndListed (some e) = StoredListedUnder σ n input l e.told (place_in (stored_in_under σ n input) ts e.spot)

    end_listed : (m : Outcome) → run p l.allowance l.output ≡ m → EndListed (ending l.allowance m)
    unfolding ending
    end_listed (value v s) x = line_passed
    end_listed (stop w i s) x = lines_50_to_58 a.given.named a.given.given a.proper.reads a.proper.typed x
    end_listed stuck x = tt

  pub stored_ran_listed : {r : RunReport ℕ} {bs : List ℕ} → RanUnder σ (stored_in_under σ n input) l r bs → StoredListedUnder σ n input l r.told r.place
  stored_ran_listed (run_short h) = line_40 h
  stored_ran_listed (run_large e h) = line_41 h
  stored_ran_listed (run_refused e h a) = line_refused a
  stored_ran_listed (run_ended {p = p} e h a x) = subst (EndListed a) x (end_listed a (run p l.allowance l.output) refl)

  pub stored_checked_listed : {r : CheckReport ℕ} → CheckedUnder σ (stored_in_under σ n input) l.table r → StoredListedUnder σ n input l r.told r.place
  stored_checked_listed (check_short h) = line_40 (inl h)
  stored_checked_listed (check_refused h a) = line_refused a
  stored_checked_listed (check_passed h a) = line_passed a

-- ---- store

module _ (σ : Sizes) (n : ℕ) (source : List ℕ) (l : Lent) where
  -- a row of the text's own, or 44 where the stored form is longer than the output
  pub data StoreListedUnder : Told → ℕ → Type 0 where
    own : {a : Told} {x : ℕ} → ListedUnder σ n source l a x → StoreListedUnder a x
    form_44 : {ts : List Token} {p : Program} {t : Ty}
        → PassesUnder σ (text_in_under σ n source) ts p t → l.output < length (stored ts) → StoreListedUnder (refused long_text) 0

-- under the box's sizes
abbrev pub StoreListed : ℕ → List ℕ → Lent → Told → ℕ → Type 0
StoreListed = StoreListedUnder BOX

module _ {σ : Sizes} (n : ℕ) (source : List ℕ) (l : Lent) where
  pub stores_listed : {r : WriteReport ℕ} {bs : List ℕ} → StoresUnder σ (text_in_under σ n source) l.table l.output r bs
      → StoreListedUnder σ n source l r.told r.place
  stores_listed (store_short h) = own (row_40 (inl h))
  stores_listed (store_refused h a) = own (refused_listed n source l a)
  stores_listed (store_long h a k) = form_44 a k
  stores_listed (store_passed h a k) = own (passed_listed n source l a)
