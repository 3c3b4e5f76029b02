-- A box of the sizes before Req 13, and what becomes of its sheets (R13.4): to a stored sheet with a count above `0400` it says 14
-- at line 1 and nothing else, whatever follows, as a box of any sizes does with a count above its own; and what it answers, a box
-- of larger sizes answers.
use mathlib.Core.Bool.{false}
use mathlib.Core.List.{List, []}
use mathlib.Core.Option.{some}
use mathlib.Core.Path.{◌≡◌, refl}
use Prim.Native.Nat.{ℕ, ◌≤◌, ◌<◌}
use native.Mathlib.Omega.{arith}
use Rattle.language.specs.Sizes.{Sizes, BOX, ALLOWANCE}
use Rattle.language.specs.Tokens.{Vocabulary, spell}
use Rattle.language.specs.Text.{many_tokens}
use Rattle.language.specs.Numbers.{text, refused}
use Rattle.language.specs.Answers.{Origin, RefusedUnder, by_origin, CheckReport, check_report, CheckedUnder, check_refused}
use Rattle.language.specs.Answers.{Lent, EnoughUnder, RunReport, refusal, RanUnder, run_refused}
use Rattle.language.specs.Profile.{ProfileReport, ProfiledUnder}
use Rattle.language.specs.Stored.{COUNT, capital, hex, line, count_line, FirstCount, large_count}
use Rattle.language.specs.Edition.{edition, known, text_in_under, stored_in_under, pair_in_under}
use Rattle.language.proofs.Answers.OneAnswer.{one_checked, one_ran}
use Rattle.language.proofs.Stored.Editions.{stored_in_lawful_under}
use Rattle.language.proofs.Sizes.Larger.{Larger, told_of_size}
use Rattle.language.proofs.Sizes.Wider.{Wider, text_in_wider, pair_in_wider, stored_in_wider}
use Rattle.language.proofs.Sizes.AnswersLarger.{with_table, checked_larger, ran_larger, profiled_larger}

-- ---- a count above the size, under any sizes that a count can tell

module _ {σ : Sizes} (told : σ.tokens ≤ COUNT) (n : ℕ) {voc : Vocabulary} (e : edition n ≡ some voc) {input rest : List ℕ} {count : ℕ}
    (first : FirstCount input count rest) (over : σ.tokens < count) where
  is_refused : RefusedUnder σ (stored_in_under σ n input) (text many_tokens) 1
  is_refused = by_origin (known e (large_count first over))

  -- check says 14 at 1, and nothing else
  pub count_checked : {table : ℕ} {r : CheckReport ℕ} → σ.table ≤ table → CheckedUnder σ (stored_in_under σ n input) table r
      → r ≡ check_report (refused (text many_tokens)) 1 0
  count_checked {table} h a = one_checked (stored_in_lawful_under told n input) table a (check_refused h is_refused)

  -- so does run, and prints nothing
  pub count_ran : {l : Lent} {r : RunReport ℕ} {bs : List ℕ} → EnoughUnder σ l → l.allowance ≤ ALLOWANCE → RanUnder σ (stored_in_under σ n input) l r bs
      → (r ≡ refusal (text many_tokens) 1) × (bs ≡ [])
  count_ran {l} h k a = one_ran (stored_in_lawful_under told n input) l a (run_refused h k is_refused)

-- ---- the sizes before

abbrev pub OLD : Sizes
OLD = record { source = 8192; tokens = 1024; nodes = 1024; functions = 32; parameters = 8; refs = 15; table = 12288 }

-- its largest count is `0400`
pub old_count : count_line OLD.tokens ≡ spell "0400\n"
unfolding count_line line hex capital
old_count = refl

old_told : OLD.tokens ≤ COUNT
old_told = omega arith

module _ (n : ℕ) {voc : Vocabulary} (e : edition n ≡ some voc) {input rest : List ℕ} {count : ℕ} (first : FirstCount input count rest)
    (over : OLD.tokens < count) where
  pub old_checked : {table : ℕ} {r : CheckReport ℕ} → OLD.table ≤ table → CheckedUnder OLD (stored_in_under OLD n input) table r
      → r ≡ check_report (refused (text many_tokens)) 1 0
  old_checked = count_checked old_told n e first over

  pub old_ran : {l : Lent} {r : RunReport ℕ} {bs : List ℕ} → EnoughUnder OLD l → l.allowance ≤ ALLOWANCE
      → RanUnder OLD (stored_in_under OLD n input) l r bs → (r ≡ refusal (text many_tokens) 1) × (bs ≡ [])
  old_ran = count_ran old_told n e first over

-- ---- the box's sizes are larger

pub box_larger : Larger OLD BOX
box_larger = record {
  source = omega arith;
  tokens = omega arith;
  nodes = omega arith;
  functions = omega arith;
  parameters = omega arith;
  refs = omega arith;
  table = omega arith;
}

-- So what an old box answers, the box answers, but for a matter of size: of a text, of two sheets, and of a stored sheet, whoever
-- wrote it.
module _ {P : Type 0} {o q : Origin P} (w : Wider o q) where
  pub check_stays : {table : ℕ} (table' : ℕ) {r : CheckReport P} → BOX.table ≤ table' → told_of_size r.told ≡ false
      → CheckedUnder OLD o table r → CheckedUnder BOX q table' r
  check_stays = checked_larger box_larger w

  pub run_stays : {l : Lent} (table' : ℕ) {r : RunReport P} {bs : List ℕ} → BOX.table ≤ table' → told_of_size r.told ≡ false
      → RanUnder OLD o l r bs → RanUnder BOX q (with_table table' l) r bs
  run_stays = ran_larger box_larger w

  pub profile_stays : {table : ℕ} (table' : ℕ) {r : ProfileReport P} → BOX.table ≤ table' → told_of_size r.told ≡ false
      → ProfiledUnder OLD o table r → ProfiledUnder BOX q table' r
  profile_stays = profiled_larger box_larger w

module _ (n : ℕ) where
  pub old_text : (source : List ℕ) → Wider (text_in_under OLD n source) (text_in_under BOX n source)
  old_text = text_in_wider box_larger n

  pub old_pair : (first second : List ℕ) → Wider (pair_in_under OLD n first second) (pair_in_under BOX n first second)
  old_pair = pair_in_wider box_larger n

  pub old_stored : (input : List ℕ) → Wider (stored_in_under OLD n input) (stored_in_under BOX n input)
  old_stored = stored_in_wider box_larger n
