-- What head office asks before it buys (Req 11), as theorems about whatever meets the contracts of check and run. They cite
-- what is true of any lawful origin, for the origin that a text is in an edition; `PairDemands` and `StoredDemands` have them for two
-- sheets and for a stored one.
use mathlib.Core.List.{List}
use mathlib.Core.Path.{◌≡◌}
use Prim.Native.Nat.{ℕ, ◌≤◌}
use Rattle.language.specs.Sizes.{ALLOWANCE}
use Rattle.language.specs.Numbers.{passed, number}
use Rattle.language.specs.Answers.{Check, Run}
use Rattle.language.specs.Edition.{text_in}
use Rattle.language.proofs.Answers.Editions.{text_in_lawful}
use Rattle.language.proofs.Answers.HeadOffice.{Sound}
use Rattle.grumpy.specs.Reports.{CheckedAt, RanAt, checked_report, ran_report}
use Rattle.grumpy.proofs.Apart.{same_ran}
use Rattle.grumpy.proofs.AnyOrigin as AnyOrigin

-- R11.2: if check says that a sheet passed, its meaning is never stuck; and run, with the memory asked for, any allowance up
-- to the limit and any output, ends with a value of the type that check told, or with one of the listed stops.
pub passed_sound : {edition : ℕ} {source table t' : List ℕ} (r : CheckedAt ℕ) → Check (text_in edition source) table (checked_report r) t'
    → (checked_report r).told ≡ passed → Sound (text_in edition source) (checked_report r)
passed_sound {edition} {source} r a e = AnyOrigin.sound (text_in_lawful edition source) a e

-- R11.3: if it does not end in 50, run with any larger allowance up to the limit gives the same answer (number, place, type,
-- value, units, and how many bytes were printed), the same output to the byte, and leaves both memories the same.
pub more_units : {edition : ℕ} {source table work output : List ℕ} {few many : ℕ} {t' w' o' t'' w'' o'' : List ℕ} (r q : RanAt ℕ)
    → few ≤ many → many ≤ ALLOWANCE
    → Run (text_in edition source) table work output few (ran_report r) t' w' o'
    → Run (text_in edition source) table work output many (ran_report q) t'' w'' o'' → (number (ran_report r).told ≡ 50 → ⊥)
    → (r ≡ q) × (o' ≡ o'') × (t' ≡ t'') × (w' ≡ w'')
more_units {edition} {source} r q h k a b n =
    let e = AnyOrigin.more_units (text_in_lawful edition source) a h k b n in
    (same_ran r q e.0, e.1, e.2, e.3)
