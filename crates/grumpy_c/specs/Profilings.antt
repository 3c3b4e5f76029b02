-- The contract of `grumpy_profile`, over that of profile: a report of four words.
use Rattle.std.specs.Prelude.{List, ◌≡◌, ℕ, ◌≤◌, ◌<◌, length, set}
use Rattle.language.specs.Numbers.{short_memory, refusal_number, number}
use Rattle.language.specs.Edition.{text_in}
use Rattle.language.specs.Profile.{ProfileReport, Profile}
use Rattle.grumpy.specs.Reports.{ProfiledAt, profiled_report}
use Rattle.grumpy_c.specs.Reports.{three}

abbrev pub PROFILE : ℕ
PROFILE = 4

-- the first four words: number, place, type, count
unfoldable pub four : List ℕ → ℕ → ℕ → ℕ → ℕ → List ℕ
four w n i t c = set (three w n i t) 3 c

abbrev pub profile_words : List ℕ → ProfileReport ℕ → List ℕ
profile_words w r = four w (number r.told) r.place r.type r.count

abbrev pub ToldProfiled : ProfiledAt ℕ → List ℕ → List ℕ → ℕ → Type 0
ToldProfiled a w w' n = (n ≡ number (profiled_report a).told) × (w' ≡ profile_words w (profiled_report a))

pub data ProfiledC (edition : ℕ) (source table report table' report' : List ℕ) (n : ℕ) : Type 0 where
  profile_no_report : length report < PROFILE → n ≡ refusal_number short_memory → table' ≡ table → report' ≡ report
      → ProfiledC edition source table report table' report' n
  profile_reported : {r : ProfileReport ℕ} → PROFILE ≤ length report
      → Profile (text_in edition source) table r table' → n ≡ number r.told → report' ≡ profile_words report r
      → ProfiledC edition source table report table' report' n
