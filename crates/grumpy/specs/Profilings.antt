-- The profile of a sheet that was examined: the contracts of `profilings`.
use Rattle.std.specs.Prelude.{List, ◌≡◌, ℕ, ◌≤◌, length, Ok, Err}
use Rattle.language.specs.Sizes.{TABLE}
use Rattle.language.specs.Profile as Profile
use Rattle.layout.specs.Table.{zeros}
use Rattle.numbers.specs.declared.Refusal.{Refusal}
use Rattle.profiles.specs.Profiled.{Countable, Counted}
use Rattle.profiles.specs.declared.Uncounted.TheVariants.{EndlessNode, ManyUnits}
use Rattle.sheets.specs.Sources.{origin_of, place_of}
use Rattle.sheets.specs.Sheets.{OfSource}
use Rattle.sheets.specs.declared.Source.{Source}
use Rattle.sheets.specs.Sheets.{Seen}
use Rattle.grumpy.specs.Reports.{ProfiledAt, profiled_report}

-- the answer for a program whose type has the number t, from the words of a table that stands for so many tokens of a
-- source
abbrev pub profiled_of : Source → List ℕ → ℕ → ℕ → Counted → ProfiledAt ℕ
profiled_of source w count t (Err (EndlessNode i)) =
    Err (record { why = Refusal.EndlessNode; place = place_of source w count i })
profiled_of source w count t (Err ManyUnits) = Err (record { why = Refusal.ManyUnits; place = 0 })
profiled_of source w count t (Ok n) = Ok (record { type_number = t; count = n })

-- a sheet that passes can be counted
abbrev pub Payable : List ℕ → Seen → Type 0
Payable w (Ok p) = Countable w p.program
Payable w (Err e) = Unit {0}

-- in whatever edition the source was examined; all but the variables' words is as it was
pub record Profiling (source : Source) (w w' : List ℕ) (s : Seen) (r : ProfiledAt ℕ) : Type 0 where
  pub told : (edition table : ℕ) → TABLE ≤ table → OfSource (origin_of source edition) w s
      → Profile.Profiled (origin_of source edition) table (profiled_report r)
  pub rest : zeros w' 0 TABLE ≡ zeros w 0 TABLE
  pub long : length w' ≡ length w
