-- From a sheet that was examined to the answer of profile.
use mathlib.Core.List.{List}
use mathlib.Core.Path.{◌≡◌, refl, sym, ap, subst, ◌∙◌}
use Prim.Native.Nat.{ℕ, ◌≤◌, ◌<◌}
use Rattle.std.proofs.Common.{Ok, Err}
use lib.ListN.{length}
use Rattle.language.specs.Sizes.{PAY_COUNT, TABLE}
use Rattle.language.specs.Tokens.{Token}
use Rattle.language.specs.Trees.{Ty, Program}
use Rattle.language.specs.Meaning.{type_number}
use Rattle.language.specs.Numbers.{refused, passed, short_memory, many_units}
use Rattle.language.specs.Answers.{Origin, Passes, left}
use Rattle.language.specs.Profile as Profile
use Rattle.language.specs.Profile.{profile_report, profile_short, profile_refused, profile_endless, profile_many, profile_passed}
use Rattle.numbers.specs.declared.Refusal.{Refusal}
use Rattle.layout.specs.Table.{zeros}
use Rattle.layout.specs.Names.{Stand}
use Rattle.layout.specs.Decode.{Holds}
use Rattle.layout.proofs.VariablesTrees.{holds_without}
use Rattle.layout.proofs.VariablesWords.{length_without}
use Rattle.layout.proofs.Wiped.{zeros_cleared, wiped_without_variables}
use Rattle.profiles.specs.Profiled as profiles
use Rattle.profiles.specs.Profiled.{Counted, Answers}
use Rattle.profiles.specs.declared.Uncounted.TheVariants.{EndlessNode, ManyUnits}
use Rattle.sheets.specs.Sources.{origin_of}
use Rattle.sheets.specs.Sheets.{OfSource, Examined}
use Rattle.sheets.specs.declared.Source.{Source}
use Rattle.sheets.specs.Sheets.{Seen}
use Rattle.numbers.specs.declared.Located.{Located}
use Rattle.sheets.specs.declared.Passed.{Passed}
use Rattle.sheets.proofs.SourceLaws.{source_lawful, source_nowhere, source_place}
use Rattle.grumpy.specs.Reports.{ProfiledAt, profiled_report}
use Rattle.grumpy.specs.Profilings.{profiled_of, Payable, Profiling}
use Rattle.grumpy.proofs.Leaving.{profiled_left}

-- ---- what comes of a sheet that was examined

pub examined_payable : (o : Origin ℕ) (w w₁ : List ℕ) (s : Seen) → Examined o w w₁ s → Payable w₁ s
examined_payable o w w₁ (Ok h) x =
    let p = x.told in
    record { tokens = p.tokens; program = p.program; holds = p.holds }
examined_payable o w w₁ (Err e) x = tt

module _ (source : Source) where
  -- what was counted is what is told
  counted_told : (edition : ℕ) (w : List ℕ) {ts : List Token} {p : Program} {t : Ty} (count n table : ℕ) (c : Counted) → TABLE ≤ table
      → Passes (origin_of source edition) ts p t → Stand w count ts → n ≡ type_number t → Answers c p
      → Profile.Profiled (origin_of source edition) table (profiled_report (profiled_of source w count n c))
  counted_told edition w count n table (Err (EndlessNode i)) h a st e x = rw (source_place source edition st i) (profile_endless h a x)
  counted_told edition w count n table (Err ManyUnits) h a st e x =
      subst (λ (i : ℕ). Profile.Profiled (origin_of source edition) table (profile_report (refused many_units) i 0 0))
      (source_nowhere source edition) (profile_many h a x.0 x.1)
  counted_told edition w count n table (Ok m) h a st e x =
      subst (λ (i : ℕ). Profile.Profiled (origin_of source edition) table (profile_report passed i n m)) (source_nowhere source edition)
      (rw (e, x.1) (profile_passed h a x.0 (subst (λ (k : ℕ). k ≤ PAY_COUNT) x.1 x.2)))

  pub profiling_sheet : (w w' : List ℕ) (q : Passed) (s : Seen) (c : Counted) (r : ProfiledAt ℕ) → profiles.Profiled w w' q.program c
      → s ≡ Ok q → r ≡ profiled_of source w' q.program.count q.type_number c → Profiling source w w' s r
  profiling_sheet w w' q s c r x z k = record {
    told = λ edition table l y.
        let p = subst (OfSource (origin_of source edition) w) z y in
        let H = subst (λ (v : List ℕ). Holds p.tokens v q.program p.program) (sym x.table) (holds_without p.holds) in
        subst (λ (r : ProfiledAt ℕ). Profile.Profiled (origin_of source edition) table (profiled_report r)) (sym k)
        (counted_told edition w' q.program.count q.type_number table c l p.passes H.stand p.numbered
        (x.right p.tokens p.program p.holds p.passes.proper.reads));
    rest = ap (λ (v : List ℕ). zeros v 0 TABLE) x.table ∙ wiped_without_variables w;
    long = ap length x.table ∙ length_without w;
  }

  pub profiling_refused : (w : List ℕ) (y : Located Refusal ℕ) (s : Seen) → s ≡ Err y → Profiling source w w s (Err y)
  profiling_refused w y s z = record {
    told = λ edition table h a. profile_refused h (subst (OfSource (origin_of source edition) w) z a);
    rest = refl;
    long = refl;
  }

  -- ---- profile

  module _ (edition : ℕ) where
    pub profile_is_short : (w : List ℕ) → length w < TABLE
        → Profile.Profile (origin_of source edition) w (profile_report (refused short_memory) 0 0 0) w
    unfolding left
    profile_is_short w h = record {
      answer =
          subst (λ (i : ℕ). Profile.Profiled (origin_of source edition) (length w) (profile_report (refused short_memory) i 0 0))
          (source_nowhere source edition) (profile_short h);
      table_left = refl;
    }

    pub profile_is_answered : (w w₁ w₂ w₃ : List ℕ) (s : Seen) (r : ProfiledAt ℕ) → TABLE ≤ length w
        → Examined (origin_of source edition) w w₁ s → Profiling source w₁ w₂ s r → w₃ ≡ zeros w₂ 0 TABLE
        → Profile.Profile (origin_of source edition) w (profiled_report r) w₃
    profile_is_answered w w₁ w₂ w₃ s r h x y e =
        let z = y.told edition (length w) h x.told in
        record {
          answer = z;
          table_left = e ∙ y.rest ∙ x.rest ∙ zeros_cleared TABLE w h ∙ sym (profiled_left (source_lawful source edition) h z TABLE w);
        }
