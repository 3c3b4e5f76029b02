-- From a sheet that was examined to the answers of the two services.
use mathlib.Core.List.{List, []}
use mathlib.Core.Logic.{◌⊎◌}
use mathlib.Core.Option.{some}
use mathlib.Core.Path.{◌≡◌, refl, sym, ap, subst, ◌∙◌}
use Prim.Native.Nat.{ℕ, ◌≤◌, ◌<◌}
use Rattle.std.proofs.Common.{Result, Ok, Err}
use Rattle.std.specs.Prelude.{MatchResult}
use lib.ListN.{length}
use Rattle.language.specs.Sizes.{TABLE, WORK, ALLOWANCE}
use Rattle.language.specs.Tokens.{Token}
use Rattle.language.specs.Trees.{Ty, Program}
use Rattle.language.specs.Meaning.{run, type_number}
use Rattle.language.specs.Numbers as Numbers
use Rattle.language.specs.Numbers.{passed, refused, short_memory, large_allowance}
use Rattle.language.specs.Answers as Answers
use Rattle.language.specs.Answers.{Origin, Passes, ending, left, cleared, check_report, CheckReport, Checked, check_short, check_refused}
use Rattle.language.specs.Answers.{check_passed, Check, Lent, Enough, RunReport, refusal, run_short, run_large, run_refused, run_ended, Run}
use Rattle.numbers.specs.declared.Refusal.{Refusal}
use Rattle.numbers.specs.declared.Stop.{Stop}
use Rattle.sheets.specs.declared.Passed.{Passed}
use Rattle.layout.specs.declared.values.Value.{Value}
use Rattle.layout.specs.Values.{meant}
use Rattle.layout.specs.Table.{zeros}
use Rattle.layout.specs.Names.{Stand}
use Rattle.layout.proofs.Wiped.{zeros_cleared}
use Rattle.resolver.specs.Resolves.{Resolves}
use Rattle.sheets.specs.Sources.{origin_of, place_of}
use Rattle.sheets.specs.Sheets.{OfSource, Examined}
use Rattle.sheets.specs.declared.Source.{Source}
use Rattle.numbers.specs.declared.Located.{Located}
use Rattle.sheets.specs.Sheets.{Seen}
use Rattle.sheets.proofs.SourceLaws.{source_lawful, source_nowhere, source_place}
use Rattle.grumpy.specs.Reports.{RanAt, same, end_told, checked_report, ran_report}
use Rattle.grumpy.specs.Outcomes.{end_meant, ending_meant, end_at, ending_at, EndsAt, Executed, ran_of, Runnable, Reported, Answered}
use Rattle.grumpy.specs.declared.answers.Ending.{Ending}
use Rattle.grumpy.proofs.Leaving.{checked_left, ran_left}
use Rattle.grumpy.proofs.Resolving.{resolved_rest}

-- ---- check

-- either kind of source, in an edition
module _ (source : Source) (edition : ℕ) where
  abbrev o : Origin ℕ
  o = origin_of source edition

  pub check_is_short : (w : List ℕ) → length w < TABLE → Check (origin_of source edition) w (check_report (refused short_memory) 0 0) w
  unfolding left
  check_is_short w h = record {
    answer = subst (λ (i : ℕ). Checked o (length w) (check_report (refused short_memory) i 0)) (source_nowhere source edition) (check_short h);
    table_left = refl;
  }

  module _ (w w₁ w₂ : List ℕ) (s : Seen) (x : Examined (origin_of source edition) w w₁ s) (h : TABLE ≤ length w)
      (e : w₂ ≡ zeros w₁ 0 TABLE) where
    cleared_table : w₂ ≡ cleared TABLE w
    cleared_table = e ∙ x.rest ∙ zeros_cleared TABLE w h

    check_is : (r : CheckReport ℕ) → Checked o (length w) r → Check o w r w₂
    check_is r a = record { answer = a; table_left = cleared_table ∙ sym (checked_left (source_lawful source edition) h a TABLE w) }

    pub check_is_passed : (P : Passed) → s ≡ Ok P → Check (origin_of source edition) w (checked_report (Ok P.type_number)) w₂
    check_is_passed P q =
        let p = subst (OfSource o w₁) q x.told in
        let a = subst (λ (n : ℕ). Checked o (length w) (check_report passed o.nowhere n)) (sym p.numbered) (check_passed h p.passes) in
        check_is _ (subst (λ (i : ℕ). Checked o (length w) (check_report passed i P.type_number)) (source_nowhere source edition) a)

    pub check_is_refused : (y : Located Refusal ℕ) → s ≡ Err y → Check (origin_of source edition) w (checked_report (Err y)) w₂
    check_is_refused y q = check_is _ (check_refused h (subst (OfSource o w₁) q x.told))

-- ---- what comes of a sheet that was examined

-- an examined sheet can be run
pub examined_runnable : (source : Source) (edition : ℕ) (w w₁ work : List ℕ) (allowance : ℕ) (s : Seen)
    → Examined (origin_of source edition) w w₁ s → WORK ≤ length work → allowance ≤ ALLOWANCE → Runnable w₁ work allowance s
examined_runnable source edition w w₁ work allowance (Ok P) x h k =
    let p = x.told in
    record {
      tokens = p.tokens;
      program = p.program;
      type = p.type;
      holds = p.holds;
      proper = p.passes.proper;
      long = h;
      allowed = k;
    }
examined_runnable source edition w w₁ work allowance (Err e) x h k = h

-- an end whose stop is told at a place that was found before
module _ (m : ℕ → ℕ) (place : ℕ) where
  abbrev made : Result Value (Located Stop ℕ) → ℕ → ℕ → Ending ℕ
  made z u k = record { end = z; units = u; printed = k }

  end_there : (z : Result Value (Located Stop ℕ)) (y : Result Value (Located Stop ℕ))
      → MatchResult z (λ v. place ≡ 0) (λ s. place ≡ m s.place)
      → MatchResult z (λ v. y ≡ Ok v) (λ s. (x : ℕ) × (x ≡ place) × (y ≡ Err (record { why = s.why; place = x }))) → y ≡ end_at m z
  end_there (Ok v) y h a = a
  end_there (Err s) y h a = a.2 ∙ ap (λ (x : ℕ). end_at (λ (i : ℕ). x) (Err s)) (a.1 ∙ h)

  pub ends_there : (e r : Ending ℕ) → MatchResult e.end (λ v. place ≡ 0) (λ s. place ≡ m s.place) → EndsAt (λ i x. x ≡ place) e r
      → r ≡ ending_at m e
  ends_there e r h a =
      ap (λ (z : Result Value (Located Stop ℕ)). made z r.units r.printed) (end_there e.end r.end h a.2)
      ∙ ap (λ (u : ℕ). made (end_at m e.end) u r.printed) a.0 ∙ ap (λ (k : ℕ). made (end_at m e.end) e.units k) a.1

module _ (source : Source) where
  -- what is reported of a value
  abbrev value_report : ℕ → ℕ → Value → ℕ → ℕ → RunReport ℕ
  value_report i n v u k = record { told = passed; place = i; type = n; value = meant v; units = u; printed = k }

  -- the answer for a program that ended is what is told of its end
  ended_ran : (edition : ℕ) (w : List ℕ) (l : Lent) {ts : List Token} {p : Program} {t : Ty} (count n : ℕ) (bs : List ℕ) (e : Ending ℕ)
      → Enough l → l.allowance ≤ ALLOWANCE → Passes (origin_of source edition) ts p t
      → ending l.allowance (run p l.allowance l.output) ≡ some (ending_meant e bs) → Stand w count ts → n ≡ type_number t
      → e.printed ≡ length bs → Answers.Ran (origin_of source edition) l (ran_report (ran_of source w count n e)) bs
  ended_ran edition w l {ts} {p} {t} count n bs e g h passes x s a b = go e.end x
    where
      go : (z : Result Value (Located Stop ℕ)) → ending l.allowance (run p l.allowance l.output) ≡ some (end_meant z e.units bs)
          → Answers.Ran (origin_of source edition) l (end_told 0 same n e.units e.printed (end_at (place_of source w count) z)) bs
      go (Ok v) x =
          subst (λ (i : ℕ). Answers.Ran (origin_of source edition) l (value_report i n v e.units e.printed) bs)
          (source_nowhere source edition) (rw (a, b) (run_ended g h passes x))
      go (Err y) x = rw (a, b, source_place source edition s y.place) (run_ended g h passes x)

  pub answered_sheet : (w w' work out work' out' : List ℕ) (P : Passed) (allowance : ℕ) (s : Seen) (e : Ending ℕ) (r : RanAt ℕ)
      → Resolves w w' P.program → Executed w' work out work' out' P.program allowance e → s ≡ Ok P
      → r ≡ ran_of source w' P.program.count P.type_number e
      → Answered source w w' work out work' out' allowance s r
  answered_sheet w w' work out work' out' P allowance s e r n x z k = record {
    told = λ edition l y g o m h.
        let p = subst (OfSource (origin_of source edition) w) z y in
        let H = n.holds p.tokens p.program p.holds in
        let m' = n.resolved p.tokens p.program p.holds p.passes.proper.reads in
        let b = x.told p.tokens p.program p.type H p.passes.proper.typed m' in
        record {
          printed = b.printed;
          ran =
              rw k
              (ended_ran edition w' l P.program.count P.type_number b.printed e g (rw m h) p.passes (rw (m, o) b.ends) H.stand p.numbered
              b.counted);
          output = b.output;
        };
    rest = resolved_rest n;
    cleared = x.cleared;
  }

  pub answered_refused : (w work out work' out' : List ℕ) (allowance : ℕ) (s : Seen) (y : Located Refusal ℕ) (r : RanAt ℕ)
      → r ≡ Err y → work' ≡ zeros work 0 WORK → out' ≡ out → s ≡ Err y
      → Answered source w w work out work' out' allowance s r
  answered_refused w work out work' out' allowance s y r q x k z = record {
    told = λ edition l a e o m h.
        let p = subst (OfSource (origin_of source edition) w) z a in
        subst (Reported (origin_of source edition) l out out') (sym q) record { printed = []; ran = run_refused e (rw m h) p; output = k };
    rest = refl;
    cleared = x;
  }

-- ---- run

module _ (source : Source) (edition : ℕ) where
  abbrev lent : List ℕ → List ℕ → List ℕ → ℕ → Lent
  lent w work out allowance = record { table = length w; work = length work; output = length out; allowance = allowance }

  -- what is told of nothing is told at 0
  told_at_0 : (w work out : List ℕ) (allowance : ℕ) (y : Numbers.Refusal)
      → Answers.Ran (origin_of source edition) (lent w work out allowance) (refusal y (origin_of source edition).nowhere) []
      → Answers.Ran (origin_of source edition) (lent w work out allowance) (refusal y 0) []
  told_at_0 w work out allowance y a =
      subst (λ (i : ℕ). Answers.Ran (origin_of source edition) (lent w work out allowance) (refusal y i) [])
      (source_nowhere source edition) a

  pub run_is_short : (w work out : List ℕ) (allowance : ℕ) → (length w < TABLE) ⊎ (length work < WORK)
      → Run (origin_of source edition) w work out allowance (refusal short_memory 0) w work out
  unfolding left
  run_is_short w work out allowance h = record {
    printed = [];
    answer = told_at_0 w work out allowance short_memory (run_short h);
    table_left = refl;
    work_left = refl;
    output_left = refl;
  }

  pub run_is_large : (w work out w' work' : List ℕ) (allowance : ℕ) → TABLE ≤ length w → WORK ≤ length work → ALLOWANCE < allowance
      → w' ≡ zeros w 0 TABLE → work' ≡ zeros work 0 WORK
      → Run (origin_of source edition) w work out allowance (refusal large_allowance 0) w' work' out
  unfolding left
  run_is_large w work out w' work' allowance a b h e k = record {
    printed = [];
    answer = told_at_0 w work out allowance large_allowance (run_large record { table = a; work = b } h);
    table_left = e ∙ zeros_cleared TABLE w a;
    work_left = k ∙ zeros_cleared WORK work b;
    output_left = refl;
  }

  pub run_is_answered : (w work out w₁ w₂ w₃ work' out' : List ℕ) (allowance : ℕ) (s : Seen) (r : RanAt ℕ)
      → TABLE ≤ length w → WORK ≤ length work → allowance ≤ ALLOWANCE → Examined (origin_of source edition) w w₁ s
      → Answered source w₁ w₂ work out work' out' allowance s r → w₃ ≡ zeros w₂ 0 TABLE
      → Run (origin_of source edition) w work out allowance (ran_report r) w₃ work' out'
  run_is_answered w work out w₁ w₂ w₃ work' out' allowance s r a b h x y e =
      let l = lent w work out allowance in
      let n : Enough l = record { table = a; work = b } in
      let z = y.told edition l x.told n refl refl h in
      let k = ran_left (source_lawful source edition) n z.ran in
      record {
        printed = z.printed;
        answer = z.ran;
        table_left = cleared_table source edition w w₁ w₃ s x a (e ∙ y.rest) ∙ sym (k TABLE w);
        work_left = y.cleared ∙ zeros_cleared WORK work b ∙ sym (k WORK work);
        output_left = z.output;
      }
