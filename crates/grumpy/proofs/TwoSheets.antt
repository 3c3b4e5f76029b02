-- The services for two sheets: from what is answered for the joined text; that no two answers meet their contracts; and that
-- the line of a told spot is the part of its sheet that is meant.
use denote.Ref.{Bor}
use lib.Dec.{eqb}
use lib.ListN.{length}
use borrow.Author.Tests.{eqb-true, eqb-false}
use mathlib.Core.Bool.{Bool, true, false, cond}
use mathlib.Core.List.{List}
use mathlib.Core.Path.{◌≡◌, refl, sym, subst}
use Prim.Native.Nat.{ℕ, ◌≤◌}
use Rattle.std.proofs.Common.{Err}
use Rattle.language.specs.Answers.{CheckReport, Check, RunReport, Run}
use Rattle.language.specs.Edition.{text_in, pair_in}
use Rattle.language.specs.Pairs.{joined, Place}
use Rattle.language.specs.Profile.{ProfileReport, Profile}
use Rattle.language.proofs.Answers.OneAnswer.{one_check, one_run}
use Rattle.language.proofs.Answers.Editions.{pair_in_lawful}
use Rattle.language.proofs.Answers.Pairs.{check_moved, run_moved, pair_check, pair_run}
use Rattle.language.proofs.Profiles.OneProfile.{one_profile}
use Rattle.language.proofs.Profiles.TwoSheets.{profile_moved, pair_profile}
use Rattle.language.proofs.Pairs.Places.{Inside}
use Rattle.language.proofs.Pairs.Told.{checked_inside, ran_inside}
use Rattle.numbers.specs.declared.Refusal.{Refusal}
use Rattle.pairs.specs.Spots.{meant, Part, Shows}
use Rattle.pairs.specs.declared.Spot.{Spot}
use Rattle.grumpy.proofs.Apart.{same_pair_checked, same_pair_profiled, same_pair_ran}
use Rattle.grumpy.specs.Reports.{CheckedAt, ProfiledAt, RanAt}
use Rattle.grumpy.specs.Reports.{checked_report, ran_report, profiled_report, pair_checked_report, pair_ran_report, pair_profiled_report}

-- ---- from the joined text

pub check_paired : (edition : ℕ) (first second table table' : List ℕ) (a : CheckedAt ℕ) (r : CheckedAt Spot)
    → Check (text_in edition (joined first second)) table (checked_report a) table'
    → pair_checked_report r ≡ check_moved first second (checked_report a)
    → Check (pair_in edition first second) table (pair_checked_report r) table'
check_paired edition first second table table' a r x e =
    subst (λ (y : CheckReport Place). Check (pair_in edition first second) table y table') (sym e) (pair_check edition first second x)

pub run_paired : (edition : ℕ) (first second table work out table' work' out' : List ℕ) (allowance : ℕ) (a : RanAt ℕ) (r : RanAt Spot)
    → Run (text_in edition (joined first second)) table work out allowance (ran_report a) table' work' out'
    → pair_ran_report r ≡ run_moved first second (ran_report a)
    → Run (pair_in edition first second) table work out allowance (pair_ran_report r) table' work' out'
run_paired edition first second table work out table' work' out' allowance a r x e =
    subst (λ (y : RunReport Place). Run (pair_in edition first second) table work out allowance y table' work' out') (sym e)
    (pair_run edition first second x)

pub profile_paired : (edition : ℕ) (first second table table' : List ℕ) (a : ProfiledAt ℕ) (r : ProfiledAt Spot)
    → Profile (text_in edition (joined first second)) table (profiled_report a) table'
    → pair_profiled_report r ≡ profile_moved first second (profiled_report a)
    → Profile (pair_in edition first second) table (pair_profiled_report r) table'
profile_paired edition first second table table' a r x e =
    subst (λ (y : ProfileReport Place). Profile (pair_in edition first second) table y table') (sym e) (pair_profile edition first second x)

-- ---- one answer

pub check_pair_determined : {edition : ℕ} {first second table t' u' : List ℕ} (r q : CheckedAt Spot)
    → Check (pair_in edition first second) table (pair_checked_report r) t' → Check (pair_in edition first second) table (pair_checked_report q) u'
    → (r ≡ q) × (t' ≡ u')
check_pair_determined {edition} {first} {second} r q a b =
    let e = one_check (pair_in_lawful edition first second) a b in
    (same_pair_checked r q e.0, e.1)

pub profile_pair_determined : {edition : ℕ} {first second table t' u' : List ℕ} (r q : ProfiledAt Spot)
    → Profile (pair_in edition first second) table (pair_profiled_report r) t' → Profile (pair_in edition first second) table (pair_profiled_report q) u'
    → (r ≡ q) × (t' ≡ u')
profile_pair_determined {edition} {first} {second} r q a b =
    let e = one_profile (pair_in_lawful edition first second) a b in
    (same_pair_profiled r q e.0, e.1)

pub run_pair_determined : {edition : ℕ} {first second table work output : List ℕ} {allowance : ℕ} {t' w' o' t'' w'' o'' : List ℕ} (r q : RanAt Spot)
    → Run (pair_in edition first second) table work output allowance (pair_ran_report r) t' w' o'
    → Run (pair_in edition first second) table work output allowance (pair_ran_report q) t'' w'' o'' → (r ≡ q) × (t' ≡ t'') × (w' ≡ w'') × (o' ≡ o'')
run_pair_determined {edition} {first} {second} r q a b =
    let e = one_run (pair_in_lawful edition first second) a b in
    (same_pair_ran r q e.0, e.1, e.2, e.3)

-- ---- the line

-- the sheet with this number, as it was lent
abbrev pub lent : Bor (List ℕ) → Bor (List ℕ) → ℕ → Bor (List ℕ)
lent first second n = cond (eqb n 2) second first

pub line_shown : (first second : Bor (List ℕ)) (x : Spot) (r : Bor (List ℕ)) → Shows first second x r
    → Inside first.now second.now (meant x) → Part (lent first second x.sheet) x.begin x.end r
line_shown first second x r s i = go (eqb x.sheet 2) refl i.within
  where
    go : (b : Bool) → eqb x.sheet 2 ≡ b → x.end ≤ length (cond b second.now first.now)
        → Part (cond b second first) x.begin x.end r
    go true e h = (s.in_second (eqb-true x.sheet 2 e)).whole i.ordered h
    go false e h = (s.in_first (eqb-false x.sheet 2 e)).whole i.ordered h

-- of a refusal by check
pub check_line : (edition : ℕ) (first second : Bor (List ℕ)) {table table' : List ℕ} (y : Refusal) (x : Spot) (r : Bor (List ℕ))
    → Check (pair_in edition first.now second.now) table (pair_checked_report (Err (record { why = y; place = x }))) table'
    → Shows first second x r → Part (lent first second x.sheet) x.begin x.end r
check_line edition first second y x r c s = line_shown first second x r s (checked_inside edition first.now second.now c.answer)

-- of a refusal or a stop by run
pub run_line : (edition : ℕ) (first second : Bor (List ℕ)) {table work out table' work' out' : List ℕ} {allowance : ℕ} (a : RanAt Spot) (x : Spot)
    (r : Bor (List ℕ)) → Run (pair_in edition first.now second.now) table work out allowance (pair_ran_report a) table' work' out'
    → (pair_ran_report a).place ≡ meant x → Shows first second x r → Part (lent first second x.sheet) x.begin x.end r
run_line edition first second a x r c e s =
    line_shown first second x r s (subst (Inside first.now second.now) e (ran_inside edition first.now second.now c.answer))
