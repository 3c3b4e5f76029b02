-- What is answered under some sizes is answered under larger ones, with the table memory that those ask for (R13.4): check tells the
-- same number, place and type, run the same end at the same place, value, units and bytes, write and store the same bytes, profile the
-- same number, place, type and count. Only what is a matter of size may change: 10, 14, 30, 34, 40 and 44. It is said over any origin;
-- `Wider` has the three there are.
use mathlib.Core.Bool.{false}
use mathlib.Core.List.{List}
use mathlib.Core.Path.{◌≡◌, refl, sym, subst}
use Prim.Native.Nat.{ℕ, ◌≤◌}
use native.Mathlib.Omega.{arith}
use lib.ListN.{length}
use Rattle.language.specs.Sizes.{Sizes}
use Rattle.language.specs.Tokens.{Token}
use Rattle.language.specs.Trees.{Ty, Program}
use Rattle.language.specs.Numbers.{Refusal}
use Rattle.language.specs.Answers.{Origin, Spot, nowhere, at, place_in, DeniedUnder, unread, faulty, PassesUnder, RefusedUnder, by_origin, by_tokens}
use Rattle.language.specs.Answers.{left, CheckReport, check_report, CheckedUnder, check_short, check_refused, check_passed, CheckUnder}
use Rattle.language.specs.Answers.{Lent, EnoughUnder, RunReport, RanUnder, run_short, run_large, run_refused, run_ended, RunUnder}
use Rattle.language.specs.Writing.{WriteReport, write_report, WroteUnder, write_short, write_refused, write_long, write_passed}
use Rattle.language.specs.Writing.{StoresUnder, store_short, store_refused, store_long, store_passed}
use Rattle.language.specs.Profile.{ProfileReport, profile_report, ProfiledUnder, profile_short, profile_refused, profile_endless}
use Rattle.language.specs.Profile.{profile_many, profile_passed, ProfileUnder}
use Rattle.language.proofs.Sizes.Larger.{Larger, of_both, of_size, told_of_size}
use Rattle.language.proofs.Sizes.TypesLarger.{type_larger}
use Rattle.language.proofs.Sizes.FaultsLarger.{has_fault_larger}
use Rattle.language.proofs.Sizes.Wider.{Wider}

-- a run lent as many words of table memory, all else as it was
abbrev pub with_table : ℕ → Lent → Lent
with_table n k = record { table = n; work = k.work; output = k.output; allowance = k.allowance }

module _ {σ τ : Sizes} (l : Larger σ τ) {P : Type 0} {o q : Origin P} (w : Wider o q) where
  same_spot : (ts : List Token) (s : Spot) → place_in q ts s ≡ place_in o ts s
  same_spot ts nowhere = sym w.nowhere
  same_spot ts (at i) = sym (w.at ts i)

  pub passes_larger : {ts : List Token} {p : Program} {t : Ty} → PassesUnder σ o ts p t → PassesUnder τ q ts p t
  passes_larger {p = p} {t = t} a = record {
    given = w.gives a.given;
    proper = record { reads = a.proper.reads; typed = type_larger l p t a.proper.typed };
  }

  denied_larger : {ts : List Token} {r : Refusal} {s : Spot} → of_size r ≡ false → DeniedUnder σ ts r s → DeniedUnder τ ts r s
  denied_larger k (unread h) = unread h
  denied_larger k (faulty {p} {r} {i} a f) = faulty a (has_fault_larger l p r i f k)

  pub refused_larger : {r : Refusal} {x : P} → of_size r ≡ false → RefusedUnder σ o r x → RefusedUnder τ q r x
  refused_larger k (by_origin d) = by_origin (w.denies k d)
  refused_larger k (by_tokens {ts} {r} {s} g d) = subst (RefusedUnder τ q r) (same_spot ts s) (by_tokens (w.gives g) (denied_larger k d))

  -- ---- check

  check_at : {table : ℕ} (r : CheckReport P) {x y : P} → x ≡ y → CheckedUnder τ q table (check_report r.told x r.type)
      → CheckedUnder τ q table (check_report r.told y r.type)
  check_at {table} r e a = subst (λ (x : P). CheckedUnder τ q table (check_report r.told x r.type)) e a

  pub checked_larger : {table : ℕ} (table' : ℕ) {r : CheckReport P} → τ.table ≤ table' → told_of_size r.told ≡ false
      → CheckedUnder σ o table r → CheckedUnder τ q table' r
  checked_larger n h k (check_short a) = of_both k
  checked_larger n h k (check_refused b a) = check_refused h (refused_larger k a)
  checked_larger n {r} h k (check_passed b a) = check_at r (sym w.nowhere) (check_passed h (passes_larger a))

  -- its contract
  pub check_larger : {table after : List ℕ} (table' : List ℕ) {r : CheckReport P} → τ.table ≤ length table' → told_of_size r.told ≡ false
      → CheckUnder σ o table r after → CheckUnder τ q table' r (left r.told τ.table table')
  check_larger table' h k a = record { answer = checked_larger (length table') h k a.answer; table_left = refl }

  -- ---- run

  abbrev at_place : P → RunReport P → RunReport P
  at_place x r = record { told = r.told; place = x; type = r.type; value = r.value; units = r.units; printed = r.printed }

  run_at : {k : Lent} (r : RunReport P) {bs : List ℕ} {x y : P} → x ≡ y → RanUnder τ q k (at_place x r) bs → RanUnder τ q k (at_place y r) bs
  run_at {k} r {bs} e a = subst (λ (x : P). RanUnder τ q k (at_place x r) bs) e a

  enough_larger : {k : Lent} (n : ℕ) → τ.table ≤ n → EnoughUnder σ k → EnoughUnder τ (with_table n k)
  enough_larger n h e = record { table = h; work = e.work }

  pub ran_larger : {k : Lent} (n : ℕ) {r : RunReport P} {bs : List ℕ} → τ.table ≤ n → told_of_size r.told ≡ false
      → RanUnder σ o k r bs → RanUnder τ q (with_table n k) r bs
  ran_larger n h z (run_short a) = of_both z
  ran_larger n {r} h z (run_large e a) = run_at r (sym w.nowhere) (run_large (enough_larger n h e) a)
  ran_larger n h z (run_refused e a x) = run_refused (enough_larger n h e) a (refused_larger z x)
  ran_larger n {r} h z (run_ended {ts = ts} {e = y} e a x m) =
      run_at r (same_spot ts y.spot) (run_ended (enough_larger n h e) a (passes_larger x) m)

  -- its contract: of work memory and output the same is left
  pub run_larger : {table work output after work' output' : List ℕ} {allowance : ℕ} (table' : List ℕ) {r : RunReport P}
      → τ.table ≤ length table' → told_of_size r.told ≡ false → RunUnder σ o table work output allowance r after work' output'
      → RunUnder τ q table' work output allowance r (left r.told τ.table table') work' output'
  run_larger table' h z a = record {
    printed = a.printed;
    answer = ran_larger (length table') h z a.answer;
    table_left = refl;
    work_left = a.work_left;
    output_left = a.output_left;
  }

  -- ---- write and store

  write_at : {table output : ℕ} (r : WriteReport P) {bs : List ℕ} {x y : P} → x ≡ y
      → WroteUnder τ q table output (write_report r.told x r.written) bs → WroteUnder τ q table output (write_report r.told y r.written) bs
  write_at {table} {output} r {bs} e a = subst (λ (x : P). WroteUnder τ q table output (write_report r.told x r.written) bs) e a

  pub wrote_larger : {table output : ℕ} (n : ℕ) {r : WriteReport P} {bs : List ℕ} → τ.table ≤ n → told_of_size r.told ≡ false
      → WroteUnder σ o table output r bs → WroteUnder τ q n output r bs
  wrote_larger n h k (write_short a) = of_both k
  wrote_larger n h k (write_refused b a) = write_refused h (refused_larger k a)
  wrote_larger n h k (write_long b a c) = of_both k
  wrote_larger n {r} h k (write_passed b a c) =
      write_at r (sym w.nowhere) (write_passed h (passes_larger a) record { output = c.output; source = omega (arith, c.source, l.source) })

  store_at : {table output : ℕ} (r : WriteReport P) {bs : List ℕ} {x y : P} → x ≡ y
      → StoresUnder τ q table output (write_report r.told x r.written) bs → StoresUnder τ q table output (write_report r.told y r.written) bs
  store_at {table} {output} r {bs} e a = subst (λ (x : P). StoresUnder τ q table output (write_report r.told x r.written) bs) e a

  pub stores_larger : {table output : ℕ} (n : ℕ) {r : WriteReport P} {bs : List ℕ} → τ.table ≤ n → told_of_size r.told ≡ false
      → StoresUnder σ o table output r bs → StoresUnder τ q n output r bs
  stores_larger n h k (store_short a) = of_both k
  stores_larger n h k (store_refused b a) = store_refused h (refused_larger k a)
  stores_larger n h k (store_long b a c) = of_both k
  stores_larger n {r} h k (store_passed b a c) = store_at r (sym w.nowhere) (store_passed h (passes_larger a) c)

  -- ---- profile

  profile_at : {table : ℕ} (r : ProfileReport P) {x y : P} → x ≡ y → ProfiledUnder τ q table (profile_report r.told x r.type r.count)
      → ProfiledUnder τ q table (profile_report r.told y r.type r.count)
  profile_at {table} r e a = subst (λ (x : P). ProfiledUnder τ q table (profile_report r.told x r.type r.count)) e a

  -- what passes the profile passes it with the same type and count; 43 stays at its node, and so does 45
  pub profiled_larger : {table : ℕ} (n : ℕ) {r : ProfileReport P} → τ.table ≤ n → told_of_size r.told ≡ false
      → ProfiledUnder σ o table r → ProfiledUnder τ q n r
  profiled_larger n h k (profile_short a) = of_both k
  profiled_larger n h k (profile_refused b a) = profile_refused h (refused_larger k a)
  profiled_larger n {r} h k (profile_endless {ts = ts} {i = i} b a e) = profile_at r (sym (w.at ts i)) (profile_endless h (passes_larger a) e)
  profiled_larger n {r} h k (profile_many b a e m) = profile_at r (sym w.nowhere) (profile_many h (passes_larger a) e m)
  profiled_larger n {r} h k (profile_passed b a e m) = profile_at r (sym w.nowhere) (profile_passed h (passes_larger a) e m)

  -- its contract
  pub profile_larger : {table after : List ℕ} (table' : List ℕ) {r : ProfileReport P} → τ.table ≤ length table' → told_of_size r.told ≡ false
      → ProfileUnder σ o table r after → ProfileUnder τ q table' r (left r.told τ.table table')
  profile_larger table' h k a = record { answer = profiled_larger (length table') h k a.answer; table_left = refl }
