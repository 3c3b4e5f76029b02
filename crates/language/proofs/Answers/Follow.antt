-- An origin follows another where it comes to the tokens that the other comes to, denies what that denies, and tells places
-- alike. Then every answer of the other is an answer of it; and of two lawful ones each follows the other.
use mathlib.Core.List.{List}
use mathlib.Core.Logic.{◌⊎◌, inl, inr}
use mathlib.Core.Path.{◌≡◌, sym, subst, ◌∙◌}
use Prim.Native.Nat.{ℕ}
use Rattle.language.specs.Sizes.{Sizes}
use Rattle.language.specs.Tokens.{Token}
use Rattle.language.specs.Trees.{Ty, Program}
use Rattle.language.specs.Numbers.{Refusal}
use Rattle.language.specs.Answers.{Origin, Spot, at, nowhere, place_in, PassesUnder, RefusedUnder, by_origin, by_tokens}
use Rattle.language.specs.Answers.{CheckReport, check_report, CheckedUnder, check_short, check_refused, check_passed, CheckUnder}
use Rattle.language.specs.Answers.{RunReport, Lent, RanUnder, run_short, run_large, run_refused, run_ended, RunUnder}
use Rattle.language.specs.Writing.{WriteReport, write_report, WroteUnder, write_short, write_refused, write_long, write_passed, WriteUnder}
use Rattle.language.specs.Writing.{StoresUnder, store_short, store_refused, store_long, store_passed, StoreUnder}
use Rattle.language.specs.Profile.{ProfileReport, profile_report, ProfiledUnder, profile_short, profile_refused, profile_endless}
use Rattle.language.specs.Profile.{profile_many, profile_passed, ProfileUnder}
use Rattle.language.proofs.Answers.Origins.{LawfulUnder}

pub record Follows {P : Type 0} (o q : Origin P) : Type 0 where
  pub gives : {ts : List Token} → o.gives ts → q.gives ts
  pub denies : {r : Refusal} {x : P} → o.denies r x → q.denies r x
  pub nowhere : o.nowhere ≡ q.nowhere
  pub at : (ts : List Token) (i : ℕ) → o.at ts i ≡ q.at ts i

module _ {P : Type 0} {o q : Origin P} (f : Follows o q) where
  same_spot : (ts : List Token) (s : Spot) → place_in q ts s ≡ place_in o ts s
  same_spot ts nowhere = sym f.nowhere
  same_spot ts (at i) = sym (f.at ts i)

  pub passes_follow : {σ : Sizes} {ts : List Token} {p : Program} {t : Ty} → PassesUnder σ o ts p t → PassesUnder σ q ts p t
  passes_follow x = record { given = f.gives x.given; proper = x.proper }

  pub refused_follow : {σ : Sizes} {r : Refusal} {x : P} → RefusedUnder σ o r x → RefusedUnder σ q r x
  refused_follow (by_origin d) = by_origin (f.denies d)
  refused_follow {σ} (by_tokens {ts} {r} {s} g d) = subst (RefusedUnder σ q r) (same_spot ts s) (by_tokens (f.gives g) d)

  -- ---- check

  check_at : {σ : Sizes} {table : ℕ} (r : CheckReport P) {x y : P} → x ≡ y → CheckedUnder σ q table (check_report r.told x r.type)
      → CheckedUnder σ q table (check_report r.told y r.type)
  check_at {σ} {table} r e a = subst (λ (x : P). CheckedUnder σ q table (check_report r.told x r.type)) e a

  pub checked_follow : {σ : Sizes} {table : ℕ} {r : CheckReport P} → CheckedUnder σ o table r → CheckedUnder σ q table r
  checked_follow {r = r} (check_short h) = check_at r (sym f.nowhere) (check_short h)
  checked_follow (check_refused h x) = check_refused h (refused_follow x)
  checked_follow {r = r} (check_passed h x) = check_at r (sym f.nowhere) (check_passed h (passes_follow x))

  -- its contract, the table left included
  pub check_follow : {σ : Sizes} {table table' : List ℕ} {r : CheckReport P} → CheckUnder σ o table r table' → CheckUnder σ q table r table'
  check_follow x = record { answer = checked_follow x.answer; table_left = x.table_left }

  -- ---- run

  abbrev at_place : P → RunReport P → RunReport P
  at_place x r = record { told = r.told; place = x; type = r.type; value = r.value; units = r.units; printed = r.printed }

  run_at : {σ : Sizes} {l : Lent} (r : RunReport P) {bs : List ℕ} {x y : P} → x ≡ y → RanUnder σ q l (at_place x r) bs → RanUnder σ q l (at_place y r) bs
  run_at {σ} {l} r {bs} e a = subst (λ (x : P). RanUnder σ q l (at_place x r) bs) e a

  pub ran_follow : {σ : Sizes} {l : Lent} {r : RunReport P} {bs : List ℕ} → RanUnder σ o l r bs → RanUnder σ q l r bs
  ran_follow {r = r} (run_short h) = run_at r (sym f.nowhere) (run_short h)
  ran_follow {r = r} (run_large h a) = run_at r (sym f.nowhere) (run_large h a)
  ran_follow (run_refused h a x) = run_refused h a (refused_follow x)
  ran_follow {r = r} (run_ended {ts = ts} {e = e} h a x z) =
      run_at r (same_spot ts e.spot) (run_ended h a (passes_follow x) z)

  -- its contract, memories and output included
  pub run_follow : {σ : Sizes} {table work output table' work' output' : List ℕ} {allowance : ℕ} {r : RunReport P}
      → RunUnder σ o table work output allowance r table' work' output' → RunUnder σ q table work output allowance r table' work' output'
  run_follow x = record {
    printed = x.printed;
    answer = ran_follow x.answer;
    table_left = x.table_left;
    work_left = x.work_left;
    output_left = x.output_left;
  }

  -- ---- write

  write_at : {σ : Sizes} {table output : ℕ} (r : WriteReport P) {bs : List ℕ} {x y : P} → x ≡ y
      → WroteUnder σ q table output (write_report r.told x r.written) bs → WroteUnder σ q table output (write_report r.told y r.written) bs
  write_at {σ} {table} {output} r {bs} e a = subst (λ (x : P). WroteUnder σ q table output (write_report r.told x r.written) bs) e a

  pub wrote_follow : {σ : Sizes} {table output : ℕ} {r : WriteReport P} {bs : List ℕ} → WroteUnder σ o table output r bs → WroteUnder σ q table output r bs
  wrote_follow {r = r} (write_short h) = write_at r (sym f.nowhere) (write_short h)
  wrote_follow (write_refused h x) = write_refused h (refused_follow x)
  wrote_follow {r = r} (write_long h x k) = write_at r (sym f.nowhere) (write_long h (passes_follow x) k)
  wrote_follow {r = r} (write_passed h x k) = write_at r (sym f.nowhere) (write_passed h (passes_follow x) k)

  -- its contract, table and output included
  pub write_follow : {σ : Sizes} {table output table' output' : List ℕ} {r : WriteReport P} → WriteUnder σ o table output r table' output'
      → WriteUnder σ q table output r table' output'
  write_follow x = record { text = x.text; answer = wrote_follow x.answer; table_left = x.table_left; output_left = x.output_left }

  -- ---- store

  store_at : {σ : Sizes} {table output : ℕ} (r : WriteReport P) {bs : List ℕ} {x y : P} → x ≡ y
      → StoresUnder σ q table output (write_report r.told x r.written) bs → StoresUnder σ q table output (write_report r.told y r.written) bs
  store_at {σ} {table} {output} r {bs} e a = subst (λ (x : P). StoresUnder σ q table output (write_report r.told x r.written) bs) e a

  pub stores_follow : {σ : Sizes} {table output : ℕ} {r : WriteReport P} {bs : List ℕ} → StoresUnder σ o table output r bs → StoresUnder σ q table output r bs
  stores_follow {r = r} (store_short h) = store_at r (sym f.nowhere) (store_short h)
  stores_follow (store_refused h x) = store_refused h (refused_follow x)
  stores_follow {r = r} (store_long h x k) = store_at r (sym f.nowhere) (store_long h (passes_follow x) k)
  stores_follow {r = r} (store_passed h x k) = store_at r (sym f.nowhere) (store_passed h (passes_follow x) k)

  -- its contract, table and output included
  pub store_follow : {σ : Sizes} {table output table' output' : List ℕ} {r : WriteReport P} → StoreUnder σ o table output r table' output'
      → StoreUnder σ q table output r table' output'
  store_follow x = record { form = x.form; answer = stores_follow x.answer; table_left = x.table_left; output_left = x.output_left }

  -- ---- profile

  profile_at : {σ : Sizes} {table : ℕ} (r : ProfileReport P) {x y : P} → x ≡ y
      → ProfiledUnder σ q table (profile_report r.told x r.type r.count) → ProfiledUnder σ q table (profile_report r.told y r.type r.count)
  profile_at {σ} {table} r e a = subst (λ (x : P). ProfiledUnder σ q table (profile_report r.told x r.type r.count)) e a

  pub profiled_follow : {σ : Sizes} {table : ℕ} {r : ProfileReport P} → ProfiledUnder σ o table r → ProfiledUnder σ q table r
  profiled_follow {r = r} (profile_short h) = profile_at r (sym f.nowhere) (profile_short h)
  profiled_follow (profile_refused h x) = profile_refused h (refused_follow x)
  profiled_follow {r = r} (profile_endless {ts = ts} {i = i} h x k) = profile_at r (sym (f.at ts i)) (profile_endless h (passes_follow x) k)
  profiled_follow {r = r} (profile_many h x k m) = profile_at r (sym f.nowhere) (profile_many h (passes_follow x) k m)
  profiled_follow {r = r} (profile_passed h x k m) = profile_at r (sym f.nowhere) (profile_passed h (passes_follow x) k m)

  -- its contract, the table left included
  pub profile_follow : {σ : Sizes} {table table' : List ℕ} {r : ProfileReport P} → ProfileUnder σ o table r table' → ProfileUnder σ q table r table'
  profile_follow x = record { answer = profiled_follow x.answer; table_left = x.table_left }

-- ---- further, and the other way

pub follows_on : {P : Type 0} {o q s : Origin P} → Follows o q → Follows q s → Follows o s
follows_on f g = record {
  gives = λ x. g.gives (f.gives x);
  denies = λ x. g.denies (f.denies x);
  nowhere = f.nowhere ∙ g.nowhere;
  at = λ ts i. f.at ts i ∙ g.at ts i;
}

module _ {σ : Sizes} {P : Type 0} {o q : Origin P} (law : LawfulUnder σ o) (law' : LawfulUnder σ q) (f : Follows o q) where
  gives_back : {ts : List Token} → q.gives ts → ((us : List Token) × o.gives us) ⊎ ((r : Refusal) × (x : P) × o.denies r x) → o.gives ts
  gives_back {ts} g (inl (us, h)) = subst o.gives (law'.one_list us ts (f.gives h) g) h
  gives_back {ts} g (inr (r, x, d)) = absurd (law'.never_both ts r x g (f.denies d))

  denies_back : {r : Refusal} {x : P} → q.denies r x → ((us : List Token) × o.gives us) ⊎ ((r : Refusal) × (x : P) × o.denies r x)
      → o.denies r x
  denies_back {r} {x} d (inl (us, h)) = absurd (law'.never_both us r x (f.gives h) d)
  denies_back {r} {x} d (inr (s, y, e)) =
      let z = law'.one_denial s r y x (f.denies e) d in
      subst (λ (x : P). o.denies r x) z.1 (subst (λ (r : Refusal). o.denies r y) z.0 e)

  pub follows_back : Follows q o
  follows_back = record {
    gives = λ g. gives_back g law.some;
    denies = λ d. denies_back d law.some;
    nowhere = sym f.nowhere;
    at = λ ts i. sym (f.at ts i);
  }
