-- Of every lawful origin and every table memory there is exactly one answer of profile.
use mathlib.Core.Bool.{cond}
use mathlib.Core.List.{List}
use mathlib.Core.Option.{Option, none, some}
use mathlib.Core.Path.{◌≡◌, refl, sym, ap, subst, ◌∙◌}
use Prim.Native.Nat.{ℕ, ◌≤◌, ◌<◌}
use native.Mathlib.Decide.{dec_le}
use native.Mathlib.Omega.{arith}
use lib.Dec.{leb}
use lib.ListN.{length}
use borrow.Author.Tests.{le-leb, lt-leb}
use Rattle.language.specs.Sizes.{Sizes, PAY_COUNT}
use Rattle.language.specs.Tokens.{Token}
use Rattle.language.specs.Trees.{Ty, Program}
use Rattle.language.specs.Meaning.{type_number}
use Rattle.language.specs.Numbers.{short_memory, endless_node, many_units, passed, refused}
use Rattle.language.specs.Answers.{Origin, PassesUnder, left}
use Rattle.language.specs.Profile.{first_endless, units_most, ProfileReport, profile_report, ProfiledUnder, profile_short}
use Rattle.language.specs.Profile.{profile_refused, profile_endless, profile_many, profile_passed, ProfileUnder}
use Rattle.language.proofs.Answers.Origins.{LawfulUnder, Fate, fails, passes, Comes, fate, fate_comes, passes_is, refused_is}

-- ---- one answer

-- what is told of a program that passed, by its first endless node and its count
unfoldable pub tells : {P : Type 0} → Origin P → List Token → ℕ → Option ℕ → ℕ → ProfileReport P
tells o ts t (some i) n = profile_report (refused endless_node) (o.at ts i) 0 0
tells o ts t none n =
    cond (leb n PAY_COUNT) (profile_report passed o.nowhere t n) (profile_report (refused many_units) o.nowhere 0 0)

module _ {P : Type 0} (o : Origin P) where
  told_few : (ts : List Token) (t n : ℕ) → n ≤ PAY_COUNT → tells o ts t none n ≡ profile_report passed o.nowhere t n
  unfolding tells
  told_few ts t n h = rw (le-leb n PAY_COUNT h) refl

  told_many : (ts : List Token) (t n : ℕ) → PAY_COUNT < n → tells o ts t none n ≡ profile_report (refused many_units) o.nowhere 0 0
  unfolding tells
  told_many ts t n h = rw (lt-leb n PAY_COUNT h) refl

abbrev speaks : {P : Type 0} → Origin P → Fate P → ProfileReport P
speaks o (fails r x) = profile_report (refused r) x 0 0
speaks o (passes ts p t) = tells o ts (type_number t) (first_endless p) (units_most p)

-- the answer with memory enough, worked out
unfoldable pub said : {σ : Sizes} {P : Type 0} {o : Origin P} → LawfulUnder σ o → ProfileReport P
said {o = o} law = speaks o (fate law)

module _ {σ : Sizes} {P : Type 0} {o : Origin P} (law : LawfulUnder σ o) (table : ℕ) where
  -- what is said where memory is enough
  wide_profiled : {r : ProfileReport P} → σ.table ≤ table → ProfiledUnder σ o table r → said law ≡ r
  unfolding said tells
  wide_profiled h (profile_short k) = absurd (omega arith)
  wide_profiled h (profile_refused k a) = ap (speaks o) (refused_is law a)
  wide_profiled h (profile_endless {ts} {p} {t} k a e) =
      ap (speaks o) (passes_is law a) ∙ ap (λ x. tells o ts (type_number t) x (units_most p)) e
  wide_profiled h (profile_many {ts} {p} {t} k a e m) =
      ap (speaks o) (passes_is law a) ∙ ap (λ x. tells o ts (type_number t) x (units_most p)) e ∙ told_many o ts (type_number t) (units_most p) m
  wide_profiled h (profile_passed {ts} {p} {t} k a e m) =
      ap (speaks o) (passes_is law a) ∙ ap (λ x. tells o ts (type_number t) x (units_most p)) e ∙ told_few o ts (type_number t) (units_most p) m

  short_profiled : {r : ProfileReport P} → table < σ.table → ProfiledUnder σ o table r → profile_report (refused short_memory) o.nowhere 0 0 ≡ r
  short_profiled h (profile_short k) = refl
  short_profiled h (profile_refused k a) = absurd (omega arith)
  short_profiled h (profile_endless k a e) = absurd (omega arith)
  short_profiled h (profile_many k a e m) = absurd (omega arith)
  short_profiled h (profile_passed k a e m) = absurd (omega arith)

  pub one_profiled : {r q : ProfileReport P} → ProfiledUnder σ o table r → ProfiledUnder σ o table q → r ≡ q
  one_profiled {r} {q} a b = go (dec_le σ.table table)
    where
      go : Dec (σ.table ≤ table) → r ≡ q
      go (yes h) = sym (wide_profiled h a) ∙ wide_profiled h b
      go (no h) = sym (short_profiled (omega (arith, h)) a) ∙ short_profiled (omega (arith, h)) b

  pub some_profiled : (r : ProfileReport P) × ProfiledUnder σ o table r
  some_profiled = go (dec_le σ.table table) (fate law) (fate_comes law)
    where
      by_parts : {ts : List Token} {p : Program} {t : Ty} → σ.table ≤ table → PassesUnder σ o ts p t → (m : Option ℕ) → first_endless p ≡ m
          → Dec (units_most p ≤ PAY_COUNT) → (r : ProfileReport P) × ProfiledUnder σ o table r
      by_parts h a none e (yes k) = (_, profile_passed h a e k)
      by_parts h a none e (no k) = (_, profile_many h a e (omega (arith, k)))
      by_parts h a (some i) e d = (_, profile_endless h a e)

      go : Dec (σ.table ≤ table) → (f : Fate P) → Comes σ o f → (r : ProfileReport P) × ProfiledUnder σ o table r
      go (yes h) (fails r x) a = (_, profile_refused h a)
      go (yes h) (passes ts p t) a = by_parts h a (first_endless p) refl (dec_le (units_most p) PAY_COUNT)
      go (no h) f a = (_, profile_short (omega (arith, h)))

  -- it is the one that is worked out
  pub said_right : σ.table ≤ table → ProfiledUnder σ o table (said law)
  said_right h = let a = some_profiled in subst (ProfiledUnder σ o table) (sym (wide_profiled h a.1)) a.1

module _ {σ : Sizes} {P : Type 0} {o : Origin P} (law : LawfulUnder σ o) where
  -- no two answers of profile, nor tables left
  pub one_profile : {table : List ℕ} {r q : ProfileReport P} {t' t'' : List ℕ}
      → ProfileUnder σ o table r t' → ProfileUnder σ o table q t'' → (r ≡ q) × (t' ≡ t'')
  one_profile {table} a b =
      let e = one_profiled law (length table) a.answer b.answer in
      (e, a.table_left ∙ ap (λ (r : ProfileReport P). left r.told σ.table table) e ∙ sym b.table_left)

  -- and one there is
  pub some_profile : (table : List ℕ) → (r : ProfileReport P) × (t' : List ℕ) × ProfileUnder σ o table r t'
  some_profile table =
      let a = some_profiled law (length table) in
      (a.0, left a.0.told σ.table table, record { answer = a.1; table_left = refl })
