-- Of every lawful origin and everything lent with it there is exactly one answer of store: report, bytes written, and what is left
-- in table memory and in the output. 44 is told exactly where it is to be (R09.5).
use mathlib.Core.Bool.{Bool, true, false}
use mathlib.Core.List.{List, [], ◌++◌}
use mathlib.Core.Logic.{◌↔◌}
use mathlib.Core.Path.{◌≡◌, refl, sym, ap, ◌∙◌}
use borrow.Author.Tests.{le-leb, lt-leb, leb-true, leb-false}
use Prim.Native.Nat.{ℕ, ◌≤◌, ◌<◌}
use native.Mathlib.Decide.{dec_le}
use native.Mathlib.Omega.{arith}
use lib.Dec.{leb}
use lib.ListN.{length, drop}
use Rattle.language.specs.Sizes.{Sizes, BOX}
use Rattle.language.specs.Tokens.{Token}
use Rattle.language.specs.Trees.{Ty, Program}
use Rattle.language.specs.Numbers.{Refusal, short_memory, long_text, passed, refused}
use Rattle.language.specs.Answers.{Origin, PassesUnder, left}
use Rattle.language.specs.Stored.{stored}
use Rattle.language.specs.Writing.{WriteReport, write_report, StoresUnder, store_short, store_refused, store_long, store_passed, StoreUnder}
use Rattle.language.proofs.Answers.Origins.{LawfulUnder, Fate, fails, passes, Comes, fate, fate_comes, passes_is, refused_is}
use Rattle.language.proofs.Writing.OneWriting.{never_own}

-- a report and the bytes written
record Said (P : Type 0) : Type 0 where
  report : WriteReport P
  form : List ℕ

abbrev said : {P : Type 0} → WriteReport P → List ℕ → Said P
said r s = record { report = r; form = s }

module _ {σ : Sizes} {P : Type 0} {o : Origin P} (law : LawfulUnder σ o) (table room : ℕ) where
  -- by whether the stored form fits
  abbrev by_room : List Token → Bool → Said P
  by_room ts true = said (write_report passed o.nowhere (length (stored ts))) (stored ts)
  by_room ts false = said (write_report (refused long_text) o.nowhere 0) []

  abbrev says : Fate P → Said P
  says (fails r x) = said (write_report (refused r) x 0) []
  says (passes ts p t) = by_room ts (leb (length (stored ts)) room)

  fair : {r : WriteReport P} {s : List ℕ} → σ.table ≤ table → StoresUnder σ o table room r s → says (fate law) ≡ said r s
  fair h (store_short k) = absurd (omega arith)
  fair h (store_refused k a) = ap says (refused_is law a)
  fair h (store_long {ts = ts} k a l) = ap says (passes_is law a) ∙ ap (by_room ts) (lt-leb (length (stored ts)) room l)
  fair h (store_passed {ts = ts} k a l) = ap says (passes_is law a) ∙ ap (by_room ts) (le-leb (length (stored ts)) room l)

  short : {r : WriteReport P} {s : List ℕ} → table < σ.table → StoresUnder σ o table room r s
      → said (write_report (refused short_memory) o.nowhere 0) [] ≡ said r s
  short h (store_short k) = refl
  short h (store_refused k a) = absurd (omega arith)
  short h (store_long k a l) = absurd (omega arith)
  short h (store_passed k a l) = absurd (omega arith)

  same_said : {r q : WriteReport P} {s u : List ℕ} → Dec (σ.table ≤ table) → StoresUnder σ o table room r s → StoresUnder σ o table room q u
      → said r s ≡ said q u
  same_said (yes h) a b = sym (fair h a) ∙ fair h b
  same_said (no h) a b = sym (short (omega (arith, h)) a) ∙ short (omega (arith, h)) b

  pub one_stores : {r q : WriteReport P} {s u : List ℕ} → StoresUnder σ o table room r s → StoresUnder σ o table room q u → (r ≡ q) × (s ≡ u)
  one_stores a b =
      let e = same_said (dec_le σ.table table) a b in
      (ap (λ (x : Said P). x.report) e, ap (λ (x : Said P). x.form) e)

  pub some_stores : (r : WriteReport P) × (s : List ℕ) × StoresUnder σ o table room r s
  some_stores = go (dec_le σ.table table) (fate law) (fate_comes law)
    where
      fits : {ts : List Token} {p : Program} {t : Ty} → σ.table ≤ table → PassesUnder σ o ts p t → (x : Bool) → leb (length (stored ts)) room ≡ x
          → (r : WriteReport P) × (s : List ℕ) × StoresUnder σ o table room r s
      fits {ts} h a true e = (_, _, store_passed h a (leb-true (length (stored ts)) room e))
      fits {ts} h a false e = (_, _, store_long h a (leb-false (length (stored ts)) room e))

      go : Dec (σ.table ≤ table) → (f : Fate P) → Comes σ o f → (r : WriteReport P) × (s : List ℕ) × StoresUnder σ o table room r s
      go (yes h) (fails r x) a = (_, _, store_refused h a)
      go (yes h) (passes ts p t) a = fits h a (leb (length (stored ts)) room) refl
      go (no h) f a = (_, _, store_short (omega (arith, h)))

module _ {σ : Sizes} {P : Type 0} {o : Origin P} (law : LawfulUnder σ o) where
  -- no two answers of store, nor tables or outputs left
  pub one_store : {table output : List ℕ} {r q : WriteReport P} {t' o' t'' o'' : List ℕ}
      → StoreUnder σ o table output r t' o' → StoreUnder σ o table output q t'' o'' → (r ≡ q) × (t' ≡ t'') × (o' ≡ o'')
  one_store {table} {output} a b =
      let e = one_stores law (length table) (length output) a.answer b.answer in (
        e.0,
        a.table_left ∙ ap (λ (r : WriteReport P). left r.told σ.table table) e.0 ∙ sym b.table_left,
        a.output_left ∙ ap (λ (s : List ℕ). s ++ drop (length s) output) e.1 ∙ sym b.output_left,
      )

  -- and one there is
  pub some_store : (table output : List ℕ) → (r : WriteReport P) × (t' : List ℕ) × (o' : List ℕ) × StoreUnder σ o table output r t' o'
  some_store table output =
      let a = some_stores law (length table) (length output) in (
        a.0,
        left a.0.told σ.table table,
        a.1 ++ drop (length a.1) output,
        record { form = a.1; answer = a.2; table_left = refl; output_left = refl },
      )

-- where a sheet is not stored nothing is written, and the output is as it was
pub unstored : {σ : Sizes} {P : Type 0} {o : Origin P} {table output : List ℕ} {r : WriteReport P} {t' o' : List ℕ} → StoreUnder σ o table output r t' o'
    → (y : Refusal) → r.told ≡ refused y → (r.written ≡ 0) × (o' ≡ output)
unstored {σ} {P = P} {o = o} {output = output} {o' = o'} a y e = go a.answer e a.output_left
  where
    go : {n room : ℕ} {r : WriteReport P} {s : List ℕ} → StoresUnder σ o n room r s → r.told ≡ refused y → o' ≡ s ++ drop (length s) output
        → (r.written ≡ 0) × (o' ≡ output)
    go (store_short h) x f = (refl, f)
    go (store_refused h b) x f = (refl, f)
    go (store_long h b k) x f = (refl, f)
    go (store_passed h b k) x f = let z : ◌≡◌ {A = ℕ} 0 1 = cc in absurd (omega arith)

-- ---- 44

-- it passes, and its stored form is longer than the output
pub record LongFormUnder (σ : Sizes) {P : Type 0} (o : Origin P) (room : ℕ) : Type 0 where
  pub tokens : List Token
  pub program : Program
  pub type : Ty
  pub passes : PassesUnder σ o tokens program type
  pub long : room < length (stored tokens)

abbrev pub LongForm : {P : Type 0} → Origin P → ℕ → Type 0
LongForm o = LongFormUnder BOX o

module _ {σ : Sizes} {P : Type 0} {o : Origin P} (law : LawfulUnder σ o) {table room : ℕ} (h : σ.table ≤ table) where
  of_long : {r : WriteReport P} {s : List ℕ} → StoresUnder σ o table room r s → r.told ≡ refused long_text → LongFormUnder σ o room
  of_long (store_short k) e = absurd (omega arith)
  of_long (store_refused k a) e = absurd (never_own law a (cc))
  of_long (store_long {ts} {p} {t} k a f) e = record { tokens = ts; program = p; type = t; passes = a; long = f }
  of_long (store_passed k a f) e = let z : ◌≡◌ {A = ℕ} 0 1 = cc in absurd (omega arith)

  -- 44 is told exactly where the buffer is too short for a sheet that passes
  pub form_long_exactly : {r : WriteReport P} {s : List ℕ} → StoresUnder σ o table room r s → (r.told ≡ refused long_text) ↔ LongFormUnder σ o room
  form_long_exactly a = (
    λ e. of_long a e,
    λ x. ap (λ (r : WriteReport P). r.told) (one_stores law table room a (store_long h x.passes x.long)).0,
  )
