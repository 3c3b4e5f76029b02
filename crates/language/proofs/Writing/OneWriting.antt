-- Of every lawful origin and everything lent with it there is exactly one answer of write: report, bytes written, and what is
-- left in table memory and in the output. 44 is told exactly where it is to be.
use mathlib.Core.List.{List, ◌++◌}
use mathlib.Core.Logic.{◌⊎◌, ◌↔◌, inl, inr}
use mathlib.Core.Path.{◌≡◌, refl, sym, ap, subst, ◌∙◌}
use Prim.Native.Nat.{ℕ, ◌≤◌}
use native.Mathlib.Decide.{dec_le}
use native.Mathlib.Omega.{arith}
use lib.ListN.{length, drop}
use Rattle.language.specs.Sizes.{Sizes, BOX}
use Rattle.language.specs.Tokens.{Token}
use Rattle.language.specs.Trees.{Ty, Program}
use Rattle.language.specs.Numbers.{Refusal, long_text, passed, refused}
use Rattle.language.specs.Answers.{Origin, PassesUnder, RefusedUnder, by_origin, by_tokens, unread, faulty, left}
use Rattle.language.specs.Writing.{written_out, TooLongUnder, FitsUnder, WriteReport, write_report, WroteUnder}
use Rattle.language.specs.Writing.{write_short, write_refused, write_long, write_passed, WriteUnder}
use Rattle.language.proofs.Answers.Origins.{LawfulUnder, Fate, fails, passes, Comes, fate, fate_comes, refused_is, not_both}

-- a text does not both fit and not
pub fits_or_not : {σ : Sizes} (ts : List Token) (room : ℕ) → TooLongUnder σ ts room → FitsUnder σ ts room → ⊥
fits_or_not ts room (inl h) f = omega (arith, f.output)
fits_or_not ts room (inr h) f = omega (arith, f.source)

-- and does one of them
fits? : {σ : Sizes} (ts : List Token) (room : ℕ) → FitsUnder σ ts room ⊎ TooLongUnder σ ts room
fits? {σ} ts room = go (dec_le (length (written_out ts)) room) (dec_le (length (written_out ts)) σ.source)
  where
    go : Dec (length (written_out ts) ≤ room) → Dec (length (written_out ts) ≤ σ.source) → FitsUnder σ ts room ⊎ TooLongUnder σ ts room
    go (yes a) (yes b) = inl record { output = a; source = b }
    go (yes a) (no b) = inr (inr (omega (arith, b)))
    go (no a) d = inr (inl (omega (arith, a)))

module _ {σ : Sizes} {P : Type 0} {o : Origin P} (law : LawfulUnder σ o) where
  same_tokens : {ts us : List Token} {p q : Program} {t u : Ty} → PassesUnder σ o ts p t → PassesUnder σ o us q u → ts ≡ us
  same_tokens {ts} {us} a b = law.one_list ts us a.given b.given

  same_refusal : {r q : Refusal} {x y : P} → RefusedUnder σ o r x → RefusedUnder σ o q y → (r ≡ q) × (x ≡ y)
  same_refusal a b = let e = sym (refused_is law a) ∙ refused_is law b in (cc, cc)

  pub one_wrote : {table room : ℕ} {r q : WriteReport P} {s u : List ℕ} → WroteUnder σ o table room r s → WroteUnder σ o table room q u → (r ≡ q) × (s ≡ u)
  one_wrote (write_short h) (write_short k) = (refl, refl)
  one_wrote (write_short h) (write_refused k b) = absurd (omega arith)
  one_wrote (write_short h) (write_long k b f) = absurd (omega arith)
  one_wrote (write_short h) (write_passed k b f) = absurd (omega arith)
  one_wrote (write_refused h a) (write_short k) = absurd (omega arith)
  one_wrote (write_refused h a) (write_refused k b) =
      let e = same_refusal a b in let f = e.0 in let g = e.1 in (cc, refl)
  one_wrote (write_refused h a) (write_long k b f) = absurd (not_both law a b)
  one_wrote (write_refused h a) (write_passed k b f) = absurd (not_both law a b)
  one_wrote (write_long h a e) (write_short k) = absurd (omega arith)
  one_wrote (write_long h a e) (write_refused k b) = absurd (not_both law b a)
  one_wrote (write_long h a e) (write_long k b f) = (refl, refl)
  one_wrote {room = room} (write_long h a e) (write_passed {ts = us} k b f) =
      absurd (fits_or_not us room (subst (λ (ts : List Token). TooLongUnder σ ts room) (same_tokens a b) e) f)
  one_wrote (write_passed h a e) (write_short k) = absurd (omega arith)
  one_wrote (write_passed h a e) (write_refused k b) = absurd (not_both law b a)
  one_wrote {room = room} (write_passed {ts = ts} h a e) (write_long k b f) =
      absurd (fits_or_not ts room (subst (λ (ts : List Token). TooLongUnder σ ts room) (same_tokens b a) f) e)
  one_wrote (write_passed h a e) (write_passed k b f) =
      let z = same_tokens a b in
      (ap (λ (ts : List Token). write_report passed o.nowhere (length (written_out ts))) z, ap written_out z)

  pub some_wrote : (table room : ℕ) → (r : WriteReport P) × (s : List ℕ) × WroteUnder σ o table room r s
  some_wrote table room = go (dec_le σ.table table) (fate law) (fate_comes law)
    where
      by_length : {ts : List Token} {p : Program} {t : Ty} → σ.table ≤ table → PassesUnder σ o ts p t → FitsUnder σ ts room ⊎ TooLongUnder σ ts room
          → (r : WriteReport P) × (s : List ℕ) × WroteUnder σ o table room r s
      by_length h a (inl f) = (_, _, write_passed h a f)
      by_length h a (inr f) = (_, _, write_long h a f)

      go : Dec (σ.table ≤ table) → (f : Fate P) → Comes σ o f → (r : WriteReport P) × (s : List ℕ) × WroteUnder σ o table room r s
      go (yes h) (fails r x) a = (_, _, write_refused h a)
      go (yes h) (passes ts p t) a = by_length h a (fits? ts room)
      go (no h) f a = (_, _, write_short (omega (arith, h)))

  -- no two answers of write, nor tables or outputs left
  pub one_write : {table output : List ℕ} {r q : WriteReport P} {t' o' t'' o'' : List ℕ}
      → WriteUnder σ o table output r t' o' → WriteUnder σ o table output q t'' o'' → (r ≡ q) × (t' ≡ t'') × (o' ≡ o'')
  one_write {table} {output} a b =
      let e = one_wrote a.answer b.answer in (
        e.0,
        a.table_left ∙ ap (λ (r : WriteReport P). left r.told σ.table table) e.0 ∙ sym b.table_left,
        a.output_left ∙ ap (λ (s : List ℕ). s ++ drop (length s) output) e.1 ∙ sym b.output_left,
      )

  -- and one there is
  pub some_write : (table output : List ℕ) → (r : WriteReport P) × (t' : List ℕ) × (o' : List ℕ) × WriteUnder σ o table output r t' o'
  some_write table output =
      let a = some_wrote (length table) (length output) in (
        a.0,
        left a.0.told σ.table table,
        a.1 ++ drop (length a.1) output,
        record { text = a.1; answer = a.2; table_left = refl; output_left = refl },
      )

-- ---- 44 (R03.5)

-- it passes, and its whole text is too long
pub record LongProgramUnder (σ : Sizes) {P : Type 0} (o : Origin P) (room : ℕ) : Type 0 where
  pub tokens : List Token
  pub program : Program
  pub type : Ty
  pub passes : PassesUnder σ o tokens program type
  pub long : TooLongUnder σ tokens room

abbrev pub LongProgram : {P : Type 0} → Origin P → ℕ → Type 0
LongProgram o = LongProgramUnder BOX o

module _ {σ : Sizes} {P : Type 0} {o : Origin P} (law : LawfulUnder σ o) where
  -- no refusal of the sheet itself is 44
  pub never_own : {r : Refusal} {x : P} → RefusedUnder σ o r x → r ≡ long_text → ⊥
  never_own (by_origin {r} {x} d) e = law.not_written x (subst (λ (r : Refusal). o.denies r x) e d)
  never_own (by_tokens g (unread k)) e = let z : ◌≡◌ {A = ℕ} 0 1 = cc in omega arith
  never_own (by_tokens g (faulty a f)) e = let z : ◌≡◌ {A = ℕ} 0 1 = cc in omega arith

module _ {σ : Sizes} {P : Type 0} {o : Origin P} (law : LawfulUnder σ o) {table room : ℕ} (h : σ.table ≤ table) where
  of_long : {r : WriteReport P} {s : List ℕ} → WroteUnder σ o table room r s → r.told ≡ refused long_text → LongProgramUnder σ o room
  of_long (write_short k) e = absurd (omega arith)
  of_long (write_refused k a) e = absurd (never_own law a (cc))
  of_long (write_long {ts} {p} {t} k a f) e = record { tokens = ts; program = p; type = t; passes = a; long = f }
  of_long (write_passed k a f) e = let z : ◌≡◌ {A = ℕ} 0 1 = cc in absurd (omega arith)

  -- 44 is told exactly where a passing sheet's text is too long
  pub long_exactly : {r : WriteReport P} {s : List ℕ} → WroteUnder σ o table room r s → (r.told ≡ refused long_text) ↔ LongProgramUnder σ o room
  long_exactly a = (
    λ e. of_long a e,
    λ x. ap (λ (r : WriteReport P). r.told) (one_wrote law a (write_long h x.passes x.long)).0,
  )
