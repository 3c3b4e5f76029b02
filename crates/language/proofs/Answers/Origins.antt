-- What an origin of tokens has to obey, so that of everything lent there is one answer; that a text does; and what an origin
-- comes to, worked out: a program with its tokens and its type, or a refusal and its place.
use mathlib.Core.Bool.{Bool, true, false}
use mathlib.Core.List.{List}
use mathlib.Core.Logic.{◌⊎◌, inl, inr}
use mathlib.Core.Path.{◌≡◌, refl, sym, ap, ap₂, subst, ◌∙◌}
use Prim.Native.Nat.{ℕ, ◌≤◌}
use native.Mathlib.Decide.{dec_le}
use native.Mathlib.Omega.{arith}
use lib.ListN.{length}
use Rattle.language.specs.Sizes.{Sizes, BOX, LARGEST}
use Rattle.language.specs.Tokens.{Vocabulary, Token, value_at}
use Rattle.language.specs.Trees.{Ty, Program}
use Rattle.language.specs.Numbers.{Refusal, short_memory, large_allowance, no_edition, long_source, text, no_reading, types}
use Rattle.language.specs.Numbers.{long_text, not_hexadecimal, wrong_count, not_one_token, endless_node, many_units}
use Rattle.language.specs.Answers.{Origin, place_in, TextDeniesUnder, too_long, flawed, TextGivesUnder, text_under}
use Rattle.language.specs.Answers.{PassesUnder, RefusedUnder, by_origin, by_tokens, keeps, unread, faulty}
use Rattle.language.proofs.Text.Marks.{Laws}
use Rattle.language.proofs.Text.OneSplit.{one_split, one_flaw}
use Rattle.language.proofs.Text.OneSplit as OneSplit
use Rattle.language.proofs.Text.SmallNumbers.{split_small}
use Rattle.language.proofs.Text.Scanner as Scanner
use Rattle.language.proofs.Text.Scanner.{scan, scanned}
use Rattle.language.proofs.Answers.Verdict.{Verdict, denied, proper, verdict, Says, verdict_says, proper_is, denied_is}

-- ---- the laws

-- the refusals of profile alone (R10.2, R10.4)
abbrev pub of_profile : Refusal → Bool
of_profile short_memory = false
of_profile large_allowance = false
of_profile no_edition = false
of_profile long_source = false
of_profile (text f) = false
of_profile no_reading = false
of_profile (types r) = false
of_profile long_text = false
of_profile not_hexadecimal = false
of_profile wrong_count = false
of_profile not_one_token = false
of_profile endless_node = true
of_profile many_units = true

pub record LawfulUnder (σ : Sizes) {P : Type 0} (o : Origin P) : Type 0 where
  pub one_list : (ts us : List Token) → o.gives ts → o.gives us → ts ≡ us
  pub one_denial : (r q : Refusal) (x y : P) → o.denies r x → o.denies q y → (r ≡ q) × (x ≡ y)
  pub never_both : (ts : List Token) (r : Refusal) (x : P) → o.gives ts → o.denies r x → ⊥
  -- one or the other
  pub some : ((ts : List Token) × o.gives ts) ⊎ ((r : Refusal) × (x : P) × o.denies r x)
  -- no more tokens than a source may have
  pub few : (ts : List Token) → o.gives ts → length ts ≤ σ.tokens
  -- no number larger than can be written
  pub small : (ts : List Token) → o.gives ts → (i : ℕ) → value_at ts i ≤ LARGEST
  -- neither short memory nor a reading nor what is written is a matter of an origin's
  pub not_memory : (r : Refusal) (x : P) → o.denies r x → keeps r ≡ false
  pub not_reading : (x : P) → o.denies no_reading x → ⊥
  pub not_written : (x : P) → o.denies long_text x → ⊥
  -- nor what only profile asks
  pub not_profiled : (r : Refusal) (x : P) → o.denies r x → of_profile r ≡ false

-- under the box's sizes
abbrev pub Lawful : {P : Type 0} → Origin P → Type 0
Lawful o = LawfulUnder BOX o

-- ---- a text obeys them

module _ {voc : Vocabulary} (laws : Laws voc) (source : List ℕ) where
  pub text_one_denial : {σ : Sizes} (r q : Refusal) (x y : ℕ) → TextDeniesUnder σ voc source r x → TextDeniesUnder σ voc source q y → (r ≡ q) × (x ≡ y)
  text_one_denial r q x y (too_long h) (too_long k) = (refl, refl)
  text_one_denial r q x y (too_long h) (flawed k b) = absurd (omega arith)
  text_one_denial r q x y (flawed h a) (too_long k) = absurd (omega arith)
  text_one_denial r q x y (flawed h a) (flawed k b) = let e = one_flaw laws a b in (ap text e.0, e.1)

  pub text_never_both : {σ : Sizes} (ts : List Token) (r : Refusal) (x : ℕ) → TextGivesUnder σ voc source ts → TextDeniesUnder σ voc source r x → ⊥
  text_never_both ts r x g (too_long h) = omega (arith, g.short)
  text_never_both ts r x g (flawed h a) = OneSplit.not_both laws g.splits a

  unfoldable text_some : {σ : Sizes} → ((ts : List Token) × TextGivesUnder σ voc source ts) ⊎ ((r : Refusal) × (x : ℕ) × TextDeniesUnder σ voc source r x)
  unfolding scan dec_le
  text_some {σ} = by_length (dec_le (length source) σ.source)
    where
      by_scan : length source ≤ σ.source → (r : Scanner.Result) → Scanner.Says σ voc source r
          → ((ts : List Token) × TextGivesUnder σ voc source ts) ⊎ ((r : Refusal) × (x : ℕ) × TextDeniesUnder σ voc source r x)
      by_scan h (Scanner.Result.split ts) a = inl (ts, record { short = h; splits = a })
      by_scan h (Scanner.Result.flawed f p) a = inr (text f, p, flawed h a)

      by_length : Dec (length source ≤ σ.source)
          → ((ts : List Token) × TextGivesUnder σ voc source ts) ⊎ ((r : Refusal) × (x : ℕ) × TextDeniesUnder σ voc source r x)
      by_length (yes h) = by_scan h (scan σ voc source) (scanned laws σ source)
      by_length (no h) = inr (_, 0, too_long (omega (arith, h)))

  pub text_not_memory : {σ : Sizes} (r : Refusal) (x : ℕ) → TextDeniesUnder σ voc source r x → keeps r ≡ false
  text_not_memory r x (too_long h) = refl
  text_not_memory r x (flawed h a) = refl

  pub text_not_reading : {σ : Sizes} (r : Refusal) (x : ℕ) → TextDeniesUnder σ voc source r x → r ≡ no_reading → ⊥
  text_not_reading r x (too_long h) e = let z : ◌≡◌ {A = ℕ} 0 1 = cc in omega arith
  text_not_reading r x (flawed h a) e = let z : ◌≡◌ {A = ℕ} 0 1 = cc in omega arith

  pub text_not_written : {σ : Sizes} (r : Refusal) (x : ℕ) → TextDeniesUnder σ voc source r x → r ≡ long_text → ⊥
  text_not_written r x (too_long h) e = let z : ◌≡◌ {A = ℕ} 0 1 = cc in omega arith
  text_not_written r x (flawed h a) e = let z : ◌≡◌ {A = ℕ} 0 1 = cc in omega arith

  pub text_not_profiled : {σ : Sizes} (r : Refusal) (x : ℕ) → TextDeniesUnder σ voc source r x → of_profile r ≡ false
  text_not_profiled r x (too_long h) = refl
  text_not_profiled r x (flawed h a) = refl

  unfoldable pub text_lawful : {σ : Sizes} → LawfulUnder σ (text_under σ voc source)
  unfolding text_some
  text_lawful = record {
    one_list = λ ts us a b. one_split laws a.splits b.splits;
    one_denial = text_one_denial;
    never_both = text_never_both;
    some = text_some;
    few = λ ts a. a.splits.few;
    small = λ ts a. split_small a.splits;
    not_memory = text_not_memory;
    not_reading = λ x a. text_not_reading no_reading x a refl;
    not_written = λ x a. text_not_written long_text x a refl;
    not_profiled = text_not_profiled;
  }

-- ---- what an origin comes to

pub data Fate (P : Type 0) : Type 0 where
  fails : Refusal → P → Fate P
  passes : List Token → Program → Ty → Fate P

module _ (σ : Sizes) {P : Type 0} (o : Origin P) where
  abbrev pub Comes : Fate P → Type 0
  Comes (fails r x) = RefusedUnder σ o r x
  Comes (passes ts p t) = PassesUnder σ o ts p t

  unfoldable of_tokens : List Token → Verdict → Fate P
  of_tokens ts (denied r s) = fails r (place_in o ts s)
  of_tokens ts (proper p t) = passes ts p t

  unfoldable of_some : ((ts : List Token) × o.gives ts) ⊎ ((r : Refusal) × (x : P) × o.denies r x) → Fate P
  of_some (inl (ts, g)) = of_tokens ts (verdict σ ts)
  of_some (inr (r, x, d)) = fails r x

  tokens_come : (ts : List Token) → o.gives ts → (v : Verdict) → Says σ ts v → Comes (of_tokens ts v)
  unfolding of_tokens
  tokens_come ts g (denied r s) d = by_tokens g d
  tokens_come ts g (proper p t) h = record { given = g; proper = h }

  some_comes : (s : ((ts : List Token) × o.gives ts) ⊎ ((r : Refusal) × (x : P) × o.denies r x)) → Comes (of_some s)
  unfolding of_some
  some_comes (inl (ts, g)) = tokens_come ts g (verdict σ ts) (verdict_says σ ts)
  some_comes (inr (r, x, d)) = by_origin d

module _ {σ : Sizes} {P : Type 0} {o : Origin P} (law : LawfulUnder σ o) where
  unfoldable pub fate : Fate P
  unfolding of_tokens of_some verdict
  fate = of_some σ o law.some

  pub fate_comes : Comes σ o fate
  unfolding fate
  fate_comes = some_comes σ o law.some

  gives_is : (ts : List Token) → o.gives ts → (s : ((us : List Token) × o.gives us) ⊎ ((r : Refusal) × (x : P) × o.denies r x))
      → of_some σ o s ≡ of_tokens σ o ts (verdict σ ts)
  unfolding of_some
  gives_is ts g (inl (us, h)) = ap (λ (ts : List Token). of_tokens σ o ts (verdict σ ts)) (law.one_list us ts h g)
  gives_is ts g (inr (r, x, d)) = absurd (law.never_both ts r x g d)

  denies_is : (r : Refusal) (x : P) → o.denies r x → (s : ((us : List Token) × o.gives us) ⊎ ((r : Refusal) × (x : P) × o.denies r x))
      → of_some σ o s ≡ fails r x
  unfolding of_some
  denies_is r x d (inl (us, h)) = absurd (law.never_both us r x h d)
  denies_is r x d (inr (q, y, e)) = let z = law.one_denial q r y x e d in ap₂ fails z.0 z.1

  pub passes_is : {ts : List Token} {p : Program} {t : Ty} → PassesUnder σ o ts p t → fate ≡ passes ts p t
  unfolding fate of_tokens
  passes_is {ts} h = gives_is ts h.given law.some ∙ ap (of_tokens σ o ts) (proper_is σ ts h.proper)

  pub refused_is : {r : Refusal} {x : P} → RefusedUnder σ o r x → fate ≡ fails r x
  unfolding fate of_tokens
  refused_is (by_origin {r} {x} d) = denies_is r x d law.some
  refused_is (by_tokens {ts} g d) = gives_is ts g law.some ∙ ap (of_tokens σ o ts) (denied_is σ ts d)

  abbrev Fails : Fate P → Type 0
  Fails (fails r x) = Unit {0}
  Fails (passes ts p t) = ⊥

  -- not both
  pub not_both : {r : Refusal} {x : P} {ts : List Token} {p : Program} {t : Ty} → RefusedUnder σ o r x → PassesUnder σ o ts p t → ⊥
  not_both a b = subst Fails (sym (refused_is a) ∙ passes_is b) tt

  -- a refusal by an origin or by its tokens is not one for memory
  pub refused_clears : {r : Refusal} {x : P} → RefusedUnder σ o r x → keeps r ≡ false
  refused_clears (by_origin {r} {x} d) = law.not_memory r x d
  refused_clears (by_tokens g (unread h)) = refl
  refused_clears (by_tokens g (faulty a f)) = refl

  -- nor one of profile alone
  pub refused_not_profiled : {r : Refusal} {x : P} → RefusedUnder σ o r x → of_profile r ≡ false
  refused_not_profiled (by_origin {r} {x} d) = law.not_profiled r x d
  refused_not_profiled (by_tokens g (unread h)) = refl
  refused_not_profiled (by_tokens g (faulty a f)) = refl
