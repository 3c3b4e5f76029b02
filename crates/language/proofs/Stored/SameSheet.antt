-- A stored sheet is its source (R09.9): check and run of the one are those of the other in number, type, value, bytes and units, and
-- the places are those of the same token, in the edition that the caller names for both (R12.12).
use mathlib.Core.List.{List, ◌++◌}
use mathlib.Core.Path.{◌≡◌, refl, sym, ap, subst, ◌∙◌}
use Prim.Native.Nat.{ℕ, ◌≤◌}
use native.Mathlib.Omega.{arith}
use lib.ListN.{length, take, drop}
use lib.Seq.{take-append_seam}
use Rattle.language.specs.Sizes.{Sizes, BOX}
use Rattle.language.specs.Tokens.{Token, SameButPlaces}
use Rattle.language.specs.Numbers.{passed}
use Rattle.language.specs.Answers.{Origin, Spot, nowhere, place_in, DeniedUnder, by_origin, by_tokens}
use Rattle.language.specs.Answers.{CheckReport, CheckedUnder, check_short, check_refused, check_passed, Lent, RunReport, RanUnder}
use Rattle.language.specs.Stored.{COUNT, stored}
use Rattle.language.specs.Edition.{text_in_under, stored_in_under, text_in}
use Rattle.language.specs.Writing.{WriteReport, StoresUnder, store_short, store_refused, store_long, store_passed, StoreUnder, Store}
use Rattle.language.proofs.Answers.Editions.{named_laws, text_in_lawful_under}
use Rattle.language.proofs.Answers.Origins.{LawfulUnder}
use Rattle.language.proofs.Answers.PlacesAside.{same_back, same_denied, same_passes, SameRun, same_run}
use Rattle.language.proofs.Stored.Editions.{named_marks, stored_in_lawful_under, gives_in}
use Rattle.language.proofs.Stored.ReadBack.{each_alone, alone_same, stored_back}

-- ---- what a check answers

-- two reports that differ in the place alone, which is that of the same token, or of none
pub record SameCheck {P Q : Type 0} (o : Origin P) (q : Origin Q) (ts us : List Token) (r : CheckReport P) (r' : CheckReport Q) : Type 0 where
  pub told : r.told ≡ r'.told
  pub type : r.type ≡ r'.type
  pub spot : Spot
  pub here : r.place ≡ place_in o ts spot
  pub there : r'.place ≡ place_in q us spot

-- an origin with the same tokens answers the same to every check
pub same_check : {σ : Sizes} {P Q : Type 0} {o : Origin P} {q : Origin Q} → LawfulUnder σ o → {ts us : List Token} → o.gives ts → q.gives us
    → SameButPlaces ts us
    → {table : ℕ} {r : CheckReport P} → CheckedUnder σ o table r → (r' : CheckReport Q) × CheckedUnder σ q table r' × SameCheck o q ts us r r'
same_check law given there same (check_short h) =
    (_, check_short h, record { told = refl; type = refl; spot = nowhere; here = refl; there = refl })
same_check law {ts} given there same (check_refused h (by_origin {r} {x} d)) = absurd (law.never_both ts r x given d)
same_check {σ} {o = o} law {ts} given there same (check_refused h (by_tokens {ts = xs} {r} {s} g d)) =
    let z = law.one_list xs ts g given in (
      _,
      check_refused h (by_tokens there (same_denied same (subst (λ (ts : List Token). DeniedUnder σ ts r s) z d))),
      record { told = refl; type = refl; spot = s; here = ap (λ (ts : List Token). place_in o ts s) z; there = refl },
    )
same_check law given there same (check_passed h a) =
    (_, check_passed h (same_passes law given there same a), record { told = refl; type = refl; spot = nowhere; here = refl; there = refl })

-- ---- the sheet and what is stored of it

-- the bytes `form` are the sheet `source`, stored, in the edition n
pub record StoredSheetUnder (σ : Sizes) (n : ℕ) (source form : List ℕ) : Type 0 where
  pub tokens : List Token
  pub again : List Token
  -- both come to the same tokens, places aside
  pub given : (text_in_under σ n source).gives tokens
  pub same_given : (stored_in_under σ n form).gives again
  pub same : SameButPlaces tokens again
  -- a check of the one is a check of the other, and so is a run, with the same bytes printed
  pub checks : {table : ℕ} {r : CheckReport ℕ} → CheckedUnder σ (text_in_under σ n source) table r
      → (r' : CheckReport ℕ) × CheckedUnder σ (stored_in_under σ n form) table r'
      × SameCheck (text_in_under σ n source) (stored_in_under σ n form) tokens again r r'
  pub runs : {l : Lent} {r : RunReport ℕ} {bs : List ℕ} → RanUnder σ (text_in_under σ n source) l r bs
      → (r' : RunReport ℕ) × RanUnder σ (stored_in_under σ n form) l r' bs
      × SameRun (text_in_under σ n source) (stored_in_under σ n form) tokens again r r'
  -- and the other way round
  pub checks_back : {table : ℕ} {r : CheckReport ℕ} → CheckedUnder σ (stored_in_under σ n form) table r
      → (r' : CheckReport ℕ) × CheckedUnder σ (text_in_under σ n source) table r'
      × SameCheck (stored_in_under σ n form) (text_in_under σ n source) again tokens r r'
  pub runs_back : {l : Lent} {r : RunReport ℕ} {bs : List ℕ} → RanUnder σ (stored_in_under σ n form) l r bs
      → (r' : RunReport ℕ) × RanUnder σ (text_in_under σ n source) l r' bs
      × SameRun (stored_in_under σ n form) (text_in_under σ n source) again tokens r r'

-- under the box's sizes
abbrev pub StoredSheet : ℕ → List ℕ → List ℕ → Type 0
StoredSheet = StoredSheetUnder BOX

module _ {σ : Sizes} (n : ℕ) (source : List ℕ) {ts : List Token} (g : (text_in_under σ n source).gives ts) where
  -- it comes to the same tokens, each by itself
  pub there : (stored_in_under σ n (stored ts)).gives (each_alone ts)
  there =
      let e = g.named in
      gives_in n (stored ts) e (stored_back (named_laws n e) (named_marks n e) g.given.splits g.given.short)

  -- whether its tokens are a program or not
  pub stored_sheet : σ.tokens ≤ COUNT → StoredSheetUnder σ n source (stored ts)
  stored_sheet told =
      let same = alone_same ts in
      let law = text_in_lawful_under n source in
      let back = stored_in_lawful_under told n (stored ts) in
      record {
        tokens = ts;
        again = each_alone ts;
        given = g;
        same_given = there;
        same = same;
        checks = λ a. same_check law g there same a;
        runs = λ a. same_run law g there same a;
        checks_back = λ a. same_check back there g (same_back same) a;
        runs_back = λ a. same_run back there g (same_back same) a;
      }

-- ---- over the contract

-- the bytes that store has written are the sheet
pub sheet_stored_under : {σ : Sizes} {n : ℕ} {source table output : List ℕ} {r : WriteReport ℕ} {t' o' : List ℕ} → σ.tokens ≤ COUNT
    → StoreUnder σ (text_in_under σ n source) table output r t' o' → r.told ≡ passed → StoredSheetUnder σ n source (take r.written o')
sheet_stored_under {σ} {n} {source} {output = output} {o' = o'} told a e = go a.answer e a.output_left
  where
    go : {m room : ℕ} {r : WriteReport ℕ} {s : List ℕ} → StoresUnder σ (text_in_under σ n source) m room r s → r.told ≡ passed
        → o' ≡ s ++ drop (length s) output → StoredSheetUnder σ n source (take r.written o')
    go (store_short h) e f = let z : ◌≡◌ {A = ℕ} 0 1 = cc in absurd (omega arith)
    go (store_refused h a) e f = let z : ◌≡◌ {A = ℕ} 0 1 = cc in absurd (omega arith)
    go (store_long h a k) e f = let z : ◌≡◌ {A = ℕ} 0 1 = cc in absurd (omega arith)
    go (store_passed {ts = ts} h a k) e f =
        let s = stored ts in
        subst (StoredSheetUnder σ n source) (sym (ap (take (length s)) f ∙ take-append_seam s (drop (length s) output)))
        (stored_sheet n source a.given told)

pub sheet_stored : {n : ℕ} {source table output : List ℕ} {r : WriteReport ℕ} {t' o' : List ℕ} → Store (text_in n source) table output r t' o'
    → r.told ≡ passed → StoredSheet n source (take r.written o')
sheet_stored a e = sheet_stored_under (omega arith) a e
