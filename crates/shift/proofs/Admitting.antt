-- What is asked of a book tells the written admission: one law for each way through the code (R14.7).
use lib.ListN.{length, drop, replicate, length-replicate}
use lib.Seq.{drop-append_seam}
use mathlib.Core.Bool.{Bool, true, false, false≢true}
use mathlib.Core.List.{List, ◌++◌}
use mathlib.Core.Logic.{◌⊎◌, inl, inr}
use mathlib.Core.Path.{◌≡◌, refl, sym, ap, subst, ◌∙◌}
use native.Mathlib.Omega.{arith}
use Rattle.std.proofs.Common.{Result, Ok, Err}
use Prim.Native.Nat.{ℕ, ◌≤◌, ◌<◌}
use Rattle.language.specs.Sizes.{ALLOWANCE, TABLE, WORK}
use Rattle.language.specs.Tokens.{Token}
use Rattle.language.specs.Trees.{Ty, Program}
use Rattle.language.specs.Numbers.{Refusal, Told, passed, refused}
use Rattle.language.specs.Answers.{Origin, Lent, Enough, Passes, Refused, left, cleared, CheckReport, Check, Checked, check_short, check_refused, check_passed}
use Rattle.language.specs.Pairs.{Place, front}
use Rattle.language.specs.Edition.{pair_in}
use Rattle.language.specs.Outline.{Wanted, OutlineReport, Outline, Outlined, outline_short, outline_refused, outline_passed, is_number}
use Rattle.language.specs.Outline.{has_function}
use Rattle.language.specs.Shift.{Admits, admit_short, admit_large, admit_refused, admit_no_book, admit_no_room, admit, Book, ZERO, LARGEST_CALL}
use Rattle.language.specs.Shift.{sheet, no_book, turned_away}
use Rattle.language.specs.Shift as Shift
use Rattle.language.proofs.Answers.Origins.{not_both, refused_clears}
use Rattle.language.proofs.Answers.Editions.{pair_in_lawful}
use Rattle.language.proofs.Shift.NeverRefused.{only_no_room_in}
use Rattle.language.proofs.Shift.OneReport.{one_program}
use Rattle.language.proofs.Shift.Books.{PAY_WANTED, book_is, is_book}
use Rattle.numbers.specs.declared.Refusal as Code
use Rattle.pairs.specs.Spots.{meant}
use Rattle.pairs.specs.declared.Spot.{Spot}
use Rattle.grumpy.specs.Reports.{CheckedAt, pair_checked_report}
use Rattle.grumpy.proofs.Leaving.{checked_left}
use Rattle.outlines.specs.declared.Found.{Found}
use Rattle.outlines.specs.Reports.{outlined_report}
use Rattle.shift.specs.declared.Why.{Why}
use Rattle.shift.specs.Meanings.{Admission}
use Rattle.shift.specs.Meanings.{lent, keeps_all, left_by}
use Rattle.shift.specs.Admitting.{AskedOfRoom, AskedOfBook, AskedOfText, Asked}

-- ---- twice is as once

pub cleared_again : (n : ℕ) (words : List ℕ) → cleared n (cleared n words) ≡ cleared n words
unfolding cleared
cleared_again n words =
    ap (λ (rest : List ℕ). replicate n 0 ++ rest)
    (ap (λ (k : ℕ). drop k (replicate n 0 ++ drop n words)) (sym (length-replicate n 0)) ∙ drop-append_seam (replicate n 0) (drop n words))

-- ---- what an answer comes from

not_refused : {r : Refusal} → ◌≡◌ {A = Told} passed (refused r) → ⊥
not_refused e = let z : ◌≡◌ {A = ℕ} 0 1 = cc in omega arith

one_refused : {r q : Refusal} → ◌≡◌ {A = Told} (refused r) (refused q) → r ≡ q
one_refused e = cc

module _ {P : Type 0} (o : Origin P) (table : ℕ) where
  Some : Type 0
  Some = (ts : List Token) × (p : Program) × (t : Ty) × Passes o ts p t

  checked_passed : (r : CheckReport P) → Checked o table r → r.told ≡ passed → Some
  unfolding Some
  checked_passed r (check_short h) e = absurd (not_refused (sym e))
  checked_passed r (check_refused h x) e = absurd (not_refused (sym e))
  checked_passed r (check_passed h x) e = (_, _, _, x)

  checked_refused : (r : CheckReport P) {y : Refusal} → TABLE ≤ table → Checked o table r → r.told ≡ refused y → Refused o y r.place
  checked_refused r long (check_short h) e = absurd (omega arith)
  checked_refused r long (check_refused {x = x} h a) e = subst (λ (q : Refusal). Refused o q x) (one_refused e) a
  checked_refused r long (check_passed h x) e = absurd (not_refused e)

  module _ (w : Wanted) where
    DrawnFrom : OutlineReport → Type 0
    DrawnFrom r = (ts : List Token) × (p : Program) × (t : Ty) × Passes o ts p t × (r.alone ≡ is_number p.main) × (r.there ≡ has_function w p.defs)

    outlined_passed : (r : OutlineReport) → Outlined o w table r → r.told ≡ passed → DrawnFrom r
    unfolding DrawnFrom
    outlined_passed r (outline_short h) e = absurd (not_refused (sym e))
    outlined_passed r (outline_refused h x) e = absurd (not_refused (sym e))
    outlined_passed r (outline_passed h x) e = (_, _, _, x, refl, refl)

    outlined_refused : (r : OutlineReport) {y : Refusal} → TABLE ≤ table → Outlined o w table r → r.told ≡ refused y → (x : P) × Refused o y x
    outlined_refused r long (outline_short h) e = absurd (omega arith)
    outlined_refused r long (outline_refused {x = x} h a) e = (x, subst (λ (q : Refusal). Refused o q x) (one_refused e) a)
    outlined_refused r long (outline_passed h x) e = absurd (not_refused e)

-- ---- the largest call

module _ (ed : ℕ) (book table table' : List ℕ) (long : TABLE ≤ length table) where
  abbrev Most : CheckedAt Spot → Type 0
  Most r = Check (pair_in ed book LARGEST_CALL) table (pair_checked_report r) table'

  most_left : (r : CheckedAt Spot) → Most r → table' ≡ cleared TABLE table
  most_left r c = c.table_left ∙ checked_left (pair_in_lawful ed book LARGEST_CALL) long c.answer TABLE table

  pub room_passed : (n : ℕ) → Most (Ok n) → AskedOfRoom ed book table (Ok tt) table'
  unfolding Some
  room_passed n c = record {
    told = λ l e f p b. admit e f p b (checked_passed (pair_in ed book LARGEST_CALL) (length table) _ c.answer refl).3.given;
    left = most_left (Ok n) c;
  }

  pub room_refused : (y : Code.Refusal) (x : Spot) → Most (Err (record { why = y; place = x }))
      → AskedOfRoom ed book table (Err (record { why = Why.Sheet y; spot = x })) table'
  room_refused y x c = record {
    told = λ l e f p b.
        admit_no_room e f p b
        (only_no_room_in ed book p b (checked_refused (pair_in ed book LARGEST_CALL) (length table) _ long c.answer refl)).0;
    left = most_left (Err (record { why = y; place = x })) c;
  }

-- ---- a book that passes

module _ (ed : ℕ) (book table table₁ : List ℕ) (long : TABLE ≤ length table) where
  abbrev Drawn : Result Found Code.Refusal → Type 0
  Drawn r = Outline (pair_in ed book ZERO) PAY_WANTED table (outlined_report r) table₁

  outline_left : {r : OutlineReport} → Outlined (pair_in ed book ZERO) PAY_WANTED (length table) r → left r.told TABLE table ≡ cleared TABLE table
  unfolding left
  outline_left (outline_short h) = absurd (omega arith)
  outline_left (outline_refused h x) = rw (refused_clears (pair_in_lawful ed book ZERO) x) refl
  outline_left (outline_passed h x) = refl

  drawn_left : (r : Result Found Code.Refusal) → Drawn r → table₁ ≡ cleared TABLE table
  drawn_left r c = c.table_left ∙ outline_left c.answer

  module _ (a b : Bool) {ts : List Token} {p : Program} {t : Ty} (x : Passes (pair_in ed book ZERO) ts p t) where
    -- what was found is so of the one program that there is
    abbrev Answer : Bool → Bool → Type 0
    Answer a b = Outlined (pair_in ed book ZERO) PAY_WANTED (length table) record { told = passed; alone = a; there = b }

    found : Answer a b → (a ≡ is_number p.main) × (b ≡ has_function PAY_WANTED p.defs)
    unfolding DrawnFrom
    found c =
        let y = outlined_passed (pair_in ed book ZERO) (length table) PAY_WANTED _ c refl in
        let e = one_program ed book y.3 x in
        (y.4 ∙ ap (λ (q : Program). is_number q.main) e, y.5 ∙ ap (λ (q : Program). has_function PAY_WANTED q.defs) e)

    found_book : Answer a b → a ≡ true → b ≡ true → Book p
    found_book c e f = let z = found c in book_is p (sym z.0 ∙ e) (sym z.1 ∙ f)

    found_none : Answer a b → (a ≡ false) ⊎ (b ≡ false) → Book p → ⊥
    found_none c e k = by e
      where
        by : (a ≡ false) ⊎ (b ≡ false) → ⊥
        by (inl e) = false≢true (sym e ∙ (found c).0 ∙ (is_book p k).0)
        by (inr e) = false≢true (sym e ∙ (found c).1 ∙ (is_book p k).1)

  -- it has the function and nothing outside: its room is asked next
  pub book_found : (a b : Bool) (r : Admission) (table' : List ℕ) → Drawn (Ok (record { alone = a; there = b })) → a ≡ true → b ≡ true
      → AskedOfRoom ed book table₁ r table' → AskedOfBook ed book table r table'
  book_found a b r table' c e f q = record {
    told = λ l g h x. q.told l g h x (found_book a b x c.answer e f);
    left = q.left ∙ ap (cleared TABLE) (drawn_left (Ok (record { alone = a; there = b })) c) ∙ cleared_again TABLE table;
  }

  pub no_book_found : (a b : Bool) (x : Spot) → Drawn (Ok (record { alone = a; there = b })) → (a ≡ false) ⊎ (b ≡ false) → meant x ≡ front
      → AskedOfBook ed book table (Err (record { why = Why.NoBook; spot = x })) table₁
  no_book_found a b x c e f = record {
    told = λ l g h y. subst (λ (z : Place). Admits ed book l (turned_away no_book z)) (sym f) (admit_no_book g h y (found_none a b y c.answer e));
    left = drawn_left (Ok (record { alone = a; there = b })) c;
  }

  -- it can't be refused, since it passes
  pub book_refused : (y : Code.Refusal) (x : Spot) → Drawn (Err y)
      → AskedOfBook ed book table (Err (record { why = Why.Sheet y; spot = x })) table₁
  book_refused y x c = record {
    told = λ l g h p.
        let z = outlined_refused (pair_in ed book ZERO) (length table) PAY_WANTED _ long c.answer refl in
        absurd (not_both (pair_in_lawful ed book ZERO) z.1 p);
    left = drawn_left (Err y) c;
  }

-- ---- any book

module _ (ed : ℕ) (book table table₁ : List ℕ) (long : TABLE ≤ length table) where
  abbrev Zero : CheckedAt Spot → Type 0
  Zero r = Check (pair_in ed book ZERO) table (pair_checked_report r) table₁

  zero_left : (r : CheckedAt Spot) → Zero r → table₁ ≡ cleared TABLE table
  zero_left r c = c.table_left ∙ checked_left (pair_in_lawful ed book ZERO) long c.answer TABLE table

  pub text_passed : (n : ℕ) (r : Admission) (table' : List ℕ) → Zero (Ok n) → AskedOfBook ed book table₁ r table'
      → AskedOfText ed book table r table'
  unfolding Some
  text_passed n r table' c q = record {
    told = λ l e f. q.told l e f (checked_passed (pair_in ed book ZERO) (length table) _ c.answer refl).3;
    left = q.left ∙ ap (cleared TABLE) (zero_left (Ok n) c) ∙ cleared_again TABLE table;
  }

  pub text_refused : (y : Code.Refusal) (x : Spot) → Zero (Err (record { why = y; place = x }))
      → AskedOfText ed book table (Err (record { why = Why.Sheet y; spot = x })) table₁
  text_refused y x c = record {
    told = λ l e f. admit_refused e f (checked_refused (pair_in ed book ZERO) (length table) _ long c.answer refl);
    left = zero_left (Err (record { why = y; place = x })) c;
  }

-- ---- all that is lent

-- with enough memory nothing is told that would keep it
admits_clears : {ed : ℕ} {book : List ℕ} {l : Lent} {a : Shift.Admission} → Enough l → Admits ed book l a → keeps_all a.told ≡ false
admits_clears g (admit_short (inl h)) = absurd (omega (arith, g.table))
admits_clears g (admit_short (inr h)) = absurd (omega (arith, g.work))
admits_clears g (admit_large e h) = refl
admits_clears {ed} {book} g (admit_refused e h x) = refused_clears (pair_in_lawful ed book ZERO) x
admits_clears g (admit_no_book e h x n) = refl
admits_clears {ed} {book} g (admit_no_room {r = r} {x = x} e h y b d) = (pair_in_lawful ed book LARGEST_CALL).not_memory r x d
admits_clears g (admit e h x b y) = refl

module _ (ed : ℕ) (book table work : List ℕ) (allowance : ℕ) where
  at_front : (y : Refusal) (x : Spot) (l : Lent) → meant x ≡ front → Admits ed book l (turned_away (sheet y) front)
      → Admits ed book l (turned_away (sheet y) (meant x))
  at_front y x l e a = subst (λ (z : Place). Admits ed book l (turned_away (sheet y) z)) (sym e) a

  pub asked_short : (x : Spot) → (length table < TABLE) ⊎ (length work < WORK) → meant x ≡ front
      → Asked ed book table work allowance (Err (record { why = Why.Sheet Code.Refusal.ShortMemory; spot = x })) table work
  unfolding left_by
  asked_short x h e = record { told = λ o. at_front _ x _ e (admit_short h); table_left = refl; work_left = refl }

  pub asked_large : (x : Spot) (table' work' : List ℕ) → TABLE ≤ length table → WORK ≤ length work → ALLOWANCE < allowance → meant x ≡ front
      → table' ≡ cleared TABLE table → work' ≡ cleared WORK work
      → Asked ed book table work allowance (Err (record { why = Why.Sheet Code.Refusal.LargeAllowance; spot = x })) table' work'
  unfolding left_by
  asked_large x table' work' a b h e t w =
      record { told = λ o. at_front _ x _ e (admit_large (record { table = a; work = b }) h); table_left = t; work_left = w }

  pub asked_text : (r : Admission) (table' work' : List ℕ) → TABLE ≤ length table → WORK ≤ length work → allowance ≤ ALLOWANCE
      → AskedOfText ed book table r table' → work' ≡ cleared WORK work → Asked ed book table work allowance r table' work'
  unfolding left_by
  asked_text r table' work' a b h q w =
      let g : Enough (lent table work 0 allowance) = record { table = a; work = b } in
      let z = admits_clears g (q.told (lent table work 0 allowance) g h) in
      record {
        told = λ o. q.told (lent table work o allowance) (record { table = a; work = b }) h;
        table_left = rw z q.left;
        work_left = rw z w;
      }
