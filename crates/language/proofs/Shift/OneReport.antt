-- Of every book and everything lent with it there is exactly one answer before any line, and of every input that follows
-- exactly one report (R14.6 to R14.8).
use lib.ListN.{length, take, drop}
use mathlib.Core.List.{List, [], ◌∷◌, ◌++◌}
use mathlib.Core.Logic.{◌⊎◌, inl, inr}
use mathlib.Core.Option.{Option, some}
use mathlib.Core.Path.{◌≡◌, refl, sym, ap, ap₂, subst, ◌∙◌}
use native.Mathlib.Omega.{arith}
use Prim.Native.Nat.{ℕ, ◌<◌}
use Rattle.language.specs.Sizes.{TABLE, WORK, LINES}
use Rattle.language.specs.Tokens.{Token}
use Rattle.language.specs.Trees.{Ty, Program}
use Rattle.language.specs.Numbers.{Refusal}
use Rattle.language.specs.Answers.{Passes, Refused, Lent, Enough}
use Rattle.language.specs.Pairs.{Place}
use Rattle.language.specs.Edition.{pair_in}
use Rattle.language.specs.Shift.{Line, lines, Outcome, AllCome, none_comes, one_comes, Report, report_of, ShiftRefusal, sheet, Book}
use Rattle.language.specs.Shift.{ZERO, LARGEST_CALL, Admission, Admits, admit_short, admit_large, admit_refused, admit_no_book}
use Rattle.language.specs.Shift.{admit_no_room, admit, told_of, Shift}
use Rattle.language.proofs.Answers.Origins.{Fate, fails, passes, passes_is, refused_is, not_both}
use Rattle.language.proofs.Answers.Editions.{pair_in_lawful}
use Rattle.language.proofs.Shift.LineOutcomes.{Admitted, one_outcome, some_outcome}

-- ---- before any line

module _ {l : Lent} where
  short_not : {A : Type 0} → (l.table < TABLE) ⊎ (l.work < WORK) → Enough l → A
  short_not (inl h) e = absurd (omega (arith, e.table))
  short_not (inr h) e = absurd (omega (arith, e.work))

same_refusal : {r q : Refusal} {x y : Place} → (r ≡ q) × (x ≡ y)
    → ◌≡◌ {A = Admission} (record { told = some (sheet r); place = x }) (record { told = some (sheet q); place = y })
same_refusal e = ap₂ (λ (r : Refusal) (x : Place). record { told = some (sheet r); place = x }) e.0 e.1

module _ (ed : ℕ) (book : List ℕ) where
  pub one_program : {ts us : List Token} {p q : Program} {t u : Ty} → Passes (pair_in ed book ZERO) ts p t → Passes (pair_in ed book ZERO) us q u → p ≡ q
  one_program {ts} {us} {p} {q} {t} {u} a b =
      let law = pair_in_lawful ed book ZERO in
      let e : ◌≡◌ {A = Fate Place} (passes ts p t) (passes us q u) = sym (passes_is law a) ∙ passes_is law b in
      cc

  one_refusal : {r q : Refusal} {x y : Place} → Refused (pair_in ed book ZERO) r x → Refused (pair_in ed book ZERO) q y → (r ≡ q) × (x ≡ y)
  one_refusal {r} {q} {x} {y} a b =
      let law = pair_in_lawful ed book ZERO in
      let e : ◌≡◌ {A = Fate Place} (fails r x) (fails q y) = sym (refused_is law a) ∙ refused_is law b in
      let f : r ≡ q = cc in
      let g : x ≡ y = cc in
      (f, g)

  clash : {A : Type 0} {r : Refusal} {x : Place} {ts : List Token} {p : Program} {t : Ty} → Refused (pair_in ed book ZERO) r x
      → Passes (pair_in ed book ZERO) ts p t → A
  clash a b = absurd (not_both (pair_in_lawful ed book ZERO) a b)

  as_book : {ts us : List Token} {p q : Program} {t u : Ty} → Passes (pair_in ed book ZERO) ts p t → Passes (pair_in ed book ZERO) us q u → Book p → Book q
  as_book a b x = subst Book (one_program a b) x

module _ {ed : ℕ} {book : List ℕ} {l : Lent} where
  pub one_admission : {a b : Admission} → Admits ed book l a → Admits ed book l b → a ≡ b
  one_admission (admit_short h) (admit_short k) = refl
  one_admission (admit_short h) (admit_large e k) = short_not h e
  one_admission (admit_short h) (admit_refused e k x) = short_not h e
  one_admission (admit_short h) (admit_no_book e k x n) = short_not h e
  one_admission (admit_short h) (admit_no_room e k x b d) = short_not h e
  one_admission (admit_short h) (admit e k x b g) = short_not h e
  one_admission (admit_large e h) (admit_short k) = short_not k e
  one_admission (admit_large e h) (admit_large f k) = refl
  one_admission (admit_large e h) (admit_refused f k x) = absurd (omega arith)
  one_admission (admit_large e h) (admit_no_book f k x n) = absurd (omega arith)
  one_admission (admit_large e h) (admit_no_room f k x b d) = absurd (omega arith)
  one_admission (admit_large e h) (admit f k x b g) = absurd (omega arith)
  one_admission (admit_refused e h x) (admit_short k) = short_not k e
  one_admission (admit_refused e h x) (admit_large f k) = absurd (omega arith)
  one_admission (admit_refused e h x) (admit_refused f k y) = same_refusal (one_refusal ed book x y)
  one_admission (admit_refused e h x) (admit_no_book f k y n) = clash ed book x y
  one_admission (admit_refused e h x) (admit_no_room f k y b d) = clash ed book x y
  one_admission (admit_refused e h x) (admit f k y b g) = clash ed book x y
  one_admission (admit_no_book e h x n) (admit_short k) = short_not k e
  one_admission (admit_no_book e h x n) (admit_large f k) = absurd (omega arith)
  one_admission (admit_no_book e h x n) (admit_refused f k y) = clash ed book y x
  one_admission (admit_no_book e h x n) (admit_no_book f k y m) = refl
  one_admission (admit_no_book e h x n) (admit_no_room f k y b d) = absurd (n (as_book ed book y x b))
  one_admission (admit_no_book e h x n) (admit f k y b g) = absurd (n (as_book ed book y x b))
  one_admission (admit_no_room e h x b d) (admit_short k) = short_not k e
  one_admission (admit_no_room e h x b d) (admit_large f k) = absurd (omega arith)
  one_admission (admit_no_room e h x b d) (admit_refused f k y) = clash ed book y x
  one_admission (admit_no_room e h x b d) (admit_no_book f k y n) = absurd (n (as_book ed book x y b))
  one_admission (admit_no_room {r = r} {x = i} e h x b d) (admit_no_room {r = q} {x = j} f k y c g) =
      same_refusal ((pair_in_lawful ed book LARGEST_CALL).one_denial r q i j d g)
  one_admission (admit_no_room {r = r} {x = i} e h x b d) (admit {us = us} f k y c g) =
      absurd ((pair_in_lawful ed book LARGEST_CALL).never_both us r i g d)
  one_admission (admit e h x b g) (admit_short k) = short_not k e
  one_admission (admit e h x b g) (admit_large f k) = absurd (omega arith)
  one_admission (admit e h x b g) (admit_refused f k y) = clash ed book y x
  one_admission (admit e h x b g) (admit_no_book f k y n) = absurd (n (as_book ed book x y b))
  one_admission (admit {us = us} e h x b g) (admit_no_room {r = r} {x = i} f k y c d) =
      absurd ((pair_in_lawful ed book LARGEST_CALL).never_both us r i g d)
  one_admission (admit e h x b g) (admit f k y c d) = refl

-- ---- of the lines

pub one_of_all : {ed : ℕ} {book : List ℕ} {l : Lent} {ls : List Line} {os ps : List Outcome} {output o' o'' : List ℕ} → AllCome ed book l ls os output o'
    → AllCome ed book l ls ps output o'' → (os ≡ ps) × (o' ≡ o'')
one_of_all none_comes none_comes = (refl, refl)
one_of_all {ed} {book} {l} {output = output} {o'' = o''} (one_comes x xs) (one_comes {ls = ls} {os = ps} y ys) =
    let z = one_outcome x y in
    let w = ap (λ (bs : List ℕ). bs ++ drop (length bs) output) z.1 in
    let r = one_of_all xs (subst (λ (s : List ℕ). AllCome ed book l ls ps s o'') (sym w) ys) in
    (ap₂ (λ (o : Outcome) (os : List Outcome). o ∷ os) z.0 r.0, r.1)

pub all_come : {ed : ℕ} {book : List ℕ} {l : Lent} → Admitted ed book l → (ls : List Line) (output : List ℕ)
    → (os : List Outcome) × (output' : List ℕ) × AllCome ed book l ls os output output'
all_come ready [] output = ([], output, none_comes)
all_come ready (line ∷ ls) output =
    let x = some_outcome ready line in
    let xs = all_come ready ls (x.1 ++ drop (length x.1) output) in
    (x.0 ∷ xs.0, xs.1, one_comes x.2 xs.2)

-- no two reports, nor two outputs left
pub one_shift : {ed : ℕ} {book : List ℕ} {l : Lent} {input output : List ℕ} {a b : Option ShiftRefusal} {r q : Report} {o' o'' : List ℕ}
    → Shift ed book l input output a r o' → Shift ed book l input output b q o'' → (a ≡ b) × (r ≡ q) × (o' ≡ o'')
one_shift x y =
    let z = one_of_all x.come y.come in
    (x.refuses ∙ sym y.refuses, x.reports ∙ ap report_of z.0 ∙ sym y.reports, z.1)

-- and one there is
pub some_shift : {ed : ℕ} {book : List ℕ} {l : Lent} → Admitted ed book l → (input output : List ℕ)
    → (r : Report) × (output' : List ℕ) × Shift ed book l input output (told_of (lines input)) r output'
some_shift ready input output =
    let x = all_come ready (take LINES (lines input)) output in
    (_, x.1, record { outcomes = x.0; come = x.2; reports = refl; refuses = refl })
