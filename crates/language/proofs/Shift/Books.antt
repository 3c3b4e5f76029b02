-- A book is what an outline tells it to be: its last expression is a number alone, and it has the function that is wanted.
use lib.Dec.{eqb}
use mathlib.Core.Bool.{Bool, true, false, ◌&&◌, false≢true}
use mathlib.Core.List.{List, [], ◌∷◌, map}
use mathlib.Core.Logic.{⊎_elim}
use mathlib.Core.Path.{◌≡◌, refl, ap, ap₂, ◌∙◌}
use borrow.Author.Tests.{eqb-true}
use Prim.Native.Nat.{ℕ}
use Rattle.language.specs.Tokens.{same}
use Rattle.language.specs.Trees.{Ty, int, Exp, name, literal, Literal, whole, truth, trivial, decimal, unary, binary, follow, group, block, call, bind}
use Rattle.language.specs.Trees.{counted}
use Rattle.language.specs.Trees.{branch, loop, Param, Def, Program}
use Rattle.language.specs.Types.{Sig, sig}
use Rattle.language.specs.Meaning.{type_number}
use Rattle.language.specs.Outline.{is_whole, is_number, Wanted, type_numbers, suits, has_function}
use Rattle.language.specs.Shift.{PAY, Among, here, later, Book}
use Rattle.language.proofs.Text.Choices.{and_both, or_either, or_true}
use Rattle.language.proofs.Text.Tables.{same_one}
use Rattle.language.proofs.Types.TypeNumbers.{one_number}

-- `pay` from two ints to int
abbrev pub PAY_WANTED : Wanted
PAY_WANTED = record { called = PAY; takes = 1 ∷ 1 ∷ []; gives = 1 }

-- ---- a number alone

number_is : (l : Literal) → is_whole l ≡ true → (n : ℕ) × (l ≡ whole n)
number_is (whole n) e = (n, refl)
number_is (truth b) e = absurd (false≢true e)
number_is trivial e = absurd (false≢true e)
number_is (decimal f) e = absurd (false≢true e)

alone_is : (x : Exp) → is_number x ≡ true → (i : ℕ) × (n : ℕ) × (x ≡ literal i (whole n))
unfolding is_number
alone_is (name i x) e = absurd (false≢true e)
alone_is (literal i l) e = let z = number_is l e in (i, z.0, ap (literal i) z.1)
alone_is (unary i o x) e = absurd (false≢true e)
alone_is (binary i o x y) e = absurd (false≢true e)
alone_is (follow i x y) e = absurd (false≢true e)
alone_is (group i x) e = absurd (false≢true e)
alone_is (block i x) e = absurd (false≢true e)
alone_is (call i f xs) e = absurd (false≢true e)
alone_is (bind i n x y) e = absurd (false≢true e)
alone_is (branch i c x y) e = absurd (false≢true e)
alone_is (loop i c x) e = absurd (false≢true e)
alone_is (counted i n b xs x) e = absurd (false≢true e)

is_alone : (x : Exp) {i n : ℕ} → x ≡ literal i (whole n) → is_number x ≡ true
unfolding is_number
is_alone x e = ap is_number e

-- ---- what it takes and gives

numbers_of : List Ty → List ℕ
numbers_of [] = []
numbers_of (t ∷ ts) = type_number t ∷ numbers_of ts

abbrev types_of : List Param → List Ty
types_of ps = map (λ (p : Param). p.type) ps

types_told : (ps : List Param) (ts : List Ty) → type_numbers ps ≡ numbers_of ts → types_of ps ≡ ts
unfolding type_numbers numbers_of
types_told [] [] e = refl
types_told [] (t ∷ ts) e = absurd (false≢true (ap is_some e))
  where
    is_some : List ℕ → Bool
    is_some [] = false
    is_some (n ∷ ns) = true
types_told (p ∷ ps) [] e = absurd (false≢true (ap is_none e))
  where
    is_none : List ℕ → Bool
    is_none [] = true
    is_none (n ∷ ns) = false
types_told (p ∷ ps) (t ∷ ts) e =
    let f : type_number p.type ≡ type_number t = cc in
    let g : type_numbers ps ≡ numbers_of ts = cc in
    ap₂ (λ (t : Ty) (ts : List Ty). t ∷ ts) (one_number p.type t f) (types_told ps ts g)

told_types : (ps : List Param) → type_numbers ps ≡ numbers_of (types_of ps)
unfolding type_numbers numbers_of
told_types [] = refl
told_types (p ∷ ps) = ap (λ (ns : List ℕ). type_number p.type ∷ ns) (told_types ps)

-- ---- among the functions

found : (w : Wanted) (ds : List Def) → has_function w ds ≡ true → (d : Def) × Among d ds × (suits w d ≡ true)
unfolding has_function
found w [] e = absurd (false≢true e)
found w (d ∷ ds) e =
    ⊎_elim (λ h. (d, here, h)) (λ h. let z = found w ds h in (z.0, later z.1, z.2)) (or_either (suits w d) (has_function w ds) e)

finds : (w : Wanted) {d : Def} {ds : List Def} → Among d ds → suits w d ≡ true → has_function w ds ≡ true
unfolding has_function
finds w here e = rw e
finds w (later {c} {ds} a) e = or_true (suits w c) (finds w a e)

suited : (d : Def) → suits PAY_WANTED d ≡ true → (d.called ≡ PAY) × (sig d ≡ record { takes = int ∷ int ∷ []; gives = int })
unfolding suits numbers_of type_number
suited d e =
    let t = same (type_numbers d.params) (1 ∷ 1 ∷ []) in
    let g = eqb (type_number d.result) 1 in
    let x = and_both (same d.called PAY) (t && g) e in
    let y = and_both t g x.1 in
    let takes = types_told d.params (int ∷ int ∷ []) (same_one (type_numbers d.params) (1 ∷ 1 ∷ []) y.0) in
    let gives = one_number d.result int (eqb-true (type_number d.result) 1 y.1) in
    (same_one d.called PAY x.0, ap₂ (λ (ts : List Ty) (t : Ty). record { takes = ts; gives = t }) takes gives)

suitable : (d : Def) → d.called ≡ PAY → sig d ≡ record { takes = int ∷ int ∷ []; gives = int } → suits PAY_WANTED d ≡ true
unfolding suits numbers_of type_number same
suitable d c s =
    let t : type_numbers d.params ≡ 1 ∷ 1 ∷ [] = told_types d.params ∙ ap (λ (s : Sig). numbers_of s.takes) s in
    let g : type_number d.result ≡ 1 = ap (λ (s : Sig). type_number s.gives) s in
    rw (c, t, g) refl

-- ---- a book

pub book_is : (p : Program) → is_number p.main ≡ true → has_function PAY_WANTED p.defs ≡ true → Book p
book_is p a h =
    let x = alone_is p.main a in
    let f = found PAY_WANTED p.defs h in
    let s = suited f.0 f.2 in
    record { own = x.0; worth = x.1; rest = x.2; pay = f.0; among = f.1; called = s.0; typed = s.1 }

pub is_book : (p : Program) → Book p → (is_number p.main ≡ true) × (has_function PAY_WANTED p.defs ≡ true)
is_book p b = (is_alone p.main b.rest, finds PAY_WANTED b.among (suitable b.pay b.called b.typed))
