-- The tokens with which what was read is completed (R01.4), as they are spelled: each is a token in both editions, but for the
-- mark of a counted loop, which edition 2 alone has, and which is wanted only behind a `for`.
use mathlib.Core.Bool.{Bool, true, false, cond, not, ◌&&◌, ◌||◌, false≢true}
use mathlib.Core.List.{List, [], ◌∷◌, ◌++◌}
use mathlib.Core.Option.{Option, none, some}
use mathlib.Core.Path.{◌≡◌, refl, sym, subst}
use Prim.Native.Nat.{ℕ, zero, suc, ◌+◌, ◌-◌}
use Prim.Native.String.{String}
use native.Mathlib.Omega.{arith}
use lib.Dec.{eqb, leb}
use lib.ListN.{take}
use lib.Seq.{slice}
use borrow.Author.Tests.{eqb-true, eq-eqb}
use Rattle.language.specs.Sizes.{DIGITS}
use Rattle.language.specs.Tokens.{Spelling, spell, Entry, ◌is◌, entry, words, marks, Vocabulary, EDITION_1, EDITION_2, edition, Token, spelled}
use Rattle.language.specs.Tokens.{NAME, NUMBER, FLOAT_NUMBER, DEF, LET, IN, THEN, ELSE, INT, IS, COLON, LPAR, RPAR, LBRACE, RBRACE, FOR, UPTO}
use Rattle.language.specs.Tokens.{SameToken, SameButPlaces, same_none, same_more}
use Rattle.language.specs.Text.{Content, space, unclosed, overlong, token, or_name, word_kind}
use Rattle.language.specs.Text.{Form, blank, line, comment, unended, name, number, based, float, mark}
use Rattle.language.specs.Starts.{Said}
use Rattle.language.proofs.Text.Marks.{Laws, laws_1, laws_2}
use Rattle.language.proofs.Text.Tables.{Table, kind_of, row, every, every_row, found}
use Rattle.language.proofs.Stored.Lone.{lone, lone_is}
use Rattle.language.proofs.Executable.Usable.{among, shared, usable, all_usable, looped}
use Rattle.language.proofs.Writing.Spelled.{Spelled, AllSpelled, spelled_none, spelled_more, reached_spelled}
use Rattle.language.proofs.Writing.ReadBack.{placed, placed_same, spelled_splits}

-- ---- the tokens

abbrev table : List (Entry ℕ String)
table =
    NAME is "x" ∷ NUMBER is "1" ∷ DEF is "def" ∷ LET is "let" ∷ IN is "in" ∷ THEN is "then" ∷ ELSE is "else" ∷ INT is "int" ∷ IS is "=" ∷
    COLON is ":" ∷ LPAR is "(" ∷ RPAR is ")" ∷ LBRACE is "{" ∷ RBRACE is "}" ∷ UPTO is ".." ∷ []

abbrev or_empty : Option String → Spelling
or_empty none = []
or_empty (some s) = spell s

unfoldable pub spelling : ℕ → Spelling
unfolding entry
spelling k = or_empty (entry table k)

-- a token of a kind, and tokens of these kinds
abbrev pub a_token : ℕ → Token
a_token k = record { kind = k; value = cond (eqb k NUMBER) 1 0; spelling = spelling k; place = 0 }

abbrev pub tokens : List ℕ → List Token
tokens [] = []
tokens (k ∷ ks) = a_token k ∷ tokens ks

-- ---- each is one

-- the spelling of each of these kinds is a token of the kind
infixr 60 ◌also◌
data Lone (voc : Vocabulary) : List ℕ → Type 0 where
  none_more : Lone voc []
  ◌also◌ : {c : ℕ} {cs : List ℕ} → lone voc (spelling c) ≡ some (a_token c) → Lone voc cs → Lone voc (c ∷ cs)

module _ (voc : Vocabulary) where
  lone_among : (cs : List ℕ) → Lone voc cs → (k : ℕ) → among cs k ≡ true → lone voc (spelling k) ≡ some (a_token k)
  lone_among [] none_more k e = absurd (false≢true e)
  lone_among (c ∷ cs) (x also r) k e = by (eqb k c) refl e (λ h. lone_among cs r k h)
    where
      by : (b : Bool) → eqb k c ≡ b → (b || among cs k) ≡ true → (among cs k ≡ true → lone voc (spelling k) ≡ some (a_token k))
          → lone voc (spelling k) ≡ some (a_token k)
      by true d h f = subst (λ (n : ℕ). lone voc (spelling n) ≡ some (a_token n)) (sym (eqb-true k c d)) x
      by false d h f = f h

lone_1 : Lone EDITION_1 shared
unfolding lone spelling
lone_1 = refl also refl also refl also refl also refl also refl also refl also refl also refl also refl also refl also refl also refl also refl also none_more

shared_2 : Lone EDITION_2 shared
unfolding lone spelling
shared_2 = refl also refl also refl also refl also refl also refl also refl also refl also refl also refl also refl also refl also refl also refl also none_more

lone_2 : Lone EDITION_2 (UPTO ∷ shared)
unfolding lone spelling
lone_2 = refl also shared_2

module _ {voc : Vocabulary} (laws : Laws voc) where
  lone_spelled : (k : ℕ) → lone voc (spelling k) ≡ some (a_token k) → Spelled voc (a_token k)
  lone_spelled k e = only (reached_spelled (lone_is laws (spelling k) (a_token k) e).1)
    where
      only : AllSpelled voc (a_token k ∷ []) → Spelled voc (a_token k)
      only (spelled_more x spelled_none) = x

spelled_1 : (k : ℕ) → usable false k ≡ true → Spelled EDITION_1 (a_token k)
spelled_1 k e = by (among shared k) (eqb k UPTO) refl e
  where
    by : (x y : Bool) → among shared k ≡ x → (x || (y && false)) ≡ true → Spelled EDITION_1 (a_token k)
    by true y d h = lone_spelled laws_1 k (lone_among EDITION_1 shared lone_1 k d)
    by false true d h = absurd (false≢true h)
    by false false d h = absurd (false≢true h)

spelled_2 : (b : Bool) (k : ℕ) → usable b k ≡ true → Spelled EDITION_2 (a_token k)
spelled_2 b k e = lone_spelled laws_2 k (lone_among EDITION_2 (UPTO ∷ shared) lone_2 k (by b (among shared k) (eqb k UPTO) e))
  where
    by : (b x y : Bool) → (x || (y && b)) ≡ true → (y || x) ≡ true
    by b x true h = refl
    by b true false h = refl
    by b false false h = absurd (false≢true h)

all_1 : (ks : List ℕ) → all_usable false ks ≡ true → AllSpelled EDITION_1 (tokens ks)
all_1 [] e = spelled_none
all_1 (k ∷ ks) e = by (usable false k) refl e (λ h. all_1 ks h)
  where
    by : (x : Bool) → usable false k ≡ x → (x && all_usable false ks) ≡ true → (all_usable false ks ≡ true → AllSpelled EDITION_1 (tokens ks))
        → AllSpelled EDITION_1 (tokens (k ∷ ks))
    by true d h f = spelled_more (spelled_1 k d) (f h)
    by false d h f = absurd (false≢true h)

all_2 : (b : Bool) (ks : List ℕ) → all_usable b ks ≡ true → AllSpelled EDITION_2 (tokens ks)
all_2 b [] e = spelled_none
all_2 b (k ∷ ks) e = by (usable b k) refl e (λ h. all_2 b ks h)
  where
    by : (x : Bool) → usable b k ≡ x → (x && all_usable b ks) ≡ true → (all_usable b ks ≡ true → AllSpelled EDITION_2 (tokens ks))
        → AllSpelled EDITION_2 (tokens (k ∷ ks))
    by true d h f = spelled_more (spelled_2 b k d) (f h)
    by false d h f = absurd (false≢true h)

-- ---- edition 1 has no `for`

abbrev Old : Content → Type 0
Old space = Unit {0}
Old unclosed = Unit {0}
Old overlong = Unit {0}
Old (token k v) = k ≡ FOR → ⊥

none_for : (rows : Table) → every (λ r. not (eqb (kind_of r) FOR)) rows ≡ true → (s : Spelling) → spelled rows s ≡ some FOR → ⊥
none_for rows h s e =
    let z = found rows s FOR e in
    let x : not (eqb (kind_of (row rows z.at)) FOR) ≡ true = every_row (λ r. not (eqb (kind_of r) FOR)) rows h z.at z.inside in
    let y : eqb (kind_of (row rows z.at)) FOR ≡ true = eq-eqb (kind_of (row rows z.at)) FOR z.means in
    false≢true (subst (λ (b : Bool). not b ≡ true) y x)

word_old : (s : Spelling) → word_kind EDITION_1 s ≡ FOR → ⊥
unfolding word_kind every
word_old s e = by (spelled words s) refl e
  where
    by : (o : Option ℕ) → spelled words s ≡ o → or_name o ≡ FOR → ⊥
    by none d h = let z : ◌≡◌ {A = ℕ} 1 43 = h in omega arith
    by (some k) d h = none_for words refl s (subst (λ (n : ℕ). spelled words s ≡ some n) h d)

float_old : (b : Bool) → Old (cond b (token FLOAT_NUMBER 0) overlong)
float_old true = λ e. let z : ◌≡◌ {A = ℕ} 39 43 = e in omega arith
float_old false = tt

form_old : {t : List ℕ} {p q : ℕ} {c : Content} → Form EDITION_1 t p q c → Old c
unfolding every
form_old (blank a b c) = tt
form_old (line a b c d) = tt
form_old (comment a) = tt
form_old (unended a b c) = tt
form_old {t} {p} {q} (name a b c) = word_old (slice p q t)
form_old (number a b) = λ e. let z : ◌≡◌ {A = ℕ} 2 43 = e in omega arith
form_old (based a b c) = λ e. let z : ◌≡◌ {A = ℕ} 2 43 = e in omega arith
form_old {p = p} {q = q} (float a b c d e f g) = float_old (leb (q - p) (DIGITS + 1))
form_old {t} {p} {q} (mark {k} a b) = λ e. none_for marks refl (slice p q t) (subst (λ (n : ℕ). spelled marks (slice p q t) ≡ some n) e b)

never_looped : (ts : List Token) (e : ℕ) → AllSpelled EDITION_1 (take e ts) → looped ts e ≡ false
unfolding looped
never_looped ts zero x = refl
never_looped [] (suc e) x = refl
never_looped (t ∷ ts) (suc e) (spelled_more y x) = by (eqb t.kind FOR) refl (never_looped ts e x)
  where
    by : (b : Bool) → eqb t.kind FOR ≡ b → looped ts e ≡ false → (b || looped ts e) ≡ false
    by true d h = absurd (form_old y.form (eqb-true t.kind FOR d))
    by false d h = h

-- ---- what is said with them

module _ {voc : Vocabulary} where
  same_spelled : {ts us : List Token} → SameButPlaces ts us → AllSpelled voc ts → AllSpelled voc us
  same_spelled same_none spelled_none = spelled_none
  same_spelled (same_more e s) (spelled_more x xs) = spelled_more (moved e x) (same_spelled s xs)
    where
      moved : {t u : Token} → SameToken t u → Spelled voc t → Spelled voc u
      moved e x = record {
        text = x.text;
        from = x.from;
        to = x.to;
        form = rw (← e.kind, ← e.value) x.form;
        bytes = rw (← e.spelling) x.bytes;
        small = rw (← e.value) x.small;
      }

  both_spelled : {ts us : List Token} → AllSpelled voc ts → AllSpelled voc us → AllSpelled voc (ts ++ us)
  both_spelled spelled_none ys = ys
  both_spelled (spelled_more x xs) ys = spelled_more x (both_spelled xs ys)

  pub said_spelled : {ts : List Token} → Said voc ts → AllSpelled voc ts
  said_spelled s = same_spelled s.same (reached_spelled s.splits)

  pub spelled_said : Laws voc → {ts : List Token} → AllSpelled voc ts → Said voc ts
  spelled_said laws {ts} x = record { text = _; tokens = placed 0 ts; splits = spelled_splits laws x; same = back (placed_same 0 ts) }
    where
      back : {ts us : List Token} → SameButPlaces ts us → SameButPlaces us ts
      back same_none = same_none
      back (same_more x s) = same_more record { kind = sym x.kind; value = sym x.value; spelling = sym x.spelling } (back s)

-- In an edition in which the first e tokens are said, so are they with usable ones behind.
pub said_on : (ts : List Token) (e : ℕ) (ks : List ℕ) → all_usable (looped ts e) ks ≡ true → (n : ℕ) (voc : Vocabulary) → edition n ≡ some voc
    → Said voc (take e ts) → Said voc (take e ts ++ tokens ks)
unfolding edition
said_on ts e ks u n voc d s = by (eqb n 1) (eqb n 2) d
  where
    in_1 : Said EDITION_1 (take e ts) → Said EDITION_1 (take e ts ++ tokens ks)
    in_1 s =
        let x = said_spelled s in
        let h : all_usable false ks ≡ true = subst (λ (b : Bool). all_usable b ks ≡ true) (never_looped ts e x) u in
        spelled_said laws_1 (both_spelled x (all_1 ks h))

    in_2 : Said EDITION_2 (take e ts) → Said EDITION_2 (take e ts ++ tokens ks)
    in_2 s = spelled_said laws_2 (both_spelled (said_spelled s) (all_2 (looped ts e) ks u))

    by : (a b : Bool) → cond a (some EDITION_1) (cond b (some EDITION_2) none) ≡ some voc → Said voc (take e ts ++ tokens ks)
    by true b h =
        let z : EDITION_1 ≡ voc = cc in
        subst (λ (v : Vocabulary). Said v (take e ts ++ tokens ks)) z (in_1 (subst (λ (v : Vocabulary). Said v (take e ts)) (sym z) s))
    by false true h =
        let z : EDITION_2 ≡ voc = cc in
        subst (λ (v : Vocabulary). Said v (take e ts ++ tokens ks)) z (in_2 (subst (λ (v : Vocabulary). Said v (take e ts)) (sym z) s))
    by false false h = let z : ◌≡◌ {A = ℕ} 0 1 = cc in absurd (omega arith)
