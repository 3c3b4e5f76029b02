-- A name looked up among the reserved words by its length and its first byte: the words that these leave decide.
use borrow.Author.Tests.{eqb-true, eq-eqb, le-leb, lt-leb}
use lib.Dec.{eqb, leb}
use lib.ListN.{length}
use lib.Seq.{slice, slice-cons, length-slice}
use mathlib.Core.Bool.{Bool, true, false, cond, ◌&&◌}
use mathlib.Core.List.{List, [], ◌∷◌}
use mathlib.Core.Logic.{⊎_elim}
use mathlib.Core.Option.{Option, some}
use mathlib.Core.Path.{◌≡◌, refl, sym, ◌∙◌, ap, ap₂, subst}
use native.Mathlib.Omega.{arith}
use Prim.Native.Nat.{ℕ, suc, ◌+◌, ◌-◌, ◌≤◌, ◌<◌}
use Prim.Native.String.{String}
use Rattle.language.proofs.Text.Choices.{either, outcome, clash, and_both}
use Rattle.language.proofs.Text.Spellings.{stands}
use Rattle.language.proofs.Text.Tables.{Table, spelling_of, kind_of, every, same_one, no_kind}
use Rattle.language.specs.Text.{byte, or_name, word_kind}
use Rattle.language.specs.Tokens.{Vocabulary, Spelling, spell, same, Entry, spelled, words, EDITION_1, EDITION_2, NAME}
use Rattle.language.specs.Tokens.Entry.{◌is◌}
use Rattle.tokens.proofs.Compared.{stands_same}
use Rattle.tokens.proofs.FirstBytes.{NoneOf, begins_so, other_first}
use Rattle.tokens.specs.Editions.{meant, has_loops}
use Rattle.tokens.specs.declared.edition.Edition.{Edition}
use Rattle.tokens.specs.declared.edition.Edition.TheVariants.{One, Two}

-- what is so of the words of each edition is so of those of any
in_both : (f : Entry String ℕ → Bool) → every f words ≡ true → every f EDITION_2.words ≡ true → (e : Edition) → every f (meant e).words ≡ true
in_both f x y One = x
in_both f x y Two = y

-- ---- the words that are left

-- a spelling of n bytes that begins with b
unfoldable pub fits : ℕ → ℕ → Spelling → Bool
fits n b [] = false
fits n b (a ∷ w) = eqb (length (a ∷ w)) n && eqb a b

-- the rows with such spellings
unfoldable pub left : ℕ → ℕ → Table → Table
left n b [] = []
left n b (r ∷ rows) = cond (fits n b (spelling_of r)) (r ∷ left n b rows) (left n b rows)

-- the kind of the first of some rows whose spelling stands at p, and else NAME
abbrev pub stood : Table → List ℕ → ℕ → ℕ
stood [] t p = NAME
stood (r ∷ rows) t p = cond (stands t p (spelling_of r)) (kind_of r) (stood rows t p)

left_yes : (n b : ℕ) (r : Entry String ℕ) (rows : Table) → fits n b (spelling_of r) ≡ true → left n b (r ∷ rows) ≡ r ∷ left n b rows
unfolding left
left_yes n b r rows e = ap (λ x. cond x (r ∷ left n b rows) (left n b rows)) e

left_no : (n b : ℕ) (r : Entry String ℕ) (rows : Table) → fits n b (spelling_of r) ≡ false → left n b (r ∷ rows) ≡ left n b rows
unfolding left
left_no n b r rows e = ap (λ x. cond x (r ∷ left n b rows) (left n b rows)) e

or_name_cond : (x : Bool) (k : ℕ) (o : Option ℕ) → or_name (cond x (some k) o) ≡ cond x k (or_name o)
or_name_cond true k o = refl
or_name_cond false k o = refl

fits_length : (n b : ℕ) (w : Spelling) → fits n b w ≡ true → length w ≡ n
unfolding fits
fits_length n b (a ∷ w) e = eqb-true (length (a ∷ w)) n (and_both (eqb (length (a ∷ w)) n) (eqb a b) e).0
fits_length n b [] e = absurd (clash e refl)

-- the name of n bytes from p on
module _ (t : List ℕ) (p n b : ℕ) (some : 0 < n) (inside : p + n ≤ length t) (first : byte t p ≡ b) where
  abbrev name : Spelling
  name = slice p (p + n) t

  name_cons : name ≡ b ∷ slice (suc p) (p + n) t
  name_cons = rw (← first) (slice-cons p (p + n) t 0 (omega arith) inside)

  name_length : length name ≡ n
  name_length = omega (arith, length-slice p (p + n) t inside)

  fits_name : (w : Spelling) → same w name ≡ true → fits n b w ≡ true
  unfolding fits
  fits_name w e =
      let z : w ≡ b ∷ slice (suc p) (p + n) t = same_one w name e ∙ name_cons in
      let l : suc (length (slice (suc p) (p + n) t)) ≡ n = ap length (sym name_cons) ∙ name_length in
      rw (z, eq-eqb (suc (length (slice (suc p) (p + n) t))) n l, eq-eqb b b refl)

  -- those that fit decide
  decide : (rows : Table) → or_name (spelled rows name) ≡ stood (left n b rows) t p
  unfolding spelled left
  decide [] = refl
  decide ((w is k) ∷ rows) =
      ⊎_elim
      (λ e. let l : length (spell w) ≡ p + n - p = omega (arith, fits_length n b (spell w) e) in
      let z = stands_same t (spell w) p (p + n) (omega arith) inside l in
      or_name_cond (same (spell w) name) k (spelled rows name)
      ∙ ap₂ (λ x y. cond x k y) (sym z) (decide rows)
      ∙ ap (λ x. stood x t p) (sym (left_yes n b (w is k) rows e)))
      (λ e. ⊎_elim (λ f. absurd (clash (fits_name (spell w) f) e))
      (λ f. or_name_cond (same (spell w) name) k (spelled rows name)
      ∙ ap (λ x. cond x k (or_name (spelled rows name))) f
      ∙ decide rows
      ∙ ap (λ x. stood x t p) (sym (left_no n b (w is k) rows e)))
      (outcome (same (spell w) name)))
      (outcome (fits n b (spell w)))

  -- so it is by the table of the words
  by_table : (voc : Vocabulary) {r : ℕ} → r ≡ stood (left n b voc.words) t p → r ≡ word_kind voc name
  unfolding word_kind
  by_table voc e = e ∙ sym (decide voc.words)

  -- the words that are left are those of edition 1
  pub by_first : left n b EDITION_2.words ≡ left n b words → {r : ℕ} → r ≡ stood (left n b words) t p
      → (e : Edition) → r ≡ word_kind (meant e) name
  by_first z x One = by_table EDITION_1 x
  by_first z x Two = by_table EDITION_2 (rw z x)

  -- one is left that edition 1 has not
  pub by_added : (w : String) (k : ℕ) → left n b words ≡ [] → left n b EDITION_2.words ≡ w is k ∷ [] → {r : ℕ} → (e : Edition)
      → r ≡ cond (has_loops e && stands t p (spell w)) k NAME → r ≡ word_kind (meant e) name
  by_added w k y z One x = by_table EDITION_1 (rw y x)
  by_added w k y z Two x = by_table EDITION_2 (rw z x)

-- where no word of that length begins so, it is a name
pub no_first : (t : List ℕ) (p n b : ℕ) (ks : List ℕ) → p + (n + 1) ≤ length t → b ≡ byte t p
    → every (λ r. begins_so n ks (spelling_of r)) words ≡ true
    → every (λ r. begins_so n ks (spelling_of r)) EDITION_2.words ≡ true → NoneOf ks b
    → (e : Edition) → NAME ≡ word_kind (meant e) (slice p (p + (n + 1)) t)
unfolding word_kind
no_first t p n b ks h f x y m e =
    let q = p + (n + 1) in
    let s = slice (suc p) q t in
    let l : length s ≡ n = omega (arith, length-slice (suc p) q t h) in
    rw (slice-cons p q t 0 (omega arith) h)
    (ap or_name (sym (other_first (meant e).words ks (byte t p) s (rw l (in_both (λ r. begins_so n ks (spelling_of r)) x y e)) (subst (NoneOf ks) f m))))

-- ---- lengths

-- a name that ends at q, by its length
pub by_length : (voc : Vocabulary) (t : List ℕ) (p q n : ℕ) {r : ℕ} → p ≤ q → q - p ≡ n
    → r ≡ word_kind voc (slice p (p + n) t) → r ≡ word_kind voc (slice p q t)
by_length voc t p q n {r} o e f =
    let z : p + n ≡ q = omega arith in
    subst (λ x. r ≡ word_kind voc (slice p x t)) z f

-- a word has two to five bytes
short : Spelling → Bool
short w = leb 2 (length w) && leb (length w) 5

not_short : (n : ℕ) → NoneOf (5 ∷ 4 ∷ 3 ∷ 2 ∷ []) n → (leb 2 n && leb n 5) ≡ false
not_short n m =
    let five = m.1 in
    let four = m.0.1 in
    let three = m.0.0.1 in
    let two = m.0.0.0.1 in
    ⊎_elim (λ l. rw (lt-leb 2 n l)) (λ l. rw (le-leb 2 n l, lt-leb n 5 (omega arith))) (either n 2)

-- any other name is none
pub no_length : (t : List ℕ) (p q : ℕ) → q ≤ length t → NoneOf (5 ∷ 4 ∷ 3 ∷ 2 ∷ []) (q - p)
    → (e : Edition) → NAME ≡ word_kind (meant e) (slice p q t)
unfolding word_kind short every
no_length t p q h m e =
    let s = slice p q t in
    let l : q - p ≡ length s = sym (length-slice p q t h) in
    let each = in_both (λ r. short (spelling_of r)) refl refl e in
    ap or_name (sym (no_kind short (meant e).words s each (not_short (length s) (subst (NoneOf (5 ∷ 4 ∷ 3 ∷ 2 ∷ [])) l m))))
