-- Services by the caller's edition (R12.2): an origin by the number that is named is lawful where it is by each vocabulary, so
-- of everything lent there is one answer; a known number answers what its vocabulary answers; another is 42.
use mathlib.Core.Bool.{Bool, true, false, cond}
use mathlib.Core.List.{List}
use mathlib.Core.Logic.{◌⊎◌, inl, inr}
use mathlib.Core.Option.{Option, none, some}
use mathlib.Core.Path.{◌≡◌, refl, sym, subst, ◌∙◌}
use Prim.Native.Nat.{ℕ}
use native.Mathlib.Omega.{arith}
use lib.Dec.{eqb}
use Rattle.language.specs.Sizes.{Sizes}
use Rattle.language.specs.Tokens.{Vocabulary, EDITION_1, EDITION_2, Token, spell, same, spelled, NAME}
use Rattle.language.specs.Text.{word_kind}
use Rattle.language.specs.Trees.{Ty, Program}
use Rattle.language.specs.Numbers.{Refusal, no_edition, no_reading, long_text}
use Rattle.language.specs.Answers.{Origin, text_under, keeps, PassesUnder, RefusedUnder, by_origin, by_tokens, CheckReport, CheckUnder}
use Rattle.language.specs.Answers.{RunReport, RunUnder}
use Rattle.language.specs.Writing.{WriteReport, WriteUnder, StoreUnder}
use Rattle.language.specs.Pairs.{pair_under}
use Rattle.language.specs.Edition.{edition, EditionDenies, unknown, known, EditionGives, in_edition, text_in_under, pair_in_under, text_in, pair_in}
use Rattle.language.proofs.Text.Marks.{Laws, laws_1, laws_2}
use Rattle.language.proofs.Answers.Follow.{Follows, passes_follow, refused_follow, check_follow, run_follow, write_follow, store_follow, follows_back}
use Rattle.language.proofs.Answers.Origins.{LawfulUnder, Lawful, of_profile, text_lawful}
use Rattle.language.proofs.Answers.Pairs.{pair_lawful}

-- ---- the numbers

pub none_some : {v : Vocabulary} → ◌≡◌ {A = Option Vocabulary} none (some v) → ⊥
none_some e = let z : ◌≡◌ {A = ℕ} 0 1 = cc in omega arith

-- a number names one vocabulary, whose laws hold
pub one_edition : (n : ℕ) {v w : Vocabulary} → edition n ≡ some v → edition n ≡ some w → v ≡ w
one_edition n {v} {w} a b = let e : ◌≡◌ {A = Option Vocabulary} (some v) (some w) = sym a ∙ b in cc

pub named_laws : (n : ℕ) {v : Vocabulary} → edition n ≡ some v → Laws v
unfolding edition
named_laws n {v} e = by (eqb n 1) (eqb n 2) e
  where
    by : (a b : Bool) → cond a (some EDITION_1) (cond b (some EDITION_2) none) ≡ some v → Laws v
    by true b h = subst Laws (cc) laws_1
    by false true h = subst Laws (cc) laws_2
    by false false h = absurd (none_some h)

-- ---- lawful

module _ {σ : Sizes} {P : Type 0} (n : ℕ) (o : Vocabulary → Origin P) (law : (v : Vocabulary) → edition n ≡ some v → LawfulUnder σ (o v)) where
  pub edition_one_list : (ts us : List Token) → EditionGives n o ts → EditionGives n o us → ts ≡ us
  edition_one_list ts us a b =
      let e = one_edition n b.named a.named in
      (law a.words a.named).one_list ts us a.given (subst (λ (v : Vocabulary). (o v).gives us) e b.given)

  pub edition_one_denial : (r q : Refusal) (x y : P) → EditionDenies n o r x → EditionDenies n o q y → (r ≡ q) × (x ≡ y)
  edition_one_denial r q x y (unknown a) (unknown b) = (refl, refl)
  edition_one_denial r q x y (unknown a) (known b d) = absurd (none_some (sym a ∙ b))
  edition_one_denial r q x y (known a d) (unknown b) = absurd (none_some (sym b ∙ a))
  edition_one_denial r q x y (known {voc = v} a d) (known b e) =
      (law v a).one_denial r q x y d (subst (λ (w : Vocabulary). (o w).denies q y) (one_edition n b a) e)

  pub edition_never_both : (ts : List Token) (r : Refusal) (x : P) → EditionGives n o ts → EditionDenies n o r x → ⊥
  edition_never_both ts r x g (unknown a) = none_some (sym a ∙ g.named)
  edition_never_both ts r x g (known {voc = v} a d) =
      (law v a).never_both ts r x (subst (λ (w : Vocabulary). (o w).gives ts) (one_edition n g.named a) g.given) d

  unfoldable some_in : ((ts : List Token) × EditionGives n o ts) ⊎ ((r : Refusal) × (x : P) × EditionDenies n o r x)
  some_in = by (edition n) refl
    where
      of : (v : Vocabulary) → edition n ≡ some v → ((ts : List Token) × (o v).gives ts) ⊎ ((r : Refusal) × (x : P) × (o v).denies r x)
          → ((ts : List Token) × EditionGives n o ts) ⊎ ((r : Refusal) × (x : P) × EditionDenies n o r x)
      of v e (inl (ts, g)) = inl (ts, record { words = v; named = e; given = g })
      of v e (inr (r, x, d)) = inr (r, x, known e d)

      by : (m : Option Vocabulary) → edition n ≡ m → ((ts : List Token) × EditionGives n o ts) ⊎ ((r : Refusal) × (x : P) × EditionDenies n o r x)
      by none e = inr (no_edition, _, unknown e)
      by (some v) e = of v e (law v e).some

  pub edition_not_memory : (r : Refusal) (x : P) → EditionDenies n o r x → keeps r ≡ false
  edition_not_memory r x (unknown a) = refl
  edition_not_memory r x (known {voc = v} a d) = (law v a).not_memory r x d

  pub edition_not_reading : (r : Refusal) (x : P) → EditionDenies n o r x → r ≡ no_reading → ⊥
  edition_not_reading r x (unknown a) e = let z : ◌≡◌ {A = ℕ} 0 1 = cc in omega arith
  edition_not_reading r x (known {voc = v} a d) e = (law v a).not_reading x (subst (λ (q : Refusal). (o v).denies q x) e d)

  pub edition_not_written : (r : Refusal) (x : P) → EditionDenies n o r x → r ≡ long_text → ⊥
  edition_not_written r x (unknown a) e = let z : ◌≡◌ {A = ℕ} 0 1 = cc in omega arith
  edition_not_written r x (known {voc = v} a d) e = (law v a).not_written x (subst (λ (q : Refusal). (o v).denies q x) e d)

  pub edition_not_profiled : (r : Refusal) (x : P) → EditionDenies n o r x → of_profile r ≡ false
  edition_not_profiled r x (unknown a) = refl
  edition_not_profiled r x (known {voc = v} a d) = (law v a).not_profiled r x d

  unfoldable pub edition_lawful : LawfulUnder σ (in_edition n o)
  unfolding some_in
  edition_lawful = record {
    one_list = edition_one_list;
    one_denial = edition_one_denial;
    never_both = edition_never_both;
    some = some_in;
    few = λ ts a. (law a.words a.named).few ts a.given;
    small = λ ts a. (law a.words a.named).small ts a.given;
    not_memory = edition_not_memory;
    not_reading = λ x a. edition_not_reading no_reading x a refl;
    not_written = λ x a. edition_not_written long_text x a refl;
    not_profiled = edition_not_profiled;
  }

-- a text and two sheets, whatever number is named
unfoldable pub text_in_lawful_under : {σ : Sizes} (n : ℕ) (source : List ℕ) → LawfulUnder σ (text_in_under σ n source)
unfolding edition_lawful text_lawful
text_in_lawful_under n source = edition_lawful n _ λ v e. text_lawful (named_laws n e) source

pub pair_in_lawful_under : {σ : Sizes} (n : ℕ) (first second : List ℕ) → LawfulUnder σ (pair_in_under σ n first second)
pair_in_lawful_under n first second = edition_lawful n _ λ v e. pair_lawful (named_laws n e) first second

-- under the box's sizes
unfoldable pub text_in_lawful : (n : ℕ) (source : List ℕ) → Lawful (text_in n source)
unfolding text_in_lawful_under
text_in_lawful n source = text_in_lawful_under n source

pub pair_in_lawful : (n : ℕ) (first second : List ℕ) → Lawful (pair_in n first second)
pair_in_lawful n first second = pair_in_lawful_under n first second

-- ---- a number that names none

-- nothing passes, and 42 is all that is refused, whatever the sheet is
module _ {P : Type 0} (n : ℕ) (o : Vocabulary → Origin P) (e : edition n ≡ none) where
  pub is_refused : {σ : Sizes} → RefusedUnder σ (in_edition n o) no_edition (o EDITION_1).nowhere
  is_refused = by_origin (unknown e)

  pub only_42 : {σ : Sizes} {r : Refusal} {x : P} → RefusedUnder σ (in_edition n o) r x → (r ≡ no_edition) × (x ≡ (o EDITION_1).nowhere)
  only_42 (by_origin (unknown a)) = (refl, refl)
  only_42 (by_origin (known a d)) = absurd (none_some (sym e ∙ a))
  only_42 (by_tokens g d) = absurd (none_some (sym e ∙ g.named))

  pub none_passes : {σ : Sizes} {ts : List Token} {p : Program} {t : Ty} → PassesUnder σ (in_edition n o) ts p t → ⊥
  none_passes x = none_some (sym e ∙ x.given.named)

-- ---- a known number

-- an origin that tells places alike by every vocabulary
pub record Alike {P : Type 0} (o : Vocabulary → Origin P) : Type 0 where
  pub nowhere : (v : Vocabulary) → (o v).nowhere ≡ (o EDITION_1).nowhere
  pub at : (v : Vocabulary) (ts : List Token) (i : ℕ) → (o v).at ts i ≡ (o EDITION_1).at ts i

pub text_alike : {σ : Sizes} (source : List ℕ) → Alike (λ voc. text_under σ voc source)
text_alike source = record { nowhere = λ v. refl; at = λ v ts i. refl }

pub pair_alike : {σ : Sizes} (first second : List ℕ) → Alike (λ voc. pair_under σ voc first second)
pair_alike first second = record { nowhere = λ v. refl; at = λ v ts i. refl }

module _ {P : Type 0} (n : ℕ) {o : Vocabulary → Origin P} (alike : Alike o) {v : Vocabulary} (e : edition n ≡ some v) where
  -- a known number answers what its vocabulary answers
  pub named_follows : Follows (o v) (in_edition n o)
  named_follows = record {
    gives = λ g. record { words = v; named = e; given = g };
    denies = λ d. known e d;
    nowhere = alike.nowhere v;
    at = alike.at v;
  }

  pub passes_in : {σ : Sizes} {ts : List Token} {p : Program} {t : Ty} → PassesUnder σ (o v) ts p t → PassesUnder σ (in_edition n o) ts p t
  passes_in = passes_follow named_follows

  pub refused_in : {σ : Sizes} {r : Refusal} {x : P} → RefusedUnder σ (o v) r x → RefusedUnder σ (in_edition n o) r x
  refused_in = refused_follow named_follows

  pub check_in : {σ : Sizes} {table table' : List ℕ} {r : CheckReport P} → CheckUnder σ (o v) table r table' → CheckUnder σ (in_edition n o) table r table'
  check_in = check_follow named_follows

  pub run_in : {σ : Sizes} {table work output table' work' output' : List ℕ} {allowance : ℕ} {r : RunReport P}
      → RunUnder σ (o v) table work output allowance r table' work' output'
      → RunUnder σ (in_edition n o) table work output allowance r table' work' output'
  run_in = run_follow named_follows

  pub write_in : {σ : Sizes} {table output table' output' : List ℕ} {r : WriteReport P} → WriteUnder σ (o v) table output r table' output'
      → WriteUnder σ (in_edition n o) table output r table' output'
  write_in = write_follow named_follows

  pub store_in : {σ : Sizes} {table output table' output' : List ℕ} {r : WriteReport P} → StoreUnder σ (o v) table output r table' output'
      → StoreUnder σ (in_edition n o) table output r table' output'
  store_in = store_follow named_follows

-- and its vocabulary what it answers
pub named_back : {σ : Sizes} {P : Type 0} (n : ℕ) {o : Vocabulary → Origin P} → Alike o → ((v : Vocabulary) → Laws v → LawfulUnder σ (o v))
    → {v : Vocabulary} → edition n ≡ some v → Follows (in_edition n o) (o v)
named_back n alike law {v} e =
    follows_back (law v (named_laws n e)) (edition_lawful n _ λ w h. law w (named_laws n h)) (named_follows n alike e)

-- ---- the two numbers

pub one_is : edition 1 ≡ some EDITION_1
unfolding edition
one_is = refl

pub two_is : edition 2 ≡ some EDITION_2
unfolding edition
two_is = refl

-- in edition 1 a text and two sheets answer what they answered before there were editions, and nothing else
pub text_as_it_was : {σ : Sizes} (source : List ℕ)
    → Follows (text_under σ EDITION_1 source) (text_in_under σ 1 source) × Follows (text_in_under σ 1 source) (text_under σ EDITION_1 source)
text_as_it_was source = (
  named_follows 1 (text_alike source) one_is,
  named_back 1 (text_alike source) (λ v laws. text_lawful laws source) one_is,
)

pub pair_as_it_was : {σ : Sizes} (first second : List ℕ)
    → Follows (pair_under σ EDITION_1 first second) (pair_in_under σ 1 first second)
    × Follows (pair_in_under σ 1 first second) (pair_under σ EDITION_1 first second)
pair_as_it_was first second = (
  named_follows 1 (pair_alike first second) one_is,
  named_back 1 (pair_alike first second) (λ v laws. pair_lawful laws first second) one_is,
)

-- there `for` and `by` are names (R12.11)
pub for_a_name : word_kind EDITION_1 (spell "for") ≡ NAME
unfolding word_kind spelled same
for_a_name = refl

pub by_a_name : word_kind EDITION_1 (spell "by") ≡ NAME
unfolding word_kind spelled same
by_a_name = refl
