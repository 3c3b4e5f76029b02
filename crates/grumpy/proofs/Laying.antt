-- A number laid anew in a table: one word is written, what its token is worth. The words then stand for the same tokens, this
-- one being worth that; it is spelled as before, since a table does not hold how a number is spelled.
use mathlib.Core.Bool.{cond}
use mathlib.Core.List.{List, [], ◌∷◌, ◌++◌}
use mathlib.Core.Path.{◌≡◌, refl, sym, ap, ◌∙◌}
use Prim.Native.Nat.{ℕ, zero, suc, ◌+◌, ◌*◌, ◌/◌, ◌%◌, ◌≤◌, ◌<◌}
use native.Mathlib.Decide.{ℕ_discrete}
use native.Mathlib.Omega.{arith}
use lib.Dec.{ltb}
use lib.ListN.{length, get_or, set, length-set}
use lib.Seq.{get_or-set_same, get_or-set_other}
use Rattle.language.specs.Sizes.{TOKENS, TABLE, LARGEST}
use Rattle.language.specs.Tokens.{Spelling, Token, past, NAME, NUMBER, At, kind_at, value_at, spelling_at, place_at}
use Rattle.layout.specs.Table.{ROWS_AT, SPANS, token_value, kind_of}
use Rattle.layout.specs.Names.{first_from, name_number, value_word, high_word, Stand}
use Rattle.grumpy.proofs.Revalued.{Rows}

-- ---- tokens

abbrev valued : Token → ℕ → Token
valued t x = record { kind = t.kind; value = x; spelling = t.spelling; place = t.place }

-- token a is worth x
unfoldable pub put : List Token → ℕ → ℕ → List Token
put [] a x = []
put (t ∷ ts) zero x = valued t x ∷ ts
put (t ∷ ts) (suc a) x = t ∷ put ts a x

put_length : (ts : List Token) (a x : ℕ) → length (put ts a x) ≡ length ts
unfolding put
put_length [] a x = refl
put_length (t ∷ ts) zero x = refl
put_length (t ∷ ts) (suc a) x = ap suc (put_length ts a x)

-- what it is worth aside, all is the same
module _ {A : Type 0} (f : Token → A) (same : (t : Token) (x : ℕ) → f (valued t x) ≡ f t) where
  put_field : (ts : List Token) (a x i : ℕ) → f (get_or (put ts a x) i past) ≡ f (get_or ts i past)
  unfolding put
  put_field [] a x i = refl
  put_field (t ∷ ts) zero x zero = same t x
  put_field (t ∷ ts) zero x (suc i) = refl
  put_field (t ∷ ts) (suc a) x zero = refl
  put_field (t ∷ ts) (suc a) x (suc i) = put_field ts a x i

put_other : (ts : List Token) (a x i : ℕ) → (i ≡ a → ⊥) → get_or (put ts a x) i past ≡ get_or ts i past
unfolding put
put_other [] a x i h = refl
put_other (t ∷ ts) zero x zero h = absurd (h refl)
put_other (t ∷ ts) zero x (suc i) h = refl
put_other (t ∷ ts) (suc a) x zero h = refl
put_other (t ∷ ts) (suc a) x (suc i) h = put_other ts a x i (λ e. h (ap suc e))

put_here : (ts : List Token) (a x : ℕ) → a < length ts → get_or (put ts a x) a past ≡ valued (get_or ts a past) x
unfolding put
put_here [] a x h = absurd (omega arith)
put_here (t ∷ ts) zero x h = refl
put_here (t ∷ ts) (suc a) x h = put_here ts a x (omega arith)

-- behind others
pub put_behind : (us ts : List Token) (a x : ℕ) → put (us ++ ts) (length us + a) x ≡ us ++ put ts a x
unfolding put
put_behind [] ts a x = let e : 0 + a ≡ a = omega arith in ap (λ n. put ts n x) e
put_behind (u ∷ us) ts a x =
    let e : suc (length us) + a ≡ suc (length us + a) = omega arith in
    ap (λ n. put (u ∷ (us ++ ts)) n x) e ∙ ap (λ l. u ∷ l) (put_behind us ts a x)

-- a name has the number that it had
put_first : (n : ℕ) (ts : List Token) (a x : ℕ) (s : Spelling) → first_from n (put ts a x) s ≡ first_from n ts s
unfolding put first_from
put_first n [] a x s = refl
put_first n (t ∷ ts) zero x s = refl
put_first n (t ∷ ts) (suc a) x s = rw (put_first (suc n) ts a x s)

same_word : (ts : List Token) (a x : ℕ) (t : Token) → value_word (put ts a x) t ≡ value_word ts t
unfolding value_word name_number
same_word ts a x t = rw (put_first 0 ts a x t.spelling)

number_word : (ts : List Token) (t : Token) (x : ℕ) → t.kind ≡ NUMBER → x ≡ value_word ts (valued t x)
unfolding value_word
number_word ts t x k = rw k refl

-- ---- words

-- what is the same where numbers are laid anew: tokens ts that the table w stands for, and ts' of w'
pub record Laid (count : ℕ) (ts ts' : List Token) (w w' : List ℕ) : Type 0 where
  pub kinds : (i : ℕ) → kind_at ts' i ≡ kind_at ts i
  pub spellings : (i : ℕ) → spelling_at ts' i ≡ spelling_at ts i
  pub rest : (j : ℕ) → ROWS_AT ≤ j → get_or w' j 0 ≡ get_or w j 0
  pub names : (i : ℕ) → At ts i NAME → token_value w' i ≡ token_value w i
  pub stand : Stand w' count ts'
  pub long : length w' ≡ length w

pub laid_rows : {count : ℕ} {ts ts' : List Token} {w w' : List ℕ} → Laid count ts ts' w w' → Rows ts ts' w w'
laid_rows l = record { kinds = l.kinds; spellings = l.spellings; rows = λ i k. l.rest (ROWS_AT + 5 * i + k) (omega arith) }

pub laid_then : {count : ℕ} {ts ts' ts'' : List Token} {w w' w'' : List ℕ} → Laid count ts ts' w w' → Laid count ts' ts'' w' w''
    → Laid count ts ts'' w w''
laid_then l m = record {
  kinds = λ i. m.kinds i ∙ l.kinds i;
  spellings = λ i. m.spellings i ∙ l.spellings i;
  rest = λ j h. m.rest j h ∙ l.rest j h;
  names = λ i a. m.names i (l.kinds i ∙ a) ∙ l.names i a;
  stand = m.stand;
  long = m.long ∙ l.long;
}

module _ (w : List ℕ) (count : ℕ) (ts : List Token) (a x : ℕ) (s : Stand w count ts) (long : TABLE ≤ length w) (inside : a < count)
    (number : At ts a NUMBER) (small : x ≤ LARGEST) where
  abbrev w' : List ℕ
  w' = set w (4 * a + 3) x

  abbrev ts' : List Token
  ts' = put ts a x

  low : a < TOKENS
  low = omega (arith, s.few)

  kept : (j : ℕ) → (j ≡ 4 * a + 3 → ⊥) → get_or w' j 0 ≡ get_or w j 0
  kept j h = get_or-set_other w (4 * a + 3) j x 0 h

  here : get_or w' (4 * a + 3) 0 ≡ x
  here = get_or-set_same w (4 * a + 3) x 0 (omega (arith, low))

  kinds : (i : ℕ) → kind_at ts' i ≡ kind_at ts i
  unfolding kind_at
  kinds i = put_field (λ t. t.kind) (λ t x. refl) ts a x i

  spellings : (i : ℕ) → spelling_at ts' i ≡ spelling_at ts i
  unfolding spelling_at
  spellings i = put_field (λ t. t.spelling) (λ t x. refl) ts a x i

  places : (i : ℕ) → place_at ts' i ≡ place_at ts i
  unfolding place_at
  places i = put_field (λ t. t.place) (λ t x. refl) ts a x i

  highs : (i : ℕ) → high_word (get_or ts' i past) ≡ high_word (get_or ts i past)
  unfolding high_word
  highs i = put_field high_word (λ t x. refl) ts a x i

  kind_kept : (i : ℕ) → kind_of w count i ≡ kind_of w' count i
  unfolding kind_of
  kind_kept i = ap (λ n. cond (ltb i count) n 0) (sym (kept (4 * i) (λ e. omega arith)))

  value_laid : (i : ℕ) → i < count → Dec (i ≡ a) → token_value w' i ≡ value_word ts' (get_or ts' i past)
  unfolding kind_at
  value_laid i l (yes e) =
      let n : get_or ts' a past ≡ valued (get_or ts a past) x = put_here ts a x (omega (arith, s.long)) in
      ap (λ k. get_or w' (4 * k + 3) 0) e ∙ here ∙ number_word ts' (get_or ts a past) x number
      ∙ ap (value_word ts') (sym n) ∙ ap (λ k. value_word ts' (get_or ts' k past)) (sym e)
  value_laid i l (no h) =
      kept (4 * i + 3) (λ e. h (omega arith)) ∙ s.values i l ∙ sym (same_word ts a x (get_or ts i past))
      ∙ ap (value_word ts') (sym (put_other ts a x i h))

  written_laid : (i : ℕ) → At ts' i NUMBER → Dec (i ≡ a) → value_at ts' i ≤ LARGEST
  unfolding value_at
  written_laid i k (yes e) =
      let n : get_or ts' a past ≡ valued (get_or ts a past) x = put_here ts a x (omega (arith, s.long)) in
      let v : (get_or ts' i past).value ≡ x = ap (λ k. (get_or ts' k past).value) e ∙ ap (λ t. t.value) n in
      omega (arith, small)
  written_laid i k (no h) =
      let v : (get_or ts' i past).value ≡ (get_or ts i past).value = ap (λ t. t.value) (put_other ts a x i h) in
      let z = s.written i (sym (kinds i) ∙ k) in
      omega arith

  stands : Stand w' count ts'
  stands = record {
    long = put_length ts a x ∙ s.long;
    few = s.few;
    kinds = λ i. kinds i ∙ s.kinds i ∙ kind_kept i;
    places = λ i l. ap (λ n. n % SPANS) (kept (4 * i + 1) (λ e. omega arith)) ∙ s.places i l ∙ sym (places i);
    ends = λ i l. ap (λ n. n / SPANS) (kept (4 * i + 1) (λ e. omega arith)) ∙ s.ends i l ∙ rw (places i, spellings i) refl;
    values = λ i l. value_laid i l (ℕ_discrete i a);
    highs = λ i l. kept (4 * i + 2) (λ e. omega arith) ∙ s.highs i l ∙ sym (highs i);
    written = λ i k. written_laid i k (ℕ_discrete i a);
  }

  name_kept : (i : ℕ) → At ts i NAME → i ≡ a → ⊥
  unfolding kind_at
  name_kept i k e =
      let z : (get_or ts i past).kind ≡ NUMBER = ap (λ k. (get_or ts k past).kind) e ∙ number in
      omega arith

  pub number_laid : Laid count ts ts' w w'
  number_laid = record {
    kinds = kinds;
    spellings = spellings;
    rest = λ j h. kept j (λ e. omega (arith, low));
    names = λ i k. kept (4 * i + 3) (λ e. name_kept i k (omega arith));
    stand = stands;
    long = length-set w (4 * a + 3) x;
  }
