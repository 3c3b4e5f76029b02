-- Tokens in a table: what is written is read back, a name keeps its number when tokens follow, and a table laid with tokens
-- stands for them; so does one with the same words there.
use borrow.Author.Tests.{eq-eqb, lt-ltb, le-ltb}
use lib.ListN.{length, get_or, set, length-set, get_or-eq_default}
use lib.Seq.{get_or-set_same, get_or-set_other}
use mathlib.Core.Bool.{true, false, cond}
use mathlib.Core.List.{List, [], ◌∷◌, ◌++◌}
use mathlib.Core.Logic.{⊎_elim}
use mathlib.Core.Path.{◌≡◌, refl, sym, ◌∙◌, ap}
use native.Mathlib.Nat.{add-zero, zero-add}
use native.Mathlib.Omega.{arith}
use Prim.Native.Nat.{ℕ, zero, suc, ◌+◌, ◌*◌, ◌/◌, ◌%◌, ◌≤◌, ◌<◌}
use Rattle.language.proofs.Text.Choices.{either}
use Rattle.language.specs.Sizes.{TOKENS, TABLE, LARGEST}
use Rattle.language.specs.Tokens.{Spelling, same, Token, NUMBER, past, kind_at, value_at, spelling_at, place_at, At}
use Rattle.layout.specs.Names.{first_from, name_number, value_word, high_word, lay_tokens, Near, Stand}
use Rattle.layout.specs.Table.{ROWS_AT, SPANS, token_place, token_end, token_high, token_value, kind_of, put_token}
use Rattle.layout.proofs.Packed.{packed_high, packed_low}
use Rattle.layout.proofs.TableLaws.{kind_same}

-- a spelling is the same as itself
pub same_self : (s : Spelling) → same s s ≡ true
unfolding same
same_self [] = refl
same_self (b ∷ s) = rw (eq-eqb b b refl) (same_self s)

-- ---- the numbers of names

-- where the tokens ts have the spelling s at r and not before, or u behind them has it, r is its ordinal
pub first_is : (n : ℕ) (ts : List Token) (u : Token) (s : Spelling) (r : ℕ) → r ≤ length ts
    → ((i : ℕ) → i < r → same (get_or ts i past).spelling s ≡ false)
    → (r < length ts → same (get_or ts r past).spelling s ≡ true)
    → same u.spelling s ≡ true → first_from n (ts ++ (u ∷ [])) s ≡ n + r
unfolding first_from
first_is n [] u s zero h b e f = rw f (sym (add-zero n))
first_is n [] u s (suc r) h b e f = absurd (omega arith)
first_is n (t ∷ ts) u s zero h b e f = rw (e (omega arith)) (sym (add-zero n))
first_is n (t ∷ ts) u s (suc r) h b e f =
    let z = first_is (suc n) ts u s r (omega arith) (λ i l. b (suc i) (omega arith)) (λ l. e (omega arith)) f in
    rw (b 0 (omega arith)) (z ∙ omega arith)

first_append : (n : ℕ) (ts us : List Token) (s : Spelling) (i : ℕ) → i < length ts → same (get_or ts i past).spelling s ≡ true
    → first_from n (ts ++ us) s ≡ first_from n ts s
unfolding first_from
first_append n [] us s i h e = absurd (omega arith)
first_append n (t ∷ ts) us s zero h e = rw e
first_append n (t ∷ ts) us s (suc i) h e =
    ap (λ x. cond (same t.spelling s) n x) (first_append (suc n) ts us s i (omega arith) e)

-- the fourth word of a token is the same when tokens follow
pub value_append : (ts us : List Token) (i : ℕ) → i < length ts
    → value_word (ts ++ us) (get_or ts i past) ≡ value_word ts (get_or ts i past)
unfolding value_word name_number
value_append ts us i h =
    let s = (get_or ts i past).spelling in
    rw (first_append 0 ts us s i h (same_self s))

-- ---- tokens written one after the other

lay_like : (ts us : List Token) (w : List ℕ) (n : ℕ) (vs : List Token)
    → ((i : ℕ) → i < length vs → value_word ts (get_or vs i past) ≡ value_word us (get_or vs i past))
    → lay_tokens ts w n vs ≡ lay_tokens us w n vs
unfolding lay_tokens
lay_like ts us w n [] f = refl
lay_like ts us w n (v ∷ vs) f =
    let one = put_token w n v.kind v.place (v.place + length v.spelling) (high_word v) (value_word us v) in
    rw (f 0 (omega arith)) (lay_like ts us one (n + 1) vs (λ i h. f (suc i) (omega arith)))

lay_append : (ts : List Token) (w : List ℕ) (n : ℕ) (us vs : List Token)
    → lay_tokens ts w n (us ++ vs) ≡ lay_tokens ts (lay_tokens ts w n us) (n + length us) vs
unfolding lay_tokens
lay_append ts w n [] vs = rw (add-zero n)
lay_append ts w n (u ∷ us) vs =
    let z : n + suc (length us) ≡ n + 1 + length us = omega arith in
    rw z (lay_append ts (put_token w n u.kind u.place (u.place + length u.spelling) (high_word u) (value_word ts u)) (n + 1) us vs)

-- the table of one token more
pub lay_more : (ts : List Token) (u : Token) (w : List ℕ)
    → lay_tokens (ts ++ (u ∷ [])) w 0 (ts ++ (u ∷ []))
    ≡ put_token (lay_tokens ts w 0 ts) (length ts) u.kind u.place (u.place + length u.spelling) (high_word u)
    (value_word (ts ++ (u ∷ [])) u)
unfolding lay_tokens
lay_more ts u w =
    let us = ts ++ (u ∷ []) in
    let e : lay_tokens us w 0 ts ≡ lay_tokens ts w 0 ts = lay_like us ts w 0 ts (value_append ts (u ∷ [])) in
    lay_append us w 0 ts (u ∷ []) ∙ rw (e, zero-add (length ts))

-- ---- tokens read back

-- the four words of token i
pub record Holds (w : List ℕ) (i kind place end high value : ℕ) : Type 0 where
  pub kinds : get_or w (4 * i) 0 ≡ kind
  pub both : get_or w (4 * i + 1) 0 ≡ SPANS * end + place
  pub highs : token_high w i ≡ high
  pub values : token_value w i ≡ value

-- its place and its end, where one word has room for both
module _ {w : List ℕ} {i k a b h v : ℕ} (x : Holds w i k a b h v) (l : a < SPANS) where
  pub place_held : token_place w i ≡ a
  place_held = ap (λ (n : ℕ). n % SPANS) x.both ∙ packed_low SPANS (omega arith) b a l

  pub end_held : token_end w i ≡ b
  end_held = ap (λ (n : ℕ). n / SPANS) x.both ∙ packed_high SPANS (omega arith) b a l

module _ (w : List ℕ) (i a b c d e : ℕ) where
  put_length : length (put_token w i a b c d e) ≡ length w
  unfolding put_token
  put_length = simp length-set

  put_other : (j : ℕ) → j < 4 * i → get_or (put_token w i a b c d e) j 0 ≡ get_or w j 0
  unfolding put_token
  put_other j h =
      let w₁ = set w (4 * i) a in
      let w₂ = set w₁ (4 * i + 1) (SPANS * c + b) in
      get_or-set_other (set w₂ (4 * i + 2) d) (4 * i + 3) j e 0 (omega arith) ∙ get_or-set_other w₂ (4 * i + 2) j d 0 (omega arith)
      ∙ get_or-set_other w₁ (4 * i + 1) j (SPANS * c + b) 0 (omega arith) ∙ get_or-set_other w (4 * i) j a 0 (omega arith)

  put_holds : 4 * i + 4 ≤ length w → Holds (put_token w i a b c d e) i a b c d e
  unfolding put_token
  put_holds h =
      let x = SPANS * c + b in
      let w₁ = set w (4 * i) a in
      let w₂ = set w₁ (4 * i + 1) x in
      let w₃ = set w₂ (4 * i + 2) d in
      let l₁ : length w₁ ≡ length w = length-set w (4 * i) a in
      let l₂ : length w₂ ≡ length w₁ = length-set w₁ (4 * i + 1) x in
      let l₃ : length w₃ ≡ length w₂ = length-set w₂ (4 * i + 2) d in
      record {
        kinds =
            get_or-set_other w₃ (4 * i + 3) (4 * i) e 0 (omega arith) ∙ get_or-set_other w₂ (4 * i + 2) (4 * i) d 0 (omega arith)
            ∙ get_or-set_other w₁ (4 * i + 1) (4 * i) x 0 (omega arith) ∙ get_or-set_same w (4 * i) a 0 (omega arith);
        both =
            get_or-set_other w₃ (4 * i + 3) (4 * i + 1) e 0 (omega arith) ∙ get_or-set_other w₂ (4 * i + 2) (4 * i + 1) d 0 (omega arith)
            ∙ get_or-set_same w₁ (4 * i + 1) x 0 (omega arith);
        highs = get_or-set_other w₃ (4 * i + 3) (4 * i + 2) e 0 (omega arith) ∙ get_or-set_same w₂ (4 * i + 2) d 0 (omega arith);
        values = get_or-set_same w₃ (4 * i + 3) e 0 (omega arith);
      }

module _ (ts : List Token) where
  -- a table keeps its length
  pub lay_length : (w : List ℕ) (n : ℕ) (us : List Token) → length (lay_tokens ts w n us) ≡ length w
  unfolding lay_tokens
  lay_length w n [] = refl
  lay_length w n (u ∷ us) =
      let one = put_token w n u.kind u.place (u.place + length u.spelling) (high_word u) (value_word ts u) in
      lay_length one (n + 1) us ∙ put_length w n _ _ _ _ _

  lay_other : (w : List ℕ) (n : ℕ) (us : List Token) (j : ℕ) → j < 4 * n → get_or (lay_tokens ts w n us) j 0 ≡ get_or w j 0
  unfolding lay_tokens
  lay_other w n [] j h = refl
  lay_other w n (u ∷ us) j h =
      let one = put_token w n u.kind u.place (u.place + length u.spelling) (high_word u) (value_word ts u) in
      lay_other one (n + 1) us j (omega arith) ∙ put_other w n _ _ _ _ _ j h

  -- the four words of the token u, one of ts
  abbrev pub TokenIn : List ℕ → ℕ → Token → Type 0
  TokenIn w i u = Holds w i u.kind u.place (u.place + length u.spelling) (high_word u) (value_word ts u)

  lay_keeps : (w : List ℕ) (n : ℕ) (us : List Token) (u : Token) → TokenIn w n u → TokenIn (lay_tokens ts w (n + 1) us) n u
  lay_keeps w n us u h =
      record {
        kinds = lay_other w (n + 1) us (4 * n) (omega arith) ∙ h.kinds;
        both = lay_other w (n + 1) us (4 * n + 1) (omega arith) ∙ h.both;
        highs = lay_other w (n + 1) us (4 * n + 2) (omega arith) ∙ h.highs;
        values = lay_other w (n + 1) us (4 * n + 3) (omega arith) ∙ h.values;
      }

  lay_from : (w : List ℕ) (n : ℕ) (us : List Token) → 4 * (n + length us) ≤ length w
      → (i : ℕ) → i < length us → TokenIn (lay_tokens ts w n us) (n + i) (get_or us i past)
  unfolding lay_tokens
  lay_from w n [] l i h = absurd (omega arith)
  lay_from w n (u ∷ us) l zero h = rw (add-zero n) (lay_keeps _ n us u (put_holds w n _ _ _ _ _ (omega arith)))
  lay_from w n (u ∷ us) l (suc i) h =
      let z : n + suc i ≡ n + 1 + i = omega arith in
      let x = put_length w n u.kind u.place (u.place + length u.spelling) (high_word u) (value_word ts u) in
      rw z (lay_from (put_token w n u.kind u.place (u.place + length u.spelling) (high_word u) (value_word ts u)) (n + 1) us (omega arith) i (omega arith))

-- each token is read back
pub lay_holds : (ts : List Token) (w : List ℕ) → 4 * length ts ≤ length w
    → (i : ℕ) → i < length ts → TokenIn ts (lay_tokens ts w 0 ts) i (get_or ts i past)
lay_holds ts w l i h = rw zero-add at (lay_from ts w 0 ts (omega arith) i h)

-- a table laid with tokens stands for them, where their numbers are written ones
pub lay_stands : (ts : List Token) (w : List ℕ) → length ts ≤ TOKENS → ((i : ℕ) → At ts i NUMBER → value_at ts i ≤ LARGEST)
    → Near ts → TABLE ≤ length w → Stand (lay_tokens ts w 0 ts) (length ts) ts
unfolding kind_at place_at spelling_at kind_of
lay_stands ts w h n near l =
    let holds = lay_holds ts w (omega arith) in
    record {
      long = refl;
      few = h;
      kinds = λ i.
          ⊎_elim (λ x. rw (lt-ltb i (length ts) x) (sym (holds i x).kinds))
          (λ x. rw (le-ltb i (length ts) x) (ap (λ u. u.kind) (get_or-eq_default ts past x)))
          (either i (length ts));
      places = λ i x. place_held (holds i x) (near i x);
      ends = λ i x. end_held (holds i x) (near i x);
      values = λ i x. (holds i x).values;
      highs = λ i x. (holds i x).highs;
      written = n;
    }

-- words at the tokens that agree stand for the same tokens
pub stand_same : (v w : List ℕ) (count : ℕ) (ts : List Token) → ((j : ℕ) → j < ROWS_AT → get_or v j 0 ≡ get_or w j 0)
    → Stand w count ts → Stand v count ts
stand_same v w count ts h s = record {
  long = s.long;
  few = s.few;
  kinds = λ i. s.kinds i ∙ kind_same w v count i (λ j l. sym (h j (omega (arith, s.few))));
  places = λ i l. ap (λ (n : ℕ). n % SPANS) (h _ (omega (arith, s.few))) ∙ s.places i l;
  ends = λ i l. ap (λ (n : ℕ). n / SPANS) (h _ (omega (arith, s.few))) ∙ s.ends i l;
  values = λ i l. h _ (omega (arith, s.few)) ∙ s.values i l;
  highs = λ i l. h _ (omega (arith, s.few)) ∙ s.highs i l;
  written = s.written;
}
