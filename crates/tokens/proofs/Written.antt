-- The tokens of a text in a table: each is read back with its spelling, and what the code finds the next token to be worth there
-- is what the layout says.
use borrow.Author.Tests.{ne_eqb, eqb-true, eqb-false}
use lib.Dec.{eqb, leb}
use lib.ListN.{length, get_or}
use lib.Seq.{slice}
use mathlib.Core.Bool.{Bool, true, false, cond}
use mathlib.Core.List.{List, [], ◌∷◌, ◌++◌}
use mathlib.Core.Logic.{⊎_elim}
use mathlib.Core.Path.{◌≡◌, refl, sym, ◌∙◌, ap, ap₂, subst}
use native.Mathlib.Nat.{zero-add}
use native.Mathlib.Omega.{arith}
use Prim.Native.Nat.{ℕ, ◌+◌, ◌*◌, ◌-◌, ◌/◌, ◌%◌, ◌≤◌, ◌<◌}
use Rattle.language.proofs.Text.Choices.{outcome}
use Rattle.language.proofs.Text.Spots.{reached_spot}
use Rattle.language.specs.Sizes.{SOURCE, TOKENS, LARGEST, DIGITS}
use Rattle.language.specs.Text.{Content, Form, token_of, Reaches}
use Rattle.language.specs.Text.Content.{token, overlong}
use Rattle.language.specs.Text.Form.{blank, line, comment, unended, name, number, mark, based, float}
use Rattle.language.specs.Tokens.{same, Vocabulary, Token, NAME, NUMBER, FLOAT_NUMBER, past, place_at}
use Rattle.language.specs.Trees.{PUTCHAR}
use Rattle.layout.proofs.TokenLaws.{same_self, first_is, lay_holds, place_held, end_held}
use Rattle.layout.specs.Names.{first_from, name_number, float_bits, value_word, high_word, lay_tokens, Near}
use Rattle.layout.specs.Table.{SPANS, token_word, token_place, token_end}
use Rattle.layout.specs.Values.{HALF}
use Rattle.tokens.specs.Forks.{ButRows}
use Rattle.tokens.specs.Found.{Spans, bytes_of, First, Numbered, IsToken, TableWorth}

float_value : (few : Bool) (k v : ℕ) → cond few (token FLOAT_NUMBER 0) overlong ≡ token k v → v ≡ 0
float_value true k v z = cc
float_value false k v z = absurd (let y : ◌≡◌ {A = ℕ} 0 1 = cc in omega arith)

-- what is no number has no value
pub no_value : {voc : Vocabulary} (t : List ℕ) (p q : ℕ) (c : Content) → Form voc t p q c
    → (k v : ℕ) → c ≡ token k v → (k ≡ NUMBER → ⊥) → v ≡ 0
no_value t p q c (blank h b e) k v z n = absurd (let y : ◌≡◌ {A = ℕ} 0 1 = cc in omega arith)
no_value t p q c (line s a b e) k v z n = absurd (let y : ◌≡◌ {A = ℕ} 0 1 = cc in omega arith)
no_value t p q c (comment d) k v z n = absurd (let y : ◌≡◌ {A = ℕ} 0 1 = cc in omega arith)
no_value t p q c (unended s m e) k v z n = absurd (let y : ◌≡◌ {A = ℕ} 0 1 = cc in omega arith)
no_value t p q c (name w l e) k v z n = cc
no_value t p q c (number w e) k v z n = absurd (n (let y : k ≡ NUMBER = cc in y))
no_value t p q c (based s w e) k v z n = absurd (n (let y : k ≡ NUMBER = cc in y))
no_value t p q c (float h w e b l i g) k v z n = float_value (leb (q - p) (DIGITS + 1)) k v z
no_value t p q c (mark w e) k v z n = cc

-- ---- the words of a token

-- the two words of the token u, one of ts, are the halves of n
abbrev pub Halves : List Token → Token → ℕ → Type 0
Halves ts u n = (value_word ts u ≡ n % HALF) × (high_word u ≡ n / HALF)

module _ (ts : List Token) (u : Token) (n : ℕ) where
  pub name_halves : u.kind ≡ NAME → n ≤ TOKENS → name_number ts u.spelling ≡ n → Halves ts u n
  unfolding value_word high_word
  name_halves e l f = (rw (e, f) (omega arith), rw e (omega arith))

  pub float_halves : u.kind ≡ FLOAT_NUMBER → n ≡ float_bits u.spelling → Halves ts u n
  unfolding value_word high_word
  float_halves e f = (rw (e, f), rw (e, f))

  pub value_halves : (u.kind ≡ NAME → ⊥) → (u.kind ≡ FLOAT_NUMBER → ⊥) → ((u.kind ≡ NUMBER → ⊥) → u.value ≡ 0)
      → u.value ≤ LARGEST → n ≡ u.value → Halves ts u n
  unfolding value_word high_word
  value_halves a b c l e =
      let name = ne_eqb u.kind NAME a in
      let float = ne_eqb u.kind FLOAT_NUMBER b in (
        ⊎_elim (λ x. rw x (omega arith)) (λ x. rw x (rw (name, float) (omega (arith, c (eqb-false u.kind NUMBER x)))))
            (outcome (eqb u.kind NUMBER)),
        rw float (omega arith),
      )

-- the tokens of a text that is not too long can be written into a table
pub reached_near : {voc : Vocabulary} {t : List ℕ} {ts : List Token} {p : ℕ} → Reaches voc t p ts → length t ≤ SOURCE → Near ts
unfolding place_at
reached_near r short i h = omega (arith, (reached_spot r i h).inside)

-- ---- the table of the tokens that are reached

module _ {voc : Vocabulary} (t w₀ w : List ℕ) (ts : List Token) {p : ℕ} (r : Reaches voc t p ts) (room : 4 * length ts ≤ length w₀)
    (near : Near ts) (few : length ts ≤ TOKENS) (laid : ButRows w (lay_tokens ts w₀ 0 ts)) where
  -- where it lies is told there
  word : (i : ℕ) → i < length ts → token_word w i 1 ≡ token_word (lay_tokens ts w₀ 0 ts) i 1
  word i h = laid.words (4 * i + 1) (λ a b. omega arith)

  place_back : (i : ℕ) → i < length ts → token_place w i ≡ (get_or ts i past).place
  unfolding place_at
  place_back i h = ap (λ (x : ℕ). x % SPANS) (word i h) ∙ place_held (lay_holds ts w₀ room i h) (near i h)

  end_back : (i : ℕ) → i < length ts → token_end w i ≡ (get_or ts i past).place + length (get_or ts i past).spelling
  unfolding place_at
  end_back i h = ap (λ (x : ℕ). x / SPANS) (word i h) ∙ end_held (lay_holds ts w₀ room i h) (near i h)

  -- token i of the table is token i of the list
  pub read_back : (i : ℕ) → i < length ts → bytes_of t w i ≡ (get_or ts i past).spelling
  read_back i h = ap₂ (λ a b. slice a b t) (place_back i h) (end_back i h) ∙ (reached_spot r i h).spells

  -- the bytes of each token lie in the text
  pub table_spans : Spans t w (length ts)
  table_spans i h =
      let a = place_back i h in
      let b = end_back i h in
      let c = (reached_spot r i h).inside in
      (omega arith, omega arith)

  first_number : (u : Token) (n : ℕ) → First t w (length ts) u.spelling n
      → first_from 0 (ts ++ (u ∷ [])) u.spelling ≡ n
  first_number u n f =
      let s = u.spelling in
      first_is 0 ts u s n f.within
      (λ i h. subst (λ x. same x s ≡ false) (read_back i (omega (arith, f.within))) (f.before i h))
      (λ h. subst (λ x. same x s ≡ true) (read_back n h) (f.here h)) (same_self s)
      ∙ zero-add n

  name_numbered : (u : Token) (n : ℕ) → Numbered t w (length ts) u.spelling n
      → name_number (ts ++ (u ∷ [])) u.spelling ≡ n
  unfolding name_number
  name_numbered u n m =
      ⊎_elim (λ e. rw e (sym (m.putchar e))) (λ e. rw e (first_number u n (m.first e))) (outcome (same u.spelling PUTCHAR))

  small_number : (u : Token) (n : ℕ) → Numbered t w (length ts) u.spelling n → n ≤ TOKENS
  small_number u n m =
      ⊎_elim (λ e. omega (arith, m.putchar e)) (λ e. omega (arith, (m.first e).within)) (outcome (same u.spelling PUTCHAR))

  -- the words of the next token
  pub words_found : {q k e x n : ℕ} (y : IsToken voc t q k e x)
      → TableWorth t w (length ts) k (slice q e t) x n
      → Halves (ts ++ (token_of t q e k y.value ∷ [])) (token_of t q e k y.value) n
  words_found {q} {k} {e} {x} {n} y m =
      let u = token_of t q e k y.value in
      let us = ts ++ (u ∷ []) in
      ⊎_elim (λ a. let z = eqb-true k NAME a in
      name_halves us u n z (small_number u n (m.name z)) (name_numbered u n (m.name z)))
      (λ a. let z = eqb-false k NAME a in
      ⊎_elim (λ b. let f = eqb-true k FLOAT_NUMBER b in float_halves us u n f (m.other z ∙ y.float f))
      (λ b. let f = eqb-false k FLOAT_NUMBER b in
      value_halves us u n z f (no_value t q e (token k y.value) y.piece.form k y.value refl) y.small (m.other z ∙ y.other f))
      (outcome (eqb k FLOAT_NUMBER)))
      (outcome (eqb k NAME))
