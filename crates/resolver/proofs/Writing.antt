-- What is written: names of slots, and notes. Nothing that the rows, tokens and functions say changes.
use mathlib.Core.List.{List, ◌∷◌}
use mathlib.Core.Path.{◌≡◌, refl, sym, ap, ap₂, ◌∙◌}
use Prim.Native.Nat.{ℕ, zero, suc, ◌+◌, ◌*◌, ◌≤◌, ◌<◌}
use native.Mathlib.Numerals.{add-one}
use native.Mathlib.Omega.{arith}
use borrow.Author.Tests.{eq-eqb, ne_eqb}
use lib.ListN.{length, length-set}
use lib.Seq.{get_or-set_same, get_or-set_other}
use Rattle.language.specs.Sizes.{TOKENS, NODES, TABLE}
use Rattle.layout.specs.Table.{ROWS_AT, FUNCTIONS_AT, VARIABLES_AT, OWN, token_value, row_word, function_row}
use Rattle.layout.specs.Functions.{function_name, Headed, find_function}
use Rattle.layout.specs.Notes.{NOTES_AT, slot_name, noted, put_name, put_note, names_in}
use Rattle.layout.specs.Resolved.{slot_of, row_or_nobody, callee_row}
use Rattle.resolver.specs.Resolves.{Alike, Wrote, Scene}

-- the stretch from a up to b lies in that from c up to d
abbrev pub Within : ℕ → ℕ → ℕ → ℕ → Type 0
Within a b c d = (i : ℕ) → a ≤ i → i < b → (c ≤ i) × (i < d)

pub alike_then : {w t u : List ℕ} → Alike w t → Alike t u → Alike w u
alike_then p q = record { same = λ j l. q.same j l ∙ p.same j l }

pub wrote_none : (t : List ℕ) (a b n : ℕ) → Wrote t t a b n
wrote_none t a b n = record {
  long = refl;
  alike = record { same = λ j l. refl };
  beyond = λ j l. refl;
  names = λ k l. refl;
  notes = λ i l h. refl;
}

pub wrote_then : {t u v : List ℕ} {a b c d x y n m : ℕ} → Wrote t u a b n → Wrote u v c d m → n ≤ m → Within a b x y → Within c d x y
    → Wrote t v x y n
wrote_then p q l g h = record {
  long = q.long ∙ p.long;
  alike = alike_then p.alike q.alike;
  beyond = λ j k. q.beyond j k ∙ p.beyond j k;
  names = λ k o. q.names k (omega arith) ∙ p.names k o;
  notes = λ i o z. q.notes i o (λ r s. let e = h i r s in z e.0 e.1) ∙ p.notes i o (λ r s. let e = g i r s in z e.0 e.1);
}

-- a name, a note
pub wrote_name : (t : List ℕ) (k x n : ℕ) → n ≤ k → k < TOKENS → Wrote t (put_name t k x) 0 0 n
wrote_name t k x n l h = record {
  long = length-set t (VARIABLES_AT + k) x;
  alike = record { same = λ j o. get_or-set_other t (VARIABLES_AT + k) j x 0 (λ e. omega arith) };
  beyond = λ j o. get_or-set_other t (VARIABLES_AT + k) j x 0 (λ e. omega arith);
  names = λ m o. get_or-set_other t (VARIABLES_AT + k) (VARIABLES_AT + m) x 0 (λ e. omega arith);
  notes = λ i o z. get_or-set_other t (VARIABLES_AT + k) (NOTES_AT + i) x 0 (λ e. omega arith);
}

pub wrote_note : (t : List ℕ) (i x a b n : ℕ) → i < TOKENS → a ≤ i → i < b → n ≤ TOKENS → Wrote t (put_note t i x) a b n
wrote_note t i x a b n h l m f = record {
  long = length-set t (NOTES_AT + i) x;
  alike = record { same = λ j o. get_or-set_other t (NOTES_AT + i) j x 0 (λ e. omega arith) };
  beyond = λ j o. get_or-set_other t (NOTES_AT + i) j x 0 (λ e. omega arith);
  names = λ k o. get_or-set_other t (NOTES_AT + i) (VARIABLES_AT + k) x 0 (λ e. omega arith);
  notes = λ k o z. get_or-set_other t (NOTES_AT + i) (NOTES_AT + k) x 0 (λ e. z (omega arith) (omega arith));
}

pub note_put : (t : List ℕ) (i x : ℕ) → TABLE ≤ length t → i < TOKENS → noted (put_note t i x) i ≡ x
note_put t i x l h = get_or-set_same t (NOTES_AT + i) x 0 (omega arith)

-- ---- the names of slots

pub names_same : (t u : List ℕ) (n : ℕ) → ((k : ℕ) → k < n → slot_name u k ≡ slot_name t k) → names_in u n ≡ names_in t n
unfolding names_in
names_same t u zero h = refl
names_same t u (suc n) h = ap₂ ◌∷◌ (h n (omega arith)) (names_same t u n (λ k l. h k (omega arith)))

pub names_put : (t : List ℕ) (k x : ℕ) → TABLE ≤ length t → k < TOKENS → names_in (put_name t k x) (k + 1) ≡ x ∷ names_in t k
unfolding names_in
names_put t k x l h =
    rw (add-one k)
    (ap₂ ◌∷◌ (get_or-set_same t (VARIABLES_AT + k) x 0 (omega arith))
    (names_same t (put_name t k x) k (wrote_name t k x k (omega arith) h).names))

length_names : (t : List ℕ) (n : ℕ) → length (names_in t n) ≡ n
unfolding names_in
length_names t zero = refl
length_names t (suc n) = ap suc (length_names t n)

-- ---- a search from the newest slot on

module _ (t : List ℕ) (x : ℕ) {i k : ℕ} (last : i ≡ suc k) where
  pub slot_here : slot_name t k ≡ x → slot_of x (names_in t i) ≡ k
  unfolding slot_of names_in
  slot_here e = rw (last, eq-eqb _ _ (sym e)) (length_names t k)

  pub slot_past : (slot_name t k ≡ x → ⊥) → slot_of x (names_in t i) ≡ slot_of x (names_in t k)
  unfolding slot_of names_in
  slot_past h = rw (last, ne_eqb _ _ (λ e. h (sym e))) refl

pub slot_none : (t : List ℕ) (x : ℕ) {i : ℕ} → i ≡ 0 → slot_of x (names_in t i) ≡ 0
unfolding slot_of names_in
slot_none t x over = rw over refl

-- ---- tables that are alike

module _ {w t : List ℕ} (alike : Alike w t) where
  pub row_alike : (i k : ℕ) → i < NODES → k < 5 → row_word t i k ≡ row_word w i k
  row_alike i k h l = alike.same (ROWS_AT + 5 * i + k) (omega arith)

  pub token_alike : (i : ℕ) → i < TOKENS → token_value t i ≡ token_value w i
  token_alike i h = alike.same (4 * i + 3) (omega arith)

  pub function_alike : (k : ℕ) → k < TOKENS → function_row t k ≡ function_row w k
  function_alike k h = alike.same (FUNCTIONS_AT + k) (omega arith)

  module _ (k : ℕ) (h : Headed w k) where
    own_alike : row_word t (function_row t k) OWN ≡ row_word w (function_row w k) OWN
    own_alike = rw (function_alike k h.few) (row_alike (function_row w k) OWN h.row (omega arith))

    pub headed_alike : Headed t k
    headed_alike = record {
      few = h.few;
      row = rw (function_alike k h.few) h.row;
      name = omega (arith, own_alike, h.name);
    }

    name_alike : function_name t k ≡ function_name w k
    name_alike = rw own_alike (token_alike _ h.name)

  pub find_alike : (x n : ℕ) → ((k : ℕ) → k < n → Headed w k) → find_function t x n ≡ find_function w x n
  unfolding find_function
  find_alike x zero h = refl
  find_alike x (suc n) h =
      let g = h n (omega arith) in
      rw (name_alike n g, function_alike n g.few, find_alike x n (λ k l. h k (omega arith))) refl

  pub callee_alike : (defs x : ℕ) → ((k : ℕ) → k < defs → Headed w k) → callee_row t defs x ≡ callee_row w defs x
  unfolding callee_row
  callee_alike defs x h = ap row_or_nobody (find_alike x defs h)

-- the scene of a table that was written to
pub scene_after : {w t u : List ℕ} {defs a b n : ℕ} → Scene w t defs → Wrote t u a b n → Scene w u defs
scene_after s r = record {
  long = omega (arith, s.long, r.long);
  alike = alike_then s.alike r.alike;
  heads = s.heads;
}
