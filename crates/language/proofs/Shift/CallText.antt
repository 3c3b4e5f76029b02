-- The call of a job, set behind any text: six tokens, whatever its numbers are (R14.5).
use lib.Dec.{eqb}
use lib.ListN.{length, get_or, drop, length-append, get_or-append}
use lib.Seq.{slice, slice-cons, take-append_seam, drop-append_seam, get_or-append-add}
use mathlib.Core.Bool.{Bool, true, false, not}
use mathlib.Core.List.{List, [], ◌∷◌, ◌++◌, append_assoc}
use mathlib.Core.Logic.{⊎_elim}
use mathlib.Core.Option.{some}
use mathlib.Core.Path.{◌≡◌, refl, sym, ap, subst, subst₂, ◌∙◌}
use borrow.Author.Tests.{eq-eqb, not-true}
use native.Mathlib.Omega.{arith}
use Prim.Native.Nat.{ℕ, zero, suc, ◌+◌, ◌-◌, ◌≤◌, ◌<◌}
use Rattle.language.specs.Sizes.{LARGEST}
use Rattle.language.specs.Tokens.{Spelling, spell, Vocabulary, EDITION_1, EDITION_2, Token, same, spelled, NAME, NUMBER, LPAR, RPAR, COMMA}
use Rattle.language.specs.Text.{byte, between, is_blank, is_letter, is_digit, is_name_byte, word_kind, number_from, Within, Stands, Opens}
use Rattle.language.specs.Text.{Piece, token, Reaches, next}
use Rattle.language.specs.Shift.{all_bytes, decimal, PAY, Job, call_of}
use Rattle.language.proofs.Text.Choices.{either, clash, and_both}
use Rattle.language.proofs.Text.Classes.{digit_not_letter, digit_of_some}
use Rattle.language.proofs.Text.Marks.{Laws, Plain, base_shape}
use Rattle.language.proofs.Text.Pieces.{AtMost, Tells, name_piece, number_piece, mark_piece}
use Rattle.language.proofs.Text.Runs.{Run}
use Rattle.language.proofs.Text.Spellings.{byte_inside}
use Rattle.language.proofs.Text.Tables.{every, spelling_of, passes}
use Rattle.language.proofs.Shift.Decimals.{decimal_digits, decimal_worth, some_digit}

-- ---- what a vocabulary has to give for it

-- no mark of two bytes or more begins with a
unfoldable pub single : ℕ → Spelling → Bool
single a [] = true
single a (b ∷ []) = true
single a (b ∷ c ∷ s) = not (eqb b a)

-- the mark a, of the kind k
pub record Lone (voc : Vocabulary) (a k : ℕ) : Type 0 where
  pub kind : spelled voc.marks (a ∷ []) ≡ some k
  pub alone : every (λ r. single a (spelling_of r)) voc.marks ≡ true
  pub plain : Plain a
  pub no_slash : a ≡ 47 → ⊥

pub record Callable (voc : Vocabulary) : Type 0 where
  pub pay : word_kind voc PAY ≡ NAME
  pub opening : Lone voc 40 LPAR
  pub comma : Lone voc 44 COMMA
  pub closing : Lone voc 41 RPAR

pub callable_1 : Callable EDITION_1
unfolding word_kind spelled same every single is_blank is_letter is_digit between
callable_1 = record {
  pay = refl;
  opening = record { kind = refl; alone = refl; plain = record { blank = refl; letter = refl; digit = refl }; no_slash = λ e. omega arith };
  comma = record { kind = refl; alone = refl; plain = record { blank = refl; letter = refl; digit = refl }; no_slash = λ e. omega arith };
  closing = record { kind = refl; alone = refl; plain = record { blank = refl; letter = refl; digit = refl }; no_slash = λ e. omega arith };
}

pub callable_2 : Callable EDITION_2
unfolding word_kind spelled same every single is_blank is_letter is_digit between
callable_2 = record {
  pay = refl;
  opening = record { kind = refl; alone = refl; plain = record { blank = refl; letter = refl; digit = refl }; no_slash = λ e. omega arith };
  comma = record { kind = refl; alone = refl; plain = record { blank = refl; letter = refl; digit = refl }; no_slash = λ e. omega arith };
  closing = record { kind = refl; alone = refl; plain = record { blank = refl; letter = refl; digit = refl }; no_slash = λ e. omega arith };
}

-- ---- a spelling between two others

all_at : (f : ℕ → Bool) (s : Spelling) (i : ℕ) → all_bytes f s ≡ true → i < length s → f (get_or s i 0) ≡ true
unfolding all_bytes
all_at f [] i e h = absurd (omega arith)
all_at f (b ∷ s) zero e h = (and_both (f b) (all_bytes f s) e).0
all_at f (b ∷ s) (suc i) e h = all_at f s i (and_both (f b) (all_bytes f s) e).1 (omega arith)

module _ (u a s w : List ℕ) (e : u ≡ a ++ (s ++ w)) where
  abbrev from : ℕ
  from = length a

  abbrev to : ℕ
  to = length a + length s

  inside : to ≤ length u
  inside = omega (arith, ap length e, length-append a (s ++ w), length-append s w)

  byte_in : (i : ℕ) → i < length s → byte u (from + i) ≡ byte s i
  byte_in i h = ap (λ t. byte t (from + i)) e ∙ get_or-append-add a (s ++ w) i 0 ∙ get_or-append s w 0 i h

  byte_behind : byte u to ≡ byte w 0
  byte_behind =
      let z : length s + 0 ≡ length s = omega arith in
      ap (λ t. byte t to) e ∙ get_or-append-add a (s ++ w) (length s) 0 ∙ ap (λ n. get_or (s ++ w) n 0) (sym z) ∙ get_or-append-add s w 0 0

  slice_in : slice from to u ≡ s
  slice_in =
      let h : length (a ++ s) ≡ to = length-append a s in
      let v : u ≡ (a ++ s) ++ w = e ∙ sym (append_assoc a s w) in
      ap (λ t. slice from to t) v ∙ ap (λ n. slice from n ((a ++ s) ++ w)) (sym h) ∙ ap (λ t. drop from t) (take-append_seam (a ++ s) w)
      ∙ drop-append_seam a s

  run_in : (f : ℕ → Bool) → all_bytes f s ≡ true → f (byte w 0) ≡ false → Run f u from to
  run_in f all stop = record {
    order = omega arith;
    within = inside;
    each = λ k h l.
        let z : from + (k - from) ≡ k = omega arith in
        subst (λ n. f (byte u n) ≡ true) z (rw (byte_in (k - from) (omega arith)) (all_at f s (k - from) all (omega arith)));
    stop = λ h. rw byte_behind stop;
  }

-- ---- one token more

module _ {voc : Vocabulary} (laws : Laws voc) (u a s w : List ℕ) (e : u ≡ a ++ (s ++ w)) (some : 0 < length s) (ts : List Token)
    (r : Reaches voc u (length a) ts) where
  abbrev at : ℕ
  at = length a

  first : byte u at ≡ byte s 0
  first = let z : at + 0 ≡ at = omega arith in ap (byte u) (sym z) ∙ byte_in u a s w e 0 some

  put : (k v : ℕ) → Piece voc u at (at + length s) (token k v) → v ≤ LARGEST
      → Reaches voc u (length (a ++ s)) (ts ++ (record { kind = k; value = v; spelling = s; place = at } ∷ []))
  put k v x h =
      rw (length-append a s)
      (next r x h (ap (λ z. ts ++ (record { kind = k; value = v; spelling = z; place = at } ∷ [])) (sym (slice_in u a s w e))))

  name_step : is_letter (byte s 0) ≡ true → all_bytes is_name_byte s ≡ true → is_name_byte (byte w 0) ≡ false → word_kind voc s ≡ NAME
      → Reaches voc u (length (a ++ s)) (ts ++ (record { kind = NAME; value = 0; spelling = s; place = at } ∷ []))
  name_step letter all stop kind =
      let x = name_piece laws u at (at + length s) (omega (arith, inside u a s w e)) (rw first letter) (run_in u a s w e is_name_byte all stop) in
      let z : word_kind voc (slice at (at + length s) u) ≡ NAME = ap (word_kind voc) (slice_in u a s w e) ∙ kind in
      put NAME 0 (subst (λ k. Piece voc u at (at + length s) (token k 0)) z x) (omega arith)

  pub number_step : (n : ℕ) → n ≤ LARGEST → all_bytes is_digit s ≡ true → number_from 10 0 s ≡ n → is_digit (byte w 0) ≡ false
      → is_letter (byte w 0) ≡ false → (byte w 0 ≡ 46 → ⊥)
      → Reaches voc u (length (a ++ s)) (ts ++ (record { kind = NUMBER; value = n; spelling = s; place = at } ∷ []))
  number_step n small all worth stop letter dot =
      let x = number_piece laws u at (at + length s) (omega (arith, inside u a s w e)) (rw first (all_at is_digit s 0 all some)) no_base
      (λ x. dot (sym (byte_behind u a s w e) ∙ x.1)) (run_in u a s w e is_digit all stop)
      in
      let z : number_from 10 0 (slice at (at + length s) u) ≡ n = ap (number_from 10 0) (slice_in u a s w e) ∙ worth in
      put NUMBER n (subst (λ v. Piece voc u at (at + length s) (token NUMBER v)) z x) small
    where
      second : is_letter (byte u (at + 1)) ≡ false
      second =
          ⊎_elim (λ h. rw (byte_in u a s w e 1 h) (digit_not_letter (byte s 1) (all_at is_digit s 1 all h)))
          (λ h. let z : at + length s ≡ at + 1 = omega arith in subst (λ i. is_letter (byte u i) ≡ false) z (rw (byte_behind u a s w e) letter))
          (either 1 (length s))

      no_base : (base : ℕ) → Tells laws u at base → ⊥
      no_base base t =
          let l : at + 2 < length u = byte_inside u (at + 2) (byte u (at + 2)) refl (digit_of_some base (byte u (at + 2)) t.1) in
          clash (base_shape laws u at base (omega arith) t.0).1 second

module _ {voc : Vocabulary} (laws : Laws voc) (b k : ℕ) (lone : Lone voc b k) (u a w : List ℕ) (e : u ≡ a ++ ((b ∷ []) ++ w)) (ts : List Token)
    (r : Reaches voc u (length a) ts) where
  here : byte u (length a) ≡ b
  here = first laws u a (b ∷ []) w e (omega arith) ts r

  most_one : AtMost voc u (length a) 1
  unfolding single
  most_one = record { bytes = go }
    where
      two : (q : ℕ) → length a + 1 < q → q ≤ length u
          → slice (length a) q u ≡ b ∷ byte u (suc (length a)) ∷ slice (suc (suc (length a))) q u
      two q h l = rw (slice-cons (length a) q u 0 (omega arith) l, slice-cons (suc (length a)) q u 0 (omega arith) l, here)

      go : (q c : ℕ) → length a < q → q ≤ length u → spelled voc.marks (slice (length a) q u) ≡ some c → q ≤ length a + 1
      go q c o l x =
          ⊎_elim
          (λ h. absurd
          (let y = passes (single b) voc.marks (slice (length a) q u) c lone.alone x in
          let z : single b (b ∷ byte u (suc (length a)) ∷ slice (suc (suc (length a))) q u) ≡ true = rw (two q h l) at y in
          clash (eq-eqb b b refl) (not-true (eqb b b) z)))
          (λ h. h) (either (length a + 1) q)

  mark_step : Reaches voc u (length (a ++ (b ∷ []))) (ts ++ (record { kind = k; value = 0; spelling = b ∷ []; place = length a } ∷ []))
  mark_step =
      let within : Within u (length a) (length a + 1) = record { some = omega arith; inside = inside u a (b ∷ []) w e } in
      let no_line : Stands u (length a) (spell "//") → ⊥ = λ s. lone.no_slash (sym here ∙ s.0) in
      let no_open : Opens u (length a) → ⊥ = λ s. lone.no_slash (sym here ∙ s.0) in
      let x = mark_piece laws u (length a) 1 k (rw here lone.plain, no_line, no_open) within (rw (slice_in u a (b ∷ []) w e) lone.kind) most_one in
      put laws u a (b ∷ []) w e (omega arith) ts r k 0 x (omega arith)

-- ---- the call

-- the text up to each of its six tokens, where it stands behind a
module _ (a : List ℕ) (j : Job) where
  abbrev a1 : List ℕ
  a1 = a ++ PAY

  abbrev a2 : List ℕ
  a2 = a1 ++ spell "("

  abbrev a3 : List ℕ
  a3 = a2 ++ decimal j.picks

  abbrev a4 : List ℕ
  a4 = a3 ++ spell ","

  abbrev a5 : List ℕ
  a5 = a4 ++ decimal j.rate

  abbrev pub call_tokens : List Token
  call_tokens =
      record { kind = NAME; value = 0; spelling = PAY; place = length a }
      ∷ record { kind = LPAR; value = 0; spelling = spell "("; place = length a1 }
      ∷ record { kind = NUMBER; value = j.picks; spelling = decimal j.picks; place = length a2 }
      ∷ record { kind = COMMA; value = 0; spelling = spell ","; place = length a3 }
      ∷ record { kind = NUMBER; value = j.rate; spelling = decimal j.rate; place = length a4 }
      ∷ record { kind = RPAR; value = 0; spelling = spell ")"; place = length a5 } ∷ []

-- put one after the other
six_put : {A : Type 0} (xs : List A) (a b c d e f : A)
    → (((((xs ++ (a ∷ [])) ++ (b ∷ [])) ++ (c ∷ [])) ++ (d ∷ [])) ++ (e ∷ [])) ++ (f ∷ []) ≡ xs ++ (a ∷ b ∷ c ∷ d ∷ e ∷ f ∷ [])
six_put xs a b c d e f = simp append_assoc

as_reached : {voc : Vocabulary} {u : List ℕ} {m n : ℕ} {us vs : List Token} → m ≡ n → us ≡ vs → Reaches voc u m us → Reaches voc u n vs
as_reached {voc} {u} e f r = subst₂ (λ m us. Reaches voc u m us) e f r

module _ {voc : Vocabulary} (laws : Laws voc) (able : Callable voc) (a u : List ℕ) (j : Job) (p : j.picks ≤ LARGEST) (q : j.rate ≤ LARGEST)
    (e : u ≡ a ++ call_of j) where
  pub call_reached : (ts : List Token) → Reaches voc u (length a) ts → Reaches voc u (length u) (ts ++ call_tokens a j)
  unfolding call_of all_bytes is_letter is_digit is_name_byte between
  call_reached ts r =
      let w5 = spell ")" in
      let w4 = decimal j.rate ++ w5 in
      let w3 = spell "," ++ w4 in
      let w2 = decimal j.picks ++ w3 in
      let w1 = spell "(" ++ w2 in
      let e2 : u ≡ a1 a j ++ w1 = e ∙ sym (append_assoc a PAY w1) in
      let e3 : u ≡ a2 a j ++ w2 = e2 ∙ sym (append_assoc (a1 a j) (spell "(") w2) in
      let e4 : u ≡ a3 a j ++ w3 = e3 ∙ sym (append_assoc (a2 a j) (decimal j.picks) w3) in
      let e5 : u ≡ a4 a j ++ w4 = e4 ∙ sym (append_assoc (a3 a j) (spell ",") w4) in
      let e6 : u ≡ a5 a j ++ w5 = e5 ∙ sym (append_assoc (a4 a j) (decimal j.rate) w5) in
      let r1 = name_step laws u a PAY w1 e (omega arith) ts r refl refl refl able.pay in
      let r2 = mark_step laws 40 LPAR able.opening u (a1 a j) w2 e2 _ r1 in
      let r3 = number_step laws u (a2 a j) (decimal j.picks) w3 e3 (some_digit 9 j.picks) _ r2 j.picks p (decimal_digits j.picks p)
      (decimal_worth j.picks p) refl refl (λ (z : ◌≡◌ {A = ℕ} 44 46). omega arith)
      in
      let r4 = mark_step laws 44 COMMA able.comma u (a3 a j) w4 e4 _ r3 in
      let r5 = number_step laws u (a4 a j) (decimal j.rate) w5 e5 (some_digit 9 j.rate) _ r4 j.rate q (decimal_digits j.rate q)
      (decimal_worth j.rate q) refl refl (λ (z : ◌≡◌ {A = ℕ} 41 46). omega arith)
      in
      let r6 = mark_step laws 41 RPAR able.closing u (a5 a j) [] e6 _ r5 in
      as_reached (sym (ap length e6)) (six_put ts _ _ _ _ _ _) r6
