-- Whether bytes are one token and nothing else, worked out.
use lib.ListN.{length}
use lib.Seq.{slice, length-slice, take-length}
use mathlib.Core.Bool.{Bool, true, false}
use mathlib.Core.List.{List, [], ◌∷◌, ◌++◌}
use mathlib.Core.Option.{Option, none, some}
use mathlib.Core.Path.{◌≡◌, refl, sym, ap, subst, ◌∙◌}
use borrow.Author.Tests.{eq-eqb}
use native.Mathlib.Omega.{arith}
use Prim.Native.Nat.{ℕ, ◌≤◌}
use Rattle.language.specs.Sizes.{Sizes, LARGEST}
use Rattle.language.specs.Tokens.{Spelling, same, Vocabulary, Token}
use Rattle.language.specs.Text.{space, token, Piece, token_of, Reaches, start, skip, next, SplitsUnder, SplitsWhole}
use Rattle.language.proofs.Text.Marks.{Laws}
use Rattle.language.proofs.Text.OnePiece.{form_bounds}
use Rattle.language.proofs.Text.Scanner.{Result, scan, Says, scanned, split_scanned}
use Rattle.language.proofs.Text.Scanner.Result.{split, flawed}
use Rattle.language.proofs.Text.Tables.{same_one}

same_self : (s : Spelling) → same s s ≡ true
unfolding same
same_self [] = refl
same_self (b ∷ s) = rw (eq-eqb b b refl) (same_self s)

-- the token, where it is spelled so
if_so : Token → Bool → Option Token
if_so t true = some t
if_so t false = none

only : Spelling → Result → Option Token
unfolding if_so
only s (split []) = none
only s (split (t ∷ [])) = if_so t (same t.spelling s)
only s (split (t ∷ u ∷ ts)) = none
only s (flawed f p) = none

-- Sizes with room for one token, which is all that is asked of bytes that are one: no box's sizes have a say in it.
abbrev ONE : Sizes
ONE = record { source = 0; tokens = 1; nodes = 1; functions = 0; parameters = 0; refs = 0; table = 0 }

one : {voc : Vocabulary} {s : Spelling} {t : Token} → SplitsWhole voc s (t ∷ []) → SplitsUnder ONE voc s (t ∷ [])
one a = record { whole = a; few = omega arith }

-- the token that bytes are
unfoldable pub lone : Vocabulary → Spelling → Option Token
unfolding only if_so same scan
lone voc s = only s (scan ONE voc s)

module _ {voc : Vocabulary} (laws : Laws voc) where
  -- what is found is one
  pub lone_is : (s : Spelling) (t : Token) → lone voc s ≡ some t → (t.spelling ≡ s) × SplitsWhole voc t.spelling (t ∷ [])
  unfolding lone
  lone_is s t e = go (scan ONE voc s) (scanned laws ONE s) e
    where
      spelled : (u : Token) (x : Bool) → same u.spelling s ≡ x → SplitsWhole voc s (u ∷ []) → if_so u x ≡ some t
          → (t.spelling ≡ s) × SplitsWhole voc t.spelling (t ∷ [])
      spelled u true h a e =
          let z : u ≡ t = cc in
          let k : t.spelling ≡ s = ap (λ (t : Token). t.spelling) (sym z) ∙ same_one u.spelling s h in
          (k, subst (λ (r : Spelling). SplitsWhole voc r (t ∷ [])) (sym k) (subst (λ (t : Token). SplitsWhole voc s (t ∷ [])) z a))
      spelled u false h a e = let z : ◌≡◌ {A = ℕ} 0 1 = cc in absurd (omega arith)

      go : (r : Result) → Says ONE voc s r → only s r ≡ some t → (t.spelling ≡ s) × SplitsWhole voc t.spelling (t ∷ [])
      go (split []) a e = let z : ◌≡◌ {A = ℕ} 0 1 = cc in absurd (omega arith)
      go (split (u ∷ [])) a e = spelled u (same u.spelling s) refl a.whole e
      go (split (u ∷ v ∷ us)) a e = let z : ◌≡◌ {A = ℕ} 0 1 = cc in absurd (omega arith)
      go (flawed f p) a e = let z : ◌≡◌ {A = ℕ} 0 1 = cc in absurd (omega arith)

  -- and one is found
  pub is_lone : (t : Token) → SplitsWhole voc t.spelling (t ∷ []) → lone voc t.spelling ≡ some t
  unfolding lone only if_so
  is_lone t a = ap (only t.spelling) (split_scanned laws (one a)) ∙ ap (if_so t) (same_self t.spelling)

  -- so a spelling has one token
  pub one_lone : {t u : Token} → SplitsWhole voc t.spelling (t ∷ []) → SplitsWhole voc u.spelling (u ∷ []) → t.spelling ≡ u.spelling → t ≡ u
  one_lone {t} {u} a b e = let x = sym (is_lone t a) ∙ ap (lone voc) e ∙ is_lone u b in cc

-- ---- by the piece that the bytes are

-- the token that the bytes s are, with this kind and value
abbrev pub lone_token : Spelling → ℕ → ℕ → Token
lone_token s k v = record { kind = k; value = v; spelling = s; place = 0 }

whole_slice : (s : Spelling) → slice 0 (length s) s ≡ s
whole_slice s = take-length s

module _ {voc : Vocabulary} where
  -- bytes that are a piece, whole and not too large, are a token
  pub piece_lone : (s : Spelling) (k v : ℕ) → Piece voc s 0 (length s) (token k v) → v ≤ LARGEST → SplitsWhole voc s (lone_token s k v ∷ [])
  piece_lone s k v x h = next start x h (ap (λ (r : Spelling). lone_token r k v ∷ []) (sym (whole_slice s)))

-- and where they are one they are such a piece
pub record WholePiece (voc : Vocabulary) (s : Spelling) (t : Token) (p : ℕ) : Type 0 where
  pub all : p ≡ length s
  pub piece : Piece voc s 0 (length s) (token t.kind t.value)
  pub small : t.value ≤ LARGEST

module _ {voc : Vocabulary} (s : Spelling) (t : Token) (whole : t.spelling ≡ s) where
  -- the last piece has all the bytes
  last_piece : (p q k v : ℕ) → Piece voc s p q (token k v) → v ≤ LARGEST → t ≡ token_of s p q k v → WholePiece voc s t q
  last_piece p q k v x h e =
      let z = form_bounds s p q (token k v) x.form in
      let l : length (slice p q s) ≡ length s = ap length (ap (λ (t : Token). t.spelling) (sym e) ∙ whole) in
      let b : p ≡ 0 = omega (arith, z, l, length-slice p q s z.1) in
      let c : q ≡ length s = omega (arith, z, l, length-slice p q s z.1) in
      let i : k ≡ t.kind = ap (λ (t : Token). t.kind) (sym e) in
      let j : v ≡ t.value = ap (λ (t : Token). t.value) (sym e) in
      record { all = c; piece = rw (b, c, i, j) at x; small = omega arith }

  reached_piece : {p : ℕ} {ts : List Token} → Reaches voc s p ts → ts ≡ t ∷ [] → WholePiece voc s t p
  reached_piece start e = let z : ◌≡◌ {A = ℕ} 0 1 = cc in absurd (omega arith)
  reached_piece (skip {p = p} {q = q} r x) e = absurd (omega (arith, (reached_piece r e).all, form_bounds s p q space x.form))
  reached_piece (next {p = p} {q = q} {k = k} {v = v} {ts = ts} r x h f) e = go ts (sym f ∙ e)
    where
      go : (ts : List Token) → ts ++ (token_of s p q k v ∷ []) ≡ t ∷ [] → WholePiece voc s t q
      go [] g = last_piece p q k v x h (cc)
      go (u ∷ []) g = let z : ◌≡◌ {A = ℕ} 0 1 = cc in absurd (omega arith)
      go (u ∷ w ∷ us) g = let z : ◌≡◌ {A = ℕ} 0 1 = cc in absurd (omega arith)

-- for whoever has a lone token
pub lone_piece : {voc : Vocabulary} {t : Token} → SplitsWhole voc t.spelling (t ∷ []) → WholePiece voc t.spelling t (length t.spelling)
lone_piece {t = t} a = reached_piece t.spelling t refl a refl
