-- Whether a line is one token, by the longest piece at its begin.
use lib.ListN.{length}
use lib.Seq.{slice}
use mathlib.Core.List.{List, []}
use mathlib.Core.Path.{◌≡◌, sym, subst, ◌∙◌}
use native.Mathlib.Omega.{arith}
use Prim.Native.Nat.{ℕ, ◌≤◌}
use Rattle.language.proofs.Stored.Lone.{lone_piece}
use Rattle.language.proofs.Text.Marks.{Laws}
use Rattle.language.proofs.Text.OnePiece.{one_piece}
use Rattle.language.specs.Numbers.{not_one_token}
use Rattle.language.specs.Sizes.{LARGEST}
use Rattle.language.specs.Stored.{Lone}
use Rattle.language.specs.Text.{Piece, Wrong, strange, opened, long, large, many, Flaw, Content, space, token}
use Rattle.language.specs.Tokens.{Spelling, Vocabulary, Token}
use Rattle.numbers.specs.declared.Flaw as Flaw_of
use Rattle.std.specs.Prelude.{Result, Ok}
use Rattle.tokens.specs.declared.pieces.Piece as Found_piece
use Rattle.tokens.specs.Found.{IsToken, IsPiece}
use Rattle.tokens.specs.Shown.{told}
use Rattle.stored.specs.Lines.{LineTo}
use Rattle.stored.specs.Entries.{OnLine, Amiss, no_token}

-- the bytes s are all of a token
record All (voc : Vocabulary) (s : Spelling) (k v : ℕ) : Type 0 where
  piece : Piece voc s 0 (length s) (token k v)
  small : v ≤ LARGEST

all_of : {voc : Vocabulary} {s : Spelling} (u : Token) → u.spelling ≡ s → Lone voc u → All voc s u.kind u.value
all_of {voc} u e l =
    let w = lone_piece l.splits in
    subst (λ (s : Spelling). All voc s u.kind u.value) e record { piece = w.piece; small = w.small }

module _ {voc : Vocabulary} (laws : Laws voc) (s : Spelling) where
  -- a blank or a comment
  spaced : {q k v : ℕ} → Piece voc s 0 q space → All voc s k v → ⊥
  spaced {q} {k} {v} x a =
      let e = (one_piece laws s 0 q (length s) space (token k v) x a.piece).1 in
      let z : ◌≡◌ {A = ℕ} 0 1 = cc in
      omega arith

  -- a token that is not all
  shorter : {q k v j w : ℕ} → Piece voc s 0 q (token j w) → (q ≡ length s → ⊥) → All voc s k v → ⊥
  shorter {q} {k} {v} {j} {w} x n a = n (one_piece laws s 0 q (length s) (token j w) (token k v) x a.piece).0

  -- nothing that splits
  flawed : {f : Flaw} {k v : ℕ} → Wrong voc s 0 [] f → All voc s k v → ⊥
  flawed (strange h n) a = n _ _ a.piece.form
  flawed {k = k} {v = v} (opened {q = q} x) a =
      let e = (one_piece laws s 0 q (length s) Content.unclosed (token k v) x a.piece).1 in
      let z : ◌≡◌ {A = ℕ} 0 1 = cc in
      omega arith
  flawed {k = k} {v = v} (long {q = q} x) a =
      let e = (one_piece laws s 0 q (length s) Content.overlong (token k v) x a.piece).1 in
      let z : ◌≡◌ {A = ℕ} 0 1 = cc in
      omega arith
  flawed {k = k} {v = v} (large {q = q} {k = j} {v = w} x h) a =
      let e = (one_piece laws s 0 q (length s) (token j w) (token k v) x a.piece).1 in
      let z : w ≡ v = cc in
      omega (arith, a.small)
  flawed (many x h e) a = omega arith

-- ---- the line from p up to e

module _ {voc : Vocabulary} (laws : Laws voc) {t : List ℕ} {p e : ℕ} (l : LineTo t p e) where
  pub not_blank : {q : ℕ} → Piece voc (told (slice p e t)) 0 q space → Amiss voc t p not_one_token
  not_blank x = no_token l.line (λ u h k. spaced laws (told (slice p e t)) x (all_of u h k))

  pub not_space : {r : Result Found_piece.Piece Flaw_of.Flaw} {y : Found_piece.Piece} {q : ℕ} → IsPiece voc (told (slice p e t)) 0 r → r ≡ Ok y
      → y ≡ Found_piece.TheVariants.Space q → Amiss voc t p not_one_token
  not_space h x z = not_blank (rw (x, z) at h)

  pub not_all : {q k x n : ℕ} → IsToken voc (told (slice p e t)) 0 k q x → (q ≡ n → ⊥) → n ≡ length (told (slice p e t))
      → Amiss voc t p not_one_token
  not_all y h z = no_token l.line (λ u i k. shorter laws (told (slice p e t)) y.piece (λ j. h (j ∙ sym z)) (all_of u i k))

  pub not_right : {f : Flaw} → ((ts : List Token) → Wrong voc (told (slice p e t)) 0 ts f) → Amiss voc t p not_one_token
  not_right x = no_token l.line (λ u h k. flawed laws (told (slice p e t)) (x []) (all_of u h k))

  pub all_token : {q k x n : ℕ} → IsToken voc (told (slice p e t)) 0 k q x → q ≡ n → n ≡ length (told (slice p e t)) → OnLine voc t p k x e
  all_token {k = k} {x = x} y h z =
      record { line = l; token = subst (λ (q : ℕ). IsToken voc (told (slice p e t)) 0 k q x) (h ∙ z) y }
