-- Tokens of one spelling are of one kind, wherever they stand.
use lib.ListN.{length, get_or}
use lib.Seq.{length-slice, take-length}
use mathlib.Core.List.{List}
use mathlib.Core.Path.{◌≡◌, refl, ◌∙◌, ap, subst}
use native.Mathlib.Omega.{arith}
use Prim.Native.Nat.{ℕ, zero, suc, ◌≤◌, ◌<◌}
use Rattle.language.proofs.Text.Alone.{alone}
use Rattle.language.proofs.Text.Marks.{Laws}
use Rattle.language.proofs.Text.OnePiece.{form_bounds, one_piece}
use Rattle.language.proofs.Writing.Spelled.{Spelled, AllSpelled, spelled_none, spelled_more, reached_spelled}
use Rattle.language.specs.Sizes.{LARGEST}
use Rattle.language.specs.Text.{Piece, Reaches, token_of}
use Rattle.language.specs.Text.Content.{token}
use Rattle.language.specs.Tokens.{Spelling, Vocabulary, Token, past}

spelled_in : {voc : Vocabulary} {ts : List Token} → AllSpelled voc ts → (i : ℕ) → i < length ts → Spelled voc (get_or ts i past)
spelled_in spelled_none i h = absurd (omega arith)
spelled_in (spelled_more x xs) zero h = x
spelled_in (spelled_more x xs) (suc i) h = spelled_in xs i (omega arith)

same_kind : {k v j x : ℕ} → token k v ≡ token j x → k ≡ j
same_kind e = cc

module _ {voc : Vocabulary} (laws : Laws voc) where
  -- its bytes by themselves
  piece_of : {u : Token} → Spelled voc u → Piece voc u.spelling 0 (length u.spelling) (token u.kind u.value)
  piece_of {u} x =
      let s = u.spelling in
      let z = form_bounds x.text x.from x.to (token u.kind u.value) x.form in
      let long : 0 < length s = omega (arith, z, ap length x.bytes, length-slice x.from x.to x.text z.1) in
      alone laws u.kind u.value x.form
      record {
        within = record { some = z.0; inside = z.1 };
        there = record { some = long; inside = omega arith };
        same = take-length s ∙ x.bytes;
      }
      (λ h. absurd (omega arith))

  one_kind : {u v : Token} → Spelled voc u → Spelled voc v → u.spelling ≡ v.spelling → u.kind ≡ v.kind
  one_kind {u} {v} x y e =
      let s = v.spelling in
      let a = subst (λ (z : Spelling). Piece voc z 0 (length z) (token u.kind u.value)) e (piece_of x) in
      same_kind (one_piece laws s 0 (length s) (length s) (token u.kind u.value) (token v.kind v.value) a (piece_of y)).1

  -- a token that is reached has the kind of the piece behind it, where it is spelled so
  pub kind_reached : {t : List ℕ} {p q k v : ℕ} {ts : List Token} → Reaches voc t p ts → Piece voc t p q (token k v) → v ≤ LARGEST
      → (i : ℕ) → i < length ts → (get_or ts i past).spelling ≡ (token_of t p q k v).spelling → (get_or ts i past).kind ≡ k
  kind_reached {t} {p} {q} {k} {v} r x h i l e =
      one_kind {v = token_of t p q k v} (spelled_in (reached_spelled r) i l) record { text = t; from = p; to = q; form = x.form; bytes = refl; small = h } e
