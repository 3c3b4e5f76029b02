-- The tokens of a split are spelled as tokens are: each has bytes somewhere of which it is the form.
use mathlib.Core.List.{List, [], ◌∷◌, ◌++◌}
use mathlib.Core.Path.{◌≡◌, refl, sym, subst}
use Prim.Native.Nat.{ℕ, ◌≤◌}
use lib.Seq.{slice}
use Rattle.language.specs.Sizes.{LARGEST}
use Rattle.language.specs.Tokens.{Token, Vocabulary}
use Rattle.language.specs.Text.{token, Form, Reaches, start, skip, next}

-- there are bytes of which t is the form
pub record Spelled (voc : Vocabulary) (t : Token) : Type 0 where
  pub text : List ℕ
  pub from : ℕ
  pub to : ℕ
  pub form : Form voc text from to (token t.kind t.value)
  pub bytes : t.spelling ≡ slice from to text
  pub small : t.value ≤ LARGEST

pub data AllSpelled (voc : Vocabulary) : List Token → Type 0 where
  spelled_none : AllSpelled voc []
  spelled_more : {t : Token} {ts : List Token} → Spelled voc t → AllSpelled voc ts → AllSpelled voc (t ∷ ts)

module _ {voc : Vocabulary} where
  one_more : {ts : List Token} {t : Token} → AllSpelled voc ts → Spelled voc t → AllSpelled voc (ts ++ (t ∷ []))
  one_more spelled_none x = spelled_more x spelled_none
  one_more (spelled_more y s) x = spelled_more y (one_more s x)

  -- those that are reached are
  pub reached_spelled : {t : List ℕ} {p : ℕ} {ts : List Token} → Reaches voc t p ts → AllSpelled voc ts
  reached_spelled start = spelled_none
  reached_spelled (skip r x) = reached_spelled r
  reached_spelled {t} (next {p = p} {q = q} r x h e) =
      subst (AllSpelled voc) (sym e)
      (one_more (reached_spelled r) record { text = t; from = p; to = q; form = x.form; bytes = refl; small = h })
