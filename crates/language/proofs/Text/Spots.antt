-- The spelling of a token stands in its text where the token says.
use lib.ListN.{length, get_or, length-append, get_or-append}
use lib.Seq.{slice, length-slice, get_or_at}
use mathlib.Core.List.{List, [], ◌∷◌, ◌++◌}
use mathlib.Core.Logic.{⊎_elim}
use mathlib.Core.Path.{◌≡◌, sym, ◌∙◌, ap, subst}
use native.Mathlib.Omega.{arith}
use Prim.Native.Nat.{ℕ, ◌+◌, ◌≤◌, ◌<◌}
use Rattle.language.proofs.Text.Choices.{either}
use Rattle.language.proofs.Text.OnePiece.{form_bounds}
use Rattle.language.specs.Text.{token_of, Reaches}
use Rattle.language.specs.Text.Content.{token}
use Rattle.language.specs.Text.Reaches.{start, skip, next}
use Rattle.language.specs.Tokens.{Vocabulary, Token, past}

-- the token's spelling stands in the text where the token says
pub record Spot (t : List ℕ) (u : Token) : Type 0 where
  pub inside : u.place + length u.spelling ≤ length t
  pub spells : slice u.place (u.place + length u.spelling) t ≡ u.spelling

-- the end of a token is where its spelling ends
pub token_end : (t : List ℕ) (p q : ℕ) → p ≤ q → q ≤ length t → p + length (slice p q t) ≡ q
token_end t p q o l = omega (arith, length-slice p q t l)

spot : (t : List ℕ) (p q k v : ℕ) → p ≤ q → q ≤ length t → Spot t (token_of t p q k v)
spot t p q k v o l =
    let e = token_end t p q o l in
    record { inside = omega arith; spells = rw e }

-- so it is with every token that is reached
pub reached_spot : {voc : Vocabulary} {t : List ℕ} {p : ℕ} {ts : List Token} → Reaches voc t p ts
    → (i : ℕ) → i < length ts → Spot t (get_or ts i past)
reached_spot start i h = absurd (omega arith)
reached_spot (skip a x) i h = reached_spot a i h
reached_spot {t = t} {p = q} {ts = us} (next {p = p} {k = k} {v = v} {ts = ts} a x l e) i h =
    let u = token_of t p q k v in
    let b = form_bounds t p q (token k v) x.form in
    let y : get_or us i past ≡ get_or (ts ++ (u ∷ [])) i past = ap (λ l. get_or l i past) e in
    ⊎_elim (λ j. subst (Spot t) (sym (y ∙ get_or-append ts (u ∷ []) past i j)) (reached_spot a i j))
    (λ j. let z : length ts ≡ i = omega (arith, simp length-append at (ap length e)) in
    subst (Spot t) (sym (y ∙ get_or_at ts u [] past i z)) (spot t p q k v (omega (arith, b.0)) b.1))
    (either i (length ts))
