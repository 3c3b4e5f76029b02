-- A program has a token, so what is written of one ends in LF.
use mathlib.Core.List.{List, [], ◌∷◌, ◌++◌, append_assoc}
use mathlib.Core.Path.{◌≡◌, refl, sym, ap, ◌∙◌}
use Prim.Native.Char.{code}
use Prim.Native.Nat.{ℕ, ◌<◌}
use native.Mathlib.Omega.{arith}
use lib.ListN.{length}
use Rattle.language.specs.Tokens.{Token}
use Rattle.language.specs.Trees.{Program}
use Rattle.language.specs.Grammar.{Reading}
use Rattle.language.specs.Writing.{behind, written_out}
use Rattle.language.proofs.Grammar.FirstTokens.{grows}

pub some_token : (ts : List Token) (p : Program) → Reading ts p → 0 < length ts
some_token ts p r = omega (arith, grows ts r)

ends : (t : Token) (ts : List Token) → (s : List ℕ) × (written_out (t ∷ ts) ≡ s ++ (code "\n" ∷ []))
unfolding written_out behind
ends t [] = (t.spelling, refl)
ends t (u ∷ us) =
    let z = ends u us in (
      t.spelling ++ (code " " ∷ z.0),
      ap (λ (w : List ℕ). t.spelling ++ (code " " ∷ w)) z.1
          ∙ sym (append_assoc t.spelling (code " " ∷ z.0) (code "\n" ∷ [])),
    )

pub ends_in_feed : (ts : List Token) (p : Program) → Reading ts p → (s : List ℕ) × (written_out ts ≡ s ++ (code "\n" ∷ []))
ends_in_feed [] p r = absurd (omega (arith, some_token [] p r))
ends_in_feed (t ∷ ts) p r = ends t ts
