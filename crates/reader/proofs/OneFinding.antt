-- The reader's contract leaves no choice, and a program that it finds is held by the table.
use mathlib.Core.List.{List}
use mathlib.Core.Path.{◌≡◌, sym, ◌∙◌}
use Rattle.std.specs.Prelude.{Result, Ok, Err}
use Prim.Native.Nat.{ℕ, ◌≤◌}
use lib.ListN.{length}
use Rattle.language.specs.Sizes.{TABLE}
use Rattle.language.specs.Tokens.{Token}
use Rattle.language.specs.Trees.{Program}
use Rattle.language.specs.Grammar.{Reading}
use Rattle.language.proofs.Grammar.FirstWrong.{one_place, place_exactly}
use Rattle.language.proofs.Grammar.OneReading.{one_reading}
use Rattle.layout.specs.Names.{Stand}
use Rattle.layout.specs.Decode.{Holds}
use Rattle.layout.specs.declared.Held.{Held}
use Rattle.layout.proofs.HeldPrograms.{held}
use Rattle.reader.specs.Findings.{Finds}
use Rattle.phrases.specs.declared.parts.Failed.{Failed}

module _ (ts : List Token) where
  -- for tokens that the table stands for there are no two answers, and no two tables
  pub one_finding : (w : List ℕ) (g h : Result Held Failed) (x y : List ℕ) → Finds ts w g x → Finds ts w h y → (g ≡ h) × (x ≡ y)
  one_finding w (Ok P) (Ok Q) x y a b =
      let e = one_reading ts a.program b.program a.reading b.reading in
      let h₁ = a.held in
      let h₂ = b.held in
      let l₁ = a.laid in
      let l₂ = b.laid in
      (cc, cc)
  one_finding w (Ok P) (Err e) x y a b = absurd ((place_exactly ts).0 (_, b.at) a.program a.reading)
  one_finding w (Err e) (Ok P) x y a b = absurd ((place_exactly ts).0 (_, a.at) b.program b.reading)
  one_finding w (Err e) (Err e₂) x y a b = (λ i. Err (record { at = one_place ts a.at b.at i }), a.clear ∙ sym b.clear)

  -- the table holds the program that was found, a reading of the tokens
  pub found_held : {w w' : List ℕ} {count : ℕ} {P : Held} → TABLE ≤ length w → Stand w count ts → Finds ts w (Ok P) w'
      → (p : Program) × Reading ts p × Holds ts w' P p
  found_held {w} l s a = (a.program, a.reading, rw (a.laid, a.held) (held ts a.program w l s a.reading))
