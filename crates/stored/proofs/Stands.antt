-- What the next layer gets: the table of a stored sheet that is read stands for its tokens.
use lib.ListN.{length, get_or-eq_default}
use mathlib.Core.List.{List}
use mathlib.Core.Logic.{⊎_elim}
use mathlib.Core.Path.{ap}
use native.Mathlib.Omega.{arith}
use Prim.Native.Nat.{ℕ, ◌≤◌}
use Rattle.language.proofs.Stored.Lone.{lone_piece}
use Rattle.language.proofs.Text.Choices.{either}
use Rattle.language.proofs.Text.Marks.{Laws}
use Rattle.language.specs.Sizes.{LARGEST, TABLE}
use Rattle.language.specs.Stored.{AllLone}
use Rattle.language.specs.Tokens.{Vocabulary, Token, past, value_at, place_at}
use Rattle.layout.proofs.TokenLaws.{lay_stands, stand_same}
use Rattle.layout.specs.Names.{lay_tokens, Near, Stand}
use Rattle.stored.proofs.Laid.{lone_at, lone_place}
use Rattle.stored.specs.Answer.{Whole}

module _ {voc : Vocabulary} (laws : Laws voc) {ts : List Token} (all : AllLone voc ts) where
  small : (i : ℕ) → value_at ts i ≤ LARGEST
  unfolding value_at
  small i =
      ⊎_elim (λ h. (lone_piece (lone_at laws all i h).splits).small)
      (λ h. let z = ap (λ (t : Token). t.value) (get_or-eq_default ts past h) in omega arith) (either i (length ts))

  near : Near ts
  unfolding place_at
  near i h = omega (arith, lone_place laws (lone_at laws all i h))

pub stored_stands : {voc : Vocabulary} → Laws voc → (t w v : List ℕ) (n : ℕ) → TABLE ≤ length w → (x : Whole voc t w v n) → Stand v n x.tokens
stored_stands laws t w v n room x =
    let ts = x.tokens in
    let y : Stand (lay_tokens ts w 0 ts) n ts =
    rw x.count (lay_stands ts w x.gives.few (λ i h. small laws x.gives.tokens i) (near laws x.gives.tokens) room) in
    stand_same v (lay_tokens ts w 0 ts) n ts (λ j h. x.laid.words j (λ k l. omega arith)) y
