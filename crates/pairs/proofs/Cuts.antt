-- No two parts are shown at one spot.
use borrow.Author.Tests.{eqb-true, eqb-false}
use denote.Ref.{Bor}
use lib.Dec.{eqb}
use lib.ListN.{length}
use mathlib.Core.List.{List}
use mathlib.Core.Logic.{⊎_elim}
use mathlib.Core.Path.{◌≡◌, sym, ◌∙◌}
use Prim.Native.Nat.{ℕ}
use Rattle.language.proofs.Text.Choices.{either, outcome}
use Rattle.pairs.specs.Spots.{Part, Cut, Shows}
use Rattle.pairs.specs.declared.Spot.{Spot}

-- the same bytes in the same place
abbrev Same : Bor (List ℕ) → Bor (List ℕ) → Type 0
Same r q = (r.now ≡ q.now) × (r.ref_ptr ≡ q.ref_ptr)

part_once : {sheet : Bor (List ℕ)} {a e : ℕ} {r q : Bor (List ℕ)} → Part sheet a e r → Part sheet a e q → Same r q
part_once x y = (x.bytes ∙ sym y.bytes, x.lies ∙ sym y.lies)

cut_once : (sheet : Bor (List ℕ)) (a e : ℕ) (r q : Bor (List ℕ)) → Cut sheet a e r → Cut sheet a e q → Same r q
cut_once sheet a e r q x y =
    ⊎_elim (λ h. part_once (x.crossed h) (y.crossed h))
    (λ h. ⊎_elim (λ l. part_once (x.past l) (y.past l)) (λ l. part_once (x.whole h l) (y.whole h l))
    (either (length sheet.now) e))
    (either e a)

-- no two parts meet the contract of `line`
pub shows_once : (first second : Bor (List ℕ)) (s : Spot) (r q : Bor (List ℕ)) → Shows first second s r → Shows first second s q
    → (r.now ≡ q.now) × (r.ref_ptr ≡ q.ref_ptr)
shows_once first second s r q x y =
    ⊎_elim
    (λ b. let e = eqb-true s.sheet 2 b in cut_once second s.begin s.end r q (x.in_second e) (y.in_second e))
    (λ b. let n = eqb-false s.sheet 2 b in cut_once first s.begin s.end r q (x.in_first n) (y.in_first n))
    (outcome (eqb s.sheet 2))
