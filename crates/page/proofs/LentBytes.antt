-- Text put behind text into lent bytes, of which no page is made: what is told of a part, and of parts one behind the
-- other.
use lib.ListN.{length}
use mathlib.Core.List.{List, ◌++◌}
use mathlib.Core.Path.{◌≡◌, sym, ap, subst}
use native.Mathlib.Omega.{arith}
use Prim.Native.Nat.{ℕ}
use Rattle.io.proofs.Counting.{prefix_len_of_le}
use Rattle.io.specs.Counts.{IsPrefixLen}
use Rattle.page.specs.Text.{Adds}
use Rattle.page.proofs.Adding.{adds_long, adds_both}

-- what is told of a part that was put: that its end lies within, and which bytes there are
abbrev pub Added : (part entry exit : List ℕ) (at r : ℕ) → Type 0
Added part entry exit at r = IsPrefixLen r exit × Adds part entry exit at r

-- where a part was put it ends within
pub added : {a d0 d1 : List ℕ} {n0 n1 : ℕ} → Adds a d0 d1 n0 n1 → Added a d0 d1 n0 n1
added {d1 = d1} p = (prefix_len_of_le _ d1 (omega (arith, adds_long p, p.ends)), p)

-- one behind the other, read from what is told of each
pub both : {a b d0 d1 d2 : List ℕ} {n0 n1 n2 : ℕ} → Adds a d0 d1 n0 n1 → Adds b d1 d2 n1 n2 → Adds (a ++ b) d0 d2 n0 n2
both p q = adds_both p q

-- a part that is the same text
pub being : {a b d0 d1 : List ℕ} {n0 n1 : ℕ} → a ≡ b → Adds a d0 d1 n0 n1 → Adds b d0 d1 n0 n1
being {d0 = d0} {d1} {n0} {n1} e p = subst (λ (t : List ℕ). Adds t d0 d1 n0 n1) e p

-- the text that f gives for x, where x is known to be y
pub worded : {X : Type 0} (f : X → List ℕ) {x y : X} → x ≡ y → {d0 d1 : List ℕ} {n0 n1 : ℕ} → Adds (f y) d0 d1 n0 n1 → Adds (f x) d0 d1 n0 n1
worded f e p = being (sym (ap f e)) p

-- there are as many bytes as before
pub long : {a d0 d1 : List ℕ} {n0 n1 : ℕ} → Adds a d0 d1 n0 n1 → length d1 ≡ length d0
long p = adds_long p
