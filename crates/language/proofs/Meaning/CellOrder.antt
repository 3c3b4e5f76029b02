-- The live cells stand in the order of their births, so to free is to drop the newest.
use mathlib.Core.Path.{◌≡◌, refl, ap}
use mathlib.Core.Bool.{Bool, true, false, cond}
use Prim.Native.Nat.{ℕ, suc, ◌≤◌, ◌<◌}
use native.Mathlib.Omega.{arith}
use lib.Dec.{eqb, leb}
use borrow.Author.Tests.{leb-true, le-leb}
use Rattle.language.specs.Trees.{Exp, Scope}
use Rattle.language.specs.State.{Value, Cells, no_cell, live, store, keep, State}
use Rattle.language.specs.Meaning.{Env, Fun, eval}
use Rattle.language.proofs.Meaning.CellTypes.{cond_all}
use Rattle.language.proofs.Meaning.Keeping.{Keeps, Closed, keeps_any}

-- births below b, each below the one before
pub data Down : ℕ → Cells → Type 0 where
  down_none : {b : ℕ} → Down b no_cell
  down_live : {a b : ℕ} {v : Value} {cs : Cells} → a < b → Down a cs → Down b (live a v cs)

down_up : {a b : ℕ} {cs : Cells} → a ≤ b → Down a cs → Down b cs
down_up h down_none = down_none
down_up {b = b} h (down_live {a = c} k d) = let m : c < b = omega arith in down_live m d

down_store : (b : ℕ) (w : Value) {a : ℕ} (cs : Cells) → Down a cs → Down a (store b w cs)
unfolding store
down_store b w no_cell d = d
down_store b w (live c v cs) (down_live h d) =
    let r = down_store b w cs d in cond_all (Down _) (eqb b c) (λ _. down_live h d) λ _. down_live h r

down_keep : (b : ℕ) {a : ℕ} (cs : Cells) → Down a cs → Down a (keep b cs)
unfolding keep
down_keep b no_cell d = d
down_keep b (live c v cs) (down_live h d) =
    let r = down_keep b cs d in cond_all (Down _) (leb c b) (λ _. down_live h r) λ _. down_up (omega arith) r

-- the newest go
unfoldable pub drop_newer : ℕ → Cells → Cells
drop_newer b no_cell = no_cell
drop_newer b (live c v cs) = cond (leb c b) (live c v cs) (drop_newer b cs)

all_stay : (b : ℕ) {a : ℕ} (cs : Cells) → a ≤ suc b → Down a cs → keep b cs ≡ cs
unfolding keep
all_stay b no_cell h d = refl
all_stay b (live c v cs) h (down_live k d) = rw (le-leb c b (omega arith)) (ap (live c v) (all_stay b cs (omega arith) d))

pub keep_is : (b : ℕ) {a : ℕ} (cs : Cells) → Down a cs → keep b cs ≡ drop_newer b cs
unfolding keep drop_newer
keep_is b no_cell d = refl
keep_is b (live c v cs) (down_live k d) =
    go (leb c b) refl (keep_is b cs d)
  where
    go : (x : Bool) → leb c b ≡ x → keep b cs ≡ drop_newer b cs → cond x (live c v (keep b cs)) (keep b cs) ≡ cond x (live c v cs) (drop_newer b cs)
    go true e r = ap (live c v) (all_stay b cs (omega (arith, leb-true c b e)) d)
    go false e r = r

abbrev pub Ordered : State → Type 0
Ordered s = Down (suc s.births) s.cells

pub ordered_closed : Closed Ordered
ordered_closed = record {
  use_unit = λ s u e h. h;
  bear = λ s v k h. let m : suc s.births < suc (suc s.births) = omega arith in down_live m h;
  write = λ s b v h. down_store b v s.cells h;
  free = λ s b h. down_keep b s.cells h;
  print = λ s r n e k h. h;
}

-- so they stand at every end of a node that began so, as a run does
pub stay_ordered : (fs : Scope Fun) (d : ℕ) (e : Exp) (env : Env) (s : State) → Ordered s → Keeps Ordered (λ _. Unit {0}) (eval fs d e env s)
stay_ordered fs d e env s h = keeps_any Ordered ordered_closed fs d e env s h
