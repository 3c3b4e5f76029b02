-- What is told, carried through the meaning: each way of putting outcomes together keeps it.
use mathlib.Core.Path.{◌≡◌, sym, subst}
use mathlib.Core.Bool.{Bool, true, false}
use mathlib.Core.Option.{Option, none, some}
use Prim.Native.Nat.{ℕ}
use lib.Dec.{T}
use lib.Ieee.{Float}
use lib.IntN.{ℤ}
use Rattle.language.specs.State.{Value, as_int, as_float, as_bool, has, State, Stop, Outcome, value, stop, then, choose, when_some, want, alike}
use Rattle.machine.specs.Operands.{is_true}
use Rattle.machine.specs.Outcomes.{Tells, tells, anything}

-- the outcome is the meaning's
pub tells_same : {o m : Outcome} → o ≡ m → Tells o m
tells_same {o} e = subst (λ (x : Outcome). Tells o x) e tells

-- the meaning is another's
pub tells_by : {o m n : Outcome} → m ≡ n → Tells o n → Tells o m
tells_by {o} e h = subst (λ (x : Outcome). Tells o x) (sym e) h

-- ---- one after another

-- a stop stands
pub then_stop : {y : Stop} {i : ℕ} {s : State} {m : Outcome} (k : Value → State → Outcome) → Tells (stop y i s) m
    → Tells (stop y i s) (then m k)
unfolding then
then_stop k tells = tells
then_stop k anything = anything

-- a value goes on
pub then_value : {v : Value} {s : State} {m o : Outcome} (k : Value → State → Outcome) → Tells (value v s) m → Tells o (k v s)
    → Tells o (then m k)
unfolding then
then_value k tells h = h
then_value k anything h = anything

-- ---- one of two

-- the first
pub choose_true : {b : Bool} {o : Outcome} (x y : Unit {0} → Outcome) → b ≡ true → Tells o (x tt) → Tells o (choose b x y)
unfolding choose
choose_true x y e h = rw e h

-- the second
pub choose_false : {b : Bool} {o : Outcome} (x y : Unit {0} → Outcome) → b ≡ false → Tells o (y tt) → Tells o (choose b x y)
unfolding choose
choose_false x y e h = rw e h

-- the first, by a value that is true
pub bool_true : (v : Value) {o : Outcome} (x y : Unit {0} → Outcome) → is_true v ≡ true → Tells o (x tt)
    → Tells o (want (as_bool v) λ b. choose b x y)
unfolding when_some choose
bool_true v {o} x y e h = by (as_bool v) e
  where
    by : (b : Option Bool) → has b (λ b. b) ≡ true → Tells o (want b λ b. choose b x y)
    by none d = anything
    by (some true) d = h
    by (some false) d = absurd (subst T (sym d) tt)

-- the second, by one that is not
pub bool_false : (v : Value) {o : Outcome} (x y : Unit {0} → Outcome) → is_true v ≡ false → Tells o (y tt)
    → Tells o (want (as_bool v) λ b. choose b x y)
unfolding when_some choose
bool_false v {o} x y e h = by (as_bool v) e
  where
    by : (b : Option Bool) → has b (λ b. b) ≡ false → Tells o (want b λ b. choose b x y)
    by none d = anything
    by (some true) d = absurd (subst T d tt)
    by (some false) d = h

-- ---- what is looked for, and what is wanted

-- what was looked for is there
pub when_is : {A : Type 0} {x : Option A} {o : Outcome} (f : A → Outcome) (y : Unit {0} → Outcome) (a : A) → x ≡ some a → Tells o (f a)
    → Tells o (when_some x f y)
unfolding when_some
when_is f y a e h = rw e h

-- what was looked for is not
pub when_not : {A : Type 0} {x : Option A} {o : Outcome} (f : A → Outcome) (y : Unit {0} → Outcome) → none ≡ x → Tells o (y tt)
    → Tells o (when_some x f y)
unfolding when_some
when_not f y e h = rw (← e) h

-- what is wanted is there
pub want_some : {A : Type 0} (x : Option A) {a : A} {o : Outcome} (f : A → Outcome) → some a ≡ x → Tells o (f a) → Tells o (want x f)
want_some x {a} f e h = when_is f _ a (sym e) h

-- what is wanted is not
pub want_none : {A : Type 0} (x : Option A) {o : Outcome} (f : A → Outcome) → none ≡ x → Tells o (want x f)
unfolding when_some
want_none x f e = rw (← e) anything

-- what is told of every value of the kind is told of any value
pub want_any : {A : Type 0} (x : Option A) {o : Outcome} (f : A → Outcome) → ((a : A) → Tells o (f a)) → Tells o (want x f)
unfolding when_some
want_any none f h = anything
want_any (some a) f h = h a

-- ---- two that are not alike

module _ (v w : Value) {o : Outcome} (f : ℤ → ℤ → Outcome) (g : Float → Float → Outcome) where
  -- an int, and no int
  pub alike_int : {x : ℤ} → some x ≡ as_int v → none ≡ as_int w → Tells o (alike v w f g)
  unfolding alike
  alike_int d e = when_is _ _ _ (sym d) (want_none (as_int w) _ e)

  module _ (no : none ≡ as_int v) where
    -- a float, and no float
    pub alike_float : {x : Float} → some x ≡ as_float v → none ≡ as_float w → Tells o (alike v w f g)
    unfolding alike
    alike_float d e = when_not _ _ no (want_some (as_float v) _ d (want_none (as_float w) _ e))

    -- neither
    pub alike_neither : none ≡ as_float v → Tells o (alike v w f g)
    unfolding alike
    alike_neither e = when_not _ _ no (want_none (as_float v) _ e)
