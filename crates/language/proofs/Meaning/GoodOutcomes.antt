-- What a good outcome is, one that is not stuck and whose value is of the type; and that what the meaning does with values of
-- their types comes to one.
use mathlib.Core.Path.{◌≡◌, refl, ap, subst}
use mathlib.Core.Bool.{Bool, true, false}
use mathlib.Core.List.{List, [], ◌∷◌, map}
use mathlib.Core.Option.{Option, none, some}
use Prim.Native.Nat.{ℕ, zero, suc}
use native.Mathlib.Omega.{arith}
use lib.IntN.{ℤ, pos, negsuc}
use lib.Ieee as Ieee
use lib.Ieee.{Float, binary64}
use lib.Ieee.Fits.{add-fits, sub-fits, mul-fits, div-fits}
use lib.Dec.{T, leb}
use borrow.Author.Tests.{leb-true, le-leb}
use Rattle.language.specs.Sizes.{Sizes, BYTE}
use Rattle.language.specs.Trees.{Name, Ty, int, bool, unit, float, ref, Unary, Binary, Exp, Param, Scope, empty, push, nearest}
use Rattle.language.specs.Types.{Sig, of_int, of_float, UnopTypeUnder, u_minus, u_not, u_fetch, u_new, BinopType, b_add}
use Rattle.language.specs.Types.{b_sub, b_mul, b_div, b_less, b_equal, b_and, b_or, b_assign, TypedUnder}
use Rattle.language.specs.Types.{TakesUnder, takes_none, takes_more, Bounds, two, three}
use Rattle.language.specs.State.{Stop, Value, flag, State, Outcome, value, stop, then, as_int}
use Rattle.language.specs.State.{as_bool, as_unit, as_cell, choose, when_some, want, alike, only}
use Rattle.language.specs.Meaning.{Env, charge, begin, in_range, fit, create, apply_unary, quotient, apply_binary, settles}
use Rattle.language.specs.Meaning.{emit, put, Fun, putchar, defined, enter, with_bounds}
use Rattle.language.proofs.Grammar.OwnTokens.{Own, owns, All, everywhere}
use Rattle.language.proofs.Meaning.CellTypes.{Asked, Born, newest, Grows, stays, gains, grows_trans, Fits, fits_int, fits_float}
use Rattle.language.proofs.Meaning.CellTypes.{fits_bool, fits_unit, fits_ref, FitsAll, fits_none, fits_more, holds_live, EnvFits}
use Rattle.language.proofs.Meaning.CellTypes.{env_push, StateFits, store_holds, held_fits, fits_grows, holds_grows}

-- not stuck; a value is of the type t, under the cells born up to then
pub data Good (R : Asked) (Σ : List Ty) (t : Ty) : Outcome → Type 0 where
  good_value : {Σ' : List Ty} {v : Value} {s : State} → Grows Σ Σ' → StateFits R Σ' s → Fits R Σ' v t → Good R Σ t (value v s)
  good_stop : {w : Stop} {i : ℕ} {s : State} → Good R Σ t (stop w i s)

-- all numbers that are written are what is asked
abbrev pub Fair : Asked → List Own → Type 0
Fair R os = All (λ o. R.ints (pos o.worth) × R.floats o.fraction) os

-- g is a function of the kind that s tells
pub data FunFits (σ : Sizes) (R : Asked) (Δ : Scope Sig) : Fun → Sig → Type 0 where
  fun_putchar : FunFits σ R Δ putchar record { takes = int ∷ []; gives = int }
  fun_defined : {Γ : Scope Ty} {ps : List Param} {e : Exp} {ts : List Ty} {t : Ty}
      → TakesUnder σ empty ps Γ → ts ≡ map (λ (p : Param). p.type) ps → TypedUnder σ Δ Γ e t → Fair R (owns e)
      → FunFits σ R Δ (defined ps e) record { takes = ts; gives = t }

abbrev pub Ready : Sizes → Asked → Scope Sig → Scope Fun → Type 0
Ready σ R Δ fs = (f : Name) (s : Sig) → nearest f Δ ≡ some s → (g : Fun) × (nearest f fs ≡ some g) × FunFits σ R Δ g s

pub record Safe (σ : Sizes) (R : Asked) (Δ : Scope Sig) (go : Exp → Env → State → Outcome) : Type 0 where
  pub at : {Σ : List Ty} {Γ : Scope Ty} {e : Exp} {t : Ty} (env : Env) (s : State)
      → TypedUnder σ Δ Γ e t → Fair R (owns e) → EnvFits R Σ env Γ → StateFits R Σ s → Good R Σ t (go e env s)

-- every int within the range, and every float of 64 bits, is what is asked
pub record Wide (R : Asked) : Type 0 where
  pub ints : (z : ℤ) → in_range z ≡ true → R.ints z
  pub floats : (x : Float) → T (Ieee.fits binary64 x) → R.floats x

-- where nothing is asked
abbrev pub Any : Asked
Any = record { ints = λ _. Unit {0}; floats = λ _. Unit {0} }

pub any_wide : Wide Any
any_wide = record { ints = λ _ _. tt; floats = λ _ _. tt }

pub any_fair : (os : List Own) → Fair Any os
any_fair os = everywhere os λ _. (tt, tt)

module _ {R : Asked} (wide : Wide R) where
  lift : {Σ Σ' : List Ty} {t : Ty} {o : Outcome} → Grows Σ Σ' → Good R Σ' t o → Good R Σ t o
  lift g (good_value h p q) = good_value (grows_trans g h) p q
  lift g good_stop = good_stop

  pub good_then : {Σ : List Ty} {t u : Ty} {o : Outcome} (k : Value → State → Outcome) → Good R Σ t o
      → ((Σ' : List Ty) (v : Value) (s : State) → Grows Σ Σ' → StateFits R Σ' s → Fits R Σ' v t → Good R Σ' u (k v s)) → Good R Σ u (then o k)
  unfolding then
  good_then k (good_value {Σ'} {v} {s} g p q) f = lift g (f Σ' v s g p q)
  good_then k good_stop f = good_stop

  pub good_int : {Σ : List Ty} {u : Ty} {v : Value} (k : ℤ → Outcome) → Fits R Σ v int → ((z : ℤ) → Good R Σ u (k z)) → Good R Σ u (want (as_int v) k)
  unfolding when_some
  good_int k (fits_int {z} r) f = f z

  pub good_bool : {Σ : List Ty} {u : Ty} {v : Value} (k : Bool → Outcome) → Fits R Σ v bool
      → ((b : Bool) → v ≡ flag b → Good R Σ u (k b)) → Good R Σ u (want (as_bool v) k)
  unfolding when_some
  good_bool k (fits_bool {b}) f = f b refl

  pub good_unit : {Σ : List Ty} {u : Ty} {v : Value} (k : Unit {0} → Outcome) → Fits R Σ v unit → Good R Σ u (k tt) → Good R Σ u (want (as_unit v) k)
  unfolding when_some
  good_unit k fits_unit f = f

  good_cell : {Σ : List Ty} {t u : Ty} {v : Value} (k : ℕ → Outcome) → Fits R Σ v (ref t)
      → ((b : ℕ) → Born Σ b t → Good R Σ u (k b)) → Good R Σ u (want (as_cell v) k)
  unfolding when_some
  good_cell k (fits_ref {b} p) f = f b p

  good_ints : {Σ : List Ty} {u : Ty} {v w : Value} (f : ℤ → ℤ → Outcome) (g : Float → Float → Outcome) → Fits R Σ v int
      → Fits R Σ w int → ((x y : ℤ) → Good R Σ u (f x y)) → Good R Σ u (alike v w f g)
  unfolding alike when_some
  good_ints f g (fits_int {z = x} p) (fits_int {z = y} q) h = h x y

  good_floats : {Σ : List Ty} {u : Ty} {v w : Value} (f : ℤ → ℤ → Outcome) (g : Float → Float → Outcome) → Fits R Σ v float
      → Fits R Σ w float → ((x y : Float) → Good R Σ u (g x y)) → Good R Σ u (alike v w f g)
  unfolding alike when_some
  good_floats f g (fits_float {x = x} p) (fits_float {x = y} q) h = h x y

  pub good_choose : {Σ : List Ty} {u : Ty} (b : Bool) (x y : Unit {0} → Outcome) → (b ≡ true → Good R Σ u (x tt))
      → (b ≡ false → Good R Σ u (y tt)) → Good R Σ u (choose b x y)
  unfolding choose
  good_choose true x y f g = f refl
  good_choose false x y f g = g refl

  pub good_when : {A : Type 0} {Σ : List Ty} {u : Ty} (o : Option A) (f : A → Outcome) (x : Unit {0} → Outcome)
      → ((a : A) → o ≡ some a → Good R Σ u (f a)) → (o ≡ none → Good R Σ u (x tt)) → Good R Σ u (when_some o f x)
  unfolding when_some
  good_when none f x g h = h refl
  good_when (some a) f x g h = g a refl

  good_charge : {Σ : List Ty} {u : Ty} (n i : ℕ) (s : State) (k : State → Outcome) → StateFits R Σ s
      → ((s : State) → StateFits R Σ s → Good R Σ u (k s)) → Good R Σ u (charge n i s k)
  unfolding charge
  good_charge zero i s k p f = good_stop
  good_charge (suc n) i s k p f = f _ record { counted = p.counted; holds = p.holds }

  pub good_begin : {Σ : List Ty} {u : Ty} (i : ℕ) (s : State) (k : State → Outcome) → StateFits R Σ s
      → ((s : State) → StateFits R Σ s → Good R Σ u (k s)) → Good R Σ u (begin i s k)
  unfolding begin
  good_begin i s k p f = good_charge s.units i s k p f

  good_fit : {Σ : List Ty} (i : ℕ) (z : ℤ) (s : State) → StateFits R Σ s → Good R Σ int (fit i z s)
  unfolding fit
  good_fit i z s p = good_choose _ _ _ (λ e. good_value stays p (fits_int (wide.ints z e))) λ _. good_stop

  good_quotient : {Σ : List Ty} (i : ℕ) (x y : ℤ) (s : State) → StateFits R Σ s → Good R Σ int (quotient i x y s)
  unfolding quotient
  good_quotient i x y s p = good_choose _ _ _ (λ _. good_stop) λ _. good_fit i _ s p

  good_create : {Σ : List Ty} {t : Ty} (i : ℕ) (v : Value) (s : State) → StateFits R Σ s → Fits R Σ v t → Good R Σ (ref t) (create i v s)
  unfolding create
  good_create i v s p q =
      good_choose _ _ _
      (λ _. let b = newest (ap suc p.counted) in
      good_value (gains stays)
      record { counted = ap suc p.counted; holds = holds_live b (fits_grows (gains stays) q) (holds_grows (gains stays) p.holds) }
      (fits_ref b))
      λ _. good_stop

  pub unary_good : {σ : Sizes} {Σ : List Ty} {o : Unary} {t u : Ty} (i : ℕ) (v : Value) (s : State)
      → UnopTypeUnder σ o t u → StateFits R Σ s → Fits R Σ v t → Good R Σ u (apply_unary i o v s)
  unfolding apply_unary
  unary_good i v s u_minus p q = good_int _ q λ z. good_fit i _ s p
  unary_good i v s u_not p q = good_bool _ q λ b _. good_value stays p fits_bool
  unary_good {Σ} i v s (u_fetch {t}) p q =
      good_cell _ q λ b r. good_when _ _ _ (λ w e. good_value stays p (held_fits Σ b t w s.cells r p.holds e)) λ _. good_stop
  unary_good i v s (u_new h) p q = good_create i v s p q

  pub binary_good : {Σ : List Ty} {o : Binary} {t u r : Ty} (i : ℕ) (v w : Value) (s : State)
      → BinopType o t u r → StateFits R Σ s → Fits R Σ v t → Fits R Σ w u → Good R Σ r (apply_binary i o v w s)
  unfolding apply_binary
  binary_good i v w s (b_add of_int) p q r = good_ints _ _ q r λ x y. good_fit i _ s p
  binary_good i v w s (b_add of_float) p q r = good_floats _ _ q r λ x y. good_value stays p (fits_float (wide.floats _ (add-fits binary64 x y)))
  binary_good i v w s (b_sub of_int) p q r = good_ints _ _ q r λ x y. good_fit i _ s p
  binary_good i v w s (b_sub of_float) p q r = good_floats _ _ q r λ x y. good_value stays p (fits_float (wide.floats _ (sub-fits binary64 x y)))
  binary_good i v w s (b_mul of_int) p q r = good_ints _ _ q r λ x y. good_fit i _ s p
  binary_good i v w s (b_mul of_float) p q r = good_floats _ _ q r λ x y. good_value stays p (fits_float (wide.floats _ (mul-fits binary64 x y)))
  binary_good i v w s (b_div of_int) p q r = good_ints _ _ q r λ x y. good_quotient i x y s p
  binary_good i v w s (b_div of_float) p q r = good_floats _ _ q r λ x y. good_value stays p (fits_float (wide.floats _ (div-fits binary64 x y)))
  binary_good i v w s (b_less of_int) p q r = good_ints _ _ q r λ x y. good_value stays p fits_bool
  binary_good i v w s (b_less of_float) p q r = good_floats _ _ q r λ x y. good_value stays p fits_bool
  binary_good i v w s b_equal p q r = good_int _ q λ x. good_int _ r λ y. good_value stays p fits_bool
  binary_good i v w s b_and p q r = good_bool _ q λ x _. good_bool _ r λ y _. good_value stays p fits_bool
  binary_good i v w s b_or p q r = good_bool _ q λ x _. good_bool _ r λ y _. good_value stays p fits_bool
  binary_good {Σ} i v w s (b_assign {t}) p q r =
      good_cell _ q λ b m.
      good_when _ _ _
      (λ _ e. good_value stays record { counted = p.counted; holds = store_holds Σ b t w s.cells m r p.holds } fits_unit)
      λ _. good_stop

  abbrev IsFalse : Bool → Type 0
  IsFalse false = Unit {0}
  IsFalse true = ⊥

  false_true : false ≡ true → ⊥
  false_true e = subst IsFalse e tt

  -- where the left side settles it, its value is the result
  pub settled : {Σ : List Ty} {o : Binary} {t u r : Ty} {v : Value} → BinopType o t u r → settles o v ≡ true → Fits R Σ v t → Fits R Σ v r
  unfolding settles
  settled (b_add a) e p = absurd (false_true e)
  settled (b_sub a) e p = absurd (false_true e)
  settled (b_mul a) e p = absurd (false_true e)
  settled (b_div a) e p = absurd (false_true e)
  settled (b_less a) e p = absurd (false_true e)
  settled b_equal e p = absurd (false_true e)
  settled b_and e p = p
  settled b_or e p = p
  settled b_assign e p = absurd (false_true e)

  good_emit : {Σ : List Ty} (r i n : ℕ) (s : State) → R.ints (pos n) → StateFits R Σ s → Good R Σ int (emit r i n s)
  unfolding emit
  good_emit zero i n s q p = good_stop
  good_emit (suc r) i n s q p = good_value stays record { counted = p.counted; holds = p.holds } (fits_int q)

  -- a byte is in the range
  byte_wide : (n : ℕ) → leb n BYTE ≡ true → R.ints (pos n)
  unfolding in_range
  byte_wide n e = wide.ints (pos n) (le-leb n _ (omega (arith, leb-true n BYTE e)))

  pub good_put : {Σ : List Ty} (i : ℕ) (z : ℤ) (s : State) → StateFits R Σ s → Good R Σ int (put i z s)
  unfolding put
  good_put i (pos n) s p = good_choose _ _ _ (λ e. good_emit s.room i n s (byte_wide n e) p) λ _. good_stop
  good_put i (negsuc n) s p = good_stop

  pub good_one : {Σ : List Ty} {t u : Ty} {vs : List Value} (k : Value → Outcome) → FitsAll R Σ vs (t ∷ [])
      → ((v : Value) → Fits R Σ v t → Good R Σ u (k v)) → Good R Σ u (want (only vs) k)
  unfolding when_some only
  good_one k (fits_more {v = v} p fits_none) f = f v p

  pub good_bounds : {Σ : List Ty} {u : Ty} {vs : List Value} {ts : List Ty} → Bounds ts → (k : ℤ → ℤ → ℤ → Outcome) → FitsAll R Σ vs ts
      → ((x y z : ℤ) → R.ints x → Good R Σ u (k x y z)) → Good R Σ u (with_bounds vs k)
  unfolding with_bounds when_some
  good_bounds two k (fits_more (fits_int {z = x} p) (fits_more (fits_int {z = y} q) fits_none)) f = f x y _ p
  good_bounds three k (fits_more (fits_int {z = x} p) (fits_more (fits_int {z = y} q) (fits_more (fits_int {z = z} r) fits_none))) f = f x y z p

  pub good_enter : {σ : Sizes} {Σ : List Ty} {Γ Γ' : Scope Ty} {ps : List Param} {u : Ty} (vs : List Value) (env : Env) (k : Env → Outcome)
      → TakesUnder σ Γ ps Γ' → FitsAll R Σ vs (map (λ (p : Param). p.type) ps) → EnvFits R Σ env Γ
      → ((env : Env) → EnvFits R Σ env Γ' → Good R Σ u (k env)) → Good R Σ u (enter ps vs env k)
  unfolding enter
  good_enter vs env k takes_none fits_none h f = f env h
  good_enter vs env k (takes_more a b c q) (fits_more {v = v} {vs = ws} p r) h f = good_enter ws (push _ v env) k q r (env_push p h) f
