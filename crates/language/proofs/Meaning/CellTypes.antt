-- The types of all cells ever born, the freed ones too, the newest first: what a value, the live cells and an environment are under them.
use mathlib.Core.Path.{◌≡◌, refl, sym, subst}
use mathlib.Core.Bool.{Bool, true, false, cond}
use mathlib.Core.List.{List, [], ◌∷◌}
use mathlib.Core.Option.{Option, none, some}
use Prim.Native.Nat.{ℕ, suc, ◌≤◌}
use native.Mathlib.Omega.{arith}
use lib.ListN.{length}
use lib.IntN.{ℤ}
use lib.Ieee.{Float}
use lib.Dec.{eqb, leb}
use borrow.Author.Tests.{eqb-true}
use Rattle.language.specs.Tokens.{same}
use Rattle.language.specs.Trees.{Name, Ty, int, bool, unit, float, ref, Scope, empty, push, nearest}
use Rattle.language.specs.State.{Value, number, flag, nothing, cell, Cells, no_cell, live, held, store, keep, State}
use Rattle.language.specs.Meaning.{Env}

pub cond_all {ℓ} : {A : Type 0} (P : A → Type ℓ) (b : Bool) {x y : A} → (b ≡ true → P x) → (b ≡ false → P y) → P (cond b x y)
cond_all P true f g = f refl
cond_all P false f g = g refl

abbrev IsNone : {A : Type 0} → Option A → Type 0
IsNone none = Unit {0}
IsNone (some a) = ⊥

pub none_some : {A : Type 0} {a : A} → ◌≡◌ {A = Option A} none (some a) → ⊥
none_some e = subst IsNone e tt

pub some_one : {A : Type 0} {a b : A} → ◌≡◌ {A = Option A} (some a) (some b) → a ≡ b
some_one e = cc

pub data Born : List Ty → ℕ → Ty → Type 0 where
  newest : {Σ : List Ty} {b : ℕ} {t : Ty} → b ≡ suc (length Σ) → Born (t ∷ Σ) b t
  older : {Σ : List Ty} {b : ℕ} {t u : Ty} → Born Σ b t → Born (u ∷ Σ) b t

pub data Grows : List Ty → List Ty → Type 0 where
  stays : {Σ : List Ty} → Grows Σ Σ
  gains : {Σ Σ' : List Ty} {t : Ty} → Grows Σ Σ' → Grows Σ (t ∷ Σ')

pub grows_trans : {A B C : List Ty} → Grows A B → Grows B C → Grows A C
grows_trans g stays = g
grows_trans g (gains h) = gains (grows_trans g h)

-- birth numbers begin with 1
pub born_first : {Σ : List Ty} {b : ℕ} {t : Ty} → Born Σ b t → 1 ≤ b
born_first (newest e) = omega arith
born_first (older p) = born_first p

-- and end with the newest
pub born_le : {Σ : List Ty} {b : ℕ} {t : Ty} → Born Σ b t → b ≤ length Σ
born_le (newest e) = omega arith
born_le (older p) = let h = born_le p in omega arith

pub born_one : {Σ : List Ty} {b : ℕ} {t u : Ty} → Born Σ b t → Born Σ b u → t ≡ u
born_one (newest e) (newest f) = refl
born_one (newest e) (older q) = let h = born_le q in absurd (omega arith)
born_one (older p) (newest f) = let h = born_le p in absurd (omega arith)
born_one (older p) (older q) = born_one p q

pub born_grows : {Σ Σ' : List Ty} {b : ℕ} {t : Ty} → Grows Σ Σ' → Born Σ b t → Born Σ' b t
born_grows stays p = p
born_grows (gains g) p = older (born_grows g p)

-- what is asked of every int, and of every float
pub record Asked : Type 1 where
  pub ints : ℤ → Type 0
  pub floats : Float → Type 0

module _ (R : Asked) (Σ : List Ty) where
  -- v is a value of the type t
  pub data Fits : Value → Ty → Type 0 where
    fits_int : {z : ℤ} → R.ints z → Fits (number z) int
    fits_float : {x : Float} → R.floats x → Fits (Value.float x) float
    fits_bool : {b : Bool} → Fits (flag b) bool
    fits_unit : Fits nothing unit
    fits_ref : {b : ℕ} {t : Ty} → Born Σ b t → Fits (cell b) (ref t)

  pub data FitsAll : List Value → List Ty → Type 0 where
    fits_none : FitsAll [] []
    fits_more : {v : Value} {t : Ty} {vs : List Value} {ts : List Ty} → Fits v t → FitsAll vs ts → FitsAll (v ∷ vs) (t ∷ ts)

  pub data Holds : Cells → Type 0 where
    holds_none : Holds no_cell
    holds_live : {b : ℕ} {v : Value} {t : Ty} {cs : Cells} → Born Σ b t → Fits v t → Holds cs → Holds (live b v cs)

  pub data EnvFits : Env → Scope Ty → Type 0 where
    env_empty : EnvFits empty empty
    env_push : {x : Name} {v : Value} {t : Ty} {env : Env} {Γ : Scope Ty} → Fits v t → EnvFits env Γ → EnvFits (push x v env) (push x t Γ)

  pub record StateFits (s : State) : Type 0 where
    pub counted : s.births ≡ length Σ
    pub holds : Holds s.cells

module _ {R : Asked} (Σ : List Ty) where
  pub keep_holds : (b : ℕ) (cs : Cells) → Holds R Σ cs → Holds R Σ (keep b cs)
  unfolding keep
  keep_holds b no_cell h = h
  keep_holds b (live c v cs) (holds_live p q h) =
      let r = keep_holds b cs h in cond_all (Holds R Σ) (leb c b) (λ _. holds_live p q r) λ _. r

  pub store_holds : (b : ℕ) (t : Ty) (w : Value) (cs : Cells) → Born Σ b t → Fits R Σ w t → Holds R Σ cs → Holds R Σ (store b w cs)
  unfolding store
  store_holds b t w no_cell p q h = h
  store_holds b t w (live c v cs) p q (holds_live r f h) =
      let k = store_holds b t w cs p q h in
      cond_all (Holds R Σ) (eqb b c) (λ e. holds_live (subst (λ n. Born Σ n t) (eqb-true b c e) p) q h) λ _. holds_live r f k

  pub held_fits : (b : ℕ) (t : Ty) (v : Value) (cs : Cells) → Born Σ b t → Holds R Σ cs → held b cs ≡ some v → Fits R Σ v t
  unfolding held
  held_fits b t v no_cell p h e = absurd (none_some e)
  held_fits b t v (live c w cs) p (holds_live {t = u} r f h) e =
      let k : held b cs ≡ some v → Fits R Σ v t = λ m. held_fits b t v cs p h m in
      cond_all (λ o. o ≡ some v → Fits R Σ v t) (eqb b c)
      (λ d m. subst (Fits R Σ v) (born_one (subst (λ n. Born Σ n u) (sym (eqb-true b c d)) r) p) (subst (λ x. Fits R Σ x u) (some_one m) f))
      (λ _. k) e

  pub env_find : {env : Env} {Γ : Scope Ty} (x : Name) (t : Ty) → EnvFits R Σ env Γ → nearest x Γ ≡ some t
      → (v : Value) × (nearest x env ≡ some v) × Fits R Σ v t
  unfolding nearest
  env_find x t env_empty e = absurd (none_some e)
  env_find x t (env_push {x = y} {v = v} {t = u} {env = env} {Γ = Γ} f h) e =
      go (same x y) e (λ m. env_find x t h m)
    where
      go : (b : Bool) → cond b (some u) (nearest x Γ) ≡ some t → (nearest x Γ ≡ some t → (v : Value) × (nearest x env ≡ some v) × Fits R Σ v t)
          → (w : Value) × (cond b (some v) (nearest x env) ≡ some w) × Fits R Σ w t
      go true e k = (v, refl, subst (Fits R Σ v) (some_one e) f)
      go false e k = k e

pub fits_grows : {R : Asked} {Σ Σ' : List Ty} {v : Value} {t : Ty} → Grows Σ Σ' → Fits R Σ v t → Fits R Σ' v t
fits_grows g (fits_int r) = fits_int r
fits_grows g (fits_float r) = fits_float r
fits_grows g fits_bool = fits_bool
fits_grows g fits_unit = fits_unit
fits_grows g (fits_ref p) = fits_ref (born_grows g p)

pub all_grows : {R : Asked} {Σ Σ' : List Ty} {vs : List Value} {ts : List Ty} → Grows Σ Σ' → FitsAll R Σ vs ts → FitsAll R Σ' vs ts
all_grows g fits_none = fits_none
all_grows g (fits_more p q) = fits_more (fits_grows g p) (all_grows g q)

pub env_grows : {R : Asked} {Σ Σ' : List Ty} {env : Env} {Γ : Scope Ty} → Grows Σ Σ' → EnvFits R Σ env Γ → EnvFits R Σ' env Γ
env_grows g env_empty = env_empty
env_grows g (env_push p q) = env_push (fits_grows g p) (env_grows g q)

pub holds_grows : {R : Asked} {Σ Σ' : List Ty} {cs : Cells} → Grows Σ Σ' → Holds R Σ cs → Holds R Σ' cs
holds_grows g holds_none = holds_none
holds_grows g (holds_live p q h) = holds_live (born_grows g p) (fits_grows g q) (holds_grows g h)
