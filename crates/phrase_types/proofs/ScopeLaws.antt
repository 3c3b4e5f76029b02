-- What is found by a name's number is what the written scopes have under the name.
use mathlib.Core.Bool.{Bool, true, false, cond}
use mathlib.Core.List.{List, [], ◌∷◌}
use mathlib.Core.Option.{Option, none, some}
use mathlib.Core.Path.{◌≡◌, refl, sym, subst}
use Rattle.std.specs.Prelude as P
use Prim.Native.Nat.{ℕ, ◌≤◌, ◌<◌}
use native.Mathlib.Decide.{ℕ_discrete}
use native.Mathlib.Omega.{arith}
use lib.ListN.{length}
use Rattle.language.specs.Sizes.{TOKENS}
use Rattle.language.specs.Tokens.{Token, same}
use Rattle.language.specs.Trees.{Name, Ty, int, Def, Scope, nearest, PUTCHAR}
use Rattle.language.specs.Types.{Sig, sig}
use Rattle.language.specs.Faults.{no_binding}
use Rattle.language.specs.Meaning.{type_number}
use Rattle.language.proofs.Executable.Checks.{told}
use Rattle.layout.specs.Table.{function_row, variable_type}
use Rattle.layout.specs.Names.{Stand, Named}
use Rattle.layout.specs.Functions.{Headed, find_function}
use Rattle.layout.specs.Decode.{FunctionAt}
use Rattle.layout.proofs.NameLaws.{named_same, putchar_number}
use Rattle.layout.proofs.FunctionLaws.{function_named, function_headed}
use Rattle.rules.specs.Sight.{Variables, variables_none, variables_more, find_variable, Functions}
use Rattle.rules.specs.Sight.{functions_given, functions_more, InSight, callee_by, callee_in, Means, Rowed}
use Rattle.rules.specs.Asked.{Tells, tells_type, tells_fault}
use Rattle.phrase_types.specs.Inferred.{looked}
use Rattle.rules.specs.declared.sight.Callee.{Callee}

-- ---- variables

-- one step of both searches
look_step : (b : Bool) (n : ℕ) (t : Ty) (i : ℕ) (o : P.Option ℕ) (q : Option Ty) → n ≡ type_number t
    → Tells (looked o i) (told q no_binding i)
    → Tells (looked (cond b (P.Some n) o) i) (told (cond b (some t) q) no_binding i)
unfolding told
look_step true n t i o q e h = tells_type e
look_step false n t i o q e h = h

module _ {ts : List Token} (few : length ts ≤ TOKENS) {w : List ℕ} {x : ℕ} {y : Name} (called : Named ts x y) (i : ℕ) where
  -- a name's answer is the nearest variable's type, or that there is none
  pub look_tells : {n : ℕ} {Γ : Scope Ty} → Variables ts w n Γ → Tells (looked (find_variable w x n) i) (told (nearest y Γ) no_binding i)
  unfolding find_variable nearest told
  look_tells variables_none = tells_fault refl
  look_tells (variables_more {n = n} {x = z} {t = t} e a k r) =
      rw (e, named_same few called a) (look_step (same y z) (variable_type w n) t i _ _ k (look_tells r))

-- ---- functions

module _ {ts : List Token} {f : ℕ} {w : List ℕ} {count : ℕ} (stand : Stand w count ts) where
  -- every function in sight has a row, and its name is a token
  headed : {n : ℕ} {Δ : Scope Sig} → n ≤ TOKENS → Functions f ts w n Δ → (k : ℕ) → k < n → Headed w k
  headed l functions_given k h = absurd (omega arith)
  headed l (functions_more {n = n} e a r) k h = go (ℕ_discrete k n) λ m. headed (omega arith) r k m
    where
      go : Dec (k ≡ n) → (k < n → Headed w k) → Headed w k
      go (yes q) ih = subst (λ (j : ℕ). Headed w j) (sym q) (function_headed stand n a (omega arith))
      go (no q) ih = ih (omega arith)

means_step : {f : ℕ} {ts : List Token} {w : List ℕ} (x : ℕ) (b : Bool) (r : ℕ) (d : Def) (c : P.Option ℕ) (o : Option Sig) → FunctionAt f ts w r d
    → Means f ts w (callee_by x c) o
    → Means f ts w (callee_by x (cond b (P.Some r) c)) (cond b (some (sig d)) o)
means_step x true r d c o a h = (d, a, refl)
means_step x false r d c o a h = h

means_given : (f : ℕ) (ts : List Token) (w : List ℕ) (b : Bool)
    → Means f ts w (cond b Callee.Putchar Callee.Nobody) (cond b (some record { takes = int ∷ []; gives = int }) none)
means_given f ts w true = refl
means_given f ts w false = refl

-- tokens are few enough for their numbers
pub stand_few : {ts : List Token} {w : List ℕ} {count : ℕ} → Stand w count ts → length ts ≤ TOKENS
stand_few stand = omega (arith, stand.long, stand.few)

module _ {ts : List Token} {f : ℕ} {w : List ℕ} {count : ℕ} (stand : Stand w count ts) {x : ℕ} {y : Name} (called : Named ts x y) where
  -- whom a call means is what is nearest under its name
  callee_functions : {n : ℕ} {Δ : Scope Sig} → Functions f ts w n Δ → Means f ts w (callee_in w x n) (nearest y Δ)
  unfolding callee_in find_function nearest
  callee_functions functions_given = rw (putchar_number (stand_few stand) called) (means_given f ts w (same y PUTCHAR))
  callee_functions (functions_more {n = n} {d = d} e a r) =
      rw (e, named_same (stand_few stand) called (function_named stand a)) (means_step x (same y d.called) (function_row w n) d _ _ a
      (callee_functions r))

-- a callee that is in sight has rows for all its parameters
means_rowed : (f : ℕ) (ts : List Token) (w : List ℕ) (c : Callee) (o : Option Sig) → Means f ts w c o → Rowed w c
means_rowed f ts w (Callee.Function r) o (d, a, e) = omega (arith, a.count, a.last_param)
means_rowed f ts w Callee.Putchar o h = tt
means_rowed f ts w Callee.Nobody o h = tt

module _ {ts : List Token} {f : ℕ} {w : List ℕ} {seen : ℕ} {Δ : Scope Sig} (sight : InSight ts f w seen Δ) where
  -- the heads of all functions in sight
  pub sight_headed : (k : ℕ) → k < seen → Headed w k
  sight_headed = headed sight.stand (omega (arith, sight.few, sight.stand.few)) sight.functions

  -- the tokens are few enough
  pub sight_few : length ts ≤ TOKENS
  sight_few = stand_few sight.stand

  -- a call's callee is what is nearest under its name
  pub callee_means : {x : ℕ} {y : Name} → Named ts x y → Means f ts w (callee_in w x seen) (nearest y Δ)
  callee_means h = callee_functions sight.stand h sight.functions

  -- and has rows for its parameters
  pub callee_rowed : {x : ℕ} {y : Name} → Named ts x y → Rowed w (callee_in w x seen)
  callee_rowed {x} {y} h = means_rowed f ts w (callee_in w x seen) (nearest y Δ) (callee_means h)
