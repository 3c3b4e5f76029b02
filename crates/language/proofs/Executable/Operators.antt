-- The operators' types, computed, and that they are those of the rules.
use mathlib.Core.Path.{◌≡◌, refl, ap}
use mathlib.Core.Option.{Option, none, some}
use Prim.Native.Nat.{◌<◌}
use native.Mathlib.Decide.{dec_lt}
use Rattle.language.specs.Sizes.{Sizes, BOX}
use Rattle.language.specs.Trees.{Ty, int, bool, unit, float, ref, refs, TyDiscrete, Unary, minus, not}
use Rattle.language.specs.Trees.{fetch, new, Binary, add, sub, mul, div, less, equal, and, or, assign}
use Rattle.language.specs.Types.{UnopTypeUnder, u_minus, u_not, u_fetch, u_new, Arithmetic, of_int, of_float}
use Rattle.language.specs.Types.{BinopType, b_add, b_sub, b_mul, b_div, b_less, b_equal, b_and, b_or, b_assign}

-- t if the statement holds
unfoldable pub if_yes : {A : Type 0} → Dec A → Ty → Option Ty
if_yes (yes p) t = some t
if_yes (no p) t = none

-- the option is the one type of which P holds
pub data Decides (P : Ty → Type 0) : Option Ty → Type 0 where
  finds : {t : Ty} → P t → ((u : Ty) → P u → t ≡ u) → Decides P (some t)
  lacks : ((t : Ty) → P t → ⊥) → Decides P none

pub decides_some : {P : Ty → Type 0} {t : Ty} → Decides P (some t) → P t
decides_some (finds p q) = p

pub decides_none : {P : Ty → Type 0} → Decides P none → (t : Ty) → P t → ⊥
decides_none (lacks q) = q

pub decided : {P : Ty → Type 0} {x : Option Ty} (t : Ty) → Decides P x → P t → x ≡ some t
decided t (finds p q) h = ap some (q t h)
decided t (lacks q) h = absurd (q t h)

pub undecided : {P : Ty → Type 0} {x : Option Ty} → Decides P x → ((t : Ty) → P t → ⊥) → x ≡ none
undecided (finds {t} p q) h = absurd (h t p)
undecided (lacks q) h = refl

decides_if : {A : Type 0} {P : Ty → Type 0} (d : Dec A) (t : Ty) → (A → P t) → ((u : Ty) → P u → t ≡ u) → ((u : Ty) → P u → A) → Decides P (if_yes d t)
unfolding if_yes
decides_if (yes p) t f g h = finds (f p) g
decides_if (no p) t f g h = lacks λ u q. p (h u q)

unfoldable pub unop_under : Sizes → Unary → Ty → Option Ty
unop_under σ minus t = if_yes (TyDiscrete t int) int
unop_under σ not t = if_yes (TyDiscrete t bool) bool
unop_under σ fetch int = none
unop_under σ fetch bool = none
unop_under σ fetch unit = none
unop_under σ fetch float = none
unop_under σ fetch (ref t) = some t
unop_under σ new t = if_yes (dec_lt (refs t) σ.refs) (ref t)

-- under the box's sizes; whoever unfolds it unfolds the other
unfoldable abbrev pub unop : Unary → Ty → Option Ty
unfolding unop_under
unop o t = unop_under BOX o t

abbrev pub IsArithmetic : Ty → Type 0
IsArithmetic int = Unit {0}
IsArithmetic bool = ⊥
IsArithmetic unit = ⊥
IsArithmetic float = Unit {0}
IsArithmetic (ref t) = ⊥

pub is_arithmetic : {t : Ty} → Arithmetic t → IsArithmetic t
is_arithmetic of_int = tt
is_arithmetic of_float = tt

unfoldable pub arithmetic : (t : Ty) → Dec (Arithmetic t)
arithmetic int = yes of_int
arithmetic bool = no λ a. is_arithmetic a
arithmetic unit = no λ a. is_arithmetic a
arithmetic float = yes of_float
arithmetic (ref t) = no λ a. is_arithmetic a

unfoldable pub both : {A B : Type 0} → Dec A → Dec B → Ty → Option Ty
both (yes p) e t = if_yes e t
both (no p) e t = none

decides_both : {A B : Type 0} {P : Ty → Type 0} (d : Dec A) (e : Dec B) (t : Ty)
    → (A → B → P t) → ((u : Ty) → P u → A × B × (t ≡ u)) → Decides P (both d e t)
unfolding both if_yes
decides_both (yes p) (yes q) t f g = finds (f p q) λ u r. (g u r).2
decides_both (yes p) (no q) t f g = lacks λ u r. q (g u r).1
decides_both (no p) e t f g = lacks λ u r. p (g u r).0

unfoldable pub binop : Binary → Ty → Ty → Option Ty
binop add t u = both (arithmetic t) (TyDiscrete u t) t
binop sub t u = both (arithmetic t) (TyDiscrete u t) t
binop mul t u = both (arithmetic t) (TyDiscrete u t) t
binop div t u = both (arithmetic t) (TyDiscrete u t) t
binop less t u = both (arithmetic t) (TyDiscrete u t) bool
binop equal t u = both (TyDiscrete t int) (TyDiscrete u int) bool
binop and t u = both (TyDiscrete t bool) (TyDiscrete u bool) bool
binop or t u = both (TyDiscrete t bool) (TyDiscrete u bool) bool
binop assign int u = none
binop assign bool u = none
binop assign unit u = none
binop assign float u = none
binop assign (ref t) u = if_yes (TyDiscrete t u) unit

-- what the rules say of each operator
abbrev Unop : Sizes → Unary → Ty → Ty → Type 0
Unop σ minus t u = (t ≡ int) × (int ≡ u)
Unop σ not t u = (t ≡ bool) × (bool ≡ u)
Unop σ fetch t u = t ≡ ref u
Unop σ new t u = (refs t < σ.refs) × (ref t ≡ u)

unop_form : {σ : Sizes} {o : Unary} {t u : Ty} → UnopTypeUnder σ o t u → Unop σ o t u
unop_form u_minus = (refl, refl)
unop_form u_not = (refl, refl)
unop_form u_fetch = refl
unop_form (u_new h) = (h, refl)

abbrev Binop : Binary → Ty → Ty → Ty → Type 0
Binop add t u v = Arithmetic t × (u ≡ t) × (t ≡ v)
Binop sub t u v = Arithmetic t × (u ≡ t) × (t ≡ v)
Binop mul t u v = Arithmetic t × (u ≡ t) × (t ≡ v)
Binop div t u v = Arithmetic t × (u ≡ t) × (t ≡ v)
Binop less t u v = Arithmetic t × (u ≡ t) × (bool ≡ v)
Binop equal t u v = (t ≡ int) × (u ≡ int) × (bool ≡ v)
Binop and t u v = (t ≡ bool) × (u ≡ bool) × (bool ≡ v)
Binop or t u v = (t ≡ bool) × (u ≡ bool) × (bool ≡ v)
Binop assign t u v = (t ≡ ref u) × (unit ≡ v)

binop_form : {o : Binary} {t u v : Ty} → BinopType o t u v → Binop o t u v
binop_form (b_add a) = (a, refl, refl)
binop_form (b_sub a) = (a, refl, refl)
binop_form (b_mul a) = (a, refl, refl)
binop_form (b_div a) = (a, refl, refl)
binop_form (b_less a) = (a, refl, refl)
binop_form b_equal = (refl, refl, refl)
binop_form b_and = (refl, refl, refl)
binop_form b_or = (refl, refl, refl)
binop_form b_assign = (refl, refl)

abbrev IsRef : Ty → Type 0
IsRef int = ⊥
IsRef bool = ⊥
IsRef unit = ⊥
IsRef float = ⊥
IsRef (ref t) = Unit {0}

fetches : {σ : Sizes} {t u : Ty} → UnopTypeUnder σ fetch t u → IsRef t
fetches u_fetch = tt

assigns : {t u v : Ty} → BinopType assign t u v → IsRef t
assigns b_assign = tt

fetched : {σ : Sizes} {t u : Ty} → UnopTypeUnder σ fetch (ref t) u → t ≡ u
fetched u_fetch = refl

assigned : {t u v : Ty} → BinopType assign (ref t) u v → (t ≡ u) × (unit ≡ v)
assigned b_assign = (refl, refl)

pub unop_is : {σ : Sizes} (o : Unary) (t : Ty) → Decides (UnopTypeUnder σ o t) (unop_under σ o t)
unfolding unop_under
unop_is minus t = decides_if (TyDiscrete t int) int (λ p. rw p u_minus) (λ u q. (unop_form q).1) (λ u q. (unop_form q).0)
unop_is not t = decides_if (TyDiscrete t bool) bool (λ p. rw p u_not) (λ u q. (unop_form q).1) (λ u q. (unop_form q).0)
unop_is fetch int = lacks λ u q. fetches q
unop_is fetch bool = lacks λ u q. fetches q
unop_is fetch unit = lacks λ u q. fetches q
unop_is fetch float = lacks λ u q. fetches q
unop_is fetch (ref t) = finds u_fetch λ u q. fetched q
unop_is {σ} new t = decides_if (dec_lt (refs t) σ.refs) (ref t) (λ p. u_new p) (λ u q. (unop_form q).1) (λ u q. (unop_form q).0)

pub binop_is : (o : Binary) (t u : Ty) → Decides (BinopType o t u) (binop o t u)
unfolding binop
binop_is add t u = decides_both (arithmetic t) (TyDiscrete u t) t (λ p q. rw q (b_add p)) λ v q. binop_form q
binop_is sub t u = decides_both (arithmetic t) (TyDiscrete u t) t (λ p q. rw q (b_sub p)) λ v q. binop_form q
binop_is mul t u = decides_both (arithmetic t) (TyDiscrete u t) t (λ p q. rw q (b_mul p)) λ v q. binop_form q
binop_is div t u = decides_both (arithmetic t) (TyDiscrete u t) t (λ p q. rw q (b_div p)) λ v q. binop_form q
binop_is less t u = decides_both (arithmetic t) (TyDiscrete u t) bool (λ p q. rw q (b_less p)) λ v q. binop_form q
binop_is equal t u = decides_both (TyDiscrete t int) (TyDiscrete u int) bool (λ p q. rw (p, q) b_equal) λ v q. binop_form q
binop_is and t u = decides_both (TyDiscrete t bool) (TyDiscrete u bool) bool (λ p q. rw (p, q) b_and) λ v q. binop_form q
binop_is or t u = decides_both (TyDiscrete t bool) (TyDiscrete u bool) bool (λ p q. rw (p, q) b_or) λ v q. binop_form q
binop_is assign int u = lacks λ v q. assigns q
binop_is assign bool u = lacks λ v q. assigns q
binop_is assign unit u = lacks λ v q. assigns q
binop_is assign float u = lacks λ v q. assigns q
binop_is assign (ref t) u = decides_if (TyDiscrete t u) unit (λ p. rw p b_assign) (λ v q. (assigned q).1) (λ v q. (assigned q).0)
