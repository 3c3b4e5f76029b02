-- What a node asks when its children are typed, and when an answer tells what the executable checker of the language
-- answers.
use Rattle.std.specs.Prelude as P
use Rattle.std.specs.Prelude.{Ok, Err, Bool, true, false, ◌&&◌, List, [], ◌∷◌, ◌≡◌, ℕ, suc, eqb, length}
use Rattle.std.proofs.Math.Option.{some}
use Rattle.std.proofs.Math.Decide.{ℕ_discrete}
use Rattle.language.specs.Tokens.{Token, NAME, LET}
use Rattle.language.specs.Trees.{Name, Ty, int, bool, unit, float, ref, TyDiscrete, Unary, fetch, new, Binary, add, sub}
use Rattle.language.specs.Trees.{mul, div, less, equal, and, or, assign, Exp, branch, call, counted, Exps}
use Rattle.language.specs.Trees.{Scope, push, nearest}
use Rattle.language.specs.Types.{Bounds, Sig}
use Rattle.language.specs.Faults as Faults
use Rattle.language.specs.Faults.{unsuited, wrong_operand, wrong_operands}
use Rattle.language.specs.Faults.{not_unit, not_bool, wrong_number, wrong_argument}
use Rattle.language.specs.Meaning.{type_number}
use Rattle.language.proofs.Executable.Checks.{Res, ok, bad, told, need}
use Rattle.language.proofs.Executable.Operators.{if_yes, unop, binop}
use Rattle.language.proofs.Executable.Checker.{same_types, infer, infers}
use Rattle.layout.specs.Rows.{CALL, unary_kind, binary_kind}
use Rattle.layout.specs.Decode.{Shape, shape_of, children, counts, build}
use Rattle.numbers.specs.Meanings.{reason_meant}
use Rattle.rules.specs.Sight.{Means, expected_in}
use Rattle.numbers.specs.declared.Located.{Located}
use Rattle.numbers.specs.declared.Reason.{Reason}
use Rattle.rules.specs.declared.sight.Callee.{Callee}
use Rattle.rules.specs.declared.sight.Taker.{Taker}

-- ---- answers

-- why there is no type, and the token that this is told at
abbrev pub Fault : Type 0
Fault = Located Reason ℕ

-- a type's number, or the fault that is told instead
abbrev pub Typing : Type 0
Typing = P.Result ℕ Fault

-- the code's answer tells what the written checker answers
pub data Tells : Typing → Res Ty → Type 0 where
  tells_type : {n : ℕ} {t : Ty} → n ≡ type_number t → Tells (Ok n) (ok t)
  tells_fault : {e : Fault} {q : Faults.Reason} → reason_meant e.why ≡ q → Tells (Err e) (bad q e.place)

-- the types ts are those that are wanted from expression k of a list on
unfoldable pub suits : List ℕ → Taker → ℕ → List Ty → Bool
suits w c k [] = true
suits w c k (t ∷ ts) = eqb (type_number t) (expected_in w c k) && suits w c (suc k) ts

-- ---- what a node asks when its children are typed

-- how many children, whatever the shape
abbrev pub Children : ℕ → ℕ → Type 0
Children kind n = (s : Shape) → shape_of kind ≡ some s → n ≡ children s

-- a constant's type
abbrev pub Constant : ℕ → ℕ → Type 0
Constant kind n =
    (ts : List Token) (s : Shape) (Δ : Scope Sig) (Γ : Scope Ty) (i : ℕ) (a b c : Exp) (es : Exps)
    → shape_of kind ≡ some s → children s ≡ 0 → (kind ≡ NAME → ⊥) → (kind ≡ CALL → ⊥) → (counts kind ≡ true → ⊥)
    → (t : Ty) × (infer Δ (build ts s i a b c es) Γ ≡ ok t) × (n ≡ type_number t)

-- the answer of a node with one child, whose type has the number n
abbrev pub AsksOne : ℕ → ℕ → ℕ → Typing → Type 0
AsksOne kind n i r =
    (ts : List Token) (s : Shape) (Δ : Scope Sig) (Γ : Scope Ty) (a b c : Exp) (es : Exps) (t : Ty)
    → shape_of kind ≡ some s → children s ≡ 1 → infer Δ a Γ ≡ ok t → n ≡ type_number t
    → Tells r (infer Δ (build ts s i a b c es) Γ)

-- with two children; a `let`, whose second child sees more, is not among these
abbrev pub AsksTwo : ℕ → ℕ → ℕ → ℕ → Typing → Type 0
AsksTwo kind m n i r =
    (ts : List Token) (s : Shape) (Δ : Scope Sig) (Γ : Scope Ty) (a b c : Exp) (es : Exps) (t u : Ty)
    → shape_of kind ≡ some s → children s ≡ 2 → (kind ≡ LET → ⊥) → infer Δ a Γ ≡ ok t → m ≡ type_number t
    → infer Δ b Γ ≡ ok u
    → n ≡ type_number u
    → Tells r (infer Δ (build ts s i a b c es) Γ)

-- an operator's answer, once its operands' types are known
abbrev pub Prefixed : ℕ → ℕ → ℕ → Typing → Type 0
Prefixed kind n i r = (o : Unary) (t : Ty) → kind ≡ unary_kind o → n ≡ type_number t
    → Tells r (told (unop o t) (unsuited o) i)

-- between two operands
abbrev pub Between : ℕ → ℕ → ℕ → ℕ → Typing → Type 0
Between kind m n i r =
    (o : Binary) (t u : Ty) → kind ≡ binary_kind o → m ≡ type_number t → n ≡ type_number u
    → Tells r (told (binop o t u) wrong_operands i)

-- of a prefix operator that wants one type and gives it back
abbrev pub Alike : ℕ → ℕ → ℕ → Typing → Type 0
Alike m n i r = (t u : Ty) → m ≡ type_number t → n ≡ type_number u
    → Tells r (told (if_yes (TyDiscrete t u) u) wrong_operand i)

-- of `!`, and of `ref`
abbrev pub Fetched : ℕ → ℕ → Typing → Type 0
Fetched n i r = (t : Ty) → n ≡ type_number t → Tells r (told (unop fetch t) (unsuited fetch) i)

abbrev pub Referred : ℕ → ℕ → Typing → Type 0
Referred n i r = (t : Ty) → n ≡ type_number t → Tells r (told (unop new t) (unsuited new) i)

-- of `:=`
abbrev pub Assigns : ℕ → ℕ → ℕ → Typing → Type 0
Assigns m n i r = (t u : Ty) → m ≡ type_number t → n ≡ type_number u
    → Tells r (told (binop assign t u) wrong_operands i)

-- of `;`
abbrev pub Follows : ℕ → ℕ → ℕ → Typing → Type 0
Follows m n i r = (t u : Ty) → m ≡ type_number t → n ≡ type_number u
    → Tells r (need (TyDiscrete t unit) not_unit i λ _. ok u)

-- of `while`
abbrev pub Repeats : ℕ → ℕ → ℕ → Typing → Type 0
Repeats m n i r =
    (t u : Ty) → m ≡ type_number t → n ≡ type_number u
    → Tells r (need (TyDiscrete t bool) not_bool i λ _. need (TyDiscrete u unit) not_unit i λ _. ok unit)

-- the arithmetic type that t is (R08.4), and int where it is none
abbrev pub as_arithmetic : Ty → Ty
as_arithmetic int = int
as_arithmetic bool = int
as_arithmetic unit = int
as_arithmetic float = float
as_arithmetic (ref t) = int

-- the type that an operator wants of both operands, where the first is of type t, and that of its result; `:=`, which
-- wants two types, is kept out where these are used
abbrev pub operand : Binary → Ty → Ty
operand add t = as_arithmetic t
operand sub t = as_arithmetic t
operand mul t = as_arithmetic t
operand div t = as_arithmetic t
operand less t = as_arithmetic t
operand equal t = int
operand and t = bool
operand or t = bool
operand assign t = unit

-- the type of the result
abbrev pub result : Binary → Ty → Ty
result add t = t
result sub t = t
result mul t = t
result div t = t
result less t = bool
result equal t = bool
result and t = bool
result or t = bool
result assign t = unit

-- and these by the operator's kind and the number m of the first operand's type
abbrev pub Operand : ℕ → ℕ → ℕ → Type 0
Operand kind m n =
    (o : Binary) (t : Ty) → (o ≡ assign → ⊥) → kind ≡ binary_kind o → m ≡ type_number t
    → n ≡ type_number (operand o t)

abbrev pub Result : ℕ → ℕ → ℕ → Type 0
Result kind m n =
    (o : Binary) (t : Ty) → (o ≡ assign → ⊥) → kind ≡ binary_kind o → m ≡ type_number t
    → n ≡ type_number (result o t)

-- of an `if`, with the numbers of its condition's and its branches' types
abbrev pub AsksIf : ℕ → ℕ → ℕ → ℕ → Typing → Type 0
AsksIf k m n i r =
    (Δ : Scope Sig) (Γ : Scope Ty) (a b c : Exp) (v t u : Ty)
    → infer Δ a Γ ≡ ok v → k ≡ type_number v → infer Δ b Γ ≡ ok t → m ≡ type_number t → infer Δ c Γ ≡ ok u
    → n ≡ type_number u
    → Tells r (infer Δ (branch i a b c) Γ)

-- what a call answers of a function with such a signature, where the flag tells whether the arguments suit
abbrev pub Matches : ℕ → ℕ → ℕ → Bool → ℕ → Typing → Type 0
Matches a g n b i r =
    (s : Sig) (us : List Ty) → a ≡ length s.takes → g ≡ type_number s.gives → n ≡ length us
    → (length us ≡ length s.takes → (b ≡ true → us ≡ s.takes) × (b ≡ false → us ≡ s.takes → ⊥))
    → Tells r (need (ℕ_discrete (length us) (length s.takes)) wrong_number i λ _. need (same_types us
    s.takes) wrong_argument i λ _. ok s.gives)

-- of a call of c, which has so many arguments that suit or do not
abbrev pub AsksCall : List ℕ → Callee → ℕ → Bool → ℕ → Typing → Type 0
AsksCall w c n b i r =
    (ts : List Token) (f : ℕ) (Δ : Scope Sig) (Γ : Scope Ty) (x : Name) (es : Exps) (us : List Ty)
    → Means f ts w c (nearest x Δ) → infers Δ es Γ ≡ ok us → n ≡ length us → b ≡ suits w (Taker.Call c) 0 us
    → Tells r (infer Δ (call i x es) Γ)

-- whether the bounds of a `for` will do, which are so many, all of them ints or not
abbrev pub Bounded : ℕ → Bool → Bool → Type 0
Bounded n b r =
    (w : List ℕ) (us : List Ty) → n ≡ length us → b ≡ suits w Taker.For 0 us
    → (r ≡ true → Bounds us) × (r ≡ false → Bounds us → ⊥)

-- what a `for` answers of these, and of a body with the type's number m
abbrev pub AsksFor : ℕ → Bool → ℕ → ℕ → Typing → Type 0
AsksFor n b m i r =
    (w : List ℕ) (Δ : Scope Sig) (Γ : Scope Ty) (x : Name) (through : Bool) (es : Exps) (e : Exp)
    (us : List Ty) (t : Ty)
    → infers Δ es Γ ≡ ok us → n ≡ length us → b ≡ suits w Taker.For 0 us
    → infer Δ e (push x int Γ) ≡ ok t → m ≡ type_number t
    → Tells r (infer Δ (counted i x through es e) Γ)
