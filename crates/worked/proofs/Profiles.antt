-- Pay sheets and others, worked out by computation: a table, and one statement over the whole of it.
use mathlib.Core.List.{List, [], ◌∷◌, ◌++◌}
use mathlib.Core.Path.{◌≡◌, refl}
use Prim.Native.Nat.{ℕ}
use Prim.Native.String.{String}
use native.Mathlib.Decide.{dec_le, dec_lt, ℕ_discrete}
use native.Mathlib.Omega.{arith}
use Rattle.language.specs.Sizes.{TABLE}
use Rattle.language.specs.Tokens.{spell, same, spelled, entry, kind_at, value_at, spelling_at, place_at}
use Rattle.language.specs.Trees.{refs, size, nearest, own}
use Rattle.language.specs.Meaning.{type_number}
use Rattle.language.specs.Faults.{unsuited}
use Rattle.language.specs.Numbers.{number}
use Rattle.language.specs.Profile.{or_else, endless, endless_from, cost, body_costs, units_most, ProfileReport, Profiled}
use Rattle.language.specs.Edition.{edition, text_in}
use Rattle.language.proofs.Executable.Parses as Parses
use Rattle.language.proofs.Executable.Parser as Parser
use Rattle.language.proofs.Executable.Checks as Types
use Rattle.language.proofs.Executable.Operators.{arithmetic, unop, binop, if_yes, both}
use Rattle.language.proofs.Executable.Checker.{check, check_from, check_def, take_params, infer, literal_type, unbound, same_types, join}
use Rattle.language.proofs.Executable.Checker.{bounds, bounds_two, bounds_three}
use Rattle.language.proofs.Answers.Editions.{text_in_lawful}
use Rattle.language.proofs.Answers.Origins.{fate}
use Rattle.language.proofs.Profiles.OneProfile.{said, said_right, tells}

-- a report in numbers
pub record Figures : Type 0 where
  pub number : ℕ
  pub place : ℕ
  pub type : ℕ
  pub count : ℕ

abbrev pub figures : ProfileReport ℕ → Figures
figures r = record { number = number r.told; place = r.place; type = r.type; count = r.count }

pub record Example : Type 0 where
  pub edition : ℕ
  pub source : List ℕ
  pub report : Figures

abbrev pub example_in : ℕ → String → ℕ → ℕ → ℕ → ℕ → Example
example_in e s n i t c = record { edition = e; source = spell s; report = record { number = n; place = i; type = t; count = c } }

abbrev pub example : String → ℕ → ℕ → ℕ → ℕ → Example
example = example_in 1

-- source; number, place, type, count
abbrev pub examples : List Example
examples =
    example "1" 0 0 1 1
    ∷ example "putchar(65)" 0 0 1 2
    ∷ example "true&&false" 0 0 2 3
    -- the dearer branch (R10.3)
    ∷ example "if true then 1 else 1+1" 0 0 1 5
    ∷ example "if true then 1+1 else 1" 0 0 1 5
    -- a callee's body each time that it is called
    ∷ example "def f(x:int):int{x+x}f(f(1))" 0 0 1 11
    ∷ example "def f(x:int):int{x+x}1" 0 0 1 1
    -- children before their node, functions nobody calls, and 01's own refusals first (R10.2)
    ∷ example "while true{tt}" 43 0 0 0
    ∷ example "while true{while false{tt}}" 43 11 0 0
    ∷ example "def f():unit{while true{tt}}1" 43 13 0 0
    ∷ example "def f(x:int):int{f(f(x))}1" 43 19 0 0
    ∷ example "def f(x:int):int{x}def g():int{g()}while true{tt}" 43 31 0 0
    ∷ example "while true{tt};x" 35 15 0 0
    ∷ example "while" 20 5 0 0
    ∷ example_in 2 "for i in 0..3{tt}" 43 0 0 0
    ∷ example_in 3 "1" 42 0 0 0
    ∷ []

-- each function calls the one before it three times: the count is soon too large (R10.4)
abbrev functions : List ℕ
functions =
    spell "def a():int{1}def b():int{a()*a()*a()}def c():int{b()*b()*b()}def d():int{c()*c()*c()}def e():int{d()*d()*d()}"
    ++ (spell "def f():int{e()*e()*e()}def g():int{f()*f()*f()}def h():int{g()*g()*g()}def i():int{h()*h()*h()}"
    ++ spell "def j():int{i()*i()*i()}def k():int{j()*j()*j()}def l():int{k()*k()*k()}def m():int{l()*l()*l()}")

abbrev calling : String → ℕ → ℕ → ℕ → ℕ → Example
calling s n i t c = record { edition = 1; source = functions ++ spell s; report = record { number = n; place = i; type = t; count = c } }

abbrev pub tripling : List Example
tripling = calling "c()" 0 0 1 43 ∷ calling "l()" 0 0 1 885733 ∷ calling "m()" 45 0 0 0 ∷ []

-- this is what profile answers, with memory enough
abbrev pub Answered : Example → Type 0
Answered e = (r : ProfileReport ℕ) × (figures r ≡ e.report) × Profiled (text_in e.edition e.source) TABLE r

abbrev pub All : List Example → Type 0
All [] = Unit {0}
All (e ∷ es) = Answered e × All es

unfoldable worked : Example → ProfileReport ℕ
worked e = said (text_in_lawful e.edition e.source)

unfoldable worked_out : List Example → List Figures
unfolding worked said tells or_else endless endless_from cost body_costs units_most fate text_in_lawful edition dec_le dec_lt
    ℕ_discrete Parser.parse Parser.step Parses.then Parses.test Parses.look Parses.need kind_at value_at spelling_at place_at
    entry same spelled check check_from check_def take_params infer literal_type unbound same_types join bounds bounds_two
    bounds_three unop binop if_yes both nearest size refs Types.after Types.told Types.need type_number unsuited arithmetic own
worked_out [] = []
worked_out (e ∷ es) = figures (worked e) ∷ worked_out es

abbrev written_down : List Example → List Figures
written_down [] = []
written_down (e ∷ es) = e.report ∷ written_down es

first : {x y : Figures} {xs ys : List Figures} → (x ∷ xs) ≡ (y ∷ ys) → x ≡ y
first e = cc

later : {x y : Figures} {xs ys : List Figures} → (x ∷ xs) ≡ (y ∷ ys) → xs ≡ ys
later e = cc

-- where the two are the same, the table is right
by_computation : (es : List Example) → worked_out es ≡ written_down es → All es
unfolding worked_out worked
by_computation [] h = tt
by_computation (e ∷ es) h =
    ((worked e, first h, said_right (text_in_lawful e.edition e.source) TABLE (omega arith)), by_computation es (later h))

pub all_profiled : All examples
unfolding worked_out
all_profiled = by_computation examples refl

pub tripling_answered : All tripling
unfolding worked_out
tripling_answered = by_computation tripling refl
