-- The pay profile (R10): sheets that must finish, how many units they can use at most, both over trees, and what
-- profile answers for everything that it can be lent.
use Rattle.std.specs.Prelude.{Bool, false, cond, List, [], ◌∷◌, ◌≡◌, ℕ, ◌+◌, ◌≤◌, ◌<◌, max, length}
use Rattle.std.proofs.Math.Option.{Option, none, some}
use Rattle.language.specs.Sizes.{Sizes, BOX, PAY_COUNT}
use Rattle.language.specs.Tokens.{Token, same}
use Rattle.language.specs.Trees.{Name, Exp, name, literal, unary, binary, follow, group}
use Rattle.language.specs.Trees.{block, call, bind, branch, loop, Exps, last, more, Def}
use Rattle.language.specs.Trees.{Ty, Program, Scope, empty, push, nearest, PUTCHAR, counted}
use Rattle.language.specs.Meaning.{type_number}
use Rattle.language.specs.Numbers.{Refusal, short_memory, endless_node, many_units, Told, passed, refused}
use Rattle.language.specs.Answers.{Origin, PassesUnder, RefusedUnder, left}

-- ---- what a pay sheet may not have

-- the first of two, if there is one
unfoldable pub or_else : Option ℕ → Option ℕ → Option ℕ
or_else none y = y
or_else (some i) y = some i

-- The first node of a tree, children before their node, that is a `while`, a `for` (R12.13) or a call of the function
-- itself, by its token. `self` says whether a name is that function's.
module _ (self : Name → Bool) where
  unfoldable mutual
    pub endless : Exp → Option ℕ
    endless (name i x) = none
    endless (literal i l) = none
    endless (unary i o e) = endless e
    endless (binary i o e f) = or_else (endless e) (endless f)
    endless (follow i e f) = or_else (endless e) (endless f)
    endless (group i e) = endless e
    endless (block i e) = endless e
    endless (call i f es) = or_else (any_endless es) (cond (self f) (some i) none)
    endless (bind i x e f) = or_else (endless e) (endless f)
    endless (branch i c e f) = or_else (endless c) (or_else (endless e) (endless f))
    endless (loop i c e) = or_else (endless c) (or_else (endless e) (some i))
    endless (counted i x b es e) = or_else (any_endless es) (or_else (endless e) (some i))

    pub any_endless : Exps → Option ℕ
    any_endless last = none
    any_endless (more e es) = or_else (endless e) (any_endless es)

-- functions in order, those too that nobody calls, then the last expression, which is no function
unfoldable pub endless_from : List Def → Exp → Option ℕ
endless_from [] e = endless (λ _. false) e
endless_from (d ∷ ds) e = or_else (endless (λ f. same f d.called) d.body) (endless_from ds e)

abbrev pub first_endless : Program → Option ℕ
first_endless p = endless_from p.defs p.main

-- ---- how many units at most

abbrev pub or_zero : Option ℕ → ℕ
or_zero none = 0
or_zero (some n) = n

-- one for a node, and its children: of the branches of an `if` the dearer one, and for a call the callee's body, which
-- `costs` has
module _ (costs : Scope ℕ) where
  unfoldable mutual
    pub cost : Exp → ℕ
    cost (name i x) = 1
    cost (literal i l) = 1
    cost (unary i o e) = 1 + cost e
    cost (binary i o e f) = 1 + cost e + cost f
    cost (follow i e f) = 1 + cost e + cost f
    cost (group i e) = 1 + cost e
    cost (block i e) = 1 + cost e
    cost (call i f es) = 1 + all_cost es + or_zero (nearest f costs)
    cost (bind i x e f) = 1 + cost e + cost f
    cost (branch i c e f) = 1 + cost c + max (cost e) (cost f)
    cost (loop i c e) = 1 + cost c + cost e
    cost (counted i x b es e) = 1 + all_cost es + cost e

    pub all_cost : Exps → ℕ
    all_cost last = 0
    all_cost (more e es) = cost e + all_cost es

-- what the body of each function costs; `putchar` has none
unfoldable pub body_costs : List Def → Scope ℕ → Scope ℕ
body_costs [] costs = costs
body_costs (d ∷ ds) costs = body_costs ds (push d.called (cost costs d.body) costs)

unfoldable pub units_most : Program → ℕ
units_most p = cost (body_costs p.defs (push PUTCHAR 0 empty)) p.main

-- ---- profile (R10.5)

-- the last is the count of units
pub record ProfileReport (P : Type 0) : Type 0 where
  pub told : Told
  pub place : P
  pub type : ℕ
  pub count : ℕ

abbrev pub profile_report : {P : Type 0} → Told → P → ℕ → ℕ → ProfileReport P
profile_report a x t n = record { told = a; place = x; type = t; count = n }

module _ (σ : Sizes) {P : Type 0} (o : Origin P) where
  -- the report, for so many words of table memory
  pub data ProfiledUnder (table : ℕ) : ProfileReport P → Type 0 where
    profile_short : table < σ.table → ProfiledUnder table (profile_report (refused short_memory) o.nowhere 0 0)
    -- what does not pass is refused as it is by check
    profile_refused : {r : Refusal} {x : P} → σ.table ≤ table → RefusedUnder σ o r x
        → ProfiledUnder table (profile_report (refused r) x 0 0)
    profile_endless : {ts : List Token} {p : Program} {t : Ty} {i : ℕ}
        → σ.table ≤ table → PassesUnder σ o ts p t → first_endless p ≡ some i
        → ProfiledUnder table (profile_report (refused endless_node) (o.at ts i) 0 0)
    profile_many : {ts : List Token} {p : Program} {t : Ty}
        → σ.table ≤ table → PassesUnder σ o ts p t → first_endless p ≡ none → PAY_COUNT < units_most p
        → ProfiledUnder table (profile_report (refused many_units) o.nowhere 0 0)
    profile_passed : {ts : List Token} {p : Program} {t : Ty}
        → σ.table ≤ table → PassesUnder σ o ts p t → first_endless p ≡ none → units_most p ≤ PAY_COUNT
        → ProfiledUnder table (profile_report passed o.nowhere (type_number t) (units_most p))

  -- The contract of profile: its report, and the table memory as it is left.
  pub record ProfileUnder (table : List ℕ) (report : ProfileReport P) (table' : List ℕ) : Type 0 where
    pub answer : ProfiledUnder (length table) report
    pub table_left : table' ≡ left report.told σ.table table

-- under the box's sizes
abbrev pub Profiled : {P : Type 0} → Origin P → ℕ → ProfileReport P → Type 0
Profiled o = ProfiledUnder BOX o

abbrev pub Profile : {P : Type 0} → Origin P → List ℕ → ProfileReport P → List ℕ → Type 0
Profile o = ProfileUnder BOX o
