-- What may be asked of a sheet that passes, without running it (R14.7): whether its last expression is a number alone,
-- and whether it has a function of a name that takes and gives values of some types, which are told by their numbers.
use Rattle.std.specs.Prelude.{Bool, true, false, ◌&&◌, ◌||◌, List, [], ◌∷◌, ◌≡◌, ℕ, ◌≤◌, ◌<◌, eqb, length}
use Rattle.language.specs.Sizes.{Sizes, BOX}
use Rattle.language.specs.Tokens.{Token, same}
use Rattle.language.specs.Trees.{Name, Ty, Literal, whole, truth, trivial, decimal, Exp, name, literal, unary}
use Rattle.language.specs.Trees.{binary, follow, group, block, call, bind, branch, loop, counted, Param}
use Rattle.language.specs.Trees.{Def, Program}
use Rattle.language.specs.Meaning.{type_number}
use Rattle.language.specs.Numbers.{Refusal, short_memory, Told, passed, refused}
use Rattle.language.specs.Answers.{Origin, PassesUnder, RefusedUnder, left}

abbrev pub is_whole : Literal → Bool
is_whole (whole n) = true
is_whole (truth b) = false
is_whole trivial = false
is_whole (decimal f) = false

unfoldable pub is_number : Exp → Bool
is_number (name i x) = false
is_number (literal i l) = is_whole l
is_number (unary i o e) = false
is_number (binary i o e f) = false
is_number (follow i e f) = false
is_number (group i e) = false
is_number (block i e) = false
is_number (call i f es) = false
is_number (bind i x e f) = false
is_number (branch i c e f) = false
is_number (loop i c e) = false
is_number (counted i x b es e) = false

-- a function that is wanted: its name, the types that it takes, and the one that it gives
pub record Wanted : Type 0 where
  pub called : Name
  pub takes : List ℕ
  pub gives : ℕ

unfoldable pub type_numbers : List Param → List ℕ
type_numbers [] = []
type_numbers (p ∷ ps) = type_number p.type ∷ type_numbers ps

unfoldable pub suits : Wanted → Def → Bool
suits w d =
    same d.called w.called
    && (same (type_numbers d.params) w.takes && eqb (type_number d.result) w.gives)

unfoldable pub has_function : Wanted → List Def → Bool
has_function w [] = false
has_function w (d ∷ ds) = suits w d || has_function w ds

-- what is told of a sheet: that it passed, or why it is refused; whether its last expression is a number alone, and
-- whether the function is there. Where a refusal has its place is told by check.
pub record OutlineReport : Type 0 where
  pub told : Told
  pub alone : Bool
  pub there : Bool

abbrev pub outline_refusal : Refusal → OutlineReport
outline_refusal r = record { told = refused r; alone = false; there = false }

module _ (σ : Sizes) {P : Type 0} (o : Origin P) (w : Wanted) where
  pub data OutlinedUnder (table : ℕ) : OutlineReport → Type 0 where
    outline_short : table < σ.table → OutlinedUnder table (outline_refusal short_memory)
    outline_refused : {r : Refusal} {x : P} → σ.table ≤ table → RefusedUnder σ o r x
        → OutlinedUnder table (outline_refusal r)
    outline_passed : {ts : List Token} {p : Program} {t : Ty} → σ.table ≤ table → PassesUnder σ o ts p t
        → OutlinedUnder table record { told = passed; alone = is_number p.main; there = has_function w p.defs }

  -- The contract of the service: its report, and the table memory as it is left.
  pub record OutlineUnder (table : List ℕ) (report : OutlineReport) (table' : List ℕ) : Type 0 where
    pub answer : OutlinedUnder (length table) report
    pub table_left : table' ≡ left report.told σ.table table

abbrev pub Outlined : {P : Type 0} → Origin P → Wanted → ℕ → OutlineReport → Type 0
Outlined o = OutlinedUnder BOX o

abbrev pub Outline : {P : Type 0} → Origin P → Wanted → List ℕ → OutlineReport → List ℕ → Type 0
Outline o = OutlineUnder BOX o
