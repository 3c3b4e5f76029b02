-- What is asked and promised: of every program that the table holds, its first endless node, or its count.
use Rattle.std.specs.Prelude.{Result, Ok, Err, cond, List, ◌≡◌, ℕ, ◌+◌, ◌-◌, ◌≤◌, ◌<◌, eqb, ltb, length, get_or}
use Rattle.std.proofs.Math.Option.{none, some}
use Rattle.language.specs.Sizes.{NODES, PAY_COUNT}
use Rattle.language.specs.Tokens.{Token}
use Rattle.language.specs.Trees.{Program}
use Rattle.language.specs.Grammar.{Reading}
use Rattle.language.specs.Profile.{first_endless, units_most}
use Rattle.layout.specs.Table.{VARIABLES_AT, BODY, row_word, function_row, without_variables}
use Rattle.layout.specs.Decode.{Holds}
use Rattle.layout.specs.declared.Held.{Held}
use Rattle.layout.specs.Functions.{function_name}
use Rattle.profiles.specs.Shares.{FULL}
use Rattle.profiles.specs.Passes.{Heads, PassedTo}
use Rattle.profiles.specs.declared.Uncounted.{Uncounted}
use Rattle.profiles.specs.declared.Uncounted.TheVariants.{EndlessNode, ManyUnits}

-- the table holds some program
pub record Countable (w : List ℕ) (P : Held) : Type 0 where
  pub tokens : List Token
  pub program : Program
  pub holds : Holds tokens w P program

-- how many units a program can use, or why they are not counted
abbrev pub Counted : Type 0
Counted = Result ℕ Uncounted

-- what the answer says of the program p
abbrev pub Answers : Counted → Program → Type 0
Answers (Err (EndlessNode i)) p = first_endless p ≡ some i
Answers (Err ManyUnits) p = (first_endless p ≡ none) × (PAY_COUNT < units_most p)
Answers (Ok n) p = (first_endless p ≡ none) × (n ≡ units_most p) × (n ≤ PAY_COUNT)

-- two tables differ in the words of variables alone
pub record Beyond (w w' : List ℕ) : Type 0 where
  pub before : (j : ℕ) → j < VARIABLES_AT → get_or w' j 0 ≡ get_or w j 0
  pub rest : without_variables w' ≡ without_variables w
  pub long : length w' ≡ length w

-- the answer is right of every program that the table held, if it is a reading
pub record Reckoned (w w' : List ℕ) (P : Held) (r : Counted) : Type 0 where
  pub right : (ts : List Token) (p : Program) → Holds ts w P p → Reading ts p → Answers r p
  pub table : Beyond w w'

-- and the variables are cleared
pub record Profiled (w w' : List ℕ) (P : Held) (r : Counted) : Type 0 where
  pub right : (ts : List Token) (p : Program) → Holds ts w P p → Reading ts p → Answers r p
  pub table : w' ≡ without_variables w

-- ---- on the way

-- the answer that a share is
unfoldable pub told : ℕ → Counted
told s = cond (ltb FULL s) (Err (EndlessNode (s - FULL - 1))) (cond (eqb s FULL) (Err ManyUnits) (Ok s))

-- function k and those before it have names, and its body is a row
pub record Bodied (w : List ℕ) (k : ℕ) : Type 0 where
  pub heads : Heads w (k + 1)
  pub root : row_word w (function_row w k) BODY < NODES

abbrev pub BodyPassed : List ℕ → List ℕ → ℕ → ℕ → Type 0
BodyPassed w w' k s = PassedTo w w' (row_word w (function_row w k) BODY) (function_name w k) k s
