-- What the checker asks and promises: of every program that the table holds, its type or its first fault.
use Rattle.std.specs.Prelude.{Ok, Err, List, ◌≡◌, ℕ}
use Rattle.language.specs.Tokens.{Token}
use Rattle.language.specs.Trees.{Ty, Program}
use Rattle.language.specs.Types.{HasType}
use Rattle.language.specs.Faults.{HasFault}
use Rattle.language.specs.Meaning.{type_number}
use Rattle.layout.specs.Table.{without_variables}
use Rattle.layout.specs.Decode.{Holds}
use Rattle.layout.specs.declared.Held.{Held}
use Rattle.numbers.specs.Meanings.{reason_meant}
use Rattle.rules.specs.Asked.{Typing}

-- the table holds some program
pub record Checkable (w : List ℕ) (P : Held) : Type 0 where
  pub tokens : List Token
  pub program : Program
  pub holds : Holds tokens w P program

-- what the answer says of the program p: its type, by the type's number, or its first fault and the token that this is
-- told at
abbrev pub Answers : Typing → Program → Type 0
Answers (Ok n) p = (t : Ty) × HasType p t × (n ≡ type_number t)
Answers (Err e) p = HasFault p (reason_meant e.why) e.place

-- the answer is right of every program that the table held, and the variables are cleared
pub record Checked (w w' : List ℕ) (P : Held) (r : Typing) : Type 0 where
  pub right : (ts : List Token) (p : Program) → Holds ts w P p → Answers r p
  pub table : w' ≡ without_variables w
