-- What a word means by itself: the rows of commands, and those of options.
use Rattle.std.specs.Prelude.{Bool, true, false, List, ◌≡◌, eqb, ℕ}
use Rattle.std.specs.List.{starts_with}
use Rattle.language.specs.Tokens.{spell}
use Rattle.orders.specs.declared.asked.Task.{Task}
use Rattle.orders.specs.declared.asked.Word.{Word}

-- it begins with two dashes
abbrev pub looks_optional : List ℕ → Bool
looks_optional t = starts_with eqb t (spell "--")

abbrev Not : (w : List ℕ) → (row : List ℕ) → Type 0
Not w row = w ≡ row → ⊥

-- the rows of commands
abbrev pub CommandIs : List ℕ → Task → Type 0
CommandIs t Task.Pay = ⊥
CommandIs t Task.Check = t ≡ spell "check"
CommandIs t Task.CheckWhole = ⊥
CommandIs t Task.Run = t ≡ spell "run"
CommandIs t Task.Write = t ≡ spell "write"
CommandIs t Task.Store = t ≡ spell "store"
CommandIs t Task.CheckStored = t ≡ spell "check-stored"
CommandIs t Task.RunStored = t ≡ spell "run-stored"
CommandIs t Task.Shift = t ≡ spell "shift"
CommandIs t Task.Profile = t ≡ spell "profile"
CommandIs t Task.ProfileWhole = ⊥
CommandIs t Task.Combine = ⊥
CommandIs t Task.Help = t ≡ spell "--help"
CommandIs t Task.Version = t ≡ spell "--version"

-- it is none of them
abbrev pub NoCommand : List ℕ → Type 0
NoCommand t =
    Not t (spell "check") × Not t (spell "run") × Not t (spell "write") × Not t (spell "store")
    × Not t (spell "check-stored") × Not t (spell "run-stored") × Not t (spell "shift")
    × Not t (spell "profile")

-- what is told of a word by what it means: its spelling, or for a word that has no row of its own, that it has none
abbrev pub Means : List ℕ → Word → Type 0
Means t (Word.Command k) = CommandIs t k
Means t (Word.Instead k) = CommandIs t k
Means t Word.Whole = t ≡ spell "--whole"
Means t Word.Combine = t ≡ spell "--combine"
Means t Word.Report = t ≡ spell "--report"
Means t Word.Edition = t ≡ spell "--edition"
Means t Word.Rest = t ≡ spell "--"
Means t Word.Strange = looks_optional t ≡ true
Means t Word.Plain = NoCommand t × (looks_optional t ≡ false)
