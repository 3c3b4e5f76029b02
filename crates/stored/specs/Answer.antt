-- What the answer of `read` says of an input t, and what it leaves in the table: w before, v after.
use Rattle.std.specs.Prelude.{Result, Ok, Err, length, List, ◌≡◌, ℕ, ◌≤◌}
use Rattle.language.specs.Numbers.{Refusal}
use Rattle.language.specs.Sizes.{TOKENS, TABLE}
use Rattle.language.specs.Stored.{StoredGives, StoredDenies}
use Rattle.language.specs.Tokens as Language
use Rattle.numbers.specs.Meanings.{refusal_meant}
use Rattle.tokens.specs.Answer.{Laid}
use Rattle.stored.specs.Lines.{CountTo}
use Rattle.stored.specs.declared.Denied.{Denied}

-- the count is read and not too large
pub record Counted (t w : List ℕ) (n : ℕ) : Type 0 where
  pub room : TABLE ≤ length w
  pub count : CountTo t n
  pub few : n ≤ TOKENS

-- it gives n tokens, which lie in the table
pub record Whole (voc : Language.Vocabulary) (t w v : List ℕ) (n : ℕ) : Type 0 where
  pub tokens : List Language.Token
  pub gives : StoredGives voc t tokens
  pub count : n ≡ length tokens
  pub laid : Laid tokens w v

-- it is refused so, and some tokens lie in the table
pub record Broken (voc : Language.Vocabulary) (t w v : List ℕ) (r : Refusal) (line : ℕ) : Type 0 where
  pub denies : StoredDenies voc t r line
  pub tokens : List Language.Token
  pub few : length tokens ≤ TOKENS
  pub laid : Laid tokens w v

abbrev pub IsStored : Language.Vocabulary → List ℕ → List ℕ → List ℕ → Result ℕ Denied → Type 0
IsStored voc t w v (Ok n) = Whole voc t w v n
IsStored voc t w v (Err y) = Broken voc t w v (refusal_meant y.why) y.line
