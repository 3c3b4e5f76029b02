-- What the answer of `split` says, and what it leaves in the table.
use Rattle.std.specs.Prelude.{Result, Ok, Err, length, List, ◌≡◌, ℕ, ◌≤◌, ◌<◌}
use Rattle.language.specs.Sizes.{SOURCE}
use Rattle.language.specs.Text as Text
use Rattle.language.specs.Text.{Splits, Flawed}
use Rattle.language.specs.Tokens as Tokens
use Rattle.numbers.specs.Meanings.{flaw_meant}
use Rattle.layout.specs.Names.{lay_tokens}
use Rattle.tokens.specs.Forks.{ButRows}
use Rattle.tokens.specs.declared.answer.Unsplit.{Unsplit}
use Rattle.tokens.specs.declared.answer.Unsplit.TheVariants.{Stopped, TooLong}

-- the table w with the tokens ts is v, but for the words of rows and functions
abbrev pub Laid : List Tokens.Token → List ℕ → List ℕ → Type 0
Laid ts w v = ButRows v (lay_tokens ts w 0 ts)

-- the text t splits into n tokens, which lie in the table
pub record Whole (voc : Tokens.Vocabulary) (t w v : List ℕ) (n : ℕ) : Type 0 where
  pub short : length t ≤ SOURCE
  pub tokens : List Tokens.Token
  pub splits : Splits voc t tokens
  pub count : n ≡ length tokens
  pub laid : Laid tokens w v

-- this flaw stands at p, and the tokens before it lie in the table
pub record Broken (voc : Tokens.Vocabulary) (t w v : List ℕ) (f : Text.Flaw) (p : ℕ) : Type 0 where
  pub short : length t ≤ SOURCE
  pub flawed : Flawed voc t f p
  pub laid : Laid flawed.tokens w v

-- the text is too long, and the table is as it was
pub record Long (t w v : List ℕ) : Type 0 where
  pub long : SOURCE < length t
  pub kept : v ≡ w

-- what the answer says by a vocabulary of the text t, the table w before and the table v after
abbrev pub IsSplit : Tokens.Vocabulary → List ℕ → List ℕ → List ℕ → Result ℕ Unsplit → Type 0
IsSplit voc t w v (Ok n) = Whole voc t w v n
IsSplit voc t w v (Err (Stopped f p)) = Broken voc t w v (flaw_meant f) p
IsSplit voc t w v (Err TooLong) = Long t w v
