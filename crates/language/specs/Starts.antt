-- Where reading goes wrong: the place of 20 as an ordinal (R01). Programs are those of the grammar, types and sizes
-- aside.
use Rattle.std.specs.Prelude.{List, ◌++◌, ◌≡◌, ℕ, suc, ◌<◌, length, take}
use Rattle.std.proofs.Math.Option.{some}
use Rattle.language.specs.Tokens.{Vocabulary, edition, Token, SameButPlaces}
use Rattle.language.specs.Text.{SplitsWhole}
use Rattle.language.specs.Trees.{Program}
use Rattle.language.specs.Grammar.{Reading}

-- some text splits into ts by the vocabulary, places aside
pub record Said (voc : Vocabulary) (ts : List Token) : Type 0 where
  pub text : List ℕ
  pub tokens : List Token
  pub splits : SplitsWhole voc text tokens
  pub same : SameButPlaces tokens ts

-- Some tokens behind ts make a program. They are none of another edition: in one by which a text splits into ts, some
-- text splits into ts and these, and that text is a program (R01.4).
pub record Starts (ts : List Token) : Type 0 where
  pub behind : List Token
  pub program : Program
  pub reading : Reading (ts ++ behind) program
  pub said : (n : ℕ) (voc : Vocabulary) → edition n ≡ some voc → Said voc ts → Said voc (ts ++ behind)

-- The first token such that those up to it, it included, start no program; or the end, where all of them start one and
-- are none.
pub data FirstWrong (ts : List Token) : ℕ → Type 0 where
  wrong_token : {i : ℕ} → i < length ts → Starts (take i ts) → (Starts (take (suc i) ts) → ⊥) → FirstWrong ts i
  wrong_end : Starts ts → ((p : Program) → Reading ts p → ⊥) → FirstWrong ts (length ts)
