-- What is written of a line: the token from p up to q of an input t, behind `count` others; with it they have so many
-- bytes.
use Rattle.std.specs.Prelude.{length, set, List, ◌⊎◌, ◌≡◌, ℕ, ◌+◌, ◌-◌, ◌/◌, ◌%◌, ◌≤◌, ◌<◌}
use Rattle.std.proofs.Math.Seq.{slice}
use Rattle.language.specs.Sizes.{SOURCE, TOKENS, TABLE}
use Rattle.language.specs.Tokens.{NAME}
use Rattle.layout.specs.Table.{put_token}
use Rattle.layout.specs.Values.{HALF}
use Rattle.tokens.specs.Forks.{STARTS_AT, Foretold}
use Rattle.stored.specs.Names.{Searchable, TableWorth, digits_of}

pub record Keepable (t w : List ℕ) (count bytes kind p q : ℕ) : Type 0 where
  pub room : TABLE ≤ length w
  pub order : p ≤ q
  pub some : (q - p) / 2 ≤ bytes
  pub near : count < TOKENS → bytes ≤ SOURCE → p < 4294967296
  pub names : count < TOKENS → bytes ≤ SOURCE → kind ≡ NAME → Searchable t w count p q

-- its words in the table w, which is then v; by what is found of a name and where the line begins in between
pub record Written (t w v : List ℕ) (count kind worth p q : ℕ) : Type 0 where
  pub worth_there : ℕ
  pub is : TableWorth t w count kind p q worth worth_there
  pub grown : List ℕ
  pub forks : Foretold (digits_of t w) w grown count kind (slice p q t)
  pub table : v ≡ put_token (set grown (STARTS_AT + count) p) count kind 0 ((q - p) / 2) (worth_there / HALF)
      (worth_there % HALF)

pub record Kept (t w v : List ℕ) (count bytes kind worth p q : ℕ) : Type 0 where
  pub written : count < TOKENS → bytes ≤ SOURCE → Written t w v count kind worth p q
  pub skipped : (TOKENS ≤ count) ⊎ (SOURCE < bytes) → v ≡ w
