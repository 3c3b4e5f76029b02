-- What stands before the place of 20 starts a program (R01.4), as texts have it: the tokens before that place and a few more,
-- written out with a blank between each two, are a text of the caller's edition that is a program of the grammar. So it is of a
-- text, of two sheets and of a stored sheet.
use mathlib.Core.List.{List, [], ◌∷◌, ◌++◌}
use mathlib.Core.Option.{some}
use mathlib.Core.Path.{◌≡◌}
use Prim.Native.Nat.{ℕ, zero, suc}
use lib.ListN.{length, take}
use lib.Seq.{take_all}
use native.Mathlib.Omega.{arith}
use Rattle.language.specs.Sizes.{Sizes}
use Rattle.language.specs.Tokens.{Vocabulary, edition, Token, SameButPlaces}
use Rattle.language.specs.Text.{SplitsWhole}
use Rattle.language.specs.Trees.{Program}
use Rattle.language.specs.Grammar.{Reading}
use Rattle.language.specs.Starts.{Starts, FirstWrong, wrong_token, wrong_end}
use Rattle.language.specs.Edition.{text_in_under, pair_in_under, stored_in_under}
use Rattle.language.specs.Stored.{AllLone, lone_none, lone_more}
use Rattle.language.specs.Writing.{written_out}
use Rattle.language.proofs.Answers.Editions.{named_laws}
use Rattle.language.proofs.Answers.PlacesAside.{same_reading}
use Rattle.language.proofs.Writing.Spelled.{Spelled, AllSpelled, spelled_none, spelled_more, reached_spelled}
use Rattle.language.proofs.Writing.ReadBack.{placed, placed_same, spelled_splits}
use Rattle.language.proofs.Writing.Completing.{said_spelled, spelled_said}

-- Some tokens behind ts, and the text that is written of ts and these: it splits by the vocabulary into them, and they are read
-- as a program.
pub record GoesOn (voc : Vocabulary) (ts : List Token) : Type 0 where
  pub behind : List Token
  pub tokens : List Token
  pub program : Program
  pub splits : SplitsWhole voc (written_out (ts ++ behind)) tokens
  pub same : SameButPlaces (ts ++ behind) tokens
  pub reads : Reading tokens program

-- the same, of the edition that a number names
pub record GoesOnIn (n : ℕ) (ts : List Token) : Type 0 where
  pub words : Vocabulary
  pub named : edition n ≡ some words
  pub on : GoesOn words ts

module _ {voc : Vocabulary} where
  front_spelled : (i : ℕ) {ts : List Token} → AllSpelled voc ts → AllSpelled voc (take i ts)
  front_spelled zero x = spelled_none
  front_spelled (suc i) spelled_none = spelled_none
  front_spelled (suc i) (spelled_more y x) = spelled_more y (front_spelled i x)

  lone_spelled : {ts : List Token} → AllLone voc ts → AllSpelled voc ts
  lone_spelled lone_none = spelled_none
  lone_spelled (lone_more {t} x xs) = spelled_more (only (reached_spelled x.splits)) (lone_spelled xs)
    where
      only : AllSpelled voc (t ∷ []) → Spelled voc t
      only (spelled_more y spelled_none) = y

module _ (n : ℕ) {voc : Vocabulary} (named : edition n ≡ some voc) where
  starts_on : {ts : List Token} → AllSpelled voc ts → Starts ts → GoesOn voc ts
  starts_on {ts} x s =
      let us = ts ++ s.behind in
      let y = said_spelled (s.said n voc named (spelled_said (named_laws n named) x)) in
      record {
        behind = s.behind;
        tokens = placed 0 us;
        program = s.program;
        splits = spelled_splits (named_laws n named) y;
        same = placed_same 0 us;
        reads = same_reading (placed_same 0 us) s.reading;
      }

  before_wrong : {ts : List Token} {i : ℕ} → AllSpelled voc ts → FirstWrong ts i → GoesOnIn n (take i ts)
  before_wrong {i = i} x (wrong_token h s w) = record { words = voc; named = named; on = starts_on (front_spelled i x) s }
  before_wrong {ts} x (wrong_end s w) =
      record { words = voc; named = named; on = rw (take_all (length ts) ts (omega arith)) (starts_on x s) }

module _ {σ : Sizes} (n : ℕ) {ts : List Token} {i : ℕ} where
  -- of a text that splits into ts, with 20 at token i, or at the end
  pub text_goes_on : {source : List ℕ} → (text_in_under σ n source).gives ts → FirstWrong ts i → GoesOnIn n (take i ts)
  text_goes_on g w = before_wrong n g.named (reached_spelled g.given.splits.whole) w

  -- of two sheets
  pub pair_goes_on : {first second : List ℕ} → (pair_in_under σ n first second).gives ts → FirstWrong ts i → GoesOnIn n (take i ts)
  pair_goes_on g w = before_wrong n g.named (reached_spelled g.given.splits.whole) w

  -- of a stored sheet
  pub stored_goes_on : {input : List ℕ} → (stored_in_under σ n input).gives ts → FirstWrong ts i → GoesOnIn n (take i ts)
  stored_goes_on g w = before_wrong n g.named (lone_spelled g.given.tokens) w
