-- What stands on the line of an input t that begins at p: one token, or why it is refused (R09.6).
use Rattle.std.specs.Prelude.{Result, Ok, Err, length, drop, List, ◌≡◌, ℕ}
use Rattle.std.proofs.Math.Seq.{slice}
use Rattle.language.specs.Numbers.{Refusal, not_hexadecimal, not_one_token}
use Rattle.language.specs.Stored.{FirstLine, Lone}
use Rattle.language.specs.Tokens as Language
use Rattle.numbers.specs.Meanings.{refusal_meant}
use Rattle.tokens.specs.Found.{IsToken}
use Rattle.tokens.specs.Shown.{told}
use Rattle.stored.specs.Lines.{LineTo}
use Rattle.numbers.specs.declared.Refusal as refusal
use Rattle.stored.specs.declared.entries.Entry.{Entry}

-- all bytes of the line that ends at e are a token of kind k, which is worth x
pub record OnLine (voc : Language.Vocabulary) (t : List ℕ) (p k x e : ℕ) : Type 0 where
  pub line : LineTo t p e
  pub token : IsToken voc (told (slice p e t)) 0 k (length (told (slice p e t))) x

pub data Amiss (voc : Language.Vocabulary) (t : List ℕ) (p : ℕ) : Refusal → Type 0 where
  no_digits : ((s more : List ℕ) → FirstLine (drop p t) s more → ⊥) → Amiss voc t p not_hexadecimal
  no_token : {s more : List ℕ} → FirstLine (drop p t) s more
      → ((u : Language.Token) → u.spelling ≡ s → Lone voc u → ⊥) → Amiss voc t p not_one_token

abbrev pub IsEntry : Language.Vocabulary → List ℕ → ℕ → Result Entry refusal.Refusal → Type 0
IsEntry voc t p (Ok y) = OnLine voc t p y.kind y.worth y.end
IsEntry voc t p (Err y) = Amiss voc t p (refusal_meant y)
