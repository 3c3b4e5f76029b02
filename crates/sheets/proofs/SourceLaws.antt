-- What is true of either kind of source: it is a lawful origin, it tells nothing at 0, and the table has its places.
use mathlib.Core.List.{List}
use mathlib.Core.Path.{◌≡◌, refl, sym, subst}
use Prim.Native.Nat.{ℕ}
use Rattle.language.specs.Tokens.{Token, EDITION_1}
use Rattle.language.proofs.Answers.Editions.{text_in_lawful}
use Rattle.language.proofs.Answers.Origins.{Lawful}
use Rattle.language.proofs.Stored.Editions.{stored_in_lawful}
use Rattle.layout.specs.Names.{Stand}
use Rattle.tokens.specs.Shown.{text_of}
use Rattle.sheets.specs.Sources.{origin_of, place_of}
use Rattle.sheets.specs.Sheets.{Examined}
use Rattle.sheets.specs.declared.Source as source
use Rattle.sheets.specs.declared.Source.TheVariants.{Text, Lines}
use Rattle.sheets.specs.Sheets.{Seen}
use Rattle.sheets.proofs.Layers.{byte_stands}

pub source_lawful : (s : source.Source) (n : ℕ) → Lawful (origin_of s n)
source_lawful (Text t) n = text_in_lawful n (text_of t)
source_lawful (Lines l) n = stored_in_lawful n l.now

pub source_nowhere : (s : source.Source) (n : ℕ) → (origin_of s n).nowhere ≡ 0
source_nowhere (Text t) n = refl
source_nowhere (Lines l) n = refl

pub source_place : (s : source.Source) (n : ℕ) {w : List ℕ} {count : ℕ} {ts : List Token} → Stand w count ts → (i : ℕ)
    → place_of s w count i ≡ (origin_of s n).at ts i
source_place (Text t) n h i = byte_stands EDITION_1 (text_of t) h i
source_place (Lines l) n h i = refl

-- by the case that the source is
pub source_examined : (s z : source.Source) (n : ℕ) {w w₁ : List ℕ} {v : Seen} → s ≡ z → Examined (origin_of z n) w w₁ v
    → Examined (origin_of s n) w w₁ v
source_examined s z n {w} {w₁} {v} e x = subst (λ (s : source.Source). Examined (origin_of s n) w w₁ v) (sym e) x

pub source_placed : (s z : source.Source) (w : List ℕ) (count i : ℕ) {r : ℕ} → s ≡ z → r ≡ place_of z w count i
    → r ≡ place_of s w count i
source_placed s z w count i {r} e x = subst (λ (s : source.Source). r ≡ place_of s w count i) (sym e) x
