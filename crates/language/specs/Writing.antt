-- Writing a sheet out again (R03) and storing it (R09): what is written for tokens, and what write and store answer for
-- everything that they can be lent.
use Rattle.std.specs.Prelude.{List, [], ◌∷◌, ◌++◌, ◌⊎◌, ◌≡◌, ℕ, ◌≤◌, ◌<◌, length, drop}
use Prim.Native.Char.{code}
use Rattle.language.specs.Sizes.{Sizes, BOX}
use Rattle.language.specs.Tokens.{Token}
use Rattle.language.specs.Trees.{Ty, Program}
use Rattle.language.specs.Numbers.{Refusal, short_memory, long_text, Told, passed, refused}
use Rattle.language.specs.Answers.{Origin, PassesUnder, RefusedUnder, left}
use Rattle.language.specs.Stored.{stored}

-- ---- what is written (R03.2)

-- the byte behind a token, before these: a space where another token follows, and LF at the end
unfoldable pub behind : List Token → ℕ
behind [] = code "\n"
behind (t ∷ ts) = code " "

-- each token as it is spelled, and the byte behind it; a program has a token
unfoldable pub written_out : List Token → List ℕ
written_out [] = []
written_out (t ∷ ts) = t.spelling ++ (behind ts ∷ written_out ts)

module _ (σ : Sizes) where
  -- R03.5: it is longer than so many bytes of output, or than a source may be
  abbrev pub TooLongUnder : List Token → ℕ → Type 0
  TooLongUnder ts room = (room < length (written_out ts)) ⊎ (σ.source < length (written_out ts))

  pub record FitsUnder (ts : List Token) (room : ℕ) : Type 0 where
    pub output : length (written_out ts) ≤ room
    pub source : length (written_out ts) ≤ σ.source

abbrev pub TooLong : List Token → ℕ → Type 0
TooLong = TooLongUnder BOX

abbrev pub Fits : List Token → ℕ → Type 0
Fits = FitsUnder BOX

-- ---- write

-- the last is how many bytes were written
pub record WriteReport (P : Type 0) : Type 0 where
  pub told : Told
  pub place : P
  pub written : ℕ

abbrev pub write_report : {P : Type 0} → Told → P → ℕ → WriteReport P
write_report a x n = record { told = a; place = x; written = n }

module _ (σ : Sizes) {P : Type 0} (o : Origin P) where
  -- the report, for so many words of table memory and bytes of output, and the bytes written
  pub data WroteUnder (table output : ℕ) : WriteReport P → List ℕ → Type 0 where
    write_short : table < σ.table → WroteUnder table output (write_report (refused short_memory) o.nowhere 0) []
    -- R03.4: what does not pass is refused as it is by check
    write_refused : {r : Refusal} {x : P} → σ.table ≤ table → RefusedUnder σ o r x
        → WroteUnder table output (write_report (refused r) x 0) []
    write_long : {ts : List Token} {p : Program} {t : Ty}
        → σ.table ≤ table → PassesUnder σ o ts p t → TooLongUnder σ ts output
        → WroteUnder table output (write_report (refused long_text) o.nowhere 0) []
    write_passed : {ts : List Token} {p : Program} {t : Ty}
        → σ.table ≤ table → PassesUnder σ o ts p t → FitsUnder σ ts output
        → WroteUnder table output (write_report passed o.nowhere (length (written_out ts))) (written_out ts)

  -- The contract of write: its report, and the table memory and the output as they are left.
  pub record WriteUnder (table output : List ℕ) (report : WriteReport P) (table' output' : List ℕ) : Type 0 where
    pub text : List ℕ
    pub answer : WroteUnder (length table) (length output) report text
    pub table_left : table' ≡ left report.told σ.table table
    pub output_left : output' ≡ text ++ drop (length text) output

abbrev pub Wrote : {P : Type 0} → Origin P → ℕ → ℕ → WriteReport P → List ℕ → Type 0
Wrote o = WroteUnder BOX o

abbrev pub Write : {P : Type 0} → Origin P → List ℕ → List ℕ → WriteReport P → List ℕ → List ℕ → Type 0
Write o = WriteUnder BOX o

-- ---- store (R09.5), which has a report as write has

module _ (σ : Sizes) {P : Type 0} (o : Origin P) where
  pub data StoresUnder (table output : ℕ) : WriteReport P → List ℕ → Type 0 where
    store_short : table < σ.table → StoresUnder table output (write_report (refused short_memory) o.nowhere 0) []
    -- what does not pass is refused as it is by check
    store_refused : {r : Refusal} {x : P} → σ.table ≤ table → RefusedUnder σ o r x
        → StoresUnder table output (write_report (refused r) x 0) []
    -- a stored form may be longer than a source
    store_long : {ts : List Token} {p : Program} {t : Ty}
        → σ.table ≤ table → PassesUnder σ o ts p t → output < length (stored ts)
        → StoresUnder table output (write_report (refused long_text) o.nowhere 0) []
    store_passed : {ts : List Token} {p : Program} {t : Ty}
        → σ.table ≤ table → PassesUnder σ o ts p t → length (stored ts) ≤ output
        → StoresUnder table output (write_report passed o.nowhere (length (stored ts))) (stored ts)

  -- The contract of store: its report, and the table memory and the output as they are left.
  pub record StoreUnder (table output : List ℕ) (report : WriteReport P) (table' output' : List ℕ) : Type 0 where
    pub form : List ℕ
    pub answer : StoresUnder (length table) (length output) report form
    pub table_left : table' ≡ left report.told σ.table table
    pub output_left : output' ≡ form ++ drop (length form) output

abbrev pub Stores : {P : Type 0} → Origin P → ℕ → ℕ → WriteReport P → List ℕ → Type 0
Stores o = StoresUnder BOX o

abbrev pub Store : {P : Type 0} → Origin P → List ℕ → List ℕ → WriteReport P → List ℕ → List ℕ → Type 0
Store o = StoreUnder BOX o
