-- The kinds of source: which origin of tokens each is, in the edition that a number names, and where it tells of an
-- ordinal.
use Rattle.std.specs.Prelude.{length, List, ℕ, ◌+◌}
use Rattle.language.specs.Answers.{Origin}
use Rattle.language.specs.Edition.{text_in, stored_in}
use Rattle.tokens.specs.Shown.{text_of}
use Rattle.sheets.specs.Sheets.{byte_of}
use Rattle.sheets.specs.declared.Source as source
use Rattle.sheets.specs.declared.Source.TheVariants.{Text, Lines}

abbrev pub origin_of : source.Source → ℕ → Origin ℕ
origin_of (Text t) n = text_in n (text_of t)
origin_of (Lines l) n = stored_in n l.now

-- from the words of a table that stands for `count` tokens
abbrev pub place_of : source.Source → List ℕ → ℕ → ℕ → ℕ
place_of (Text t) w count i = byte_of w count (length (text_of t)) i
place_of (Lines l) w count i = i + 2
