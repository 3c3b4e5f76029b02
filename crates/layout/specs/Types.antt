-- Bounds on types by their numbers, which `type_number` of the language gives.
use Rattle.std.specs.Prelude.{ℕ, suc, ◌*◌}
use Rattle.language.specs.Sizes.{REFS}

-- the largest number of a type without `ref`
abbrev pub PLAIN : ℕ
PLAIN = 4

-- what a `ref` adds
abbrev pub REF : ℕ
REF = 8

-- from here on a type has as many `ref` as it may have; from there on too many
abbrev pub FULL : ℕ
FULL = REF * REFS

abbrev pub OVER : ℕ
OVER = REF * suc REFS
