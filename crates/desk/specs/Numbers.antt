-- What a word says that has to be a number up to a limit: such a number, or none.
use Rattle.std.specs.Prelude.{ℕ, ◌≤◌, Option, IfSome}

abbrev pub UpTo : (most : ℕ) → Option ℕ → Type 0
UpTo most r = IfSome r (λ n. n ≤ most)
