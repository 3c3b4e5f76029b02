-- What a parser answers, the ways in which it goes on, and the law of each: what holds of every answer.
use mathlib.Core.Path.{◌≡◌, refl}
use mathlib.Core.Bool.{Bool, true, false}
use mathlib.Core.Option.{Option, none, some}
use Prim.Native.Nat.{ℕ, ◌+◌}

pub data Result (A : Type 0) : Type 0 where
  -- the ordinal of the token at which it failed
  failed : ℕ → Result A
  -- what was read, and the ordinal of the token behind it
  got : A → ℕ → Result A

-- what was got is made into another thing
abbrev pub made : {A B : Type 0} → Result A → (A → B) → Result B
made (failed k) f = failed k
made (got x j) f = got (f x) j

-- the same, and one more token is passed
abbrev pub made_past : {A B : Type 0} → Result A → (A → B) → Result B
made_past (failed k) f = failed k
made_past (got x j) f = got (f x) (j + 1)

-- what goes on behind a part
unfoldable pub then : {A B : Type 0} → Result A → (A → ℕ → Result B) → Result B
then (failed k) f = failed k
then (got x j) f = f x j

-- a choice by a test; the arms are functions, so that only the one that is taken is computed
unfoldable pub test : {A : Type 0} → Bool → (Unit {0} → Result A) → (Unit {0} → Result A) → Result A
test true x y = x tt
test false x y = y tt

-- a choice by what a table has
unfoldable pub look : {A B : Type 0} → Option A → (A → Result B) → (Unit {0} → Result B) → Result B
look (some a) x y = x a
look none x y = y tt

-- a test that fails at token k
unfoldable pub need : {A : Type 0} → Bool → ℕ → (Unit {0} → Result A) → Result A
need true k x = x tt
need false k x = failed k

-- P holds of what was got, if anything was
pub data All {A : Type 0} (P : A → ℕ → Type 0) : Result A → Type 0 where
  nothing : {k : ℕ} → All P (failed k)
  this : {x : A} {j : ℕ} → P x j → All P (got x j)

-- it holds of what was got
pub all_got : {A : Type 0} {P : A → ℕ → Type 0} {x : A} {j : ℕ} → All P (got x j) → P x j
all_got (this p) = p

-- so does what follows from it
pub all_same : {A : Type 0} {P Q : A → ℕ → Type 0} {r : Result A} → ((x : A) (j : ℕ) → P x j → Q x j) → All P r → All Q r
all_same g nothing = nothing
all_same g (this {x} {j} p) = this (g x j p)

-- of what is made of a part, if of the part
pub all_made : {A B : Type 0} {P : A → ℕ → Type 0} {Q : B → ℕ → Type 0} {r : Result A} (f : A → B)
    → All P r → ((x : A) (j : ℕ) → P x j → Q (f x) j) → All Q (made r f)
all_made f nothing g = nothing
all_made f (this {x} {j} p) g = this (g x j p)

-- the same with one more token passed
pub all_made_past : {A B : Type 0} {P : A → ℕ → Type 0} {Q : B → ℕ → Type 0} {r : Result A} (f : A → B)
    → All P r → ((x : A) (j : ℕ) → P x j → Q (f x) (j + 1)) → All Q (made_past r f)
all_made_past f nothing g = nothing
all_made_past f (this {x} {j} p) g = this (g x j p)

-- of what goes on behind a part, if of the part
pub all_then : {A B : Type 0} {P : A → ℕ → Type 0} {Q : B → ℕ → Type 0} {r : Result A} (f : A → ℕ → Result B)
    → All P r → ((x : A) (j : ℕ) → P x j → All Q (f x j)) → All Q (then r f)
unfolding then
all_then f nothing g = nothing
all_then f (this {x} {j} p) g = g x j p

-- of a test, if of both arms
pub all_test : {A : Type 0} {Q : A → ℕ → Type 0} (b : Bool) (x y : Unit {0} → Result A)
    → (b ≡ true → All Q (x tt)) → (b ≡ false → All Q (y tt)) → All Q (test b x y)
unfolding test
all_test true x y g h = g refl
all_test false x y g h = h refl

-- of a look into a table, if of both arms
pub all_look : {A B : Type 0} {Q : B → ℕ → Type 0} (o : Option A) (x : A → Result B) (y : Unit {0} → Result B)
    → ((a : A) → o ≡ some a → All Q (x a)) → (o ≡ none → All Q (y tt)) → All Q (look o x y)
unfolding look
all_look (some a) x y g h = g a refl
all_look none x y g h = h refl

-- of what needs a token, if of what is behind it
pub all_need : {A : Type 0} {Q : A → ℕ → Type 0} (b : Bool) (k : ℕ) (x : Unit {0} → Result A)
    → (b ≡ true → All Q (x tt)) → All Q (need b k x)
unfolding need
all_need true k x g = g refl
all_need false k x g = nothing
