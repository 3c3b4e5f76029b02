-- What the readers of an expression require and ensure. A reader begins at token n with the table w, whose first free
-- row is f, and answers g with the table w'. Numbers are told of for themselves; what was read is told of every token
-- list that the table stands for.
use Rattle.std.specs.Prelude.{Bool, true, false, List, ◌≡◌, ℕ, ◌+◌, ◌≤◌, ◌<◌, length}
use Rattle.std.specs.Prelude.{Ok, Err}
use Rattle.std.proofs.Math.Option.{Option, none, some}
use Rattle.language.specs.Sizes.{TOKENS, NODES, TABLE}
use Rattle.language.specs.Tokens.{Token, Entry, entry, Means}
use Rattle.language.specs.Trees.{Exp, Exps, more}
use Rattle.language.specs.Grammar.{un, seq, bound, counting, bounds, ranges, assign, atom, tier, Span}
use Rattle.language.proofs.Executable.Parses.{Result, failed, got, made}
use Rattle.language.proofs.Executable.Parser.{read, clause, until, closed}
use Rattle.language.proofs.Executable.Settles.{Settles}
use Rattle.language.proofs.Executable.Climbing.{tier_of, More}
use Rattle.layout.specs.Table.{without_rows}
use Rattle.layout.specs.Names.{Stand}
use Rattle.layout.specs.Rows.{below, under, head, lay, lay_all}
use Rattle.phrases.specs.Words.{Part, tree_at, none_at}

-- ---- one token

abbrev pub has : {A : Type 0} → Option A → Bool
has (some a) = true
has none = false

-- the table has a row for the kind k
abbrev pub in_table : {A : Type 0} → List (Entry ℕ A) → ℕ → Bool
in_table rows k = has (entry rows k)

-- ---- what is told of the tokens from n on

abbrev pub Told : Type 0 → Type 1
Told A = List Token → Result A → Type 0

abbrev pub Seq : ℕ → Told Exp
Seq n = λ ts. Settles ts (read seq) n

-- a Tail or an Item
abbrev pub Clause : ℕ → Told Exp
Clause n = λ ts. Settles ts clause n

abbrev pub Let : ℕ → Told Exp
Let n = λ ts. Settles ts (read bound) n

abbrev pub For : ℕ → Told Exp
For n = λ ts. Settles ts (read counting) n

abbrev pub Assign : ℕ → Told Exp
Assign n = λ ts. Settles ts (read assign) n

-- the level whose operators bind at least as tightly as v
abbrev pub Tier : ℕ → ℕ → Told Exp
Tier v n = λ ts. Settles ts (read (tier (tier_of v))) n

abbrev pub Un : ℕ → Told Exp
Un n = λ ts. Settles ts (read (tier un)) n

abbrev pub Atom : ℕ → Told Exp
Atom n = λ ts. Settles ts (read atom) n

-- a Seq, and a token of kind `mark` behind it
abbrev pub Until : ℕ → ℕ → Told Exp
Until mark n = λ ts. Settles ts (until mark) n

-- Args, and the `)` behind them
abbrev pub Closed : ℕ → Told Exps
Closed n = λ ts. Settles ts closed n

-- the bounds of a For: start, end and maybe step; with `b` the end is a pass too
abbrev pub span : Bool → Exps → Span
span b es = record { through = b; parts = es }

abbrev pub Bounds : Bool → ℕ → Told Exps
Bounds b n = λ ts r. Settles ts (read bounds) n (made r (span b))

-- what stands behind the mark of Bounds at token n: with it, whatever start stands before, they come to this
abbrev pub Ends : ℕ → Told Exps
Ends n = λ ts r. (i : ℕ) (b : Bool) (x : Exp)
    → Tier 1 i ts (got x n) → Means ts n ranges b → Bounds b i ts (made r (more x))

-- ---- numbers

-- a reader may begin: no more rows than tokens are behind
pub record Room (count : ℕ) (w : List ℕ) (n f : ℕ) : Type 0 where
  pub wide : TABLE ≤ length w
  pub few : count ≤ TOKENS
  pub inside : n ≤ count
  pub owned : f ≤ n

-- from token n and row f to token m and row k, the last row being r; m lies from lo up to hi, and no row is without
-- a token
pub record On (n f lo hi r m k : ℕ) : Type 0 where
  pub least : lo ≤ m
  pub most : m < hi
  pub owned : k + n ≤ m + f
  pub end : k ≡ r + 1

abbrev pub Ahead : ℕ → ℕ → ℕ → ℕ → Part → Type 0
Ahead n f lo hi (Ok t) = On n f lo hi t.root t.next t.free
Ahead n f lo hi (Err e) = Unit {0}

-- ---- trees

-- a tree up to token m, laid from row f on
pub record Laid (T : Result Exp → Type 0) (w : List ℕ) (f r m : ℕ) (w' : List ℕ) : Type 0 where
  pub tree : Exp
  pub told : T (got tree m)
  pub top : r ≡ f + below tree
  pub laid : w' ≡ lay w f tree

abbrev pub Outcome : (Result Exp → Type 0) → List ℕ → ℕ → Part → List ℕ → Type 0
Outcome T w f (Ok t) w' = Laid T w f t.root t.next w'
Outcome T w f (Err e) w' = T (failed e.at)

-- what was read ends at a token from lo up to hi, and no word but those of rows and functions was written
pub record Answer (T : Told Exp) (count : ℕ) (w : List ℕ) (n f lo hi : ℕ) (g : Part) (w' : List ℕ) : Type 0 where
  pub told : (ts : List Token) → Stand w count ts → Outcome (T ts) w f g w'
  pub ahead : Ahead n f lo hi g
  pub clear : without_rows w' ≡ without_rows w

-- at least one token is read
abbrev pub Yields : Told Exp → ℕ → List ℕ → ℕ → ℕ → Part → List ℕ → Type 0
Yields T count w n f g w' = Answer T count w n f (n + 1) (count + 1) g w'

-- and a token stands behind what was read
abbrev pub Halts : Told Exp → ℕ → List ℕ → ℕ → ℕ → Part → List ℕ → Type 0
Halts T count w n f g w' = Answer T count w n f (n + 1) count g w'

-- Operators from tightness v up to u go on with a left operand a that is laid already, its root at `left`.
pub record Continues (v u count : ℕ) (w : List ℕ) (n left f : ℕ) (g : Part) (w' : List ℕ) : Type 0 where
  pub told : (ts : List Token) → Stand w count ts → (a : Exp) (w₀ : List ℕ) (f₀ : ℕ) → left ≡ f₀ + below a
      → w ≡ lay w₀ f₀ a
      → Outcome (More ts v u a n) w₀ f₀ g w'
  pub ahead : Ahead n f n (count + 1) g
  pub clear : without_rows w' ≡ without_rows w

-- ---- the arguments of the call at token i, or the bounds of the `for` there

pub record LaidAll (T : Result Exps → Type 0) (w : List ℕ) (i f r m k : ℕ) (w' : List ℕ) : Type 0 where
  pub args : Exps
  pub told : T (got args m)
  pub top : r ≡ head f args
  pub past : k ≡ f + under args
  pub laid : w' ≡ lay_all w f i args

abbrev pub OutcomeAll : (Result Exps → Type 0) → List ℕ → ℕ → ℕ → Part → List ℕ → Type 0
OutcomeAll T w i f (Ok t) w' = LaidAll T w i f t.root t.next t.free w'
OutcomeAll T w i f (Err e) w' = T (failed e.at)

pub record YieldsAll (T : Told Exps) (i count : ℕ) (w : List ℕ) (n f : ℕ) (g : Part) (w' : List ℕ) : Type 0 where
  pub told : (ts : List Token) → Stand w count ts → OutcomeAll (T ts) w i f g w'
  pub ahead : Ahead n f (n + 1) (count + 1) g
  pub clear : without_rows w' ≡ without_rows w

-- ---- the row of a node

-- row k was written, so that the table is v; what was read ends at token m
pub record Written (k m : ℕ) (v w : List ℕ) (g : Part) (w' : List ℕ) : Type 0 where
  pub answer : g ≡ tree_at k m (k + 1)
  pub laid : w' ≡ v
  pub clear : without_rows w' ≡ without_rows w

-- the row behind a node's last part can be written
abbrev pub Placed : Part → Type 0
Placed (Ok t) = (t.free < NODES) × (t.next ≤ TOKENS)
Placed (Err e) = Unit {0}

-- It is written by `put`, with the last part's root as its last link, and `behind` gives the token behind the node;
-- where the part failed, nothing is written.
abbrev pub Topped : (List ℕ → ℕ → ℕ → List ℕ) → (ℕ → ℕ) → Part → List ℕ → Part → List ℕ → Type 0
Topped put behind (Ok t) w g w' = Written t.free (behind t.next) (put w t.free t.root) w g w'
Topped put behind (Err e) w g w' = (g ≡ none_at e.at) × (w' ≡ w)
