-- Where a run stands between two steps, and what the functions of the steps ask and promise.
use Rattle.std.specs.Prelude.{Bool, true, false, cond, List, ◌≡◌, ℕ, suc, ◌+◌, ◌-◌, ◌*◌, ◌/◌, ◌%◌, ◌≤◌, ◌<◌, eqb, length, get_or}
use Rattle.std.specs.Prelude as P
use Rattle.language.specs.Sizes.{TOKENS, NODES, ACTIVE, ALLOWANCE, TABLE, WORK}
use Rattle.language.specs.Trees.{Exp}
use Rattle.language.specs.State as M
use Rattle.language.specs.State.{value, stop, then}
use Rattle.language.specs.Meaning.{Env, step, eval}
use Rattle.layout.specs.Table.{OWN, NEXT, ARITY, BODY, row_word}
use Rattle.layout.specs.Slots.{TAGS, WAITING}
use Rattle.layout.specs.Notes.{NOBODY, noted}
use Rattle.layout.specs.Frames.{frame_mark, put_frame}
use Rattle.layout.specs.Values.{meant}
use Rattle.layout.specs.declared.values.Value.{Value}
use Rattle.numbers.specs.Meanings.{stop_meant}
use Rattle.numbers.specs.declared.Stop.{Stop}
use Rattle.machine.specs.Outcomes.{memory, Room, after_birth, Created, after_byte, Printed}
use Rattle.machine.specs.declared.state.Tally.{Tally}
use Rattle.machine.specs.Outcomes.{Outcome}
use Rattle.runner.specs.Phases.{LAST}
use Rattle.runner.specs.Trees.{At, slack, Scene}
use Rattle.runner.specs.Waiting.{Run, Then, Binds, FrameAt, Later, Waits, Stack}
use Rattle.runner.specs.declared.state.Spot.{Spot}
use Rattle.runner.specs.declared.state.Mode.{Mode}
use Rattle.runner.specs.declared.state.Next.{Next}

-- the memories and the tally of a run with so many frames: each frame's node has used a unit, which pays for a birth
pub record Fair (q : Run) (w o : List ℕ) (s : Tally) (h : ℕ) : Type 0 where
  pub room : Room w s
  pub paid : s.births + s.units + h ≤ ALLOWANCE + 1
  pub printed : s.printed ≤ length o
  pub long : length w ≡ length q.work
  pub beyond : (k : ℕ) → WORK ≤ k → get_or w k 0 ≡ get_or q.work k 0
  pub wide : length o ≡ length q.out
  pub rest : (k : ℕ) → s.printed ≤ k → get_or o k 0 ≡ get_or q.out k 0

-- how a run ends: with its value, or by a stop at a token
pub data Ending : Type 0 where
  complete : Ending
  stopped : Stop → ℕ → Ending

abbrev pub ended : Ending → Value → M.State → M.Outcome
ended Ending.complete v σ = value (meant v) σ
ended (Ending.stopped y i) v σ = stop (stop_meant y) i σ

-- the mode in which it is over so, and how it ends where it is over
abbrev pub ending_mode : Ending → Mode
ending_mode Ending.complete = Mode.Over
ending_mode (Ending.stopped y i) = Mode.Halt y i

abbrev pub ending_of : Mode → Ending
ending_of Mode.Begin = Ending.complete
ending_of Mode.Give = Ending.complete
ending_of Mode.Over = Ending.complete
ending_of (Mode.Halt y i) = Ending.stopped y i

module _ (q : Run) (t w o : List ℕ) where
  -- a node is to begin
  pub record Begins (node : ℕ) (p : Spot) (s : Tally) : Type 0 where
    pub scene : Scene q.ts t q.defs q.fs
    pub fair : Fair q w o s p.height
    pub d : ℕ
    pub e : Exp
    pub L : List ℕ
    pub env : Env
    pub κ : Then
    pub deep : d + p.height ≡ ACTIVE + 1
    pub high : 1 ≤ p.height
    pub at : At q.ts t q.defs L node e
    pub sized : p.size ≡ length L
    pub binds : Binds q.ts w p.base L env
    pub room : p.base + length L + WAITING * d ≤ WAITING * ACTIVE + slack e
    pub stack : Stack q t w d p.height (p.base + length L) s.cells s.births κ
    pub means : then (eval q.fs d e env (memory w o s)) κ ≡ q.whole

  -- it has begun
  pub record Starts (node : ℕ) (p : Spot) (s : Tally) : Type 0 where
    pub scene : Scene q.ts t q.defs q.fs
    pub fair : Fair q w o s (suc p.height)
    pub d : ℕ
    pub e : Exp
    pub L : List ℕ
    pub env : Env
    pub κ : Then
    pub deep : suc d + p.height ≡ ACTIVE + 1
    pub high : 1 ≤ p.height
    pub at : At q.ts t q.defs L node e
    pub sized : p.size ≡ length L
    pub binds : Binds q.ts w p.base L env
    pub room : p.base + length L + WAITING * suc d ≤ WAITING * ACTIVE + slack e
    pub stack : Stack q t w (suc d) p.height (p.base + length L) s.cells s.births κ
    pub means : then (step q.fs (eval q.fs d) e env (memory w o s)) κ ≡ q.whole

  -- a value goes to the frames
  pub record Gives (v : Value) (p : Spot) (s : Tally) : Type 0 where
    pub scene : Scene q.ts t q.defs q.fs
    pub fair : Fair q w o s p.height
    pub d : ℕ
    pub a : ℕ
    pub κ : Then
    pub deep : d + p.height ≡ ACTIVE + 1
    pub high : 1 ≤ p.height
    pub stack : Stack q t w d p.height a s.cells s.births κ
    pub means : κ (meant v) (memory w o s) ≡ q.whole

  -- a value goes to the last frame, which is read
  pub record Resumes (v : Value) (row phase : ℕ) (p : Spot) (s : Tally) : Type 0 where
    pub scene : Scene q.ts t q.defs q.fs
    pub fair : Fair q w o s (suc p.height)
    pub d : ℕ
    pub u : ℕ
    pub n : ℕ
    pub b : ℕ
    pub mark : ℕ
    pub L : List ℕ
    pub env : Env
    pub κ : Then
    pub κ' : Then
    pub deep : suc d + p.height ≡ ACTIVE + 1
    pub there : FrameAt w p.height row phase p.base (length L) mark
    pub sized : p.size ≡ length L
    pub binds : Binds q.ts w p.base L env
    pub later : Later w n b s.cells s.births
    pub waits : Waits q t w d row p.base mark n b L env κ κ' u phase
    pub stack : Stack q t w (suc d) p.height (p.base + length L) n b κ
    pub means : κ' (meant v) (memory w o s) ≡ q.whole

  -- it is over
  pub record Ends (e : Ending) (v : Value) (s : Tally) : Type 0 where
    pub fair : Fair q w o s 0
    pub tells : ended e v (memory w o s) ≡ q.whole

  abbrev pub GoodBy : Mode → Next → Type 0
  GoodBy Mode.Begin r = Begins r.node r.spot r.tally
  GoodBy Mode.Give r = Gives r.value r.spot r.tally
  GoodBy Mode.Over r = Ends Ending.complete r.value r.tally
  GoodBy (Mode.Halt y i) r = Ends (Ending.stopped y i) r.value r.tally

  abbrev pub Good : Next → Type 0
  Good r = GoodBy r.mode r

-- ---- the answers of the functions

-- one unit less
abbrev pub charged : Tally → Tally
charged s = record { units = s.units - 1; births = s.births; cells = s.cells; printed = s.printed }

-- above one frame more, with these slots in sight
abbrev pub above : ℕ → ℕ → Spot → Spot
above base size p = record { base = base; size = size; height = p.height + 1 }

abbrev pub begun : ℕ → Value → Spot → Tally → Next
begun node v p s = record { mode = Mode.Begin; node = node; value = v; spot = p; tally = s }

abbrev pub given : Value → Spot → Tally → Next
given v p s = record { mode = Mode.Give; node = 0; value = v; spot = p; tally = s }

abbrev pub over : Ending → Value → Spot → Tally → Next
over e v p s = record { mode = ending_mode e; node = 0; value = v; spot = p; tally = s }

abbrev pub onward : Outcome → ℕ → Value → Spot → Tally → Next
onward (P.Ok x) i v p s = given x p s
onward (P.Err y) i v p s = over (Ending.stopped y i) v p s

-- ---- what the functions ask and promise

-- how far it is to the end: a node that begins uses a unit, and a value lowers the frames or begins a node
abbrev pub weight_by : Mode → Next → ℕ
weight_by Mode.Begin r = 3 * r.tally.units + r.spot.height + 1
weight_by Mode.Give r = 3 * r.tally.units + r.spot.height + 2
weight_by Mode.Over r = 0
weight_by (Mode.Halt y i) r = 0

abbrev pub weight : Next → ℕ
weight r = weight_by r.mode r

abbrev pub running_by : Mode → Bool
running_by Mode.Begin = true
running_by Mode.Give = true
running_by Mode.Over = false
running_by (Mode.Halt y i) = false

abbrev pub running : Next → Bool
running r = running_by r.mode

-- some run stands so, with some output
pub record Some (Before : Run → List ℕ → Type 0) : Type 0 where
  pub q : Run
  pub o : List ℕ
  pub holds : Before q o

-- every run that stood so stands where the answer says, and nearer to its end; the output stays
pub record Goes (Before : Run → List ℕ → Type 0) (t w' : List ℕ) (m : ℕ) (r : Next) : Type 0 where
  pub right : (q : Run) (o : List ℕ) → Before q o → Good q t w' o r
  pub less : weight r < m

-- the same where the output may change
pub record Any (Before : Run → Type 0) : Type 0 where
  pub q : Run
  pub holds : Before q

pub record Prints (Before : Run → Type 0) (t w' o' : List ℕ) (m : ℕ) (r : Next) : Type 0 where
  pub right : (q : Run) → Before q → Good q t w' o' r
  pub less : weight r < m

-- the frame waits for the last argument of its call, which has the number k
pub record LastOf (t w : List ℕ) (h k : ℕ) : Type 0 where
  pub number : k ≡ frame_mark w h % TAGS
  pub last : row_word t (frame_mark w h / TAGS) NEXT ≡ 0

-- what printing a value, or making a cell of it, comes to
pub record Printing (i : ℕ) (v : Value) (o o' : List ℕ) (p : Spot) (s : Tally) (r : Next) : Type 0 where
  pub outcome : Outcome
  pub printed : Printed (meant v) o o' s outcome
  pub is : r ≡ onward outcome i v p (after_byte outcome s)

pub record Creating (i : ℕ) (v : Value) (w w' : List ℕ) (p : Spot) (s : Tally) (r : Next) : Type 0 where
  pub outcome : Outcome
  pub created : Created (meant v) w w' s outcome
  pub is : r ≡ onward outcome i v p (after_birth outcome s)

-- what is noted of the call at a row can be read
pub record Heads (t : List ℕ) (node : ℕ) : Type 0 where
  pub long : TABLE ≤ length t
  pub inside : node < NODES
  pub token : row_word t node OWN < TOKENS

-- the row of the function that it calls, by what is noted
abbrev pub row_noted : ℕ → P.Option ℕ
row_noted n = cond (eqb n NOBODY) P.None (P.Some n)

abbrev pub callee : List ℕ → ℕ → P.Option ℕ
callee t node = row_noted (noted t (row_word t node OWN))

-- a function whose row can be read
pub record Callable (t : List ℕ) (row : ℕ) : Type 0 where
  pub long : TABLE ≤ length t
  pub inside : row < NODES

-- the body of the function at a row begins
pub record Enters (t w w' : List ℕ) (node row : ℕ) (v : Value) (p : Spot) (s : Tally) (r : Next) : Type 0 where
  pub laid : w' ≡ put_frame w p.height node LAST p.base p.size 0
  pub is : r ≡ begun (row_word t row BODY) v (above (p.base + p.size) (row_word t row ARITY) p) s

-- a part of a turn of the loop goes on, or leaves alone what it is not for
pub record Turns (t w o w' o' : List ℕ) (n r : Next) (mode : Mode) : Type 0 where
  pub right : (q : Run) → Good q t w o n → Good q t w' o' r
  pub nearer : n.mode ≡ mode → weight r < weight n
  pub still : (n.mode ≡ mode → ⊥) → r ≡ n

pub record Steps (t w o w' o' : List ℕ) (n r : Next) : Type 0 where
  pub right : (q : Run) → Good q t w o n → Good q t w' o' r
  pub less : running n ≡ true → weight r < weight n

-- the loop is over, and stands where it should
pub record Ran (t w o w' o' : List ℕ) (n r : Next) : Type 0 where
  pub over : running r ≡ false
  pub right : (q : Run) → Good q t w o n → Good q t w' o' r
