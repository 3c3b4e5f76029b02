-- Frames of work memory, behind the slots, and the cells behind them: what waits while a part of it is worked out, the
-- newest last. A frame has four words: a node's row, its phase, the first slot that it sees, and in one word how many
-- slots it sees and a mark, by its phase.
use Rattle.std.specs.Prelude.{List, ℕ, ◌+◌, ◌*◌, ◌/◌, ◌%◌, get_or, set}
use Rattle.language.specs.Sizes.{ACTIVE}
use Rattle.layout.specs.Slots.{SLOTS}

-- the words of a frame
abbrev pub NODE : ℕ
NODE = 0

abbrev pub PHASE : ℕ
PHASE = 1

abbrev pub BASE : ℕ
BASE = 2

abbrev pub MARK : ℕ
MARK = 3

-- a size is less than this, so a word has room for a mark above one
abbrev pub SIZES : ℕ
SIZES = 4096

-- one for each node that may be active, and one below them
abbrev pub FRAMES : ℕ
FRAMES = ACTIVE + 1

abbrev pub FRAMES_AT : ℕ
FRAMES_AT = 3 * SLOTS

abbrev pub CELLS_AT : ℕ
CELLS_AT = FRAMES_AT + 4 * FRAMES

-- word k of frame h
abbrev pub frame_word : List ℕ → ℕ → ℕ → ℕ
frame_word w h k = get_or w (FRAMES_AT + 4 * h + k) 0

abbrev pub frame_size : List ℕ → ℕ → ℕ
frame_size w h = frame_word w h MARK % SIZES

abbrev pub frame_mark : List ℕ → ℕ → ℕ
frame_mark w h = frame_word w h MARK / SIZES

unfoldable pub put_frame : List ℕ → ℕ → ℕ → ℕ → ℕ → ℕ → ℕ → List ℕ
put_frame w h node phase base size mark =
    set (set (set (set w (FRAMES_AT + 4 * h) node) (FRAMES_AT + 4 * h + PHASE) phase) (FRAMES_AT + 4 * h + BASE) base)
    (FRAMES_AT + 4 * h + MARK) (SIZES * mark + size)

unfoldable pub put_phase : List ℕ → ℕ → ℕ → List ℕ
put_phase w h phase = set w (FRAMES_AT + 4 * h + PHASE) phase
