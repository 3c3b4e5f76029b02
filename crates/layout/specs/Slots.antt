-- Slots of work memory, for bindings, operands and arguments that wait, and cells: three words each, a key and a tag in
-- one, and two for the value. A cell's key is its birth number; by the others' nothing is sought.
use Rattle.std.specs.Prelude.{List, ℕ, ◌+◌, ◌-◌, ◌*◌, ◌/◌, ◌%◌, get_or, set}
use Rattle.language.specs.Sizes.{TOKENS, ACTIVE, PARAMETERS}
use Rattle.language.specs.State as State
use Rattle.layout.specs.Values.{tag_of, low_of, high_of, value_in}
use Rattle.layout.specs.declared.values.Value.{Value}

-- tags are less than this, so a word has room for a key above one; and the largest key for which it has
abbrev pub TAGS : ℕ
TAGS = 8

abbrev pub KEYS : ℕ
KEYS = 268435456

-- in the place of a name's number, where an operand or an argument waits: no name has this number
abbrev pub HELD : ℕ
HELD = TOKENS + 1

-- A call that works out its last argument holds those before it, and a body's Block sees all of them: so many slots can
-- be in use.
abbrev pub WAITING : ℕ
WAITING = PARAMETERS - 1

abbrev pub SLOTS : ℕ
SLOTS = WAITING * ACTIVE + PARAMETERS

-- slot i of those from word `base` on
abbrev pub key_at : List ℕ → ℕ → ℕ → ℕ
key_at w base i = get_or w (base + 3 * i) 0 / TAGS

abbrev pub value_at : List ℕ → ℕ → ℕ → State.Value
value_at w base i =
    value_in (get_or w (base + 3 * i) 0 % TAGS) (get_or w (base + 3 * i + 1) 0) (get_or w (base + 3 * i + 2) 0)

unfoldable pub put_slot : List ℕ → ℕ → ℕ → ℕ → Value → List ℕ
put_slot w base i key v =
    set (set (set w (base + 3 * i) (TAGS * key + tag_of v)) (base + 3 * i + 1) (low_of v)) (base + 3 * i + 2)
    (high_of v)
