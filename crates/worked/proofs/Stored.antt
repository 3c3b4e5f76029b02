-- Texts and what is stored of them, and stored sheets and what they come to: tables, and one statement over the whole of each, by
-- computation.
use mathlib.Core.Bool.{Bool, true, false, ◌&&◌}
use mathlib.Core.List.{List, [], ◌∷◌, ◌++◌}
use mathlib.Core.Path.{◌≡◌, refl}
use lib.Dec.{eqb}
use native.Mathlib.Decide.{dec_le, dec_lt, ℕ_discrete}
use lib.ListN.{length}
use Prim.Native.Char.{code}
use Prim.Native.Nat.{ℕ, zero, suc}
use Prim.Native.String.{String}
use Rattle.language.specs.Sizes.{Sizes, BOX}
use Rattle.language.specs.Tokens.{Entry, ◌is◌, spell, same, spelled, entry, kind_at, value_at, spelling_at, Vocabulary, EDITION_1, EDITION_2}
use Rattle.language.specs.Trees.{refs, size, nearest}
use Rattle.language.specs.Faults.{unsuited}
use Rattle.language.specs.Numbers.{refusal_number}
use Rattle.language.specs.Edition.{edition}
use Rattle.language.specs.Stored.{capital, hex, line, count_line, token_lines, stored}
use Rattle.language.proofs.Executable.Parses as Parses
use Rattle.language.proofs.Executable.Parser as Parser
use Rattle.language.proofs.Executable.Checks as Checks
use Rattle.language.proofs.Executable.Operators.{arithmetic, unop, binop, if_yes, both}
use Rattle.language.proofs.Executable.Checker.{check, check_from, infer, literal_type, unbound, same_types, join}
use Rattle.language.proofs.Executable.Checker.{bounds, bounds_two, bounds_three}
use Rattle.language.proofs.Answers.Origins.{Fate, fails, passes, fate}
use Rattle.language.proofs.Text.Scanner.{scan, Result}
use Rattle.language.proofs.Text.Scanner.Result.{split, flawed}
use Rattle.language.proofs.Stored.Editions.{stored_in_lawful}
use Rattle.language.proofs.Stored.Reader.{Answer, given, denied, read_stored}
use Rattle.language.proofs.Sizes.OldBox.{OLD}

-- ---- stored

abbrev gives : Result → List ℕ → Bool
gives (split ts) form = same (stored ts) form
gives (flawed f p) form = false

-- every text of a table is stored as it says
unfoldable pub stores : Vocabulary → List (Entry String String) → Bool
unfolding scan stored count_line token_lines line hex capital same
stores voc [] = true
stores voc ((source is form) ∷ rows) = gives (scan BOX voc (spell source)) (spell form) && stores voc rows

-- R09.3, and spellings as they are: zeros before a number, capitals, a base
pub examples_stored :
    stores EDITION_1
    ("1+2" is "0003\n31\n2B\n32\n" ∷ "" is "0000\n" ∷ " 007 // weaver\n" is "0001\n303037\n" ∷ "Oz_ == 0xfF" is "0003\n4F7A5F\n3D3D\n30786646\n" ∷
    "/* a */x:=!y" is "0004\n78\n3A3D\n21\n79\n" ∷ "1.50" is "0001\n312E3530\n" ∷
    "1,1,1,1,1,1,1,1" is "000F\n31\n2C\n31\n2C\n31\n2C\n31\n2C\n31\n2C\n31\n2C\n31\n2C\n31\n" ∷ [])
    ≡ true
unfolding stores
examples_stored = refl

-- in the other edition with other tokens, of which the stored form says nothing
pub examples_stored_2 :
    (stores EDITION_1 ("for by" is "0002\n666F72\n6279\n" ∷ [])
    && stores EDITION_2 ("for by" is "0002\n666F72\n6279\n" ∷ "1..=2" is "0003\n31\n2E2E3D\n32\n" ∷ []))
    ≡ true
unfolding stores
examples_stored_2 = refl

-- ---- read

-- number and place; where there is none, how many tokens it comes to
abbrev comes : Answer → ℕ → ℕ → Bool
comes (given ts) n x = eqb n 0 && eqb x (length ts)
comes (denied r x) n y = eqb n (refusal_number r) && eqb y x

-- every input of a table comes to what it says, under these sizes
unfoldable pub reads : Sizes → Vocabulary → List (Entry String (Entry ℕ ℕ)) → Bool
unfolding read_stored
reads σ voc [] = true
reads σ voc ((input is (n is x)) ∷ rows) = comes (read_stored σ voc (spell input)) n x && reads σ voc rows

pub examples_good : reads BOX EDITION_1 ("0003\n31\n2B\n32\n" is (0 is 3) ∷ "0000\n" is (0 is 0) ∷ "0001\n303037\n" is (0 is 1) ∷ []) ≡ true
unfolding reads
examples_good = refl

-- 60: the first line
pub examples_first :
    reads BOX EDITION_1
    ("" is (60 is 1) ∷ "\n" is (60 is 1) ∷ "0000" is (60 is 1) ∷ "0551" is (60 is 1) ∷ "000\n" is (60 is 1) ∷ "00\n" is (60 is 1) ∷
    "00000\n" is (60 is 1) ∷ "000000\n" is (60 is 1) ∷ "000a\n" is (60 is 1) ∷ "000G\n" is (60 is 1) ∷ "0001\r\n31\r\n" is (60 is 1) ∷
    " 0001\n" is (60 is 1) ∷ [])
    ≡ true
unfolding reads
examples_first = refl

-- 60: a line further on, also past the count, and the first one wins
pub examples_lines :
    reads BOX EDITION_1
    ("0001\n3\n" is (60 is 2) ∷ "0001\n\n" is (60 is 2) ∷ "0001\n31" is (60 is 2) ∷ "0001\n2b\n" is (60 is 2) ∷ "0001\n3G\n" is (60 is 2) ∷
    "0001\n31 \n" is (60 is 2) ∷ "0001\n31\n\n" is (60 is 3) ∷ "0001\n31\n31" is (60 is 3) ∷ "0000\n31\n3\n20\n" is (60 is 3) ∷ [])
    ≡ true
unfolding reads
examples_lines = refl

-- 62: two tokens, a token and a blank, a blank, a comment, a strange byte, a number over its limit, too many digits with a point
pub examples_tokens :
    reads BOX EDITION_1
    ("0001\n312B\n" is (62 is 2) ∷ "0001\n3120\n" is (62 is 2) ∷ "0001\n20\n" is (62 is 2) ∷ "0001\n2F2F\n" is (62 is 2) ∷ "0001\n23\n" is (62 is 2) ∷
    "0001\n32313437343833363438\n" is (62 is 2) ∷ "0001\n313131313131313131313131313131312E\n" is (62 is 2) ∷ "0000\n31\n20\n3\n" is (62 is 3) ∷ [])
    ≡ true
unfolding reads
examples_tokens = refl

-- 14 before later lines, 61 behind them: `0550` is the largest count, with which the next line is looked at
pub examples_counts :
    reads BOX EDITION_1
    ("0550\n3\n" is (60 is 2) ∷ "0550\n31\n" is (61 is 1) ∷ "0551\n3\n" is (14 is 1) ∷ "0551\n" is (14 is 1) ∷ "FFFF\n3\n" is (14 is 1) ∷
    "FFFF\n" is (14 is 1) ∷ "0002\n31\n" is (61 is 1) ∷ "0000\n31\n" is (61 is 1) ∷ [])
    ≡ true
unfolding reads
examples_counts = refl

-- a whole sheet of so many tokens, each of them 1
abbrev ones : ℕ → List ℕ
ones zero = []
ones (suc n) = code "3" ∷ code "1" ∷ code "\n" ∷ ones n

-- R13.2: 1,360 tokens are read, one more is not, nor one more than the count says
pub limit_reached : comes (read_stored BOX EDITION_1 (spell "0550\n" ++ ones 1360)) 0 1360 ≡ true
unfolding read_stored
limit_reached = refl

pub limit_passed :
    (comes (read_stored BOX EDITION_1 (spell "0551\n" ++ ones 1361)) 14 1 && comes (read_stored BOX EDITION_1 (spell "0550\n" ++ ones 1361)) 61 1)
    ≡ true
unfolding read_stored
limit_passed = refl

-- R12.12: a line is a token by the caller's edition
pub examples_editions : (reads BOX EDITION_1 ("0001\n2E2E\n" is (62 is 2) ∷ []) && reads BOX EDITION_2 ("0001\n2E2E\n" is (0 is 1) ∷ [])) ≡ true
unfolding reads
examples_editions = refl

-- ---- refused by its tokens

abbrev ends : Fate ℕ → ℕ → ℕ → Bool
ends (fails r x) n y = eqb n (refusal_number r) && eqb y x
ends (passes ts p t) n y = eqb n 0 && eqb y 0

-- number and place of a check with memory enough, in an edition
unfoldable pub fares : ℕ → List (Entry String (Entry ℕ ℕ)) → Bool
unfolding fate stored_in_lawful edition dec_le dec_lt ℕ_discrete Parser.answer Parser.parse Parser.step Parses.then
    Parses.test Parses.look Parses.need kind_at value_at spelling_at entry same spelled check check_from infer
    literal_type unbound same_types join bounds bounds_two bounds_three arithmetic unop binop if_yes both nearest size
    refs unsuited Checks.after Checks.told Checks.need
fares m [] = true
fares m ((input is (n is x)) ∷ rows) = ends (fate (stored_in_lawful m (spell input))) n x && fares m rows

-- R09.9: the line of a token, and one past the last for the end
pub examples_fares :
    fares 1
    ("0003\n31\n2B\n32\n" is (0 is 0) ∷ "0000\n" is (20 is 2) ∷ "0002\n31\n2B\n" is (20 is 4) ∷ "0002\n31\n29\n" is (20 is 3) ∷
    "0003\n31\n2B\n78\n" is (35 is 4) ∷ "0003\n31\n2B\n7474\n" is (33 is 3) ∷ [])
    ≡ true
unfolding fares
examples_fares = refl

-- `for i in 0..2{tt}`, stored, in each edition and in none (R12.2, R12.12)
abbrev pub loop_stored : String
loop_stored = "0009\n666F72\n69\n696E\n30\n2E2E\n32\n7B\n7474\n7D\n"

pub examples_named :
    (fares 2 (loop_stored is (0 is 0) ∷ []) && fares 1 (loop_stored is (62 is 6) ∷ "0000\n" is (20 is 2) ∷ [])
    && fares 3 (loop_stored is (42 is 0) ∷ "" is (42 is 0) ∷ []))
    ≡ true
unfolding fares
examples_named = refl

-- a box of the sizes before (R13.4): one token more than its largest count is 14, before any later line is looked at
pub old_examples : reads OLD EDITION_1 ("0400\n3\n" is (60 is 2) ∷ "0400\n31\n" is (61 is 1) ∷ "0401\n3\n" is (14 is 1) ∷ "0401\n" is (14 is 1) ∷ []) ≡ true
unfolding reads
old_examples = refl
