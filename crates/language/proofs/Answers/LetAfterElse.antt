-- R05.3, by computation: the sheet is one `if`, and the let behind its `else` has a body of two items.
use mathlib.Core.List.{List, []}
use mathlib.Core.Bool.{true}
use mathlib.Core.Path.{◌≡◌, refl, subst}
use Prim.Native.Nat.{ℕ}
use native.Mathlib.Decide.{dec_le, dec_lt, ℕ_discrete}
use Rattle.language.specs.Sizes.{BOX}
use Rattle.language.specs.Tokens.{EDITION_1, Token, spell, same, spelled, entry, kind_at, value_at, spelling_at}
use Rattle.language.specs.Trees.{unit, whole, truth, trivial, literal, follow, bind, branch, Program, refs, size, nearest}
use Rattle.language.specs.Answers.{from_text, Passes}
use Rattle.language.proofs.Executable.Parses as Parses
use Rattle.language.proofs.Executable.Parser as Parser
use Rattle.language.proofs.Executable.Checks as Checks
use Rattle.language.proofs.Executable.Operators.{unop, binop, if_yes, both}
use Rattle.language.proofs.Executable.Checker.{check, check_from, infer, literal_type, unbound, same_types, join}
use Rattle.language.proofs.Text.Marks.{laws_1}
use Rattle.language.proofs.Answers.Origins.{text_lawful, passes, Comes, fate, fate_comes}

abbrev pub sheet : List ℕ
sheet = spell "if true then tt else let x=1 in tt; tt"

abbrev pub tree : Program
tree = record {
  defs = [];
  main = branch 0 (literal 1 (truth true)) (literal 3 trivial)
      (bind 5 (spell "x") (literal 8 (whole 1)) (follow 11 (literal 10 trivial) (literal 12 trivial)));
}

worked_out : (ts : List Token) × (fate {σ = BOX} (text_lawful laws_1 sheet) ≡ passes ts tree unit)
unfolding fate text_lawful dec_le dec_lt ℕ_discrete Parser.answer Parser.parse Parser.step Parses.then Parses.test
    Parses.look Parses.need kind_at value_at spelling_at entry same spelled check check_from infer literal_type unbound
    same_types join unop binop if_yes both nearest size refs Checks.after Checks.told Checks.need
worked_out = (_, refl)

pub one_if : (ts : List Token) × Passes (from_text EDITION_1 sheet) ts tree unit
one_if = (worked_out.0, subst (Comes BOX (from_text EDITION_1 sheet)) worked_out.1 (fate_comes (text_lawful laws_1 sheet)))
