-- 21 stood for a reading with too many nodes. No answer has that number any more (R02.4), and none needs it: whatever tokens
-- a lawful origin comes to, a reading of them has no more nodes than there may be (R02.2, R02.3).
use mathlib.Core.List.{List}
use mathlib.Core.Path.{◌≡◌}
use Prim.Native.Nat.{ℕ, ◌≤◌}
use native.Mathlib.Omega.{arith}
use Rattle.language.specs.Sizes.{Sizes, BOX}
use Rattle.language.specs.Tokens.{Token}
use Rattle.language.specs.Text as Text
use Rattle.language.specs.Trees.{Program, program_nodes}
use Rattle.language.specs.Grammar.{Reading}
use Rattle.language.specs.Faults as Faults
use Rattle.language.specs.State as State
use Rattle.language.specs.Numbers.{Refusal, short_memory, large_allowance, no_edition, long_source, text, no_reading, types, long_text}
use Rattle.language.specs.Numbers.{not_hexadecimal, wrong_count, not_one_token}
use Rattle.language.specs.Numbers.{endless_node, many_units}
use Rattle.language.specs.Numbers.{Told, passed, refused, stopped, number, flaw_number, reason_number, stop_number, refusal_number}
use Rattle.language.specs.Answers.{Origin}
use Rattle.language.specs.Shift.{ShiftRefusal, sheet, no_book, many_lines, shift_number}
use Rattle.language.proofs.Grammar.FewNodes.{never_too_large}
use Rattle.language.proofs.Answers.Origins.{LawfulUnder}

-- the number that is out of use
abbrev pub GONE : ℕ
GONE = 21

flaw_not : (f : Text.Flaw) → flaw_number f ≤ 15
flaw_not Text.Flaw.strange_byte = omega arith
flaw_not Text.Flaw.open_comment = omega arith
flaw_not Text.Flaw.large_number = omega arith
flaw_not Text.Flaw.many_tokens = omega arith
flaw_not Text.Flaw.long_float = omega arith

reason_not : (r : Faults.Reason) → 30 ≤ reason_number r
reason_not Faults.Reason.too_many_functions = omega arith
reason_not Faults.Reason.too_many_parameters = omega arith
reason_not Faults.Reason.function_twice = omega arith
reason_not Faults.Reason.parameter_twice = omega arith
reason_not Faults.Reason.no_binding = omega arith
reason_not Faults.Reason.no_function = omega arith
reason_not Faults.Reason.wrong_number = omega arith
reason_not Faults.Reason.wrong_argument = omega arith
reason_not Faults.Reason.wrong_operand = omega arith
reason_not Faults.Reason.wrong_operands = omega arith
reason_not Faults.Reason.not_unit = omega arith
reason_not Faults.Reason.not_bool = omega arith
reason_not Faults.Reason.not_int = omega arith
reason_not Faults.Reason.branches_differ = omega arith
reason_not Faults.Reason.wrong_body = omega arith
reason_not Faults.Reason.too_many_refs = omega arith

stop_not : (s : State.Stop) → 50 ≤ stop_number s
stop_not State.Stop.no_unit = omega arith
stop_not State.Stop.too_deep = omega arith
stop_not State.Stop.out_of_range = omega arith
stop_not State.Stop.zero_divisor = omega arith
stop_not State.Stop.cell_freed = omega arith
stop_not State.Stop.cells_full = omega arith
stop_not State.Stop.not_a_byte = omega arith
stop_not State.Stop.output_full = omega arith
stop_not State.Stop.zero_step = omega arith

refusal_not : (r : Refusal) → refusal_number r ≡ GONE → ⊥
refusal_not short_memory e = omega arith
refusal_not large_allowance e = omega arith
refusal_not no_edition e = omega arith
refusal_not long_source e = omega arith
refusal_not (text f) e = omega (arith, flaw_not f)
refusal_not no_reading e = omega arith
refusal_not (types r) e = omega (arith, reason_not r)
refusal_not long_text e = omega arith
refusal_not not_hexadecimal e = omega arith
refusal_not wrong_count e = omega arith
refusal_not not_one_token e = omega arith
refusal_not endless_node e = omega arith
refusal_not many_units e = omega arith

-- no answer tells it
pub not_again : (a : Told) → number a ≡ GONE → ⊥
not_again passed e = omega arith
not_again (refused r) e = refusal_not r e
not_again (stopped s) e = omega (arith, stop_not s)

-- nor does a shift
pub shift_not_again : (r : ShiftRefusal) → shift_number r ≡ GONE → ⊥
shift_not_again (sheet r) e = refusal_not r e
shift_not_again no_book e = omega arith
shift_not_again many_lines e = omega arith

-- and none needs it
pub never_needed : {σ : Sizes} {P : Type 0} {o : Origin P} → σ.tokens ≤ σ.nodes → LawfulUnder σ o → (ts : List Token) → o.gives ts
    → (p : Program) → Reading ts p → program_nodes p ≤ σ.nodes
never_needed {σ} room law ts g p r = never_too_large ts σ room p r (law.few ts g)

-- the box's sizes are such (R13.3)
pub box_has_nodes : BOX.tokens ≤ BOX.nodes
box_has_nodes = omega arith
