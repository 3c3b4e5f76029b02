-- The table of numbers (S068 to S090, R01.2, R03.5, R08.2, R09.6, R10.2, R10.4, R12.2, R12.9): what an answer tells,
-- and the number of it; 46 and 47, which only a shift has, are in Shift. 21 stood for too many nodes, which no
-- reading has; it is not used again (R02.4).
use Rattle.std.specs.Prelude.{ℕ}
use Rattle.language.specs.Text.{Flaw, strange_byte, open_comment, large_number, many_tokens, long_float}
use Rattle.language.specs.Faults.{Reason, no_binding, no_function, wrong_number, wrong_argument}
use Rattle.language.specs.Faults.{wrong_operand, wrong_operands, not_unit, not_bool, not_int}
use Rattle.language.specs.Faults.{branches_differ, wrong_body, too_many_refs, too_many_functions}
use Rattle.language.specs.Faults.{too_many_parameters, function_twice, parameter_twice}
use Rattle.language.specs.State.{Stop, no_unit, too_deep, out_of_range, zero_divisor}
use Rattle.language.specs.State.{cell_freed, cells_full, not_a_byte, output_full, zero_step}

-- why nothing is run or written
pub data Refusal : Type 0 where
  short_memory large_allowance no_edition long_source : Refusal
  text : Flaw → Refusal
  no_reading : Refusal
  types : Reason → Refusal
  -- what a writer would write is too long
  long_text : Refusal
  -- a stored sheet's line or count is wrong (R09.6, R09.8)
  not_hexadecimal wrong_count not_one_token : Refusal
  -- a pay sheet has a loop, or may use too many units
  endless_node many_units : Refusal

-- a program passed or ran to a value, or nothing was run, or a run stopped
pub data Told : Type 0 where
  passed : Told
  refused : Refusal → Told
  stopped : Stop → Told

abbrev pub flaw_number : Flaw → ℕ
flaw_number strange_byte = 11
flaw_number open_comment = 12
flaw_number large_number = 13
flaw_number many_tokens = 14
flaw_number long_float = 15

abbrev pub reason_number : Reason → ℕ
reason_number too_many_functions = 30
reason_number too_many_parameters = 30
reason_number function_twice = 31
reason_number parameter_twice = 32
reason_number no_binding = 35
reason_number no_function = 36
reason_number wrong_number = 37
reason_number wrong_argument = 33
reason_number wrong_operand = 33
reason_number wrong_operands = 33
reason_number not_unit = 33
reason_number not_bool = 33
reason_number not_int = 33
reason_number branches_differ = 33
reason_number wrong_body = 33
reason_number too_many_refs = 34

abbrev pub refusal_number : Refusal → ℕ
refusal_number short_memory = 40
refusal_number large_allowance = 41
refusal_number no_edition = 42
refusal_number long_source = 10
refusal_number (text f) = flaw_number f
refusal_number no_reading = 20
refusal_number (types r) = reason_number r
refusal_number long_text = 44
refusal_number not_hexadecimal = 60
refusal_number wrong_count = 61
refusal_number not_one_token = 62
refusal_number endless_node = 43
refusal_number many_units = 45

abbrev pub stop_number : Stop → ℕ
stop_number no_unit = 50
stop_number too_deep = 51
stop_number out_of_range = 52
stop_number zero_divisor = 53
stop_number cell_freed = 54
stop_number cells_full = 55
stop_number not_a_byte = 56
stop_number output_full = 57
stop_number zero_step = 58

abbrev pub number : Told → ℕ
number passed = 0
number (refused r) = refusal_number r
number (stopped s) = stop_number s
