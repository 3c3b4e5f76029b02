-- What the code's flaws, reasons, refusals and stops stand for in the written language.
use Rattle.language.specs.Text as Text
use Rattle.language.specs.Faults as Faults
use Rattle.language.specs.State as State
use Rattle.language.specs.Numbers as Numbers
use Rattle.numbers.specs.declared.Flaw.{Flaw}
use Rattle.numbers.specs.declared.Reason.{Reason}
use Rattle.numbers.specs.declared.Refusal.{Refusal}
use Rattle.numbers.specs.declared.Stop.{Stop}

abbrev pub flaw_meant : Flaw → Text.Flaw
flaw_meant Flaw.StrangeByte = Text.strange_byte
flaw_meant Flaw.OpenComment = Text.open_comment
flaw_meant Flaw.LargeNumber = Text.large_number
flaw_meant Flaw.LongFloat = Text.long_float
flaw_meant Flaw.ManyTokens = Text.many_tokens

abbrev pub reason_meant : Reason → Faults.Reason
reason_meant Reason.NoBinding = Faults.no_binding
reason_meant Reason.NoFunction = Faults.no_function
reason_meant Reason.WrongNumber = Faults.wrong_number
reason_meant Reason.WrongArgument = Faults.wrong_argument
reason_meant Reason.WrongOperand = Faults.wrong_operand
reason_meant Reason.WrongOperands = Faults.wrong_operands
reason_meant Reason.NotUnit = Faults.not_unit
reason_meant Reason.NotBool = Faults.not_bool
reason_meant Reason.NotInt = Faults.not_int
reason_meant Reason.BranchesDiffer = Faults.branches_differ
reason_meant Reason.WrongBody = Faults.wrong_body
reason_meant Reason.TooManyRefs = Faults.too_many_refs
reason_meant Reason.TooManyFunctions = Faults.too_many_functions
reason_meant Reason.TooManyParameters = Faults.too_many_parameters
reason_meant Reason.FunctionTwice = Faults.function_twice
reason_meant Reason.ParameterTwice = Faults.parameter_twice

abbrev pub refusal_meant : Refusal → Numbers.Refusal
refusal_meant Refusal.ShortMemory = Numbers.short_memory
refusal_meant Refusal.LargeAllowance = Numbers.large_allowance
refusal_meant Refusal.NoEdition = Numbers.no_edition
refusal_meant Refusal.LongSource = Numbers.long_source
refusal_meant (Refusal.Text f) = Numbers.text (flaw_meant f)
refusal_meant Refusal.NoReading = Numbers.no_reading
refusal_meant (Refusal.Types r) = Numbers.types (reason_meant r)
refusal_meant Refusal.LongText = Numbers.long_text
refusal_meant Refusal.NotHexadecimal = Numbers.not_hexadecimal
refusal_meant Refusal.WrongCount = Numbers.wrong_count
refusal_meant Refusal.NotOneToken = Numbers.not_one_token
refusal_meant Refusal.EndlessNode = Numbers.endless_node
refusal_meant Refusal.ManyUnits = Numbers.many_units

abbrev pub stop_meant : Stop → State.Stop
stop_meant Stop.NoUnit = State.no_unit
stop_meant Stop.TooDeep = State.too_deep
stop_meant Stop.OutOfRange = State.out_of_range
stop_meant Stop.ZeroDivisor = State.zero_divisor
stop_meant Stop.CellFreed = State.cell_freed
stop_meant Stop.CellsFull = State.cells_full
stop_meant Stop.NotAByte = State.not_a_byte
stop_meant Stop.OutputFull = State.output_full
stop_meant Stop.ZeroStep = State.zero_step
