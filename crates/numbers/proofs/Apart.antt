-- Meanings tell flaws, reasons, refusals and stops apart: each can be had back from what it stands for.
use mathlib.Core.Path.{◌≡◌, refl, sym, ap, ◌∙◌}
use Rattle.language.specs.Text as Text
use Rattle.language.specs.Faults as Faults
use Rattle.language.specs.State as State
use Rattle.language.specs.Numbers as Numbers
use Rattle.numbers.specs.Meanings.{flaw_meant, reason_meant, refusal_meant, stop_meant}
use Rattle.numbers.specs.declared.Flaw.{Flaw}
use Rattle.numbers.specs.declared.Reason.{Reason}
use Rattle.numbers.specs.declared.Refusal.{Refusal}
use Rattle.numbers.specs.declared.Stop.{Stop}

-- ---- flaws

abbrev pub flaw_of : Text.Flaw → Flaw
flaw_of Text.strange_byte = Flaw.StrangeByte
flaw_of Text.open_comment = Flaw.OpenComment
flaw_of Text.large_number = Flaw.LargeNumber
flaw_of Text.long_float = Flaw.LongFloat
flaw_of Text.many_tokens = Flaw.ManyTokens

pub flaw_back : (f : Flaw) → flaw_of (flaw_meant f) ≡ f
flaw_back Flaw.StrangeByte = refl
flaw_back Flaw.OpenComment = refl
flaw_back Flaw.LargeNumber = refl
flaw_back Flaw.LongFloat = refl
flaw_back Flaw.ManyTokens = refl

-- two that mean the same are the same
pub same_flaw : (f g : Flaw) → flaw_meant f ≡ flaw_meant g → f ≡ g
same_flaw f g e = sym (flaw_back f) ∙ ap flaw_of e ∙ flaw_back g

-- ---- reasons

abbrev pub reason_of : Faults.Reason → Reason
reason_of Faults.no_binding = Reason.NoBinding
reason_of Faults.no_function = Reason.NoFunction
reason_of Faults.wrong_number = Reason.WrongNumber
reason_of Faults.wrong_argument = Reason.WrongArgument
reason_of Faults.wrong_operand = Reason.WrongOperand
reason_of Faults.wrong_operands = Reason.WrongOperands
reason_of Faults.not_unit = Reason.NotUnit
reason_of Faults.not_bool = Reason.NotBool
reason_of Faults.not_int = Reason.NotInt
reason_of Faults.branches_differ = Reason.BranchesDiffer
reason_of Faults.wrong_body = Reason.WrongBody
reason_of Faults.too_many_refs = Reason.TooManyRefs
reason_of Faults.too_many_functions = Reason.TooManyFunctions
reason_of Faults.too_many_parameters = Reason.TooManyParameters
reason_of Faults.function_twice = Reason.FunctionTwice
reason_of Faults.parameter_twice = Reason.ParameterTwice

pub reason_back : (r : Reason) → reason_of (reason_meant r) ≡ r
reason_back Reason.NoBinding = refl
reason_back Reason.NoFunction = refl
reason_back Reason.WrongNumber = refl
reason_back Reason.WrongArgument = refl
reason_back Reason.WrongOperand = refl
reason_back Reason.WrongOperands = refl
reason_back Reason.NotUnit = refl
reason_back Reason.NotBool = refl
reason_back Reason.NotInt = refl
reason_back Reason.BranchesDiffer = refl
reason_back Reason.WrongBody = refl
reason_back Reason.TooManyRefs = refl
reason_back Reason.TooManyFunctions = refl
reason_back Reason.TooManyParameters = refl
reason_back Reason.FunctionTwice = refl
reason_back Reason.ParameterTwice = refl

-- two that mean the same are the same
pub same_reason : (r q : Reason) → reason_meant r ≡ reason_meant q → r ≡ q
same_reason r q e = sym (reason_back r) ∙ ap reason_of e ∙ reason_back q

-- ---- refusals

abbrev pub refusal_of : Numbers.Refusal → Refusal
refusal_of Numbers.short_memory = Refusal.ShortMemory
refusal_of Numbers.large_allowance = Refusal.LargeAllowance
refusal_of Numbers.no_edition = Refusal.NoEdition
refusal_of Numbers.long_source = Refusal.LongSource
refusal_of (Numbers.text f) = Refusal.Text (flaw_of f)
refusal_of Numbers.no_reading = Refusal.NoReading
refusal_of (Numbers.types r) = Refusal.Types (reason_of r)
refusal_of Numbers.long_text = Refusal.LongText
refusal_of Numbers.not_hexadecimal = Refusal.NotHexadecimal
refusal_of Numbers.wrong_count = Refusal.WrongCount
refusal_of Numbers.not_one_token = Refusal.NotOneToken
refusal_of Numbers.endless_node = Refusal.EndlessNode
refusal_of Numbers.many_units = Refusal.ManyUnits

pub refusal_back : (y : Refusal) → refusal_of (refusal_meant y) ≡ y
refusal_back Refusal.ShortMemory = refl
refusal_back Refusal.LargeAllowance = refl
refusal_back Refusal.NoEdition = refl
refusal_back Refusal.LongSource = refl
refusal_back (Refusal.Text f) = ap Refusal.Text (flaw_back f)
refusal_back Refusal.NoReading = refl
refusal_back (Refusal.Types r) = ap Refusal.Types (reason_back r)
refusal_back Refusal.LongText = refl
refusal_back Refusal.NotHexadecimal = refl
refusal_back Refusal.WrongCount = refl
refusal_back Refusal.NotOneToken = refl
refusal_back Refusal.EndlessNode = refl
refusal_back Refusal.ManyUnits = refl

-- two that mean the same are the same
pub same_refusal : (y z : Refusal) → refusal_meant y ≡ refusal_meant z → y ≡ z
same_refusal y z e = sym (refusal_back y) ∙ ap refusal_of e ∙ refusal_back z

-- ---- stops

abbrev pub stop_of : State.Stop → Stop
stop_of State.no_unit = Stop.NoUnit
stop_of State.too_deep = Stop.TooDeep
stop_of State.out_of_range = Stop.OutOfRange
stop_of State.zero_divisor = Stop.ZeroDivisor
stop_of State.cell_freed = Stop.CellFreed
stop_of State.cells_full = Stop.CellsFull
stop_of State.not_a_byte = Stop.NotAByte
stop_of State.output_full = Stop.OutputFull
stop_of State.zero_step = Stop.ZeroStep

pub stop_back : (s : Stop) → stop_of (stop_meant s) ≡ s
stop_back Stop.NoUnit = refl
stop_back Stop.TooDeep = refl
stop_back Stop.OutOfRange = refl
stop_back Stop.ZeroDivisor = refl
stop_back Stop.CellFreed = refl
stop_back Stop.CellsFull = refl
stop_back Stop.NotAByte = refl
stop_back Stop.OutputFull = refl
stop_back Stop.ZeroStep = refl

-- two that mean the same are the same
pub same_stop : (s w : Stop) → stop_meant s ≡ stop_meant w → s ≡ w
same_stop s w e = sym (stop_back s) ∙ ap stop_of e ∙ stop_back w
