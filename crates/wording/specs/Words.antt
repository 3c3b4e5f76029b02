-- Why a sheet does not pay, in words: a row for each cause. Its number is `Causes.cause_number`; the gate holds README's
-- table of the numbers against these rows.
use Rattle.std.specs.Prelude.{List, ◌++◌, ℕ}
use Rattle.language.specs.Tokens.{spell}
use Rattle.numbers.specs.declared.Flaw.{Flaw}
use Rattle.numbers.specs.declared.Reason.{Reason}
use Rattle.numbers.specs.declared.Refusal.{Refusal}
use Rattle.numbers.specs.declared.Stop.{Stop}
use Rattle.wording.specs.Types.{type_words}
use Rattle.wording.specs.declared.causes.Cause.{Cause}

unfoldable pub flaw_words : Flaw → List ℕ
flaw_words Flaw.StrangeByte = spell "a byte that begins no token"
flaw_words Flaw.OpenComment = spell "a comment that is never closed"
flaw_words Flaw.LargeNumber = spell "a number over 2147483647"
flaw_words Flaw.LongFloat = spell "a number with a point and more than 15 digits"
flaw_words Flaw.ManyTokens = spell "more than 1360 tokens"

unfoldable pub reason_words : Reason → List ℕ
reason_words Reason.TooManyFunctions = spell "more than 32 functions"
reason_words Reason.TooManyParameters = spell "more than 8 parameters"
reason_words Reason.FunctionTwice = spell "a function of this name is there already"
reason_words Reason.ParameterTwice = spell "a parameter of this name is there already"
reason_words Reason.NoBinding = spell "no variable of this name is in sight"
reason_words Reason.NoFunction = spell "no function of this name is in sight"
reason_words Reason.WrongNumber = spell "the function takes another number of arguments"
reason_words Reason.WrongArgument = spell "the function takes an argument of another type"
reason_words Reason.WrongOperand = spell "the operator takes an operand of another type"
reason_words Reason.WrongOperands = spell "the operator takes operands of other types"
reason_words Reason.NotUnit = spell "what stands before ; or in a loop has to be unit"
reason_words Reason.NotBool = spell "the condition has to be a bool"
reason_words Reason.NotInt = spell "start, end and step have to be ints"
reason_words Reason.BranchesDiffer = spell "then and else have different types"
reason_words Reason.WrongBody = spell "the body has another type than the function says"
reason_words Reason.TooManyRefs = spell "a type with more than 15 ref"

unfoldable pub refusal_words : Refusal → List ℕ
refusal_words Refusal.ShortMemory = spell "a memory is too short"
refusal_words Refusal.LargeAllowance = spell "the allowance is over 1000000"
refusal_words Refusal.NoEdition = spell "the edition is neither 1 nor 2"
refusal_words Refusal.LongSource = spell "the sheet has more than 49152 bytes"
refusal_words (Refusal.Text why) = flaw_words why
refusal_words Refusal.NoReading = spell "not a program: nothing that could follow stands here"
refusal_words (Refusal.Types why) = reason_words why
refusal_words Refusal.LongText = spell "what would be written is longer than the room for it"
refusal_words Refusal.NotHexadecimal = spell "not a whole line of hexadecimal digits"
refusal_words Refusal.WrongCount = spell "the count is not that of the lines under it"
refusal_words Refusal.NotOneToken = spell "the line is not exactly one token"
refusal_words Refusal.EndlessNode = spell "a pay sheet has no loop and no function that calls itself"
refusal_words Refusal.ManyUnits = spell "the sheet may use more than 1000000 units"

unfoldable pub stop_words : Stop → List ℕ
stop_words Stop.NoUnit = spell "stopped: the allowance is used up"
stop_words Stop.TooDeep = spell "stopped: too deep, 512 nodes are at work"
stop_words Stop.OutOfRange = spell "stopped: a result does not fit 32 bits"
stop_words Stop.ZeroDivisor = spell "stopped: a division by zero"
stop_words Stop.CellFreed = spell "stopped: a cell is used after its block ended"
stop_words Stop.CellsFull = spell "stopped: all 1024 cells are in use"
stop_words Stop.NotAByte = spell "stopped: putchar takes 0 to 255"
stop_words Stop.OutputFull = spell "stopped: the output is full, it holds 65536 bytes"
stop_words Stop.ZeroStep = spell "stopped: a counted loop with a step of zero"

-- ---- where it is the call under the sheet that is refused

-- what is wrong with `pay`
unfoldable pub pay_words : Reason → List ℕ
pay_words Reason.NoFunction = spell "the sheet has no function pay"
pay_words Reason.WrongNumber = spell "pay does not take two arguments"
pay_words Reason.WrongArgument = spell "pay does not take two ints"
pay_words Reason.NoBinding = spell "pay cannot be called"
pay_words Reason.WrongOperand = spell "pay cannot be called"
pay_words Reason.WrongOperands = spell "pay cannot be called"
pay_words Reason.NotUnit = spell "pay cannot be called"
pay_words Reason.NotBool = spell "pay cannot be called"
pay_words Reason.NotInt = spell "pay cannot be called"
pay_words Reason.BranchesDiffer = spell "pay cannot be called"
pay_words Reason.WrongBody = spell "pay cannot be called"
pay_words Reason.TooManyRefs = spell "pay cannot be called"
pay_words Reason.TooManyFunctions = spell "pay cannot be called"
pay_words Reason.TooManyParameters = spell "pay cannot be called"
pay_words Reason.FunctionTwice = spell "pay cannot be called"
pay_words Reason.ParameterTwice = spell "pay cannot be called"

unfoldable pub called_words : Refusal → List ℕ
called_words Refusal.LongSource = spell "with its call the sheet has more than 49152 bytes"
called_words (Refusal.Text why) = spell "with its call the sheet has more than 1360 tokens"
called_words Refusal.NoReading = spell "with its call the sheet is no program: its last function may not be finished"
called_words (Refusal.Types why) = pay_words why
called_words Refusal.ShortMemory = refusal_words Refusal.ShortMemory
called_words Refusal.LargeAllowance = refusal_words Refusal.LargeAllowance
called_words Refusal.NoEdition = refusal_words Refusal.NoEdition
called_words Refusal.LongText = refusal_words Refusal.LongText
called_words Refusal.NotHexadecimal = refusal_words Refusal.NotHexadecimal
called_words Refusal.WrongCount = refusal_words Refusal.WrongCount
called_words Refusal.NotOneToken = refusal_words Refusal.NotOneToken
called_words Refusal.EndlessNode = refusal_words Refusal.EndlessNode
called_words Refusal.ManyUnits = refusal_words Refusal.ManyUnits

-- ---- all

unfoldable pub wage_words : (type_number : ℕ) → List ℕ
wage_words k = spell "pay gives " ++ type_words k ++ spell ", and a wage is an int"

unfoldable pub cause_words : Cause → List ℕ
cause_words (Cause.Refused why) = refusal_words why
cause_words (Cause.Called why) = called_words why
cause_words (Cause.Stopped why) = stop_words why
cause_words Cause.Complete = spell "the sheet is whole already: slip run and slip check --whole take it as it stands"
cause_words (Cause.NoWage k) = wage_words k
cause_words Cause.NoBook = spell "no function pay from two ints to int, or something outside the functions"
cause_words Cause.ManyLines = spell "more than 65536 lines; the report is of the first 65536"
