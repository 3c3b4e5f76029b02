-- How long causes and types are in words at most, and their numbers.
use lib.Dec.{eqb}
use lib.ListN.{length, length-append}
use native.Mathlib.Omega.{arith}
use Prim.Native.Nat.{ℕ, ◌/◌, ◌%◌, ◌≤◌, min}
use Rattle.language.specs.Numbers.{flaw_number, reason_number, refusal_number, stop_number}
use Rattle.numbers.specs.Meanings.{flaw_meant, reason_meant, refusal_meant, stop_meant}
use Rattle.numbers.specs.declared.Flaw.{Flaw}
use Rattle.numbers.specs.declared.Reason.{Reason}
use Rattle.numbers.specs.declared.Refusal.{Refusal}
use Rattle.numbers.specs.declared.Stop.{Stop}
use Rattle.wording.specs.Causes.{cause_number}
use Rattle.wording.specs.Types.{base_words, ref_words, type_words, type_line}
use Rattle.wording.specs.Words.{flaw_words, reason_words, refusal_words, stop_words, pay_words, called_words}
use Rattle.wording.specs.Words.{wage_words, cause_words}
use Rattle.wording.specs.declared.causes.Cause.{Cause}
use Rattle.wording.proofs.Lengths.{either}
use Rattle.wording.proofs.Refs.{refs_long}

-- ---- types

base_few : (n : ℕ) → length (base_words n) ≤ 5
unfolding base_words
base_few n =
    either (eqb n 1) _ _ 5 (omega arith)
    (either (eqb n 2) _ _ 5 (omega arith) (either (eqb n 4) _ _ 5 (omega arith) (omega arith)))

pub type_few : (n : ℕ) → length (type_words n) ≤ 65
unfolding type_words
type_few n =
    omega (arith, length-append (base_words (n % 8)) (ref_words (min (n / 8) 15)), base_few (n % 8), refs_long (min (n / 8) 15))

pub type_line_few : (n : ℕ) → length (type_line n) ≤ 71
unfolding type_line
type_line_few n = simp length-append (omega (arith, type_few n))

-- ---- causes

flaw_few : (why : Flaw) → length (flaw_words why) ≤ 97
unfolding flaw_words
flaw_few Flaw.StrangeByte = omega arith
flaw_few Flaw.OpenComment = omega arith
flaw_few Flaw.LargeNumber = omega arith
flaw_few Flaw.LongFloat = omega arith
flaw_few Flaw.ManyTokens = omega arith

reason_few : (why : Reason) → length (reason_words why) ≤ 97
unfolding reason_words
reason_few Reason.NoBinding = omega arith
reason_few Reason.NoFunction = omega arith
reason_few Reason.WrongNumber = omega arith
reason_few Reason.WrongArgument = omega arith
reason_few Reason.WrongOperand = omega arith
reason_few Reason.WrongOperands = omega arith
reason_few Reason.NotUnit = omega arith
reason_few Reason.NotBool = omega arith
reason_few Reason.NotInt = omega arith
reason_few Reason.BranchesDiffer = omega arith
reason_few Reason.WrongBody = omega arith
reason_few Reason.TooManyRefs = omega arith
reason_few Reason.TooManyFunctions = omega arith
reason_few Reason.TooManyParameters = omega arith
reason_few Reason.FunctionTwice = omega arith
reason_few Reason.ParameterTwice = omega arith

refusal_few : (why : Refusal) → length (refusal_words why) ≤ 97
unfolding refusal_words
refusal_few Refusal.ShortMemory = omega arith
refusal_few Refusal.LargeAllowance = omega arith
refusal_few Refusal.NoEdition = omega arith
refusal_few Refusal.LongSource = omega arith
refusal_few (Refusal.Text why) = flaw_few why
refusal_few Refusal.NoReading = omega arith
refusal_few (Refusal.Types why) = reason_few why
refusal_few Refusal.LongText = omega arith
refusal_few Refusal.NotHexadecimal = omega arith
refusal_few Refusal.WrongCount = omega arith
refusal_few Refusal.NotOneToken = omega arith
refusal_few Refusal.EndlessNode = omega arith
refusal_few Refusal.ManyUnits = omega arith

pub stop_few : (why : Stop) → length (stop_words why) ≤ 97
unfolding stop_words
stop_few Stop.NoUnit = omega arith
stop_few Stop.TooDeep = omega arith
stop_few Stop.OutOfRange = omega arith
stop_few Stop.ZeroDivisor = omega arith
stop_few Stop.CellFreed = omega arith
stop_few Stop.CellsFull = omega arith
stop_few Stop.NotAByte = omega arith
stop_few Stop.OutputFull = omega arith
stop_few Stop.ZeroStep = omega arith

pay_few : (why : Reason) → length (pay_words why) ≤ 97
unfolding pay_words
pay_few Reason.NoBinding = omega arith
pay_few Reason.NoFunction = omega arith
pay_few Reason.WrongNumber = omega arith
pay_few Reason.WrongArgument = omega arith
pay_few Reason.WrongOperand = omega arith
pay_few Reason.WrongOperands = omega arith
pay_few Reason.NotUnit = omega arith
pay_few Reason.NotBool = omega arith
pay_few Reason.NotInt = omega arith
pay_few Reason.BranchesDiffer = omega arith
pay_few Reason.WrongBody = omega arith
pay_few Reason.TooManyRefs = omega arith
pay_few Reason.TooManyFunctions = omega arith
pay_few Reason.TooManyParameters = omega arith
pay_few Reason.FunctionTwice = omega arith
pay_few Reason.ParameterTwice = omega arith

called_few : (why : Refusal) → length (called_words why) ≤ 97
unfolding called_words
called_few Refusal.ShortMemory = refusal_few Refusal.ShortMemory
called_few Refusal.LargeAllowance = refusal_few Refusal.LargeAllowance
called_few Refusal.NoEdition = refusal_few Refusal.NoEdition
called_few Refusal.LongSource = omega arith
called_few (Refusal.Text why) = omega arith
called_few Refusal.NoReading = omega arith
called_few (Refusal.Types why) = pay_few why
called_few Refusal.LongText = refusal_few Refusal.LongText
called_few Refusal.NotHexadecimal = refusal_few Refusal.NotHexadecimal
called_few Refusal.WrongCount = refusal_few Refusal.WrongCount
called_few Refusal.NotOneToken = refusal_few Refusal.NotOneToken
called_few Refusal.EndlessNode = refusal_few Refusal.EndlessNode
called_few Refusal.ManyUnits = refusal_few Refusal.ManyUnits

pub cause_few : (why : Cause) → length (cause_words why) ≤ 97
unfolding cause_words wage_words
cause_few (Cause.Refused why) = refusal_few why
cause_few (Cause.Called why) = called_few why
cause_few (Cause.Stopped why) = stop_few why
cause_few Cause.Complete = omega arith
cause_few (Cause.NoWage k) = simp length-append (omega (arith, type_few k))
cause_few Cause.NoBook = omega arith
cause_few Cause.ManyLines = omega arith

-- ---- numbers

flaw_low : (why : Flaw) → flaw_number (flaw_meant why) ≤ 62
flaw_low Flaw.StrangeByte = omega arith
flaw_low Flaw.OpenComment = omega arith
flaw_low Flaw.LargeNumber = omega arith
flaw_low Flaw.LongFloat = omega arith
flaw_low Flaw.ManyTokens = omega arith

reason_low : (why : Reason) → reason_number (reason_meant why) ≤ 62
reason_low Reason.NoBinding = omega arith
reason_low Reason.NoFunction = omega arith
reason_low Reason.WrongNumber = omega arith
reason_low Reason.WrongArgument = omega arith
reason_low Reason.WrongOperand = omega arith
reason_low Reason.WrongOperands = omega arith
reason_low Reason.NotUnit = omega arith
reason_low Reason.NotBool = omega arith
reason_low Reason.NotInt = omega arith
reason_low Reason.BranchesDiffer = omega arith
reason_low Reason.WrongBody = omega arith
reason_low Reason.TooManyRefs = omega arith
reason_low Reason.TooManyFunctions = omega arith
reason_low Reason.TooManyParameters = omega arith
reason_low Reason.FunctionTwice = omega arith
reason_low Reason.ParameterTwice = omega arith

refusal_low : (why : Refusal) → refusal_number (refusal_meant why) ≤ 62
refusal_low Refusal.ShortMemory = omega arith
refusal_low Refusal.LargeAllowance = omega arith
refusal_low Refusal.NoEdition = omega arith
refusal_low Refusal.LongSource = omega arith
refusal_low (Refusal.Text why) = flaw_low why
refusal_low Refusal.NoReading = omega arith
refusal_low (Refusal.Types why) = reason_low why
refusal_low Refusal.LongText = omega arith
refusal_low Refusal.NotHexadecimal = omega arith
refusal_low Refusal.WrongCount = omega arith
refusal_low Refusal.NotOneToken = omega arith
refusal_low Refusal.EndlessNode = omega arith
refusal_low Refusal.ManyUnits = omega arith

pub stop_low : (why : Stop) → stop_number (stop_meant why) ≤ 62
stop_low Stop.NoUnit = omega arith
stop_low Stop.TooDeep = omega arith
stop_low Stop.OutOfRange = omega arith
stop_low Stop.ZeroDivisor = omega arith
stop_low Stop.CellFreed = omega arith
stop_low Stop.CellsFull = omega arith
stop_low Stop.NotAByte = omega arith
stop_low Stop.OutputFull = omega arith
stop_low Stop.ZeroStep = omega arith

pub cause_low : (why : Cause) → cause_number why ≤ 62
cause_low (Cause.Refused why) = refusal_low why
cause_low (Cause.Called why) = refusal_low why
cause_low (Cause.Stopped why) = stop_low why
cause_low Cause.Complete = refusal_low Refusal.NoReading
cause_low (Cause.NoWage k) = omega arith
cause_low Cause.NoBook = omega arith
cause_low Cause.ManyLines = omega arith
