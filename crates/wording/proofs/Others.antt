-- The last case of a match, which takes what the others leave: the words for it are the same for all of these.
use mathlib.Core.List.{[]}
use mathlib.Core.Path.{◌≡◌, refl}
use Rattle.layout.specs.Values.{meant}
use Rattle.layout.specs.declared.values.Value as Value
use Rattle.language.specs.Tokens.{spell}
use Rattle.numbers.specs.declared.Flaw as Flaw
use Rattle.numbers.specs.declared.Reason as Reason
use Rattle.numbers.specs.declared.Refusal as Refusal
use Rattle.wording.specs.Words.{refusal_words, pay_words, called_words}
use Rattle.wording.specs.Values.{bits_words}

pub other_reason : (why : Reason.Reason) → (why ≡ Reason.TheVariants.NoFunction → ⊥) → (why ≡ Reason.TheVariants.WrongNumber → ⊥)
    → (why ≡ Reason.TheVariants.WrongArgument → ⊥)
    → spell "pay cannot be called" ≡ pay_words why
unfolding pay_words
other_reason Reason.TheVariants.NoBinding a b c = refl
other_reason Reason.TheVariants.NoFunction a b c = absurd (a refl)
other_reason Reason.TheVariants.WrongNumber a b c = absurd (b refl)
other_reason Reason.TheVariants.WrongArgument a b c = absurd (c refl)
other_reason Reason.TheVariants.WrongOperand a b c = refl
other_reason Reason.TheVariants.WrongOperands a b c = refl
other_reason Reason.TheVariants.NotUnit a b c = refl
other_reason Reason.TheVariants.NotBool a b c = refl
other_reason Reason.TheVariants.NotInt a b c = refl
other_reason Reason.TheVariants.BranchesDiffer a b c = refl
other_reason Reason.TheVariants.WrongBody a b c = refl
other_reason Reason.TheVariants.TooManyRefs a b c = refl
other_reason Reason.TheVariants.TooManyFunctions a b c = refl
other_reason Reason.TheVariants.TooManyParameters a b c = refl
other_reason Reason.TheVariants.FunctionTwice a b c = refl
other_reason Reason.TheVariants.ParameterTwice a b c = refl

pub other_refusal : (why : Refusal.Refusal) → (why ≡ Refusal.TheVariants.LongSource → ⊥) → ((w : Flaw.Flaw) → why ≡ Refusal.TheVariants.Text w → ⊥)
    → (why ≡ Refusal.TheVariants.NoReading → ⊥) → ((w : Reason.Reason) → why ≡ Refusal.TheVariants.Types w → ⊥)
    → refusal_words why ≡ called_words why
unfolding called_words
other_refusal Refusal.TheVariants.ShortMemory a b c d = refl
other_refusal Refusal.TheVariants.LargeAllowance a b c d = refl
other_refusal Refusal.TheVariants.NoEdition a b c d = refl
other_refusal Refusal.TheVariants.LongSource a b c d = absurd (a refl)
other_refusal (Refusal.TheVariants.Text w) a b c d = absurd (b w refl)
other_refusal Refusal.TheVariants.NoReading a b c d = absurd (c refl)
other_refusal (Refusal.TheVariants.Types w) a b c d = absurd (d w refl)
other_refusal Refusal.TheVariants.LongText a b c d = refl
other_refusal Refusal.TheVariants.NotHexadecimal a b c d = refl
other_refusal Refusal.TheVariants.WrongCount a b c d = refl
other_refusal Refusal.TheVariants.NotOneToken a b c d = refl
other_refusal Refusal.TheVariants.EndlessNode a b c d = refl
other_refusal Refusal.TheVariants.ManyUnits a b c d = refl

-- a value that is no float has no bits
pub other_value : (v : Value.Value) → ((x : _) → v ≡ Value.TheVariants.Float x → ⊥) → [] ≡ bits_words (meant v)
unfolding bits_words
other_value (Value.TheVariants.Int z) a = refl
other_value (Value.TheVariants.Flag b) a = refl
other_value Value.TheVariants.Nothing a = refl
other_value (Value.TheVariants.Float x) a = absurd (a x refl)
other_value (Value.TheVariants.Cell n) a = refl
