use Rattle.language.specs.Meaning.{type_number}
use Rattle.rules.proofs.CallLaws.{call_function, call_putchar, call_nobody}
use Rattle.rules.proofs.operators.call.Goals as goal

pub returns-in-Function : goal.returns-in-Function
returns-in-Function c =
    call_function _ _ c.in-Function.is c.link-arity.ensures c.word-result.ensures c.matched.ensures

pub returns-in-Putchar : goal.returns-in-Putchar
unfolding type_number
returns-in-Putchar c =
    call_putchar _ _ c.in-Putchar.is c.matched-in-Putchar.ensures

pub returns-in-Nobody : goal.returns-in-Nobody
returns-in-Nobody c =
    call_nobody _ _ c.in-Nobody.is
