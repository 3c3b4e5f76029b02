-- `named` looks the number up.
use Rattle.tokens.proofs.Editions.{one_named, two_named, none_named}
use Rattle.tokens.proofs.edition.named.Goals as goal

pub returns-in-1 : goal.returns-in-1
returns-in-1 c =
    one_named _ c.in-1.is

pub returns-in-2 : goal.returns-in-2
returns-in-2 c =
    two_named _ c.in-2.is

pub returns-in_default : goal.returns-in_default
returns-in_default c =
    none_named _ c.in_default.in_default-own.rest.0.1 c.in_default.in_default-own.rest.1
