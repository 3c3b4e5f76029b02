-- Whether a number names an edition, by what the code found for it.
use mathlib.Core.Path.{◌≡◌, sym, ap}
use Prim.Native.Nat.{ℕ}
use Rattle.language.specs.Edition as Language
use Rattle.language.specs.Edition.{is_known}
use Rattle.std.specs.Prelude.{Option, Some, None, is_some}
use Rattle.tokens.specs.Editions.{Names}
use Rattle.tokens.specs.declared.edition.Edition.{Edition}

pub named_known : (n : ℕ) (k : Option Edition) → Names n k → is_some k ≡ is_known n
unfolding is_known
named_known n (Some e) y = sym (ap Language.is_some y)
named_known n None y = sym (ap Language.is_some y)
