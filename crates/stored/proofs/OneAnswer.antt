-- No two answers of `read` meet its contract for the same edition and input; and where the sheet is good, no two tables do, but for the
-- words of rows and functions. What a sheet that is refused leaves among the words of tokens is not said: the services clear them.
use lib.ListN.{length}
use mathlib.Core.List.{List}
use mathlib.Core.Path.{◌≡◌, sym, ◌∙◌, ap, ap₂}
use Prim.Native.Nat.{ℕ}
use Rattle.language.proofs.Stored.Origin.{stored_lawful}
use Rattle.language.proofs.Text.Marks.{Laws}
use Rattle.language.specs.Tokens as Language
use Rattle.numbers.proofs.Apart.{same_refusal}
use Rattle.numbers.specs.Meanings.{refusal_meant}
use Rattle.tokens.proofs.Agreeing.{but_next, but_back}
use Rattle.tokens.specs.Forks.{ButRows}
use Rattle.stored.specs.Answer.{Whole, IsStored}
use Rattle.std.specs.Prelude.{Result, Ok, Err}
use Rattle.stored.specs.declared.Denied.{Denied}

module _ {voc : Language.Vocabulary} (laws : Laws voc) (t w v v' : List ℕ) where
  pub one_answer : (r r' : Result ℕ Denied) → IsStored voc t w v r → IsStored voc t w v' r' → r ≡ r'
  one_answer (Ok n) (Ok m) a b =
      ap Ok (a.count ∙ ap length ((stored_lawful laws t).one_list a.tokens b.tokens a.gives b.gives) ∙ sym b.count)
  one_answer (Ok n) (Err z) a b = absurd ((stored_lawful laws t).never_both a.tokens (refusal_meant z.why) z.line a.gives b.denies)
  one_answer (Err y) (Ok m) a b = absurd ((stored_lawful laws t).never_both b.tokens (refusal_meant y.why) y.line b.gives a.denies)
  one_answer (Err y) (Err z) a b =
      let e = (stored_lawful laws t).one_denial (refusal_meant y.why) (refusal_meant z.why) y.line z.line a.denies b.denies in
      ap₂ (λ h i. Err (record { why = h; line = i })) (same_refusal y.why z.why e.0) e.1

  pub one_table : {n m : ℕ} → Whole voc t w v n → Whole voc t w v' m → ButRows v v'
  one_table a b =
      let e = (stored_lawful laws t).one_list a.tokens b.tokens a.gives b.gives in
      but_next a.laid (but_back (rw e b.laid))
