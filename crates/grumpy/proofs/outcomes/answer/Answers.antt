-- The place that a stop is told at is the source's.
use mathlib.Core.Path.{◌≡◌, ap}
use Rattle.std.proofs.Common.{rules}
use Rattle.grumpy.specs.Outcomes.{EndsAt}
use Prim.Native.Nat.{ℕ}
use Rattle.std.specs.Prelude.{Ok}
use Rattle.grumpy.specs.declared.answers.Ending.{Ending}
use Rattle.grumpy.specs.Reports.{RanAt}
use Rattle.grumpy.proofs.Services.{ends_there}
use Rattle.grumpy.proofs.outcomes.answer.Goals as goal

abbrev ended : ℕ → Ending ℕ → RanAt ℕ
ended n e = Ok (record { type_number = n; ending = e })

pub returns : goal.returns
returns c =
    let x : EndsAt (λ (i : ℕ) (x : ℕ). x ≡ c.stopped_at-place.result) c.args.ending c.told_at-ending.result = search rules in
    ap (ended c.args.type_number) (ends_there _ _ c.args.ending _ c.stopped_at-place.ensures x)
