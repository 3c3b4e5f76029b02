-- `stops_of` reads one count after the other.
use mathlib.Core.List.{[], ◌∷◌}
use Rattle.records.proofs.readings.stops_of.Goals as goal

pub returns : goal.returns
returns c =
    λ i.
    c.count_of.ensures i
    ∷ c.count_of-2.ensures i
    ∷ c.count_of-3.ensures i
    ∷ c.count_of-4.ensures i
    ∷ c.count_of-5.ensures i
    ∷ c.count_of-6.ensures i
    ∷ c.count_of-7.ensures i
    ∷ c.count_of-8.ensures i
    ∷ c.count_of-9.ensures i
    ∷ []
