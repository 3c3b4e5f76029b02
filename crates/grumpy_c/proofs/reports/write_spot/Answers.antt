-- `write_spot` writes three words, from word k on.
use mathlib.Core.Path.{refl}
use Rattle.grumpy_c.specs.Pairs.{spot_words}
use Rattle.grumpy_c.proofs.reports.write_spot.Goals as goal

pub returns : goal.returns
unfolding spot_words
returns c =
    refl
