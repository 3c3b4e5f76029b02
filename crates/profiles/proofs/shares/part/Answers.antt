use Rattle.profiles.proofs.ShareLaws.{earlier_most}
use native.Mathlib.Omega.{arith}
use Rattle.profiles.proofs.shares.part.Goals as goal

pub get-requires : goal.get-requires
get-requires c = (
  c.requires.0,
  omega (
    arith,
    c.earlier-named.ensures,
    c.requires.1,
    earlier_most c.args.table.now c.args.row c.args.k,
  ),
)
