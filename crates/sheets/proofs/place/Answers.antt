use Rattle.sheets.proofs.Layers.{byte_inside, byte_past}
use Rattle.sheets.proofs.place.Goals as goal

pub returns-then-at-count : goal.returns-then-at-count
returns-then-at-count c =
    byte_inside _ _ _ _ _ c.if-at-count.true c.place.ensures

pub returns : goal.returns
returns c =
    byte_past _ _ _ _ c.if-at-count.false
