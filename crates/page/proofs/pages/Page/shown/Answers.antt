-- `shown` puts byte by byte.
use native.Mathlib.Omega.{arith}
use Rattle.page.specs.Text.{each, byte_shown}
use Rattle.page.proofs.Adding.{nothing}
use Rattle.page.proofs.Seen.{put_more}
use Rattle.page.proofs.pages.Page.shown.Goals as goal

pub loop-b-init : goal.loop-b-init
unfolding each
loop-b-init c = nothing

pub loop-b-preserved : goal.loop-b-preserved
loop-b-preserved c = put_more (byte_shown c.args.plain) _ _ (omega arith) c.loop-b.invariant c.shown_byte.ensures
