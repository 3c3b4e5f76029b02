-- `comment_end` counts the comments that are open; the one at the first place ends where none is.
use lib.ListN.{length}
use Prim.Native.Nat.{◌-◌, ◌≤◌}
use Rattle.language.proofs.Text.Comments.{Depth}
use Rattle.tokens.specs.Shown.{text_of}
use Rattle.tokens.proofs.comments.comment_end.Given as goal

abbrev pub invariant-loop-depth : goal.invariant-loop-depth
invariant-loop-depth l = (l.depth ≤ l.i) × (l.i ≤ length (text_of l.text)) × Depth (text_of l.text) l.at l.depth l.i

abbrev pub decreases-loop-depth : goal.decreases-loop-depth
decreases-loop-depth l = l.size - l.i
