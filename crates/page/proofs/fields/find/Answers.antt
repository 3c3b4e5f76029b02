-- `find` seeks byte by byte.
use lib.ListN.{length}
use mathlib.Core.Path.{refl}
use native.Mathlib.Omega.{arith}
use Prim.Native.Nat.{◌+◌}
use Rattle.page.proofs.Feeds.{ahead_few}
use Rattle.page.proofs.Named.{room, seek_found, seek_more, seek_none}
use Rattle.page.proofs.fields.find.Goals as goal

pub line_end-requires : goal.line_end-requires
line_end-requires c = room c.loop-i.invariant (omega arith) c.is_here.ensures c.if-is_here.true

pub slice_bounds-result-end : goal.slice_bounds-result-end
slice_bounds-result-end c =
    omega (
      arith,
      c.line_end.ensures,
      ahead_few c.args.text.now (c.loop-i.i + length c.args.name.now),
      room c.loop-i.invariant (omega arith) c.is_here.ensures c.if-is_here.true,
    )

pub returns-then-is_here : goal.returns-then-is_here
returns-then-is_here c =
    seek_found c.loop-i.invariant (omega arith) c.is_here.ensures c.if-is_here.true _ _ refl c.line_end.ensures

pub loop-i-preserved : goal.loop-i-preserved
loop-i-preserved c = seek_more c.loop-i.invariant (omega arith) c.is_here.ensures c.if-is_here.false refl

pub returns : goal.returns
returns c = seek_none c.loop-i.invariant (omega arith)
