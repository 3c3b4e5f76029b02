use borrow.Author.Rules.{rules}
use Rattle.shift.proofs.Going.{so_far_none, so_far_more, so_far_all, ready_on, lends_ready, lends_same}
use mathlib.Core.Path.{refl}
use Rattle.shift.proofs.feeding.bytes.Goals as goal

pub loop-b-init : goal.loop-b-init
loop-b-init c =
    let a = c.args in
    so_far_none a.edition a.book.now a.piece.now c.prepare-program.result _ a.work.now a.out.now a.state
    c.prepare-program.ensures.prepared

pub byte-so_far-requires : goal.byte-so_far-requires
byte-so_far-requires c =
    let a = c.args in
    let h = c.loop-b.invariant in
    let P = c.prepare-program.result in
    record {
      edition = a.edition;
      book = a.book.now;
      ready = ready_on a.edition a.book.now P _ a.work.now a.out.now a.state _ _ _ _ _
          (lends_ready a.edition a.book.now a.table.now a.work.now a.out.now a.state.allowance c.requires P _
          c.prepare-program.ensures)
          h.goes;
    }

pub loop-b-preserved : goal.loop-b-preserved
loop-b-preserved c =
    let a = c.args in
    let P = c.prepare-program.result in
    so_far_more a.edition a.book.now a.piece.now P _ a.work.now a.out.now a.state _ _ _ _ _ _ _ _ _ _
    (lends_ready a.edition a.book.now a.table.now a.work.now a.out.now a.state.allowance c.requires P _
    c.prepare-program.ensures)
    c.loop-b.invariant c.loop-b-test.true refl (search rules) c.byte-so_far.ensures

pub returns : goal.returns
returns c =
    let a = c.args in
    so_far_all a.edition a.book.now a.piece.now c.prepare-program.result _ a.work.now a.out.now a.state a.table.now
    _ _ _ _ _ _ c.loop-b.invariant c.loop-b-test.false
    (lends_same a.edition a.book.now a.table.now a.work.now a.out.now a.state.allowance c.requires
    _ c.prepare-program.ensures c.loop-b.invariant.goes c.clear.ensures)
