use Rattle.shift.proofs.Learnt.{book_is_found, no_book_is_found, book_is_refused}
use mathlib.Core.Logic.{inl, inr}
use Rattle.shift.proofs.asking.functions.Goals as goal
use Rattle.shift.proofs.asking.functions.Goals.{else-alone-via-then-alone+else-there, else-alone-via-else-alone}

pub returns-then-there : goal.returns-then-there
returns-then-there c =
    book_is_found _ _ _ _ c.requires c.outline.result _ _ _ _ c.outline.ensures c.in-Ok.is
    c.if-alone.true c.if-there.true c.room.ensures

pub returns-else-alone : goal.returns-else-alone
returns-else-alone c =
    no_book_is_found _ _ _ _ c.requires c.outline.result _ _ _ c.outline.ensures c.in-Ok.is
    (elim c.else-alone.branch [
      | else-alone-via-then-alone+else-there w ↦ inr w.if-there.false
      | else-alone-via-else-alone w ↦ inl w.if-alone.false
    ]) c.front.ensures

pub returns-in-Err : goal.returns-in-Err
returns-in-Err c =
    book_is_refused _ _ _ _ c.requires c.outline.result _ _ c.outline.ensures c.in-Err.is
