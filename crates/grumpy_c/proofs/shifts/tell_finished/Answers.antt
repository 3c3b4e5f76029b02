use borrow.Author.Rules.{rules}
use Rattle.grumpy_c.proofs.ToldShifts.{report_told}
use Rattle.grumpy_c.proofs.shifts.tell_finished.Goals as goal

pub returns : goal.returns
returns c =
    report_told c.args.report.now _ _ c.args.sums _ _ _ record { fits = search rules; word = c.cast_unsigned.ensures }
    record { fits = search rules; word = c.cast_unsigned-2.ensures }
    record { fits = search rules; word = c.cast_unsigned-3.ensures } c.put_around.ensures
