-- What C is promised. For each function that `include/grumpy.h` has: what whoever calls it learns of its answer, as its
-- contract reads, is the relation that the documents name, between what was lent before and after. A contract that is
-- taken off or says less no longer gives it, and this module is refused. That no two answers meet such a relation is in
-- `Told`, `ToldPairs`, `ToldProfile`, `OneShift` and `ToldCombined`.
use Rattle.language.specs.Edition.{text_in, stored_in}
use Rattle.language.specs.Writing.{Write, Store}
use Rattle.grumpy_c.specs.Reports.{CheckedC, RanC, WroteC}
use Rattle.grumpy_c.specs.Pairs.{PairCheckedC, PairRanC}
use Rattle.grumpy_c.specs.Profilings.{ProfiledC}
use Rattle.grumpy_c.specs.Shifts.{BeganC, FedC, FinishedC}
use Rattle.grumpy_c.specs.Combining.{CombinedC}
use Rattle.grumpy_c.proofs.grumpy_check.Reads as check_reads
use Rattle.grumpy_c.proofs.grumpy_run.Reads as run_reads
use Rattle.grumpy_c.proofs.grumpy_write.Reads as write_reads
use Rattle.grumpy_c.proofs.grumpy_store.Reads as store_reads
use Rattle.grumpy_c.proofs.grumpy_check_stored.Reads as check_stored_reads
use Rattle.grumpy_c.proofs.grumpy_run_stored.Reads as run_stored_reads
use Rattle.grumpy_c.proofs.grumpy_check_pair.Reads as check_pair_reads
use Rattle.grumpy_c.proofs.grumpy_run_pair.Reads as run_pair_reads
use Rattle.grumpy_c.proofs.profilings.grumpy_profile.Reads as profile_reads
use Rattle.grumpy_c.proofs.shifts.grumpy_shift_begin.Reads as shift_begin_reads
use Rattle.grumpy_c.proofs.shifts.grumpy_shift_feed.Reads as shift_feed_reads
use Rattle.grumpy_c.proofs.shifts.grumpy_shift_finish.Reads as shift_finish_reads
use Rattle.grumpy_c.proofs.combining.grumpy_shift_combine.Reads as shift_combine_reads

pub grumpy_check : (κs : _) (a : _) (r : _) (s : _) → check_reads.Learnt κs a r s
    → CheckedC (text_in a.0 a.1.0.now) a.1.1.0.now a.1.1.1.0.now s.1.1.0.now s.1.1.1.0.now r
grumpy_check κs a r s h = h

pub grumpy_run : (κs : _) (a : _) (r : _) (s : _) → run_reads.Learnt κs a r s
    → RanC (text_in a.0 a.1.0.now) a.1.1.0.now a.1.1.1.0.now
    a.1.1.1.1.0.now a.1.1.1.1.1.0 a.1.1.1.1.1.1.0.now
    s.1.1.0.now s.1.1.1.0.now s.1.1.1.1.0.now s.1.1.1.1.1.1.0.now r
grumpy_run κs a r s h = h

pub grumpy_write : (κs : _) (a : _) (r : _) (s : _) → write_reads.Learnt κs a r s
    → WroteC (Write (text_in a.0 a.1.0.now)) a.1.1.0.now a.1.1.1.0.now a.1.1.1.1.0.now
    s.1.1.0.now s.1.1.1.0.now s.1.1.1.1.0.now r
grumpy_write κs a r s h = h

pub grumpy_store : (κs : _) (a : _) (r : _) (s : _) → store_reads.Learnt κs a r s
    → WroteC (Store (text_in a.0 a.1.0.now)) a.1.1.0.now a.1.1.1.0.now a.1.1.1.1.0.now
    s.1.1.0.now s.1.1.1.0.now s.1.1.1.1.0.now r
grumpy_store κs a r s h = h

pub grumpy_check_stored : (κs : _) (a : _) (r : _) (s : _) → check_stored_reads.Learnt κs a r s
    → CheckedC (stored_in a.0 a.1.0.now) a.1.1.0.now a.1.1.1.0.now s.1.1.0.now s.1.1.1.0.now r
grumpy_check_stored κs a r s h = h

pub grumpy_run_stored : (κs : _) (a : _) (r : _) (s : _) → run_stored_reads.Learnt κs a r s
    → RanC (stored_in a.0 a.1.0.now) a.1.1.0.now a.1.1.1.0.now
    a.1.1.1.1.0.now a.1.1.1.1.1.0 a.1.1.1.1.1.1.0.now
    s.1.1.0.now s.1.1.1.0.now s.1.1.1.1.0.now s.1.1.1.1.1.1.0.now r
grumpy_run_stored κs a r s h = h

pub grumpy_check_pair : (κs : _) (a : _) (r : _) (s : _) → check_pair_reads.Learnt κs a r s
    → PairCheckedC a.0 a.1.0.now a.1.1.0.now a.1.1.1.0.now a.1.1.1.1.0.now
    s.1.1.1.0.now s.1.1.1.1.0.now r
grumpy_check_pair κs a r s h = h

pub grumpy_run_pair : (κs : _) (a : _) (r : _) (s : _) → run_pair_reads.Learnt κs a r s
    → PairRanC a.0 a.1.0.now a.1.1.0.now a.1.1.1.0.now a.1.1.1.1.0.now
    a.1.1.1.1.1.0.now a.1.1.1.1.1.1.0 a.1.1.1.1.1.1.1.0.now
    s.1.1.1.0.now s.1.1.1.1.0.now s.1.1.1.1.1.0.now s.1.1.1.1.1.1.1.0.now r
grumpy_run_pair κs a r s h = h

pub grumpy_profile : (κs : _) (a : _) (r : _) (s : _) → profile_reads.Learnt κs a r s
    → ProfiledC a.0 a.1.0.now a.1.1.0.now a.1.1.1.0.now s.1.1.0.now s.1.1.1.0.now r
grumpy_profile κs a r s h = h

pub grumpy_shift_begin : (κs : _) (a : _) (r : _) (s : _) → shift_begin_reads.Learnt κs a r s
    → BeganC a.0 a.1.0.now a.1.1.0.now a.1.1.1.0.now a.1.1.1.1.0 a.1.1.1.1.1.0.now a.1.1.1.1.1.1.0.now
    s.1.1.0.now s.1.1.1.0.now s.1.1.1.1.1.0.now s.1.1.1.1.1.1.0.now r
grumpy_shift_begin κs a r s h = h

pub grumpy_shift_feed : (κs : _) (a : _) (r : _) (s : _) → shift_feed_reads.Learnt κs a r s
    → FedC a.0 a.1.0.now a.1.1.0.now a.1.1.1.0.now a.1.1.1.1.0.now
    a.1.1.1.1.1.0.now a.1.1.1.1.1.1.0.now a.1.1.1.1.1.1.1.0.now
    s.1.1.1.0.now s.1.1.1.1.0.now s.1.1.1.1.1.0.now s.1.1.1.1.1.1.0.now s.1.1.1.1.1.1.1.0.now r
grumpy_shift_feed κs a r s h = h

pub grumpy_shift_finish : (κs : _) (a : _) (r : _) (s : _) → shift_finish_reads.Learnt κs a r s
    → FinishedC a.0 a.1.0.now a.1.1.0.now s.1.1.0.now r
grumpy_shift_finish κs a r s h = h

pub grumpy_shift_combine : (κs : _) (a : _) (r : _) (s : _) → shift_combine_reads.Learnt κs a r s
    → CombinedC a.0.now a.1.0.now a.1.1.0.now s.1.1.0.now r
grumpy_shift_combine κs a r s h = h
