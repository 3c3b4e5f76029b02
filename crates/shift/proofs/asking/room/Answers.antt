use Rattle.std.proofs.lemmas.Result.{err_from_is_err_and}
use Rattle.shift.proofs.Learnt.{room_is_passed, room_is_refused}
use Rattle.shift.proofs.asking.room.Goals as goal

pub returns-in_err-check_pair : goal.returns-in_err-check_pair
returns-in_err-check_pair c =
    let p = err_from_is_err_and c.from_residual.result c.from_residual.ensures.1 in
    rw (p.1, p.2) (room_is_refused _ _ _ _ c.requires c.check_pair.result _ _ c.check_pair.ensures c.in_err-check_pair.was)

pub returns : goal.returns
returns c =
    room_is_passed _ _ _ _ c.requires c.check_pair.result _ c.check_pair.ensures c.in_ok-check_pair.was
