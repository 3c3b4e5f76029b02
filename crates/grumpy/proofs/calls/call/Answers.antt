use Rattle.grumpy.proofs.Calling.{laid_twice, call_loaded, called_so}
use Rattle.grumpy.proofs.calls.call.Goals as goal

pub execute-requires : goal.execute-requires
execute-requires c =
    let a = c.args in
    call_loaded c.requires _
    (laid_twice a.program record { picks = a.picks; rate = a.rate } a.table.now _ _ c.lay.ensures c.lay-2.ensures)

pub returns : goal.returns
returns c =
    let a = c.args in
    called_so _ c.requires
    (laid_twice a.program record { picks = a.picks; rate = a.rate } a.table.now _ _ c.lay.ensures c.lay-2.ensures)
    c.execute.ensures
