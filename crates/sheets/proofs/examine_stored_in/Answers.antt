use Rattle.tokens.proofs.Editions.{laws_of}
use Rattle.sheets.proofs.StoredLayers.{stored_standing, stored_near, examined_lines, examined_denied}
use Rattle.sheets.proofs.examine_stored_in.Goals as goal

pub read-verdict-requires : goal.read-verdict-requires
read-verdict-requires c =
    stored_standing (laws_of c.args.edition) _ _ _ c.requires _ _ c.read.ensures c.in-Ok.is

pub lined-requires : goal.lined-requires
lined-requires c =
    stored_near (laws_of c.args.edition) _ _ _ c.requires _ _ c.read.ensures c.in-Ok.is _ _
    c.read-verdict.ensures

pub returns-in-Ok : goal.returns-in-Ok
returns-in-Ok c =
    examined_lines (laws_of c.args.edition) _ _ _ c.requires _ _ c.read.ensures c.in-Ok.is _ _
    c.read-verdict.ensures _ c.lined.ensures

pub returns-in-Err : goal.returns-in-Err
returns-in-Err c =
    examined_denied (laws_of c.args.edition) _ _ _ c.requires _ _ _ c.read.ensures c.in-Err.is
