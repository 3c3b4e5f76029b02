use mathlib.Core.Path.{◌∙◌, ap}
use Rattle.std.specs.Prelude.{Err}
use Rattle.tokens.proofs.Editions.{laws_of}
use Rattle.sheets.proofs.Layers.{whole_standing, examined_tokens, examined_flaw, examined_long}
use Rattle.sheets.proofs.examine_in.Goals as goal

pub read-verdict-requires : goal.read-verdict-requires
read-verdict-requires c =
    whole_standing (laws_of c.args.edition) _ _ _ c.requires _ _ c.split.ensures c.in-Ok.is

pub returns-in-Ok : goal.returns-in-Ok
returns-in-Ok c =
    examined_tokens (laws_of c.args.edition) _ _ _ c.requires _ _ _ _ _ _ c.split.ensures c.in-Ok.is
    c.read-verdict.ensures c.len-end.ensures c.placed.ensures

pub returns-in-Err-Stopped : goal.returns-in-Err-Stopped
returns-in-Err-Stopped c =
    examined_flaw (laws_of c.args.edition) _ _ _ c.requires _ _ _ c.split.ensures
    (c.in-Err-Stopped.is ∙ ap Err c.in-Err-Stopped.field-0-is)

pub returns-in-Err-TooLong : goal.returns-in-Err-TooLong
returns-in-Err-TooLong c =
    rw c.nowhere.ensures
    (examined_long (laws_of c.args.edition) _ _ _ c.requires _ c.split.ensures (c.in-Err-TooLong.is ∙ ap Err c.in-Err-TooLong.field-0-is))
