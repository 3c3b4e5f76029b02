use Rattle.std.proofs.Common.{◌≡◌, ◌++◌, ◌∙◌, length, refl, ap, arith, append_assoc, length-append}
use Rattle.grumpy_c.specs.Words.{with_front, nine}
use Rattle.grumpy_c.proofs.Fronts.{put_behind}
use Rattle.grumpy_c.proofs.words.put_around.Goals as goal

pub returns : goal.returns
returns c =
    let w = c.args.words.now in
    let a = c.args.before.now in
    let b = nine c.args.stops in
    let z = c.args.behind.now in
    let l = length-append a b in
    let first = put_behind w a b _ _ (length a) _ refl (omega arith) c.put.ensures refl (c.put-2.ensures ∙ ap (with_front _) c.wide.ensures) in
    put_behind w (a ++ b) z _ _ _ _ (omega arith) (omega arith) first refl c.put-3.ensures ∙ ap (with_front w) (append_assoc a b z)
