-- `comment_end` counts the comments that are open; the one at the first place ends where none is.
use mathlib.Core.Path.{◌≡◌, subst}
use native.Mathlib.Omega.{arith}
use Prim.Native.Nat.{suc, ◌+◌, ◌-◌, ◌≤◌, ◌<◌}
use Rattle.language.proofs.Text.Comments.{open_inside, close_inside, depth_open}
use Rattle.language.proofs.Text.Comments.{depth_close, depth_byte, depth_end}
use Rattle.tokens.specs.Found.{IsPair}
use Rattle.tokens.specs.Shown.{text_of}
use Rattle.tokens.proofs.comments.comment_end.Goals as goal

pub returns-then-size-i : goal.returns-then-size-i
returns-then-size-i c =
    let a = c.args in
    let t = text_of a.text.now in
    let l = c.loop-depth in
    let e : l.depth ≡ suc (l.depth - 1) = omega arith in
    depth_end t a.at (l.depth - 1) l.i (subst (λ n. n ≤ l.i) c.len-size.ensures c.if-size-i.true) (rw e at l.invariant.2)

pub loop-depth-preserved-in-Opens : goal.loop-depth-preserved-in-Opens
loop-depth-preserved-in-Opens c =
    let a = c.args in
    let t = text_of a.text.now in
    let l = c.loop-depth in
    let s = subst (IsPair t l.i) c.in-Opens.is c.pair_at.ensures in
    let e : l.depth ≡ suc (l.depth - 1) = omega arith in
    let f : l.depth + 1 ≡ suc (suc (l.depth - 1)) = omega arith in
    let d = depth_open t a.at (l.depth - 1) l.i s (rw e at l.invariant.2) in
    (omega arith, open_inside t l.i s, rw f d)

pub loop-depth-preserved-in-Closes : goal.loop-depth-preserved-in-Closes
loop-depth-preserved-in-Closes c =
    let a = c.args in
    let t = text_of a.text.now in
    let l = c.loop-depth in
    let s = subst (IsPair t l.i) c.in-Closes.is c.pair_at.ensures in
    let e : l.depth ≡ suc (l.depth - 1) = omega arith in
    let d = depth_close t a.at (l.depth - 1) l.i s (rw e at l.invariant.2) in
    (omega arith, close_inside t l.i s, d)

pub loop-depth-preserved : goal.loop-depth-preserved
loop-depth-preserved c =
    let a = c.args in
    let t = text_of a.text.now in
    let l = c.loop-depth in
    let s = subst (IsPair t l.i) c.in-Neither.is c.pair_at.ensures in
    let e : l.depth ≡ suc (l.depth - 1) = omega arith in
    let inside = subst (λ n. l.i < n) c.len-size.ensures c.if-size-i.false in
    let d = depth_byte t a.at (l.depth - 1) l.i inside s.0 s.1 (rw e at l.invariant.2) in
    (omega arith, omega (arith, inside), rw e d)
