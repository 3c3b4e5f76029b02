use borrow.Author.Rules.{rules}
use lib.ListN.{length, get_or}
use mathlib.Core.Path.{◌≡◌, ◌∙◌}
use mir.Syntax.{w32}
use mir.Val.{Fits}
use Prim.Native.Nat.{ℕ}
use Rattle.grumpy_c.proofs.StateWords.{Fit, flag_told, state_held}
use Rattle.grumpy_c.proofs.states.write_state.Goals as goal
use Rattle.grumpy_c.proofs.states.write_state.Goals.{Start}

-- the numbers of a state lie in their words
fit : (c : Start) → Fit c.args.state
fit c =
    let at : Fits w32 c.args.state.part.at = search rules in
    let lines : Fits w32 c.args.state.sums.lines = search rules in
    let bad : Fits w32 c.args.state.sums.bad = search rules in
    let long : length c.args.state.sums.stops ≡ 9 = search rules in
    let each : (i : ℕ) → Fits w32 (get_or c.args.state.sums.stops i 0) = λ i. search rules in
    let paid : Fits w32 c.args.state.sums.paid = search rules in
    record {
      at = at.fits;
      lines = lines.fits;
      bad = bad.fits;
      stops = record { long = long; small = λ i. (each i).fits };
      paid = paid.fits;
      sum = search rules;
      least = search rules;
      largest = search rules;
    }

pub returns : goal.returns
returns c =
    let f = fit (goal.at.returns c).Start in
    let s = c.args.state in
    state_held c.args.words.now _ s _ _ _ _ _ (c.from.ensures ∙ flag_told s.over) (c.from-2.ensures ∙ flag_told s.part.bad)
    record { fits = f.sum; word = c.cast_unsigned.ensures } record { fits = f.least; word = c.cast_unsigned-2.ensures }
    record { fits = f.largest; word = c.cast_unsigned-3.ensures } c.put_around.ensures f
