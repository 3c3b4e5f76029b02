-- Where a `for` stands between its bounds or a pass and the next pass, and how a pass begins.
use Rattle.std.specs.Prelude.{Bool, true, false, List, ◌≡◌, ℕ, suc, ◌+◌, ◌*◌, ◌≤◌, ℤ, length}
use Rattle.language.specs.Sizes.{ACTIVE}
use Rattle.language.specs.State as M
use Rattle.language.specs.State.{number, stop, zero_step, then, choose}
use Rattle.language.specs.Meaning.{is_zero}
use Rattle.language.proofs.Meaning.Turns.{for_from}
use Rattle.layout.specs.Table.{SECOND, row_word}
use Rattle.layout.specs.Slots.{WAITING, put_slot}
use Rattle.layout.specs.Frames.{put_phase}
use Rattle.layout.specs.Values.{meant, Survives}
use Rattle.layout.specs.declared.values.Value.{Value}
use Rattle.machine.specs.Outcomes.{memory}
use Rattle.machine.specs.declared.state.Tally.{Tally}
use Rattle.runner.specs.Phases.{COUNTED, NAMELESS}
use Rattle.runner.specs.Waiting.{Run, ForAt}
use Rattle.runner.specs.Standing.{Resumes, above, begun}
use Rattle.runner.specs.declared.state.Spot.{Spot}
use Rattle.runner.specs.declared.state.Next.{Next}

-- what comes next in a `for` at token i; at the first number its step is looked at before
abbrev pub opened : Bool → ℕ → ℤ → M.State → M.Outcome → M.Outcome
opened true i by s m = choose (is_zero by) (λ _. stop zero_step i s) λ _. m
opened false i by s m = m

-- z is next; the last frame is the node's, whatever it waited for
pub record Counting (q : Run) (t w o : List ℕ) (first : Bool) (node : ℕ) (z to by : Value) (p : Spot) (s : Tally)
    : Type 0 where
  pub v : Value
  pub phase : ℕ
  pub frame : Resumes q t w o v node phase p s
  pub loop : ForAt q t node frame.L
  pub n : ℤ
  pub end : ℤ
  pub step : ℤ
  pub counter_is : meant z ≡ number n
  pub end_is : meant to ≡ number end
  pub step_is : meant by ≡ number step
  pub room : p.base + length frame.L + WAITING * suc frame.d ≤ WAITING * ACTIVE
  pub means : then (opened first loop.i step (memory w o s)
      (for_from q.fs frame.d loop.x loop.through end step loop.e frame.env n (memory w o s)))
      frame.κ ≡ q.whole

-- the name's slot, and those of the end and the step above it
abbrev pub put_bound : List ℕ → ℕ → Value → Value → Value → List ℕ
put_bound w at z to by =
    put_slot (put_slot (put_slot w 0 at NAMELESS z) 0 (at + 1) NAMELESS to) 0 (at + 2) NAMELESS by

-- the body begins, for z
pub record BodyBegins (t w w' : List ℕ) (node : ℕ) (z to by v : Value) (p : Spot) (s : Tally) (r : Next) : Type 0 where
  pub laid : w' ≡ put_phase (put_bound w (p.base + p.size) z to by) p.height COUNTED
  pub is : r ≡ begun (row_word t node SECOND) v (above p.base (p.size + 3) p) s
  pub survive : Survives z × Survives to × Survives by
