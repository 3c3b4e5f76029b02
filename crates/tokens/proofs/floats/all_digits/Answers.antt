-- `all_digits` reads the bytes of a float number one by one, and passes over the point.
use mathlib.Core.Path.{sym, subst}
use native.Mathlib.Omega.{arith}
use Prim.Native.Nat.{◌+◌, ◌^◌, ◌≤◌, ◌<◌}
use Rattle.language.specs.Sizes.{DIGITS}
use Rattle.tokens.proofs.Decimals.{Read, read_none, read_small, read_digit, read_past, read_more, read_all}
use Rattle.tokens.specs.Shown.{text_of}
use Rattle.tokens.proofs.floats.all_digits.Goals as goal
use Rattle.tokens.proofs.floats.all_digits.Goals.{After-byte, In-loop-i, then-i-point, else-i-point}

-- what is read so far, in a turn
small : (c : In-loop-i) → c.loop-i.value < 10 ^ DIGITS
small c =
    read_small c.requires c.loop-i.invariant c.loop-i-test.true

-- the byte that is no point
digit : (c : After-byte) → (48 ≤ c.byte.result) × (c.byte.result ≤ 57)
digit c =
    read_digit c.requires c.loop-i.invariant c.loop-i-test.true c.byte.ensures c.if-i-point.true

pub loop-i-init : goal.loop-i-init
loop-i-init c =
    read_none c.requires

pub overflow_mul-value : goal.overflow_mul-value
overflow_mul-value c =
    omega (arith, small (goal.at.overflow_mul-value c).In-loop-i)

pub overflow_sub-byte : goal.overflow_sub-byte
overflow_sub-byte c =
    (digit (goal.at.overflow_sub-byte c).After-byte).0

pub overflow_add-value : goal.overflow_add-value
overflow_add-value c =
    omega (arith, (digit (goal.at.overflow_add-value c).After-byte).1, small (goal.at.overflow_add-value c).In-loop-i)

pub loop-i-preserved : goal.loop-i-preserved
loop-i-preserved c =
    let a = c.args in
    let l = c.loop-i in
    let test = c.loop-i-test.true in
    let t = text_of a.text.now in
    elim c.if-i-point.branch [
      | then-i-point w ↦
          let more = read_more c.requires l.invariant test w.byte.ensures w.if-i-point.true in
          subst (λ v. Read t a.at a.point a.end (l.i + 1) v) (sym w.value-is) (rw w.from.ensures more)
      | else-i-point w ↦
          subst (λ v. Read t a.at a.point a.end (l.i + 1) v) (sym w.value-is) (read_past c.requires l.invariant test w.if-i-point.false)
    ]

pub returns : goal.returns
returns c =
    read_all c.requires c.loop-i.invariant c.loop-i-test.false
