use native.Mathlib.Omega.{arith}
use mathlib.Core.Path.{refl}
use Rattle.writer.proofs.Words.{writable_spans, spans_source}
use Rattle.writer.proofs.Outputs.{measured_within}
use Rattle.writer.proofs.Forms.{measured_small, form_long_is, over_output, all_stored}
use Rattle.writer.proofs.storing.store.Goals as goal

pub measure-requires : goal.measure-requires
measure-requires c =
    spans_source c.requires

pub overflow_mul-long : goal.overflow_mul-long
overflow_mul-long c =
    omega (arith, measured_small c.requires _ c.measure.ensures)

pub overflow_sub-long : goal.overflow_sub-long
overflow_sub-long c =
    omega (arith, measured_small c.requires _ c.measure.ensures)

pub overflow_add-long : goal.overflow_add-long
overflow_add-long c =
    omega (arith, measured_small c.requires _ c.measure.ensures)

pub returns-then-out-long : goal.returns-then-out-long
returns-then-out-long c =
    over_output c.requires _ _ c.measure.ensures refl _ c.if-out-long.true

pub put_form-requires : goal.put_form-requires
put_form-requires c =
    (writable_spans c.requires, measured_within _ _ _ (form_long_is c.requires _ _ c.measure.ensures refl) c.if-out-long.false)

pub returns : goal.returns
returns c =
    all_stored c.requires _ _ c.measure.ensures refl _ _ c.if-out-long.false c.put_form.ensures
