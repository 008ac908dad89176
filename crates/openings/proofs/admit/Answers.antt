use mathlib.Core.Path.{◌≡◌, sym, ◌∙◌}
use mathlib.Core.Bool.{◌&&◌}
use native.Mathlib.Omega.{arith}
use Rattle.std.specs.Prelude.{Err}
use Rattle.admission.proofs.Limits.{within_limits}
use Rattle.openings.proofs.Admission.{row_passes, limits_refuse, rows_admit}
use Rattle.openings.proofs.admit.Goals.{then-o, else-o}
use Rattle.openings.proofs.admit.Goals as goal

pub returns-in_err-refuse_if : goal.returns-in_err-refuse_if
returns-in_err-refuse_if c =
    let refused : c.from_residual.result ≡ Err c.in_err-refuse_if.field-0.0 = grind arith in
    rw refused (limits_refuse (rw (c.bad_limits.ensures, c.asked_capacity-asked.ensures) at (sym c.refuse_if.ensures ∙ c.in_err-refuse_if.was)))

pub returns : goal.returns
returns c =
    let good = row_passes _ (sym c.refuse_if.ensures ∙ c.in_ok-refuse_if.was) in
    let l = within_limits c.args.o.limit c.asked_capacity-asked.result (sym c.bad_limits.ensures ∙ good) in
    let handle : c.if-o.over ≡ (c.args.o.append && c.args.o.has_write_handle) = elim c.if-o.branch [ then-o w ↦ rw w.if-o.true w.over-is | else-o w ↦ rw w.if-o.false (w.over-is ∙ w.if-o.false) ] in
    rows_admit (sym (rw c.asked_capacity-asked.ensures at c.bad_limits.ensures) ∙ good)
    (c.open.ensures
    ∙ rw (
      c.is_finalized.ensures,
      c.over-3.ensures,
      c.handle_too_long.ensures,
      c.over-2.ensures,
      handle,
      c.over.ensures,
      c.is_bucket.ensures,
      c.short_memory.ensures,
      c.ring_size.ensures (omega (arith, l.1, c.capacity_for-capacity.ensures)) l.1,
      c.capacity_for-capacity.ensures,
      c.asked_capacity-asked.ensures,
    ))
