use mathlib.Core.Path.{sym, ◌∙◌}
use Rattle.replays.proofs.Replaying.{hands-flush, hands-done}
use Rattle.replays.proofs.hand_last.Goals as goal

pub returns-then-needs_watermark_flush : goal.returns-then-needs_watermark_flush
returns-then-needs_watermark_flush c =
    rw (c.renew.ensures, c.set_mark.ensures.value)
    (hands-flush c.args.s c.args.at (sym c.needs_watermark_flush.ensures ∙ c.if-needs_watermark_flush.true)
    c.flush_request.result c.flush_request.ensures
    c.advance.result c.advance.ensures)

pub returns : goal.returns
returns c =
    rw c.set_phase.ensures
    (hands-done c.args.s c.args.at
    (sym c.needs_watermark_flush.ensures ∙ c.if-needs_watermark_flush.false))
