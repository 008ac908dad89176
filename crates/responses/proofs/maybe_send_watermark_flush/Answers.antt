use Rattle.responses.proofs.Answering.{answers-flush, answers-nothing}
use Rattle.responses.proofs.maybe_send_watermark_flush.Goals as goal

pub returns-then-needs_bare_flush : goal.returns-then-needs_bare_flush
returns-then-needs_bare_flush c =
    rw (c.set_mark.ensures.value, c.completes.ensures)
    (answers-flush c.args.s c.args.settled (rw c.if-needs_bare_flush.true at c.needs_bare_flush.ensures) c.flush_request.result c.flush_request.ensures)

pub returns : goal.returns
returns c =
    rw c.completes-2.ensures (answers-nothing c.args.s c.args.settled (rw c.if-needs_bare_flush.false at c.needs_bare_flush.ensures))
