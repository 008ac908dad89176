use Rattle.responses.proofs.Answering.{flushes_at}
use borrow.Author.Tests.{eq-eqb}
use Rattle.responses.proofs.needs_bare_flush.Goals as goal

pub returns-then-phase_number-eq-LIVE : goal.returns-then-phase_number-eq-LIVE
returns-then-phase_number-eq-LIVE c =
    flushes_at c.args.s c.phase_number.result c.phase_number.ensures (eq-eqb _ _ c.if-phase_number-eq-LIVE.true) c.needs_watermark_flush.result c.needs_watermark_flush.ensures
