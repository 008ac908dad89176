use Rattle.rules.specs.Respond.{last_step}
use Rattle.responses.proofs.Answering.{answers-end}
use Rattle.responses.proofs.answer_response.Goals as goal

pub returns-in-None : goal.returns-in-None
returns-in-None c = rw c.in-None.is c.maybe_send_watermark_flush.ensures

pub returns-in-Some : goal.returns-in-Some
returns-in-Some c = rw c.in-Some.is (answers-end c.args.taken.session c.args.taken.settled last_step _ c.end.result c.end.ensures)
