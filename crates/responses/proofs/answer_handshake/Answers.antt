use Rattle.rules.specs.Respond.{to_replay}
use Rattle.responses.proofs.Answering.{answers-replay, answers-end}
use Rattle.responses.proofs.answer_handshake.Goals as goal

pub returns-in-None : goal.returns-in-None
returns-in-None c = rw (c.in-None.is, c.set_phase.ensures, c.completes.ensures) (answers-replay c.args.taken.session c.args.taken.settled)

pub returns-in-Some : goal.returns-in-Some
returns-in-Some c = rw c.in-Some.is (answers-end c.args.taken.session c.args.taken.settled to_replay _ c.end.result c.end.ensures)
