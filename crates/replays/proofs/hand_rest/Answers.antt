use Rattle.replays.proofs.Replaying.{hands_waiter_lem, hands_past}
use Rattle.replays.proofs.hand_rest.Goals as goal

pub returns-then-i-waiting : goal.returns-then-i-waiting
returns-then-i-waiting c =
    rw c.set_phase.ensures
    (hands_waiter_lem c.args.s c.args.at c.nth.result c.if-i-waiting.true c.nth.ensures
    c.request.result c.request.ensures
    c.advance.result c.advance.ensures)

pub returns : goal.returns
returns c =
    hands_past c.args.s c.args.at c.hand_last.result
    c.if-i-waiting.false c.hand_last.ensures
