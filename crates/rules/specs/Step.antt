-- The step rules of document 01 as one total function.
use Rattle.std.specs.Prelude.{◌∷◌}
use Rattle.rules.specs.Basics.{none, []}
use Rattle.rules.specs.Session.{flushing, finalizing, Session, Call, append, flush, finalise, next_request, close, send_failed, response, handshake, break, judge, failed_attempt, took, Result, answers}
use Rattle.rules.specs.Upload.{appends, asks, closes}
use Rattle.rules.specs.Respond.{responds, shakes}
use Rattle.rules.specs.Reconnect.{breaks, judges, fails}
use Rattle.rules.specs.Replay.{hands, unsent}

unfoldable pub step : Call → Session → Result  -- "An append of nothing is always accepted, even after the end, takes 0 and changes nothing."
step (append [] out) s = answers (took 0 none) s
step (append (x ∷ d) out) s = appends (x ∷ d) out s
step (flush out) s = asks flushing out s
step (finalise out) s = asks finalizing out s
step (next_request out) s = hands out s
step close s = closes s
step send_failed s = unsent s
step (response m) s = responds m s
step (handshake m) s = shakes m s
step (break b) s = breaks b s
step (judge v) s = judges v s
step (failed_attempt b v) s = fails b v s
