use Rattle.worker.proofs.Waiters.{none_waits, none-counted}
use Rattle.transport.proofs.Ends.{ends_as}
use Rattle.transport.proofs.parts.end.Goals as goal

pub returns : goal.returns
returns c =
    rw (c.renew.ensures, c.set_pending-none.ensures.value)
    (ends_as c.args.cause c.args.completed c.args.released c.args.s c.new.result (rw c.new.ensures none_waits) (rw c.new.ensures none-counted))
