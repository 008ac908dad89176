use native.Mathlib.Omega.{arith}
use Rattle.bidi_write.specs.View.{given}
use Rattle.openings.proofs.Started.{starts}
use Rattle.openings.proofs.starting.start.Goals as goal

pub returns : goal.returns
returns c =
    starts c.requires (omega (arith, c.well_formed.1.1.0.1)) c.asked_capacity.ensures c.capacity_for-capacity.ensures
    c.opening_size-persisted.ensures c.connect-connector.ensures c.payload_sum-sum.ensures c.store_payload-acked.ensures c.payload_length.ensures c.write_offset.ensures
    (c.running_sum.ensures (given c.args.o.has_payload c.args.payload.now) c.payload_sum-sum.ensures) c.fresh-session.ensures
