use mathlib.Core.Path.{◌≡◌}
use native.Mathlib.Omega.{arith}
use borrow.Author.Tests.{ltb-false}
use Rattle.crc32c.specs.Reg.{crc_of}
use Rattle.openings.proofs.Payload.{stores-none, stores_some}
use Rattle.openings.proofs.starting.store_payload.Goals as goal

pub returns-in-None : goal.returns-in-None
returns-in-None c =
    rw (c.empty-buffer.ensures, c.in-None.is) (stores-none c.args.store.now c.args.table.now c.requires.sized c.args.persisted.0)

pub returns-in-Some : goal.returns-in-Some
returns-in-Some c =
    let size = c.ring_size-size.ensures c.requires.sized.capacity_top c.requires.sized.limit_top in
    let sums = rw c.in-Some.is at c.requires.sum_value in
    let sum : c.in-Some.crc32c ≡ crc_of c.args.payload.now = cc in
    rw c.in-Some.is
    (stores_some c.args.store.now c.args.table.now c.requires.sized c.args.payload.now (ltb-false _ _ (rw c.in-Some.is at c.requires.payload_value)) sum
    (rw size at c.copy_in.ensures) (rw c.empty-buffer.ensures at c.push-pushed.ensures) (omega arith) (omega arith) (rw (size, c.from_nat-end.ensures) at c.ack.ensures))
