-- For any input stored never exceeds capacity + C − 1.
use native.Mathlib.Omega.{arith}
use Rattle.rules.specs.Session.{stored}
use Rattle.rules.specs.Calls.{begin}
use Rattle.rules.specs.Total.{StoredBound}
use Rattle.rules.proofs.CalledStart.{always_called}

pub stored_bound : StoredBound
unfolding begin stored
stored_bound o s a cs = omega (arith, (always_called o s a cs).inv.bytes.fewer)
