-- Every record has its mark.
-- Assumes nothing.
use Prim.Native.Nat.{◌≤◌}
use native.Mathlib.Omega.{arith}
use Rattle.bench_records.specs.View.{call_size, record_size}
use Rattle.bench_records.specs.declared.CallRecord.{CallRecord}
use Rattle.bench_records.specs.declared.CallRecord.TheVariants as call
use Rattle.bench_records.specs.declared.Record.{Record}
use Rattle.bench_records.specs.declared.Record.TheVariants as rec

call_least : (c : CallRecord) → 2 ≤ call_size c
call_least call.Append = omega arith
call_least call.Flush = omega arith
call_least call.Finalise = omega arith
call_least call.Close = omega arith
call_least (call.Response n) = omega arith
call_least (call.Handshake n) = omega arith
call_least call.Break = omega arith
call_least (call.Verdict v) = omega arith
call_least call.Next = omega arith

pub least : (r : Record) → 2 ≤ record_size r
least (rec.Open c capacity p) = omega arith
least (rec.Call c) = call_least c
