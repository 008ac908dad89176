-- What the code read, as a record of the format.
use Rattle.std.specs.Prelude.{ℕ, ◌-◌, ◌≤◌, take, drop, Result, Ok, Err, IfOk}
use Rattle.rules.specs.Message.{Bytes}
use Rattle.bench_records.specs.Record as R
use Rattle.bench_records.specs.declared.CallRecord.{CallRecord}
use Rattle.bench_records.specs.declared.CallRecord.TheVariants as call
use Rattle.bench_records.specs.declared.Record.{Record}
use Rattle.bench_records.specs.declared.Record.TheVariants as rec
use Rattle.bench_records.specs.declared.Unread.{Unread}
use Rattle.bench_records.specs.declared.Unread.TheVariants as unread

-- an append's bytes come beside it
abbrev pub call_of : CallRecord → Bytes → R.Record
call_of call.Append b = R.AP b
call_of call.Flush b = R.FL
call_of call.Finalise b = R.FI
call_of call.Close b = R.CL
call_of (call.Response n) b = R.RS n.0
call_of (call.Handshake n) b = R.HS n.0
call_of call.Break b = R.BR
call_of (call.Verdict v) b = R.VE v
call_of call.Next b = R.NX

abbrev pub record_of : Record → Bytes → R.Record
record_of (rec.Open c capacity p) b = R.OP c capacity p.0
record_of (rec.Call c) b = call_of c b

-- a record of n bytes, an append's own from byte 4 on
abbrev pub reading_of : Result (Record × ℕ) Unread → Bytes → R.Reading
reading_of (Ok (r, n)) input = R.whole (record_of r (take (n - 4) (drop 4 input))) (drop n input)
reading_of (Err unread.Cut) input = R.cut
reading_of (Err unread.Unknown) input = R.unknown

-- how many bytes a record takes, without an append's own
abbrev pub call_size : CallRecord → ℕ
call_size call.Append = 4
call_size call.Flush = 2
call_size call.Finalise = 2
call_size call.Close = 2
call_size (call.Response n) = 10
call_size (call.Handshake n) = 10
call_size call.Break = 2
call_size (call.Verdict v) = 3
call_size call.Next = 2

abbrev pub record_size : Record → ℕ
record_size (rec.Open c capacity p) = 16
record_size (rec.Call c) = call_size c

-- the bytes of a record that was read lie in the input
abbrev pub Within : Result (Record × ℕ) Unread → ℕ → Type 0
Within r size = IfOk r (λ p. (record_size p.0 ≤ p.1) × (p.1 ≤ size))
