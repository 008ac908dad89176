-- What a record of the bench program makes of the session.
use Rattle.std.specs.Prelude.{◌≡◌, cond, List, [], ℕ, ◌≤◌, length, drop, ltb, ℤ, Option as Maybe, Some, None, IfSome}
use Rattle.std.proofs.Math.Option.{Option, none, some}
use Rattle.rules.specs.Message.{Bytes, end_of_stream}
use Rattle.rules.specs.Session as R
use Rattle.rules.specs.Bench.{sized, opening}
use Rattle.transport.specs.View.{Left, answer_of}
use Rattle.transport.specs.Promise.{Promise}
use Rattle.std.specs.declared.result.Result.{Result}
use Rattle.bidi_write.specs.declared.Refusal.{Refusal}
use Rattle.transport.specs.declared.Answer.{Answer}
use Rattle.transport.specs.declared.Session.{Session}
use Rattle.openings.specs.Opening.{OpensAs}
use Rattle.openings.specs.declared.Opened.{Opened}
use Rattle.bench_records.specs.declared.CallRecord.{CallRecord}
use Rattle.bench_records.specs.declared.CallRecord.TheVariants as call
use Rattle.bench_lines.specs.Text.{mark_of, line_of}

-- ---- an opening

-- "store 32,768 bytes, 64 slots"
abbrev pub Lent : Bytes → List ℕ → Type 0
Lent store table = (length store ≡ 32768) × (length table ≡ 64)

-- an OP record, with C, capacity and P, opens a session as the rules do
abbrev pub Opens : ℕ → ℕ → ℤ → Bytes → List ℕ → Opened → Bytes → List ℕ → Type 0
Opens limit capacity p store table r store' table' = Lent store table → OpensAs (opening limit capacity p none) store table r store' table'

-- ---- a call

-- the call that a record makes, with an append's bytes and the length of the out buffer: "responses hold a size alone", "BR (end of stream)"
abbrev pub call_of : CallRecord → Bytes → ℕ → R.Call
call_of call.Append d out = R.append d out
call_of call.Flush d out = R.flush out
call_of call.Finalise d out = R.finalise out
call_of call.Close d out = R.close
call_of (call.Response n) d out = R.response (sized n.0)
call_of (call.Handshake n) d out = R.handshake (sized n.0)
call_of call.Break d out = R.break end_of_stream
call_of (call.Verdict v) d out = R.judge v
call_of call.Next d out = R.next_request out

-- a record's call keeps the promise of the call that it makes
abbrev pub Makes : CallRecord → Bytes → Session → Bytes → List ℕ → Bytes → Left → Bytes → List ℕ → Bytes → Type 0
Makes c d s store table out r store' table' out' = Promise (call_of c d (length out)) s store table out r store' table' out'

-- ---- what is still to be called, and its line

-- an append's bytes taken, a flush's or finalise's held bytes cut, or another answer
abbrev pub by : {A : Type 0} → R.Answer → (ℕ → A) → A → A → A
by (R.refused n) taken cut other = other
by (R.took n r) taken cut other = taken n
by (R.sends r) taken cut other = cut
by (R.waits r n) taken cut other = other
by (R.completes k n r) taken cut other = other
by (R.attempt n) taken cut other = other
by R.ok taken cut other = other
by R.done taken cut other = other
by (R.ends c k n d) taken cut other = other

-- "AP, FL and FI are called once, then again till done or refused": what is still to be called after an answer
abbrev pub again : R.Call → R.Answer → Option R.Call
again (R.append d out) a = by a (λ n. cond (ltb n (length d)) (some (R.append (drop n d) out)) none) none none
again (R.flush out) a = by a (λ n. none) (some (R.flush out)) none
again (R.finalise out) a = by a (λ n. none) (some (R.finalise out)) none
again (R.next_request out) a = none
again R.close a = none
again R.send_failed a = none
again (R.response m) a = none
again (R.handshake m) a = none
again (R.break b) a = none
again (R.judge v) a = none
again (R.failed_attempt b v) a = none

-- the call from its byte n on, or none
abbrev pub rest_of : Maybe ℕ → CallRecord → Bytes → ℕ → Option R.Call
rest_of (Some n) c d out = some (call_of c (drop n d) out)
rest_of None c d out = none

-- what the code found to be still called
pub record Continues (c : CallRecord) (d : Bytes) (a : Result Answer Refusal) (r : Maybe ℕ) : Type 0 where
  pub rest_is : (n : ℕ) (out : Bytes) → rest_of r c d n ≡ again (call_of c d n) (answer_of a out)
  pub within : IfSome r (λ n. n ≤ length d)

-- the line that a record's call prints
abbrev pub line_for : CallRecord → Result Answer Refusal → Bytes → Bytes
line_for c a out = line_of (mark_of (call_of c [] 0)) (answer_of a out)
