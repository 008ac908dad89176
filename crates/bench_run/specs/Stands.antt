-- Where a run of the bench program stands.
use Rattle.std.specs.Prelude.{◌≡◌, cond, [], ◌++◌, ℕ, suc, ◌+◌, ◌*◌, ◌≤◌, length}
use Rattle.std.proofs.Math.Option.{Option, none, some}
use Rattle.rules.specs.Message.{Bytes}
use Rattle.rules.specs.Session.{Session, Call, append, flush, finalise, next_request, close, send_failed, response, handshake, break, judge, failed_attempt, is_nil}
use Rattle.bench_run.specs.Printed.{prints, printed}

-- how often a call is made at most: an append that goes on took a byte, and a flush or finalise cuts the held bytes once
abbrev pub call_turns : Call → Session → ℕ
call_turns (append d out) s = suc (length d)
call_turns (flush out) s = suc (cond (is_nil s.writer.held) 0 1)
call_turns (finalise out) s = suc (cond (is_nil s.writer.held) 0 1)
call_turns (next_request out) s = 1
call_turns close s = 1
call_turns send_failed s = 1
call_turns (response m) s = 1
call_turns (handshake m) s = 1
call_turns (break b) s = 1
call_turns (judge v) s = 1
call_turns (failed_attempt b v) s = 1

abbrev pub turns_of : Option Call → Session → ℕ
turns_of none s = 0
turns_of (some c) s = call_turns c s

-- the turns that a run still takes at most
abbrev pub turns : Option Call → Bytes → Session → ℕ
turns call rest s = turns_of call s + 2 * length rest

-- These bytes were read and those written. This call is to be made, and the input goes on with these bytes. Whatever is still to come: the input prints what
-- was written, and what is printed from here on, with turns enough.
pub record Stands (fed written : Bytes) (call : Option Call) (rest : Bytes) (s : Session) : Type 0 where
  pub left : Bytes → ℕ
  pub enough : (more : Bytes) → turns call (rest ++ more) s ≤ left more
  pub prints_is : (more : Bytes) → printed (fed ++ more) ≡ written ++ prints (left more) call (rest ++ more) s

-- no input that begins so prints any more
pub record Ends (rest : Bytes) : Type 0 where
  pub ends : (k : ℕ) (more : Bytes) (s : Session) → prints k none (rest ++ more) s ≡ []
