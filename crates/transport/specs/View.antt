-- The session of the code, with the lent store and table, as the rules' session; its answers as the rules' answers.
use Rattle.std.proofs.Math.Option.{Option, none, some}
use Rattle.std.specs.Prelude.{List, ℕ}
use Rattle.rules.specs.Limits.{store_size}
use Rattle.rules.specs.Message.{Bytes}
use Rattle.rules.specs.Message as M
use Rattle.rules.specs.Session as R
use Rattle.ring.specs.Ring.{part}
use Rattle.bidi_write.specs.Numbers.{to_ℕ}
use Rattle.bidi_write.specs.Refusal.{number_of}
use Rattle.bidi_write.specs.declared.Refusal.{Refusal}
use Rattle.bidi_write.specs.declared.Request.{Request}
use Rattle.std.specs.declared.result.Result.{Result}
use Rattle.std.specs.Prelude.{Ok, Err}
use Rattle.bidi_write.specs.View.{checksum_of, length_of, request_of, cause_of}
use Rattle.replay_buffer.specs.View.{Lent}
use Rattle.replay_buffer.specs.declared.ReplayBuffer.{ReplayBuffer}
use Rattle.worker.specs.View.{worker_of}
use Rattle.transport.specs.declared.Phase.{Phase}
use Rattle.transport.specs.declared.Phase.TheVariants as phase
use Rattle.transport.specs.declared.Sent.{Sent}
use Rattle.transport.specs.declared.Sent.TheVariants as sent
use Rattle.transport.specs.declared.Session.{Session}
use Rattle.std.specs.declared.option.Option as opt
use Rattle.std.specs.Prelude.{Some, None}
use Rattle.transport.specs.declared.Answer.{Answer}
use Rattle.transport.specs.declared.Outcome.{Outcome}
use Rattle.transport.specs.declared.Answer.TheVariants as answer

abbrev pub phase_of : Phase → R.Phase
phase_of phase.Live = R.live
phase_of phase.Closing = R.closing
phase_of phase.Connecting = R.connecting
phase_of (phase.Verdict r) = R.verdict r
phase_of (phase.Replay c) = R.replay c.next
phase_of (phase.Ended c) = R.ended (cause_of c)

abbrev pub sent_of : Sent → R.Sent
sent_of sent.Nothing = R.nothing
sent_of sent.Request = R.a_request
sent_of sent.BareFlush = R.bare_flush

-- the ring: "capacity + 2 × C − 2" bytes at the front of the store
abbrev pub ring_size : ℕ → ReplayBuffer → ℕ
ring_size limit b = store_size b.capacity limit

-- and the slots at the front of the table
abbrev pub lent_of : Session → Lent
lent_of s = record { size = ring_size s.limit s.worker.replay_buffer; slots = s.slots }

-- the write offset, which is never negative
abbrev pub end_of : Session → ℕ
end_of s = to_ℕ s.write_offset.0

-- the held bytes lie behind the stored ones
abbrev pub held_of : Session → Bytes → Bytes
held_of s store = part (lent_of s).size s.worker.replay_buffer.head s.worker.replay_buffer.unpersisted_bytes s.held store

unfoldable pub view : Session → Bytes → List ℕ → R.Session
view s store table = record {
  limit = s.limit;
  slots = s.slots;
  phase = phase_of s.phase;
  sent = sent_of s.sent;
  writer = record { made = s.made; write_offset = s.write_offset.0; running_crc32c = checksum_of s.running_crc32c; held = held_of s store };
  worker = worker_of (lent_of s) (end_of s) s.worker store table;
}

abbrev pub maybe_of : opt.Option Request → Bytes → Option M.Request
maybe_of None out = none
maybe_of (Some r) out = some (request_of r out)

-- what a call left: the session, and its answer or refusal
pub record Left : Type 0 where
  pub session : Session
  pub answer : Result Answer Refusal

-- of a call by value: one that is refused leaves the session as it was
abbrev pub left : Session → Result Outcome Refusal → Left
left s (Ok o) = record { session = o.session; answer = Ok o.answer }
left s (Err x) = record { session = s; answer = Err x }

-- an answer or a refusal, with the out buffer as the call left it
abbrev pub answer_of : Result Answer Refusal → Bytes → R.Answer
answer_of (Err x) out = R.refused (number_of x)
answer_of (Ok (answer.Took n r)) out = R.took n (maybe_of r out)
answer_of (Ok (answer.Sends r)) out = R.sends (request_of r out)
answer_of (Ok (answer.Waits r n)) out = R.waits (request_of r out) n
answer_of (Ok (answer.Completes c)) out = R.completes c.waiters c.released (maybe_of c.request out)
answer_of (Ok (answer.Attempt n)) out = R.attempt n
answer_of (Ok answer.Accepted) out = R.ok
answer_of (Ok answer.Done) out = R.done
answer_of (Ok (answer.Ends e)) out = R.ends (cause_of e.cause) e.completed e.released e.failed

-- the bytes that an answer says were taken
abbrev pub taken_in : Result Answer Refusal → ℕ
taken_in (Err x) = 0
taken_in (Ok (answer.Took n r)) = n
taken_in (Ok (answer.Sends r)) = 0
taken_in (Ok (answer.Waits r n)) = 0
taken_in (Ok (answer.Completes c)) = 0
taken_in (Ok (answer.Attempt n)) = 0
taken_in (Ok answer.Accepted) = 0
taken_in (Ok answer.Done) = 0
taken_in (Ok (answer.Ends e)) = 0

-- the bytes that it says were released
abbrev pub released : Result Answer Refusal → ℕ
released (Err x) = 0
released (Ok (answer.Took n r)) = 0
released (Ok (answer.Sends r)) = 0
released (Ok (answer.Waits r n)) = 0
released (Ok (answer.Completes c)) = c.released
released (Ok (answer.Attempt n)) = 0
released (Ok answer.Accepted) = 0
released (Ok answer.Done) = 0
released (Ok (answer.Ends e)) = e.released

abbrev pub maybe_length : opt.Option Request → ℕ
maybe_length None = 0
maybe_length (Some r) = length_of r.«data»

-- the request that an answer hands out
abbrev pub handed : Result Answer Refusal → opt.Option Request
handed (Err x) = None
handed (Ok (answer.Took n r)) = r
handed (Ok (answer.Sends r)) = Some r
handed (Ok (answer.Waits r n)) = Some r
handed (Ok (answer.Completes c)) = c.request
handed (Ok (answer.Attempt n)) = None
handed (Ok answer.Accepted) = None
handed (Ok answer.Done) = None
handed (Ok (answer.Ends e)) = None

-- the length that it gives its data
abbrev pub sent_length : Result Answer Refusal → ℕ
sent_length a = maybe_length (handed a)
