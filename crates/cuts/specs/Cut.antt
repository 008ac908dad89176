-- The cut of a chunk: what its functions promise append, flush and finalise, and each other.
use Rattle.std.specs.Prelude.{◌≡◌, Bool, true, not, ◌&&◌, ◌||◌, List, ◌++◌, ℕ, ◌+◌, ◌*◌, ◌-◌, ◌<◌, ◌≤◌, ◌^◌, length, take, drop, leb, eqb, pos}
use Rattle.std.proofs.Math.Option.{some}
use Rattle.crc32c.specs.Reg.{joined}
use Rattle.rules.specs.Message.{Bytes}
use Rattle.rules.specs.Session as R
use Rattle.rules.specs.Upload as U
use Rattle.rules.specs.Notes.{data_in}
use Rattle.ring.specs.Ring.{part}
use Rattle.bidi_write.specs.View.{length_of, request_of}
use Rattle.std.specs.declared.option.Option as opt
use Rattle.std.specs.Prelude.{Some, None}
use Rattle.replay_buffer.specs.declared.ReplayBuffer.{ReplayBuffer}
use Rattle.worker.specs.declared.Worker.{Worker}
use Rattle.transport.specs.View.{phase_of, lent_of, end_of, view}
use Rattle.transport.specs.Valid.{GuardedAt, Valid}
use Rattle.transport.specs.declared.Session.{Session}
use Rattle.transport.specs.declared.Sent.TheVariants as sent
use Rattle.cuts.specs.declared.Sending.{Sending}

-- the n bytes behind the stored ones
abbrev pub chunk_at : Session → ℕ → Bytes → Bytes
chunk_at s n store = part (lent_of s).size s.worker.replay_buffer.head s.worker.replay_buffer.unpersisted_bytes n store

-- what the tests leave of a call that cuts a chunk of n bytes
pub record Cuttable (s : Session) (n out : ℕ) : Type 0 where
  pub live : R.is_live (phase_of s.phase) ≡ true
  pub small : n ≤ s.limit
  pub out_in : s.limit ≤ out
  pub below : s.worker.replay_buffer.unpersisted_bytes < s.worker.replay_buffer.capacity
  pub free : s.worker.replay_buffer.chunks < s.slots
  pub end_in : end_of s + n < 2 ^ 63

pub record CutRoom (s : Session) (n store table out : ℕ) : Type 0 where
  pub guarded : GuardedAt s store table
  pub cuttable : Cuttable s n out

abbrev pub joined_to : opt.Option ℕ → ℕ → ℕ → opt.Option ℕ
joined_to None sum n = None
joined_to (Some running) sum n = Some (joined running sum n)

abbrev pub storing : ReplayBuffer → Bool → Worker → Worker
storing b flush w = record w { replay_buffer = b; self_flush_outstanding = w.self_flush_outstanding || flush }

-- the watermark, with the buffer b
abbrev pub flushes_with : ReplayBuffer → Session → Bool
flushes_with b s =
    eqb s.worker.pending_requests.count 0 && not s.worker.self_flush_outstanding && leb (b.capacity - 2 * s.limit) b.unpersisted_bytes

abbrev pub cut_session : ReplayBuffer → ℕ → ℕ → Session → Session
cut_session b sum n s = record s {
  sent = sent.Request;
  write_offset = record { 0 = pos (end_of s + n) };
  running_crc32c = joined_to s.running_crc32c sum n;
  held = 0;
  worker = storing b (flushes_with b s) s.worker;
}

pub record CutSession (s : Session) (b : ReplayBuffer) (sum n : ℕ) (r : Sending) : Type 0 where
  pub session_is : r.session ≡ cut_session b sum n s
  pub request_is : (out : Bytes)
      → request_of r.request out ≡ U.chunk_request (record { write_offset = s.write_offset.0; bytes = take n out; crc32c = sum }) (flushes_with b s)

-- the n bytes behind the stored ones are cut as the rules cut them
pub record Cuts (s : Session) (n : ℕ) (store : Bytes) (table : List ℕ) (out : Bytes) (r : Sending) (table' : List ℕ) (out' : Bytes) : Type 0 where
  -- for any memory
  pub table_beyond : drop s.slots table' ≡ drop s.slots table
  pub out_beyond : out' ≡ data_in (some (request_of r.request out')) ++ drop (length_of r.request.«data») out
  pub sent_is : length (data_in (some (request_of r.request out'))) ≡ length_of r.request.«data»
  pub sent_in : length_of r.request.«data» ≤ length out
  -- for what calls leave
  pub request_is : Valid s store table → request_of r.request out' ≡ U.cut_request (chunk_at s n store) (view s store table)
  pub session_is : Valid s store table → view r.session store table' ≡ U.cuts (chunk_at s n store) (view s store table)
  pub stays : Valid s store table → Valid r.session store table'
