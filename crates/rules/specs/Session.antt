-- The session's state, grouped as the crate's structs own each other, the calls, the answers, and the tests that refusals and rules ask.
use Rattle.std.specs.Prelude.{◌&&◌, ◌||◌, ◌∷◌, ◌++◌, ◌*◌, ◌-◌, ◌^◌, ◌+ℤ◌}
use Rattle.rules.specs.Basics.{Bool, true, false, not, cond, Option, List, [], ℕ, length, leb, ltb, eqb, ℤ, pos, lt_z}
use Rattle.rules.specs.Limits.{max_waiters}
use Rattle.rules.specs.Message.{Bytes, Request, Response, Break}
use Rattle.rules.specs.Spec.{AppendObjectSpec}

-- stored bytes that the server may not have persisted, with their offset and sum
pub record ReplayChunk : Type 0 where
  pub write_offset : ℤ
  pub bytes : Bytes
  pub crc32c : ℕ

pub record ReplayBuffer : Type 0 where
  pub queue : List ReplayChunk
  pub capacity : ℕ

pub record Counters : Type 0 where
  pub attempt_count : ℕ
  pub redirects_followed : ℕ
  pub last_persisted_size : ℤ

pub record Connector : Type 0 where
  pub spec : AppendObjectSpec
  pub counters : Counters

pub data PendingKind : Type 0 where
  flushing finalizing : PendingKind

-- a waiter: the request that waits for its confirmation
pub record PendingRequest : Type 0 where
  pub kind : PendingKind
  pub request : Request

pub record Worker : Type 0 where
  pub connector : Connector
  pub replay_buffer : ReplayBuffer
  pub pending_requests : List PendingRequest
  pub persisted_size : ℤ  -- P
  pub finalized : Bool  -- finalise was sent
  pub self_flush_outstanding : Bool  -- the mark: an own flush is outstanding

-- "Ends other than *finished* fail every waiter."
pub data Cause : Type 0 where
  finished regressed beyond already_finalized permanent exhausted given_up stream_error : Cause

-- a verdict is awaited on a redirect or not; a replay has handed out so many requests
pub data Phase : Type 0 where
  live closing connecting : Phase
  verdict : Bool → Phase
  replay : ℕ → Phase
  ended : Cause → Phase

-- what the last accepted call sent: for a send reported failed
pub data Sent : Type 0 where
  nothing a_request bare_flush : Sent

-- the crate's transport
pub record Writer : Type 0 where
  pub made : ℕ  -- waiters made so far
  pub write_offset : ℤ
  pub running_crc32c : Option ℕ  -- unknown: none
  pub held : Bytes  -- what the coalescing buffer has

pub record Session : Type 0 where
  pub limit : ℕ  -- C
  pub slots : ℕ  -- of the chunk table
  pub phase : Phase
  pub sent : Sent
  pub writer : Writer
  pub worker : Worker

-- ---- calls and answers

-- an `ℕ` beside an append, flush, finalise or next request is the length of the out buffer, beside a break the verdict
pub data Call : Type 0 where
  append : Bytes → ℕ → Call
  flush finalise next_request : ℕ → Call
  close send_failed : Call
  response handshake : Response → Call
  break : Break → Call
  judge : ℕ → Call
  failed_attempt : Break → ℕ → Call

pub data Answer : Type 0 where
  refused : ℕ → Answer  -- the number of document 01's table; 15 is document 02's
  took : ℕ → Option Request → Answer  -- append: bytes taken, and the request of the chunk that was cut
  sends : Request → Answer  -- flush, finalise: held bytes were cut, call again; next request: the one to send
  waits : Request → ℕ → Answer  -- flush, finalise: the request, and the number of the waiter made
  completes : ℕ → ℕ → Option Request → Answer  -- response, handshake: waiters completed, lowest numbers first, bytes released, and a bare flush
  attempt : ℕ → Answer  -- break: the attempt number, 0 on a redirect
  ok : Answer  -- close, a verdict or failed attempt that goes on, a send reported failed
  done : Answer  -- next request: the replay is done
  ends : Cause → ℕ → ℕ → ℕ → Answer  -- the call ended the session: cause, waiters completed and bytes released before, waiters failed or dropped

abbrev pub refused_with : ℕ → Answer → Bool
refused_with x = elim [ refused k ↦ eqb k x | took k r ↦ false | sends r ↦ false | waits r k ↦ false | completes k n r ↦ false | attempt k ↦ false | ok ↦ false | done ↦ false | ends c k n f ↦ false ]

pub record Result : Type 0 where
  pub answer : Answer
  pub session : Session

abbrev pub answers : Answer → Session → Result
answers a s = record { answer = a; session = s }

-- ---- parts set anew: all that a call may change, in the order of the record

abbrev pub working : Connector → List ReplayChunk → List PendingRequest → ℤ → Bool → Bool → Worker → Worker
working c q ps p f m w =
    let b : ReplayBuffer = record { queue = q; capacity = w.replay_buffer.capacity } in
    record { connector = c; replay_buffer = b; pending_requests = ps; persisted_size = p; finalized = f; self_flush_outstanding = m }

abbrev pub set_connector : Connector → Worker → Worker
set_connector c w = working c w.replay_buffer.queue w.pending_requests w.persisted_size w.finalized w.self_flush_outstanding w

abbrev pub set_mark : Bool → Worker → Worker
set_mark m w = working w.connector w.replay_buffer.queue w.pending_requests w.persisted_size w.finalized m w

abbrev pub set_pending : List PendingRequest → Bool → Worker → Worker
set_pending ps f w = working w.connector w.replay_buffer.queue ps w.persisted_size f w.self_flush_outstanding w

abbrev pub set_counters : ℕ → ℕ → ℤ → Connector → Connector
set_counters attempts redirects size c =
    record { spec = c.spec; counters = record { attempt_count = attempts; redirects_followed = redirects; last_persisted_size = size } }

abbrev pub set_spec : AppendObjectSpec → Connector → Connector
set_spec a c = record { spec = a; counters = c.counters }

abbrev pub going : Phase → Sent → Writer → Worker → Session → Session
going ph n r w s = record { limit = s.limit; slots = s.slots; phase = ph; sent = n; writer = r; worker = w }

abbrev pub set_worker : Worker → Session → Session
set_worker w s = going s.phase s.sent s.writer w s

abbrev pub set_phase : Phase → Sent → Session → Session
set_phase ph n s = going ph n s.writer s.worker s

-- ---- tests

abbrev pub is_nil {ℓ} : {A : Type ℓ} → List A → Bool
is_nil = elim [ [] ↦ true | x ∷ xs ↦ false ]

abbrev pub phase_number : Phase → ℕ
phase_number = elim [ live ↦ 1 | verdict r ↦ 2 | connecting ↦ 3 | replay i ↦ 4 | closing ↦ 5 | ended c ↦ 6 ]

abbrev pub is_live : Phase → Bool
is_live p = eqb (phase_number p) 1

abbrev pub is_verdict : Phase → Bool
is_verdict p = eqb (phase_number p) 2

abbrev pub is_connecting : Phase → Bool
is_connecting p = eqb (phase_number p) 3

abbrev pub is_replay : Phase → Bool
is_replay p = eqb (phase_number p) 4

abbrev pub is_closing : Phase → Bool
is_closing p = eqb (phase_number p) 5

abbrev pub is_ended : Phase → Bool
is_ended p = eqb (phase_number p) 6

abbrev pub chunks : Session → List ReplayChunk
chunks s = s.worker.replay_buffer.queue

abbrev pub waiters : Session → List PendingRequest
waiters s = s.worker.pending_requests

abbrev pub bytes_of : List ReplayChunk → Bytes  -- the bytes of the chunks, joined
bytes_of [] = []
bytes_of (c ∷ cs) = c.bytes ++ bytes_of cs

unfoldable pub stored : Session → ℕ
stored s = length (bytes_of (chunks s))

unfoldable pub full : Session → Bool  -- "stored bytes are at or above capacity"
full s = leb s.worker.replay_buffer.capacity (stored s)

unfoldable pub watermark : Session → Bool  -- "Watermark: no waiter, no own flush outstanding, stored ≥ capacity − 2 × C."
watermark s = is_nil (waiters s) && not s.worker.self_flush_outstanding && leb (s.worker.replay_buffer.capacity - 2 * s.limit) (stored s)

unfoldable pub closed : Session → Bool  -- "after close or a finalise's waiter"
closed s = is_closing s.phase || s.worker.finalized

unfoldable pub no_slot : Session → Bool  -- "no free chunk slot"
no_slot s = leb s.slots (length (chunks s))

unfoldable pub no_waiter : Session → Bool  -- "16 waiters wait, or 2^64 − 1 were made"
no_waiter s = leb max_waiters (length (waiters s)) || leb (2 ^ 64 - 1) s.writer.made

unfoldable pub past_end : Bytes → Session → Bool  -- "a chunk would end past 2^63 − 1"
past_end b s = lt_z (pos (2 ^ 63 - 1)) (s.writer.write_offset +ℤ pos (length b))

unfoldable pub short_out : ℕ → Session → Bool  -- "out buffer shorter than C"
short_out out s = ltb out s.limit

unfoldable pub complete : Session → Bool  -- finalise was sent and no waiter is left
complete s = s.worker.finalized && is_nil (waiters s)

abbrev pub Rows : Type 0  -- a test and its number in document 01's table
Rows = List (Bool × ℕ)

abbrev pub numbered : ℕ → Rows → Rows
numbered n [] = []
numbered n (row ∷ rows) = cond (eqb n row.1) (row ∷ numbered n rows) (numbered n rows)

abbrev pub in_order : List ℕ → Rows → Rows
in_order [] rows = []
in_order (n ∷ ns) rows = numbered n rows ++ in_order ns rows

-- "Later calls check 7, 12, 6, 13, 4, 11, 8, 9, 10, as far as they apply", and 15 "between 13 and 4".
abbrev pub checks : Rows → Rows
checks = in_order (7 ∷ 12 ∷ 6 ∷ 13 ∷ 15 ∷ 4 ∷ 11 ∷ 8 ∷ 9 ∷ 10 ∷ [])

unfoldable pub choose : Bool → Result → Result → Result  -- one of two results
choose true x y = x
choose false x y = y

-- "A refused call changes nothing": the first row whose test holds refuses, with its number
unfoldable pub unless : Session → Rows → Result → Result
unless s [] r = r
unless s (row ∷ rows) r = cond row.0 (answers (refused row.1) s) (unless s rows r)

unfoldable pub ending : Cause → ℕ → ℕ → Session → Result  -- the session ends: every waiter fails or is dropped; stored and held bytes stay
ending c completed released s =
    answers (ends c completed released (length (waiters s))) (set_phase (ended c) nothing (set_worker (set_pending [] s.worker.finalized s.worker) s))
