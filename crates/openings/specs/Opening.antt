-- What an opening promises: it is the rules' opening of what it is given.
use Rattle.std.specs.Prelude.{◌≡◌, false, ◌&&◌, List, ℕ, ◌+◌, ◌*◌, ◌-◌, ◌<◌, ◌≤◌, max, length, drop, replicate, ℤ, pos}
use Rattle.std.proofs.Math.Option.{Option, none, some, get_or}
use Rattle.rules.specs.Limits.{max_chunk, max_capacity, default_capacity, store_size}
use Rattle.crc32c.specs.Reg.{crc_of}
use Rattle.rules.specs.Message as M
use Rattle.rules.specs.Message.{Bytes}
use Rattle.rules.specs.Spec.{handle_response}
use Rattle.rules.specs.Spec as S
use Rattle.rules.specs.Session as R
use Rattle.rules.specs.Opening as O
use Rattle.bidi_write.specs.View.{generation_of, checksum_of, given, response_of}
use Rattle.bidi_write.specs.declared.Cause.TheVariants as cause
use Rattle.std.specs.declared.option.Option as opt
use Rattle.std.specs.Prelude.{Some, None}
use Rattle.std.specs.declared.result.Result.{Result}
use Rattle.std.specs.Prelude.{Ok, Err}
use Rattle.bidi_write.specs.declared.Offset.{Offset}
use Rattle.state.specs.View.{condition_of, opened, spec_of, SpecFits}
use Rattle.state.specs.declared.AppendObjectSpec.{AppendObjectSpec}
use Rattle.connector.specs.declared.Connector.{Connector}
use Rattle.replay_buffer.specs.View.{lent, queue_of, Fits, Sound}
use Rattle.replay_buffer.specs.declared.Acked.{Acked}
use Rattle.replay_buffer.specs.declared.ReplayBuffer.{ReplayBuffer}
use Rattle.worker.specs.View.{no_waiters}
use Rattle.bidi_write.specs.Refusal.{number_of}
use Rattle.transport.specs.View.{lent_of, view}
use Rattle.transport.specs.Valid.{Valid}
use Rattle.transport.specs.declared.Phase.{Phase}
use Rattle.transport.specs.declared.Phase.TheVariants as phase
use Rattle.transport.specs.declared.Sent.TheVariants as sent
use Rattle.bidi_write.specs.declared.Refusal.{Refusal}
use Rattle.transport.specs.declared.Session.{Session}
use Rattle.openings.specs.declared.Opening.{Opening}
use Rattle.openings.specs.declared.Opened.{Opened}
use Rattle.openings.specs.declared.starting.Started.{Started}

-- the bytes that come beside an opening
pub record Beside : Type 0 where
  pub bucket : Bytes
  pub object : Bytes
  pub write_handle : Bytes
  pub routing_token : Bytes
  pub response_handle : Bytes
  pub payload : Bytes

abbrev pub beside : Bytes → Bytes → Bytes → Bytes → Bytes → Bytes → Beside
beside bucket object handle token response payload = record {
  bucket = bucket;
  object = object;
  write_handle = handle;
  routing_token = token;
  response_handle = response;
  payload = payload;
}

abbrev pub asked_of : opt.Option ℕ → Option ℕ
asked_of None = none
asked_of (Some n) = some n

-- the spec that the opening dialled with
abbrev pub dialled : Opening → Beside → S.AppendObjectSpecState
dialled o b =
    opened o.append b.bucket b.object (generation_of o.generation) (given o.has_write_handle b.write_handle)
    (given o.has_routing_token b.routing_token) (condition_of o.if_metageneration_match) (condition_of o.if_metageneration_not_match)

-- the opening, lent a store and a table of these lengths, as the rules have it
unfoldable pub opening_of : Opening → Beside → ℕ → ℕ → O.Opening
opening_of o b store table = record {
  limit = o.limit;
  asked = asked_of o.capacity;
  store_length = store;
  slots = table;
  spec = dialled o b;
  response = response_of o.response b.response_handle;
  checksum = checksum_of o.checksum;
  payload = given o.has_payload b.payload;
  last_persisted_size = o.last_persisted_size.0;
}

-- ---- the session of a refused opening

abbrev pub empty_of : ℕ → ReplayBuffer
empty_of capacity = record { capacity = capacity; head = 0; unpersisted_bytes = 0; first = 0; chunks = 0 }

-- no waiter, and nothing held
abbrev pub fresh_session : ℕ → ℕ → Phase → Offset → opt.Option ℕ → Connector → ReplayBuffer → Offset → Session
fresh_session limit slots p at sum c b size = record {
  limit = limit;
  slots = slots;
  phase = p;
  sent = sent.Nothing;
  made = 0;
  write_offset = at;
  running_crc32c = sum;
  held = 0;
  worker = record { connector = c; replay_buffer = b; pending_requests = no_waiters; persisted_size = size; finalized = false; self_flush_outstanding = false };
}

abbrev pub zeros : ℕ → Bytes
zeros n = replicate n 0

-- no name, generation, handle, token or condition
unfoldable pub no_spec : AppendObjectSpec
no_spec = record {
  bucket = record { bytes = zeros 256; length = 0 };
  object = record { bytes = zeros 1024; length = 0 };
  generation = record { 0 = pos 0 };
  write_handle = None;
  routing_token = None;
  if_metageneration_match = None;
  if_metageneration_not_match = None;
}

abbrev pub at_zero : Offset
at_zero = record { 0 = pos 0 }

-- one that ended, with the smallest ring and one slot
unfoldable pub unopened : Session
unopened =
    fresh_session 1 1 (phase.Ended cause.GivenUp) at_zero None
    (record { spec = no_spec; attempt_count = 0; redirects_followed = 0; last_persisted_size = at_zero }) (empty_of 3) at_zero

-- ---- the promise

-- what the opening answered and left, as the rules have it
abbrev pub opened_of : Result (Unit {0}) Refusal → R.Session → O.Opened
opened_of (Err x) s = O.turned_away (number_of x)
opened_of (Ok tt) s = O.opened s

-- the bytes that it released
abbrev pub released_at : Result (Unit {0}) Refusal → O.Opening → ℕ
released_at (Err x) o = 0
released_at (Ok tt) o = O.open_released o

-- a session with the writer's generation and persisted size (`generation`, `persisted_size` of transport.rs): its own
abbrev pub opened_as : Session → Result (Unit {0}) Refusal → ℕ → Opened
opened_as s a n = record { session = s; answer = a; released = n; generation = s.worker.connector.spec.generation; persisted_size = s.worker.persisted_size }

-- the rules' opening o, from the store and table lent to what it answered and left of them
pub record OpensAs (o : O.Opening) (store : Bytes) (table : List ℕ) (r : Opened) (store' : Bytes) (table' : List ℕ) : Type 0 where
  pub writer_is : r ≡ opened_as r.session r.answer r.released
  pub released_is : r.released ≡ released_at r.answer o
  pub opens_is : opened_of r.answer (view r.session store' table') ≡ O.opens o
  -- a refused opening touches nothing, and leaves a session that ended
  pub refuses : (x : Refusal) → r.answer ≡ Err x → (r.session ≡ unopened) × (store' ≡ store) × (table' ≡ table)
  -- what is lent beyond ring and slots is untouched
  pub store_beyond : drop (lent_of r.session).size store' ≡ drop (lent_of r.session).size store
  pub table_beyond : drop r.session.slots table' ≡ drop r.session.slots table
  pub valid : r.answer ≡ Ok tt → Valid r.session store' table'

-- for any input whatever
abbrev pub Opens : Opening → Beside → Bytes → List ℕ → Opened → Bytes → List ℕ → Type 0
Opens o b store table r store' table' = OpensAs (opening_of o b (length store) (length table)) store table r store' table'

-- ---- its parts

-- what refusals 1 to 4 leave
pub record Admitted (o : Opening) (b : Beside) (store table : ℕ) : Type 0 where
  pub limit_some : 0 < o.limit
  pub limit_top : o.limit ≤ max_chunk
  pub asked_top : get_or (asked_of o.capacity) default_capacity ≤ max_capacity
  pub store_lent : store_size (max (get_or (asked_of o.capacity) default_capacity) (2 * o.limit + 1)) o.limit ≤ store
  pub table_lent : 0 < table
  pub bucket_in : length b.bucket ≤ 256
  pub object_in : length b.object ≤ 1024
  pub token_in : M.over M.max_token (given o.has_routing_token b.routing_token) ≡ false
  pub handle_in : M.over M.max_handle (given (o.append && o.has_write_handle) b.write_handle) ≡ false
  pub response_in : M.over M.max_handle (given o.response.has_write_handle b.response_handle) ≡ false
  pub payload_in : M.over o.limit (given o.has_payload b.payload) ≡ false

-- the refusals
pub record Admits (o : Opening) (b : Beside) (store table : ℕ) (r : Result (Unit {0}) Refusal) : Type 0 where
  pub refuses : (x : Refusal) → r ≡ Err x → O.opens (opening_of o b store table) ≡ O.turned_away (number_of x)
  pub goes : r ≡ Ok tt → O.opens (opening_of o b store table) ≡ O.opened (O.open_session (opening_of o b store table))
  pub admitted : r ≡ Ok tt → Admitted o b store table

-- the connector
pub record Connects (o : Opening) (bucket object handle token response : Bytes) (r : Connector) : Type 0 where
  pub spec_is : (payload : Bytes)
      → spec_of r.spec ≡ handle_response (response_of o.response response) (dialled o (beside bucket object handle token response payload))
  pub fits : SpecFits r.spec
  pub attempts_is : r.attempt_count ≡ 0
  pub redirects_is : r.redirects_followed ≡ 0
  pub size_is : r.last_persisted_size ≡ o.last_persisted_size

abbrev pub payload_sum : Option Bytes → opt.Option ℕ
payload_sum none = None
payload_sum (some b) = Some (crc_of b)

-- what a payload is stored into
pub record Sized (limit capacity store table : ℕ) : Type 0 where
  pub limit_some : 0 < limit
  pub limit_top : limit ≤ max_chunk
  pub capacity_low : 2 * limit + 1 ≤ capacity
  pub capacity_top : capacity ≤ max_capacity
  pub store_lent : store_size capacity limit ≤ store
  pub table_lent : 0 < table

-- the replay buffer, with the payload
pub record Stores (limit capacity : ℕ) (payload : Option Bytes) (persisted : ℤ) (store : Bytes) (table : List ℕ) (r : Acked) (store' : Bytes) (table' : List ℕ) : Type 0 where
  pub capacity_is : r.buffer.capacity ≡ capacity
  pub released_is : r.released ≡ O.payload_length payload - length (R.bytes_of (O.open_chunks payload persisted))
  pub fits : Fits (lent (store_size capacity limit) (length table)) r.buffer (O.payload_length payload) (length store') (length table')
  pub sound : Sound limit (lent (store_size capacity limit) (length table)) r.buffer table'
  pub queue_is : queue_of (lent (store_size capacity limit) (length table)) r.buffer (O.payload_length payload) store' table' ≡ O.open_chunks payload persisted
  pub store_beyond : drop (store_size capacity limit) store' ≡ drop (store_size capacity limit) store
  pub table_beyond : drop (length table) table' ≡ drop (length table) table

-- the session of an accepted opening
pub record Starts (o : Opening) (b : Beside) (store : Bytes) (table : List ℕ) (r : Started) (store' : Bytes) (table' : List ℕ) : Type 0 where
  pub view_is : view r.session store' table' ≡ O.open_session (opening_of o b (length store) (length table))
  pub released_is : r.released ≡ O.open_released (opening_of o b (length store) (length table))
  pub valid : Valid r.session store' table'
  pub store_beyond : drop (lent_of r.session).size store' ≡ drop (lent_of r.session).size store
  pub table_beyond : drop r.session.slots table' ≡ drop r.session.slots table
