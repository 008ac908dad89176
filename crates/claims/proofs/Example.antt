-- What the claims about the host's calls ask can be met: an opening with C 1, capacity 3 and one slot, an append of one byte, which cuts a chunk, what the
-- server does with it, and a response that acknowledges it, with records and memory written out.
-- Assumes nothing.
use mathlib.Core.Path.{◌≡◌, refl, sym, ◌∙◌, subst}
use mathlib.Core.Bool.{Bool, true, false}
use mathlib.Core.Option.{none, some, some-injective, none-ne-some}
use mathlib.Core.List.{List, [], ◌∷◌, ◌++◌}
use Prim.Native.Nat.{ℕ, ◌≤◌, ◌<◌}
use native.Mathlib.Omega.{arith}
use lib.ListN.{length, replicate}
use lib.IntN.{pos}
use lib.Signed.{lt_z}
use Rattle.rules.specs.Message.{Bytes}
use Rattle.rules.specs.Message as M
use Rattle.rules.specs.Limits.{store_size}
use Rattle.rules.specs.Session as R
use Rattle.rules.specs.Opening.{bucket_prefix}
use Rattle.rules.specs.Opening as O
use Rattle.rules.specs.Server.{Stored, alone}
use Rattle.rules.specs.World.{World, Event, call_in, host_calls, host_hands, server_takes, server_persists, server_says, ServerAt, start}
use Rattle.rules.specs.Demand3.{Holds}
use Rattle.rules.specs.Program.{Turn, Did, AllDid, ran}
use Rattle.rules.specs.Calls.{CallTurn}
use Rattle.plan_rules.specs.Plan.{planned}
use Rattle.rules.proofs.Evidence.Computed.{computed}
use Rattle.rules.proofs.Tests.{clash}
use Rattle.ring.specs.Ring.{rot, part}
use Rattle.bidi_write.specs.View.{request_of}
use Rattle.std.specs.Prelude.{Some, None}
use Rattle.std.specs.Prelude.{Ok}
use Rattle.bidi_write.specs.declared.Offset.{Offset}
use Rattle.bidi_write.specs.declared.WriteStatus.TheVariants as status
use Rattle.state.specs.View.{spec_of}
use Rattle.state.specs.declared.AppendObjectSpec.{AppendObjectSpec}
use Rattle.connector.specs.View.{connector_of}
use Rattle.chunk_words.specs.Word.{packed}
use Rattle.replay_buffer.specs.View.{lent, queue_of, Sound}
use Rattle.replay_buffer.specs.declared.ReplayBuffer.{ReplayBuffer}
use Rattle.worker.specs.View.{waiters_of, no_waiters, worker_of}
use Rattle.transport.specs.View.{Left, phase_of, view, answer_of}
use Rattle.transport.specs.Valid.{Valid}
use Rattle.transport.specs.Promise.{asked_by, First}
use Rattle.transport.specs.Claim.{Memory, view_of, ValidAt, Does}
use Rattle.transport.specs.declared.Answer.{Answer}
use Rattle.transport.specs.declared.Answer.TheVariants as answer
use Rattle.transport.specs.declared.Phase.TheVariants as phase
use Rattle.transport.specs.declared.Sent.{Sent}
use Rattle.transport.specs.declared.Sent.TheVariants as sent
use Rattle.transport.specs.declared.Session.{Session}
use Rattle.openings.specs.Opening.{Beside, beside, opening_of, opened_as}
use Rattle.openings.specs.declared.Opening.{Opening}
use Rattle.session.specs.Lent.{outcome}
use Rattle.claims.specs.Claim.{Ensures, Begins}
use Rattle.claims.proofs.Claim.{host_demand3, host_planned}
use Rattle.claims.proofs.Tied.{ensures_all, opens_all}

-- ---- the opening

abbrev zero : Offset
zero = record { 0 = pos 0 }

abbrev bucket : Bytes
bucket = bucket_prefix ++ (98 ∷ [])

abbrev opening : Opening
opening = record {
  limit = 1;
  capacity = Some 3;
  append = false;
  generation = record { 0 = pos 0 };
  has_write_handle = false;
  has_routing_token = false;
  if_metageneration_match = None;
  if_metageneration_not_match = None;
  response = record { write_status = Some (status.PersistedSize zero); has_write_handle = false };
  checksum = None;
  has_payload = false;
  last_persisted_size = zero;
}

abbrev names : Beside
names = beside bucket (111 ∷ []) [] [] [] []

abbrev given : O.Opening
given = opening_of opening names 3 1

-- ---- the records and the memory

abbrev spec : AppendObjectSpec
spec = record {
  bucket = record { bytes = bucket ++ replicate 236 0; length = 20 };
  object = record { bytes = 111 ∷ replicate 1023 0; length = 1 };
  generation = record { 0 = pos 0 };
  write_handle = None;
  routing_token = None;
  if_metageneration_match = None;
  if_metageneration_not_match = None;
}

-- a record of this session: what was sent last, the write offset and its sum, the buffer, P, the mark
abbrev record_of : Sent → Offset → ℕ → ReplayBuffer → Offset → Bool → Session
record_of n at sum b p mark = record {
  limit = 1;
  slots = 1;
  phase = phase.Live;
  sent = n;
  made = 0;
  write_offset = at;
  running_crc32c = Some sum;
  held = 0;
  worker = record {
    connector = record { spec = spec; attempt_count = 0; redirects_followed = 0; last_persisted_size = zero };
    replay_buffer = b;
    pending_requests = no_waiters;
    persisted_size = p;
    finalized = false;
    self_flush_outstanding = mark;
  };
}

-- the sum of the byte 97
abbrev sum : ℕ
sum = 0xC1D04330

abbrev one : Offset
one = record { 0 = pos 1 }

abbrev opened : Memory
opened = record {
  session = record_of sent.Nothing zero 0 (record { capacity = 3; head = 0; unpersisted_bytes = 0; first = 0; chunks = 0 }) zero false;
  store = 0 ∷ 0 ∷ 0 ∷ [];
  table = 0 ∷ [];
}

abbrev stored : Memory
stored = record {
  session = record_of sent.Request one sum (record { capacity = 3; head = 0; unpersisted_bytes = 1; first = 0; chunks = 1 }) zero true;
  store = 97 ∷ 0 ∷ 0 ∷ [];
  table = packed 1 sum ∷ [];
}

abbrev acknowledged : Memory
acknowledged = record {
  session = record_of sent.Nothing one sum (record { capacity = 3; head = 1; unpersisted_bytes = 0; first = 0; chunks = 0 }) one false;
  store = 97 ∷ 0 ∷ 0 ∷ [];
  table = packed 1 sum ∷ [];
}

-- the numbers of the buffer that a record of this session may have
record Numbers (b : ReplayBuffer) (at : ℕ) : Type 0 where
  capacity_is : b.capacity ≡ 3
  head_in : b.head < 3
  stored_in : b.unpersisted_bytes ≤ 1
  first_in : b.first ≡ 0
  chunks_in : b.chunks ≤ 1
  at_in : at ≤ 1
  at_sign : lt_z (pos at) (pos 0) ≡ false
  started : b.unpersisted_bytes ≤ at

valid : (n : Sent) (at : ℕ) (s : ℕ) (b : ReplayBuffer) (p : Offset) (mark : Bool) (store : Bytes) (table : List ℕ) → Numbers b at → length store ≡ 3 → length table ≡ 1
    → Sound 1 (lent (store_size b.capacity 1) 1) b table → Valid (record_of n (record { 0 = pos at }) s b p mark) store table
unfolding waiters_of no_waiters
valid n at s b p mark store table h e f sound =
    let k : b.capacity ≡ 3 = h.capacity_is in
    let l : b.head < 3 = h.head_in in
    let q : b.unpersisted_bytes ≤ 1 = h.stored_in in
    let r : b.first ≡ 0 = h.first_in in
    let u : b.chunks ≤ 1 = h.chunks_in in
    let v : at ≤ 1 = h.at_in in
    let w : b.unpersisted_bytes ≤ at = h.started in
    record {
      guarded = record {
        limit_some = omega arith;
        limit_top = omega arith;
        capacity_low = omega arith;
        capacity_top = omega arith;
        store_lent = omega arith;
        table_lent = omega arith;
        head_in = omega arith;
        stored_in = omega arith;
        held_in = omega arith;
        first_in = omega arith;
        chunks_in = omega arith;
        waiting_in = omega arith;
        offset_in = h.at_sign;
        offset_top = omega arith;
        started = w;
      };
      slots_in = omega arith;
      sound = sound;
      waiting_is = refl;
      spec_fits = record { bucket = omega arith; object = omega arith; handle = tt; token = tt };
      followed = λ _. omega arith;
      cursor = tt;
    }

valid_opened : ValidAt opened
unfolding rot part
valid_opened = valid _ 0 _ _ _ _ _ _
    (record { capacity_is = refl; head_in = omega arith; stored_in = omega arith; first_in = refl; chunks_in = omega arith; at_in = omega arith; at_sign = refl; started = omega arith })
    refl refl (record { stored_is = refl; small = tt })

valid_stored : ValidAt stored
unfolding rot part
valid_stored = valid _ 1 _ _ _ _ _ _
    (record { capacity_is = refl; head_in = omega arith; stored_in = omega arith; first_in = refl; chunks_in = omega arith; at_in = omega arith; at_sign = refl; started = omega arith })
    refl refl (record { stored_is = refl; small = (omega arith, tt) })

valid_acknowledged : ValidAt acknowledged
unfolding rot part
valid_acknowledged = valid _ 1 _ _ _ _ _ _
    (record { capacity_is = refl; head_in = omega arith; stored_in = omega arith; first_in = refl; chunks_in = omega arith; at_in = omega arith; at_sign = refl; started = omega arith })
    refl refl (record { stored_is = refl; small = tt })

-- ---- the opening is accepted

met_begins : Begins given opened
unfolding computed opening_of view worker_of connector_of spec_of queue_of rot part waiters_of no_waiters
met_begins =
    opens_all opening names (0 ∷ 0 ∷ 0 ∷ []) (0 ∷ []) (opened_as opened.session (Ok tt) 0) opened.store opened.table
    (record {
      writer_is = refl;
      released_is = refl;
      opens_is = refl;
      refuses = λ x e. let z : ◌≡◌ {A = ℕ} 0 1 = cc in absurd (omega arith);
      store_beyond = refl;
      table_beyond = refl;
      valid = λ _. valid_opened;
    })
    refl

-- ---- the calls

-- a call of a live session whose numbers fit, and that is no append of nothing
first_free : (c : R.Call) (m : Memory) (out : Bytes) (r : Left) (store' : Bytes) (table' : List ℕ) (out' : Bytes) → (asked_by c).empty ≡ false
    → R.is_ended (phase_of m.session.phase) ≡ false → ValidAt m → First c m.session m.store m.table out r store' table' out'
first_free c m out r store' table' out' e f v = record {
  empty = λ g. clash g e;
  over = λ _ g. clash g f;
  unfit = λ _ _ _ n. absurd (n v.guarded);
}

abbrev append : R.Call
append = R.append (97 ∷ []) 1

abbrev cut : Answer
cut = answer.Took 1 (Some (record {
  write_offset = zero;
  «data» = Some (record { length = 1; crc32c = sum });
  object_checksums = None;
  state_lookup = true;
  flush = true;
  finish_write = false;
}))

met_append : Does Ensures append opened (answer_of (Ok cut) (97 ∷ [])) stored
unfolding computed request_of view worker_of connector_of spec_of queue_of rot part waiters_of no_waiters
met_append =
    ensures_all append opened (0 ∷ []) (outcome stored.session (Ok cut)) stored.store stored.table (97 ∷ []) (
      record {
        first = first_free append opened (0 ∷ []) _ _ _ _ refl refl valid_opened;
        refuses = λ x e. let z : ◌≡◌ {A = ℕ} 0 1 = cc in absurd (omega arith);
        takes = omega arith;
        store_beyond = refl;
        table_beyond = refl;
        out_beyond = refl;
        sent_is = refl;
        sent_in = omega arith;
        steps = λ _. refl;
        stays = λ _. valid_stored;
      },
      refl,
    )

abbrev report : R.Call
report = R.response (record { write_status = some (M.persisted_size (pos 1)); write_handle = none })

abbrev taken : Answer
taken = answer.Completes (record { waiters = 0; released = 1; request = None })

met_response : Does Ensures report stored (answer_of (Ok taken) []) acknowledged
unfolding computed view worker_of connector_of spec_of queue_of rot part waiters_of no_waiters
met_response =
    ensures_all report stored [] (outcome acknowledged.session (Ok taken)) acknowledged.store acknowledged.table [] (
      (λ out. record {
        first = first_free report stored out _ _ _ _ refl refl valid_stored;
        refuses = λ x e. let z : ◌≡◌ {A = ℕ} 0 1 = cc in absurd (omega arith);
        takes = omega arith;
        store_beyond = refl;
        table_beyond = refl;
        out_beyond = refl;
        sent_is = refl;
        sent_in = omega arith;
        steps = λ _. refl;
        stays = λ _. valid_acknowledged;
      }),
      (refl, refl),
    )

-- ---- the run

abbrev empty : Stored
empty = record { object = []; tail = []; finalised = false }

met_server : ServerAt given empty
unfolding opening_of
met_server = record { size = refl; together = refl; summed = λ _ s e. absurd (none-ne-some s e) }

abbrev Turns : Type 0
Turns = List (Turn view_of (Does Ensures))

abbrev idle : Event → Turn view_of (Does Ensures)
idle e = record { event = e; answer = R.ok; left = stored }

abbrev turns : Turns
turns =
    record { event = host_calls append true; answer = answer_of (Ok cut) (97 ∷ []); left = stored }
    ∷ idle (server_takes 0 0)
    ∷ idle (server_persists 1)
    ∷ idle (server_says (some alone) none)
    ∷ record { event = host_hands true false; answer = answer_of (Ok taken) []; left = acknowledged }
    ∷ []

abbrev world : World
world = start given (view_of opened) empty

-- an event without a call
did_idle : (e : Event) (w : World) → call_in e w ≡ none → Did view_of (Does Ensures) (idle e) stored w
did_idle e w f = record { called = λ c g. absurd (none-ne-some c (sym f ∙ g)); idle = λ _. refl }

-- an event with one
did_call : (t : Turn view_of (Does Ensures)) (m : Memory) (w : World) (c : R.Call) → call_in t.event w ≡ some c → Does Ensures c m t.answer t.left
    → Did view_of (Does Ensures) t m w
did_call t m w c f d = record {
  called = λ x g. subst (λ (y : R.Call). Does Ensures y m t.answer t.left) (some-injective c x (sym f ∙ g)) d;
  idle = λ g. absurd (none-ne-some c (sym g ∙ f));
}

pub met : AllDid view_of (Does Ensures) turns opened world
unfolding computed request_of view worker_of connector_of spec_of queue_of rot part waiters_of no_waiters
met = (
  did_call _ opened _ append refl met_append,
  (did_idle (server_takes 0 0) _ refl, (did_idle (server_persists 1) _ refl, (did_idle (server_says (some alone) none) _ refl, (did_call _ stored _ report refl met_response, tt)))),
)

-- the byte is in the object, and P is its size
pub met_object : (ran view_of (Does Ensures) turns world).server.stored.object ≡ 97 ∷ []
unfolding computed request_of view worker_of connector_of spec_of queue_of rot part waiters_of no_waiters
met_object = refl

-- and the bank may drop its copy
pub met_released : (ran view_of (Does Ensures) turns world).notes.released ≡ 1
unfolding computed opening_of request_of view worker_of connector_of spec_of queue_of rot part waiters_of no_waiters
met_released = refl

-- so the claims speak of this run
pub met_holds : Holds (ran view_of (Does Ensures) turns world)
met_holds = host_demand3 given opened met_begins empty met_server turns met

-- ---- its append drives the list of one length, and the record shows the plan

abbrev driving : List (CallTurn view_of (Does Ensures))
driving = record { call = append; answer = answer_of (Ok cut) (97 ∷ []); left = stored } ∷ []

pub met_planned : planned 1 (1 ∷ []) ≡ some (record { chunks = 1; stored = 1; held = 0; appends = 1; flushes = 0 })
unfolding opening_of view
met_planned =
    host_planned given opened met_begins (record { at_zero = refl; bare = refl }) driving (met_append, tt) (1 ∷ [])
    (record { session = view_of stored; appends = 1; flushes = 0 }) refl
