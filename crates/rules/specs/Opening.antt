-- "Opening": refusals 1 to 5 in order, else the session that the calls start from (`connect_attempt`, `start_worker`).
use Rattle.std.specs.Prelude.{◌&&◌, ◌||◌, ◌∷◌, ◌+◌, ◌*◌, ◌-◌}
use Rattle.rules.specs.Basics.{Bool, true, false, not, cond, Option, none, some, Option·getD, List, [], ℕ, max, length, leb, ltb, eqb, ℤ, pos, le_z}
use Rattle.rules.specs.Limits.{max_chunk, max_capacity, default_capacity, store_size}
use Rattle.crc32c.specs.Reg.{crc_of}
use Rattle.rules.specs.Message.{Bytes, Response, size_of, is_finalized, over, max_handle, max_token}
use Rattle.rules.specs.Spec.{AppendObjectSpecState, bucket_of, object_of, token_of, handle_of, handle_response}
use Rattle.rules.specs.Session.{ReplayChunk, live, nothing, Session, stored, Rows}
use Rattle.rules.specs.Respond.{ack}

pub record Opening : Type 0 where
  pub limit : ℕ  -- C
  pub asked : Option ℕ  -- the capacity asked for
  -- lent: bytes of the store, slots of the chunk table
  pub store_length : ℕ
  pub slots : ℕ
  pub spec : AppendObjectSpecState
  pub response : Response
  pub checksum : Option ℕ  -- the response's sum of the persisted data, which only an opening reads
  pub payload : Option Bytes
  pub last_persisted_size : ℤ

pub data Opened : Type 0 where
  turned_away : ℕ → Opened
  opened : Session → Opened

abbrev pub asked_capacity : Opening → ℕ  -- "An opening that names no capacity has 33,554,432."
asked_capacity o = Option·getD o.asked default_capacity

abbrev pub capacity_of : Opening → ℕ  -- "Capacity is the larger of the asked one and 2 × C + 1."
capacity_of o = max (asked_capacity o) (2 * o.limit + 1)

abbrev pub bucket_prefix : Bytes  -- `projects/_/buckets/`
bucket_prefix = 112 ∷ 114 ∷ 111 ∷ 106 ∷ 101 ∷ 99 ∷ 116 ∷ 115 ∷ 47 ∷ 95 ∷ 47 ∷ 98 ∷ 117 ∷ 99 ∷ 107 ∷ 101 ∷ 116 ∷ 115 ∷ 47 ∷ []

abbrev pub starts_with : Bytes → Bytes → Bool
starts_with [] l = true
starts_with (x ∷ xs) [] = false
starts_with (x ∷ xs) (y ∷ ys) = eqb x y && starts_with xs ys

unfoldable pub good_bucket : Bytes → Bool  -- "`projects/_/buckets/` and 1 or more bytes", at most 256 in all
good_bucket b = starts_with bucket_prefix b && ltb (length bucket_prefix) (length b) && leb (length b) 256

unfoldable pub too_long : Opening → Bool  -- "object over 1,024, token over 512, write handle over 1,024, payload over C"
too_long o =
    ltb 1024 (length (object_of o.spec)) || over max_token (token_of o.spec) || over max_handle (handle_of o.spec)
    || over max_handle o.response.write_handle || over o.limit o.payload

abbrev pub open_size : Opening → ℤ  -- "persisted size P is the response's, 0 where absent"; "A negative P is kept."
open_size o = Option·getD (size_of o.response.write_status) (pos 0)

abbrev pub larger : ℤ → ℤ → ℤ
larger a b = cond (le_z a b) b a

abbrev pub payload_length : Option Bytes → ℕ  -- "the payload's length (none: 0)"
payload_length = elim [ none ↦ 0 | some b ↦ length b ]

-- "The running sum is the payload's, else 0 where P = 0, else the response's, else unknown."
abbrev pub open_sum : Option Bytes → ℤ → Option ℕ → Option ℕ
open_sum (some b) p sum = some (crc_of b)
open_sum none p sum = cond (le_z p (pos 0) && le_z (pos 0) p) (some 0) sum

abbrev pub open_chunks : Option Bytes → ℤ → List ReplayChunk  -- "a payload is stored at offset 0 and acknowledged to P"
open_chunks none p = []
open_chunks (some b) p = ack p (record { write_offset = pos 0; bytes = b; crc32c = crc_of b } ∷ [])

unfoldable pub open_session : Opening → Session  -- "the write offset is the larger of P and the payload's length"
open_session o = record {
  limit = o.limit;
  slots = o.slots;
  phase = live;
  sent = nothing;
  writer = let p = open_size o in
      record { made = 0; write_offset = larger p (pos (payload_length o.payload)); running_crc32c = open_sum o.payload p o.checksum; held = [] };
  worker = record {
    connector = record {
      spec = handle_response o.response o.spec;
      counters = record { attempt_count = 0; redirects_followed = 0; last_persisted_size = o.last_persisted_size };
    };
    replay_buffer = record { queue = open_chunks o.payload (open_size o); capacity = capacity_of o };
    pending_requests = [];
    persisted_size = open_size o;
    finalized = false;
    self_flush_outstanding = false;
  };
}

abbrev pub open_released : Opening → ℕ  -- "the opening does so for its payload": the payload's length less what is stored of it
open_released o = payload_length o.payload - stored (open_session o)

unfoldable pub first : Rows → Opened → Opened
first [] r = r
first (row ∷ rows) r = cond row.0 (turned_away row.1) (first rows r)

unfoldable pub opens : Opening → Opened
opens o =
    first
    ((eqb o.limit 0 || ltb max_chunk o.limit || ltb max_capacity (asked_capacity o), 1)
    ∷ (ltb o.store_length (store_size (capacity_of o) o.limit) || eqb o.slots 0, 2)
    ∷ (not (good_bucket (bucket_of o.spec)), 3) ∷ (too_long o, 4) ∷ (is_finalized o.response.write_status, 5) ∷ [])
    (opened (open_session o))
