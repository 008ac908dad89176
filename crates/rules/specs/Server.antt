-- "Server rules for demand 3": what the server has stored, and the link, which is the present connection.
use Rattle.std.specs.Prelude.{◌&&◌, ◌∷◌, ◌++◌}
use Rattle.rules.specs.Basics.{Bool, true, false, cond, Option, none, some, List, [], ℕ, length, take, drop, eqb, ℤ, pos, negsuc}
use Rattle.crc32c.specs.Reg.{crc_of}
use Rattle.rules.specs.Message.{Bytes, Generation, ChecksummedData, Request, persisted_size, resource, Response}

-- "The server holds persisted bytes (the object) and a tail."
pub record Stored : Type 0 where
  pub object : Bytes
  pub tail : Bytes
  pub finalised : Bool

-- requests that the server has not taken, messages that the host has not handed on
pub record Link : Type 0 where
  pub requests : List Request
  pub messages : List Response
  pub alive : Bool  -- not cut
  pub lossless : Bool  -- it has lost nothing, and every request was sent on it, once and when it was handed out

pub record Server : Type 0 where
  pub stored : Stored
  pub link : Link

abbrev pub set_requests : List Request → Link → Link
set_requests r l = record { requests = r; messages = l.messages; alive = l.alive; lossless = l.lossless }

abbrev pub set_messages : List Response → Link → Link
set_messages m l = record { requests = l.requests; messages = m; alive = l.alive; lossless = l.lossless }

abbrev pub loses : Link → Link  -- something was lost, or not sent in its turn
loses l = record { requests = l.requests; messages = l.messages; alive = l.alive; lossless = false }

abbrev pub carries : Request → Link → Link  -- what is sent on a connection that was cut is lost with it
carries r l = set_requests (cond l.alive (l.requests ++ (r ∷ [])) l.requests) l

abbrev pub on_link : (Link → Link) → Server → Server
on_link f v = record { stored = v.stored; link = f v.link }

abbrev pub on_stored : (Stored → Stored) → Server → Server
on_stored f v = record { stored = f v.stored; link = v.link }

-- the connection is cut. "which loses every message not yet taken and any end of the tail, from none of it to all, but no persisted byte": so many
-- bytes of the tail stay, and of the messages only so many as the host already has
abbrev pub cut_off : ℕ → ℕ → Server → Server
cut_off bytes had v = record {
  stored = record { object = v.stored.object; tail = take bytes v.stored.tail; finalised = v.stored.finalised };
  link = record { requests = []; messages = take had v.link.messages; alive = false; lossless = v.link.lossless };
}

abbrev pub connects : Server → Server  -- "An accepted handshake begins the next connection, with no tail"
connects v = record {
  stored = record { object = v.stored.object; tail = []; finalised = v.stored.finalised };
  link = record { requests = []; messages = []; alive = true; lossless = true };
}

abbrev pub is_at : ℤ → Bytes → Bool
is_at z b = elim z [ pos n ↦ eqb n (length b) | negsuc n ↦ false ]

abbrev pub is_sum : Option ℕ → Bytes → Bool
is_sum o b = elim o [ none ↦ true | some sum ↦ eqb sum (crc_of b) ]

-- "A chunk joins the tail if its offset is the end of both and its sum is right, else the connection is cut."
abbrev pub takes_chunk : ℤ → ChecksummedData → ℕ → ℕ → Server → Server
takes_chunk at d bytes had v =
    cond (is_at at (v.stored.object ++ v.stored.tail) && eqb d.crc32c (crc_of d.content))
    (on_stored (λ k. record { object = k.object; tail = k.tail ++ d.content; finalised = k.finalised }) v) (cut_off bytes had v)

-- "finish, which persists all and finalises if offset and a given sum are right, else cuts"
abbrev pub takes_finish : ℤ → Option ℕ → ℕ → ℕ → Server → Server
takes_finish at sum bytes had v =
    cond (is_at at (v.stored.object ++ v.stored.tail) && is_sum sum (v.stored.object ++ v.stored.tail))
    (on_stored (λ k. record { object = k.object ++ k.tail; tail = []; finalised = true }) v) (cut_off bytes had v)

-- "A request without data has its offset checked only with finish"
abbrev pub takes_one : Request → Option ChecksummedData → ℕ → ℕ → Server → Server
takes_one r none bytes had v = cond r.finish_write (takes_finish r.write_offset r.object_checksum bytes had v) v
takes_one r (some d) bytes had v = takes_chunk r.write_offset d bytes had v

-- the next request, if there is one; if that cuts the connection, so much stays as `cut_off` says
abbrev pub takes_next : List Request → ℕ → ℕ → Server → Server
takes_next [] bytes had v = v
takes_next (r ∷ rest) bytes had v = takes_one r r.checksummed_data bytes had (on_link (set_requests rest) v)

abbrev pub persists : ℕ → Stored → Stored  -- "Any front part of the tail may become persisted."
persists n k = record { object = k.object ++ take n k.tail; tail = drop n k.tail; finalised = k.finalised }

-- how a size is told: alone, or in a resource with a generation, which may be marked finalised
pub data Told : Type 0 where
  alone : Told
  in_resource : Generation → Bool → Told

-- "Every stated size is true when sent, and a message is finalised only once the object is."
-- A message may state nothing.
abbrev pub says : Option Told → Option Bytes → Stored → Response
says none handle k = record { write_status = none; write_handle = handle }
says (some alone) handle k = record { write_status = some (persisted_size (pos (length k.object))); write_handle = handle }
says (some (in_resource g marked)) handle k =
    record { write_status = some (resource (pos (length k.object)) g (marked && k.finalised)); write_handle = handle }
