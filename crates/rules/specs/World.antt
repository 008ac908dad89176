-- The session, the server and the onlooker's notes together, and the events that move them: demand 3's list.
use Rattle.std.specs.Prelude.{◌≡◌, ◌&&◌, ◌∷◌, ◌++◌}
use Rattle.rules.specs.Basics.{Bool, true, false, not, cond, Option, none, some, Option·getD, List, [], ℕ, length, get_elem?, pos}
use Rattle.crc32c.specs.Reg.{crc_of}
use Rattle.rules.specs.Message.{Bytes, Request, Response}
use Rattle.rules.specs.Session.{Session, Call, response, handshake, Answer, Result}
use Rattle.rules.specs.Step.{step}
use Rattle.rules.specs.Opening.{Opening, open_size, open_released}
use Rattle.rules.specs.Server.{Stored, Link, Server, set_messages, loses, carries, on_link, on_stored, cut_off, connects, takes_next, persists, Told, says}
use Rattle.rules.specs.Notes.{Notes, accepted, request_in, Brings, brings, note}

pub record World : Type 0 where
  pub session : Session
  pub server : Server
  pub notes : Notes

-- The host "sends each request once, on the present connection, or reports it failed": `sent` says whether it could send.
abbrev pub sending : Bool → Option Request → Link → Link
sending sent none l = l
sending true (some r) l = carries r l
sending false (some r) l = loses l

abbrev pub on_answer : Brings → Bool → Answer → Server → Server  -- what an answer does to the connection
on_answer b sent a v =
    cond b.handshake (cond (accepted a) (connects v) v)
    (cond b.failure (cond (accepted a) (on_link loses v) v) (on_link (sending sent (request_in a)) v))

abbrev pub after : Call → Bool → World → Result → World  -- the world after the session gave r to the call c
after c sent w r = record { session = r.session; server = on_answer (brings c) sent r.answer w.server; notes = note c r.answer w.notes }

abbrev pub on_server : (Server → Server) → World → World
on_server f w = record { session = w.session; server = f w.server; notes = w.notes }

abbrev pub on_line : (Link → Link) → World → World
on_line f w = on_server (on_link f) w

-- The host may send a request that it was handed later, or again. It then goes out of its turn, and the server may cut the connection for it.
abbrev pub resends : Option Request → Link → Link
resends o l = elim o [ none ↦ l | some r ↦ loses (carries r l) ]

-- ---- events

pub data Event : Type 0 where
  host_calls : Call → Bool → Event  -- the host makes a call of its own accord; whether what it hands out can be sent
  -- the host hands on the connection's next message; whether a bare flush can be sent; whether it keeps a refused message
  host_hands : Bool → Bool → Event
  -- the host sends a request on the present connection, later or again: the one with this number of all that it was handed
  host_sends : ℕ → Event
  host_greets : Told → Option Bytes → Event  -- the host reports a handshake, "and states the true size"
  -- the server takes the next request; if it must cut the connection for it, what stays of tail and messages
  server_takes : ℕ → ℕ → Event
  server_persists : ℕ → Event
  server_says : Option Told → Option Bytes → Event
  link_cuts : ℕ → ℕ → Event  -- the connection is cut: what stays of tail and messages

-- the calls that a host makes of its own accord: a response and a handshake bring what the server said
abbrev pub unprompted : Call → Bool
unprompted c = not (brings c).message

abbrev pub handed_call : List Response → Option Call
handed_call [] = none
handed_call (m ∷ rest) = some (response m)

abbrev pub call_in : Event → World → Option Call  -- the call that an event makes
call_in (host_calls c sent) w = cond (unprompted c) (some c) none
call_in (host_hands sent keep) w = handed_call w.server.link.messages
call_in (host_sends i) w = none
call_in (host_greets t handle) w = some (handshake (says (some t) handle w.server.stored))
call_in (server_takes bytes had) w = none
call_in (server_persists n) w = none
call_in (server_says t handle) w = none
call_in (link_cuts bytes had) w = none

-- the host hands on the next message, if there is one; one that was refused it may keep, to hand it on again
abbrev pub hands_on : List Response → Bool → Bool → (Call → Result) → World → World
hands_on [] sent keep gives w = w
hands_on (m ∷ rest) sent keep gives w =
    let r = gives (response m) in
    after (response m) sent (on_line (set_messages (cond (keep && not (accepted r.answer)) (m ∷ rest) rest)) w) r

-- the world after an event: `gives` is what the session gives to the call that it makes, if it makes one
abbrev pub with_result : Event → (Call → Result) → World → World
with_result (host_calls c sent) gives w = cond (unprompted c) (after c sent w (gives c)) w
with_result (host_hands sent keep) gives w = hands_on w.server.link.messages sent keep gives w
with_result (host_sends i) gives w = on_line (resends (get_elem? w.notes.handed i)) w
with_result (host_greets t handle) gives w = let c = handshake (says (some t) handle w.server.stored) in after c true w (gives c)
with_result (server_takes bytes had) gives w = on_server (takes_next w.server.link.requests bytes had) w
with_result (server_persists n) gives w = on_server (on_stored (persists n)) w
with_result (server_says t handle) gives w =
    cond w.server.link.alive (on_line (set_messages (w.server.link.messages ++ (says t handle w.server.stored ∷ []))) w) w
with_result (link_cuts bytes had) gives w = on_server (λ v. on_link loses (cut_off bytes had v)) w

unfoldable pub happens : Event → World → World
happens e w = with_result e (λ c. step c w.session) w

unfoldable pub runs : List Event → World → World
runs [] w = w
runs (e ∷ es) w = runs es (happens e w)

abbrev pub base_of : Option Bytes → Bytes → Bytes  -- "The base is the payload, or without one the object at opening"
base_of payload object = Option·getD payload object

-- "At opening P is the true size; without a payload the tail is empty and an opening sum is the object's, with one the two together are the payload."
-- The object may be finalised already.
pub record ServerAt (o : Opening) (k : Stored) : Type 0 where
  pub size : open_size o ≡ pos (length k.object)
  pub together : k.object ++ k.tail ≡ base_of o.payload k.object
  pub summed : o.payload ≡ none → (sum : ℕ) → o.checksum ≡ some sum → sum ≡ crc_of k.object

abbrev pub notes_at : Opening → Bytes → Notes  -- the notes at an accepted opening, with the base
notes_at o base = record {
  limit = o.limit;
  all = base;
  loose = 0;
  largest = open_size o;
  marks = [];
  completed = 0;
  released = open_released o;
  handed = [];
  greeted = open_size o;
  carried = [];
  at_done = false;
}

unfoldable pub start : Opening → Session → Stored → World
start o s k = record {
  session = s;
  server = record { stored = k; link = record { requests = []; messages = []; alive = true; lossless = true } };
  notes = notes_at o (base_of o.payload k.object);
}
