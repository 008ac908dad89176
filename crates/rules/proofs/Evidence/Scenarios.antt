-- Runs that show that the rules can be met: from accepted openings, under the server rules at opening, so that demand 3 speaks of them.
use mathlib.Core.Path.{◌≡◌, refl}
use mathlib.Core.Bool.{true, false}
use mathlib.Core.Option.{none, some}
use mathlib.Core.List.{List, [], ◌∷◌, ◌++◌}
use Prim.Native.Nat.{ℕ}
use lib.ListN.{take}
use lib.IntN.{pos}
use Rattle.crc32c.specs.Reg.{crc_of}
use Rattle.rules.specs.Message.{Bytes, Generation, Break, end_of_stream, status, other_error}
use Rattle.rules.specs.Spec.{append_form}
use Rattle.rules.specs.Session.{finished, already_finalized, exhausted, Phase, connecting, ended, Call, append, flush, finalise, next_request, send_failed, break, judge, failed_attempt}
use Rattle.rules.specs.Opening.{Opening, opened, bucket_prefix, open_session, opens}
use Rattle.rules.specs.Server.{Stored, alone, in_resource}
use Rattle.rules.specs.World.{World, Event, host_calls, host_hands, host_sends, host_greets, server_takes, server_persists, server_says, link_cuts, runs, ServerAt, start}
use Rattle.rules.specs.Bench.{sized, opening}
use Rattle.rules.proofs.Evidence.Computed.{computed}

-- ---- (i) a take-over of the object "ab": a cut inside a chunk, a trim, replays, a flush completed by a handshake, a finalise completed

abbrev pub ab : Bytes
ab = 97 ∷ 98 ∷ []

abbrev pub abcdefgh : Bytes
abcdefgh = 97 ∷ 98 ∷ 99 ∷ 100 ∷ 101 ∷ 102 ∷ 103 ∷ 104 ∷ []

abbrev generation : Generation
generation = record { number = pos 7 }

abbrev pub take_over : Opening
take_over = record {
  limit = 4;
  asked = none;
  store_length = 33554438;
  slots = 2;
  spec = append_form (record {
    bucket = bucket_prefix ++ (98 ∷ []);
    object = 111 ∷ [];
    generation = generation;
    write_handle = none;
    routing_token = none;
    if_metageneration_match = none;
    if_metageneration_not_match = none;
  });
  response = sized (pos 2);
  checksum = some (crc_of ab);
  payload = none;
  last_persisted_size = pos 2;
}

pub take_over-accepted : opens take_over ≡ opened (open_session take_over)
unfolding computed
take_over-accepted = refl

abbrev pub taken : Stored
taken = record { object = ab; tail = []; finalised = false }

pub take_over_server : ServerAt take_over taken
take_over_server = record { size = refl; together = refl; summed = λ e sum f. cc }

-- the host calls, and sends what it is handed
abbrev does : Call → Event
does c = host_calls c true

-- the next connection, after an end of stream
abbrev pub goes_on : List Event
goes_on = does (break end_of_stream) ∷ does (judge 1) ∷ host_greets alone none ∷ []

-- cdef at 2, gh at 6, the flush at 8; persisted up to 5, inside the first chunk, which is trimmed (the server may mark no message as finalised yet);
-- then a cut that leaves f in the tail
abbrev pub first : List Event
first =
    does (append (99 ∷ 100 ∷ 101 ∷ 102 ∷ 103 ∷ 104 ∷ []) 4) ∷ does (append (103 ∷ 104 ∷ []) 4) ∷ does (flush 4) ∷ does (flush 4)
    ∷ server_takes 0 0 ∷ server_takes 0 0 ∷ server_takes 0 0
    ∷ server_persists 3 ∷ server_says (some (in_resource generation true)) none ∷ host_hands true false ∷ link_cuts 1 0 ∷ []

-- f cannot be sent; gh would leave a gap, so that the server cuts
abbrev pub second : List Event
second = goes_on ++ (host_calls (next_request 4) false ∷ does (next_request 4) ∷ server_takes 0 0 ∷ server_persists 2 ∷ [])

-- f is sent, but gh cannot be, which is reported and ends the replay
abbrev pub third : List Event
third =
    does (next_request 4) ∷ does (next_request 4)
    ∷ (goes_on ++ (does (next_request 4) ∷ host_calls (next_request 4) false ∷ does send_failed ∷ server_takes 0 0 ∷ server_persists 1 ∷ []))

-- gh and the flush are sent; the message that all is persisted is lost in a cut
abbrev pub fourth : List Event
fourth =
    goes_on
    ++ (does (next_request 4) ∷ does (next_request 4) ∷ does (next_request 4) ∷ server_takes 0 0 ∷ server_takes 0 0 ∷ server_persists 2
    ∷ server_says (some alone) none ∷ link_cuts 0 0 ∷ [])

-- the handshake completes the flush, and nothing is to be replayed; then the finalise, and an append that comes too late
abbrev pub fifth : List Event
fifth =
    goes_on
    ++ (does (next_request 4) ∷ does (finalise 4) ∷ does (append (105 ∷ []) 4) ∷ server_takes 0 0
    ∷ server_says (some (in_resource generation true)) none ∷ host_hands true false ∷ does (break end_of_stream) ∷ [])

abbrev pub uploaded : List Event → World
uploaded es = runs es (start take_over (open_session take_over) taken)

-- the present connection was cut, and something was lost
abbrev pub Broken : World → Type 0
Broken w = (w.server.link.alive ≡ false) × (w.server.link.lossless ≡ false)

pub first-breaks : Broken (uploaded first)
unfolding computed
first-breaks = (refl, refl)

pub second-breaks : Broken (uploaded (first ++ second))
unfolding computed
second-breaks = (refl, refl)

-- cde, of the bytes taken, may be dropped
pub first_releases : (uploaded first).notes.released ≡ 3
unfolding computed
first_releases = refl

-- the flush is completed by the handshake that follows the fourth connection
pub handshake-completes : ((uploaded (first ++ second ++ third ++ fourth)).notes.completed ≡ 0)
    × ((uploaded (first ++ second ++ third ++ fourth ++ goes_on)).notes.completed ≡ 1)
unfolding computed
handshake-completes = (refl, refl)

pub record Uploaded (w : World) : Type 0 where
  pub object : w.server.stored.object ≡ abcdefgh
  pub all : w.notes.all ≡ abcdefgh
  pub finalised : w.server.stored.finalised ≡ true
  pub completed : w.notes.completed ≡ 2
  pub released : w.notes.released ≡ 6
  pub phase : w.session.phase ≡ ended finished

pub fifth-finishes : Uploaded (uploaded (first ++ second ++ third ++ fourth ++ fifth))
unfolding computed
fifth-finishes = record { object = refl; all = refl; finalised = refl; completed = refl; released = refl; phase = refl }

-- ---- (ii) redirects, from the payload "abc" of which the server has persisted a

abbrev pub abc : Bytes
abc = 97 ∷ 98 ∷ 99 ∷ []

abbrev pub payload : Opening
payload = opening 4 9 (pos 1) (some abc)

pub payload-accepted : opens payload ≡ opened (open_session payload)
unfolding computed
payload-accepted = refl

abbrev pub begun : Stored
begun = record { object = 97 ∷ []; tail = 98 ∷ 99 ∷ []; finalised = false }

pub payload_server : ServerAt payload begun
payload_server = record { size = refl; together = refl; summed = λ e sum f. cc }

-- Aborted, with this token
abbrev redirect : ℕ → Break
redirect t = status 10 (some (10 ∷ 1 ∷ t ∷ []))

-- three redirects, with a failed attempt that is none, then `between`, then the fourth
abbrev pub redirects : List Event → List Event
redirects between =
    does (break (redirect 1)) ∷ does (judge 3) ∷ does (failed_attempt (redirect 2) 2) ∷ does (failed_attempt other_error 1) ∷ host_greets alone none
    -- bc at 1, a bare flush, *done*
    ∷ does (next_request 4) ∷ does (next_request 4) ∷ does (next_request 4) ∷ between
    ++ does (break (redirect 3)) ∷ does (judge 1) ∷ does (failed_attempt (redirect 4) 1) ∷ []

-- the replayed bytes are persisted, and the host hears of it
abbrev pub progressed : List Event
progressed = server_takes 0 0 ∷ server_persists 2 ∷ server_says (some alone) none ∷ host_hands true false ∷ []

abbrev pub redirected : List Event → World
redirected between = runs (redirects between) (start payload (open_session payload) begun)

pub record Redirected (w : World) (phase : Phase) (followed : ℕ) : Type 0 where
  pub phase_is : w.session.phase ≡ phase
  pub followed_are : w.session.worker.connector.counters.redirects_followed ≡ followed
  pub attempts_are : w.session.worker.connector.counters.attempt_count ≡ 0
  pub token_is : w.session.worker.connector.spec.routing_token ≡ some (4 ∷ [])

-- "from the fourth ... the rest is exhausted"
pub fourth-ends : Redirected (redirected []) (ended exhausted) 4
unfolding computed
fourth-ends = record { phase_is = refl; followed_are = refl; attempts_are = refl; token_is = refl }

-- "P above the last size replaces it and zeroes both counters": the fourth is then the second
pub progress_zeroes : Redirected (redirected progressed) connecting 2
unfolding computed
progress_zeroes = record { phase_is = refl; followed_are = refl; attempts_are = refl; token_is = refl }

-- ---- (iii) requests sent out of their turn, from the object "ab"

-- cdef is not sent when it is handed out, but later: the server takes it
abbrev pub later : List Event
later = host_calls (append (99 ∷ 100 ∷ 101 ∷ 102 ∷ []) 4) false ∷ host_sends 0 ∷ server_takes 0 0 ∷ []

pub later-joins : ((uploaded later).server.stored.tail ≡ 99 ∷ 100 ∷ 101 ∷ 102 ∷ [])
    × ((uploaded later).server.link.alive ≡ true) × ((uploaded later).server.link.lossless ≡ false)
unfolding computed
later-joins = (refl, refl, refl)

-- on the next connection it is sent again, while the server has all of it: the server cuts. There is no second request to send.
abbrev pub again : List Event
again = server_persists 4 ∷ (goes_on ++ (host_sends 0 ∷ host_sends 1 ∷ server_takes 0 0 ∷ []))

pub again-breaks : Broken (uploaded (later ++ again)) × ((uploaded (later ++ again)).server.stored.object ≡ take 6 abcdefgh)
unfolding computed
again-breaks = ((refl, refl), refl)

-- ---- (iv) an object that is finalised when it is taken over: the opening does not say so, the next message does

abbrev pub final : Stored
final = record { object = ab; tail = []; finalised = true }

pub final_server : ServerAt take_over final
final_server = record { size = refl; together = refl; summed = λ e sum f. cc }

abbrev pub told : World
told = runs (server_says (some (in_resource generation true)) none ∷ host_hands true false ∷ []) (start take_over (open_session take_over) final)

pub final-ends : told.session.phase ≡ ended already_finalized
unfolding computed
final-ends = refl
