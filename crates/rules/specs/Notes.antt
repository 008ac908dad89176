-- What demand 3 speaks of, noted by an onlooker from the calls and the answers alone.
use Rattle.std.specs.Prelude.{◌∷◌, ◌++◌, ◌+◌, ◌-◌}
use Rattle.rules.specs.Basics.{Bool, true, false, cond, Option, none, some, Option·getD, List, [], ℕ, min, length, take, leb, ℤ}
use Rattle.rules.specs.Message.{Bytes, ChecksummedData, Request, size_of}
use Rattle.rules.specs.Session.{PendingKind, flushing, finalizing, Call, append, flush, finalise, next_request, close, send_failed, response, handshake, break, judge, failed_attempt, Answer, refused, took, sends, waits, completes, attempt, ok, done, ends}
use Rattle.rules.specs.Opening.{larger}

-- a waiter made: its kind, the length of the base and the bytes taken before the call that made it, and the number that the answer told
pub record Mark : Type 0 where
  pub kind : PendingKind
  pub before : ℕ
  pub number : ℕ

pub record Notes : Type 0 where
  pub limit : ℕ  -- C, as the opening had it
  pub all : Bytes  -- W: "the base and the bytes taken"
  pub loose : ℕ  -- h: "the bytes not chunked"
  pub largest : ℤ  -- the largest of the "sizes stated"
  pub marks : List Mark  -- the waiters made, lowest number first
  pub completed : ℕ  -- "The waiters reported completed are those with the lowest numbers, as many as the answers so far add up to."
  pub released : ℕ  -- the bytes that the opening and the answers so far released, added up
  pub handed : List Request  -- every request handed out
  -- the last accepted handshake's size; the chunk data handed out since, joined; whether the last accepted call answered *done*
  pub greeted : ℤ
  pub carried : Bytes
  pub at_done : Bool

pub record Shows : Type 0 where  -- what an answer shows
  pub accepted : Bool
  pub request : Option Request
  -- the number of a waiter made; how many are reported completed; the bytes released
  pub waiter : Option ℕ
  pub completed : ℕ
  pub released : ℕ
  pub is_done : Bool  -- the replay is done

abbrev pub shows : Answer → Shows
shows (refused n) = record { accepted = false; request = none; waiter = none; completed = 0; released = 0; is_done = false }
shows (took n r) = record { accepted = true; request = r; waiter = none; completed = 0; released = 0; is_done = false }
shows (sends r) = record { accepted = true; request = some r; waiter = none; completed = 0; released = 0; is_done = false }
shows (waits r n) = record { accepted = true; request = some r; waiter = some n; completed = 0; released = 0; is_done = false }
shows (completes k n r) = record { accepted = true; request = r; waiter = none; completed = k; released = n; is_done = false }
shows (attempt n) = record { accepted = true; request = none; waiter = none; completed = 0; released = 0; is_done = false }
shows ok = record { accepted = true; request = none; waiter = none; completed = 0; released = 0; is_done = false }
shows done = record { accepted = true; request = none; waiter = none; completed = 0; released = 0; is_done = true }
shows (ends c k n f) = record { accepted = true; request = none; waiter = none; completed = k; released = n; is_done = false }

abbrev pub accepted : Answer → Bool
accepted a = (shows a).accepted

abbrev pub request_in : Answer → Option Request
request_in a = (shows a).request

abbrev pub released_in : Answer → ℕ
released_in a = (shows a).released

abbrev pub listed : Option Request → List Request
listed = elim [ none ↦ [] | some r ↦ r ∷ [] ]

abbrev pub content_of : Option ChecksummedData → Bytes
content_of = elim [ none ↦ [] | some d ↦ d.content ]

abbrev pub data_in : Option Request → Bytes
data_in = elim [ none ↦ [] | some r ↦ content_of r.checksummed_data ]

pub record Brings : Type 0 where  -- what a call brings
  pub bytes : Option Bytes  -- of an append
  pub kind : Option PendingKind  -- the kind of the waiter that is asked for
  -- a response or handshake, and the size that it states; a handshake; a send reported failed
  pub message : Bool
  pub size : Option ℤ
  pub handshake : Bool
  pub failure : Bool

abbrev pub plain : Brings  -- none of these
plain = record { bytes = none; kind = none; message = false; size = none; handshake = false; failure = false }

abbrev pub brings : Call → Brings
brings (append d out) = record { bytes = some d; kind = none; message = false; size = none; handshake = false; failure = false }
brings (flush out) = record { bytes = none; kind = some flushing; message = false; size = none; handshake = false; failure = false }
brings (finalise out) = record { bytes = none; kind = some finalizing; message = false; size = none; handshake = false; failure = false }
brings (next_request out) = plain
brings close = plain
brings send_failed = record { bytes = none; kind = none; message = false; size = none; handshake = false; failure = true }
brings (response m) = record { bytes = none; kind = none; message = true; size = size_of m.write_status; handshake = false; failure = false }
brings (handshake m) = record { bytes = none; kind = none; message = true; size = size_of m.write_status; handshake = true; failure = false }
brings (break b) = plain
brings (judge v) = plain
brings (failed_attempt b v) = plain

abbrev pub taken : Bytes → Notes → Bytes  -- "the first t bytes of each accepted append, t the smaller of its length and C − h"
taken d g = take (min (length d) (g.limit - g.loose)) d

abbrev pub all_with : Option Bytes → Notes → Bytes
all_with none g = g.all
all_with (some d) g = g.all ++ taken d g

-- "h ... grows by t, and goes back to 0 on reaching C, and at an accepted flush or finalise"
abbrev pub loose_with : Option Bytes → Option PendingKind → Notes → ℕ
loose_with none none g = g.loose
loose_with none (some k) g = 0
loose_with (some d) k g = let h = g.loose + length (taken d g) in cond (leb g.limit h) 0 h

abbrev pub marks_with : Option PendingKind → Option ℕ → Notes → List Mark
marks_with none n g = g.marks
marks_with (some k) none g = g.marks
marks_with (some k) (some n) g = g.marks ++ (record { kind = k; before = length g.all; number = n } ∷ [])

abbrev pub largest_of : ℤ → Option ℤ → ℤ
largest_of z = elim [ none ↦ z | some n ↦ larger z n ]

abbrev pub noted : Brings → Shows → Notes → Notes  -- an accepted call is noted
noted b a g = record {
  limit = g.limit;
  all = all_with b.bytes g;
  loose = loose_with b.bytes b.kind g;
  largest = largest_of g.largest b.size;
  marks = marks_with b.kind a.waiter g;
  completed = g.completed + a.completed;
  released = g.released + a.released;
  handed = g.handed ++ listed a.request;
  greeted = cond b.handshake (Option·getD b.size g.greeted) g.greeted;
  carried = cond b.handshake [] (g.carried ++ data_in a.request);
  at_done = a.is_done;
}

abbrev pub note : Call → Answer → Notes → Notes  -- a refused call leaves the notes as they were
note c a g = cond (accepted a) (noted (brings c) (shows a) g) g
