-- Flush and finalise: what their private function promises. What a caller is promised is `Promise` alone.
use Rattle.std.specs.Prelude.{◌≡◌, ◌||◌, [], ◌∷◌, ◌++◌, ℕ, ◌+◌}
use Rattle.rules.specs.Message.{Bytes}
use Rattle.rules.specs.Session as R
use Rattle.rules.specs.Upload as U
use Rattle.bidi_write.specs.View.{request_of}
use Rattle.worker.specs.View.{kind_of, pending_of, waiters_of}
use Rattle.worker.specs.declared.PendingKind.{PendingKind}
use Rattle.worker.specs.declared.PendingKind.TheVariants as kind
use Rattle.worker.specs.declared.PendingRequest.{PendingRequest}
use Rattle.worker.specs.declared.PendingRequests.{PendingRequests}
use Rattle.transport.specs.declared.Session.{Session}
use Rattle.transport.specs.declared.Sent.TheVariants as sent
use Rattle.cuts.specs.declared.Sending.{Sending}

abbrev pub call_of : PendingKind → ℕ → R.Call
call_of kind.Flush out = R.flush out
call_of kind.Finalize out = R.finalise out

abbrev pub waiter_for : PendingKind → Session → PendingRequest
waiter_for k s = record { kind = k; write_offset = s.write_offset; object_checksums = s.running_crc32c }

abbrev pub awaiting : PendingKind → PendingRequests → Session → Session
awaiting k q s = record s {
  sent = sent.Request;
  made = s.made + 1;
  worker = record s.worker { pending_requests = q; finalized = s.worker.finalized || U.is_finalizing (kind_of k) };
}

-- one waiter more, and its request
pub record Awaits (k : PendingKind) (s : Session) (r : Sending) : Type 0 where
  pub session_is : r.session ≡ awaiting k r.session.worker.pending_requests s
  pub waiters_are : waiters_of r.session.worker.pending_requests ≡ waiters_of s.worker.pending_requests ++ (pending_of (waiter_for k s) ∷ [])
  pub count_is : r.session.worker.pending_requests.count ≡ s.worker.pending_requests.count + 1
  pub request_is : (out : Bytes) → request_of r.request out ≡ (pending_of (waiter_for k s)).request
