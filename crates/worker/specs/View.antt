-- The worker of the code as the rules' worker.
use Rattle.std.proofs.Math.Option.{Option}
use Rattle.std.specs.Prelude.{List, map, ℕ, take, replicate, ℤ, pos}
use Rattle.rules.specs.Limits.{max_waiters}
use Rattle.rules.specs.Message.{Bytes, Request}
use Rattle.rules.specs.Session as R
use Rattle.rules.specs.Upload.{flush_request, finish_request}
use Rattle.bidi_write.specs.View.{checksum_of}
use Rattle.std.specs.Prelude.{None}
use Rattle.connector.specs.View.{connector_of}
use Rattle.replay_buffer.specs.View.{Lent, queue_of}
use Rattle.worker.specs.declared.PendingKind.{PendingKind}
use Rattle.worker.specs.declared.PendingKind.TheVariants as kind
use Rattle.worker.specs.declared.PendingRequest.{PendingRequest}
use Rattle.worker.specs.declared.PendingRequests.{PendingRequests}
use Rattle.worker.specs.declared.Worker.{Worker}

abbrev pub kind_of : PendingKind → R.PendingKind
kind_of kind.Flush = R.flushing
kind_of kind.Finalize = R.finalizing

abbrev pub request_for : PendingKind → ℤ → Option ℕ → Request
request_for kind.Flush at sum = flush_request at
request_for kind.Finalize at sum = finish_request at sum

abbrev pub pending_of : PendingRequest → R.PendingRequest
pending_of p = record { kind = kind_of p.kind; request = request_for p.kind p.write_offset.0 (checksum_of p.object_checksums) }

unfoldable pub waiters_of : PendingRequests → List R.PendingRequest
waiters_of q = map pending_of (take q.count q.requests)

-- none waits, and the places are all alike
unfoldable pub no_waiters : PendingRequests
no_waiters = record {
  requests = replicate max_waiters (record { kind = kind.Flush; write_offset = record { 0 = pos 0 }; object_checksums = None });
  count = 0;
}

unfoldable pub worker_of : Lent → ℕ → Worker → Bytes → List ℕ → R.Worker
worker_of m end w store table = record {
  connector = connector_of w.connector;
  replay_buffer = record { queue = queue_of m w.replay_buffer end store table; capacity = w.replay_buffer.capacity };
  pending_requests = waiters_of w.pending_requests;
  persisted_size = w.persisted_size.0;
  finalized = w.finalized;
  self_flush_outstanding = w.self_flush_outstanding;
}
