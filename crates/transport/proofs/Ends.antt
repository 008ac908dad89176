-- A session that ends: its waiters are gone, the rest stays.
-- Assumes nothing.
use mathlib.Core.Path.{◌≡◌, refl, sym, ap, ap₂, ◌∙◌}
use mathlib.Core.List.{List, []}
use Prim.Native.Nat.{ℕ, ◌≤◌}
use native.Mathlib.Omega.{arith}
use lib.ListN.{length}
use lib.IntN.{ℤ}
use Rattle.rules.specs.Limits.{max_waiters}
use Rattle.rules.specs.Session as R
use Rattle.bidi_write.specs.View.{cause_of}
use Rattle.bidi_write.specs.declared.Cause.{Cause}
use Rattle.replay_buffer.specs.declared.ReplayBuffer.{ReplayBuffer}
use Rattle.worker.specs.View.{waiters_of, worker_of}
use Rattle.worker.specs.declared.PendingRequests.{PendingRequests}
use Rattle.worker.specs.declared.Worker.{Worker}
use Rattle.transport.specs.View.{lent_of, end_of, view}
use Rattle.transport.specs.Valid.{Guarded}
use Rattle.transport.specs.Parts.{set_phase, set_worker, EndsAs}
use Rattle.transport.specs.declared.Session.{Session}
use Rattle.transport.specs.declared.Phase.TheVariants as phase
use Rattle.transport.specs.declared.Sent.TheVariants as sent
use Rattle.transport.specs.declared.Answer.TheVariants as answer
use Rattle.rules.proofs.Tests.{clash}

-- another number of waiters
pub guarded_waiting : {limit slots held : ℕ} {offset : ℤ} {b : ReplayBuffer} {waiting store table : ℕ} (n : ℕ) → n ≤ max_waiters
    → Guarded limit slots held offset b waiting store table → Guarded limit slots held offset b n store table
guarded_waiting n h g = record {
  limit_some = g.limit_some;
  limit_top = g.limit_top;
  capacity_low = g.capacity_low;
  capacity_top = g.capacity_top;
  store_lent = g.store_lent;
  table_lent = g.table_lent;
  head_in = g.head_in;
  stored_in = g.stored_in;
  held_in = g.held_in;
  first_in = g.first_in;
  chunks_in = g.chunks_in;
  waiting_in = h;
  offset_in = g.offset_in;
  offset_top = g.offset_top;
  started = g.started;
}

-- the worker with other waiting requests
abbrev pub with_pending : PendingRequests → Worker → Worker
with_pending q w = record {
  connector = w.connector;
  replay_buffer = w.replay_buffer;
  pending_requests = q;
  persisted_size = w.persisted_size;
  finalized = w.finalized;
  self_flush_outstanding = w.self_flush_outstanding;
}

pub ends_as : (c : Cause) (completed released : ℕ) (s : Session) (q : PendingRequests) → waiters_of q ≡ [] → q.count ≡ 0
    → EndsAs c completed released s (record {
      session = set_phase (phase.Ended c) sent.Nothing (set_worker (with_pending q s.worker) s);
      answer = answer.Ends (record { cause = c; completed = completed; released = released; failed = s.worker.pending_requests.count });
    })
unfolding view worker_of R.ending
ends_as c completed released s q e n = record {
  answer_is = refl;
  ends = λ store table out v.
      ap₂ (λ (k : ℕ) (ws : List R.PendingRequest). R.answers (R.ends (cause_of c) completed released k)
      (R.set_phase (R.ended (cause_of c)) R.nothing (R.set_worker (R.set_pending ws s.worker.finalized (worker_of (lent_of s) (end_of s) s.worker store table)) (view s store table))))
      (sym v.waiting_is) e;
  stays = λ store table v. record {
    guarded = guarded_waiting q.count (omega arith) v.guarded;
    slots_in = v.slots_in;
    sound = v.sound;
    waiting_is = ap length e ∙ sym n;
    spec_fits = v.spec_fits;
    followed = λ f. clash refl f;
    cursor = tt;
  };
}
