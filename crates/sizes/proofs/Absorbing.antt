-- A size that is absorbed: what is left of the stored chunks and of the waiters, the bytes released, and that nothing else changed.
-- Assumes nothing.
use mathlib.Core.Path.{◌≡◌, refl, sym, ap, ap₂, ◌∙◌, subst}
use mathlib.Core.Bool.{Bool, false}
use mathlib.Core.List.{List}
use Prim.Native.Nat.{ℕ, ◌+◌, ◌*◌, ◌-◌}
use native.Mathlib.Omega.{arith}
use lib.ListN.{length, drop, length-drop}
use Rattle.rules.specs.Message.{Bytes}
use Rattle.rules.specs.Session as R
use Rattle.rules.specs.Respond.{ack, satisfied, absorbs}
use Rattle.ring.specs.Ring.{part}
use Rattle.bidi_write.specs.declared.Offset.{Offset}
use Rattle.replay_buffer.specs.View.{Sound, lent, queue_of}
use Rattle.replay_buffer.specs.Ack.{Acks}
use Rattle.replay_buffer.specs.declared.Acked.{Acked}
use Rattle.replay_buffer.specs.declared.ReplayBuffer.{ReplayBuffer}
use Rattle.replay_buffer.proofs.Laws.{stored_bytes}
use Rattle.worker.specs.View.{waiters_of, worker_of}
use Rattle.worker.specs.declared.PendingRequests.{PendingRequests}
use Rattle.worker.specs.declared.Worker.{Worker}
use Rattle.transport.specs.View.{phase_of, ring_size, lent_of, end_of, held_of, view}
use Rattle.transport.specs.Valid.{GuardedAt, Valid}
use Rattle.transport.specs.Parts.{set_worker}
use Rattle.sizes.specs.Size.{Absorbs}
use Rattle.transport.specs.declared.Session.{Session}
use Rattle.transport.proofs.Numbers.{fits, stored_is}
use Rattle.transport.proofs.Views.{no_cursor}

-- the worker with P, the stored chunks and the waiters anew
abbrev pub absorbed : ReplayBuffer → PendingRequests → Offset → Worker → Worker
absorbed b q n w = record {
  connector = w.connector;
  replay_buffer = b;
  pending_requests = q;
  persisted_size = n;
  finalized = w.finalized;
  self_flush_outstanding = w.self_flush_outstanding;
}

module _ (n : Offset) (finalised : Bool) (s : Session) (store : Bytes) (table : List ℕ) (g : GuardedAt s (length store) (length table))
    (acked : Acked) (table' : List ℕ) (acks : Acks (lent_of s) s.worker.replay_buffer (end_of s) store table n.0 acked table')
    (same : length table' ≡ length table)
    (k : ℕ) (k-is : k ≡ satisfied n.0 finalised (waiters_of s.worker.pending_requests))
    (left : PendingRequests) (left_is : waiters_of left ≡ drop k (waiters_of s.worker.pending_requests))
    (count_is : left.count ≡ s.worker.pending_requests.count - k) where
  abbrev rest : ReplayBuffer
  rest = acked.buffer

  abbrev after : Session
  after = set_worker (absorbed rest left n s.worker) s

  size_is : ring_size s.limit rest ≡ ring_size s.limit s.worker.replay_buffer
  size_is = ap (λ (x : ℕ). x + 2 * s.limit - 2) acks.keeps.capacity_is

  held_is : held_of after store ≡ held_of s store
  held_is =
      ap (λ (x : ℕ). part x rest.head rest.unpersisted_bytes s.held store) size_is
      ∙ acks.keeps.held_is s.held (omega (arith, g))

  queue_is : Valid s store table
      → queue_of (lent_of after) rest (end_of s) store table' ≡ ack n.0 (queue_of (lent_of s) s.worker.replay_buffer (end_of s) store table)
  queue_is v = ap (λ (x : ℕ). queue_of (lent x s.slots) rest (end_of s) store table') size_is ∙ acks.queue_is s.limit v.sound

  view_is : Valid s store table
      → view after store table' ≡ R.set_worker (absorbs n.0 finalised (view s store table).worker) (view s store table)
  unfolding view worker_of
  view_is v = rw (held_is, queue_is v, acks.keeps.capacity_is, left_is, k-is)

  guarded : GuardedAt after (length store) (length table')
  guarded = record {
    limit_some = g.limit_some;
    limit_top = g.limit_top;
    capacity_low = omega (arith, g, acks.keeps.capacity_is);
    capacity_top = omega (arith, g, acks.keeps.capacity_is);
    store_lent = omega (arith, g, size_is);
    table_lent = omega (arith, g, same);
    head_in = omega (arith, acks.keeps.fits, size_is);
    stored_in = omega (arith, g, acks.keeps.capacity_is, acks.keeps.stored_le);
    held_in = g.held_in;
    first_in = acks.keeps.fits.first_in;
    chunks_in = acks.keeps.fits.chunks_in;
    waiting_in = omega (arith, g, count_is);
    offset_in = g.offset_in;
    offset_top = g.offset_top;
    started = acks.keeps.fits.started;
  }

  sound : Valid s store table → Sound s.limit (lent_of after) rest table'
  sound v = subst (λ (x : ℕ). Sound s.limit (lent x s.slots) rest table') (sym size_is) (acks.sound s.limit v.sound)

  released_is : Valid s store table → acked.released ≡ R.stored (view s store table) - R.stored (view after store table')
  unfolding R.stored view worker_of
  released_is v =
      acks.released_is
      ∙ ap₂ (λ (x y : ℕ). x - y) (sym (stored_is s store table v)) (sym (stored_bytes (lent_of after) rest (end_of s) store table' (fits after _ _ guarded) s.limit (sound v)))

  stays : R.is_replay (phase_of s.phase) ≡ false → Valid s store table → Valid after store table'
  stays e v = record {
    guarded = guarded;
    slots_in = v.slots_in;
    sound = sound v;
    waiting_is = ap length left_is ∙ length-drop k (waiters_of s.worker.pending_requests) ∙ ap (λ (x : ℕ). x - k) v.waiting_is ∙ sym count_is;
    spec_fits = v.spec_fits;
    followed = v.followed;
    cursor = no_cursor s.phase _ _ e;
  }

  pub absorbs-size : Absorbs n.0 finalised s store table after (record { completed = k; released = acked.released }) table'
  unfolding view worker_of
  absorbs-size = record { phase_is = refl; beyond = acks.keeps.beyond; completed_is = k-is; released_is = released_is; view_is = view_is; stays = stays }
