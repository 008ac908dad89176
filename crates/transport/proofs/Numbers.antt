-- What the rules ask of a session at a view, by the numbers of the record.
-- Assumes nothing.
use mathlib.Core.Path.{◌≡◌, sym, ap, ap₂, ◌∙◌}
use mathlib.Core.Bool.{Bool, not, ◌&&◌}
use mathlib.Core.List.{List}
use Prim.Native.Nat.{ℕ, ◌*◌, ◌-◌}
use native.Mathlib.Omega.{arith}
use lib.ListN.{length}
use lib.IntN.{pos}
use lib.Dec.{leb, eqb}
use Rattle.rules.specs.Message.{Bytes}
use Rattle.rules.specs.Session as R
use Rattle.ring.proofs.Laws.{length_part}
use Rattle.replay_buffer.specs.View.{Fits}
use Rattle.replay_buffer.proofs.Laws.{stored_bytes, length_queue}
use Rattle.worker.specs.View.{worker_of}
use Rattle.worker.proofs.Waiters.{is_nil_is}
use Rattle.bidi_write.proofs.Signs.{pos_back}
use Rattle.transport.specs.View.{lent_of, end_of, held_of, view}
use Rattle.transport.specs.Valid.{GuardedAt, Valid}
use Rattle.transport.specs.declared.Session.{Session}

-- what the guard tests is what the stored chunks' memory needs
pub fits : (s : Session) (store table : ℕ) → GuardedAt s store table → Fits (lent_of s) s.worker.replay_buffer (end_of s) store table
fits s store table g = record {
  store_lent = g.store_lent;
  table_lent = g.table_lent;
  head_in = g.head_in;
  stored_in = omega (arith, g);
  first_in = g.first_in;
  chunks_in = g.chunks_in;
  started = g.started;
  end_in = g.offset_top;
  size_in = omega (arith, g);
}

pub held_length : (s : Session) (store : Bytes) (table : ℕ) → GuardedAt s (length store) table → length (held_of s store) ≡ s.held
held_length s store table g =
    length_part (lent_of s).size s.worker.replay_buffer.head store g.store_lent s.worker.replay_buffer.unpersisted_bytes s.held (omega (arith, g))

module _ (s : Session) (store : Bytes) (table : List ℕ) (v : Valid s store table) where
  pub offset_is : s.write_offset.0 ≡ pos (end_of s)
  offset_is = pos_back s.write_offset.0 v.guarded.offset_in

  pub stored_is : R.stored (view s store table) ≡ s.worker.replay_buffer.unpersisted_bytes
  unfolding R.stored view worker_of
  stored_is = stored_bytes (lent_of s) s.worker.replay_buffer (end_of s) store table (fits s _ _ v.guarded) s.limit v.sound

  pub full_is : leb s.worker.replay_buffer.capacity s.worker.replay_buffer.unpersisted_bytes ≡ R.full (view s store table)
  unfolding R.full view worker_of
  full_is = ap (leb s.worker.replay_buffer.capacity) (sym stored_is)

  pub chunks_are : length (R.chunks (view s store table)) ≡ s.worker.replay_buffer.chunks
  unfolding view worker_of
  chunks_are = length_queue (lent_of s) s.worker.replay_buffer (end_of s) store table (fits s _ _ v.guarded)

  pub slot_is : leb s.slots s.worker.replay_buffer.chunks ≡ R.no_slot (view s store table)
  unfolding R.no_slot view
  slot_is = ap (leb s.slots) (sym chunks_are)

  pub waiters_are : length (R.waiters (view s store table)) ≡ s.worker.pending_requests.count
  unfolding view worker_of
  waiters_are = v.waiting_is

  pub none_waits : eqb s.worker.pending_requests.count 0 ≡ R.is_nil (R.waiters (view s store table))
  none_waits = ap (λ (n : ℕ). eqb n 0) (sym waiters_are) ∙ sym (is_nil_is (R.waiters (view s store table)))

  pub watermark_is : (eqb s.worker.pending_requests.count 0 && not s.worker.self_flush_outstanding
      && leb (s.worker.replay_buffer.capacity - 2 * s.limit) s.worker.replay_buffer.unpersisted_bytes) ≡ R.watermark (view s store table)
  unfolding R.watermark view worker_of
  watermark_is =
      ap₂ (λ (a : Bool) (n : ℕ). a && not s.worker.self_flush_outstanding && leb (s.worker.replay_buffer.capacity - 2 * s.limit) n)
      none_waits (sym stored_is)

  pub complete_is : (s.worker.finalized && eqb s.worker.pending_requests.count 0) ≡ R.complete (view s store table)
  unfolding R.complete view worker_of
  complete_is = ap (λ (a : Bool). s.worker.finalized && a) none_waits
