-- A bare flush: under the watermark no own flush is outstanding and a chunk is stored, whose end is the write offset.
-- Assumes nothing.
use mathlib.Core.Path.{◌≡◌, refl, sym, ap, ◌∙◌}
use mathlib.Core.Bool.{Bool, true, false, not, ◌&&◌}
use mathlib.Core.List.{List, [], ◌∷◌}
use Prim.Native.Nat.{ℕ, ◌*◌, ◌-◌, ◌<◌}
use native.Mathlib.Omega.{arith}
use lib.ListN.{length}
use lib.IntN.{pos}
use lib.Dec.{leb, eqb}
use borrow.Author.Tests.{leb-true}
use Rattle.rules.specs.Message.{Bytes}
use Rattle.rules.specs.Session as R
use Rattle.rules.specs.Upload.{flush_request}
use Rattle.rules.specs.Respond.{bare_request}
use Rattle.replay_buffer.specs.View.{total, words_of}
use Rattle.replay_buffer.proofs.Laws.{length-words, end_offset_lem}
use Rattle.worker.specs.View.{worker_of}
use Rattle.worker.specs.declared.Worker.{Worker}
use Rattle.transport.specs.View.{lent_of, end_of, view}
use Rattle.transport.specs.Valid.{Valid}
use Rattle.transport.specs.declared.Session.{Session}
use Rattle.rules.proofs.Tests.{clash}
use Rattle.transport.proofs.Numbers.{fits, offset_is, watermark_is}

-- the second and the third of three tests
all_hold : (a m b : Bool) → (a && not m && b) ≡ true → (m ≡ false) × (b ≡ true)
all_hold true true b e = clash e refl
all_hold true false b e = (refl, e)
all_hold false m b e = clash e refl

some_word : (ws : List ℕ) → 0 < total ws → 0 < length ws
some_word [] h = absurd (omega arith)
some_word (w ∷ ws) h = omega arith

module _ (s : Session) (store : Bytes) (table : List ℕ) (v : Valid s store table) (watermark : R.watermark (view s store table) ≡ true) where
  tests : (s.worker.self_flush_outstanding ≡ false) × (leb (s.worker.replay_buffer.capacity - 2 * s.limit) s.worker.replay_buffer.unpersisted_bytes ≡ true)
  tests =
      all_hold (eqb s.worker.pending_requests.count 0) s.worker.self_flush_outstanding
      (leb (s.worker.replay_buffer.capacity - 2 * s.limit) s.worker.replay_buffer.unpersisted_bytes) (watermark_is s store table v ∙ watermark)

  pub unmarked : s.worker.self_flush_outstanding ≡ false
  unmarked = tests.0

  some_chunk : 0 < s.worker.replay_buffer.chunks
  some_chunk =
      let ws : List ℕ = words_of (lent_of s) s.worker.replay_buffer table in
      let low : 0 < total ws =
      omega (
        arith,
        leb-true (s.worker.replay_buffer.capacity - 2 * s.limit) s.worker.replay_buffer.unpersisted_bytes tests.1,
        v.guarded.capacity_low,
        v.sound.stored_is,
      ) in
      omega (arith, some_word ws low, length-words (lent_of s) s.worker.replay_buffer (end_of s) store table (fits s _ _ v.guarded))

  pub bare_is : bare_request (view s store table) ≡ flush_request s.write_offset.0
  unfolding view worker_of
  bare_is =
      ap flush_request
      (end_offset_lem (lent_of s) s.worker.replay_buffer (end_of s) store table (fits s _ _ v.guarded) s.limit v.sound (pos 0) some_chunk
      ∙ sym (offset_is s store table v))

-- the worker with the mark of an own flush
abbrev pub with_mark : Bool → Worker → Worker
with_mark m w = record {
  connector = w.connector;
  replay_buffer = w.replay_buffer;
  pending_requests = w.pending_requests;
  persisted_size = w.persisted_size;
  finalized = w.finalized;
  self_flush_outstanding = m;
}
