-- The rules' tests of a session, on its numbers. Assumes nothing.
use mathlib.Core.Path.{◌≡◌}
use mathlib.Core.Bool.{not, ◌&&◌}
use Prim.Native.Nat.{ℕ, ◌*◌, ◌-◌}
use lib.Dec.{leb, eqb}
use lib.ListN.{length}
use Rattle.rules.specs.Session.{Session, waiters, stored, watermark, complete}
use Rattle.worker.proofs.Waiters.{is_nil_is}

module _ (s : Session) (waiting : ℕ) (many : length (waiters s) ≡ waiting) where
  pub watermark_is : (bytes : ℕ) → stored s ≡ bytes
      → watermark s ≡ (eqb waiting 0 && not s.worker.self_flush_outstanding && leb (s.worker.replay_buffer.capacity - 2 * s.limit) bytes)
  unfolding watermark
  watermark_is bytes e = rw (is_nil_is (waiters s), many, e)

  pub complete_is : complete s ≡ (s.worker.finalized && eqb waiting 0)
  unfolding complete
  complete_is = rw (is_nil_is (waiters s), many)
