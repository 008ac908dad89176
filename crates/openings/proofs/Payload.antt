-- The payload of an opening: stored at offset 0 and acknowledged to P, with its place in the write offset and the running sum.
-- Assumes nothing.
use mathlib.Core.Path.{◌≡◌, refl, sym, ap, ap₂, ◌∙◌, subst}
use mathlib.Core.Option.{Option, none, some}
use mathlib.Core.List.{List, [], ◌∷◌, ◌++◌}
use mathlib.Core.Logic.{⊎_elim}
use Prim.Native.Nat.{ℕ, ◌+◌, ◌-◌, ◌<◌, ◌≤◌, max}
use native.Mathlib.Nat.{zero-add}
use native.Mathlib.Omega.{arith}
use borrow.Author.Tests.{le-leb}
use lib.IntN.{ℤ, pos, negsuc}
use lib.ListN.{length}
use lib.Seq.{take-length}
use Rattle.rules.specs.Limits.{store_size}
use Rattle.crc32c.specs.Reg.{crc_of}
use Rattle.rules.specs.Message.{Bytes}
use Rattle.rules.specs.Session.{ReplayChunk, bytes_of}
use Rattle.rules.specs.Respond.{ack}
use Rattle.rules.specs.Opening as O
use Rattle.ring.specs.Ring.{part, Within, Written}
use Rattle.ring.proofs.Rot.{lt_or_ge}
use Rattle.ring.proofs.Laws.{length-written, part-written}
use Rattle.bidi_write.specs.Numbers.{to_ℕ}
use Rattle.replay_buffer.specs.View.{Lent, lent, queue_of, Fits, Sound}
use Rattle.replay_buffer.specs.Push.{Pushes}
use Rattle.replay_buffer.specs.Ack.{Acks}
use Rattle.replay_buffer.specs.declared.Acked.{Acked}
use Rattle.replay_buffer.specs.declared.ReplayBuffer.{ReplayBuffer}
use Rattle.replay_buffer.proofs.Laws.{empty_sound, empty_queue, length_queue, stored_bytes}
use Rattle.openings.specs.Opening.{empty_of, Sized, Stores}

-- ---- the buffer

module _ {limit capacity : ℕ} (store : Bytes) (table : List ℕ) (sized : Sized limit capacity (length store) (length table)) where
  abbrev size : ℕ
  size = store_size capacity limit

  abbrev memory : Lent
  memory = lent size (length table)

  empty_fits : Fits memory (empty_of capacity) 0 (length store) (length table)
  empty_fits = record {
    store_lent = sized.store_lent;
    table_lent = omega arith;
    head_in = omega arith;
    stored_in = omega arith;
    first_in = sized.table_lent;
    chunks_in = omega arith;
    started = omega arith;
    end_in = omega arith;
    size_in = omega arith;
  }

  pub stores-none : (p : ℤ) → Stores limit capacity none p store table (record { buffer = empty_of capacity; released = 0 }) store table
  stores-none p = record {
    capacity_is = refl;
    released_is = refl;
    fits = empty_fits;
    sound = empty_sound memory (empty_of capacity) table refl refl limit;
    queue_is = empty_queue memory (empty_of capacity) table refl refl 0 store;
    store_beyond = refl;
    table_beyond = refl;
  }

  module _ (b : Bytes) (short : length b ≤ limit) where
    pub within : Within (length store) size 0 0 (length b)
    within = record { room = sized.store_lent; starts = omega arith; ends = omega arith }

    module _ {sum : ℕ} {store' : Bytes} {q : ReplayBuffer} {table₁ : List ℕ} (sum_is_lem : sum ≡ crc_of b) (written : Written size 0 0 b (length b) store store')
        (pushes : Pushes (length table) (empty_of capacity) table (length b) sum q table₁) where
      same_store : length store' ≡ length store
      same_store = length-written size 0 0 b (length b) store store' within (omega arith) written

      pushed_sound : Sound limit memory q table₁
      pushed_sound = pushes.sound limit size (empty_sound memory (empty_of capacity) table refl refl limit) short

      pushed_queue : queue_of memory q (length b) store' table₁ ≡ (record { write_offset = pos 0; bytes = b; crc32c = crc_of b } ∷ [])
      pushed_queue =
          let bytes : part size 0 0 (length b) store' ≡ b = part-written size 0 0 b (length b) store store' within (omega arith) written ∙ take-length b in
          ap (λ (e : ℕ). queue_of memory q e store' table₁) (sym (zero-add (length b)))
          ∙ pushes.queue_is limit size 0 store' (empty_sound memory (empty_of capacity) table refl refl limit) (omega (arith, same_store)) (omega arith) (omega arith)
          ∙ ap (λ (l : List ReplayChunk). l ++ (record { write_offset = pos 0; bytes = part size 0 0 (length b) store'; crc32c = sum } ∷ []))
          (empty_queue memory (empty_of capacity) table refl refl 0 store')
          ∙ ap₂ (λ (x : Bytes) (y : ℕ). record { write_offset = pos 0; bytes = x; crc32c = y } ∷ []) bytes sum_is_lem

      module _ {p : ℤ} {r : Acked} {table' : List ℕ} (e : length table₁ ≡ length table) (f : length table' ≡ length table)
          (acks : Acks memory q (length b) store' table₁ p r table') where
        left_fits : Fits memory r.buffer (length b) (length store') (length table')
        left_fits = subst (λ (k : ℕ). Fits memory r.buffer (length b) (length store') k) (e ∙ sym f) acks.keeps.fits

        left_queue : queue_of memory r.buffer (length b) store' table' ≡ O.open_chunks (some b) p
        left_queue = acks.queue_is limit pushed_sound ∙ ap (ack p) pushed_queue

        -- the whole payload was stored, and what is left of it is stored
        left-released : r.released ≡ length b - length (bytes_of (O.open_chunks (some b) p))
        left-released =
            acks.released_is
            ∙ ap₂ ◌-◌ (ap (λ (x : ReplayBuffer). x.unpersisted_bytes) pushes.result_is ∙ zero-add (length b))
            (sym (stored_bytes memory r.buffer (length b) store' table' left_fits limit (acks.sound limit pushed_sound)) ∙ ap (λ (l : List ReplayChunk). length (bytes_of l)) left_queue)

        pub stores_some : Stores limit capacity (some b) p store table r store' table'
        stores_some = record {
          capacity_is = acks.keeps.capacity_is ∙ ap (λ (x : ReplayBuffer). x.capacity) pushes.result_is;
          released_is = left-released;
          fits = left_fits;
          sound = acks.sound limit pushed_sound;
          queue_is = left_queue;
          store_beyond = written.beyond;
          table_beyond = acks.keeps.beyond ∙ pushes.beyond;
        }

-- ---- what is left of it

-- a size past its end releases it all
released : (payload : Option Bytes) (p : ℤ) → O.payload_length payload < to_ℕ p → O.open_chunks payload p ≡ []
unfolding ack
released none p h = refl
released (some b) (pos k) h = rw (le-leb (0 + length b) k (omega arith))
released (some b) (negsuc k) h = absurd (omega arith)

-- so the chunks end at the write offset too: past the payload's end there are none
pub queue_at : (limit : ℕ) (m : Lent) (b : ReplayBuffer) (payload : Option Bytes) (p : ℤ) (store : Bytes) (table : List ℕ)
    → Fits m b (O.payload_length payload) (length store) (length table) → Sound limit m b table
    → queue_of m b (O.payload_length payload) store table ≡ O.open_chunks payload p
    → queue_of m b (max (to_ℕ p) (O.payload_length payload)) store table ≡ O.open_chunks payload p
queue_at limit m b payload p store table fits sound e =
    ⊎_elim
    (λ (h : O.payload_length payload < to_ℕ p).
    let none_left : queue_of m b (O.payload_length payload) store table ≡ [] = e ∙ released payload p h in
    let no_chunks : b.chunks ≡ 0 = sym (length_queue m b (O.payload_length payload) store table fits) ∙ ap length none_left in
    let none-stored : b.unpersisted_bytes ≡ 0 =
    sym (stored_bytes m b (O.payload_length payload) store table fits limit sound) ∙ ap (λ (q : List ReplayChunk). length (bytes_of q)) none_left in
    empty_queue m b table none-stored no_chunks (max (to_ℕ p) (O.payload_length payload)) store ∙ sym (released payload p h))
    (λ (h : to_ℕ p ≤ O.payload_length payload).
    let same : max (to_ℕ p) (O.payload_length payload) ≡ O.payload_length payload = omega arith in
    ap (λ (n : ℕ). queue_of m b n store table) same ∙ e)
    (lt_or_ge (O.payload_length payload) (to_ℕ p))
