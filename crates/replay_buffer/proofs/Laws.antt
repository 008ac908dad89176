-- What a caller knows of the queue that the memory holds: empty at first, how many chunks, their bytes, the last one's end.
-- Assumes nothing.
use mathlib.Core.Path.{◌≡◌, sym, ap, ◌∙◌}
use mathlib.Core.Option.{none}
use mathlib.Core.List.{List, []}
use Prim.Native.Nat.{ℕ, ◌+◌, ◌-◌, ◌<◌, ◌≤◌}
use native.Mathlib.Nat.{zero-add}
use native.Mathlib.Omega.{arith}
use lib.IntN.{ℤ, pos}
use lib.ListN.{length, get_or, get_elem?}
use Rattle.rules.specs.Message.{Bytes}
use Rattle.rules.specs.Session.{bytes_of}
use Rattle.rules.specs.Respond.{pushed_end}
use Rattle.ring.specs.Ring.{ring, part}
use Rattle.ring.proofs.Laws.{get_d_part, length_part}
use Rattle.replay_buffer.specs.View.{Lent, total, words_of, stored_of, queue_of, Fits, Sound}
use Rattle.replay_buffer.specs.Push.{Room}
use Rattle.replay_buffer.specs.declared.ReplayBuffer.{ReplayBuffer}
use Rattle.replay_buffer.proofs.Chunks.{length-chunks, bytes-chunks, chunk_none, end-chunks}

-- a buffer with nothing in it
module _ (m : Lent) (b : ReplayBuffer) (table : List ℕ) (none-stored : b.unpersisted_bytes ≡ 0) (no_chunks : b.chunks ≡ 0) where
  no_words : words_of m b table ≡ []
  unfolding part
  no_words = rw no_chunks

  pub empty_sound : (limit : ℕ) → Sound limit m b table
  empty_sound limit = record { stored_is = rw no_words (sym none-stored); small = rw no_words tt }

  pub empty_queue : (end : ℕ) (store : Bytes) → queue_of m b end store table ≡ []
  unfolding queue_of
  empty_queue end store = rw no_words

-- a word that is read is one of the list
pub word_in : (slots first chunks i : ℕ) (table : List ℕ) → i < chunks → get_or (part slots first 0 chunks table) i 0 ≡ get_or (ring slots first table) i 0
word_in slots first chunks i table h =
    get_d_part slots first table 0 chunks i 0 h ∙ ap (λ (j : ℕ). get_or (ring slots first table) j 0) (zero-add i)

module _ (m : Lent) (b : ReplayBuffer) (end : ℕ) (store : Bytes) (table : List ℕ) (fits : Fits m b end (length store) (length table)) where
  pub length-words : length (words_of m b table) ≡ b.chunks
  length-words = length_part m.slots b.first table fits.table_lent 0 b.chunks (omega (arith, fits))

  pub length-stored : length (stored_of m b store) ≡ b.unpersisted_bytes
  length-stored = length_part m.size b.head store fits.store_lent 0 b.unpersisted_bytes (omega (arith, fits))

  pub length_queue : length (queue_of m b end store table) ≡ b.chunks
  unfolding queue_of
  length_queue = length-chunks (end - b.unpersisted_bytes) (words_of m b table) (stored_of m b store) ∙ length-words

  -- what a push asks, where a slot is free and the bytes are in the ring
  pub push-room : (n : ℕ) → b.chunks < m.slots → b.unpersisted_bytes + n ≤ m.size → Room m.slots b n (length table)
  push-room n h e = record { table_lent = fits.table_lent; first_in = fits.first_in; free = h; stored_in = omega (arith, fits.size_in) }

  -- past the last chunk
  pub no_chunk : (next : ℕ) → b.chunks ≤ next → get_elem? (queue_of m b end store table) next ≡ none
  unfolding queue_of
  no_chunk next h = chunk_none (end - b.unpersisted_bytes) (words_of m b table) (stored_of m b store) next (omega (arith, length-words))

  module _ (limit : ℕ) (sound : Sound limit m b table) where
    pub total-stored : total (words_of m b table) ≡ length (stored_of m b store)
    total-stored = sound.stored_is ∙ sym length-stored

    pub bytes_queue : bytes_of (queue_of m b end store table) ≡ stored_of m b store
    unfolding queue_of
    bytes_queue = bytes-chunks (end - b.unpersisted_bytes) (words_of m b table) (stored_of m b store) total-stored

    pub stored_bytes : length (bytes_of (queue_of m b end store table)) ≡ b.unpersisted_bytes
    stored_bytes = ap length bytes_queue ∙ length-stored

    -- the last chunk ends at the write offset
    pub end_offset_lem : (z : ℤ) → 0 < b.chunks → pushed_end z (queue_of m b end store table) ≡ pos end
    unfolding queue_of
    end_offset_lem z h =
        let e : end - b.unpersisted_bytes + total (words_of m b table) ≡ end = omega (arith, fits, sound.stored_is) in
        end-chunks z (end - b.unpersisted_bytes) (words_of m b table) (stored_of m b store) (omega (arith, length-words)) (omega (arith, total-stored)) ∙ ap pos e
