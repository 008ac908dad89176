-- A chunk is read for a replay, on lists and numbers alone.
-- Assumes nothing.
use mathlib.Core.Path.{◌≡◌, refl, sym, ap, ◌∙◌}
use mathlib.Core.Bool.{Bool, true, false, ◌||◌}
use mathlib.Core.List.{List, ◌++◌}
use Prim.Native.Nat.{ℕ, ◌+◌, ◌-◌, ◌<◌, ◌≤◌}
use native.Mathlib.Omega.{arith}
use borrow.Author.Tests.{lt-ltb, le-ltb, le-leb, lt-leb}
use lib.Dec.{leb, ltb}
use lib.IntN.{ℤ, pos}
use lib.ListN.{length, take, drop, get_or}
use lib.Seq.{take_at}
use Rattle.rules.specs.Message.{Bytes}
use Rattle.ring.specs.Ring.{ring, part}
use Rattle.chunk_words.specs.Word.{len_of, sum_of}
use Rattle.ring.proofs.Laws.{take_part, drop-part, length_part}
use Rattle.replay_buffer.specs.View.{Lent, total, words_of, stored_of, queue_of, Fits, Sound}
use Rattle.replay_buffer.specs.Replay.{no_chunk, read_at, Replays}
use Rattle.replay_buffer.specs.declared.ReplayBuffer.{ReplayBuffer}
use Rattle.replay_buffer.specs.declared.Chunk.{Chunk}
use Rattle.replay_buffer.proofs.Chunks.{total-next, total-within, chunk_at_lem, all_at}
use Rattle.replay_buffer.proofs.Laws.{word_in, length-words}

or_true : (t : Bool) → (t || true) ≡ true
or_true true = refl
or_true false = refl

same_chunk : (r : Chunk) {n sum : ℕ} {z : ℤ} → r.length ≡ n → r.crc32c ≡ sum → r.write_offset.0 ≡ z → r ≡ record { write_offset = record { 0 = z }; length = n; crc32c = sum }
same_chunk r e f g = rw (← e, ← f, ← g)

module _ (m : Lent) (b : ReplayBuffer) (end : ℕ) (store : Bytes) (table : List ℕ) (fits : Fits m b end (length store) (length table)) (next at : ℕ) (out : Bytes) where
  -- nothing is read: the caller's cursor, or the memory, is none that is left
  nothing_read : no_chunk ≡ read_at b end (get_or (ring m.slots b.first table) next 0) next at (length out)
      → ((limit : ℕ) → Sound limit m b table → limit ≤ length out → next < b.chunks → at ≡ total (take next (words_of m b table)) → ⊥)
      → Replays m b end store table next at out no_chunk out
  unfolding part
  nothing_read e never =
      record {
        read_is = e;
        in_out = omega arith;
        out_is = refl;
        chunk_is = λ l s h n a. absurd (never l s h n a);
        next_at = λ l s h n a. absurd (never l s h n a);
      }

  pub reads_past : b.chunks ≤ next → Replays m b end store table next at out no_chunk out
  unfolding read_at
  reads_past h = nothing_read (rw (le-leb b.chunks next h)) (λ l s o n a. omega arith)

  module _ (w : ℕ) (ew : w ≡ get_or (ring m.slots b.first table) next 0) where
    the_word : next < b.chunks → get_or (words_of m b table) next 0 ≡ w
    the_word n = word_in m.slots b.first b.chunks next table n ∙ sym ew

    in_words : next < b.chunks → next < length (words_of m b table)
    in_words n = omega (arith, length-words m b end store table fits)

    within : (limit : ℕ) → Sound limit m b table → next < b.chunks → at ≡ total (take next (words_of m b table)) → at + len_of w ≤ b.unpersisted_bytes
    within l s n a = omega (arith, total-within (words_of m b table) next (in_words n), ap len_of (the_word n), s.stored_is)

    at_most : (limit : ℕ) → Sound limit m b table → next < b.chunks → len_of w ≤ limit
    at_most l s n =
        omega (arith, all_at (λ (x : ℕ). len_of x ≤ l) (words_of m b table) next 0 (in_words n) s.small, ap len_of (the_word n))

    pub reads_short : length out < len_of w → Replays m b end store table next at out no_chunk out
    unfolding read_at
    reads_short h = nothing_read (rw (← ew, lt-ltb (length out) (len_of w) h, or_true (leb b.chunks next))) (λ l s o n a. omega (arith, at_most l s n))

    pub reads_beyond : b.unpersisted_bytes < at + len_of w → Replays m b end store table next at out no_chunk out
    unfolding read_at
    reads_beyond h =
        nothing_read (rw (← ew, lt-ltb b.unpersisted_bytes (at + len_of w) h, or_true (leb b.chunks next || ltb (length out) (len_of w))))
        (λ l s o n a. omega (arith, within l s n a))

    pub reads_chunk : (r : Chunk) (out' : Bytes) → next < b.chunks → r.length ≡ len_of w → r.crc32c ≡ sum_of w → r.write_offset.0 ≡ pos (end - b.unpersisted_bytes + at)
        → at + len_of w ≤ b.unpersisted_bytes → len_of w ≤ length out
        → out' ≡ part m.size b.head at (len_of w) store ++ drop (len_of w) out → Replays m b end store table next at out r out'
    unfolding queue_of read_at
    reads_chunk r out' en el es eo h ho eu =
        let u : ℕ = b.unpersisted_bytes in
        let k : ℕ = len_of w in
        let front : take k out' ≡ part m.size b.head at k store =
        ap (take k) eu ∙ take_at (part m.size b.head at k store) (drop k out) k
        (length_part m.size b.head store fits.store_lent at k (omega (arith, fits.stored_in))) in
        let bytes : take k (drop at (stored_of m b store)) ≡ part m.size b.head at k store =
        ap (take k) (drop-part m.size b.head store fits.store_lent 0 at u at (u - at) (omega arith) (omega arith) (omega (arith, fits.stored_in)))
        ∙ take_part m.size b.head store at k (u - at) (omega arith) in
        record {
          read_is = rw (← ew, lt-leb b.chunks next en, le-ltb (length out) k ho, le-ltb u (at + k) h) (same_chunk r el es eo);
          in_out = omega arith;
          out_is = rw el eu;
          chunk_is = λ l s o n a.
              rw (chunk_at_lem (end - u) (words_of m b table) (stored_of m b store) next (in_words n), the_word n, ← a, bytes, eo, el, es, front);
          next_at = λ l s o n a. omega (arith, total-next (words_of m b table) next (in_words n), ap len_of (the_word n));
        }
