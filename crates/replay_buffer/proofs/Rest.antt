-- The buffer less what is at its front (`advanced` of specs/Ack.antt).
-- Assumes nothing.
use mathlib.Core.Path.{◌≡◌, refl, sym, ap, ◌∙◌}
use mathlib.Core.List.{List}
use Prim.Native.Nat.{ℕ, ◌+◌, ◌-◌, ◌<◌, ◌≤◌}
use native.Mathlib.Omega.{arith}
use lib.ListN.{length, drop}
use Rattle.rules.specs.Message.{Bytes}
use Rattle.ring.specs.Ring.{wrapped, part}
use Rattle.chunk_words.specs.Word.{len_of}
use Rattle.ring.proofs.Rot.{wrapped_lt}
use Rattle.ring.proofs.Laws.{drop-part, part_moved}
use Rattle.replay_buffer.specs.View.{Lent, chunks_of, total, words_of, stored_of, queue_of, Fits, Sound}
use Rattle.replay_buffer.specs.Ack.{Keeps, Stored, advanced}
use Rattle.replay_buffer.specs.declared.ReplayBuffer.{ReplayBuffer}
use Rattle.replay_buffer.specs.declared.Front.{Front}
use Rattle.replay_buffer.proofs.Chunks.{all_drop}

-- a range less its first k, where the head moved on by k
less : {A : Type 0} (size head k n : ℕ) (s : List A) → size ≤ length s → head ≤ size → k ≤ n → n ≤ size
    → part size (wrapped size (head + k)) 0 (n - k) s ≡ drop k (part size head 0 n s)
less size head k n s room h hk hn =
    part_moved size head s room k 0 (n - k) k h (omega arith) (omega arith)
    ∙ sym (drop-part size head s room 0 k n k (n - k) (omega arith) (omega arith) (omega arith))

module _ (m : Lent) (b : ReplayBuffer) (f : Front) (end store table : ℕ) (fits : Fits m b end store table) where
  pub head-advanced : f.bytes ≤ b.unpersisted_bytes → (advanced m b f).head < m.size
  unfolding advanced
  head-advanced h = wrapped_lt m.size (b.head + f.bytes) (omega (arith, fits))

  pub first-advanced : f.chunks ≤ b.chunks → (advanced m b f).first < m.slots
  unfolding advanced
  first-advanced h = wrapped_lt m.slots (b.first + f.chunks) (omega (arith, fits))

module _ (m : Lent) (b : ReplayBuffer) (f : Front) (end : ℕ) (store : Bytes) (table : List ℕ) (fits : Fits m b end (length store) (length table)) (stored : Stored b f) where
  pub words-advanced : words_of m (advanced m b f) table ≡ drop f.chunks (words_of m b table)
  unfolding advanced
  words-advanced = less m.slots b.first f.chunks b.chunks table fits.table_lent (omega (arith, fits)) stored.chunks_in fits.chunks_in

  pub stored-advanced : stored_of m (advanced m b f) store ≡ drop f.bytes (stored_of m b store)
  unfolding advanced
  stored-advanced = less m.size b.head f.bytes b.unpersisted_bytes store fits.store_lent (omega (arith, fits)) stored.bytes_in fits.stored_in

  pub start-advanced : end - (advanced m b f).unpersisted_bytes ≡ end - b.unpersisted_bytes + f.bytes
  unfolding advanced
  start-advanced = omega (arith, fits, stored)

  pub queue_advanced : queue_of m (advanced m b f) end store table
      ≡ chunks_of (end - b.unpersisted_bytes + f.bytes) (drop f.chunks (words_of m b table)) (drop f.bytes (stored_of m b store))
  unfolding queue_of
  queue_advanced = rw (start-advanced, words-advanced, stored-advanced)

  pub sound_advanced : (limit : ℕ) → Sound limit m b table → total (drop f.chunks (words_of m b table)) + f.bytes ≡ total (words_of m b table)
      → Sound limit m (advanced m b f) table
  unfolding advanced
  sound_advanced limit s e =
      record {
        stored_is = ap total words-advanced ∙ omega (arith, e, s.stored_is);
        small = rw words-advanced (all_drop (λ (w : ℕ). len_of w ≤ limit) f.chunks (words_of m b table) s.small);
      }

  pub keeps_advanced : (table' : List ℕ) → drop m.slots table' ≡ drop m.slots table → Keeps m b end store table (advanced m b f) table'
  unfolding advanced
  keeps_advanced table' e =
      record {
        fits = record {
          store_lent = fits.store_lent;
          table_lent = fits.table_lent;
          head_in = head-advanced m b f end (length store) (length table) fits stored.bytes_in;
          stored_in = omega (arith, fits);
          first_in = first-advanced m b f end (length store) (length table) fits stored.chunks_in;
          chunks_in = omega (arith, fits);
          started = omega (arith, fits);
          end_in = fits.end_in;
          size_in = fits.size_in;
        };
        capacity_is = refl;
        stored_le = omega arith;
        chunks_le = omega arith;
        beyond = e;
        held_is = λ n r.
            part_moved m.size b.head store fits.store_lent f.bytes (b.unpersisted_bytes - f.bytes) n b.unpersisted_bytes
            (omega (arith, fits)) (omega (arith, stored)) r;
      }

pub keeps_same : (m : Lent) (b : ReplayBuffer) (end : ℕ) (store : Bytes) (table : List ℕ) → Fits m b end (length store) (length table) → Keeps m b end store table b table
keeps_same m b end store table fits =
    record { fits = fits; capacity_is = refl; stored_le = omega arith; chunks_le = omega arith; beyond = refl; held_is = λ h r. refl }

pub keeps_trans : (m : Lent) (b c r : ReplayBuffer) (end : ℕ) (store : Bytes) (table table' : List ℕ) → Keeps m b end store table c table
    → Keeps m c end store table r table' → Keeps m b end store table r table'
keeps_trans m b c r end store table table' x y =
    record {
      fits = y.fits;
      capacity_is = y.capacity_is ∙ x.capacity_is;
      stored_le = omega (arith, x.stored_le, y.stored_le);
      chunks_le = omega (arith, x.chunks_le, y.chunks_le);
      beyond = y.beyond;
      held_is = λ h e. y.held_is h (omega (arith, x.stored_le)) ∙ x.held_is h e;
    }
