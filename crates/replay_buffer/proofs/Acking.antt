-- The ways of a trim and of an acknowledgement, on lists and numbers alone.
-- Assumes nothing.
use mathlib.Core.Path.{◌≡◌, refl, sym, ap, ◌∙◌}
use mathlib.Core.List.{List, [], ◌∷◌}
use Prim.Native.Nat.{ℕ, ◌+◌, ◌-◌, ◌<◌, ◌≤◌, ◌^◌}
use native.Mathlib.Omega.{arith}
use borrow.Author.Tests.{leb-false}
use lib.IntN.{ℤ, pos}
use lib.ListN.{length, take, drop, get_or}
use lib.Seq.{drop-cons}
use Rattle.crc32c.specs.Reg.{crc_of}
use Rattle.rules.specs.Message.{Bytes}
use Rattle.rules.specs.Respond.{ack}
use Rattle.bidi_write.specs.Numbers.{to_ℕ}
use Rattle.ring.specs.Ring.{ring, part, Within, Written}
use Rattle.chunk_words.specs.Word.{packed, len_of}
use Rattle.ring.proofs.Laws.{take_part}
use Rattle.ring.proofs.Put.{front_put}
use Rattle.chunk_words.proofs.Words.{len_packed}
use Rattle.replay_buffer.specs.View.{Lent, chunks_of, total, words_of, stored_of, queue_of, Fits, Sound}
use Rattle.replay_buffer.specs.Ack.{Acks, Trims, Stored, advanced, front_of, Above}
use Rattle.replay_buffer.specs.declared.ReplayBuffer.{ReplayBuffer}
use Rattle.replay_buffer.specs.declared.Front.{Front}
use Rattle.replay_buffer.proofs.Chunks.{all_drop}
use Rattle.replay_buffer.proofs.Prefix.{front_chunks, front_total, front_above, ack_front, ack-none, ack-below, ack-within}
use Rattle.replay_buffer.proofs.Laws.{word_in, length-words, length-stored, total-stored}
use Rattle.replay_buffer.proofs.Rest.{words-advanced, stored-advanced, start-advanced, queue_advanced, sound_advanced, keeps_advanced, keeps_same, keeps_trans}

module _ (m : Lent) (b : ReplayBuffer) (end : ℕ) (store : Bytes) (table : List ℕ) (fits : Fits m b end (length store) (length table)) where
  -- nothing to trim
  pub kept_none : (p : ℤ) → b.chunks ≡ 0 → Trims m b end store table p b table
  unfolding queue_of
  kept_none p e =
      record {
        keeps = keeps_same m b end store table fits;
        queue_is = λ l s a. sym (ack-none p (end - b.unpersisted_bytes) (words_of m b table) (stored_of m b store) (length-words m b end store table fits ∙ e));
        sound = λ l s a. s;
      }

  pub kept_above : (p : ℤ) → to_ℕ p ≤ end - b.unpersisted_bytes → Trims m b end store table p b table
  unfolding queue_of
  kept_above p h =
      record {
        keeps = keeps_same m b end store table fits;
        queue_is = λ l s a. sym
            (ack-below p (end - b.unpersisted_bytes) (words_of m b table) (stored_of m b store) h a (omega (arith, total-stored m b end store table fits l s)));
        sound = λ l s a. s;
      }

  module _ (p w : ℕ) (some : 0 < b.chunks) (ew : w ≡ get_or (ring m.slots b.first table) 0 0) where
    front_word : words_of m b table ≡ w ∷ drop 1 (words_of m b table)
    front_word =
        let h : 0 < length (words_of m b table) = omega (arith, length-words m b end store table fits) in
        let e : get_or (words_of m b table) 0 0 ≡ w = word_in m.slots b.first b.chunks 0 table some ∙ sym ew in
        drop-cons (words_of m b table) 0 0 h ∙ ap (λ (x : ℕ). x ∷ drop 1 (words_of m b table)) e

    front_len : (limit : ℕ) → Sound limit m b table → len_of w ≤ b.unpersisted_bytes
    front_len limit s = omega (arith, ap total front_word, s.stored_is)

    -- no table that pushes and acknowledgements leave
    pub kept_short : end - b.unpersisted_bytes < p → len_of w ≤ p - (end - b.unpersisted_bytes) → Trims m b end store table (pos p) b table
    kept_short g h =
        record {
          keeps = keeps_same m b end store table fits;
          queue_is = λ l s a. absurd (omega (arith, leb-false (end - b.unpersisted_bytes + len_of w) p (rw front_word at a)));
          sound = λ l s a. s;
        }

    pub kept_long : b.unpersisted_bytes < len_of w → Trims m b end store table (pos p) b table
    kept_long h =
        record { keeps = keeps_same m b end store table fits; queue_is = λ l s a. absurd (omega (arith, front_len l s)); sound = λ l s a. s }

    -- the front chunk loses d bytes, and keeps n
    module _ (d n sum : ℕ) (table' : List ℕ) where
      pub trimmed_front : end - b.unpersisted_bytes < p → p ≡ end - b.unpersisted_bytes + d → len_of w ≡ d + n → 0 < n → len_of w ≤ b.unpersisted_bytes
          → Written m.slots (advanced m b (record { chunks = 0; bytes = d })).first 0 (packed n sum ∷ []) 1 table table'
          → sum ≡ crc_of (part m.size (advanced m b (record { chunks = 0; bytes = d })).head 0 n store)
          → Trims m b end store table (pos p) (advanced m b (record { chunks = 0; bytes = d })) table'
      unfolding queue_of advanced
      trimmed_front hp ep el hn hl put es =
          let f : Front = record { chunks = 0; bytes = d } in
          let r : ReplayBuffer = advanced m b f in
          let o : ℕ = end - b.unpersisted_bytes in
          let ws : List ℕ = words_of m b table in
          let bs : Bytes = stored_of m b store in
          let st : Stored b f = record { chunks_in = omega arith; bytes_in = omega arith } in
          let k = keeps_advanced m b f end store table fits st table' put.beyond in
          let within : Within (length table) m.slots r.first 0 1 =
          record { room = fits.table_lent; starts = omega (arith, k.fits.first_in); ends = omega (arith, fits.first_in) } in
          let words : words_of m r table' ≡ packed n sum ∷ drop 1 ws =
          front_put m.slots r.first 0 (packed n sum) table table' within put r.chunks refl (omega arith) (omega (arith, fits.chunks_in))
          ∙ ap (λ (l : List ℕ). packed n sum ∷ drop 1 l) (words-advanced m b f end store table fits st) in
          let bytes : stored_of m r store ≡ drop d bs = stored-advanced m b f end store table fits st in
          let small : n < 2 ^ 32 = omega (arith, fits.stored_in, fits.size_in) in
          let lp : len_of (packed n sum) ≡ n = len_packed n sum small in
          record {
            keeps = k;
            queue_is = λ l s a.
                let fresh : sum ≡ crc_of (take n (drop d bs)) =
                es ∙ ap crc_of (sym (take_part m.size r.head store 0 n r.unpersisted_bytes (omega arith)) ∙ ap (take n) bytes) in
                rw (start-advanced m b f end store table fits st, words, bytes)
                (ap (λ (x : ℕ). chunks_of x (packed n sum ∷ drop 1 ws) (drop d bs)) (sym ep)
                ∙ ack-within p o w d n sum (drop 1 ws) bs hp ep (omega arith) el (omega (arith, length-stored m b end store table fits)) small fresh
                ∙ ap (λ (x : List ℕ). ack (pos p) (chunks_of o x bs)) (sym front_word));
            sound = λ l s a.
                record {
                  stored_is = ap total words ∙ omega (arith, lp, ap total front_word, s.stored_is);
                  small = rw words
                      (omega (arith, lp, (rw front_word at s.small).0), all_drop (λ (x : ℕ). len_of x ≤ l) 1 ws s.small);
                };
          }

module _ (m : Lent) (b : ReplayBuffer) (end : ℕ) (store : Bytes) (table : List ℕ) (fits : Fits m b end (length store) (length table)) where
  pub front_stored : (p : ℤ) (f : Front) → f ≡ front_of p (pos (end - b.unpersisted_bytes)) (words_of m b table) → f.bytes ≤ b.unpersisted_bytes → Stored b f
  front_stored p f e h =
      record {
        chunks_in = omega
            (arith, ap (λ (x : Front). x.chunks) e, front_chunks p (pos (end - b.unpersisted_bytes)) (words_of m b table), length-words m b end store table fits);
        bytes_in = h;
      }

  module _ (p : ℤ) (f : Front) (ef : f ≡ front_of p (pos (end - b.unpersisted_bytes)) (words_of m b table)) where
    -- no table that pushes and acknowledgements leave
    pub acks_too_long : b.unpersisted_bytes < f.bytes → Acks m b end store table p (record { buffer = b; released = 0 }) table
    acks_too_long h =
        record {
          keeps = keeps_same m b end store table fits;
          released_is = omega arith;
          queue_is = λ l s. absurd (omega (arith, front_total p (pos (end - b.unpersisted_bytes)) (words_of m b table), ap (λ (x : Front). x.bytes) ef, s.stored_is));
          sound = λ l s. s;
        }

    pub acks_trimmed : (r : ReplayBuffer) (table' : List ℕ) → Stored b f → Trims m (advanced m b f) end store table p r table'
        → Acks m b end store table p (record { buffer = r; released = b.unpersisted_bytes - r.unpersisted_bytes }) table'
    unfolding queue_of
    acks_trimmed r table' st t =
        let o : ℕ = end - b.unpersisted_bytes in
        let ws : List ℕ = words_of m b table in
        let tot : total (drop f.chunks ws) + f.bytes ≡ total ws = rw ef (front_total p (pos o) ws) in
        let sd : (l : ℕ) → Sound l m b table → Sound l m (advanced m b f) table = λ l s. sound_advanced m b f end store table fits st l s tot in
        let ab : Above p (end - (advanced m b f).unpersisted_bytes) (words_of m (advanced m b f) table) =
        rw (start-advanced m b f end store table fits st, words-advanced m b f end store table fits st, ef) (front_above p o ws) in
        record {
          keeps = keeps_trans m b (advanced m b f) r end store table table' (keeps_advanced m b f end store table fits st table refl) t.keeps;
          released_is = refl;
          queue_is = λ l s.
              t.queue_is l (sd l s) ab
              ∙ ap (ack p) (queue_advanced m b f end store table fits st)
              ∙ ap (λ (x : Front). ack p (chunks_of (o + x.bytes) (drop x.chunks ws) (drop x.bytes (stored_of m b store)))) ef
              ∙ sym (ack_front p o ws (stored_of m b store) (omega (arith, total-stored m b end store table fits l s)));
          sound = λ l s. t.sound l (sd l s) ab;
        }
