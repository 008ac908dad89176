-- A word is put behind the others: what a push promises, on lists and numbers alone.
-- Assumes nothing.
use mathlib.Core.Path.{◌≡◌, refl, sym, ◌∙◌}
use mathlib.Core.List.{List, [], ◌∷◌, ◌++◌}
use Prim.Native.Nat.{ℕ, ◌+◌, ◌-◌, ◌<◌, ◌≤◌, ◌^◌}
use native.Mathlib.Omega.{arith}
use lib.ListN.{length}
use Rattle.ring.specs.Ring.{part, Within, Written}
use Rattle.chunk_words.specs.Word.{packed, len_of}
use Rattle.ring.proofs.Laws.{take_part, part-add, length_part}
use Rattle.ring.proofs.Put as Put
use Rattle.chunk_words.proofs.Words as Words
use Rattle.replay_buffer.specs.View.{lent, total, words_of, queue_of}
use Rattle.replay_buffer.specs.Push.{Room, Pushes, pushed}
use Rattle.replay_buffer.specs.declared.ReplayBuffer.{ReplayBuffer}
use Rattle.replay_buffer.proofs.Chunks.{total-append, chunks-more, all_more}

module _ (slots : ℕ) (b : ReplayBuffer) (table : List ℕ) (n sum : ℕ) (table' : List ℕ) (room : Room slots b n (length table))
    (put : Written slots b.first b.chunks (packed n sum ∷ []) 1 table table') where
  words : part slots b.first 0 (b.chunks + 1) table' ≡ part slots b.first 0 b.chunks table ++ (packed n sum ∷ [])
  words =
      let within : Within (length table) slots b.first b.chunks 1 =
      record { room = room.table_lent; starts = omega (arith, room); ends = omega (arith, room) } in
      Put.pushed slots b.first b.chunks (packed n sum) table table' within put b.chunks refl

  small : n < 2 ^ 32
  small = omega (arith, room)

  pub pushes : Pushes slots b table n sum (pushed b n) table'
  unfolding queue_of
  pushes =
      record {
        result_is = refl;
        beyond = put.beyond;
        fits = λ size end store f h e. record {
          store_lent = f.store_lent;
          table_lent = f.table_lent;
          head_in = f.head_in;
          stored_in = h;
          first_in = f.first_in;
          chunks_in = omega (arith, room);
          started = omega (arith, f);
          end_in = e;
          size_in = f.size_in;
        };
        queue_is = λ limit size end store s hs hn he.
            let u : ℕ = b.unpersisted_bytes in
            let off : end + n - (u + n) ≡ end - u = omega arith in
            let bytes : part size b.head 0 (u + n) store ≡ part size b.head 0 u store ++ part size b.head u n store =
            part-add size b.head store 0 u n u (omega arith) in
            let tot : total (words_of (lent size slots) b table) ≡ length (part size b.head 0 u store) =
            s.stored_is ∙ sym (length_part size b.head store hs 0 u (omega arith)) in
            let at : end - u + total (words_of (lent size slots) b table) ≡ end = omega (arith, s.stored_is) in
            rw (
              off,
              words,
              bytes,
              chunks-more (end - u) (words_of (lent size slots) b table) (packed n sum) (part size b.head 0 u store) (part size b.head u n store) tot,
              at,
              Words.len_packed n sum small,
              Words.sum-packed n sum small,
              take_part size b.head store u n n (omega arith),
            );
        sound = λ limit size s h. record {
          stored_is = rw words
              (omega (arith, total-append (words_of (lent size slots) b table) (packed n sum ∷ []), Words.len_packed n sum small, s.stored_is));
          small = rw words
              (all_more (λ (w : ℕ). len_of w ≤ limit) (words_of (lent size slots) b table) (packed n sum) s.small (omega (arith, Words.len_packed n sum small)));
        };
      }
