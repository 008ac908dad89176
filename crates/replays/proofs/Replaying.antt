-- Next request: what the code hands out is what the rule says.
-- Assumes nothing.
use mathlib.Core.Path.{◌≡◌, refl, sym, ap, ap₂, ◌∙◌, subst}
use mathlib.Core.Bool.{Bool, true, false, not, ◌&&◌}
use mathlib.Core.Option.{Option, none, some}
use mathlib.Core.List.{List, []}
use Prim.Native.Nat.{ℕ, suc, ◌+◌, ◌-◌, ◌*◌, ◌≤◌, ◌<◌, ◌^◌}
use native.Mathlib.Omega.{arith}
use native.Mathlib.Numerals.{add-one}
use lib.ListN.{length, take, drop, get_elem?, length-append, length-drop}
use lib.Seq.{take_all, take_at}
use lib.IntN.{ℤ}
use lib.Dec.{leb, eqb}
use Rattle.rules.specs.Message.{Bytes, Request}
use Rattle.rules.specs.Session as R
use Rattle.rules.specs.Upload as U
use Rattle.rules.specs.Replay as P
use Rattle.rules.specs.Notes.{content_of}
use Rattle.ring.specs.Ring.{part}
use Rattle.bidi_write.specs.View.{checksum_of, length_of, request_of}
use Rattle.bidi_write.specs.declared.Request as code
use Rattle.replay_buffer.specs.View.{total, words_of}
use Rattle.replay_buffer.specs.Replay.{chunk_in, Replays}
use Rattle.replay_buffer.specs.declared.Chunk.{Chunk}
use Rattle.replay_buffer.proofs.Chunks.{total-next, total-within}
use Rattle.replay_buffer.proofs.Laws.{length-words}
use Rattle.worker.specs.View.{request_for, pending_of, waiters_of, worker_of}
use Rattle.worker.specs.declared.PendingKind.{PendingKind}
use Rattle.worker.specs.declared.PendingKind.TheVariants as kind
use Rattle.worker.specs.declared.PendingRequest.{PendingRequest}
use Rattle.worker.proofs.Lengths.{no_length, carried_length}
use Rattle.worker.proofs.Waiters.{element_past}
use Rattle.transport.specs.View.{phase_of, lent_of, end_of, view}
use Rattle.transport.specs.Valid.{marked, owed, CursorAt, Valid}
use Rattle.transport.specs.Promise.{sent_data, Quiet}
use Rattle.transport.specs.Parts.{set_phase, set_worker}
use Rattle.replays.specs.Replay.{Further, HandsChunk, HandsRest, HandsLast}
use Rattle.transport.specs.declared.Cursor.{Cursor}
use Rattle.transport.specs.declared.Phase.{Phase}
use Rattle.transport.specs.declared.Phase.TheVariants as phase
use Rattle.transport.specs.declared.Sent.{Sent}
use Rattle.transport.specs.declared.Sent.TheVariants as sent
use Rattle.transport.specs.declared.Session.{Session}
use Rattle.bidi_write.specs.declared.Refusal.{Refusal}
use Rattle.std.specs.declared.result.Result.{Result}
use Rattle.std.specs.Prelude.{Ok, Err}
use Rattle.transport.specs.declared.Answer.{Answer}
use Rattle.transport.specs.declared.Answer.TheVariants as answer
use Rattle.transport.specs.declared.Outcome.{Outcome}
use Rattle.transport.proofs.Numbers.{fits, chunks_are, waiters_are, watermark_is}
use Rattle.transport.proofs.Bare.{unmarked, bare_is, with_mark}
use Rattle.transport.proofs.Refused.{accepted}
use Rattle.transport.proofs.Views.{valid_phase}

-- ---- the answers

quiet : (m : code.Request) (q : Request) → q.checksummed_data ≡ none → ((o : Bytes) → request_of m o ≡ q) → Quiet (Ok (answer.Sends m))
quiet m q e asks = record {
  accepts = accepted _;
  none_taken = refl;
  none_sent = no_length m [] q (asks []) e;
  has_no_data = λ o. ap (λ (r : Request). content_of r.checksummed_data) (asks o) ∙ ap content_of e;
}

-- ---- the cursor

marked_low : (m : Bool) → marked m ≤ 1
marked_low true = omega arith
marked_low false = omega arith

module _ (s : Session) (store : Bytes) (table : List ℕ) (at : Cursor) (v : Valid s store table) (here : s.phase ≡ phase.Replay at) where
  abbrev words : List ℕ
  words = words_of (lent_of s) s.worker.replay_buffer table

  words-length : length words ≡ s.worker.replay_buffer.chunks
  words-length = length-words (lent_of s) s.worker.replay_buffer (end_of s) store table (fits s _ _ v.guarded)

  -- where the replay stands
  cursor_is : (at.bytes ≡ total (take at.next words)) × (at.next ≤ length words + owed s.worker)
  cursor_is = subst (λ (p : Phase). CursorAt p words (owed s.worker)) here v.cursor

  not_ended : R.is_ended (phase_of s.phase) ≡ false
  not_ended = ap (λ (p : Phase). R.is_ended (phase_of p)) here

  followed : s.worker.connector.redirects_followed ≤ 3
  followed = v.followed not_ended

  small : at.next + 1 < 2 ^ 64
  small = omega (arith, words-length, cursor_is.1, v.slots_in, v.guarded.chunks_in, v.guarded.waiting_in, marked_low s.worker.self_flush_outstanding)

  -- one request further
  on_next : (k : Cursor) (bytes : ℕ) → Further at bytes k → k.next ≡ suc at.next
  on_next k bytes f = f.next_is small ∙ add-one at.next

  -- a valid session that replays on, where the cursor stands right
  replays_on : (k : Cursor) (n : Sent) → (k.bytes ≡ total (take k.next words)) → k.next ≤ length words + owed s.worker
      → Valid (set_phase (phase.Replay k) n s) store table
  replays_on k n e h = valid_phase (phase.Replay k) n s store table v (λ _. followed) (e, h)

  -- past the last chunk the bytes are all that is stored
  rest-bytes : (k : Cursor) → Further at 0 k → s.worker.replay_buffer.chunks ≤ at.next → k.bytes ≡ total (take k.next words)
  rest-bytes k f h =
      let all : total (take at.next words) ≡ total words = ap total (take_all at.next words (omega (arith, words-length))) in
      let further : total (take k.next words) ≡ total words = ap total (take_all k.next words (omega (arith, words-length, f.next_is small))) in
      let low : at.bytes + 0 < 2 ^ 64 = omega (arith, cursor_is.0, v.sound.stored_is, v.guarded) in
      omega (arith, f.bytes_are low, cursor_is.0)

-- ---- the chunk at the cursor

module _ (s : Session) (store : Bytes) (table : List ℕ) (at : Cursor) (out : Bytes) (c : Chunk) (out' : Bytes)
    (reads : Replays (lent_of s) s.worker.replay_buffer (end_of s) store table at.next at.bytes out c out') (kept : length out' ≡ length out)
    (m : code.Request) (carries : (o : Bytes) → request_of m o ≡ U.chunk_request (chunk_in c o) false) (k : Cursor) (on : Further at c.length k) where
  abbrev bytes : Bytes
  bytes = part (lent_of s).size s.worker.replay_buffer.head at.bytes c.length store

  bytes-length : length bytes ≡ c.length
  bytes-length = omega (arith, reads.in_out, kept, simp (length-append, length-drop) at (ap length reads.out_is))

  data_is : sent_data (Ok (answer.Sends m)) out' ≡ bytes
  data_is =
      ap (λ (r : Request). content_of r.checksummed_data) (carries out') ∙ ap (take c.length) reads.out_is
      ∙ take_at bytes (drop c.length out) c.length bytes-length

  length_is : length_of m.«data» ≡ c.length
  length_is = carried_length m c.write_offset.0 c.length c.crc32c false carries

  module _ (v : Valid s store table) (here : s.phase ≡ phase.Replay at) (more : at.next < s.worker.replay_buffer.chunks) (room : s.limit ≤ length out) where
    at_is : at.bytes ≡ total (take at.next (words_of (lent_of s) s.worker.replay_buffer table))
    at_is = (cursor_is s store table at v here).0

    on_bytes : k.bytes ≡ total (take (at.next + 1) (words_of (lent_of s) s.worker.replay_buffer table))
    on_bytes =
        let ws : List ℕ = words_of (lent_of s) s.worker.replay_buffer table in
        let h : at.next < length ws = omega (arith, words-length s store table at v here) in
        let e : at.bytes + c.length ≡ total (take (at.next + 1) ws) = reads.next_at s.limit v.sound room more at_is in
        let low : at.bytes + c.length < 2 ^ 64 = omega (arith, e, total-next ws at.next h, total-within ws at.next h, v.sound.stored_is, v.guarded) in
        on.bytes_are low ∙ e

    chunk_steps : R.answers (R.sends (request_of m out')) (view (set_phase (phase.Replay k) sent.Request s) store table)
        ≡ P.hands_chunk (get_elem? (R.chunks (view s store table)) at.next) at.next (view s store table)
    unfolding view worker_of P.hands_chunk
    chunk_steps =
        ap₂ (λ (r : Request) (n : ℕ). R.answers (R.sends r) (R.set_phase (R.replay n) R.a_request (view s store table)))
        (carries out') (on_next s store table at v here k c.length on)
        ∙ sym (ap (λ (o : Option R.ReplayChunk). P.hands_chunk o at.next (view s store table)) (reads.chunk_is s.limit v.sound room more at_is))

    chunk_stays : Valid (set_phase (phase.Replay k) sent.Request s) store table
    chunk_stays =
        let next_is : k.next ≡ at.next + 1 = on.next_is (small s store table at v here) in
        replays_on s store table at v here k sent.Request (rw next_is on_bytes) (omega (arith, words-length s store table at v here))

  pub hands_chunk_lem : HandsChunk s store table at out (record { session = set_phase (phase.Replay k) sent.Request s; answer = answer.Sends m }) out'
  hands_chunk_lem = record {
    none_taken = refl;
    fills = rw (data_is, length_is) reads.out_is;
    sent_is = rw (data_is, length_is) bytes-length;
    sent_in = omega (arith, length_is, reads.in_out);
    hands = λ v here more room. record { steps = chunk_steps v here more room; stays = chunk_stays v here more room };
  }

-- ---- a waiting request

has_no_data : (kind : PendingKind) (z : ℤ) (sum : Option ℕ) → (request_for kind z sum).checksummed_data ≡ none
has_no_data kind.Flush z sum = refl
has_no_data kind.Finalize z sum = refl

module _ (s : Session) (at : Cursor) (p : PendingRequest) (waits : at.next - s.worker.replay_buffer.chunks < s.worker.pending_requests.count)
    (found : get_elem? (waiters_of s.worker.pending_requests) (at.next - s.worker.replay_buffer.chunks) ≡ some (pending_of p))
    (m : code.Request) (asks : (o : Bytes) → request_of m o ≡ (pending_of p).request) (k : Cursor) (on : Further at 0 k) where
  module _ (store : Bytes) (table : List ℕ) (out : Bytes) (v : Valid s store table) (here : s.phase ≡ phase.Replay at)
      (past : s.worker.replay_buffer.chunks ≤ at.next) where
    waiter_steps : R.answers (R.sends (request_of m out)) (view (set_phase (phase.Replay k) sent.Request s) store table)
        ≡ P.hands_chunk none at.next (view s store table)
    unfolding view worker_of P.hands_chunk P.hands_waiter
    waiter_steps =
        ap₂ (λ (r : Request) (n : ℕ). R.answers (R.sends r) (R.set_phase (R.replay n) R.a_request (view s store table)))
        (asks out) (on_next s store table at v here k 0 on)
        ∙ sym (ap (λ (o : Option R.PendingRequest). P.hands_waiter o at.next (view s store table))
        (ap (λ (n : ℕ). get_elem? (R.waiters (view s store table)) (at.next - n)) (chunks_are s store table v) ∙ found))

    waiter_stays : Valid (set_phase (phase.Replay k) sent.Request s) store table
    waiter_stays =
        replays_on s store table at v here k sent.Request (rest-bytes s store table at v here k on past)
        (omega (arith, on.next_is (small s store table at v here), words-length s store table at v here))

  pub hands_waiter_lem : HandsRest s at (record { session = set_phase (phase.Replay k) sent.Request s; answer = answer.Sends m })
  hands_waiter_lem = record {
    quiet = quiet m _ (has_no_data p.kind p.write_offset.0 (checksum_of p.object_checksums)) asks;
    hands = λ store table out v here past. record { steps = waiter_steps store table out v here past; stays = waiter_stays store table out v here past };
  }

-- behind the waiting requests
pub hands_past : (s : Session) (at : Cursor) (r : Outcome) → s.worker.pending_requests.count ≤ at.next - s.worker.replay_buffer.chunks
    → HandsLast s at r → HandsRest s at r
unfolding P.hands_chunk P.hands_waiter
hands_past s at r h l = record {
  quiet = l.quiet;
  hands = λ store table out v here past. record { steps = (l.hands store table out v here past).steps ∙ sym (none_left store table v); stays = (l.hands store table out v here past).stays };
}
  where
    none_left : (store : Bytes) (table : List ℕ) → Valid s store table → P.hands_chunk none at.next (view s store table) ≡ P.hands_last at.next (view s store table)
    none_left store table v =
        ap (λ (o : Option R.PendingRequest). P.hands_waiter o at.next (view s store table))
        (ap (λ (n : ℕ). get_elem? (R.waiters (view s store table)) (at.next - n)) (chunks_are s store table v)
        ∙ element_past (R.waiters (view s store table)) (at.next - s.worker.replay_buffer.chunks) (omega (arith, waiters_are s store table v)))

-- ---- a bare flush, or the end of the replay

-- what the code tests
abbrev pub needs_flush : Session → Bool
needs_flush s =
    eqb s.worker.pending_requests.count 0 && not s.worker.self_flush_outstanding
    && leb (s.worker.replay_buffer.capacity - 2 * s.limit) s.worker.replay_buffer.unpersisted_bytes

chosen : (b c : Bool) (x y : R.Result) → b ≡ c → R.choose b x y ≡ R.choose c x y
chosen b c x y e = ap (λ (t : Bool). R.choose t x y) e

module _ (s : Session) (at : Cursor) (needed : needs_flush s ≡ true) (m : code.Request) (asks : (o : Bytes) → request_of m o ≡ U.flush_request s.write_offset.0)
    (k : Cursor) (on : Further at 0 k) where
  abbrev marking : Session
  marking = set_phase (phase.Replay k) sent.BareFlush (set_worker (with_mark true s.worker) s)

  module _ (store : Bytes) (table : List ℕ) (out : Bytes) (v : Valid s store table) (here : s.phase ≡ phase.Replay at)
      (past : s.worker.replay_buffer.chunks ≤ at.next) where
    watermark : R.watermark (view s store table) ≡ true
    watermark = sym (watermark_is s store table v) ∙ needed

    flush-steps : R.answers (R.sends (request_of m out)) (view marking store table) ≡ P.hands_last at.next (view s store table)
    unfolding view worker_of R.choose
    flush-steps =
        ap₂ (λ (r : Request) (n : ℕ). R.answers (R.sends r) (R.set_phase (R.replay n) R.bare_flush (R.set_worker (R.set_mark true (view s store table).worker) (view s store table))))
        (asks out ∙ sym (bare_is s store table v watermark)) (on_next s store table at v here k 0 on)
        ∙ sym (chosen (R.watermark (view s store table)) true _ _ watermark)

    flush-stays : Valid marking store table
    flush-stays = record {
      guarded = v.guarded;
      slots_in = v.slots_in;
      sound = v.sound;
      waiting_is = v.waiting_is;
      spec_fits = v.spec_fits;
      followed = λ _. followed s store table at v here;
      cursor = (
        rest-bytes s store table at v here k on past,
        omega (
          arith,
          on.next_is (small s store table at v here),
          words-length s store table at v here,
          (cursor_is s store table at v here).1,
          ap marked (unmarked s store table v watermark),
        ),
      );
    }

  pub hands-flush : HandsLast s at (record { session = marking; answer = answer.Sends m })
  hands-flush = record {
    quiet = quiet m _ refl asks;
    hands = λ store table out v here past. record { steps = flush-steps store table out v here past; stays = flush-stays store table out v here past };
  }

pub hands-done : (s : Session) (at : Cursor) → needs_flush s ≡ false → HandsLast s at (record { session = set_phase phase.Live sent.Nothing s; answer = answer.Done })
unfolding view R.choose
hands-done s at e = record {
  quiet = record { accepts = accepted _; none_taken = refl; none_sent = refl; has_no_data = λ out. refl };
  hands = λ store table out v here past. record {
    steps = sym (chosen (R.watermark (view s store table)) false _ _ (sym (watermark_is s store table v) ∙ e));
    stays = valid_phase phase.Live sent.Nothing s store table v (λ _. followed s store table at v here) tt;
  };
}
