-- A chunk is cut: what the code leaves in the record and the memory is what the rules say.
-- Assumes nothing.
use mathlib.Core.Path.{◌≡◌, refl, sym, ap, ap₂, ◌∙◌, subst}
use mathlib.Core.Bool.{Bool, not, ◌&&◌, ◌||◌}
use mathlib.Core.Option.{Option, some}
use mathlib.Core.List.{List, [], ◌∷◌, ◌++◌}
use Prim.Native.Nat.{ℕ, ◌+◌, ◌*◌, ◌-◌, ◌≤◌}
use native.Mathlib.Omega.{arith}
use borrow.Author.Tests.{le-ltb}
use lib.Dec.{leb}
use lib.IntN.{ℤ, pos, ◌+ℤ◌, pos-+ℤ-pos}
use lib.ListN.{length, take, drop}
use lib.Seq.{take_at}
use Rattle.crc32c.specs.Reg.{crc_of}
use Rattle.rules.specs.Message.{Bytes, Request}
use Rattle.rules.specs.Session as R
use Rattle.rules.specs.Upload as U
use Rattle.rules.specs.Notes.{data_in}
use Rattle.ring.specs.Ring.{part}
use Rattle.ring.proofs.Laws.{length_part}
use Rattle.bidi_write.specs.View.{checksum_of, length_of, request_of}
use Rattle.std.specs.declared.option.Option as opt
use Rattle.std.specs.Prelude.{Some, None}
use Rattle.connector.specs.View.{connector_of}
use Rattle.replay_buffer.specs.View.{queue_of}
use Rattle.replay_buffer.specs.Push.{Pushes, pushed}
use Rattle.replay_buffer.specs.declared.ReplayBuffer.{ReplayBuffer}
use Rattle.replay_buffer.proofs.Laws.{stored_bytes}
use Rattle.worker.specs.View.{waiters_of, worker_of}
use Rattle.worker.proofs.Lengths.{carried_length}
use Rattle.transport.specs.View.{phase_of, lent_of, end_of, view}
use Rattle.transport.specs.Valid.{GuardedAt, Valid}
use Rattle.cuts.specs.Cut.{chunk_at, CutRoom, joined_to, flushes_with, cut_session, CutSession, Cuts}
use Rattle.transport.specs.declared.Session.{Session}
use Rattle.cuts.specs.declared.Sending.{Sending}
use Rattle.transport.proofs.Views.{no_cursor, live_no_replay}
use Rattle.transport.proofs.Numbers.{fits, offset_is, none_waits}

sum-joined : (running : opt.Option ℕ) (sum n : ℕ) (b : Bytes) → sum ≡ crc_of b → length b ≡ n
    → checksum_of (joined_to running sum n) ≡ U.joined_sum (checksum_of running) b
sum-joined None sum n b e l = refl
sum-joined (Some c) sum n b e l = rw (e, sym l)

-- the session after a cut, but for four of its parts
abbrev after : Session → ℤ → Option ℕ → List R.ReplayChunk → Bool → R.Session
after s offset running queue mark = record {
  limit = s.limit;
  slots = s.slots;
  phase = phase_of s.phase;
  sent = R.a_request;
  writer = record { made = s.made; write_offset = offset; running_crc32c = running; held = [] };
  worker = record {
    connector = connector_of s.worker.connector;
    replay_buffer = record { queue = queue; capacity = s.worker.replay_buffer.capacity };
    pending_requests = waiters_of s.worker.pending_requests;
    persisted_size = s.worker.persisted_size.0;
    finalized = s.worker.finalized;
    self_flush_outstanding = mark;
  };
}

-- the chunk lies in the ring
cut-ends : (s : Session) (n store table out : ℕ) → CutRoom s n store table out → s.worker.replay_buffer.unpersisted_bytes + n ≤ (lent_of s).size
cut-ends s n store table out h = omega (arith, h.guarded, h.cuttable)

module _ (s : Session) (n : ℕ) (store : Bytes) (table : List ℕ) (out : Bytes) (h : CutRoom s n (length store) (length table) (length out))
    (sum : ℕ) (sum_is : sum ≡ crc_of (chunk_at s n store)) (table' : List ℕ) (same : length table' ≡ length table)
    (p : Pushes s.slots s.worker.replay_buffer table n sum (pushed s.worker.replay_buffer n) table') where
  abbrev b : ReplayBuffer
  b = s.worker.replay_buffer

  length_chunk : length (chunk_at s n store) ≡ n
  length_chunk = length_part (lent_of s).size b.head store h.guarded.store_lent b.unpersisted_bytes n (cut-ends s n _ _ _ h)

  abbrev after_cut : Session
  after_cut = cut_session (pushed b n) sum n s

  guarded_cut : GuardedAt after_cut (length store) (length table)
  guarded_cut =
      let g = h.guarded in
      let c = h.cuttable in
      record {
        limit_some = g.limit_some;
        limit_top = g.limit_top;
        capacity_low = g.capacity_low;
        capacity_top = g.capacity_top;
        store_lent = g.store_lent;
        table_lent = g.table_lent;
        head_in = g.head_in;
        stored_in = omega (arith, g, c);
        held_in = g.limit_some;
        first_in = g.first_in;
        chunks_in = omega (arith, c);
        waiting_in = g.waiting_in;
        offset_in = le-ltb (end_of s + n) 0 (omega arith);
        offset_top = c.end_in;
        started = omega (arith, g);
      }

  module _ (v : Valid s store table) where
    abbrev rule : R.Session
    rule = view s store table

    queue_cut : queue_of (lent_of s) (pushed b n) (end_of s + n) store table' ≡ queue_of (lent_of s) b (end_of s) store table ++ (U.chunk_of (chunk_at s n store) rule ∷ [])
    unfolding view
    queue_cut =
        p.queue_is s.limit (lent_of s).size (end_of s) store v.sound h.guarded.store_lent (cut-ends s n _ _ _ h) h.guarded.started
        ∙ rw (sum_is, sym (offset_is s store table v))

    sound_cut : Valid after_cut store table'
    sound_cut = record {
      guarded = rw same guarded_cut;
      slots_in = v.slots_in;
      sound = p.sound s.limit (lent_of s).size v.sound h.cuttable.small;
      waiting_is = v.waiting_is;
      spec_fits = v.spec_fits;
      followed = v.followed;
      cursor = no_cursor s.phase _ _ (live_no_replay s.phase h.cuttable.live);
    }

    stored_cut : length (R.bytes_of (queue_of (lent_of s) (pushed b n) (end_of s + n) store table')) ≡ b.unpersisted_bytes + n
    stored_cut = stored_bytes (lent_of s) (pushed b n) (end_of s + n) store table' (fits after_cut _ _ sound_cut.guarded) s.limit sound_cut.sound

    flushes_cut : flushes_with (pushed b n) s ≡ R.watermark (U.stores (chunk_at s n store) rule)
    unfolding R.watermark R.stored view worker_of
    flushes_cut =
        ap₂ (λ (a : Bool) (k : ℕ). a && not s.worker.self_flush_outstanding && leb (b.capacity - 2 * s.limit) k)
        (none_waits s store table v) (sym stored_cut ∙ ap (λ (q : List R.ReplayChunk). length (R.bytes_of q)) queue_cut)

    view-cut : view after_cut store table' ≡ U.cuts (chunk_at s n store) rule
    unfolding view worker_of part
    view-cut =
        let m : Bool = s.worker.self_flush_outstanding in
        let o : pos (end_of s + n) ≡ s.write_offset.0 +ℤ pos (length (chunk_at s n store)) = rw (length_chunk, offset_is s store table v) (sym (pos-+ℤ-pos (end_of s) n)) in
        let r = sum-joined s.running_crc32c sum n (chunk_at s n store) sum_is length_chunk in
        ap₂ (λ (z : ℤ) (c : Option ℕ). after s z c (queue_of (lent_of s) (pushed b n) (end_of s + n) store table') (m || flushes_with (pushed b n) s)) o r
        ∙ ap₂ (after s _ _) queue_cut (ap (λ (f : Bool). m || f) flushes_cut)

    request-cut : (r : Request) → r ≡ U.chunk_request (record { write_offset = s.write_offset.0; bytes = chunk_at s n store; crc32c = sum }) (flushes_with (pushed b n) s)
        → r ≡ U.cut_request (chunk_at s n store) rule
    unfolding view
    request-cut r e = e ∙ ap₂ (λ (c : ℕ) (f : Bool). U.chunk_request (record { write_offset = s.write_offset.0; bytes = chunk_at s n store; crc32c = c }) f) sum_is flushes_cut

  module _ (r : Sending) (c : CutSession s (pushed b n) sum n r) (out' : Bytes) (out_is : out' ≡ chunk_at s n store ++ drop n out) where
    taken_out : take n out' ≡ chunk_at s n store
    taken_out = ap (take n) out_is ∙ take_at (chunk_at s n store) (drop n out) n length_chunk

    request_is : request_of r.request out' ≡ U.chunk_request (record { write_offset = s.write_offset.0; bytes = chunk_at s n store; crc32c = sum }) (flushes_with (pushed b n) s)
    request_is = c.request_is out' ∙ rw taken_out

    data_is : data_in (some (request_of r.request out')) ≡ chunk_at s n store
    data_is = ap (λ (q : Request). data_in (some q)) request_is

    length_is : length_of r.request.«data» ≡ n
    length_is = carried_length r.request s.write_offset.0 n sum (flushes_with (pushed b n) s) c.request_is

    cuts-pushed : Cuts s n store table out r table' out'
    cuts-pushed = record {
      table_beyond = p.beyond;
      out_beyond = rw (data_is, length_is) out_is;
      sent_is = rw (data_is, length_is) length_chunk;
      sent_in = omega (arith, length_is, h.cuttable);
      request_is = λ v. request-cut v _ request_is;
      session_is = λ v. rw c.session_is (view-cut v);
      stays = λ v. rw c.session_is (sound_cut v);
    }

-- the bytes are summed and pushed as a chunk, then copied out
pub cuts_as : (s : Session) (n : ℕ) (store : Bytes) (table : List ℕ) (out : Bytes) → CutRoom s n (length store) (length table) (length out)
    → (sum : ℕ) → sum ≡ crc_of (chunk_at s n store) → (b : ReplayBuffer) (table' : List ℕ) → Pushes s.slots s.worker.replay_buffer table n sum b table'
    → length table' ≡ length table → (out' : Bytes) → out' ≡ chunk_at s n store ++ drop n out
    → (r : Sending) → CutSession s b sum n r → Cuts s n store table out r table' out'
cuts_as s n store table out h sum sum_is b table' p same out' out_is r c =
    let e : b ≡ pushed s.worker.replay_buffer n = p.result_is in
    cuts-pushed s n store table out h sum sum_is table' same
    (subst (λ (x : ReplayBuffer). Pushes s.slots s.worker.replay_buffer table n sum x table') e p)
    r (subst (λ (x : ReplayBuffer). CutSession s x sum n r) e c) out' out_is
