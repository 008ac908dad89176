-- "Calls while live": append, flush, finalise, close (transport.rs, coalescing_buffer.rs, `process_intent` of worker.rs).
use Rattle.std.specs.Prelude.{◌&&◌, ◌||◌, ◌∷◌, ◌++◌, ◌-◌, ◌+ℤ◌}
use Rattle.rules.specs.Basics.{Bool, true, false, not, cond, Option, none, some, [], ℕ, suc, min, length, take, leb, ℤ, pos}
use Rattle.crc32c.specs.Reg.{crc_of, joined}
use Rattle.rules.specs.Message.{Bytes, ChecksummedData, Request}
use Rattle.rules.specs.Session.{ReplayChunk, PendingKind, flushing, finalizing, PendingRequest, Worker, closing, nothing, a_request, Session, took, sends, waits, ok, Result, answers, working, set_mark, set_pending, going, set_worker, set_phase, is_nil, is_live, is_ended, waiters, full, watermark, closed, no_slot, no_waiter, past_end, short_out, choose, Rows, checks, unless}

abbrev pub chunk_of : Bytes → Session → ReplayChunk  -- the bytes b as a chunk at the write offset
chunk_of b s = record { write_offset = s.writer.write_offset; bytes = b; crc32c = crc_of b }

-- "A chunk request has offset, bytes, CRC32C"; under the watermark it "also sets flush and state lookup"
abbrev pub chunk_request : ReplayChunk → Bool → Request
chunk_request c flushes =
    let d : ChecksummedData = record { content = c.bytes; crc32c = c.crc32c } in
    record { write_offset = c.write_offset; checksummed_data = some d; object_checksum = none; state_lookup = flushes; flush = flushes; finish_write = false }

abbrev pub pushed : ReplayChunk → Worker → Worker
pushed c w =
    working w.connector (w.replay_buffer.queue ++ (c ∷ [])) w.pending_requests w.persisted_size w.finalized w.self_flush_outstanding w

abbrev pub joined_sum : Option ℕ → Bytes → Option ℕ  -- "joins the chunk's sum to a known running sum"
joined_sum sum b = elim sum [ none ↦ none | some c ↦ some (joined c (crc_of b) (length b)) ]

abbrev pub stores : Bytes → Session → Session  -- b is cut as one chunk: "a cut moves [the write offset] by the chunk's length"
stores b s =
    let at = s.writer.write_offset +ℤ pos (length b) in
    going s.phase a_request (record { made = s.writer.made; write_offset = at; running_crc32c = joined_sum s.writer.running_crc32c b; held = [] })
    (pushed (chunk_of b s) s.worker) s

-- "The request of a newly cut chunk, counted as stored, then also sets flush and state lookup, and marks an own flush."
abbrev pub cut_request : Bytes → Session → Request
cut_request b s = chunk_request (chunk_of b s) (watermark (stores b s))

abbrev pub cuts : Bytes → Session → Session
cuts b s = set_worker (set_mark (s.worker.self_flush_outstanding || watermark (stores b s)) (stores b s).worker) (stores b s)

abbrev pub room : Bytes → Session → ℕ  -- "Append takes the smaller of its length and C − held."
room d s = min (length d) (s.limit - length s.writer.held)

abbrev pub holding : Bytes → Session → Bytes
holding d s = s.writer.held ++ take (room d s) d

unfoldable pub holds : Bytes → Session → Session
holds b s =
    let r = s.writer in
    going s.phase nothing (record { made = r.made; write_offset = r.write_offset; running_crc32c = r.running_crc32c; held = b }) s.worker s

abbrev pub fills_chunk : Bytes → Session → Bool  -- "Held bytes reaching C are cut as one chunk"
fills_chunk d s = leb s.limit (length (holding d s))

abbrev pub append_rows : Bytes → ℕ → Session → Rows  -- of an append of at least a byte: "an append that cuts nothing needs no phase but not ended"
append_rows d out s =
    let cuts = fills_chunk d s in
    checks ((is_ended s.phase, 7) ∷ (closed s, 12) ∷ (cuts && not (is_live s.phase), 6) ∷ (cuts && short_out out s, 11)
    ∷ (cuts && full s, 8) ∷ (cuts && no_slot s, 9) ∷ (cuts && past_end (holding d s) s, 10) ∷ [])

abbrev pub appended : Bytes → Session → Result
appended d s =
    let b = holding d s in
    choose (fills_chunk d s) (answers (took (room d s) (some (cut_request b s))) (cuts b s)) (answers (took (room d s) none) (holds b s))

unfoldable pub appends : Bytes → ℕ → Session → Result
appends d out s = unless s (append_rows d out s) (appended d s)

-- "The flush request sets flush and state lookup; finalise sets finish and flush, and the running sum if known."
abbrev pub flush_request : ℤ → Request
flush_request at = record { write_offset = at; checksummed_data = none; object_checksum = none; state_lookup = true; flush = true; finish_write = false }

abbrev pub finish_request : ℤ → Option ℕ → Request
finish_request at sum = record { write_offset = at; checksummed_data = none; object_checksum = sum; state_lookup = false; flush = true; finish_write = true }

abbrev pub request_for : PendingKind → Session → Request
request_for flushing s = flush_request s.writer.write_offset
request_for finalizing s = finish_request s.writer.write_offset s.writer.running_crc32c

abbrev pub is_finalizing : PendingKind → Bool
is_finalizing = elim [ flushing ↦ false | finalizing ↦ true ]

abbrev pub waiter_of : PendingKind → Session → PendingRequest
waiter_of k s = record { kind = k; request = request_for k s }

abbrev pub awaits : PendingKind → Session → Session  -- the session with one more waiter
awaits k s =
    let r = s.writer in
    going s.phase a_request (record { made = suc r.made; write_offset = r.write_offset; running_crc32c = r.running_crc32c; held = r.held })
    (set_pending (waiters s ++ (waiter_of k s ∷ [])) (s.worker.finalized || is_finalizing k) s.worker) s

abbrev pub ask_rows : ℕ → Session → Rows
ask_rows out s =
    let cuts = not (is_nil s.writer.held) in
    checks ((is_ended s.phase, 7) ∷ (closed s, 12) ∷ (not (is_live s.phase), 6) ∷ (cuts && short_out out s, 11)
    ∷ (full s, 8) ∷ (cond cuts (no_slot s) (no_waiter s), 9) ∷ (cuts && past_end s.writer.held s, 10) ∷ [])

-- "Flush, and finalise, with held bytes cut them as one chunk and make no waiter; the call is repeated. With none held they send their
-- request and make a waiter, numbered 1, 2, ..."
abbrev pub asked : PendingKind → Session → Result
asked k s =
    choose (not (is_nil s.writer.held)) (answers (sends (cut_request s.writer.held s)) (cuts s.writer.held s))
    (answers (waits (request_for k s) (suc s.writer.made)) (awaits k s))

unfoldable pub asks : PendingKind → ℕ → Session → Result
asks k out s = unless s (ask_rows out s) (asked k s)

abbrev pub close_rows : Session → Rows
close_rows s = checks ((is_ended s.phase, 7) ∷ (not (is_live s.phase), 6) ∷ (full s, 8) ∷ [])

unfoldable pub closes : Session → Result  -- "Close needs the live phase and stored below capacity. Held bytes are not sent."
closes s = unless s (close_rows s) (answers ok (set_phase closing nothing s))
