-- Responses and handshakes: `handle_response_success` of worker.rs, `ack` of replay_buffer.rs.
use Rattle.std.specs.Prelude.{◌&&◌, ◌||◌, ◌∷◌, ◌-◌, ◌+ℤ◌, ◌-ℤ◌}
use Rattle.rules.specs.Basics.{Bool, true, false, not, cond, Option, none, some, List, [], ℕ, suc, length, drop, ℤ, pos, nat_abs, le_z, lt_z}
use Rattle.crc32c.specs.Reg.{crc_of}
use Rattle.rules.specs.Message.{Request, Response, size_of, is_finalized, over, max_handle}
use Rattle.rules.specs.Spec.{noted}
use Rattle.rules.specs.Session.{ReplayChunk, Connector, PendingKind, flushing, finalizing, PendingRequest, Worker, replay, nothing, bare_flush, regressed, beyond, already_finalized, Session, completes, Result, answers, working, set_connector, set_mark, set_counters, set_spec, set_worker, set_phase, is_live, is_closing, is_connecting, is_ended, chunks, waiters, stored, watermark, complete, choose, checks, unless, ending}
use Rattle.rules.specs.Upload.{flush_request}

abbrev pub end_offset : ReplayChunk → ℤ
end_offset c = c.write_offset +ℤ pos (length c.bytes)

abbrev pub trimmed : ℤ → ReplayChunk → ReplayChunk  -- "the front one is trimmed with its sum made afresh"
trimmed n c = let b = drop (nat_abs (n -ℤ c.write_offset)) c.bytes in record { write_offset = n; bytes = b; crc32c = crc_of b }

unfoldable pub ack : ℤ → List ReplayChunk → List ReplayChunk  -- "chunks ending at or below it go"
ack n [] = []
ack n (c ∷ cs) = cond (le_z (end_offset c) n) (ack n cs) (cond (lt_z c.write_offset n) (trimmed n c ∷ cs) (c ∷ cs))

abbrev pub wants : PendingKind → Bool → Bool  -- "A flush wants size ≥ its offset and not finalised; a finalise wants the size and finalised."
wants flushing finalised = not finalised
wants finalizing finalised = finalised

unfoldable pub is_satisfied : ℤ → Bool → PendingRequest → Bool
is_satisfied n finalised p = le_z p.request.write_offset n && wants p.kind finalised

unfoldable pub satisfied : ℤ → Bool → List PendingRequest → ℕ  -- "Waiters are completed from the front while satisfied": how many
satisfied n finalised [] = 0
satisfied n finalised (p ∷ ps) = cond (is_satisfied n finalised p) (suc (satisfied n finalised ps)) 0

abbrev pub absorbs : ℤ → Bool → Worker → Worker  -- P is the size n, chunks and waiters up to it are gone
absorbs n finalised w =
    let ps = w.pending_requests in
    working w.connector (ack n w.replay_buffer.queue) (drop (satisfied n finalised ps) ps) n w.finalized w.self_flush_outstanding w

abbrev pub above_end : ℤ → Session → Bool  -- "The pushed end is the write offset."
above_end n s = lt_z s.writer.write_offset n

-- "no size, only the last step below; size below P, end *regressed*; else P is the size ... A finalised response then ends the session,
-- *already finalised*, unless finalise was sent and no waiter is left." Document 02: a size above the pushed end "ends the session, cause *beyond*, after the
-- spec update and the test for regress". The last step is given the waiters completed and the bytes released:
-- "The number is the stored total before less the stored total after."
unfoldable pub takes : Option ℤ → Bool → Session → (ℕ → ℕ → Session → Result) → Result
takes none finalised s last = last 0 0 s
takes (some n) finalised s last =
    choose (lt_z n s.worker.persisted_size) (ending regressed 0 0 s)
    (choose (above_end n s) (ending beyond 0 0 s)
    (let k = satisfied n finalised (waiters s) in
    let s' = set_worker (absorbs n finalised s.worker) s in
    let released = stored s - stored s' in
    choose (finalised && not (complete s')) (ending already_finalized k released s') (last k released s')))

abbrev pub pushed_end : ℤ → List ReplayChunk → ℤ  -- the last chunk's end
pushed_end z [] = z
pushed_end z (c ∷ cs) = pushed_end (end_offset c) cs

-- "one bare flush request at the last chunk's end". Under the watermark a chunk is stored: the 0 is never used.
abbrev pub bare_request : Session → Request
bare_request s = flush_request (pushed_end (pos 0) (chunks s))

unfoldable pub last_step : ℕ → ℕ → Session → Result  -- "If still live and the watermark holds, one bare flush request ... is sent and marked."
last_step k released s =
    choose (is_live s.phase && watermark s)
    (answers (completes k released (some (bare_request s))) (set_phase s.phase bare_flush (set_worker (set_mark true s.worker) s)))
    (answers (completes k released none) (set_phase s.phase nothing s))

abbrev pub updated : Response → Connector → Connector  -- "updates generation and handle as AppendObjectSpecState"
updated m c = set_spec (noted m c.spec) c

unfoldable pub responds : Response → Session → Result
responds m s =
    unless s (checks ((is_ended s.phase, 7) ∷ (not (is_live s.phase || is_closing s.phase), 6) ∷ (over max_handle m.write_handle, 4) ∷ []))
    (takes (size_of m.write_status) (is_finalized m.write_status)
    (set_worker (set_connector (updated m s.worker.connector) (set_mark false s.worker)) s) last_step)

abbrev pub progress : Option ℤ → Connector → Connector  -- "P above the last size replaces it and zeroes both counters", as does a handshake's size
progress none c = c
progress (some n) c = cond (lt_z c.counters.last_persisted_size n) (set_counters 0 0 n c) c

unfoldable pub to_replay : ℕ → ℕ → Session → Result
to_replay k released s = answers (completes k released none) (set_phase (replay 0) nothing s)

-- "A handshake updates the spec; a size above the last one replaces it and zeroes the counters; the rest is as for a response, without
-- bare flush, and leads to replay."
unfoldable pub shakes : Response → Session → Result
shakes m s =
    unless s (checks ((is_ended s.phase, 7) ∷ (not (is_connecting s.phase), 6) ∷ (over max_handle m.write_handle, 4) ∷ []))
    (takes (size_of m.write_status) (is_finalized m.write_status)
    (set_worker (set_connector (progress (size_of m.write_status) (updated m s.worker.connector)) (set_mark false s.worker)) s) to_replay)
