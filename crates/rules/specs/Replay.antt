-- "Breaks and replay", second half: next request and a send reported failed (`Worker::reconnect` after the handshake).
use Rattle.std.specs.Prelude.{◌&&◌, ◌∷◌, ◌-◌}
use Rattle.rules.specs.Basics.{Bool, true, false, not, cond, Option, none, some, [], ℕ, suc, length, get_elem?}
use Rattle.rules.specs.Message.{is_given}
use Rattle.rules.specs.Session.{ReplayChunk, PendingRequest, Phase, live, closing, connecting, verdict, replay, ended, Sent, nothing, a_request, bare_flush, Session, sends, ok, done, Result, answers, set_mark, set_worker, set_phase, is_replay, is_ended, chunks, waiters, watermark, short_out, choose, checks, unless}
use Rattle.rules.specs.Upload.{chunk_request}
use Rattle.rules.specs.Respond.{bare_request}

abbrev pub place : Phase → ℕ  -- how many requests the replay has handed out
place = elim [ live ↦ 0 | verdict r ↦ 0 | connecting ↦ 0 | replay i ↦ i | closing ↦ 0 | ended c ↦ 0 ]

abbrev pub hands_last : ℕ → Session → Result  -- "a bare flush if the watermark holds, then *done*, live again"
hands_last i s =
    choose (watermark s)
    (answers (sends (bare_request s)) (set_phase (replay (suc i)) bare_flush (set_worker (set_mark true s.worker) s)))
    (answers done (set_phase live nothing s))

unfoldable pub hands_waiter : Option PendingRequest → ℕ → Session → Result
hands_waiter none i s = hands_last i s
hands_waiter (some p) i s = answers (sends p.request) (set_phase (replay (suc i)) a_request s)

unfoldable pub hands_chunk : Option ReplayChunk → ℕ → Session → Result
hands_chunk none i s = hands_waiter (get_elem? (waiters s) (i - length (chunks s))) i s
hands_chunk (some c) i s = answers (sends (chunk_request c false)) (set_phase (replay (suc i)) a_request s)

-- "Replay hands out one request a call: stored chunks, waiting requests, a bare flush if the watermark holds, then *done*"
unfoldable pub hands : ℕ → Session → Result
hands out s =
    let i = place s.phase in
    let c = get_elem? (chunks s) i in
    unless s (checks ((is_ended s.phase, 7) ∷ (not (is_replay s.phase), 6) ∷ (is_given c && short_out out s, 11) ∷ []))
    (hands_chunk c i s)

abbrev pub is_nothing : Sent → Bool
is_nothing = elim [ nothing ↦ true | a_request ↦ false | bare_flush ↦ false ]

abbrev pub is_bare : Sent → Bool
is_bare = elim [ nothing ↦ false | a_request ↦ false | bare_flush ↦ true ]

-- "allowed directly after an accepted call that sent ..., else 6, ends a replay, clears the mark after a bare flush, and else changes nothing"
unfoldable pub unsent : Session → Result
unsent s =
    unless s (checks ((is_ended s.phase, 7) ∷ (is_nothing s.sent, 6) ∷ []))
    (answers ok (set_phase (cond (is_replay s.phase) live s.phase) nothing
    (set_worker (set_mark (s.worker.self_flush_outstanding && not (is_bare s.sent)) s.worker) s)))
