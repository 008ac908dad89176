-- "Breaks and replay", first half: break, verdict, failed attempt (`Connector::reconnect` without clock, retry_redirect.rs, redirect.rs).
use Rattle.std.specs.Prelude.{◌&&◌, ◌||◌, ◌∷◌, ◌-◌, ◌^◌}
use Rattle.rules.specs.Basics.{Bool, true, false, not, cond, Option, none, some, [], ℕ, suc, min, ltb, eqb}
use Rattle.rules.specs.Limits.{max_redirects}
use Rattle.rules.specs.Message.{Redirect, Break, redirect_in, is_malformed, is_redirect, is_end, over, max_handle, max_token}
use Rattle.rules.specs.Spec.{redirected}
use Rattle.rules.specs.Session.{Connector, Cause, finished, permanent, exhausted, given_up, stream_error, Phase, live, closing, connecting, verdict, replay, ended, nothing, Session, Call, append, flush, finalise, next_request, close, send_failed, response, handshake, break, judge, failed_attempt, attempt, ok, Result, answers, set_connector, set_mark, set_counters, set_spec, set_worker, set_phase, is_live, is_closing, is_verdict, is_connecting, is_ended, complete, choose, checks, unless, ending}
use Rattle.rules.specs.Respond.{progress}

abbrev pub overlong : Option Redirect → Bool  -- token or handle of a redirect too long
overlong = elim [ none ↦ false | some r ↦ over max_token r.routing_token || over max_handle r.write_handle ]

abbrev pub rerouted : Option Redirect → Connector → Connector  -- redirect detail is taken over "for any code"
rerouted o c = elim o [ none ↦ c | some r ↦ set_spec (redirected r c.spec) c ]

abbrev pub attempted : Bool → Connector → Connector  -- "Another break adds 1 to the attempt number, which stays at 2^32 − 1"
attempted true c = c
attempted false c = set_counters (min (suc c.counters.attempt_count) (2 ^ 32 - 1)) c.counters.redirects_followed c.counters.last_persisted_size c

-- "Finalise sent and no waiter: *finished*." Closing: "an end of stream finishes, dropping waiters; another break ends with a stream error
-- unless finished." Otherwise, live: "the mark is cleared; a status with redirect detail replaces ...; P above the last size replaces it and
-- zeroes both counters", and the attempt number "is answered; a redirect answers 0".
unfoldable pub breaks : Break → Session → Result
breaks b s =
    unless s (checks ((is_ended s.phase, 7) ∷ (not (is_live s.phase || is_closing s.phase), 6) ∷ (is_malformed b, 15) ∷ (overlong (redirect_in b), 4) ∷ []))
    (choose (complete s) (ending finished 0 0 s)
    (choose (is_closing s.phase) (ending (cond (is_end b) finished stream_error) 0 0 s)
    (let c = attempted (is_redirect b) (progress (some s.worker.persisted_size) (rerouted (redirect_in b) s.worker.connector)) in
    answers (attempt (cond (is_redirect b) 0 c.counters.attempt_count))
    (set_phase (verdict (is_redirect b)) nothing (set_worker (set_connector c (set_mark false s.worker)) s)))))

-- ---- verdicts: 1 continue, 2 permanent, 3 exhausted, 4 host gives up

-- "Redirects 1 to 3 turn 1 to 3 into continue; from the fourth, 2 stays and the rest is exhausted. Verdict 4, permanent and exhausted end, with
-- that cause." On a redirect or not, redirects followed before, verdict: the cause, if it ends
abbrev pub ruling : Bool → ℕ → ℕ → Option Cause
ruling redirect followed v =
    cond (eqb v 4) (some given_up) (cond (redirect && ltb followed max_redirects) none
    (cond (eqb v 2) (some permanent) (cond (redirect || eqb v 3) (some exhausted) none)))

abbrev pub counted : Bool → Connector → Connector
counted false c = c
counted true c = set_counters c.counters.attempt_count (suc c.counters.redirects_followed) c.counters.last_persisted_size c

unfoldable pub ruled : Option Cause → Session → Result  -- "Continue leads to connecting."
ruled none s = answers ok (set_phase connecting nothing s)
ruled (some c) s = ending c 0 0 s

abbrev pub no_verdict : ℕ → Bool
no_verdict v = ltb v 1 || ltb 4 v

abbrev pub on_redirect : Phase → Bool
on_redirect = elim [ live ↦ false | verdict r ↦ r | connecting ↦ false | replay i ↦ false | closing ↦ false | ended c ↦ false ]

unfoldable pub judges : ℕ → Session → Result
judges v s =
    unless s (checks ((is_ended s.phase, 7) ∷ (not (is_verdict s.phase), 6) ∷ (no_verdict v, 13) ∷ []))
    (let c = s.worker.connector in
    let r = on_redirect s.phase in
    ruled (ruling r c.counters.redirects_followed v) (set_worker (set_connector (counted r c) s.worker) s))

-- "A failed attempt brings its error and verdict under the same redirect rule, without the attempt number."
unfoldable pub fails : Break → ℕ → Session → Result
fails b v s =
    unless s (checks ((is_ended s.phase, 7) ∷ (not (is_connecting s.phase), 6) ∷ (no_verdict v, 13) ∷ (is_malformed b, 15) ∷ (overlong (redirect_in b), 4) ∷ []))
    (let c = rerouted (redirect_in b) s.worker.connector in
    let r = is_redirect b in
    ruled (ruling r c.counters.redirects_followed v) (set_worker (set_connector (counted r c) s.worker) s))

-- "15 when the bytes are malformed, between 13 and 4": a call past 7, 6 and 13 that brings a malformed detail
abbrev pub unreadable : Call → Session → Bool
unreadable c s = elim c [
  | break b ↦ (is_live s.phase || is_closing s.phase) && is_malformed b
  | failed_attempt b v ↦ is_connecting s.phase && not (no_verdict v) && is_malformed b
  | append d out ↦ false
  | flush out ↦ false
  | finalise out ↦ false
  | next_request out ↦ false
  | close ↦ false
  | send_failed ↦ false
  | response m ↦ false
  | handshake m ↦ false
  | judge v ↦ false
]
