-- An accepted report past the end ends *beyond*, and nothing else does.
use mathlib.Core.Path.{◌≡◌, refl, sym, ap, ap₂, ◌∙◌}
use mathlib.Core.Bool.{Bool, true, false, not, cond, ◌&&◌}
use mathlib.Core.Option.{Option, none, some}
use mathlib.Core.List.{[], ◌∷◌}
use Prim.Native.Nat.{ℕ, ◌-◌}
use lib.ListN.{length, get_elem?}
use lib.IntN.{ℤ}
use lib.Signed.{lt_z}
use Rattle.rules.specs.Session.{ReplayChunk, PendingRequest, Connector, Cause, finished, regressed, beyond, already_finalized, permanent, exhausted, given_up, stream_error, Session, Call, append, flush, finalise, next_request, close, send_failed, response, handshake, break, judge, failed_attempt, refused, Result, answers, set_connector, set_mark, set_worker, chunks, waiters, Rows, choose, unless, ending}
use Rattle.rules.specs.Message.{size_of, is_end, is_redirect, redirect_in}
use Rattle.rules.specs.Upload.{appends, asks, closes}
use Rattle.rules.specs.Respond.{above_end, takes, last_step, updated, responds, progress, to_replay, shakes}
use Rattle.rules.specs.Reconnect.{rerouted, breaks, ruled, on_redirect, judges, fails}
use Rattle.rules.specs.Replay.{hands_waiter, hands_chunk, hands, unsent}
use Rattle.rules.specs.Step.{step}
use Rattle.rules.specs.Notes.{accepted, brings}
use Rattle.rules.specs.Past.{is_past, is_beyond, ends_beyond, spec_with, Kept, PastEnd, BeyondExactly}
use Rattle.rules.proofs.Tests.{never}
use Rattle.rules.proofs.Lists.{cond_ind, choose_ind, unless_ind}
use Rattle.rules.proofs.Inv.{is_by_size}
use Rattle.rules.proofs.CallsReconnect.{Steady, ruling_steady, ends_steady}

and_none : (b : Bool) → false ≡ (b && false)
and_none true = refl
and_none false = refl

-- ---- results that do not end so

record Other (r : Result) : Type 0 where
  other : ends_beyond r.answer ≡ false

other_cause : (c : Cause) → is_by_size c ≡ false → is_beyond c ≡ false
other_cause finished e = refl
other_cause regressed e = refl
other_cause beyond e = e
other_cause already_finalized e = refl
other_cause permanent e = refl
other_cause exhausted e = refl
other_cause given_up e = refl
other_cause stream_error e = refl

ending_other : (c : Cause) (k released : ℕ) (s : Session) → is_beyond c ≡ false → Other (ending c k released s)
unfolding ending
ending_other c k released s e = record { other = e }

last_other : (k released : ℕ) (s : Session) → Other (last_step k released s)
unfolding last_step
last_other k released s = choose_ind Other _ _ _ (λ _. record { other = refl }) (λ _. record { other = refl })

replay_other : (k released : ℕ) (s : Session) → Other (to_replay k released s)
unfolding to_replay
replay_other k released s = record { other = refl }

ruled_other : (c : Option Cause) (s : Session) → Steady c → Other (ruled c s)
unfolding ruled
ruled_other none s e = record { other = refl }
ruled_other (some c) s e = ending_other c 0 0 s (other_cause c e)

waiter_other : (p : Option PendingRequest) (i : ℕ) (s : Session) → Other (hands_waiter p i s)
unfolding hands_waiter
waiter_other none i s = choose_ind Other _ _ _ (λ _. record { other = refl }) (λ _. record { other = refl })
waiter_other (some p) i s = record { other = refl }

chunk_other : (c : Option ReplayChunk) (i : ℕ) (s : Session) → Other (hands_chunk c i s)
unfolding hands_chunk
chunk_other none i s = waiter_other (get_elem? (waiters s) (i - length (chunks s))) i s
chunk_other (some c) i s = record { other = refl }

-- ---- a stated size

-- as `PastEnd`, of a call that brings the size o
record Past (call : Call) (o : Option ℤ) (s : Session) (r : Result) : Type 0 where
  exactly : ends_beyond r.answer ≡ (accepted r.answer && is_past o s)
  kept : ends_beyond r.answer ≡ true → Kept call s r

module _ (call : Call) (o : Option ℤ) (s : Session) where
  within : (r : Result) → is_past o s ≡ false → Other r → Past call o s r
  within r e h = record {
    exactly = h.other ∙ and_none (accepted r.answer) ∙ ap (λ (b : Bool). accepted r.answer && b) (sym e);
    kept = λ f. never (sym f ∙ h.other);
  }

  refused_past : (n : ℕ) → Past call o s (answers (refused n) s)
  refused_past n = record { exactly = refl; kept = λ e. never (sym e) }

module _ (n : ℤ) (s : Session) where
  regress_not : lt_z n s.worker.persisted_size ≡ true → is_past (some n) s ≡ false
  regress_not e = ap (λ (b : Bool). not b && above_end n s) e

  inside_not : above_end n s ≡ false → is_past (some n) s ≡ false
  inside_not e = ap (λ (b : Bool). not (lt_z n s.worker.persisted_size) && b) e ∙ sym (and_none (not (lt_z n s.worker.persisted_size)))

  past_is : lt_z n s.worker.persisted_size ≡ false → above_end n s ≡ true → is_past (some n) s ≡ true
  past_is e f = ap₂ (λ (a b : Bool). not a && b) e f

-- c: the connector with the spec updated
takes_past : (call : Call) (o : Option ℤ) (f : Bool) (c : Connector) (s : Session) (last : ℕ → ℕ → Session → Result) → c.spec ≡ spec_with call s.worker.connector.spec
    → ((k released : ℕ) (t : Session) → Other (last k released t)) → Past call o s (takes o f (set_worker (set_connector c (set_mark false s.worker)) s) last)
unfolding takes ending
takes_past call none f c s last u h = within call none s _ refl (h 0 0 _)
takes_past call (some n) f c s last u h =
    choose_ind (Past call (some n) s) _ _ _ (λ e. within call (some n) s _ (regress_not n s e) (record { other = refl }))
    (λ e. choose_ind (Past call (some n) s) _ _ _
    (λ g. record {
      exactly = sym (past_is n s e g);
      kept = λ _. record { phase_is = refl; spec_is = u; persisted = refl; store = refl; writer_is = refl; fails = refl; none_waits = refl };
    })
    (λ g. choose_ind (Past call (some n) s) _ _ _ (λ _. within call (some n) s _ (inside_not n s g) (record { other = refl }))
    (λ _. within call (some n) s _ (inside_not n s g) (h _ _ _))))

progress-spec : (o : Option ℤ) (c : Connector) → (progress o c).spec ≡ c.spec
progress-spec none c = refl
progress-spec (some n) c = cond_ind (λ (x : Connector). x.spec ≡ c.spec) (lt_z c.counters.last_persisted_size n) (λ _. refl) (λ _. refl)

-- ---- every call

ended_past : {c : Call} {s : Session} {r : Result} → Past c (brings c).size s r → PastEnd c s r
ended_past h = record { exactly = h.exactly; kept = h.kept }

-- a call without a size, past its refusals
silent : (c : Call) (s : Session) (rows : Rows) (r : Result) → (brings c).size ≡ none → Other r → PastEnd c s (unless s rows r)
silent c s rows r e h =
    ended_past (within c (brings c).size s _ (ap (λ (o : Option ℤ). is_past o s) e) (unless_ind Other s rows r (λ _. record { other = refl }) (λ _. h)))

either : (b : Bool) (x y : Result) → Other x → Other y → Other (choose b x y)
either b x y h i = choose_ind Other b x y (λ _. h) (λ _. i)

pub beyond_exactly : BeyondExactly
unfolding step appends asks hands closes unsent responds shakes breaks judges fails
beyond_exactly (append [] out) s = record { exactly = refl; kept = λ e. never (sym e) }
beyond_exactly (append (x ∷ d) out) s = silent (append (x ∷ d) out) s _ _ refl (either _ _ _ (record { other = refl }) (record { other = refl }))
beyond_exactly (flush out) s = silent (flush out) s _ _ refl (either _ _ _ (record { other = refl }) (record { other = refl }))
beyond_exactly (finalise out) s = silent (finalise out) s _ _ refl (either _ _ _ (record { other = refl }) (record { other = refl }))
beyond_exactly (next_request out) s = silent (next_request out) s _ _ refl (chunk_other _ _ s)
beyond_exactly close s = silent close s _ _ refl (record { other = refl })
beyond_exactly send_failed s = silent send_failed s _ _ refl (record { other = refl })
beyond_exactly (response m) s =
    ended_past (unless_ind (Past (response m) _ s) s _ _ (refused_past (response m) _ s) (λ _. takes_past (response m) _ _ _ s last_step refl last_other))
beyond_exactly (handshake m) s =
    ended_past (unless_ind (Past (handshake m) _ s) s _ _ (refused_past (handshake m) _ s)
    (λ _. takes_past (handshake m) _ _ _ s to_replay (progress-spec (size_of m.write_status) (updated m s.worker.connector)) replay_other))
beyond_exactly (break b) s =
    silent (break b) s _ _ refl
    (either _ _ _ (ending_other finished 0 0 s refl) (either _ _ _ (ending_other _ 0 0 s (other_cause (cond (is_end b) finished stream_error) (ends_steady (is_end b)))) (record { other = refl })))
beyond_exactly (judge v) s =
    silent (judge v) s _ _ refl (ruled_other _ _ (ruling_steady (on_redirect s.phase) s.worker.connector.counters.redirects_followed v))
beyond_exactly (failed_attempt b v) s =
    silent (failed_attempt b v) s _ _ refl
    (ruled_other _ _ (ruling_steady (is_redirect b) (rerouted (redirect_in b) s.worker.connector).counters.redirects_followed v))
