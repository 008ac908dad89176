-- Each clause of `Ensured` is the text of its function's `ensures`, and the `ensures` of the core's functions beneath them are what the claims about the core
-- ask (`Promises`): where a contract and a claim no longer agree, `refl` is refused.
-- Assumes nothing.
use mathlib.Core.Path.{◌≡◌, refl}
use mathlib.Core.List.{List}
use Prim.Native.Nat.{ℕ}
use lib.ListN.{length}
use seplogic.Ra.Ura.{Ura}
use base.Logic.{SProp}
use prog.Memory.{Memory as Machine}
use prog.Routine.{Routine}
use contract.Monad.{Fun}
use contract.Lifetimes.{Lfts}
use denote.Triple.Entry.{Args}
use types.Logic.{Logic}
use contract.Notation.{connectives}
use Rattle.rules.specs.Message.{Bytes}
use Rattle.rules.specs.Session as R
use Rattle.bidi_write.specs.View.{response_of, break_of}
use Rattle.openings.specs.Opening.{Beside, beside, opening_of, Opens}
use Rattle.openings.specs.declared.Opening.{Opening}
use Rattle.std.specs.Prelude.{Ok}
use Rattle.openings.specs.declared.Opened.{Opened}
use Rattle.transport.specs.View.{Left, left, answer_of}
use Rattle.transport.specs.Claim.{Memory, Promises, Does}
use Rattle.transport.specs.declared.Session.{Session}
use Rattle.session.specs.Lent.{outcome}
use Rattle.claims.specs.Claim.{Ensured, Unlent, Ensures, OpenEnsured, Begins}
use Rattle.appends.specs.contracts.append as core-append
use Rattle.session.specs.contracts.append as append
use Rattle.flushes.specs.contracts.flush as core-flush
use Rattle.session.specs.contracts.flush as flush
use Rattle.flushes.specs.contracts.finalise as core-finalise
use Rattle.session.specs.contracts.finalise as finalise
use Rattle.transport.specs.contracts.close.close as core-close
use Rattle.session.specs.contracts.close as close
use Rattle.responses.specs.contracts.response as core-response
use Rattle.session.specs.contracts.response as response
use Rattle.responses.specs.contracts.handshake as core-handshake
use Rattle.session.specs.contracts.handshake as handshake
use Rattle.reconnects.specs.contracts.stream_break as core-stream-break
use Rattle.session.specs.contracts.stream_break as stream-break
use Rattle.reconnects.specs.contracts.judge as core-judge
use Rattle.session.specs.contracts.judge as judge
use Rattle.reconnects.specs.contracts.failed_attempt as core-failed-attempt
use Rattle.session.specs.contracts.failed_attempt as failed-attempt
use Rattle.replays.specs.contracts.next_request as core-next-request
use Rattle.session.specs.contracts.next_request as next-request
use Rattle.replays.specs.contracts.send_failed as core-send-failed
use Rattle.session.specs.contracts.send_failed as send-failed
use Rattle.openings.specs.contracts.open as core-open
use Rattle.session.specs.contracts.open as open-host

abbrev memory : Session → Bytes → List ℕ → Memory
memory s store table = record { session = s; store = store; table = table }

-- of a call of the core that is lent no out buffer, or no memory at all: whatever these hold
abbrev AnyOut : R.Call → Memory → Left → List ℕ → Type 0
AnyOut c m r table = (out : Bytes) → Promises c m out r m.store table out

abbrev Any : R.Call → Session → Left → Type 0
Any c s r = (store : Bytes) (table : List ℕ) (out : Bytes) → Promises c (memory s store table) out r store table out

-- ---- what is tied here is all that is asked

-- of a call
pub ensures_all : (c : R.Call) (m : Memory) (out : Bytes) (r : Left) (store : Bytes) (table : List ℕ) (out' : Bytes)
    → Ensured c m out r store table out' × Unlent c m out store table out' → Does Ensures c m (answer_of r.answer out') (memory r.session store table)
ensures_all c m out r store table out' e = record { out = out; out' = out'; answer = r.answer; answer_is = refl; says = e }

promises_all : (c : R.Call) (m : Memory) (out : Bytes) (r : Left) (store : Bytes) (table : List ℕ) (out' : Bytes)
    → Promises c m out r store table out' → Does Promises c m (answer_of r.answer out') (memory r.session store table)
promises_all c m out r store table out' p = record { out = out; out' = out'; answer = r.answer; answer_is = refl; says = p }

-- of an opening
pub opens_all : (o : Opening) (b : Beside) (store : Bytes) (table : List ℕ) (r : Opened) (store' : Bytes) (table' : List ℕ)
    → OpenEnsured o b store table r store' table' → r.answer ≡ Ok tt
    → Begins (opening_of o b (length store) (length table)) (memory r.session store' table')
opens_all o b store table r store' table' e a =
    record { opening = o; beside = b; store = store; table = table; opened = r; given = refl; left = refl; ensured = e; accepted = a }

module _ {M : Type 1} {𝓤 : Ura M} (𝓛 : Logic 𝓤) (mem : Machine → SProp 𝓤) (run : Routine → Fun 𝓤) where
  open connectives 𝓤 use {⌜◌⌝}

  -- ---- the host's calls

  open_tied : (κs : Lfts 8) (a : Args open-host.signature κs)
      → (open-host.clauses 𝓛 mem run κs a).ensures ≡ (λ _ r end. ⌜ OpenEnsured a.0 (beside a.1.1.1.0.now a.1.1.1.1.0.now a.1.1.1.1.1.0.now a.1.1.1.1.1.1.0.now a.1.1.1.1.1.1.1.0.now a.1.1.1.1.1.1.1.1.0.now) a.1.0.now a.1.1.0.now r end.1.0.now end.1.1.0.now ⌝)
  open_tied κs a = refl

  append_tied : (κs : Lfts 5) (a : Args append.signature κs)
      → (append.clauses 𝓛 mem run κs a).ensures
      ≡ (λ _ r end. ⌜ Ensured (R.append a.1.1.1.1.0.now (length a.1.1.1.0.now)) (memory a.0.now a.1.0.now a.1.1.0.now) a.1.1.1.0.now (outcome end.0.now r) end.1.0.now end.1.1.0.now end.1.1.1.0.now ⌝)
  append_tied κs a = refl

  flush_tied : (κs : Lfts 4) (a : Args flush.signature κs)
      → (flush.clauses 𝓛 mem run κs a).ensures
      ≡ (λ _ r end. ⌜ Ensured (R.flush (length a.1.1.1.0.now)) (memory a.0.now a.1.0.now a.1.1.0.now) a.1.1.1.0.now (outcome end.0.now r) a.1.0.now end.1.1.0.now end.1.1.1.0.now ⌝)
  flush_tied κs a = refl

  finalise_tied : (κs : Lfts 4) (a : Args finalise.signature κs)
      → (finalise.clauses 𝓛 mem run κs a).ensures
      ≡ (λ _ r end. ⌜ Ensured (R.finalise (length a.1.1.1.0.now)) (memory a.0.now a.1.0.now a.1.1.0.now) a.1.1.1.0.now (outcome end.0.now r) a.1.0.now end.1.1.0.now end.1.1.1.0.now ⌝)
  finalise_tied κs a = refl

  close_tied : (κs : Lfts 1) (a : Args close.signature κs) (store : Bytes) (table : List ℕ) (out : Bytes)
      → (close.clauses 𝓛 mem run κs a).ensures
      ≡ (λ _ r end. ⌜ Ensured R.close (memory a.0.now store table) out (outcome end.0.now r) store table out ⌝)
  close_tied κs a store table out = refl

  response_tied : (κs : Lfts 4) (a : Args response.signature κs) (out : Bytes)
      → (response.clauses 𝓛 mem run κs a).ensures
      ≡ (λ _ r end. ⌜ Ensured (R.response (response_of a.1.1.1.0 a.1.1.1.1.0.now)) (memory a.0.now a.1.0.now a.1.1.0.now) out (outcome end.0.now r) a.1.0.now end.1.1.0.now out ⌝)
  response_tied κs a out = refl

  handshake_tied : (κs : Lfts 4) (a : Args handshake.signature κs) (out : Bytes)
      → (handshake.clauses 𝓛 mem run κs a).ensures
      ≡ (λ _ r end. ⌜ Ensured (R.handshake (response_of a.1.1.1.0 a.1.1.1.1.0.now)) (memory a.0.now a.1.0.now a.1.1.0.now) out (outcome end.0.now r) a.1.0.now end.1.1.0.now out ⌝)
  handshake_tied κs a out = refl

  stream_break_tied : (κs : Lfts 2) (a : Args stream-break.signature κs) (store : Bytes) (table : List ℕ) (out : Bytes)
      → (stream-break.clauses 𝓛 mem run κs a).ensures
      ≡ (λ _ r end. ⌜ Ensured (R.break (break_of a.1.0 a.1.1.0.now)) (memory a.0.now store table) out (outcome end.0.now r) store table out ⌝)
  stream_break_tied κs a store table out = refl

  judge_tied : (κs : Lfts 1) (a : Args judge.signature κs) (store : Bytes) (table : List ℕ) (out : Bytes)
      → (judge.clauses 𝓛 mem run κs a).ensures
      ≡ (λ _ r end. ⌜ Ensured (R.judge a.1.0) (memory a.0.now store table) out (outcome end.0.now r) store table out ⌝)
  judge_tied κs a store table out = refl

  failed_attempt_tied : (κs : Lfts 2) (a : Args failed-attempt.signature κs) (store : Bytes) (table : List ℕ) (out : Bytes)
      → (failed-attempt.clauses 𝓛 mem run κs a).ensures
      ≡ (λ _ r end. ⌜ Ensured (R.failed_attempt (break_of a.1.0 a.1.1.0.now) a.1.1.1.0) (memory a.0.now store table) out (outcome end.0.now r) store table out ⌝)
  failed_attempt_tied κs a store table out = refl

  next-request_tied : (κs : Lfts 4) (a : Args next-request.signature κs)
      → (next-request.clauses 𝓛 mem run κs a).ensures
      ≡ (λ _ r end. ⌜ Ensured (R.next_request (length a.1.1.1.0.now)) (memory a.0.now a.1.0.now a.1.1.0.now) a.1.1.1.0.now (outcome end.0.now r) a.1.0.now a.1.1.0.now end.1.1.1.0.now ⌝)
  next-request_tied κs a = refl

  send_failed_tied : (κs : Lfts 1) (a : Args send-failed.signature κs) (store : Bytes) (table : List ℕ) (out : Bytes)
      → (send-failed.clauses 𝓛 mem run κs a).ensures
      ≡ (λ _ r end. ⌜ Ensured R.send_failed (memory a.0.now store table) out (outcome end.0.now r) store table out ⌝)
  send_failed_tied κs a store table out = refl

  -- ---- the core's

  open_core : (κs : Lfts 8) (a : Args core-open.signature κs)
      → (core-open.clauses 𝓛 mem run κs a).ensures ≡ (λ _ r end. ⌜ Opens a.0 (beside a.1.1.1.0.now a.1.1.1.1.0.now a.1.1.1.1.1.0.now a.1.1.1.1.1.1.0.now a.1.1.1.1.1.1.1.0.now a.1.1.1.1.1.1.1.1.0.now) a.1.0.now a.1.1.0.now r end.1.0.now end.1.1.0.now ⌝)
  open_core κs a = refl

  append_core : (κs : Lfts 4) (a : Args core-append.signature κs)
      → (core-append.clauses 𝓛 mem run κs a).ensures ≡ (λ _ r end. ⌜ Promises (R.append a.1.1.1.1.0.now (length a.1.1.1.0.now)) (memory a.0 a.1.0.now a.1.1.0.now) a.1.1.1.0.now (left a.0 r) end.1.0.now end.1.1.0.now end.1.1.1.0.now ⌝)
  append_core κs a = refl

  flush_core : (κs : Lfts 3) (a : Args core-flush.signature κs)
      → (core-flush.clauses 𝓛 mem run κs a).ensures ≡ (λ _ r end. ⌜ Promises (R.flush (length a.1.1.1.0.now)) (memory a.0 a.1.0.now a.1.1.0.now) a.1.1.1.0.now (left a.0 r) a.1.0.now end.1.1.0.now end.1.1.1.0.now ⌝)
  flush_core κs a = refl

  finalise_core : (κs : Lfts 3) (a : Args core-finalise.signature κs)
      → (core-finalise.clauses 𝓛 mem run κs a).ensures ≡ (λ _ r end. ⌜ Promises (R.finalise (length a.1.1.1.0.now)) (memory a.0 a.1.0.now a.1.1.0.now) a.1.1.1.0.now (left a.0 r) a.1.0.now end.1.1.0.now end.1.1.1.0.now ⌝)
  finalise_core κs a = refl

  close_core : (κs : Lfts 0) (a : Args core-close.signature κs)
      → (core-close.clauses 𝓛 mem run κs a).ensures ≡ (λ _ r end. ⌜ Any R.close a.0 (left a.0 r) ⌝)
  close_core κs a = refl

  response_core : (κs : Lfts 3) (a : Args core-response.signature κs)
      → (core-response.clauses 𝓛 mem run κs a).ensures ≡ (λ _ r end. ⌜ AnyOut (R.response (response_of a.1.1.1.0 a.1.1.1.1.0.now)) (memory a.0 a.1.0.now a.1.1.0.now) (left a.0 r) end.1.1.0.now ⌝)
  response_core κs a = refl

  handshake_core : (κs : Lfts 3) (a : Args core-handshake.signature κs)
      → (core-handshake.clauses 𝓛 mem run κs a).ensures ≡ (λ _ r end. ⌜ AnyOut (R.handshake (response_of a.1.1.1.0 a.1.1.1.1.0.now)) (memory a.0 a.1.0.now a.1.1.0.now) (left a.0 r) end.1.1.0.now ⌝)
  handshake_core κs a = refl

  stream_break_core : (κs : Lfts 1) (a : Args core-stream-break.signature κs)
      → (core-stream-break.clauses 𝓛 mem run κs a).ensures ≡ (λ _ r end. ⌜ Any (R.break (break_of a.1.0 a.1.1.0.now)) a.0 (left a.0 r) ⌝)
  stream_break_core κs a = refl

  judge_core : (κs : Lfts 0) (a : Args core-judge.signature κs)
      → (core-judge.clauses 𝓛 mem run κs a).ensures ≡ (λ _ r end. ⌜ Any (R.judge a.1.0) a.0 (left a.0 r) ⌝)
  judge_core κs a = refl

  failed_attempt_core : (κs : Lfts 1) (a : Args core-failed-attempt.signature κs)
      → (core-failed-attempt.clauses 𝓛 mem run κs a).ensures ≡ (λ _ r end. ⌜ Any (R.failed_attempt (break_of a.1.0 a.1.1.0.now) a.1.1.1.0) a.0 (left a.0 r) ⌝)
  failed_attempt_core κs a = refl

  next-request_core : (κs : Lfts 3) (a : Args core-next-request.signature κs)
      → (core-next-request.clauses 𝓛 mem run κs a).ensures ≡ (λ _ r end. ⌜ Promises (R.next_request (length a.1.1.1.0.now)) (memory a.0 a.1.0.now a.1.1.0.now) a.1.1.1.0.now (left a.0 r) a.1.0.now a.1.1.0.now end.1.1.1.0.now ⌝)
  next-request_core κs a = refl

  send_failed_core : (κs : Lfts 0) (a : Args core-send-failed.signature κs)
      → (core-send-failed.clauses 𝓛 mem run κs a).ensures ≡ (λ _ r end. ⌜ Any R.send_failed a.0 (left a.0 r) ⌝)
  send_failed_core κs a = refl
