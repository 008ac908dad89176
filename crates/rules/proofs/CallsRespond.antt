-- A message handed on and a handshake keep the invariant.
use mathlib.Core.Path.{◌≡◌, refl, sym, ◌∙◌, subst}
use mathlib.Core.Bool.{Bool, true, false, not, cond, ◌&&◌}
use mathlib.Core.Option.{Option, none, some}
use mathlib.Core.List.{List, [], ◌∷◌}
use Prim.Native.Nat.{ℕ, ◌+◌, ◌≤◌}
use native.Mathlib.Omega.{arith}
use lib.ListN.{length}
use lib.IntN.{ℤ, pos, negsuc}
use lib.Signed.{lt_z}
use borrow.Author.Tests.{ltb-true}
use Rattle.rules.specs.Message.{Bytes, Response, size_of}
use Rattle.rules.specs.Session.{Connector, already_finalized, replay, Session, Call, handshake, Result, set_connector, set_mark, set_worker, is_replay, is_ended, chunks, waiters, ending}
use Rattle.rules.specs.Respond.{ack, satisfied, absorbs, above_end, takes, bare_request, last_step, responds, to_replay, shakes}
use Rattle.rules.specs.Step.{step}
use Rattle.rules.specs.Server.{set_messages, on_link, connects, Told, alone, in_resource, says}
use Rattle.rules.specs.Notes.{shows, accepted, request_in, Brings, largest_of, noted}
use Rattle.rules.specs.World.{World, sending, hands_on}
use Rattle.rules.proofs.Tests.{never, and_right}
use Rattle.rules.proofs.Lists.{cond_ind, choose_ind, unless_ind}
use Rattle.rules.proofs.Inv.{AtLeast, least, Ascends, stock_of, BufferOK, WaitOK, ServerOK, FlowOK, HandedOK, ended_by_size, Inv}
use Rattle.rules.proofs.Server.{ascends_le, ascends_tail, right_bare, handed-none, handed-one, server_sends, server_messages, server_connects, server_below, server_within}
use Rattle.rules.proofs.Flow.{fit_bare, dataless_adds, goal_off, flow_off, flow_ended, flow_sends, flow_messages, flow_connects, flow_refused}
use Rattle.rules.proofs.Wait.{wait_end, wait_phase, wait_zero, wait_serves}
use Rattle.rules.proofs.Buffer.{buffer_acks, replay_off}
use Rattle.rules.proofs.After.{open_not-replay, calls}

-- ---- the world after a stated size o, by a message and by a handshake

-- a response or a handshake with the size o
abbrev saying : Option ℤ → Bool → Brings
saying o greets = record { bytes = none; kind = none; message = true; size = o; handshake = greets; failure = false }

-- kept: the messages if this one is kept, rest: if not
record Stated (from : ℕ) (o : Option ℤ) (kept rest : List Response) (could keep : Bool) (w : World) (r : Result) : Type 0 where
  inv : Inv from (record {
    session = r.session;
    server = on_link (sending could (request_in r.answer)) (on_link (set_messages (cond (keep && not (accepted r.answer)) kept rest)) w.server);
    notes = cond (accepted r.answer) (noted (saying o false) (shows r.answer) w.notes) w.notes;
  })

record Greeted (from : ℕ) (o : Option ℤ) (w : World) (r : Result) : Type 0 where
  inv : Inv from (record {
    session = r.session;
    server = cond (accepted r.answer) (connects w.server) w.server;
    notes = cond (accepted r.answer) (noted (saying o true) (shows r.answer) w.notes) w.notes;
  })

-- the session as a response or a handshake leaves spec and mark
abbrev updated_to : Connector → Session → Session
updated_to c s = set_worker (set_connector c (set_mark false s.worker)) s

-- ---- a size that is neither below P nor past the end

takes_ind : (Q : Result → Type 0) (n : ℤ) (f : Bool) (s : Session) (last : ℕ → ℕ → Session → Result) → (lt_z n s.worker.persisted_size ≡ true → ⊥)
    → (above_end n s ≡ true → ⊥)
    → ((released : ℕ) → Q (ending already_finalized (satisfied n f (waiters s)) released (set_worker (absorbs n f s.worker) s)))
    → ((released : ℕ) → Q (last (satisfied n f (waiters s)) released (set_worker (absorbs n f s.worker) s)))
    → Q (takes (some n) f s last)
unfolding takes
takes_ind Q n f s last l m a b =
    choose_ind Q _ _ _ (λ e. absurd (l e)) (λ _. choose_ind Q _ _ _ (λ e. absurd (m e)) (λ _. choose_ind Q _ _ _ (λ _. a _) (λ _. b _)))

-- for a message and a handshake alike: the size n, in a finalised statement or not
module _ {from : ℕ} (w : World) (i : Inv from w) (n : ℕ) (f : Bool) (up : i.p ≤ n) (within : n ≤ length i.K) (true-final : f ≡ true → w.server.stored.finalised ≡ true) where
  not-below : lt_z (pos n) w.session.worker.persisted_size ≡ true → ⊥
  not-below e = omega (arith, ltb-true n i.p (subst (λ (z : ℤ). lt_z (pos n) z ≡ true) i.buffer.p_is e))

  not_past : above_end (pos n) w.session ≡ true → ⊥
  not_past e = omega (arith, ltb-true (length i.K) n (subst (λ (z : ℤ). lt_z z (pos n) ≡ true) i.buffer.offset_is e))

  since_is : from ≤ n
  since_is = omega (arith, i.since)

  wait_is : WaitOK i.K n w.session.writer.held (absorbs (pos n) f w.session.worker).pending_requests w.session.worker.finalized (is_ended w.session.phase)
      w.notes.marks (w.notes.completed + satisfied (pos n) f (waiters w.session)) w.server.stored.finalised
  wait_is = wait_serves n f up true-final i.wait

  greet_keeps : (c : Connector) → n ≡ length w.server.stored.object → is_ended w.session.phase ≡ false
      → Greeted from (some (pos n)) w (takes (some (pos n)) f (updated_to c w.session) to_replay)
  unfolding ending to_replay
  greet_keeps c size e =
      takes_ind (Greeted from (some (pos n)) w) (pos n) f _ to_replay not-below not_past
      (λ _. record {
        inv = record {
          K = i.K;
          p = n;
          since = since_is;
          steady = refl;
          buffer = buffer_acks n up within i.buffer;
          wait = wait_end wait_is;
          replays = replay_off refl;
          server = connected;
          flow = flow_refused w.server;
          handed = handed-none i.handed;
        };
      })
      (λ _. record {
        inv = record {
          K = i.K;
          p = n;
          since = since_is;
          steady = refl;
          buffer = buffer_acks n up within i.buffer;
          wait = wait_phase e wait_is;
          replays = record { mid = λ _. (refl, refl); end = λ g. never (sym g) };
          server = connected;
          flow = subst (λ (m : ℕ). FlowOK i.K m (replay 0) (ack (pos n) (chunks w.session)) (connects w.server)) (sym size) (flow_connects i.server);
          handed = handed-none i.handed;
        };
      })
    where
      connected : ServerOK i.K n w.session.worker.finalized (connects w.server)
      connected = subst (λ (m : ℕ). ServerOK i.K m w.session.worker.finalized (connects w.server)) (sym size) (server_connects i.server)

-- ---- a handshake

shake_keeps : {from : ℕ} (w : World) (i : Inv from w) (f : Bool) (c : Connector) → (f ≡ true → w.server.stored.finalised ≡ true) → is_ended w.session.phase ≡ false
    → Greeted from (some (pos (length w.server.stored.object))) w
    (takes (some (pos (length w.server.stored.object))) f (updated_to c w.session) to_replay)
shake_keeps w i f c t e = greet_keeps w i (length w.server.stored.object) f (server_below i.server) (server_within i.server) t c refl e

pub handshake_keeps : {from : ℕ} (t : Told) (handle : Option Bytes) (could : Bool) (w : World) → Inv from w → Inv from (calls (handshake (says (some t) handle w.server.stored)) could w)
unfolding step shakes
handshake_keeps {from} alone handle could w i =
    let k : Greeted from (some (pos (length w.server.stored.object))) w (shakes (says (some alone) handle w.server.stored) w.session)
    = unless_ind (Greeted from (some (pos (length w.server.stored.object))) w) w.session _ _ (λ n. record { inv = i }) (λ h. shake_keeps w i _ _ (λ e. never (sym e)) h.0) in
    k.inv
handshake_keeps {from} (in_resource g marked) handle could w i =
    let k : Greeted from (some (pos (length w.server.stored.object))) w (shakes (says (some (in_resource g marked)) handle w.server.stored) w.session)
    = unless_ind (Greeted from (some (pos (length w.server.stored.object))) w) w.session _ _ (λ n. record { inv = i })
    (λ h. shake_keeps w i _ _ (and_right marked w.server.stored.finalised) h.0) in
    k.inv

-- ---- a message

-- an accepted message is not kept
left : (n : ℕ) (kept rest : List Response) (keep : Bool) (high : ℕ) (final : Bool) → Ascends n rest high final → Ascends n (cond (keep && false) kept rest) high final
left n kept rest true high final h = h
left n kept rest false high final h = h

module _ {from : ℕ} (kept rest : List Response) (could keep : Bool) (w : World) where
  -- the last step of a response: a bare flush or not
  last_keeps : (o : Option ℤ) (k released : ℕ) (s : Session) (K : Bytes) (p : ℕ) → from ≤ p
      → BufferOK K p (stock_of s) (record { limit = w.notes.limit; all = w.notes.all; loose = w.notes.loose; largest = largest_of w.notes.largest o })
      → WaitOK K p s.writer.held (waiters s) s.worker.finalized (is_ended s.phase) w.notes.marks (w.notes.completed + k) w.server.stored.finalised
      → ServerOK K p s.worker.finalized (on_link (set_messages (cond (keep && false) kept rest)) w.server)
      → FlowOK K p s.phase (chunks s) (on_link (set_messages (cond (keep && false) kept rest)) w.server)
      → HandedOK K s.worker.finalized w.notes.handed
      → is_replay s.phase ≡ false → is_ended s.phase ≡ false → ended_by_size s.phase ≡ false
      → Stated from o kept rest could keep w (last_step k released s)
  unfolding last_step
  last_keeps o k released s K p from-p b q v fl hd r e st =
      choose_ind (Stated from o kept rest could keep w) _ _ _
      (λ _. record {
        inv = record {
          K = K;
          p = p;
          since = from-p;
          buffer = b;
          steady = st;
          replays = replay_off r;
          wait = q;
          server = server_sends could (some (bare_request s)) (right_bare (bare_request s) refl refl) v;
          flow = flow_sends could (bare_request s) K e (goal_off p (chunks s) s.phase r) (fit_bare (bare_request s) refl refl)
              (dataless_adds K none refl ∙ sym (goal_off p (chunks s) s.phase r)) fl;
          handed = handed-one (bare_request s) (right_bare (bare_request s) refl refl) hd;
        };
      })
      (λ _. record {
        inv = record {
          K = K;
          p = p;
          since = from-p;
          buffer = b;
          wait = q;
          replays = replay_off r;
          server = v;
          flow = fl;
          handed = handed-none hd;
          steady = st;
        };
      })

  -- no size
  silent_keeps : (i : Inv from w) (f : Bool) (c : Connector) → Ascends i.p rest (length w.server.stored.object) w.server.stored.finalised
      → is_replay w.session.phase ≡ false → is_ended w.session.phase ≡ false → Stated from none kept rest could keep w (takes none f (updated_to c w.session) last_step)
  unfolding takes
  silent_keeps i f c h r e =
      last_keeps none 0 0 (updated_to c w.session) i.K i.p i.since i.buffer (wait_zero i.wait) (server_messages _ (left i.p kept rest keep _ _ h) i.server) (flow_messages _ i.flow)
      i.handed r e i.steady

  -- a size
  size_keeps : (i : Inv from w) (n : ℕ) (f : Bool) (c : Connector) → i.p ≤ n → (f ≡ true → w.server.stored.finalised ≡ true)
      → Ascends n rest (length w.server.stored.object) w.server.stored.finalised → is_replay w.session.phase ≡ false → is_ended w.session.phase ≡ false
      → Stated from (some (pos n)) kept rest could keep w (takes (some (pos n)) f (updated_to c w.session) last_step)
  unfolding ending
  size_keeps i n f c l t h r e =
      takes_ind (Stated from (some (pos n)) kept rest could keep w) (pos n) f (updated_to c w.session) last_step (not-below w i n f l within t) (not_past w i n f l within t)
      (λ _. record {
        inv = record {
          K = i.K;
          p = n;
          since = since_is w i n f l within t;
          steady = refl;
          buffer = buffer_acks n l within i.buffer;
          wait = wait_end (wait_is w i n f l within t);
          replays = replay_off refl;
          server = server_is;
          flow = flow_ended (flow_messages _ i.flow);
          handed = handed-none i.handed;
        };
      })
      (λ _. last_keeps (some (pos n)) _ _ (set_worker (absorbs (pos n) f (updated_to c w.session).worker) (updated_to c w.session)) i.K n (since_is w i n f l within t)
      (buffer_acks n l within i.buffer) (wait_is w i n f l within t) server_is (flow_off e r r (flow_messages _ i.flow)) i.handed r e i.steady)
    where
      within : n ≤ length i.K
      within = omega (arith, ascends_le rest n (length w.server.stored.object) w.server.stored.finalised h, server_within i.server)

      server_is : ServerOK i.K n w.session.worker.finalized (on_link (set_messages (cond (keep && false) kept rest)) w.server)
      server_is = server_messages _ (left n kept rest keep _ _ h) i.server

  stated_keeps : (i : Inv from w) (o : Option ℤ) (f : Bool) (c : Connector) → AtLeast i.p o → (f ≡ true → w.server.stored.finalised ≡ true)
      → Ascends (least i.p o) rest (length w.server.stored.object) w.server.stored.finalised → is_replay w.session.phase ≡ false → is_ended w.session.phase ≡ false
      → Stated from o kept rest could keep w (takes o f (updated_to c w.session) last_step)
  stated_keeps i none f c l t h r e = silent_keeps i f c h r e
  stated_keeps i (some (pos n)) f c l t h r e = size_keeps i n f c l t h r e
  stated_keeps i (some (negsuc n)) f c l t h r e = absurd l

-- the host hands on the next message
pub hands_keeps : {from : ℕ} (ms : List Response) (could keep : Bool) (w : World) (i : Inv from w) → Ascends i.p ms (length w.server.stored.object) w.server.stored.finalised
    → Inv from (hands_on ms could keep (λ (c : Call). step c w.session) w)
unfolding step responds
hands_keeps [] could keep w i h = i
hands_keeps {from} (m ∷ rest) could keep w i h =
    let k : Stated from (size_of m.write_status) (m ∷ rest) rest could keep w (responds m w.session)
    = unless_ind (Stated from (size_of m.write_status) (m ∷ rest) rest could keep w) w.session _ _ (λ n. record { inv = refused })
    (λ t. stated_keeps (m ∷ rest) rest could keep w i (size_of m.write_status) _ _ h.0 h.1 h.2 (open_not-replay w.session.phase t.1.0) t.0) in
    k.inv
  where
    low : Ascends i.p (cond (keep && true) (m ∷ rest) rest) (length w.server.stored.object) w.server.stored.finalised
    low = cond_ind (λ (ms : List Response). Ascends i.p ms (length w.server.stored.object) w.server.stored.finalised) (keep && true) (λ _. h) (λ _. ascends_tail m rest i.p _ _ h)

    refused : Inv from (record { session = w.session; server = on_link (set_messages (cond (keep && true) (m ∷ rest) rest)) w.server; notes = w.notes })
    refused = record {
      K = i.K;
      p = i.p;
      since = i.since;
      buffer = i.buffer;
      wait = i.wait;
      replays = i.replays;
      handed = i.handed;
      steady = i.steady;
      server = server_messages _ low i.server;
      flow = flow_messages _ i.flow;
    }
