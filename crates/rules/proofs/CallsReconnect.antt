-- Close, a send reported failed, a break, a verdict and a failed attempt keep the invariant.
use mathlib.Core.Path.{◌≡◌, refl}
use mathlib.Core.Bool.{Bool, false, cond, ◌&&◌, ◌||◌}
use mathlib.Core.Option.{Option, none, some}
use Prim.Native.Nat.{ℕ}
use lib.Dec.{ltb, eqb}
use Rattle.rules.specs.Limits.{max_redirects}
use Rattle.rules.specs.Message.{Break, redirect_in, is_redirect, is_end}
use Rattle.rules.specs.Session.{Connector, Cause, finished, stream_error, Phase, closing, connecting, verdict, nothing, close, send_failed, break, judge, failed_attempt, ok, set_connector, set_mark, set_worker, set_phase, is_replay, is_ended, ending}
use Rattle.rules.specs.Upload.{closes}
use Rattle.rules.specs.Reconnect.{breaks, judges, fails, rerouted, on_redirect, ruling, ruled}
use Rattle.rules.specs.Replay.{unsent}
use Rattle.rules.specs.Step.{step}
use Rattle.rules.specs.Notes.{shows, plain, noted}
use Rattle.rules.specs.World.{World}
use Rattle.rules.proofs.Lists.{cond_ind, choose_ind, unless_ind}
use Rattle.rules.proofs.Inv.{is_by_size, ended_by_size, Inv}
use Rattle.rules.proofs.Server.{handed-none, server_loses}
use Rattle.rules.proofs.Flow.{flow_off, flow_ended, flow_loses}
use Rattle.rules.proofs.Wait.{wait_end, wait_phase, wait_zero}
use Rattle.rules.proofs.Buffer.{replay_off}
use Rattle.rules.proofs.After.{Other, Unsent, not_at, open_not-replay, replay-over, over_steady, calls}

-- the session goes on in another phase, neither of them a replay
quiet : {from : ℕ} {w : World} (ph : Phase) (mark : Bool) (c : Connector) → is_ended w.session.phase ≡ false → is_replay w.session.phase ≡ false
    → is_replay ph ≡ false → ended_by_size ph ≡ false → Inv from w
    → Inv from (record { session = set_phase ph nothing (set_worker (set_connector c (set_mark mark w.session.worker)) w.session); server = w.server; notes = noted plain (shows ok) w.notes })
quiet {w} ph mark c e f g h i = record {
  K = i.K;
  p = i.p;
  since = i.since;
  buffer = i.buffer;
  server = i.server;
  steady = h;
  wait = wait_zero (wait_phase e i.wait);
  replays = replay_off g;
  flow = flow_off e f g i.flow;
  handed = handed-none i.handed;
}

-- the session ends
quiet_ends : {from : ℕ} (could : Bool) (w : World) (cause : Cause) (c : Connector) → is_by_size cause ≡ false → Inv from w
    → Other from could w (ending cause 0 0 (set_worker (set_connector c w.session.worker) w.session))
unfolding ending
quiet_ends could w cause c h i = record {
  inv = record {
    K = i.K;
    p = i.p;
    since = i.since;
    buffer = i.buffer;
    server = i.server;
    steady = h;
    wait = wait_zero (wait_end i.wait);
    replays = replay_off refl;
    flow = flow_ended i.flow;
    handed = handed-none i.handed;
  };
}

pub close_keeps : {from : ℕ} (could : Bool) (w : World) → Inv from w → Inv from (calls close could w)
unfolding step closes
close_keeps {from} could w i =
    let k : Other from could w (closes w.session) = unless_ind (Other from could w) w.session _ _ (λ n. record { inv = i })
    (λ h. record { inv = quiet closing _ _ h.0 (not_at 1 4 w.session.phase refl h.1.0) refl refl i }) in
    k.inv

pub unsent_keeps : {from : ℕ} (could : Bool) (w : World) → Inv from w → Inv from (calls send_failed could w)
unfolding step unsent
unsent_keeps {from} could w i =
    let k : Unsent from w (unsent w.session) = unless_ind (Unsent from w) w.session _ _ (λ n. record { inv = i })
    (λ h. record {
      inv = record {
        K = i.K;
        p = i.p;
        since = i.since;
        buffer = i.buffer;
        server = server_loses i.server;
        steady = over_steady w.session.phase i.steady;
        wait = wait_zero (wait_phase h.0 i.wait);
        replays = replay_off (replay-over w.session.phase);
        flow = flow_loses w.server;
        handed = handed-none i.handed;
      };
    }) in
    k.inv

-- ---- verdicts

abbrev pub Steady : Option Cause → Type 0
Steady none = Unit {0}
Steady (some c) = is_by_size c ≡ false

pub ruling_steady : (redirect : Bool) (followed v : ℕ) → Steady (ruling redirect followed v)
ruling_steady redirect followed v =
    cond_ind Steady (eqb v 4) (λ _. refl)
    (λ _. cond_ind Steady (redirect && ltb followed max_redirects) (λ _. tt)
    (λ _. cond_ind Steady (eqb v 2) (λ _. refl)
    (λ _. cond_ind Steady (redirect || eqb v 3) (λ _. refl) (λ _. tt))))

ruled_keeps : {from : ℕ} (o : Option Cause) (could : Bool) (w : World) (c : Connector) → Steady o → is_ended w.session.phase ≡ false → is_replay w.session.phase ≡ false
    → Inv from w → Other from could w (ruled o (set_worker (set_connector c w.session.worker) w.session))
unfolding ruled
ruled_keeps none could w c t e f i = record { inv = quiet connecting _ c e f refl refl i }
ruled_keeps (some cause) could w c t e f i = quiet_ends could w cause c t i

pub judge_keeps : {from : ℕ} (v : ℕ) (could : Bool) (w : World) → Inv from w → Inv from (calls (judge v) could w)
unfolding step judges
judge_keeps {from} v could w i =
    let k : Other from could w (judges v w.session) = unless_ind (Other from could w) w.session _ _ (λ n. record { inv = i })
    (λ h. ruled_keeps _ could w _ (ruling_steady (on_redirect w.session.phase) w.session.worker.connector.counters.redirects_followed v) h.0 (not_at 2 4 w.session.phase refl h.1.0) i) in
    k.inv

pub failed_keeps : {from : ℕ} (b : Break) (v : ℕ) (could : Bool) (w : World) → Inv from w → Inv from (calls (failed_attempt b v) could w)
unfolding step fails
failed_keeps {from} b v could w i =
    let k : Other from could w (fails b v w.session) = unless_ind (Other from could w) w.session _ _ (λ n. record { inv = i })
    (λ h. ruled_keeps _ could w _ (ruling_steady (is_redirect b) (rerouted (redirect_in b) w.session.worker.connector).counters.redirects_followed v) h.0 (not_at 3 4 w.session.phase refl h.1.0) i) in
    k.inv

-- ---- a break

pub ends_steady : (b : Bool) → is_by_size (cond b finished stream_error) ≡ false
ends_steady b = cond_ind (λ (c : Cause). is_by_size c ≡ false) b (λ _. refl) (λ _. refl)

pub break_keeps : {from : ℕ} (b : Break) (could : Bool) (w : World) → Inv from w → Inv from (calls (break b) could w)
unfolding step breaks
break_keeps {from} b could w i =
    let k : Other from could w (breaks b w.session) = unless_ind (Other from could w) w.session _ _ (λ n. record { inv = i })
    (λ h. choose_ind (Other from could w) _ _ _ (λ e. quiet_ends could w finished w.session.worker.connector refl i)
    (λ e. choose_ind (Other from could w) _ _ _ (λ f. quiet_ends could w _ w.session.worker.connector (ends_steady (is_end b)) i)
    (λ f. record { inv = quiet (verdict _) false _ h.0 (open_not-replay w.session.phase h.1.0) refl refl i }))) in
    k.inv
