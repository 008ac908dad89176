-- Each event keeps the invariant.
use mathlib.Core.Path.{◌≡◌, sym}
use mathlib.Core.Bool.{Bool, true}
use mathlib.Core.Option.{Option, some}
use mathlib.Core.List.{List, [], ◌∷◌}
use Prim.Native.Nat.{ℕ}
use lib.ListN.{get_elem?}
use Rattle.rules.specs.Message.{Request}
use Rattle.rules.specs.Session.{Call, append, flush, finalise, next_request, close, send_failed, response, handshake, break, judge, failed_attempt, chunks}
use Rattle.rules.specs.Server.{Server, carries, on_link, cut_off}
use Rattle.rules.specs.World.{World, Event, host_calls, host_hands, host_sends, host_greets, server_takes, server_persists, server_says, link_cuts, on_line, resends, unprompted, happens, runs}
use Rattle.rules.proofs.Tests.{never}
use Rattle.rules.proofs.Lists.{cond_ind, opt_ind, all_get}
use Rattle.rules.proofs.Inv.{ServerOK, FlowOK, Inv}
use Rattle.rules.proofs.Server.{says_ascends, server_sends, server_loses, server_messages, server_cut, server_persists_lem, server_takes_lem, takes-final}
use Rattle.rules.proofs.Flow.{flow_loses, flow_messages, flow_persists, flow_takes}
use Rattle.rules.proofs.Wait.{wait_final}
use Rattle.rules.proofs.After.{calls}
use Rattle.rules.proofs.CallsUpload.{append_keeps, flush_keeps, finalise_keeps}
use Rattle.rules.proofs.CallsRespond.{hands_keeps, handshake_keeps}
use Rattle.rules.proofs.CallsReconnect.{close_keeps, unsent_keeps, break_keeps, judge_keeps, failed_keeps}
use Rattle.rules.proofs.CallsReplay.{next_keeps}

call_keeps : {from : ℕ} (c : Call) (could : Bool) (w : World) → unprompted c ≡ true → Inv from w → Inv from (calls c could w)
call_keeps (append d out) could w f i = append_keeps d out could w i
call_keeps (flush out) could w f i = flush_keeps out could w i
call_keeps (finalise out) could w f i = finalise_keeps out could w i
call_keeps (next_request out) could w f i = next_keeps out could w i
call_keeps close could w f i = close_keeps could w i
call_keeps send_failed could w f i = unsent_keeps could w i
call_keeps (response m) could w f i = never (sym f)
call_keeps (handshake m) could w f i = never (sym f)
call_keeps (break b) could w f i = break_keeps b could w i
call_keeps (judge v) could w f i = judge_keeps v could w i
call_keeps (failed_attempt b v) could w f i = failed_keeps b v could w i

-- the server or the connection changes
on_server_lem : {from : ℕ} {w : World} (v : Server) (i : Inv from w) → (w.server.stored.finalised ≡ true → v.stored.finalised ≡ true)
    → ServerOK i.K i.p w.session.worker.finalized v → FlowOK i.K i.p w.session.phase (chunks w.session) v
    → Inv from (record { session = w.session; server = v; notes = w.notes })
on_server_lem v i f s l = record {
  K = i.K;
  p = i.p;
  since = i.since;
  buffer = i.buffer;
  wait = wait_final f i.wait;
  replays = i.replays;
  server = s;
  flow = l;
  handed = i.handed;
  steady = i.steady;
}

pub keeps : {from : ℕ} (e : Event) (w : World) → Inv from w → Inv from (happens e w)
unfolding happens
keeps {from} (host_calls c could) w i = cond_ind (Inv from) (unprompted c) (λ f. call_keeps c could w f i) (λ f. i)
keeps (host_hands could keep) w i = hands_keeps w.server.link.messages could keep w i i.server.messages
keeps {from} (host_sends n) w i =
    opt_ind (λ (o : Option Request). Inv from (on_line (resends o) w)) (get_elem? w.notes.handed n) (λ _. i)
    (λ r e. on_server_lem _ i (λ f. f) (server_loses (server_sends true (some r) (all_get _ w.notes.handed n r i.handed.right e) i.server))
    (flow_loses (on_link (carries r) w.server)))
keeps (host_greets t handle) w i = handshake_keeps t handle true w i
keeps (server_takes bytes had) w i =
    on_server_lem _ i (takes-final w.server.link.requests bytes had w.server) (server_takes_lem w.server.link.requests bytes had i.server.requests i.server) (flow_takes bytes had i.flow)
keeps (server_persists n) w i = on_server_lem _ i (λ e. e) (server_persists_lem n i.server) (flow_persists n i.flow)
keeps {from} (server_says t handle) w i =
    cond_ind (Inv from) w.server.link.alive
    (λ _. on_server_lem _ i (λ e. e) (server_messages _ (says_ascends t handle i.p w.server i.server.messages) i.server) (flow_messages _ i.flow))
    (λ _. i)
keeps (link_cuts bytes had) w i = on_server_lem _ i (λ e. e) (server_loses (server_cut bytes had i.server)) (flow_loses (cut_off bytes had w.server))

pub runs_keep : {from : ℕ} (es : List Event) (w : World) → Inv from w → Inv from (runs es w)
unfolding runs
runs_keep [] w i = i
runs_keep (e ∷ es) w i = runs_keep es (happens e w) (keeps e w i)
