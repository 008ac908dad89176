-- What every call keeps of a run, every list of calls keeps, and every list of events of a world, whose calls are calls.
use mathlib.Core.Bool.{Bool}
use mathlib.Core.List.{List, [], ◌∷◌}
use Rattle.rules.specs.Message.{Response}
use Rattle.rules.specs.Session.{Call, response}
use Rattle.rules.specs.Step.{step}
use Rattle.rules.specs.World.{World, Event, host_calls, host_hands, host_sends, host_greets, server_takes, server_persists, server_says, link_cuts, unprompted, hands_on, happens, runs}
use Rattle.rules.specs.Calls.{Run, called, called_all}
use Rattle.rules.proofs.Lists.{cond_ind}

abbrev pub run_of : World → Run
run_of w = record { session = w.session; notes = w.notes }

module _ (Q : Run → Type 0) (keeps : (c : Call) (r : Run) → Q r → Q (called c (step c r.session) r)) where
  pub calls_kept : (cs : List Call) (r : Run) → Q r → Q (called_all cs r)
  unfolding called_all
  calls_kept [] r i = i
  calls_kept (c ∷ cs) r i = calls_kept cs _ (keeps c r i)

  abbrev In : World → Type 0
  In w = Q (run_of w)

  hands_kept : (ms : List Response) (could keep : Bool) (w : World) → In w → In (hands_on ms could keep (λ c. step c w.session) w)
  hands_kept [] could keep w i = i
  hands_kept (m ∷ rest) could keep w i = keeps (response m) (run_of w) i

  happens_kept : (e : Event) (w : World) → In w → In (happens e w)
  unfolding happens
  happens_kept (host_calls c could) w i = cond_ind In (unprompted c) (λ _. keeps c (run_of w) i) (λ _. i)
  happens_kept (host_hands could keep) w i = hands_kept w.server.link.messages could keep w i
  happens_kept (host_sends n) w i = i
  happens_kept (host_greets t handle) w i = keeps _ (run_of w) i
  happens_kept (server_takes bytes had) w i = i
  happens_kept (server_persists n) w i = i
  happens_kept (server_says t handle) w i = cond_ind In w.server.link.alive (λ _. i) (λ _. i)
  happens_kept (link_cuts bytes had) w i = i

  pub runs_kept : (es : List Event) (w : World) → In w → In (runs es w)
  unfolding runs
  runs_kept [] w i = i
  runs_kept (e ∷ es) w i = runs_kept es (happens e w) (happens_kept e w i)
