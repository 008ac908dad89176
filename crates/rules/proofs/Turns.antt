-- Lists of turns whose calls give what `step` gives are the lists of events that `runs` computes: a claim on the one is a claim on the other.
use mathlib.Core.Path.{◌≡◌, refl, sym, ap, ◌∙◌, subst}
use mathlib.Core.Bool.{Bool, true, false, cond}
use mathlib.Core.Option.{Option, none, some}
use mathlib.Core.List.{List, [], ◌∷◌}
use Rattle.rules.specs.Message.{Response}
use Rattle.rules.specs.Session.{Session, Call, response, handshake, ok, Result, answers}
use Rattle.rules.specs.Step.{step}
use Rattle.rules.specs.Opening.{Opening, opened, opens}
use Rattle.rules.specs.Server.{Stored, says}
use Rattle.rules.specs.World.{World, Event, host_calls, host_hands, host_sends, host_greets, server_takes, server_persists, server_says, link_cuts, after, unprompted, handed_call, call_in, hands_on, with_result, happens, runs, ServerAt, start}
use Rattle.rules.specs.Program.{Turn, Did, turned, AllDid, ran, itself, Steps, AlwaysSteps}

-- ---- a turn whose call gave what `step` gives is the event

hands-same : (ms : List Response) (could keep : Bool) (r : Result) (w : World) → ((c : Call) → handed_call ms ≡ some c → r ≡ step c w.session)
    → hands_on ms could keep (λ _. r) w ≡ hands_on ms could keep (λ c. step c w.session) w
hands-same [] could keep r w h = refl
hands-same (m ∷ rest) could keep r w h = ap (λ (x : Result). hands_on (m ∷ rest) could keep (λ _. x) w) (h (response m) refl)

calls_same : (b : Bool) (c : Call) (could : Bool) (r : Result) (w : World) → ((d : Call) → cond b (some c) none ≡ some d → r ≡ step d w.session)
    → cond b (after c could w r) w ≡ cond b (after c could w (step c w.session)) w
calls_same true c could r w h = ap (λ (x : Result). after c could w x) (h c refl)
calls_same false c could r w h = refl

same : (e : Event) (r : Result) (w : World) → ((c : Call) → call_in e w ≡ some c → r ≡ step c w.session) → with_result e (λ _. r) w ≡ happens e w
unfolding happens
same (host_calls c could) r w h = calls_same (unprompted c) c could r w h
same (host_hands could keep) r w h = hands-same w.server.link.messages could keep r w h
same (host_sends i) r w h = refl
same (host_greets t handle) r w h = ap (λ (x : Result). after (handshake (says (some t) handle w.server.stored)) true w x) (h _ refl)
same (server_takes bytes had) r w h = refl
same (server_persists n) r w h = refl
same (server_says t handle) r w h = refl
same (link_cuts bytes had) r w h = refl

-- ---- the session after a turn is what its call left, or what was there

hands-left : (ms : List Response) (could keep : Bool) (r : Result) (w : World) → (handed_call ms ≡ none → w.session ≡ r.session)
    → (hands_on ms could keep (λ _. r) w).session ≡ r.session
hands-left [] could keep r w h = h refl
hands-left (m ∷ rest) could keep r w h = refl

calls-left : (b : Bool) (c : Call) (could : Bool) (r : Result) (w : World) → (cond b (some c) none ≡ none → w.session ≡ r.session)
    → (cond b (after c could w r) w).session ≡ r.session
calls-left true c could r w h = refl
calls-left false c could r w h = h refl

says-left : (b : Bool) (v w : World) (s : Session) → v.session ≡ s → w.session ≡ s → (cond b v w).session ≡ s
says-left true v w s e f = e
says-left false v w s e f = f

left_is : (e : Event) (r : Result) (w : World) → (call_in e w ≡ none → w.session ≡ r.session) → (with_result e (λ _. r) w).session ≡ r.session
left_is (host_calls c could) r w h = calls-left (unprompted c) c could r w h
left_is (host_hands could keep) r w h = hands-left w.server.link.messages could keep r w h
left_is (host_sends i) r w h = h refl
left_is (host_greets t handle) r w h = refl
left_is (server_takes bytes had) r w h = h refl
left_is (server_persists n) r w h = h refl
left_is (server_says t handle) r w h = says-left w.server.link.alive _ w r.session (h refl) (h refl)
left_is (link_cuts bytes had) r w h = h refl

-- ---- lists

abbrev Turns : Type 0
Turns = List (Turn itself Steps)

abbrev events_of : Turns → List Event
events_of [] = []
events_of (t ∷ ts) = t.event ∷ events_of ts

ran-runs : (ts : Turns) (s : Session) (w : World) → w.session ≡ s → AllDid itself Steps ts s w → ran itself Steps ts w ≡ runs (events_of ts) w
unfolding runs
ran-runs [] s w e d = refl
ran-runs (t ∷ ts) s w e d =
    let r : Result = answers t.answer t.left in
    ran-runs ts t.left (turned itself Steps t w) (left_is t.event r w (λ f. e ∙ sym (d.0.idle f))) d.1
    ∙ ap (runs (events_of ts)) (same t.event r w (λ c f. d.0.called c f ∙ ap (step c) (sym e)))

-- what an event's call gives; without one nobody asks for the answer
abbrev given : Option Call → Session → Result
given none s = answers ok s
given (some c) s = step c s

abbrev turn_of : Event → World → Turn itself Steps
turn_of e w = let r = given (call_in e w) w.session in record { event = e; answer = r.answer; left = r.session }

turn_did : (e : Event) (w : World) → Did itself Steps (turn_of e w) w.session w
turn_did e w = record {
  called = λ c f. ap (λ (o : Option Call). given o w.session) f;
  idle = λ f. ap (λ (o : Option Call). (given o w.session).session) f;
}

-- the turns of a list of events
record TurnsOf (es : List Event) (s : Session) (w : World) : Type 0 where
  turns : Turns
  did : AllDid itself Steps turns s w
  are : ran itself Steps turns w ≡ runs es w

turns_of_lem : (es : List Event) (w : World) → TurnsOf es w.session w
unfolding runs
turns_of_lem [] w = record { turns = []; did = tt; are = refl }
turns_of_lem (e ∷ es) w =
    let t : Turn itself Steps = turn_of e w in
    let r : Result = given (call_in e w) w.session in
    let d : Did itself Steps (turn_of e w) w.session w = turn_did e w in
    let k : TurnsOf es t.left (turned itself Steps (turn_of e w) w)
    = subst (λ (x : Session). TurnsOf es x (turned itself Steps (turn_of e w) w)) (left_is e r w (λ f. sym (d.idle f))) (turns_of_lem es (turned itself Steps (turn_of e w) w)) in
    record { turns = t ∷ k.turns; did = (d, k.did); are = k.are ∙ ap (runs es) (same e r w d.called) }

-- ---- claims

-- Q holds after every list of events that `runs` computes
abbrev pub AlwaysRuns : (Opening → Stored → World → Type 0) → Type 0
AlwaysRuns Q =
    (o : Opening) (s : Session) → opens o ≡ opened s → (k : Stored) → ServerAt o k
    → (es : List Event) → Q o k (runs es (start o s k))

module _ (Q : Opening → Stored → World → Type 0) where
  pub steps_of_runs : AlwaysRuns Q → AlwaysSteps Q
  unfolding start
  steps_of_runs h o s a k v ts d = subst (Q o k) (sym (ran-runs ts s (start o s k) refl d)) (h o s a k v (events_of ts))

  pub runs_of_steps : AlwaysSteps Q → AlwaysRuns Q
  unfolding start
  runs_of_steps h o s a k v es =
      let t : TurnsOf es s (start o s k) = turns_of_lem es (start o s k) in
      subst (Q o k) t.are (h o s a k v t.turns t.did)
