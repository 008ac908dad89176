-- The claims: from an accepted opening, under the server rules at opening, after every list of turns. A turn is an event with what its call answered and
-- left; the world is made from that, and of the call only its contract is known. The rules, the core and the host's calls have each their contract.
use Rattle.std.specs.Prelude.{◌≡◌, ◌∷◌}
use Rattle.rules.specs.Basics.{none, some, List, []}
use Rattle.rules.specs.Session.{Session, Call, Answer, answers}
use Rattle.rules.specs.Step.{step}
use Rattle.rules.specs.Opening.{Opening, opened, opens}
use Rattle.rules.specs.Server.{Stored}
use Rattle.rules.specs.World.{World, Event, call_in, with_result, ServerAt, start}

-- S: what the calls are lent. Does c s a s': what the contract of c says, from s to the answer a and s'
module _ {S : Type 0} (view : S → Session) (Does : Call → S → Answer → S → Type 0) where
  pub record Turn : Type 0 where
    pub event : Event
    pub answer : Answer
    pub left : S

  pub record Did (t : Turn) (s : S) (w : World) : Type 0 where  -- its call did as its contract says, and nothing else touches the session
    pub called : (c : Call) → call_in t.event w ≡ some c → Does c s t.answer t.left
    pub idle : call_in t.event w ≡ none → t.left ≡ s

  abbrev pub turned : Turn → World → World
  turned t w = with_result t.event (λ _. answers t.answer (view t.left)) w

  abbrev pub AllDid : List Turn → S → World → Type 0
  AllDid [] s w = Unit {0}
  AllDid (t ∷ ts) s w = Did t s w × AllDid ts t.left (turned t w)

  abbrev pub ran : List Turn → World → World
  ran [] w = w
  ran (t ∷ ts) w = ran ts (turned t w)

  -- Q holds after every such list. Begins o s: what the contract of an accepted opening o says of what it left
  abbrev pub Always : (Opening → S → Type 0) → (Opening → Stored → World → Type 0) → Type 0
  Always Begins Q =
      (o : Opening) (s : S) → Begins o s → (k : Stored) → ServerAt o k
      → (ts : List Turn) → AllDid ts s (start o (view s) k) → Q o k (ran ts (start o (view s) k))

-- ---- the rules: each call gives what `step` gives

abbrev pub itself : Session → Session
itself s = s

abbrev pub Steps : Call → Session → Answer → Session → Type 0
Steps c s a s' = answers a s' ≡ step c s

abbrev pub AlwaysSteps : (Opening → Stored → World → Type 0) → Type 0
AlwaysSteps Q = Always itself Steps (λ o s. opens o ≡ opened s) Q
