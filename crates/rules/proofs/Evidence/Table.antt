-- Tables of what the rules give and what document 01 says, and what their rows look at. Met by computing: `unfolding computed`.
use mathlib.Core.Path.{◌≡◌}
use mathlib.Core.Option.{Option, none, some}
use mathlib.Core.List.{List, [], ◌∷◌}
use Prim.Native.Nat.{ℕ}
use lib.IntN.{pos}
use Rattle.rules.specs.Message.{Break, status}
use Rattle.rules.specs.Session.{Session, Call, Answer}
use Rattle.rules.specs.Step.{step}
use Rattle.rules.specs.Opening.{Opened, turned_away, opened, opens}
use Rattle.rules.specs.Bench.{opening}

-- a row's number, what the rules give, what document 01 says
pub record Row : Type 1 where
  pub label : ℕ
  pub kind : Type 0
  pub given : kind
  pub stated : kind

abbrev pub row : ℕ → {A : Type 0} → A → A → Row
row n {A} given stated = record { label = n; kind = A; given = given; stated = stated }

abbrev pub Met : Row → Type 0
Met r = r.given ≡ r.stated

-- the session after the calls
abbrev pub after_calls : List Call → Session → Session
after_calls [] s = s
after_calls (c ∷ cs) s = after_calls cs (step c s).session

-- what is seen of the session after the calls; none where the opening is refused
abbrev pub after : {A : Type 0} → Opened → List Call → (Session → A) → Option A
after (turned_away n) cs see = none
after (opened s) cs see = some (see (after_calls cs s))

-- the answer to the call c
abbrev pub to : Call → Session → Answer
to c s = (step c s).answer

-- C 4, capacity 9, and P
abbrev pub at : ℕ → Opened
at p = opens (opening 4 9 (pos p) none)

abbrev pub redirection : Break
redirection = status 10 (some [])
