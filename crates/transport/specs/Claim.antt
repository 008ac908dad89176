-- The claims about the core: of each call only the promise is known that its `ensures` cites.
use Rattle.std.specs.Prelude.{◌≡◌, List, ℕ, ◌+◌, ◌-◌, ◌≤◌}
use Rattle.rules.specs.Message.{Bytes}
use Rattle.rules.specs.Session as R
use Rattle.rules.specs.Opening.{Opening, opened, opens}
use Rattle.rules.specs.Server.{Stored}
use Rattle.rules.specs.World.{World}
use Rattle.rules.specs.Program as rule
use Rattle.rules.specs.Calls.{Run, CallTurn, AllDidCall, left_by, AlwaysDidCall}
use Rattle.transport.specs.View.{Left, view, answer_of}
use Rattle.transport.specs.Valid.{Valid}
use Rattle.transport.specs.Promise.{Promise}
use Rattle.transport.specs.declared.Session.{Session}
use Rattle.std.specs.declared.result.Result.{Result}
use Rattle.bidi_write.specs.declared.Refusal.{Refusal}
use Rattle.transport.specs.declared.Answer.{Answer}

-- the session record with the contents of the lent store and table: "each call gets session, store and table as the last left them; nobody else writes these"
pub record Memory : Type 0 where
  pub session : Session
  pub store : Bytes
  pub table : List ℕ

abbrev pub view_of : Memory → R.Session
view_of m = view m.session m.store m.table

abbrev pub ValidAt : Memory → Type 0
ValidAt m = Valid m.session m.store m.table

-- Says: what is said of a call, from the memory and the out buffer that it was lent to the session and answer and to the store, table and out buffer as it left them
module _ (Says : R.Call → Memory → Bytes → Left → Bytes → List ℕ → Bytes → Type 0) where
  -- so it is said of a call that answered a and left m', with some out buffer
  pub record Does (c : R.Call) (m : Memory) (a : R.Answer) (m' : Memory) : Type 0 where
    pub out : Bytes
    pub out' : Bytes
    pub answer : Result Answer Refusal
    pub answer_is : answer_of answer out' ≡ a
    pub says : Says c m out (record { session = m'.session; answer = answer }) m'.store m'.table out'

abbrev pub Promises : R.Call → Memory → Bytes → Left → Bytes → List ℕ → Bytes → Type 0
Promises c m out r store table out' = Promise c m.session m.store m.table out r store table out'

-- an accepted opening
pub record Begins (o : Opening) (m : Memory) : Type 0 where
  pub valid : ValidAt m
  pub opens_is : opens o ≡ opened (view_of m)

abbrev pub Always : (Opening → Stored → World → Type 0) → Type 0
Always Q = rule.Always view_of (Does Promises) Begins Q

abbrev pub AlwaysCalled : (Run → Run → Type 0) → Type 0
AlwaysCalled Q = AlwaysDidCall view_of (Does Promises) Begins Q

-- "For any input stored never exceeds capacity + C − 1.", by the numbers of the record. Begins': what is said of the opening
abbrev pub StoredBound : (R.Call → Memory → R.Answer → Memory → Type 0) → (Opening → Memory → Type 0) → Type 0
StoredBound Does' Begins' =
    (o : Opening) (m : Memory) → Begins' o m → (ts : List (CallTurn view_of Does')) → AllDidCall view_of Does' ts m
    → (left_by view_of Does' ts m).session.worker.replay_buffer.unpersisted_bytes ≤ m.session.worker.replay_buffer.capacity + m.session.limit - 1
