-- What a list of append lengths needed, by the numbers of the session's record.
use Rattle.std.specs.Prelude.{◌≡◌, List, ℕ}
use Rattle.std.proofs.Math.Option.{some}
use Rattle.rules.specs.Session as R
use Rattle.rules.specs.Opening as O
use Rattle.rules.specs.Calls.{CallTurn, AllDidCall, left_by}
use Rattle.plan_rules.specs.Plan.{Plan, Driven, begins, planned}
use Rattle.plan_rules.specs.Claims.{Plain, driven_by}
use Rattle.transport.specs.Claim.{Memory, view_of}
use Rattle.transport.specs.declared.Session.{Session}

-- "what the session itself would show": chunks, stored and held bytes as the record has them, and the calls made
abbrev pub needed : Session → Driven → Plan
needed s d = record {
  chunks = s.worker.replay_buffer.chunks;
  stored = s.worker.replay_buffer.unpersisted_bytes;
  held = s.held;
  appends = d.appends;
  flushes = d.flushes;
}

-- for any calls that are made for a list and of which none is refused. Does, Begins: what is known of a call and of the opening
abbrev pub AlwaysPlanned : (R.Call → Memory → R.Answer → Memory → Type 0) → (O.Opening → Memory → Type 0) → Type 0
AlwaysPlanned Does Begins =
    (o : O.Opening) (m : Memory) → Begins o m → Plain o (view_of m) → (ts : List (CallTurn view_of Does)) → AllDidCall view_of Does ts m
    → (ls : List ℕ) (d : Driven) → driven_by view_of Does ts ls (begins (view_of m)) ≡ some d
    → planned o.limit ls ≡ some (needed (left_by view_of Does ts m).session d)
