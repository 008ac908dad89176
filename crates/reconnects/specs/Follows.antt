-- A call past its refusals: what a rule says of the rest.
use Rattle.std.specs.Prelude.{◌≡◌, Bool, false, cond, List, ℕ}
use Rattle.std.specs.Prelude.{Ok}
use Rattle.rules.specs.Message.{Bytes}
use Rattle.rules.specs.Session as R
use Rattle.rules.specs.Reconnect.{ruling, counted, ruled}
use Rattle.connector.specs.declared.Connector.{Connector}
use Rattle.transport.specs.View.{view, answer_of}
use Rattle.transport.specs.Valid.{Valid}
use Rattle.transport.specs.Promise.{Quiet}
use Rattle.transport.specs.Parts.{renewed}
use Rattle.transport.specs.declared.Answer.TheVariants as answer
use Rattle.transport.specs.declared.Outcome.{Outcome}
use Rattle.transport.specs.declared.Phase.TheVariants as phase
use Rattle.transport.specs.declared.Sent.TheVariants as sent
use Rattle.transport.specs.declared.Session.{Session}

-- r answers and leaves what the rule says, refuses nothing and sends no data
pub record Follows (rule : R.Session → R.Result) (s : Session) (r : Outcome) : Type 0 where
  pub quiet : Quiet (Ok r.answer)
  pub steps : (store : Bytes) (table : List ℕ) (out : Bytes) → Valid s store table
      → R.answers (answer_of (Ok r.answer) out) (view r.session store table) ≡ rule (view s store table)
  pub stays : (store : Bytes) (table : List ℕ) → Valid s store table → Valid r.session store table

-- a verdict on a redirect or not, as the rules count and rule it
abbrev pub judged : Bool → ℕ → R.Session → R.Result
judged redirect verdict v =
    let c = v.worker.connector in
    ruled (ruling redirect c.counters.redirects_followed verdict) (R.set_worker (R.set_connector (counted redirect c) v.worker) v)

-- after a break: the mark is cleared, and a redirect answers 0
abbrev pub awaits : Connector → Bool → Session → Outcome
awaits c redirect s = record {
  session = renewed c false (phase.Verdict redirect) sent.Nothing s;
  answer = answer.Attempt (cond redirect 0 c.attempt_count);
}
