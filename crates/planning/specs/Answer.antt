-- What the code of a plan answers, as the rules have it.
use Rattle.std.specs.Prelude.{◌^◌, ◌<◌, Ok, Err}
use Rattle.plan_rules.specs.Plan.{Plan, Answered, refuses, needs}
use Rattle.bidi_write.specs.Refusal.{number_of}
use Rattle.bidi_write.specs.declared.Refusal.{Refusal}
use Rattle.planning.specs.declared.Needs.{Needs}
use Rattle.std.specs.declared.result.Result.{Result}

abbrev pub plan_of : Needs → Plan
plan_of n = record { chunks = n.chunks; stored = n.stored; held = n.held; appends = n.appends; flushes = n.flushes }

abbrev pub answer_of : Result Needs Refusal → Answered
answer_of (Err x) = refuses (number_of x)
answer_of (Ok n) = needs (plan_of n)

-- of inner functions: an entry more overflows none of the numbers
pub record Roomy (p : Plan) : Type 0 where
  pub chunks : p.chunks < 2 ^ 63
  pub stored : p.stored < 2 ^ 63
  pub held : p.held < 2 ^ 62
  pub appends : p.appends < 2 ^ 63
  pub flushes : p.flushes < 2 ^ 63
