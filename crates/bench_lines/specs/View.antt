-- An opening's answer as a call's answer.
use Rattle.rules.specs.Session as R
use Rattle.bidi_write.specs.Refusal.{number_of}
use Rattle.std.specs.declared.result.Result.{Result}
use Rattle.std.specs.Prelude.{Ok, Err}
use Rattle.bidi_write.specs.declared.Refusal.{Refusal}

-- an opening's answer as a call's
abbrev pub open_answer_of : Result (Unit {0}) Refusal → R.Answer
open_answer_of (Err x) = R.refused (number_of x)
open_answer_of (Ok tt) = R.ok
