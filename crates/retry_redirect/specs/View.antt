-- The result of the code as the rules' ruling: the cause, if the session ends.
use Rattle.std.proofs.Math.Option.{Option, none, some}
use Rattle.rules.specs.Session as S
use Rattle.bidi_write.specs.View.{cause_of}
use Rattle.bidi_write.specs.declared.Cause.{Cause}
use Rattle.std.specs.declared.result.Result.{Result}
use Rattle.std.specs.Prelude.{Ok, Err}

abbrev pub result_of : Result (Unit {0}) Cause → Option S.Cause
result_of (Ok tt) = none
result_of (Err c) = some (cause_of c)
