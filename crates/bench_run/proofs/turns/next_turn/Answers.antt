use Rattle.bench_run.proofs.Going.{goes_as, found_open, found_call, found_unknown}
use Rattle.bench_run.proofs.turns.next_turn.Goals as goal

pub returns-in-Ok-Open-default : goal.returns-in-Ok-Open-default
returns-in-Ok-Open-default c =
    goes_as c.found.ensures (found_open c.args.input.now c.read.ensures.input_value c.in-Ok-Open-default.is c.in-Ok-Open-default.field-0-0-is)

pub returns-in-Ok-Call-default : goal.returns-in-Ok-Call-default
returns-in-Ok-Call-default c =
    found_call c.args.input.now c.read.ensures.input_value c.read.ensures.within c.in-Ok-Call-default.is c.in-Ok-Call-default.field-0-0-is c.lies.ensures

pub returns-in-Err-Unknown : goal.returns-in-Err-Unknown
returns-in-Err-Unknown c =
    goes_as c.found-in-Err-Unknown.ensures (found_unknown c.args.input.now c.read.ensures.input_value (cc (c.in-Err-Unknown.is, c.in-Err-Unknown.field-0-is)))
