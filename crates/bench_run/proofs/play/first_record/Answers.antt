use Rattle.bench_run.proofs.Opening.{first_call, first-none}
use Rattle.bench_run.proofs.play.first_record.Goals as goal

pub returns-in-Ok-Call-default : goal.returns-in-Ok-Call-default
returns-in-Ok-Call-default c =
    first_call c.args.input.now c.read.ensures.input_value c.in-Ok-Call-default.is c.in-Ok-Call-default.field-0-0-is

pub returns-in-Err : goal.returns-in-Err
returns-in-Err c = first-none c.args.input.now c.read.ensures.input_value _ c.in-Err.is
