use native.Mathlib.Omega.{arith}
use lib.Seq.{length-take-le}
use Rattle.bench_run.proofs.Going.{goes_as, goes_again}
use Rattle.bench_run.proofs.turns.after.Goals as goal

pub returns-in-Some : goal.returns-in-Some
returns-in-Some c =
    λ out. goes_as c.found.ensures (goes_again c.args.c c.in-Some.m c.args.n c.args.input.now (omega (arith, c.in-Some.ensures.within, length-take-le c.args.n c.args.input.now c.requires)) c.requires
    (c.in-Some.ensures.rest_is 8192 out))
