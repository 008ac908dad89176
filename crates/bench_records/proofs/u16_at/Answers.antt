use mathlib.Core.Path.{ap}
use native.Mathlib.Omega.{arith}
use Rattle.little_endian.specs.Little.{little}
use Rattle.bench_records.proofs.Little.{two}
use Rattle.bench_records.proofs.u16_at.Goals as goal

pub returns : goal.returns
returns c =
    omega (arith, c.u16_of.ensures, ap little (two c.args.at c.args.b.now c.requires))
