use mathlib.Core.Path.{◌≡◌}
use Prim.Native.Nat.{◌+◌}
use native.Mathlib.Omega.{arith}
use lib.ListN.{take, drop}
use Rattle.little_endian.specs.Little.{little}
use Rattle.bench_records.proofs.Little.{twice}
use Rattle.bench_records.proofs.u32_at.Goals as goal

pub returns : goal.returns
returns c =
    let low : c.u16_at.result ≡ little (take 2 (drop c.args.at c.args.b.now)) = c.u16_at.ensures in
    let high : c.u16_at-2.result ≡ little (take 2 (drop (c.args.at + 2) c.args.b.now)) = c.u16_at-2.ensures in
    omega (arith, c.u32_of.ensures, twice 2 c.args.at c.args.b.now (omega (arith, c.requires)))
