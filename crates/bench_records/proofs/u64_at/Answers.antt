use mathlib.Core.Path.{◌≡◌}
use Prim.Native.Nat.{◌+◌}
use native.Mathlib.Omega.{arith}
use lib.ListN.{take, drop}
use Rattle.little_endian.specs.Little.{little}
use Rattle.bench_records.proofs.Little.{twice}
use Rattle.bench_records.proofs.u64_at.Goals as goal

pub returns : goal.returns
returns c =
    let low : c.u32_at.result ≡ little (take 4 (drop c.args.at c.args.b.now)) = c.u32_at.ensures in
    let high : c.u32_at-2.result ≡ little (take 4 (drop (c.args.at + 4) c.args.b.now)) = c.u32_at-2.ensures in
    omega (arith, c.u64_of.ensures, twice 4 c.args.at c.args.b.now (omega (arith, c.requires)))
