use mathlib.Core.Path.{◌≡◌}
use Prim.Native.Nat.{◌-◌, ◌≤◌}
use lib.ListN.{length}
use Rattle.transport.specs.Valid.{Valid}
use Rattle.bench_run.specs.Turn.{TurnInside}
use Rattle.bench_run.proofs.follow.Given as goal

abbrev pub invariant-loop : goal.invariant-loop
invariant-loop l = record {
  input_len : length l.input ≡ length l.initial.input;
  out_len : length l.out ≡ 8192;
  used_in : l.p.used ≤ length l.text;
  at_in : l.p.at ≤ l.end;
  end_in : l.end ≤ length l.input;
  turn_inside : TurnInside l.p.turn (l.end - l.p.at);
  valid : Valid l.p.session l.store l.table;
}
