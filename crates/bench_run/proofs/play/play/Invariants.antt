use mathlib.Core.Path.{◌≡◌}
use lib.ListN.{length}
use Rattle.bench_run.proofs.Playing.{Playing, left}
use Rattle.bench_run.proofs.play.play.Given as goal

abbrev pub invariant-loop-text : goal.invariant-loop-text
invariant-loop-text l =
    (length l.store ≡ length l.initial.store) × (length l.table ≡ length l.initial.table) × (length l.out ≡ length l.initial.out) × (length l.text ≡ length l.initial.text) × (length l.out ≡ 8192)
    × Playing l.input l.initial.store l.initial.table l.initial.p.session l.initial.p.turn l.initial.p.at l.store l.table l.text l.p.session l.p.turn l.p.at l.p.used

abbrev pub decreases-loop-text : goal.decreases-loop-text
decreases-loop-text l = left l.input l.store l.table l.p.session l.p.turn l.p.at
