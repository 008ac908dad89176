use Rattle.std.proofs.Common.{◌-◌, length}
use Rattle.redirect_reader.proofs.Handles.{Holding}
use Rattle.redirect_reader.proofs.read_handle.Given as goal

abbrev pub invariant-loop-field : goal.invariant-loop-field
invariant-loop-field l = Holding l.s l.p l.at

abbrev pub decreases-loop-field : goal.decreases-loop-field
decreases-loop-field l = length l.s - l.at
