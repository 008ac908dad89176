use Rattle.std.proofs.Common.{◌-◌, length}
use Rattle.redirect_reader.proofs.Redirects.{Going}
use Rattle.redirect_reader.proofs.read_redirect.Given as goal

abbrev pub invariant-loop-field : goal.invariant-loop-field
invariant-loop-field l = Going l.s l.m l.at

abbrev pub decreases-loop-field : goal.decreases-loop-field
decreases-loop-field l = length l.s - l.at
