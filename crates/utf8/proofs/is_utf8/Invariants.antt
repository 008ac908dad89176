use Rattle.std.proofs.Common.{◌≡◌, drop}
use Rattle.utf8.specs.Utf8.{goes_on, utf8}
use Rattle.utf8.specs.Wanted.{ranges_of}
use Rattle.utf8.proofs.is_utf8.Given as goal

abbrev pub invariant-loop-b : goal.invariant-loop-b
invariant-loop-b l = goes_on (ranges_of l.w) (drop l.b-index l.s) ≡ utf8 l.s
