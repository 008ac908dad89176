use mathlib.Core.Path.{ap}
use lib.IntN.{ℤ}
use mir.Syntax.{w64}
use mir.Facts.{to_z_pos}
use Rattle.bidi_write.proofs.from_nat.Goals as goal

pub returns : goal.returns
returns c = ap (λ (z : ℤ). record { 0 = z }) (to_z_pos w64 c.requires)
