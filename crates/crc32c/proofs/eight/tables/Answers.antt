use Rattle.crc32c.specs.Reg.{step, steps}
use Rattle.crc32c.proofs.Slicing.{ruled}
use Rattle.crc32c.proofs.eight.tables.Goals as goal

pub returns : goal.returns
unfolding steps step
returns c = ruled tt tt
