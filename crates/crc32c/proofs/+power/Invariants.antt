use Rattle.crc32c.proofs.+power.Given as goal

abbrev pub decreases-power : goal.decreases-power
decreases-power l = l.n
