use Rattle.std.proofs.Common.{sym}
use Rattle.ring.proofs.Runs.{element_read}
use Rattle.ring.proofs.word_at.Goals as goal

pub returns : goal.returns
returns c =
    let a = c.args in
    rw c.wrap.ensures (sym (element_read a.slots a.first a.at a.table.now c.requires 0))
