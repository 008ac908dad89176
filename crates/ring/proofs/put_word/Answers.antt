use Rattle.ring.proofs.Runs.{element_written}
use Rattle.ring.proofs.put_word.Goals as goal

pub returns : goal.returns
returns c =
    let a = c.args in
    rw c.wrap-to.ensures (element_written a.slots a.first a.at a.table.now c.requires a.w)
