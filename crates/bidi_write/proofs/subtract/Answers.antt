use Rattle.bidi_write.proofs.Offsets.{differs_below, differs_above}
use Rattle.bidi_write.proofs.subtract.Goals as goal

pub returns-then-x-y : goal.returns-then-x-y
returns-then-x-y c =
    let a = c.args in
    differs_below a.a.0 a.b.0 c.raised-x.result c.raised-y.result c.raised-x.ensures c.raised-y.ensures c.if-x-y.true

pub returns : goal.returns
returns c =
    let a = c.args in
    differs_above a.a.0 a.b.0 c.raised-x.result c.raised-y.result c.raised-x.ensures c.raised-y.ensures c.if-x-y.false
