use borrow.Author.Rules.{rules}
use Rattle.text.proofs.Clipped.{◌⨟◌, reworded}
use Rattle.text.proofs.Signs.{signed_below}
use Rattle.text.proofs.Line.signed.Goals as goal

pub returns-then-n-lt0 : goal.returns-then-n-lt0
returns-then-n-lt0 c =
    reworded (signed_below c.args.n (search rules) c.unsigned_abs.result c.unsigned_abs.ensures.value c.if-n-lt0.true)
    (c.byte.ensures ⨟ c.number.ensures)
