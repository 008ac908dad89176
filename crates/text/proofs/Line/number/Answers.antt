use mathlib.Core.Path.{◌∙◌}
use borrow.Author.Rules.{rules}
use Rattle.text.proofs.Clipped.{reworded}
use Rattle.text.proofs.Decimal.{number_is}
use Rattle.text.proofs.Line.number.Goals as goal

pub returns : goal.returns
returns c =
    reworded (c.decimal-k.ensures.digits ∙ number_is c.decimal-k.result c.args.n (search rules) c.decimal-k.ensures.len) c.text.ensures
