use mathlib.Core.Path.{ap}
use Rattle.text.specs.Decimal.{number}
use Rattle.text.proofs.Clipped.{◌⨟◌, reworded}
use Rattle.bench_lines.proofs.words.refused.Goals as goal

pub returns : goal.returns
returns c = c.byte.ensures ⨟ reworded (ap number c.refusal_number.ensures) c.number.ensures
