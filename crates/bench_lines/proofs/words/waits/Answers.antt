use Rattle.text.proofs.Clipped.{◌⨟◌}
use Rattle.bench_lines.proofs.words.waits.Goals as goal

pub returns : goal.returns
returns c = λ out h. c.request.ensures out h ⨟ c.text.ensures ⨟ c.number.ensures
