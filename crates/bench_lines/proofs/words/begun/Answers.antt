use Rattle.text.proofs.Clipped.{◌⨟◌, reworded}
use Rattle.bench_lines.proofs.Lengths.{mark_is}
use Rattle.bench_lines.proofs.words.begun.Goals as goal

pub returns : goal.returns
returns c = mark_is c.args.mark c.new.ensures (reworded c.name.ensures c.text.ensures ⨟ c.byte.ensures)
