use Rattle.bench_run.proofs.Opening.{begun_open, begun-none}
use Rattle.bench_run.proofs.play.begin.Goals as goal

pub returns-in_default : goal.returns-in_default
returns-in_default c = begun-none c.requires.lent c.open-r.ensures c.args.input.now c.args.text.now c.in_default.ensures

pub returns : goal.returns
returns c =
    begun_open c.args.input.now c.args.text.now c.requires.lent c.open-r-2.ensures c.in-Some.ensures c.opening_line.ensures c.put-used.ensures c.opened-next.ensures
