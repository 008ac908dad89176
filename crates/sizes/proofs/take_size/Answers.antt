use mathlib.Core.Path.{sym, ◌∙◌}
use Rattle.sizes.proofs.Taking.{takes-regressed, takes-beyond, takes-absorbed}
use Rattle.sizes.proofs.take_size.Goals as goal

pub returns-then-below : goal.returns-then-below
returns-then-below c =
    rw c.nothing.ensures (takes-regressed c.args.finalized c.args.s c.args.store.now c.args.table.now c.args.n.0 (sym c.below.ensures ∙ c.if-below.true))

pub returns-then-below-2 : goal.returns-then-below-2
returns-then-below-2 c =
    rw c.nothing-then-below-2.ensures
    (takes-beyond c.args.finalized c.args.s c.args.store.now c.args.table.now c.args.n.0 (sym c.below.ensures ∙ c.if-below.false)
    (sym c.below-2.ensures ∙ c.if-below-2.true))

pub returns : goal.returns
returns c =
    takes-absorbed c.args.finalized c.args.s c.args.store.now c.args.table.now c.args.n.0 (sym c.below.ensures ∙ c.if-below.false)
    (sym c.below-2.ensures ∙ c.if-below-2.false) c.absorb_size.result.0 c.absorb_size.result.1 c.absorb_size.new.table c.absorb_size.ensures
    c.end_after.result (c.end_after.ensures c.absorb_size.result.1)
