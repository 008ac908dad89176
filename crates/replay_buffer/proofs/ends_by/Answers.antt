use mathlib.Core.Path.{sym, ap, ◌∙◌}
use Rattle.bidi_write.specs.Numbers.{difference_of, is_below}
use Rattle.bidi_write.proofs.Offsets.{ends_above, ends-within}
use Rattle.replay_buffer.proofs.ends_by.Goals as goal

pub returns-in-Below : goal.returns-in-Below
returns-in-Below c =
    sym (ends_above c.args.persisted.0 c.args.at.0 c.args.n (sym c.subtract-d.ensures.sign_is ∙ ap is_below c.in-Below.is))

pub returns-in-AtLeast : goal.returns-in-AtLeast
returns-in-AtLeast c =
    ends-within c.args.persisted.0 c.args.at.0 c.args.n c.in-AtLeast.m (ap difference_of (sym c.in-AtLeast.is) ∙ c.subtract-d.ensures.value_is)
