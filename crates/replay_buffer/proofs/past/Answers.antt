use mathlib.Core.Path.{sym, ap, ◌∙◌}
use Rattle.bidi_write.specs.Numbers.{to_ℕ, difference_of}
use Rattle.bidi_write.proofs.Offsets.{not_past}
use Rattle.replay_buffer.proofs.past.Goals as goal

pub returns-in-Below : goal.returns-in-Below
returns-in-Below c =
    not_past c.in-Below.field-0 ∙ ap to_ℕ (ap difference_of (sym c.in-Below.is) ∙ c.subtract-d.ensures.value_is)

pub returns-in-AtLeast : goal.returns-in-AtLeast
returns-in-AtLeast c =
    ap to_ℕ (ap difference_of (sym c.in-AtLeast.is) ∙ c.subtract-d.ensures.value_is)
