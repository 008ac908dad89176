-- What the refusals of a response or handshake leave to know.
-- Assumes nothing.
use mathlib.Core.Path.{◌≡◌}
use mathlib.Core.Bool.{Bool, false}
use Rattle.admission.specs.Rows.{message_rows}
use Rattle.bidi_write.specs.Refusal.{checked}
use Rattle.std.specs.Prelude.{Ok}
use Rattle.bidi_write.proofs.Rows.{first_false, later}

-- where the code goes on, none of the three tests holds
pub record Passes (ended phase long : Bool) : Type 0 where
  pub not_ended : ended ≡ false
  pub right_phase : phase ≡ false
  pub short : long ≡ false

pub passes : (ended phase long : Bool) → checked (message_rows ended phase long) ≡ Ok tt → Passes ended phase long
passes ended phase long e =
    let f = later ended _ _ e in
    record { not_ended = first_false ended _ _ e; right_phase = first_false phase _ _ f; short = first_false long _ _ (later phase _ _ f) }
