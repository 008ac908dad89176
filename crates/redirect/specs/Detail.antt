-- The detail of a break as it was read, in the rules' words.
use Rattle.std.specs.Prelude.{◌≡◌, Bool, true, false, ℕ, length, Some, None, Result, Ok, Err}
use Rattle.std.specs.Prelude as P
use Rattle.std.proofs.Math.Option.{Option, none, some}
use Rattle.rules.specs.Message as M
use Rattle.protobuf_fields.specs.declared.Malformed.{Malformed}
use Rattle.redirect_reader.specs.Places.{seen_in, SeenFits}
use Rattle.redirect_reader.specs.declared.Seen.{Seen}

-- no detail, one that is malformed, or what it says
abbrev pub Reading : Type 0
Reading = Result (P.Option Seen) Malformed

-- the redirect, its token and handle taken off the value
abbrev pub redirect_at : Reading → M.Bytes → Option M.Redirect
redirect_at (Ok None) value = none
redirect_at (Err e) value = none
redirect_at (Ok (Some m)) value = some (seen_in value m)

abbrev pub malformed_in : Reading → Bool
malformed_in (Ok o) = false
malformed_in (Err e) = true

-- token and handle lie within a value of so many bytes
abbrev pub Within : Reading → ℕ → Type 0
Within (Ok None) end = Unit {0}
Within (Err e) end = Unit {0}
Within (Ok (Some m)) end = SeenFits m end

-- r is the detail of the break b, whose value was lent
pub record ReadsDetail (r : Reading) (b : M.Break) (value : M.Bytes) : Type 0 where
  pub malformed_is : malformed_in r ≡ M.is_malformed b
  pub redirect_is : redirect_at r value ≡ M.redirect_in b
  pub within : Within r (length value)
