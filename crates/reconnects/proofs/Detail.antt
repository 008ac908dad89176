-- What was read of a break's detail, in the rules' words.
-- Assumes nothing.
use mathlib.Core.Path.{◌≡◌, sym, ap, ◌∙◌}
use mathlib.Core.Bool.{Bool, false}
use mathlib.Core.Option.{Option}
use lib.ListN.{length}
use Rattle.rules.specs.Message.{Bytes}
use Rattle.rules.specs.Message as M
use Rattle.rules.specs.Session as R
use Rattle.rules.specs.Reconnect.{overlong, rerouted}
use Rattle.redirect.specs.Detail.{Reading, redirect_at, malformed_in, Within, ReadsDetail}

module _ {d : Reading} {b : M.Break} {value : Bytes} (reads : ReadsDetail d b value) where
  pub malformed_as : {t : Bool} → t ≡ malformed_in d → t ≡ M.is_malformed b
  malformed_as e = e ∙ reads.malformed_is

  pub long_as : {t : Bool} → ((v : Bytes) → Within d (length v) → t ≡ overlong (redirect_at d v)) → t ≡ overlong (M.redirect_in b)
  long_as e = e value reads.within ∙ ap overlong reads.redirect_is

  -- where no token or handle is too long, the redirect may be taken over
  pub short_as : {t : Bool} → ((v : Bytes) → Within d (length v) → t ≡ overlong (redirect_at d v)) → t ≡ false
      → Within d (length value) × (overlong (redirect_at d value) ≡ false)
  short_as e f = (reads.within, sym (e value reads.within) ∙ f)

  pub rerouted_as : (c : R.Connector) → rerouted (redirect_at d value) c ≡ rerouted (M.redirect_in b) c
  rerouted_as c = ap (λ (o : Option M.Redirect). rerouted o c) reads.redirect_is
