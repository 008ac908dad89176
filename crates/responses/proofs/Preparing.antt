-- The spec and the counts that a response or handshake leaves, with no own flush outstanding.
-- Assumes nothing.
use mathlib.Core.Path.{◌≡◌, refl, ap}
use mathlib.Core.Bool.{Bool, true, false, cond}
use mathlib.Core.Option.{Option, none, some}
use Prim.Native.Nat.{◌≤◌}
use native.Mathlib.Omega.{arith}
use lib.IntN.{ℤ}
use lib.Signed.{lt_z}
use Rattle.rules.specs.Message as M
use Rattle.rules.specs.Session as R
use Rattle.rules.specs.Respond.{updated, progress}
use Rattle.state.specs.View.{SpecFits}
use Rattle.connector.specs.View.{connector_of}
use Rattle.connector.specs.declared.Connector.{Connector}
use Rattle.worker.specs.View.{worker_of}
use Rattle.transport.specs.View.{view}
use Rattle.responses.specs.Respond.{with_connector, Prepares}
use Rattle.transport.specs.declared.Session.{Session}
use Rattle.transport.proofs.Views.{no_cursor}

-- progress counts no redirect
few : (size : Option ℤ) (c : R.Connector) → (progress size c).counters.redirects_followed ≤ c.counters.redirects_followed
few none c = omega arith
few (some n) c = at (lt_z c.counters.last_persisted_size n)
  where
    at : (b : Bool) → (cond b (record { spec = c.spec; counters = record { attempt_count = 0; redirects_followed = 0; last_persisted_size = n } }) c).counters.redirects_followed ≤ c.counters.redirects_followed
    at true = omega arith
    at false = omega arith

module _ (f : R.Connector → R.Connector) (s : Session) (c : Connector) (is : connector_of c ≡ f (connector_of s.worker.connector))
    (fits : SpecFits s.worker.connector.spec → SpecFits c.spec) (h : c.redirects_followed ≤ s.worker.connector.redirects_followed) where
  prepares : Prepares f s (with_connector c s)
  unfolding view worker_of
  prepares = record {
    phase_is = refl;
    slots_is = refl;
    guarded = λ store table g. g;
    view_is = λ store table.
        ap (λ (x : R.Connector). R.set_worker (R.set_connector x (R.set_mark false (view s store table).worker)) (view s store table)) is;
    stays = λ store table e v. record {
      guarded = v.guarded;
      slots_in = v.slots_in;
      sound = v.sound;
      waiting_is = v.waiting_is;
      spec_fits = fits v.spec_fits;
      followed = λ f. omega (arith, v.followed f, h);
      cursor = no_cursor s.phase _ _ e;
    };
  }

module _ (m : M.Response) (s : Session) (c : Connector) (fits : SpecFits s.worker.connector.spec → SpecFits c.spec) where
  pub response_prepares : connector_of c ≡ updated m (connector_of s.worker.connector) → Prepares (updated m) s (with_connector c s)
  unfolding connector_of
  response_prepares is = prepares (updated m) s c is fits (omega (arith, ap (λ (x : R.Connector). x.counters.redirects_followed) is))

  pub handshake_prepares : (size : Option ℤ) → connector_of c ≡ progress size (updated m (connector_of s.worker.connector))
      → Prepares (λ (x : R.Connector). progress size (updated m x)) s (with_connector c s)
  unfolding connector_of
  handshake_prepares size is =
      prepares (λ (x : R.Connector). progress size (updated m x)) s c is fits
      (omega (arith, ap (λ (x : R.Connector). x.counters.redirects_followed) is, few size (updated m (connector_of s.worker.connector))))
