-- What the parts of a size taken over promise.
use Rattle.std.specs.Prelude.{◌≡◌, Bool, false, not, ◌&&◌, List, ℕ, ◌-◌, ℤ, drop}
use Rattle.std.proofs.Math.Option.{Option}
use Rattle.rules.specs.Message.{Bytes}
use Rattle.rules.specs.Session as R
use Rattle.rules.specs.Respond as Rule
use Rattle.bidi_write.specs.View.{cause_of}
use Rattle.bidi_write.specs.declared.Cause.{Cause}
use Rattle.std.specs.declared.option.Option as opt
use Rattle.std.specs.Prelude.{Some, None}
use Rattle.transport.specs.View.{phase_of, view}
use Rattle.transport.specs.Valid.{Valid}
use Rattle.transport.specs.declared.Session.{Session}
use Rattle.sizes.specs.declared.Settled.{Settled}
use Rattle.sizes.specs.declared.Taken.{Taken}

-- the size n is absorbed
pub record Absorbs (n : ℤ) (finalised : Bool) (s : Session) (store : Bytes) (table : List ℕ) (r : Session) (k : Settled) (table' : List ℕ) : Type 0 where
  pub phase_is : r.phase ≡ s.phase
  pub beyond : drop s.slots table' ≡ drop s.slots table
  pub completed_is : k.completed ≡ Rule.satisfied n finalised (R.waiters (view s store table))
  pub released_is : Valid s store table → k.released ≡ R.stored (view s store table) - R.stored (view r store table')
  pub view_is : Valid s store table
      → view r store table' ≡ R.set_worker (Rule.absorbs n finalised (view s store table).worker) (view s store table)
  pub stays : R.is_replay (phase_of s.phase) ≡ false → Valid s store table → Valid r store table'

-- how a session goes on by the rules: to its last step, or to its end
abbrev pub onward : opt.Option Cause → Settled → (ℕ → ℕ → R.Session → R.Result) → R.Session → R.Result
onward None k last v = last k.completed k.released v
onward (Some c) k last v = R.ending (cause_of c) k.completed k.released v

-- without a size, or by one that ends the session at once
abbrev pub settled_nothing : Settled
settled_nothing = record { completed = 0; released = 0 }

-- after a size that was absorbed
pub record Goes (s : Session) (finalised : Bool) (k : Settled) (r : opt.Option Cause) : Type 0 where
  pub goes : (store : Bytes) (table : List ℕ) (last : ℕ → ℕ → R.Session → R.Result) → Valid s store table
      → R.choose (finalised && not (R.complete (view s store table))) (R.ending R.already_finalized k.completed k.released (view s store table))
      (last k.completed k.released (view s store table))
      ≡ onward r k last (view s store table)

-- after a status with the size n, or none
pub record Takes (n : Option ℤ) (finalised : Bool) (s : Session) (store : Bytes) (table : List ℕ) (r : Taken) (table' : List ℕ) : Type 0 where
  pub phase_is : r.session.phase ≡ s.phase
  pub beyond : drop s.slots table' ≡ drop s.slots table
  pub takes : (last : ℕ → ℕ → R.Session → R.Result) → R.is_replay (phase_of s.phase) ≡ false → Valid s store table
      → Rule.takes n finalised (view s store table) last ≡ onward r.end r.settled last (view r.session store table')
  pub stays : R.is_replay (phase_of s.phase) ≡ false → Valid s store table → Valid r.session store table'
