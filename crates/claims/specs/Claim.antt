-- The claims about the host's calls: an opening, then a list of turns of the lent calls, each known only by what its own `ensures` says.
use Rattle.std.specs.Prelude.{◌≡◌, List, ℕ, length}
use Rattle.rules.specs.Message.{Bytes}
use Rattle.rules.specs.Session as R
use Rattle.rules.specs.Opening as O
use Rattle.rules.specs.Server.{Stored}
use Rattle.rules.specs.World.{World}
use Rattle.rules.specs.Program as rule
use Rattle.rules.specs.Calls.{Run, AlwaysDidCall}
use Rattle.transport.specs.View.{Left}
use Rattle.transport.specs.Promise.{Promise, Promised, PromisedAt}
use Rattle.transport.specs.Claim as core
use Rattle.transport.specs.Claim.{Memory, view_of, Does}
use Rattle.openings.specs.Opening.{Beside, opening_of, Opens}
use Rattle.openings.specs.declared.Opening.{Opening}
use Rattle.std.specs.Prelude.{Ok}
use Rattle.openings.specs.declared.Opened.{Opened}

-- the text of each call's `ensures`, from the record and memory that it was lent to what it answered and left: proofs/Tied has them equal
abbrev pub Ensured : R.Call → Memory → Bytes → Left → Bytes → List ℕ → Bytes → Type 0
Ensured (R.append d n) m out r store table out' = Promise (R.append d n) m.session m.store m.table out r store table out'
Ensured (R.flush n) m out r store table out' = Promise (R.flush n) m.session m.store m.table out r m.store table out'
Ensured (R.finalise n) m out r store table out' = Promise (R.finalise n) m.session m.store m.table out r m.store table out'
Ensured (R.next_request n) m out r store table out' = Promise (R.next_request n) m.session m.store m.table out r m.store m.table out'
Ensured R.close m out r store table out' = Promised R.close m.session r
Ensured R.send_failed m out r store table out' = Promised R.send_failed m.session r
Ensured (R.response x) m out r store table out' = PromisedAt (R.response x) m.session m.store m.table r table
Ensured (R.handshake x) m out r store table out' = PromisedAt (R.handshake x) m.session m.store m.table r table
Ensured (R.break b) m out r store table out' = Promised (R.break b) m.session r
Ensured (R.judge v) m out r store table out' = Promised (R.judge v) m.session r
Ensured (R.failed_attempt b v) m out r store table out' = Promised (R.failed_attempt b v) m.session r

-- of what a call is not lent nothing changes; it is told the length of the out buffer that it is lent
abbrev pub Unlent : R.Call → Memory → Bytes → Bytes → List ℕ → Bytes → Type 0
Unlent (R.append d n) m out store table out' = n ≡ length out
Unlent (R.flush n) m out store table out' = (n ≡ length out) × (store ≡ m.store)
Unlent (R.finalise n) m out store table out' = (n ≡ length out) × (store ≡ m.store)
Unlent (R.next_request n) m out store table out' = (n ≡ length out) × (store ≡ m.store) × (table ≡ m.table)
Unlent R.close m out store table out' = (store ≡ m.store) × (table ≡ m.table) × (out' ≡ out)
Unlent R.send_failed m out store table out' = (store ≡ m.store) × (table ≡ m.table) × (out' ≡ out)
Unlent (R.response x) m out store table out' = (store ≡ m.store) × (out' ≡ out)
Unlent (R.handshake x) m out store table out' = (store ≡ m.store) × (out' ≡ out)
Unlent (R.break b) m out store table out' = (store ≡ m.store) × (table ≡ m.table) × (out' ≡ out)
Unlent (R.judge v) m out store table out' = (store ≡ m.store) × (table ≡ m.table) × (out' ≡ out)
Unlent (R.failed_attempt b v) m out store table out' = (store ≡ m.store) × (table ≡ m.table) × (out' ≡ out)

-- what is known of a call
abbrev pub Ensures : R.Call → Memory → Bytes → Left → Bytes → List ℕ → Bytes → Type 0
Ensures c m out r store table out' = Ensured c m out r store table out' × Unlent c m out store table out'

-- the opening's
abbrev pub OpenEnsured : Opening → Beside → Bytes → List ℕ → Opened → Bytes → List ℕ → Type 0
OpenEnsured o b store table r store' table' = Opens o b store table r store' table'

-- the opening o was accepted and left m: what it was given and lent, and what is known of it
pub record Begins (o : O.Opening) (m : Memory) : Type 0 where
  pub opening : Opening
  pub beside : Beside
  pub store : Bytes
  pub table : List ℕ
  pub opened : Opened
  pub given : opening_of opening beside (length store) (length table) ≡ o
  pub left : opened.session ≡ m.session
  pub ensured : OpenEnsured opening beside store table opened m.store m.table
  pub accepted : opened.answer ≡ Ok tt

abbrev pub Always : (O.Opening → Stored → World → Type 0) → Type 0
Always Q = rule.Always view_of (Does Ensures) Begins Q

abbrev pub AlwaysCalled : (Run → Run → Type 0) → Type 0
AlwaysCalled Q = AlwaysDidCall view_of (Does Ensures) Begins Q

abbrev pub StoredBound : Type 0
StoredBound = core.StoredBound (Does Ensures) Begins
