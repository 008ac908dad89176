-- How much was released: of every call and session, at the opening, added up, and which of its copies a host may drop for it.
use Rattle.std.specs.Prelude.{◌≡◌, ◌++◌, ◌+◌, ◌-◌, ◌≤◌, ◌<◌}
use Rattle.rules.specs.Basics.{true, false, some, ℕ, length, take, drop, get_elem?}
use Rattle.rules.specs.Session.{Session, Call, stored, chunks, bytes_of}
use Rattle.rules.specs.Step.{step}
use Rattle.rules.specs.Opening.{Opening, opened, opens, payload_length, open_released}
use Rattle.rules.specs.Notes.{Mark, released_in, brings}
use Rattle.rules.specs.World.{World}
use Rattle.rules.specs.Program.{AlwaysSteps}
use Rattle.rules.specs.Calls.{Run, AlwaysCalled}
use Rattle.rules.specs.Total.{first_taken}

-- the number that the call c answers, by the stored total before and after
pub record ReleasedBy (c : Call) (number before after : ℕ) : Type 0 where
  -- "The number is the stored total before less the stored total after."
  pub less : number ≡ before - after
  -- a response or handshake stores nothing, so that its number is all of the difference
  pub report : (brings c).message ≡ true → number + after ≡ before
  -- any other call acknowledges nothing
  pub other : (brings c).message ≡ false → number ≡ 0

abbrev pub Released : Type 0
Released = (c : Call) (s : Session) → ReleasedBy c (released_in (step c s).answer) (stored s) (stored (step c s).session)

-- "the opening does so for its payload"
abbrev pub OpeningReleased : Type 0
OpeningReleased = (o : Opening) (s : Session) → opens o ≡ opened s → open_released o + stored s ≡ payload_length o.payload

-- added up: bytes taken since opening, the payload counted as taken = released + stored + held
abbrev pub Accounted : Run → Type 0
Accounted r = length r.notes.all ≡ r.notes.released + stored r.session + length r.session.writer.held

-- for any input
abbrev pub ReleasedTotal : Type 0
ReleasedTotal = AlwaysCalled Accounted

-- "A bank holds its own copy of each event until the hub no longer needs it": under the server rules, of the bytes taken since opening, which begin
-- at the offset `from`, as many as were released may be dropped, from the first on.
pub record MayDrop (from : ℕ) (w : World) : Type 0 where
  -- these are persisted
  pub there : from + w.notes.released ≤ length w.server.stored.object
  pub same : take (from + w.notes.released) w.server.stored.object ≡ take (from + w.notes.released) w.notes.all
  -- the others are those that the session keeps
  pub rest : bytes_of (chunks w.session) ++ w.session.writer.held ≡ drop (from + w.notes.released) w.notes.all
  -- no waiter reported completed tells of more
  pub waited : (i : ℕ) (m : Mark) → i < w.notes.completed → get_elem? w.notes.marks i ≡ some m → m.before ≤ from + w.notes.released

abbrev pub CopiesNeeded : Type 0
CopiesNeeded = AlwaysSteps (λ o k w. MayDrop (first_taken o.payload k.object) w)
