-- Demand 3 of the customer's letter, stated: one claim over every list of turns from an accepted opening, with each sentence as a field.
use Rattle.std.specs.Prelude.{◌≡◌, ◌++◌, ◌-◌, ◌≤◌, ◌<◌}
use Rattle.rules.specs.Basics.{true, some, ℕ, suc, length, take, drop, get_elem?, pos}
use Rattle.rules.specs.Message.{Bytes}
use Rattle.rules.specs.Session.{finalizing, Session, chunks, bytes_of}
use Rattle.rules.specs.Notes.{Mark, Notes}
use Rattle.rules.specs.World.{World}
use Rattle.rules.specs.Program.{AlwaysSteps}

-- "of every waiter reported completed, the base and every byte taken before the call that made it are persisted"
pub record Persisted (m : Mark) (w : World) : Type 0 where
  pub there : m.before ≤ length w.server.stored.object
  pub same : take m.before w.server.stored.object ≡ take m.before w.notes.all

-- "the bytes stored, then those held, are exactly the base and bytes taken from the largest stated size on, and all below that size is persisted"
pub record Kept (w : World) : Type 0 where
  pub size : ℕ
  pub largest : w.notes.largest ≡ pos size
  pub stored_held : bytes_of (chunks w.session) ++ w.session.writer.held ≡ drop size w.notes.all
  pub below : size ≤ length w.server.stored.object

-- "At a *done*, the chunk data of the requests handed out since the last accepted handshake, joined, is W as it then is, from that handshake's
-- size on and without its last h bytes."
pub record Replayed (w : World) : Type 0 where
  pub size : ℕ
  pub greeted : w.notes.greeted ≡ pos size
  pub carried : w.notes.carried ≡ drop size (take (length w.notes.all - w.notes.loose) w.notes.all)

-- "make a waiter, numbered 1, 2, ...": as many were made as were noted, and each was told its place + 1
pub record Numbered (s : Session) (g : Notes) : Type 0 where
  pub made_is : s.writer.made ≡ length g.marks
  pub told : (i : ℕ) (m : Mark) → get_elem? g.marks i ≡ some m → m.number ≡ suc i

pub record Holds (w : World) : Type 0 where
  -- "the object is a beginning of its base and the bytes taken"
  pub begins : (rest : Bytes) × (w.server.stored.object ++ rest ≡ w.notes.all)
  -- the waiters reported completed were made
  pub counted : w.notes.completed ≤ length w.notes.marks
  pub numbered : Numbered w.session w.notes
  pub waited : (i : ℕ) (m : Mark) → i < w.notes.completed → get_elem? w.notes.marks i ≡ some m → Persisted m w
  pub kept : Kept w
  -- "A replay run to *done* has carried every chunked byte from the handshake's size on, once and in order."
  pub replayed : w.notes.at_done ≡ true → Replayed w
  -- "Once a finalise's waiter is reported completed, the object is exactly its base and all bytes taken."
  pub finalised : (i : ℕ) (m : Mark) → i < w.notes.completed → get_elem? w.notes.marks i ≡ some m → m.kind ≡ finalizing
      → w.server.stored.object ≡ w.notes.all

abbrev pub Demand3 : Type 0
Demand3 = AlwaysSteps (λ o k w. Holds w)
