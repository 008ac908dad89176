-- Claims over calls alone: from an accepted opening on, after every list of calls, refused ones included, whatever they bring.
use Rattle.std.specs.Prelude.{◌≡◌, ◌∷◌, ◌+◌, ◌≤◌, ◌<◌}
use Rattle.rules.specs.Basics.{true, false, List, [], length, pos, le_z, All}
use Rattle.crc32c.specs.Reg.{crc_of}
use Rattle.rules.specs.Session.{ReplayChunk, Session, Call, Answer, Result, answers, is_nil, is_ended, chunks, waiters}
use Rattle.rules.specs.Respond.{end_offset, pushed_end}
use Rattle.rules.specs.Step.{step}
use Rattle.rules.specs.Opening.{Opening, opened, opens}
use Rattle.rules.specs.Notes.{Notes, note}
use Rattle.rules.specs.World.{base_of, notes_at}
use Rattle.rules.specs.Demand3.{Numbered}

pub record Run : Type 0 where  -- the session, and an onlooker's notes of the calls and answers
  pub session : Session
  pub notes : Notes

abbrev pub called : Call → Result → Run → Run  -- the run after a call that gave res
called c res r = record { session = res.session; notes = note c res.answer r.notes }

unfoldable pub called_all : List Call → Run → Run
called_all [] r = r
called_all (c ∷ cs) r = called_all cs (called c (step c r.session) r)

unfoldable pub begin : Opening → Session → Run  -- nothing is known of the object: the base is the payload alone
begin o s = record { session = s; notes = notes_at o (base_of o.payload []) }

abbrev pub AlwaysSince : (Run → Run → Type 0) → Type 0  -- between the run at the opening and the run after the calls
AlwaysSince Q = (o : Opening) (s : Session) → opens o ≡ opened s → (cs : List Call) → Q (begin o s) (called_all cs (begin o s))

abbrev pub AlwaysCalled : (Run → Type 0) → Type 0
AlwaysCalled Q = AlwaysSince (λ _ r. Q r)

-- ---- what holds of every run

abbrev pub EndToEnd : List ReplayChunk → Type 0  -- each chunk begins where the one before it ends
EndToEnd [] = Unit {0}
EndToEnd (c ∷ []) = Unit {0}
EndToEnd (c ∷ d ∷ cs) = (d.write_offset ≡ end_offset c) × EndToEnd (d ∷ cs)

pub record HoldsCalled (r : Run) : Type 0 where
  pub end_to_end : EndToEnd (chunks r.session)
  pub sums : All (λ (c : ReplayChunk). c.crc32c ≡ crc_of c.bytes) (chunks r.session)
  -- "The pushed end is the write offset": where a chunk is stored, the last one ends there, and P is never above it
  pub pushed_end_is : is_nil (chunks r.session) ≡ false → pushed_end (pos 0) (chunks r.session) ≡ r.session.writer.write_offset
  pub within : le_z r.session.worker.persisted_size r.session.writer.write_offset ≡ true
  pub held_below : length r.session.writer.held < r.session.limit
  pub numbered : Numbered r.session r.notes
  pub completed_made : r.notes.completed ≤ r.session.writer.made  -- waiters reported completed, and made
  pub counted : is_ended r.session.phase ≡ false → r.notes.completed + length (waiters r.session) ≡ r.session.writer.made
  pub none_waits : is_ended r.session.phase ≡ true → waiters r.session ≡ []

abbrev pub CallsHold : Type 0
CallsHold = AlwaysCalled HoldsCalled

-- ---- of a program: S, view and Does as in Program.antt

module _ {S : Type 0} (view : S → Session) (Does : Call → S → Answer → S → Type 0) where
  pub record CallTurn : Type 0 where  -- a call, and what the program answered and left
    pub call : Call
    pub answer : Answer
    pub left : S

  abbrev pub AllDidCall : List CallTurn → S → Type 0
  AllDidCall [] s = Unit {0}
  AllDidCall (t ∷ ts) s = Does t.call s t.answer t.left × AllDidCall ts t.left

  abbrev pub ran_calls : List CallTurn → Run → Run
  ran_calls [] r = r
  ran_calls (t ∷ ts) r = ran_calls ts (called t.call (answers t.answer (view t.left)) r)

  abbrev pub left_by : List CallTurn → S → S  -- what the last of them left
  left_by [] s = s
  left_by (t ∷ ts) s = left_by ts t.left

  -- as `AlwaysSince`, of every list of calls that did so
  abbrev pub AlwaysDidCall : (Opening → S → Type 0) → (Run → Run → Type 0) → Type 0
  AlwaysDidCall Begins Q =
      (o : Opening) (s : S) → Begins o s → (ts : List CallTurn) → AllDidCall ts s → Q (begin o (view s)) (ran_calls ts (begin o (view s)))
