-- What a call promises: one record for every call, cited by its `ensures` and again by the claim over lists of calls.
use Rattle.std.specs.Prelude.{◌≡◌, Bool, true, false, List, [], ◌++◌, ℕ, ◌≤◌, length, drop}
use Rattle.rules.specs.Message.{Bytes}
use Rattle.rules.specs.Session as R
use Rattle.rules.specs.Step.{step}
use Rattle.rules.specs.Notes.{request_in, data_in}
use Rattle.bidi_write.specs.declared.Refusal.{Refusal}
use Rattle.bidi_write.specs.declared.Refusal.TheVariants as refusal
use Rattle.transport.specs.View.{Left, phase_of, lent_of, view, answer_of, taken_in, sent_length}
use Rattle.transport.specs.Valid.{GuardedAt, Valid}
use Rattle.transport.specs.declared.Session.{Session}
use Rattle.transport.specs.declared.Answer.{Answer}
use Rattle.transport.specs.declared.Answer.TheVariants as answer
use Rattle.std.specs.declared.result.Result.{Result}
use Rattle.std.specs.Prelude.{None, Ok, Err}

-- the data that an answer sends
abbrev pub sent_data : Result Answer Refusal → Bytes → Bytes
sent_data a out = data_in (request_in (answer_of a out))

-- an answer that refuses nothing, takes no byte and sends no data
pub record Quiet (a : Result Answer Refusal) : Type 0 where
  pub accepts : (x : Refusal) → a ≡ Err x → ⊥
  pub none_taken : taken_in a ≡ 0
  pub none_sent : sent_length a ≡ 0
  pub has_no_data : (out : Bytes) → sent_data a out ≡ []

-- the bytes that a call offers, whether it is an append of nothing, and whether it is lent the store or the table
pub record Asked : Type 0 where
  pub offered : Bytes
  pub empty : Bool
  pub touches : Bool

abbrev asking : Bool → Asked
asking touches = record { offered = []; empty = false; touches = touches }

abbrev pub asked_by : R.Call → Asked
asked_by (R.append d out) = record { offered = d; empty = R.is_nil d; touches = true }
asked_by (R.flush out) = asking true
asked_by (R.finalise out) = asking true
asked_by (R.next_request out) = asking true
asked_by R.close = asking false
asked_by R.send_failed = asking false
asked_by (R.response m) = asking true
asked_by (R.handshake m) = asking true
asked_by (R.break b) = asking false
asked_by (R.judge v) = asking false
asked_by (R.failed_attempt b v) = asking false

-- for any input whatever: what is answered before the rules are asked
pub record First (c : R.Call) (s : Session) (store : Bytes) (table : List ℕ) (out : Bytes) (r : Left) (store' : Bytes) (table' : List ℕ) (out' : Bytes) : Type 0 where
  -- "An append of nothing is always accepted, even after the end, takes 0 and changes nothing."
  pub empty : (asked_by c).empty ≡ true
      → (r ≡ record { session = s; answer = Ok (answer.Took 0 None) }) × (store' ≡ store) × (table' ≡ table) × (out' ≡ out)
  -- 7 from a session that has ended, whatever is lent
  pub over : (asked_by c).empty ≡ false → R.is_ended (phase_of s.phase) ≡ true → r.answer ≡ Err refusal.Ended
  -- 2 where the call touches memory that is too short, or that the record's numbers don't fit
  pub unfit : (asked_by c).empty ≡ false → R.is_ended (phase_of s.phase) ≡ false → (asked_by c).touches ≡ true
      → (GuardedAt s (length store) (length table) → ⊥) → r.answer ≡ Err refusal.ShortMemory

-- The call c, from a session with its store, table and out buffer to what it left of them. Free, since no view shows it: where in ring and table the stored
-- bytes and words begin, places of waiters that nobody waits at, bytes and words that are stored no more, and what an array has behind a name, token or handle.
-- Free is too what the rules would answer a record that fits its memory but that no call left.
pub record Promise (c : R.Call) (s : Session) (store : Bytes) (table : List ℕ) (out : Bytes) (r : Left) (store' : Bytes) (table' : List ℕ) (out' : Bytes) : Type 0 where
  pub first : First c s store table out r store' table' out'
  -- for any input whatever: a refused call changes nothing
  pub refuses : (x : Refusal) → r.answer ≡ Err x → (r.session ≡ s) × (store' ≡ store) × (table' ≡ table) × (out' ≡ out)
  -- for any input whatever: no more is taken than is offered
  pub takes : taken_in r.answer ≤ length (asked_by c).offered
  -- for any input whatever: what is lent beyond the ring, the slots and the data sent is untouched
  pub store_beyond : drop (lent_of s).size store' ≡ drop (lent_of s).size store
  pub table_beyond : drop s.slots table' ≡ drop s.slots table
  pub out_beyond : out' ≡ sent_data r.answer out' ++ drop (sent_length r.answer) out
  -- for any input whatever: the data sent has the length that the request gives it, and out has room for it
  pub sent_is : length (sent_data r.answer out') ≡ sent_length r.answer
  pub sent_in : sent_length r.answer ≤ length out
  -- the answer and the session after are the rule's
  pub steps : Valid s store table → R.answers (answer_of r.answer out') (view r.session store' table') ≡ step c (view s store table)
  pub stays : Valid s store table → Valid r.session store' table'

-- the same of a call that is lent no memory: whatever the memory holds
abbrev pub Promised : R.Call → Session → Left → Type 0
Promised c s r = (store : Bytes) (table : List ℕ) (out : Bytes) → Promise c s store table out r store table out

-- the same of a call that is lent no out buffer
abbrev pub PromisedAt : R.Call → Session → Bytes → List ℕ → Left → List ℕ → Type 0
PromisedAt c s store table r table' = (out : Bytes) → Promise c s store table out r store table' out
