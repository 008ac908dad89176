-- What is claimed of a plan.
use Rattle.std.specs.Prelude.{◌≡◌, ◌∷◌, ◌+◌, ◌-◌, ◌^◌, ◌≤◌, ◌<◌}
use Rattle.rules.specs.Basics.{Bool, true, false, cond, Option, none, some, List, [], ℕ, zero, suc, eqb, pos, All}
use Rattle.std.proofs.Math.Option.{map}
use Rattle.protobuf_format.specs.Reading.{◌>>=◌}
use Rattle.rules.specs.Limits.{max_waiters}
use Rattle.rules.specs.Message.{is_given}
use Rattle.rules.specs.Session.{Session, Call, append, flush, finalise, next_request, close, send_failed, response, handshake, break, judge, failed_attempt, Answer, answers}
use Rattle.rules.specs.Step.{step}
use Rattle.rules.specs.Opening.{Opening, opened, opens}
use Rattle.rules.specs.Notes.{accepted}
use Rattle.rules.specs.Program.{itself, Steps}
use Rattle.rules.specs.Calls.{CallTurn, AllDidCall}
use Rattle.plan_rules.specs.Unbounded.{unbounded}
use Rattle.plan_rules.specs.Plan.{Plan, Driven, begins, shown, entry_of, remains, after, drives, most, planned}

-- "a session opened at offset 0 without a payload"
pub record Plain (o : Opening) (s : Session) : Type 0 where
  pub at_zero : s.writer.write_offset ≡ pos 0
  pub bare : o.payload ≡ none

abbrev pub is_for : ℕ → Option ℕ → Bool
is_for n none = false
is_for n (some m) = eqb n m

-- ---- of any calls that are made for the list, with whatever bytes and out buffers: S, view and Does as in the rules' Program.antt

module _ {S : Type 0} (view : S → Session) (Does : Call → S → Answer → S → Type 0) where
  -- the list driven by these turns; none where a call is not for the first entry of what is left of it, or was refused, or where something is left at the end
  abbrev pub driven_by : List (CallTurn view Does) → List ℕ → Driven → Option Driven
  driven_by [] [] d = some d
  driven_by [] (n ∷ ls) d = none
  driven_by (t ∷ ts) [] d = none
  driven_by (t ∷ ts) (n ∷ ls) d =
      cond (is_for n (entry_of t.call))
      (remains n ls t.answer >>= (λ rest. driven_by ts rest (after n (answers t.answer (view t.left)) d))) none

  -- "Each must equal what the session itself would show, with an append repeated till taken and a flush till its waiter, for every list on which a session
  -- opened at offset 0 without a payload refuses nothing". Begins o s: what is known of an accepted opening o and of what it left
  abbrev pub ShowsPlanned : (Opening → S → Type 0) → Type 0
  ShowsPlanned Begins =
      (o : Opening) (s : S) → Begins o s → Plain o (view s) → (ts : List (CallTurn view Does)) → AllDidCall view Does ts s
      → (ls : List ℕ) (d : Driven) → driven_by ts ls (begins (view s)) ≡ some d → planned o.limit ls ≡ some (shown d)

-- the session's own step rules
abbrev pub SessionShows : Type 0
SessionShows = ShowsPlanned itself Steps (λ o s. opens o ≡ opened s)

-- "on any other list, what the step rules would give without refusals 8 and 9"
abbrev pub Freely : Call → Session → Answer → Session → Type 0
Freely c s a s' = answers a s' ≡ unbounded c s

abbrev pub UnboundedShows : Type 0
UnboundedShows = ShowsPlanned itself Freely (λ o s. opens o ≡ opened s)

-- ---- of the calls that a plan is made by

-- where `step` refuses none of them, both rules make the same run, from any session
abbrev pub SameRun : Type 0
SameRun = (n : ℕ) (ls : List ℕ) (d e : Driven) → drives step n ls d ≡ some e → drives unbounded n ls d ≡ some e

abbrev pub sum_of : List ℕ → ℕ
sum_of [] = 0
sum_of (n ∷ ls) = n + sum_of ls

-- without refusals 8 and 9 none of them is refused, unless a chunk would end past 2^63 − 1 (10), whichever session was opened so
pub record Possible (o : Opening) (s : Session) (ls : List ℕ) : Type 0 where
  pub there : is_given (planned o.limit ls) ≡ true
  pub any : map shown (drives unbounded (most ls) ls (begins s)) ≡ planned o.limit ls

abbrev pub AlwaysPossible : Type 0
AlwaysPossible = (o : Opening) (s : Session) → opens o ≡ opened s → Plain o s → (ls : List ℕ) → sum_of ls ≤ 2 ^ 63 - 1 → Possible o s ls

-- ---- what is to be lent

abbrev pub flushes_in : List ℕ → ℕ
flushes_in [] = 0
flushes_in (zero ∷ ls) = suc (flushes_in ls)
flushes_in (suc n ∷ ls) = flushes_in ls

-- "and must choose store and table": capacity above the bytes stored, a slot for each chunk. No table makes room for a seventeenth waiter.
pub record Enough (s : Session) (ls : List ℕ) (p : Plan) : Type 0 where
  pub capacity_above : p.stored < s.worker.replay_buffer.capacity
  pub slots_enough : p.chunks ≤ s.slots
  pub waiters_enough : flushes_in ls ≤ max_waiters

abbrev pub out_of : Call → ℕ  -- the length of the out buffer that an append or a flush is lent
out_of (append d out) = out
out_of (flush out) = out
out_of (finalise out) = 0
out_of (next_request out) = 0
out_of close = 0
out_of send_failed = 0
out_of (response m) = 0
out_of (handshake m) = 0
out_of (break b) = 0
out_of (judge v) = 0
out_of (failed_attempt b v) = 0

module _ {S : Type 0} (view : S → Session) (Does : Call → S → Answer → S → Type 0) where
  -- each call is for the first entry of what those before it left of the list, and is lent an out buffer of C bytes at least
  abbrev pub MadeFor : ℕ → List (CallTurn view Does) → List ℕ → Type 0
  MadeFor limit [] ls = Unit {0}
  MadeFor limit (t ∷ ts) [] = ⊥
  MadeFor limit (t ∷ ts) (n ∷ ls) =
      (entry_of t.call ≡ some n) × (limit ≤ out_of t.call) × ((rest : List ℕ) → remains n ls t.answer ≡ some rest → MadeFor limit ts rest)

  -- then none of them is refused
  abbrev pub NeverRefused : (Opening → S → Type 0) → Type 0
  NeverRefused Begins =
      (o : Opening) (s : S) → Begins o s → Plain o (view s) → (ls : List ℕ) (p : Plan) → planned o.limit ls ≡ some p → Enough (view s) ls p
      → (ts : List (CallTurn view Does)) → AllDidCall view Does ts s → MadeFor o.limit ts ls → All (λ (t : CallTurn view Does). accepted t.answer ≡ true) ts

abbrev pub AlwaysEnough : Type 0
AlwaysEnough = NeverRefused itself Steps (λ o s. opens o ≡ opened s)
