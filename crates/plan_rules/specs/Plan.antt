-- "What a day will need": a list of append lengths, 0 for a flush, driven through a session.
use Rattle.std.specs.Prelude.{◌∷◌, ◌+◌, ◌*◌, ◌-◌, ◌||◌}
use Rattle.rules.specs.Basics.{cond, Option, none, some, List, [], ℕ, zero, suc, max, length, leb, ltb, eqb, pos}
use Rattle.std.proofs.Math.Option.{map}
use Rattle.protobuf_format.specs.Reading.{◌>>=◌}
use Rattle.rules.specs.Limits.{max_chunk, default_capacity, store_size}
use Rattle.rules.specs.Message.{Bytes}
use Rattle.rules.specs.Session.{Session, Call, append, flush, finalise, next_request, close, send_failed, response, handshake, break, judge, failed_attempt, Answer, refused, took, sends, waits, completes, attempt, ok, done, ends, Result, chunks, stored}
use Rattle.rules.specs.Opening.{Opening, open_session}
use Rattle.rules.specs.Bench.{sized, opening}
use Rattle.plan_rules.specs.Unbounded.{unbounded}

-- "the number of chunks cut, thus of slots filled, and of bytes stored .., the held bytes at the end, and the number of append and flush calls made"
pub record Plan : Type 0 where
  pub chunks : ℕ
  pub stored : ℕ
  pub held : ℕ
  pub appends : ℕ
  pub flushes : ℕ

-- ---- a session on its way through a list

pub record Driven : Type 0 where  -- the session, and the calls made so far
  pub session : Session
  pub appends : ℕ
  pub flushes : ℕ

abbrev pub begins : Session → Driven
begins s = record { session = s; appends = 0; flushes = 0 }

abbrev pub shown : Driven → Plan  -- what the session shows
shown d = record {
  chunks = length (chunks d.session);
  stored = stored d.session;
  held = length d.session.writer.held;
  appends = d.appends;
  flushes = d.flushes;
}

-- "append lengths with 0 for a flush": the entry that a call is made for. An append of nothing is made for none.
abbrev pub entry_of : Call → Option ℕ
entry_of (append [] out) = none
entry_of (append (x ∷ d) out) = some (suc (length d))
entry_of (flush out) = some 0
entry_of (finalise out) = none
entry_of (next_request out) = none
entry_of close = none
entry_of send_failed = none
entry_of (response m) = none
entry_of (handshake m) = none
entry_of (break b) = none
entry_of (judge v) = none
entry_of (failed_attempt b v) = none

-- "an append repeated till taken and a flush till its waiter": what is left of the list n ∷ ls behind the answer to a call for n. None where it was refused.
abbrev pub remains : ℕ → List ℕ → Answer → Option (List ℕ)
remains n ls (took k r) = some (cond (leb n k) ls ((n - k) ∷ ls))
remains n ls (sends r) = some (n ∷ ls)
remains n ls (waits r k) = some ls
remains n ls (refused k) = none
remains n ls (completes k released r) = none
remains n ls (attempt k) = none
remains n ls ok = none
remains n ls done = none
remains n ls (ends c k released f) = none

abbrev pub after : ℕ → Result → Driven → Driven  -- a call for n gave r
after zero r d = record { session = r.session; appends = d.appends; flushes = d.flushes + 1 }
after (suc n) r d = record { session = r.session; appends = d.appends + 1; flushes = d.flushes }

-- ---- by rules of one's choice

abbrev pub zeros : ℕ → Bytes
zeros zero = []
zeros (suc n) = 0 ∷ zeros n

abbrev pub call_for : ℕ → ℕ → Call  -- with an out buffer of this length; which bytes are appended does not matter
call_for out zero = flush out
call_for out (suc n) = append (zeros (suc n)) out

-- the calls of the list in turn, at most so many; none where one is refused
unfoldable pub drives : (Call → Session → Result) → ℕ → List ℕ → Driven → Option Driven
drives rule zero [] d = some d
drives rule zero (n ∷ ls) d = none
drives rule (suc most) [] d = some d
drives rule (suc most) (n ∷ ls) d =
    let r = rule (call_for d.session.limit n) d.session in
    remains n ls r.answer >>= (λ rest. drives rule most rest (after n r d))

abbrev pub most : List ℕ → ℕ  -- no list takes more calls: an append takes a byte at least, and a flush that cuts leaves none held
most [] = 0
most (n ∷ ls) = n + 2 + most ls

-- ---- the plan

-- "a session opened at offset 0 without a payload": which of them does not matter
abbrev pub plain_opening : ℕ → Opening
plain_opening limit = record {
  limit = limit;
  asked = none;
  store_length = store_size (max default_capacity (2 * limit + 1)) limit;
  slots = 1;
  spec = (opening limit 0 (pos 0) none).spec;
  response = sized (pos 0);
  checksum = none;
  payload = none;
  last_persisted_size = pos 0;
}

-- "what the session itself would show", "if no report ever comes and nothing is refused"
unfoldable pub planned : ℕ → List ℕ → Option Plan
planned limit ls = map shown (drives unbounded (most ls) ls (begins (open_session (plain_opening limit))))

-- ---- what a plan answers

abbrev pub max_entries : ℕ
max_entries = 65536

pub data Answered : Type 0 where
  refuses : ℕ → Answered
  needs : Plan → Answered

-- "A C out of range is 1, tested first; 16 when the list has more than 65,536 entries."
unfoldable pub plans : ℕ → List ℕ → Option Answered
plans limit ls =
    cond (eqb limit 0 || ltb max_chunk limit) (some (refuses 1)) (cond (ltb max_entries (length ls)) (some (refuses 16)) (map needs (planned limit ls)))
