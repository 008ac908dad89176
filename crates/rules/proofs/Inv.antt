-- The invariant, in parts, each over just what it speaks of. K is the chunked bytes, p the size P.
use mathlib.Core.Path.{◌≡◌}
use mathlib.Core.Bool.{Bool, true, false}
use mathlib.Core.Option.{Option, none, some}
use mathlib.Core.List.{List, [], ◌∷◌, ◌++◌}
use Prim.Native.Nat.{ℕ, ◌≤◌, ◌<◌}
use lib.ListN.{length, take, drop}
use lib.IntN.{ℤ, pos, negsuc}
use Rattle.crc32c.specs.Reg.{crc_of}
use Rattle.rules.specs.Basics.{All}
use Rattle.rules.specs.Message.{Bytes, ChecksummedData, Request, Response, size_of, is_finalized}
use Rattle.rules.specs.Session.{ReplayChunk, finalizing, PendingRequest, Cause, finished, regressed, beyond, already_finalized, permanent, exhausted, given_up, stream_error, Phase, live, closing, connecting, verdict, replay, ended, Session, bytes_of, chunks, waiters, is_ended, is_replay}
use Rattle.rules.specs.Replay.{place}
use Rattle.rules.specs.Server.{Server}
use Rattle.rules.specs.Notes.{Mark, Notes, content_of}
use Rattle.rules.specs.World.{World}
use Rattle.rules.specs.More.{RightFinish}
use Rattle.rules.proofs.Lists.{Chain, Slice}

-- ---- stored and held bytes

-- what the session has of them, and what the notes have
pub record Stock : Type 0 where
  pub limit : ℕ
  pub write_offset : ℤ
  pub running_crc32c : Option ℕ
  pub held : Bytes
  pub persisted_size : ℤ
  pub queue : List ReplayChunk

pub record Tally : Type 0 where
  pub limit : ℕ
  pub all : Bytes
  pub loose : ℕ
  pub largest : ℤ

abbrev pub stock_of : Session → Stock
stock_of s = record {
  limit = s.limit;
  write_offset = s.writer.write_offset;
  running_crc32c = s.writer.running_crc32c;
  held = s.writer.held;
  persisted_size = s.worker.persisted_size;
  queue = s.worker.replay_buffer.queue;
}

abbrev pub tally_of : Notes → Tally
tally_of g = record { limit = g.limit; all = g.all; loose = g.loose; largest = g.largest }

pub record BufferOK (K : Bytes) (p : ℕ) (b : Stock) (t : Tally) : Type 0 where
  pub limit_is : t.limit ≡ b.limit
  pub all_is : t.all ≡ K ++ b.held
  pub loose_is : t.loose ≡ length b.held
  pub small : length b.held < b.limit
  pub p_is : b.persisted_size ≡ pos p
  pub largest_is : t.largest ≡ pos p
  pub offset_is : b.write_offset ≡ pos (length K)
  pub within : p ≤ length K
  pub chain : Chain p b.queue (length K)
  pub bytes : bytes_of b.queue ≡ drop p K
  pub sum : (c : ℕ) → b.running_crc32c ≡ some c → c ≡ crc_of K

-- ---- requests

-- a request that was made: its data stands in K; a finish stands at the end of K, and then finalise was sent
pub record Right (K : Bytes) (sent : Bool) (r : Request) : Type 0 where
  pub chunk : (d : ChecksummedData) → r.checksummed_data ≡ some d → Slice K r.write_offset d.content d.crc32c
  pub finish : r.finish_write ≡ true → (sent ≡ true) × RightFinish K r

abbrev pub RightIf : Bytes → Bool → Option Request → Type 0
RightIf K sent none = Unit {0}
RightIf K sent (some r) = Right K sent r

-- the requests handed out
pub record HandedOK (K : Bytes) (sent : Bool) (rs : List Request) : Type 0 where
  pub right : All (Right K sent) rs

-- ---- waiters

pub record Asked (K : Bytes) (sent : Bool) (q : PendingRequest) : Type 0 where
  pub right : Right K sent q.request
  pub dataless : q.request.checksummed_data ≡ none

-- the waiters and the notes of them
abbrev pub Pairs : List PendingRequest → List Mark → Type 0
Pairs [] [] = Unit {0}
Pairs [] (m ∷ ms) = ⊥
Pairs (q ∷ qs) [] = ⊥
Pairs (q ∷ qs) (m ∷ ms) = (q.request.write_offset ≡ pos m.before) × (q.kind ≡ m.kind) × Pairs qs ms

-- a finalise's waiter stands at the end of the chunked bytes, which stay as they are
abbrev pub Final : Bool → ℕ → Mark → Type 0
Final sent n m = m.kind ≡ finalizing → (sent ≡ true) × (m.before ≡ n)

-- a waiter reported completed
pub record Completed (p : ℕ) (final : Bool) (m : Mark) : Type 0 where
  pub below : m.before ≤ p
  pub finalised : m.kind ≡ finalizing → final ≡ true

-- `sent`: finalise was sent; `over`: the session has ended; `final`: the object is finalised
pub record WaitOK (K : Bytes) (p : ℕ) (held : Bytes) (qs : List PendingRequest) (sent over : Bool) (marks : List Mark) (completed : ℕ) (final : Bool) : Type 0 where
  pub gone : List Mark
  pub todo : List Mark
  pub lost : List Mark
  pub marks_is : marks ≡ gone ++ (todo ++ lost)
  pub count_is : completed ≡ length gone
  pub gone_ok : All (Completed p final) gone
  pub queue_ok : Pairs qs todo
  pub asked : All (Asked K sent) qs
  pub none_lost : over ≡ false → lost ≡ []
  pub finals : All (Final sent (length K)) marks
  pub no_held : sent ≡ true → held ≡ []

-- ---- replay

pub record ReplayOK (K : Bytes) (p : ℕ) (ph : Phase) (cs : List ReplayChunk) (greeted : ℤ) (carried : Bytes) (at_done : Bool) : Type 0 where
  pub mid : is_replay ph ≡ true → (greeted ≡ pos p) × (carried ≡ bytes_of (take (place ph) cs))
  pub end : at_done ≡ true → (greeted ≡ pos p) × (carried ≡ drop p K)

-- ---- the server

-- a stated size is at least n; and the least that the next one may be
abbrev pub AtLeast : ℕ → Option ℤ → Type 0
AtLeast n none = Unit {0}
AtLeast n (some (pos m)) = n ≤ m
AtLeast n (some (negsuc m)) = ⊥

abbrev pub least : ℕ → Option ℤ → ℕ
least n none = n
least n (some (pos m)) = m
least n (some (negsuc m)) = n

-- messages on their way: their sizes ascend from low up to high, and one is finalised only if the object is
abbrev pub Ascends : ℕ → List Response → ℕ → Bool → Type 0
Ascends low [] high final = low ≤ high
Ascends low (m ∷ ms) high final =
    AtLeast low (size_of m.write_status) × (is_finalized m.write_status ≡ true → final ≡ true) × Ascends (least low (size_of m.write_status)) ms high final

pub record ServerOK (K : Bytes) (p : ℕ) (sent : Bool) (v : Server) : Type 0 where
  pub rest : Bytes
  pub begins : v.stored.object ++ v.stored.tail ++ rest ≡ K
  pub requests : All (Right K sent) v.link.requests
  pub messages : Ascends p v.link.messages (length v.stored.object) v.stored.finalised

-- ---- the flow of requests on a connection that lost nothing

-- a server that has the bytes b takes the request
pub record Fit (b : Bytes) (r : Request) : Type 0 where
  pub chunk : (d : ChecksummedData) → r.checksummed_data ≡ some d → (r.write_offset ≡ pos (length b)) × (d.crc32c ≡ crc_of d.content)
  pub finish : r.finish_write ≡ true → RightFinish b r

-- it takes all of them in order, and then has goal
abbrev pub Fits : Bytes → List Request → Bytes → Type 0
Fits b [] goal = b ≡ goal
Fits b (r ∷ rs) goal = Fit b r × Fits (b ++ content_of r.checksummed_data) rs goal

-- what the server has once it took all requests: the chunked bytes, or in a replay those handed out so far
abbrev pub goal_at : Bytes → ℕ → Phase → List ReplayChunk → Bytes
goal_at K p live cs = K
goal_at K p closing cs = K
goal_at K p connecting cs = K
goal_at K p (verdict r) cs = K
goal_at K p (replay i) cs = take p K ++ bytes_of (take i cs)
goal_at K p (ended c) cs = K

pub record Flowing (K : Bytes) (p : ℕ) (ph : Phase) (cs : List ReplayChunk) (v : Server) : Type 0 where
  pub alive : v.link.alive ≡ true
  pub goal : Bytes
  pub fits : Fits (v.stored.object ++ v.stored.tail) v.link.requests goal
  pub goal_is : is_ended ph ≡ false → goal ≡ goal_at K p ph cs

pub record FlowOK (K : Bytes) (p : ℕ) (ph : Phase) (cs : List ReplayChunk) (v : Server) : Type 0 where
  pub flows : v.link.lossless ≡ true → Flowing K p ph cs v

-- ---- the whole

-- by a size that goes back, or past the end
abbrev pub is_by_size : Cause → Bool
is_by_size finished = false
is_by_size regressed = true
is_by_size beyond = true
is_by_size already_finalized = false
is_by_size permanent = false
is_by_size exhausted = false
is_by_size given_up = false
is_by_size stream_error = false

abbrev pub ended_by_size : Phase → Bool
ended_by_size live = false
ended_by_size closing = false
ended_by_size connecting = false
ended_by_size (verdict r) = false
ended_by_size (replay i) = false
ended_by_size (ended c) = is_by_size c

-- from: the offset of the first byte taken since opening, or 0
pub record Inv (from : ℕ) (w : World) : Type 0 where
  pub K : Bytes
  pub p : ℕ
  pub since : from ≤ p
  pub buffer : BufferOK K p (stock_of w.session) (tally_of w.notes)
  pub wait : WaitOK K p w.session.writer.held (waiters w.session) w.session.worker.finalized (is_ended w.session.phase) w.notes.marks w.notes.completed w.server.stored.finalised
  pub replays : ReplayOK K p w.session.phase (chunks w.session) w.notes.greeted w.notes.carried w.notes.at_done
  pub server : ServerOK K p w.session.worker.finalized w.server
  pub flow : FlowOK K p w.session.phase (chunks w.session) w.server
  pub handed : HandedOK K w.session.worker.finalized w.notes.handed
  pub steady : ended_by_size w.session.phase ≡ false
