-- "Write each request sent after opening": the requests that the session's calls hand out.
use Rattle.std.specs.Prelude.{◌≡◌, cond, List, ℕ, ◌+◌, ◌≤◌, ltb, length, take}
use Rattle.rules.specs.Limits.{max_chunk}
use Rattle.rules.specs.Message.{Bytes}
use Rattle.rules.specs.Session as R
use Rattle.rules.specs.Step.{step}
use Rattle.rules.specs.Notes.{request_in}
use Rattle.bidi_write.specs.View.{request_of}
use Rattle.bidi_write.specs.declared.Refusal.{Refusal}
use Rattle.bidi_write.specs.declared.Refusal.TheVariants as refusal
use Rattle.bidi_write.specs.declared.Request.{Request}
use Rattle.transport.specs.View.{Left, answer_of, handed}
use Rattle.transport.specs.Claim.{Memory, view_of, ValidAt}
use Rattle.std.specs.Prelude.{Some}
use Rattle.std.specs.declared.result.Result.{Result}
use Rattle.std.specs.Prelude.{Ok, Err}
use Rattle.wire_format.specs.Wire.{read_request, shortest}
use Rattle.wire.specs.Answer.{Writes}

-- the call c, made on the memory m, answered o and left the out buffer
module _ (c : R.Call) (m : Memory) (o : Left) (out : Bytes) where
  -- its request r, written from that out buffer: what is answered and left in the buffer
  pub record Sendable (r : Request) (buffer : Bytes) (a : Result ℕ Refusal) (buffer' : Bytes) : Type 0 where
    -- the data is always lent in full, so that 14 says that the buffer is short
    pub answers : a ≡ cond (ltb (length buffer) (shortest (request_of r out))) (Err refusal.ShortBuffer) (Ok (shortest (request_of r out)))
    -- which never happens with 39 bytes more than the out buffer has
    pub room : length out ≤ max_chunk → shortest (request_of r out) ≤ length out + 39
    -- what is written reads as the request in the call's answer
    pub reads : (n : ℕ) → a ≡ Ok n → read_request (take n buffer') ≡ request_in (answer_of o.answer out)
    -- which is the one that the rules send
    pub ruled : ValidAt m → request_in (answer_of o.answer out) ≡ request_in (step c (view_of m)).answer

-- for any call on any input whatever. Says: what is known of it. Of the writing only what its `ensures` cites is known.
abbrev pub AlwaysSendable : (R.Call → Memory → Bytes → Left → Bytes → List ℕ → Bytes → Type 0) → Type 0
AlwaysSendable Says =
    (c : R.Call) (m : Memory) (out : Bytes) (o : Left) (store : Bytes) (table : List ℕ) (out' : Bytes) → Says c m out o store table out'
    → (r : Request) → handed o.answer ≡ Some r
    → (buffer : Bytes) (a : Result ℕ Refusal) (buffer' : Bytes) → Writes r out' buffer a buffer'
    → Sendable c m o out' r buffer a buffer'
