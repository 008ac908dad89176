-- What writing a request answers, and what it leaves in the buffer.
use Rattle.std.specs.Prelude.{◌≡◌, ℕ, ◌≤◌, Bool, cond, ◌||◌, ◌++◌, length, take, drop, nat_lt, Ok, Err}
use Rattle.std.proofs.Math.Option.{some}
use Rattle.rules.specs.Message.{Bytes}
use Rattle.bidi_write.specs.View.{length_of, request_of}
use Rattle.bidi_write.specs.declared.Refusal.{Refusal}
use Rattle.bidi_write.specs.declared.Refusal.TheVariants as refusal
use Rattle.bidi_write.specs.declared.Request.{Request}
use Rattle.wire_format.specs.Wire.{read_request, wire, shortest, Shortest}
use Rattle.std.specs.declared.result.Result.{Result}

-- "14 exactly when the buffer is shorter than the shortest such message, or the data lent than the request says, checked before a byte is written."
unfoldable pub refuses : Request → (lent buffer : Bytes) → Bool
refuses r lent buffer = nat_lt (length lent) (length_of r.«data») || nat_lt (length buffer) (shortest (request_of r lent))

-- "what is written fills the buffer's front, its rest stays, and the answer is the count"
unfoldable pub answered : Request → (lent buffer : Bytes) → Result ℕ Refusal
answered r lent buffer = cond (refuses r lent buffer) (Err refusal.ShortBuffer) (Ok (shortest (request_of r lent)))

unfoldable pub written : Request → (lent buffer : Bytes) → Bytes
written r lent buffer = cond (refuses r lent buffer) buffer (wire (request_of r lent) ++ drop (shortest (request_of r lent)) buffer)

pub record Writes (r : Request) (lent buffer : Bytes) (a : Result ℕ Refusal) (buffer' : Bytes) : Type 0 where
  pub answer_is : a ≡ answered r lent buffer
  pub buffer_is : buffer' ≡ written r lent buffer
  -- "Reading the bytes by the protobuf rules must yield that request and no other."
  pub reads : (n : ℕ) → a ≡ Ok n → read_request (take n buffer') ≡ some (request_of r lent)
  -- so the front can be cut off
  pub within : (n : ℕ) → a ≡ Ok n → n ≤ length buffer'
  -- no message that reads as the request is shorter
  pub least : Shortest (request_of r lent) (shortest (request_of r lent))
