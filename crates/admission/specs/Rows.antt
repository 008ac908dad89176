-- The rows of an opening and of each call after it: "Opening checks 1 to 5 in order. Later calls check 7, 12, 6, 13, 4, 11, 8, 9, 10, as far as they apply",
-- and 15 "between 13 and 4". The phase is its number in the rules.
use Rattle.std.specs.Prelude.{Bool, not, ◌&&◌, ◌||◌, [], ◌∷◌, ℕ, ◌+◌, ◌-◌, ◌^◌, leb, ltb, eqb, ℤ}
use Rattle.rules.specs.Limits.{max_chunk, max_capacity}
use Rattle.bidi_write.specs.Numbers.{to_ℕ}
use Rattle.bidi_write.specs.Refusal.{Rows, checked}
use Rattle.bidi_write.specs.declared.Refusal.{Refusal}
use Rattle.bidi_write.specs.declared.Refusal.TheVariants as refusal
use Rattle.std.specs.declared.result.Result.{Result}

-- "C is 0 or above 2,097,152, or capacity above 1,073,741,824"
abbrev pub bad_limits : (limit asked : ℕ) → Bool
bad_limits limit asked = eqb limit 0 || ltb max_chunk limit || ltb max_capacity asked

-- an opening whose limits are good: a 4 for each of object, token, the two handles and payload
abbrev pub open_rows : (short bucket object token handle answer payload finalized : Bool) → Rows
open_rows short bucket object token handle answer payload finalized =
    (short, refusal.ShortMemory)
    ∷ (bucket, refusal.BadBucket)
    ∷ (object, refusal.TooLong)
    ∷ (token, refusal.TooLong)
    ∷ (handle, refusal.TooLong)
    ∷ (answer, refusal.TooLong)
    ∷ (payload, refusal.TooLong)
    ∷ (finalized, refusal.Finalized)
    ∷ []

-- an append, flush or finalise that sends or not, and cuts a chunk or not
abbrev pub upload_rows : (phase : ℕ) (finalized sends cuts short full room past : Bool) → Rows
upload_rows phase finalized sends cuts short full room past =
    (eqb phase 6, refusal.Ended)
    ∷ (eqb phase 5 || finalized, refusal.Closed)
    ∷ (sends && not (eqb phase 1), refusal.WrongPhase)
    ∷ (cuts && short, refusal.ShortOut)
    ∷ (sends && full, refusal.Full)
    ∷ (room, refusal.NoRoom)
    ∷ (cuts && past, refusal.PastEnd)
    ∷ []

abbrev pub upload_check : (phase : ℕ) (finalized sends cuts short full room past : Bool) → Result (Unit {0}) Refusal
upload_check phase finalized sends cuts short full room past = checked (upload_rows phase finalized sends cuts short full room past)

-- by a session's numbers, for a chunk of n bytes
abbrev pub upload_tests : (phase : ℕ) (finalized : Bool) (limit capacity stored : ℕ) (offset : ℤ) (sends cuts : Bool) (n out : ℕ) (room : Bool) → Result (Unit {0}) Refusal
upload_tests phase finalized limit capacity stored offset sends cuts n out room =
    upload_check phase finalized sends cuts (ltb out limit) (leb capacity stored) room (ltb (2 ^ 63 - 1) (to_ℕ offset + n))

abbrev pub close_rows : ℕ → Bool → Rows
close_rows phase full = (eqb phase 6, refusal.Ended) ∷ (not (eqb phase 1), refusal.WrongPhase) ∷ (full, refusal.Full) ∷ []

-- a response or a handshake
abbrev pub message_rows : (ended phase long : Bool) → Rows
message_rows ended phase long = (ended, refusal.Ended) ∷ (phase, refusal.WrongPhase) ∷ (long, refusal.TooLong) ∷ []

abbrev pub break_rows : (phase : ℕ) (malformed long : Bool) → Rows
break_rows phase malformed long =
    (eqb phase 6, refusal.Ended)
    ∷ (not (eqb phase 1 || eqb phase 5), refusal.WrongPhase)
    ∷ (malformed, refusal.Malformed)
    ∷ (long, refusal.TooLong)
    ∷ []

abbrev pub judge_rows : ℕ → Bool → Rows
judge_rows phase valid = (eqb phase 6, refusal.Ended) ∷ (not (eqb phase 2), refusal.WrongPhase) ∷ (not valid, refusal.BadVerdict) ∷ []

abbrev pub fail_rows : (phase : ℕ) (valid malformed long : Bool) → Rows
fail_rows phase valid malformed long =
    (eqb phase 6, refusal.Ended)
    ∷ (not (eqb phase 3), refusal.WrongPhase)
    ∷ (not valid, refusal.BadVerdict)
    ∷ (malformed, refusal.Malformed)
    ∷ (long, refusal.TooLong)
    ∷ []

abbrev pub next_rows : ℕ → Bool → Rows
next_rows phase short = (eqb phase 6, refusal.Ended) ∷ (not (eqb phase 4), refusal.WrongPhase) ∷ (short, refusal.ShortOut) ∷ []

-- a send reported failed
abbrev pub unsent_rows : ℕ → Bool → Rows
unsent_rows phase nothing = (eqb phase 6, refusal.Ended) ∷ (nothing, refusal.WrongPhase) ∷ []
