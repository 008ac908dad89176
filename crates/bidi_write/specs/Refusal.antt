-- Refusals: their numbers, and the rows of a test and a refusal that a call goes through in the paper's order.
use Rattle.std.specs.Prelude.{Bool, cond, List, [], ◌∷◌, ℕ}
use Rattle.bidi_write.specs.declared.Refusal.{Refusal}
use Rattle.bidi_write.specs.declared.Refusal.TheVariants as refusal
use Rattle.std.specs.declared.result.Result.{Result}
use Rattle.std.specs.Prelude.{Ok, Err}

-- the number of each refusal: 1 to 13 are document 01's, those from 14 on document 02's
abbrev pub number_of : Refusal → ℕ
number_of refusal.Limits = 1
number_of refusal.ShortMemory = 2
number_of refusal.BadBucket = 3
number_of refusal.TooLong = 4
number_of refusal.Finalized = 5
number_of refusal.WrongPhase = 6
number_of refusal.Ended = 7
number_of refusal.Full = 8
number_of refusal.NoRoom = 9
number_of refusal.PastEnd = 10
number_of refusal.ShortOut = 11
number_of refusal.Closed = 12
number_of refusal.BadVerdict = 13
number_of refusal.ShortBuffer = 14
number_of refusal.Malformed = 15
number_of refusal.TooManyEntries = 16

abbrev pub Rows : Type 0
Rows = List (Bool × Refusal)

-- the first row whose test holds
unfoldable pub checked : Rows → Result (Unit {0}) Refusal
checked [] = Ok tt
checked (row ∷ rows) = cond row.0 (Err row.1) (checked rows)

-- the rows as the rules have them
abbrev pub numbered : Rows → List (Bool × ℕ)
numbered [] = []
numbered (row ∷ rows) = (row.0, number_of row.1) ∷ numbered rows
