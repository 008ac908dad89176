-- Q-3, "Redirects from bytes": the bytes of google.storage.v2.BidiWriteObjectRedirectedError, and of the BidiWriteHandle in it.
use Rattle.std.specs.Prelude.{cond, List, [], ◌∷◌, ℕ, ℤ}
use Rattle.std.proofs.Math.Option.{Option, none, some, get_or}
use Rattle.std.specs.Int.{w64}
use Rattle.std.proofs.Common.{to_z, of_z}
use Rattle.protobuf_format.specs.Reading.{Bytes, ◌>>=◌}
use Rattle.protobuf_format.specs.Field.{int, bytes, Field, field, write}
use Rattle.protobuf_format.specs.Message.{Row, row, as_int, as_bytes, merge}
use Rattle.utf8.specs.Utf8.{utf8}

-- "A generation and an offset are both signed 64-bit numbers of unlike meaning, and neither may be passed for the other."
pub record Generation : Type 0 where
  pub number : ℤ

-- the detail of a status that redirects
pub record Redirect : Type 0 where
  pub routing_token : Option Bytes
  pub write_handle : Option Bytes
  pub generation : Option Generation

abbrev pub generation : ℤ → Generation
generation z = record { number = z }

abbrev pub redirect : Option Bytes → Option Bytes → Option Generation → Redirect
redirect t h g = record { routing_token = t; write_handle = h; generation = g }

-- ---- reading: "Unknown fields are skipped, the last of a repeated field counts, a repeated handle message is merged."
-- "A group, wire type 6 or 7, .. field number 0 or above 2^29 − 1, a varint past ten bytes or 64 bits, .. or a field cut off by the end" is malformed
-- as a field already (`read_field`), whatever its number and in the handle too; "a wrong wire type on a known field" by its row (`as_bytes`, `as_int`).

-- a handle is the bytes of its one field
abbrev pub handle_rows : List (Row Bytes)
handle_rows = row 1 (as_bytes (λ b h. some b)) ∷ []

-- "a token that isn't UTF-8", the last or not
abbrev pub set_token : Bytes → Redirect → Option Redirect
set_token b m = cond (utf8 b) (some (redirect (some b) m.write_handle m.generation)) none

-- merged into the handle before it, or into one of no bytes
abbrev pub set_handle : Bytes → Redirect → Option Redirect
set_handle b m = merge handle_rows b (get_or m.write_handle []) >>= λ h. some (redirect m.routing_token (some h) m.generation)

-- a number below 0 is its two's complement in 64 bits
abbrev pub set_generation : ℕ → Redirect → Redirect
set_generation n m = redirect m.routing_token m.write_handle (some (generation (to_z w64 n)))

unfoldable pub redirect_rows : List (Row Redirect)
redirect_rows = row 1 (as_bytes set_token) ∷ row 2 (as_bytes set_handle) ∷ row 3 (as_int set_generation) ∷ []

-- no field yet
abbrev pub bare : Redirect
bare = redirect none none none

-- none where the bytes are malformed
unfoldable pub read_redirect : Bytes → Option Redirect
read_redirect input = merge redirect_rows input bare

-- ---- an encoding with all three fields

abbrev pub token_field : Bytes → Field
token_field t = field 1 (bytes t)

abbrev pub handle_field : Bytes → Field
handle_field h = field 2 (bytes (write (field 1 (bytes h) ∷ [])))

abbrev pub generation_field : ℤ → Field
generation_field g = field 3 (int (of_z w64 g))

-- the six orders of three
abbrev pub orders : {A : Type 0} → A → A → A → List (List A)
orders a b c =
    (a ∷ b ∷ c ∷ [])
    ∷ (a ∷ c ∷ b ∷ [])
    ∷ (b ∷ a ∷ c ∷ [])
    ∷ (b ∷ c ∷ a ∷ [])
    ∷ (c ∷ a ∷ b ∷ [])
    ∷ (c ∷ b ∷ a ∷ [])
    ∷ []
