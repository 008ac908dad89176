-- What goes over the line: requests, responses, and how a stream breaks (bidi_write.rs and the protobuf messages that it uses).
use Rattle.std.specs.Prelude.{◌&&◌}
use Rattle.rules.specs.Basics.{Bool, true, false, not, Option, none, some, ℕ, length, ltb, eqb, ℤ}
use Rattle.protobuf_format.specs.Reading.{◌>>=◌}
use Rattle.redirect_format.specs.Redirect.{read_redirect}
pub use Rattle.protobuf_format.specs.Reading.{Bytes}
pub use Rattle.redirect_format.specs.Redirect.{Generation, Redirect}

abbrev pub is_given {ℓ} : {A : Type ℓ} → Option A → Bool
is_given = elim [ none ↦ false | some a ↦ true ]

-- Offsets and sizes are ℤ. A metageneration is neither one of them nor a generation.
pub record Metageneration : Type 0 where
  pub number : ℤ

-- the data of a request, with its CRC32C
pub record ChecksummedData : Type 0 where
  pub content : Bytes
  pub crc32c : ℕ

-- A request sent after opening, with every field that it can have. First message and request parameters are absent in all of them.
pub record Request : Type 0 where
  pub write_offset : ℤ
  pub checksummed_data : Option ChecksummedData
  pub object_checksum : Option ℕ  -- the whole object's CRC32C
  pub state_lookup : Bool
  pub flush : Bool
  pub finish_write : Bool

-- how a response tells progress: a size alone, or the object's resource: size, generation, whether its finalize time is set
pub data WriteStatus : Type 0 where
  persisted_size : ℤ → WriteStatus
  resource : ℤ → Generation → Bool → WriteStatus

pub record Response : Type 0 where
  pub write_status : Option WriteStatus
  pub write_handle : Option Bytes

abbrev pub size_of : Option WriteStatus → Option ℤ
size_of = elim [ none ↦ none | some (persisted_size n) ↦ some n | some (resource n g f) ↦ some n ]

abbrev pub is_finalized : Option WriteStatus → Bool
is_finalized = elim [ none ↦ false | some (persisted_size n) ↦ false | some (resource n g f) ↦ f ]

abbrev pub generation_of : Option WriteStatus → Option Generation
generation_of = elim [ none ↦ none | some (persisted_size n) ↦ none | some (resource n g f) ↦ some g ]

-- "A break is an end of stream, a status or another error; a status may hold a redirect." A status has its code and, where it holds one, "the
-- value of a redirect detail as received".
pub data Break : Type 0 where
  end_of_stream : Break
  status : ℕ → Option Bytes → Break
  other_error : Break

abbrev pub detail_in : Break → Option Bytes
detail_in = elim [ end_of_stream ↦ none | status code value ↦ value | other_error ↦ none ]

abbrev pub redirect_in : Break → Option Redirect  -- what its detail says
redirect_in b = detail_in b >>= read_redirect

abbrev pub is_malformed : Break → Bool  -- "the bytes are malformed", whatever the code
is_malformed b = is_given (detail_in b) && not (is_given (redirect_in b))

abbrev pub is_redirect : Break → Bool  -- "It is a redirect only where the code is Aborted too." Aborted is gRPC's 10.
is_redirect = elim [ end_of_stream ↦ false | status code none ↦ false | status code (some value) ↦ eqb code 10 | other_error ↦ false ]

abbrev pub is_end : Break → Bool
is_end = elim [ end_of_stream ↦ true | status code value ↦ false | other_error ↦ false ]

abbrev pub over : ℕ → Option Bytes → Bool  -- given, and over n bytes
over n = elim [ none ↦ false | some b ↦ ltb n (length b) ]

abbrev pub max_handle : ℕ
max_handle = 1024

abbrev pub max_token : ℕ
max_token = 512
