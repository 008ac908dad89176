-- What the bench program opens with and is told.
use Rattle.std.specs.Prelude.{◌∷◌, ◌++◌}
use Rattle.rules.specs.Basics.{Option, none, some, [], ℕ, ℤ, pos}
use Rattle.rules.specs.Message.{Bytes, persisted_size, Response}
use Rattle.rules.specs.Spec.{write_form}
use Rattle.rules.specs.Opening.{Opening, bucket_prefix}

abbrev pub sized : ℤ → Response  -- "responses hold a size alone"
sized n = record { write_status = some (persisted_size n); write_handle = none }

-- C, the capacity asked for, the response's size, the payload. "Bucket `projects/_/buckets/b`, object `o`, last size 0; store 32,768 bytes, 64 slots"
abbrev pub opening : ℕ → ℕ → ℤ → Option Bytes → Opening
opening limit capacity p payload = record {
  limit = limit;
  asked = some capacity;
  store_length = 32768;
  slots = 64;
  spec = write_form (record { bucket = bucket_prefix ++ (98 ∷ []); object = 111 ∷ []; if_metageneration_match = none; if_metageneration_not_match = none }) none;
  response = sized p;
  checksum = none;
  payload = payload;
  last_persisted_size = pos 0;
}
