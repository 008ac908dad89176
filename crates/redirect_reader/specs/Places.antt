-- What reading a redirect in place answers: places, and what they are read off the bytes.
use Rattle.std.specs.Prelude.{◌≡◌, [], ℕ, ◌+◌, ◌≤◌, length, Some, None, Result, Ok, Err}
use Rattle.std.specs.Prelude as P
use Rattle.std.proofs.Math.Option.{Option, none, some}
use Rattle.std.specs.Int.{w64}
use Rattle.std.proofs.Common.{to_z}
use Rattle.protobuf_format.specs.Reading.{Bytes}
use Rattle.redirect_format.specs.Redirect.{Generation, generation, Redirect, redirect}
use Rattle.protobuf_fields.specs.Found.{bytes_in}
use Rattle.protobuf_fields.specs.declared.Malformed.{Malformed}
use Rattle.protobuf_fields.specs.declared.Part.{Part}
use Rattle.redirect_reader.specs.declared.Seen.{Seen}

-- ---- read off the bytes

abbrev pub part_in : Bytes → P.Option Part → Option Bytes
part_in s None = none
part_in s (Some p) = some (bytes_in s p)

-- no bytes where there is no part
abbrev pub part_bytes : Bytes → P.Option Part → Bytes
part_bytes s None = []
part_bytes s (Some p) = bytes_in s p

abbrev pub generation_in : P.Option ℕ → Option Generation
generation_in None = none
generation_in (Some bits) = some (generation (to_z w64 bits))

abbrev pub seen_in : Bytes → Seen → Redirect
seen_in s m = redirect (part_in s m.token) (part_in s m.handle) (generation_in m.generation)

abbrev pub answer_in : Result Seen Malformed → Bytes → Option Redirect
answer_in (Ok m) s = some (seen_in s m)
answer_in (Err e) s = none

-- ---- places lie within

abbrev pub PartFits : P.Option Part → ℕ → Type 0
PartFits None end = Unit {0}
PartFits (Some p) end = p.start + p.len ≤ end

abbrev pub SeenFits : Seen → ℕ → Type 0
SeenFits m end = PartFits m.token end × PartFits m.handle end

abbrev pub AnswerFits : Result Seen Malformed → ℕ → Type 0
AnswerFits (Ok m) end = SeenFits m end
AnswerFits (Err e) end = Unit {0}

-- r, read off s, is o; its places lie within s, so that a caller may cut them out
pub record Answers (r : Result Seen Malformed) (s : Bytes) (o : Option Redirect) : Type 0 where
  pub same : answer_in r s ≡ o
  pub fits : AnswerFits r (length s)
