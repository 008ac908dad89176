-- Computed examples, for each rule of Q-3: readings of bytes, and beside each what the crate's own decoder makes of the same bytes. It skips
-- groups of unknown fields, which the request has malformed.
-- Assumes nothing.
use mathlib.Core.Path.{◌≡◌, refl}
use mathlib.Core.List.{[], ◌∷◌}
use mathlib.Core.Option.{none, some}
use lib.IntN.{pos, negsuc}
use Rattle.protobuf_format.specs.Varint.{groups, varint, groups_of}
use Rattle.protobuf_format.specs.Field.{part, read_value, read_field, read_fields, fields, value_bytes, field_bytes, write}
use Rattle.protobuf_format.specs.Message.{put, put_all, merge}
use Rattle.utf8.specs.Utf8.{after, goes_on}
use Rattle.redirect_format.specs.Redirect.{generation, redirect, redirect_rows, read_redirect, token_field, handle_field, generation_field}

-- what they compute with

reading : Unit {0}
unfolding read_redirect redirect_rows merge put put_all fields read_fields read_field read_value part varint groups goes_on after
reading = tt

writing : Unit {0}
unfolding write field_bytes value_bytes groups_of
writing = tt

-- ---- order and repetition

-- the empty message: no field
-- the crate: token=none handle=none generation=none
no_bytes : read_redirect [] ≡ some (redirect none none none)
no_bytes = unfold reading in refl

-- every field
-- the crate: token=74 handle=68 generation=5
every_field : read_redirect (0x0a ∷ 0x01 ∷ 0x74 ∷ 0x12 ∷ 0x03 ∷ 0x0a ∷ 0x01 ∷ 0x68 ∷ 0x18 ∷ 0x05 ∷ [])
    ≡ some (redirect (some (0x74 ∷ [])) (some (0x68 ∷ [])) (some (generation (pos 5))))
every_field = unfold reading in refl

-- fields in another order
-- the crate: token=74 handle=68 generation=5
any_order : read_redirect (0x18 ∷ 0x05 ∷ 0x12 ∷ 0x03 ∷ 0x0a ∷ 0x01 ∷ 0x68 ∷ 0x0a ∷ 0x01 ∷ 0x74 ∷ [])
    ≡ some (redirect (some (0x74 ∷ [])) (some (0x68 ∷ [])) (some (generation (pos 5))))
any_order = unfold reading in refl

-- the last token counts
-- the crate: token=62 handle=none generation=none
last_token : read_redirect (0x0a ∷ 0x01 ∷ 0x61 ∷ 0x0a ∷ 0x01 ∷ 0x62 ∷ []) ≡ some (redirect (some (0x62 ∷ [])) none none)
last_token = unfold reading in refl

-- a last token of no bytes counts too
-- the crate: token= handle=none generation=none
last_token-empty : read_redirect (0x0a ∷ 0x01 ∷ 0x61 ∷ 0x0a ∷ 0x00 ∷ []) ≡ some (redirect (some []) none none)
last_token-empty = unfold reading in refl

-- the last generation counts
-- the crate: token=none handle=none generation=6
last_generation : read_redirect (0x18 ∷ 0x05 ∷ 0x18 ∷ 0x06 ∷ []) ≡ some (redirect none none (some (generation (pos 6))))
last_generation = unfold reading in refl

-- a last generation of 0 counts too
-- the crate: token=none handle=none generation=0
last_generation-zero : read_redirect (0x18 ∷ 0x05 ∷ 0x18 ∷ 0x00 ∷ []) ≡ some (redirect none none (some (generation (pos 0))))
last_generation-zero = unfold reading in refl

-- fields that come again, others between them
-- the crate: token=62 handle=68 generation=6
repeated_apart : read_redirect (0x0a ∷ 0x01 ∷ 0x61 ∷ 0x18 ∷ 0x05 ∷ 0x12 ∷ 0x03 ∷ 0x0a ∷ 0x01 ∷ 0x68 ∷ 0x0a ∷ 0x01 ∷ 0x62 ∷ 0x18 ∷ 0x06 ∷ [])
    ≡ some (redirect (some (0x62 ∷ [])) (some (0x68 ∷ [])) (some (generation (pos 6))))
repeated_apart = unfold reading in refl

-- ---- the handle is merged

-- a handle
-- the crate: token=none handle=68 generation=none
handle-alone : read_redirect (0x12 ∷ 0x03 ∷ 0x0a ∷ 0x01 ∷ 0x68 ∷ []) ≡ some (redirect none (some (0x68 ∷ [])) none)
handle-alone = unfold reading in refl

-- a message of no bytes is a handle of no bytes
-- the crate: token=none handle= generation=none
handle-nothing : read_redirect (0x12 ∷ 0x00 ∷ []) ≡ some (redirect none (some []) none)
handle-nothing = unfold reading in refl

-- one without field 1 likewise
-- the crate: token=none handle= generation=none
handle-unknown : read_redirect (0x12 ∷ 0x02 ∷ 0x10 ∷ 0x07 ∷ []) ≡ some (redirect none (some []) none)
handle-unknown = unfold reading in refl

-- field 1 of no bytes likewise
-- the crate: token=none handle= generation=none
handle-empty : read_redirect (0x12 ∷ 0x02 ∷ 0x0a ∷ 0x00 ∷ []) ≡ some (redirect none (some []) none)
handle-empty = unfold reading in refl

-- its bytes need not be UTF-8
-- the crate: token=none handle=ff generation=none
handle-not-utf8 : read_redirect (0x12 ∷ 0x03 ∷ 0x0a ∷ 0x01 ∷ 0xff ∷ []) ≡ some (redirect none (some (0xff ∷ [])) none)
handle-not-utf8 = unfold reading in refl

-- the last field 1 counts
-- the crate: token=none handle=62 generation=none
handle-again : read_redirect (0x12 ∷ 0x03 ∷ 0x0a ∷ 0x01 ∷ 0x61 ∷ 0x12 ∷ 0x03 ∷ 0x0a ∷ 0x01 ∷ 0x62 ∷ []) ≡ some (redirect none (some (0x62 ∷ [])) none)
handle-again = unfold reading in refl

-- in one message too
-- the crate: token=none handle=62 generation=none
handle-again_inside : read_redirect (0x12 ∷ 0x06 ∷ 0x0a ∷ 0x01 ∷ 0x61 ∷ 0x0a ∷ 0x01 ∷ 0x62 ∷ []) ≡ some (redirect none (some (0x62 ∷ [])) none)
handle-again_inside = unfold reading in refl

-- a second message of no bytes keeps the first's
-- the crate: token=none handle=68 generation=none
handle_kept : read_redirect (0x12 ∷ 0x03 ∷ 0x0a ∷ 0x01 ∷ 0x68 ∷ 0x12 ∷ 0x00 ∷ []) ≡ some (redirect none (some (0x68 ∷ [])) none)
handle_kept = unfold reading in refl

-- one without field 1 likewise
-- the crate: token=none handle=68 generation=none
handle_kept_unknown : read_redirect (0x12 ∷ 0x03 ∷ 0x0a ∷ 0x01 ∷ 0x68 ∷ 0x12 ∷ 0x02 ∷ 0x10 ∷ 0x07 ∷ []) ≡ some (redirect none (some (0x68 ∷ [])) none)
handle_kept_unknown = unfold reading in refl

-- one with field 1 of no bytes does not
-- the crate: token=none handle= generation=none
handle_emptied : read_redirect (0x12 ∷ 0x03 ∷ 0x0a ∷ 0x01 ∷ 0x68 ∷ 0x12 ∷ 0x02 ∷ 0x0a ∷ 0x00 ∷ []) ≡ some (redirect none (some []) none)
handle_emptied = unfold reading in refl

-- a first message of no bytes adds nothing
-- the crate: token=none handle=68 generation=none
handle_late : read_redirect (0x12 ∷ 0x00 ∷ 0x12 ∷ 0x03 ∷ 0x0a ∷ 0x01 ∷ 0x68 ∷ []) ≡ some (redirect none (some (0x68 ∷ [])) none)
handle_late = unfold reading in refl

-- ---- numbers

-- a generation of 0
-- the crate: token=none handle=none generation=0
generation-zero : read_redirect (0x18 ∷ 0x00 ∷ []) ≡ some (redirect none none (some (generation (pos 0))))
generation-zero = unfold reading in refl

-- the greatest generation
-- the crate: token=none handle=none generation=9223372036854775807
generation_greatest : read_redirect (0x18 ∷ 0xff ∷ 0xff ∷ 0xff ∷ 0xff ∷ 0xff ∷ 0xff ∷ 0xff ∷ 0xff ∷ 0x7f ∷ [])
    ≡ some (redirect none none (some (generation (pos 0x7fffffffffffffff))))
generation_greatest = unfold reading in refl

-- the least generation, in ten bytes
-- the crate: token=none handle=none generation=-9223372036854775808
generation-least : read_redirect (0x18 ∷ 0x80 ∷ 0x80 ∷ 0x80 ∷ 0x80 ∷ 0x80 ∷ 0x80 ∷ 0x80 ∷ 0x80 ∷ 0x80 ∷ 0x01 ∷ [])
    ≡ some (redirect none none (some (generation (negsuc 0x7fffffffffffffff))))
generation-least = unfold reading in refl

-- a generation of -1, in ten bytes
-- the crate: token=none handle=none generation=-1
generation-below : read_redirect (0x18 ∷ 0xff ∷ 0xff ∷ 0xff ∷ 0xff ∷ 0xff ∷ 0xff ∷ 0xff ∷ 0xff ∷ 0xff ∷ 0x01 ∷ [])
    ≡ some (redirect none none (some (generation (negsuc 0))))
generation-below = unfold reading in refl

-- a generation in more bytes than it needs
-- the crate: token=none handle=none generation=5
generation_longer : read_redirect (0x18 ∷ 0x85 ∷ 0x00 ∷ []) ≡ some (redirect none none (some (generation (pos 5))))
generation_longer = unfold reading in refl

-- in ten
-- the crate: token=none handle=none generation=5
generation-ten : read_redirect (0x18 ∷ 0x85 ∷ 0x80 ∷ 0x80 ∷ 0x80 ∷ 0x80 ∷ 0x80 ∷ 0x80 ∷ 0x80 ∷ 0x80 ∷ 0x00 ∷ [])
    ≡ some (redirect none none (some (generation (pos 5))))
generation-ten = unfold reading in refl

-- a key in more bytes than it needs
-- the crate: token=74 handle=none generation=none
key_longer : read_redirect (0x8a ∷ 0x00 ∷ 0x01 ∷ 0x74 ∷ []) ≡ some (redirect (some (0x74 ∷ [])) none none)
key_longer = unfold reading in refl

-- a length in more bytes than it needs
-- the crate: token=74 handle=none generation=none
length_longer : read_redirect (0x0a ∷ 0x81 ∷ 0x00 ∷ 0x74 ∷ []) ≡ some (redirect (some (0x74 ∷ [])) none none)
length_longer = unfold reading in refl

-- a varint of eleven bytes
-- the crate: malformed
varint_eleven : read_redirect (0x18 ∷ 0x80 ∷ 0x80 ∷ 0x80 ∷ 0x80 ∷ 0x80 ∷ 0x80 ∷ 0x80 ∷ 0x80 ∷ 0x80 ∷ 0x80 ∷ 0x00 ∷ []) ≡ none
varint_eleven = unfold reading in refl

-- a varint over 64 bits: its tenth byte is 2
-- the crate: malformed
varint-over : read_redirect (0x18 ∷ 0x80 ∷ 0x80 ∷ 0x80 ∷ 0x80 ∷ 0x80 ∷ 0x80 ∷ 0x80 ∷ 0x80 ∷ 0x80 ∷ 0x02 ∷ []) ≡ none
varint-over = unfold reading in refl

-- a varint of eleven bytes in an unknown field
-- the crate: malformed
varint_eleven_unknown : read_redirect (0x20 ∷ 0x80 ∷ 0x80 ∷ 0x80 ∷ 0x80 ∷ 0x80 ∷ 0x80 ∷ 0x80 ∷ 0x80 ∷ 0x80 ∷ 0x80 ∷ 0x00 ∷ []) ≡ none
varint_eleven_unknown = unfold reading in refl

-- a varint over 64 bits in an unknown field
-- the crate: malformed
varint-over-unknown : read_redirect (0x20 ∷ 0x80 ∷ 0x80 ∷ 0x80 ∷ 0x80 ∷ 0x80 ∷ 0x80 ∷ 0x80 ∷ 0x80 ∷ 0x80 ∷ 0x02 ∷ []) ≡ none
varint-over-unknown = unfold reading in refl

-- a key of eleven bytes
-- the crate: malformed
key_eleven : read_redirect (0x98 ∷ 0x80 ∷ 0x80 ∷ 0x80 ∷ 0x80 ∷ 0x80 ∷ 0x80 ∷ 0x80 ∷ 0x80 ∷ 0x80 ∷ 0x00 ∷ 0x05 ∷ []) ≡ none
key_eleven = unfold reading in refl

-- a key over 64 bits
-- the crate: malformed
key_over : read_redirect (0x98 ∷ 0x80 ∷ 0x80 ∷ 0x80 ∷ 0x80 ∷ 0x80 ∷ 0x80 ∷ 0x80 ∷ 0x80 ∷ 0x02 ∷ 0x05 ∷ []) ≡ none
key_over = unfold reading in refl

-- a length of eleven bytes
-- the crate: malformed
length_eleven : read_redirect (0x0a ∷ 0x81 ∷ 0x80 ∷ 0x80 ∷ 0x80 ∷ 0x80 ∷ 0x80 ∷ 0x80 ∷ 0x80 ∷ 0x80 ∷ 0x80 ∷ 0x00 ∷ 0x74 ∷ []) ≡ none
length_eleven = unfold reading in refl

-- a length over 64 bits
-- the crate: malformed
length_over : read_redirect (0x0a ∷ 0x81 ∷ 0x80 ∷ 0x80 ∷ 0x80 ∷ 0x80 ∷ 0x80 ∷ 0x80 ∷ 0x80 ∷ 0x80 ∷ 0x02 ∷ 0x74 ∷ []) ≡ none
length_over = unfold reading in refl

-- ---- a token is UTF-8

-- a token of no bytes
-- the crate: token= handle=none generation=none
token-empty : read_redirect (0x0a ∷ 0x00 ∷ []) ≡ some (redirect (some []) none none)
token-empty = unfold reading in refl

-- one of characters of two to four bytes
-- the crate: token=c3a9e282acf09f9880 handle=none generation=none
token-utf8 : read_redirect (0x0a ∷ 0x09 ∷ 0xc3 ∷ 0xa9 ∷ 0xe2 ∷ 0x82 ∷ 0xac ∷ 0xf0 ∷ 0x9f ∷ 0x98 ∷ 0x80 ∷ [])
    ≡ some (redirect (some (0xc3 ∷ 0xa9 ∷ 0xe2 ∷ 0x82 ∷ 0xac ∷ 0xf0 ∷ 0x9f ∷ 0x98 ∷ 0x80 ∷ [])) none none)
token-utf8 = unfold reading in refl

-- a token that is not UTF-8
-- the crate: malformed
token-not-utf8 : read_redirect (0x0a ∷ 0x01 ∷ 0x80 ∷ []) ≡ none
token-not-utf8 = unfold reading in refl

-- though a later one is
-- the crate: malformed
token-not-utf8-first : read_redirect (0x0a ∷ 0x01 ∷ 0x80 ∷ 0x0a ∷ 0x01 ∷ 0x74 ∷ []) ≡ none
token-not-utf8-first = unfold reading in refl

-- though an earlier one is
-- the crate: malformed
token-not-utf8_last : read_redirect (0x0a ∷ 0x01 ∷ 0x74 ∷ 0x0a ∷ 0x01 ∷ 0x80 ∷ []) ≡ none
token-not-utf8_last = unfold reading in refl

-- an overlong form
-- the crate: malformed
token-overlong : read_redirect (0x0a ∷ 0x02 ∷ 0xc0 ∷ 0x80 ∷ []) ≡ none
token-overlong = unfold reading in refl

-- a surrogate
-- the crate: malformed
token_surrogate : read_redirect (0x0a ∷ 0x03 ∷ 0xed ∷ 0xa0 ∷ 0x80 ∷ []) ≡ none
token_surrogate = unfold reading in refl

-- above 10FFFF
-- the crate: malformed
token-above : read_redirect (0x0a ∷ 0x04 ∷ 0xf4 ∷ 0x90 ∷ 0x80 ∷ 0x80 ∷ []) ≡ none
token-above = unfold reading in refl

-- a character cut off by the token's end, though the next token goes on with it
-- the crate: malformed
token-character-cut : read_redirect (0x0a ∷ 0x01 ∷ 0xc3 ∷ 0x0a ∷ 0x01 ∷ 0xa9 ∷ []) ≡ none
token-character-cut = unfold reading in refl

-- ---- unknown fields are skipped

-- field 4, a varint
-- the crate: token=none handle=none generation=none
unknown-varint : read_redirect (0x20 ∷ 0x01 ∷ []) ≡ some (redirect none none none)
unknown-varint = unfold reading in refl

-- field 4, eight bytes
-- the crate: token=none handle=none generation=none
unknown-fixed64 : read_redirect (0x21 ∷ 0x01 ∷ 0x02 ∷ 0x03 ∷ 0x04 ∷ 0x05 ∷ 0x06 ∷ 0x07 ∷ 0x08 ∷ []) ≡ some (redirect none none none)
unknown-fixed64 = unfold reading in refl

-- field 4, bytes: what is in them is not read
-- the crate: token=none handle=none generation=none
unknown-bytes : read_redirect (0x22 ∷ 0x01 ∷ 0x80 ∷ []) ≡ some (redirect none none none)
unknown-bytes = unfold reading in refl

-- field 4, four bytes
-- the crate: token=none handle=none generation=none
unknown-fixed32 : read_redirect (0x25 ∷ 0x01 ∷ 0x02 ∷ 0x03 ∷ 0x04 ∷ []) ≡ some (redirect none none none)
unknown-fixed32 = unfold reading in refl

-- an unknown field between others
-- the crate: token=74 handle=none generation=5
unknown_between : read_redirect (0x0a ∷ 0x01 ∷ 0x74 ∷ 0x20 ∷ 0x01 ∷ 0x18 ∷ 0x05 ∷ []) ≡ some (redirect (some (0x74 ∷ [])) none (some (generation (pos 5))))
unknown_between = unfold reading in refl

-- the highest field number, 2^29 - 1
-- the crate: token=none handle=none generation=none
unknown_highest : read_redirect (0xf8 ∷ 0xff ∷ 0xff ∷ 0xff ∷ 0x0f ∷ 0x01 ∷ []) ≡ some (redirect none none none)
unknown_highest = unfold reading in refl

-- in the handle: field 2, a varint
-- the crate: token=none handle=68 generation=none
unknown-varint_inside : read_redirect (0x12 ∷ 0x05 ∷ 0x10 ∷ 0x01 ∷ 0x0a ∷ 0x01 ∷ 0x68 ∷ []) ≡ some (redirect none (some (0x68 ∷ [])) none)
unknown-varint_inside = unfold reading in refl

-- in the handle: field 2, eight bytes
-- the crate: token=none handle=68 generation=none
unknown-fixed64_inside : read_redirect (0x12 ∷ 0x0c ∷ 0x11 ∷ 0x01 ∷ 0x02 ∷ 0x03 ∷ 0x04 ∷ 0x05 ∷ 0x06 ∷ 0x07 ∷ 0x08 ∷ 0x0a ∷ 0x01 ∷ 0x68 ∷ [])
    ≡ some (redirect none (some (0x68 ∷ [])) none)
unknown-fixed64_inside = unfold reading in refl

-- in the handle: field 2, bytes
-- the crate: token=none handle=68 generation=none
unknown-bytes_inside : read_redirect (0x12 ∷ 0x06 ∷ 0x12 ∷ 0x01 ∷ 0x80 ∷ 0x0a ∷ 0x01 ∷ 0x68 ∷ []) ≡ some (redirect none (some (0x68 ∷ [])) none)
unknown-bytes_inside = unfold reading in refl

-- in the handle: field 2, four bytes
-- the crate: token=none handle=68 generation=none
unknown-fixed32_inside : read_redirect (0x12 ∷ 0x08 ∷ 0x15 ∷ 0x01 ∷ 0x02 ∷ 0x03 ∷ 0x04 ∷ 0x0a ∷ 0x01 ∷ 0x68 ∷ []) ≡ some (redirect none (some (0x68 ∷ [])) none)
unknown-fixed32_inside = unfold reading in refl

-- in the handle: the highest field number
-- the crate: token=none handle=68 generation=none
unknown_highest_inside : read_redirect (0x12 ∷ 0x09 ∷ 0xf8 ∷ 0xff ∷ 0xff ∷ 0xff ∷ 0x0f ∷ 0x01 ∷ 0x0a ∷ 0x01 ∷ 0x68 ∷ [])
    ≡ some (redirect none (some (0x68 ∷ [])) none)
unknown_highest_inside = unfold reading in refl

-- ---- another wire type on a known field is malformed

-- a token as a varint
-- the crate: malformed
token-varint : read_redirect (0x08 ∷ 0x01 ∷ []) ≡ none
token-varint = unfold reading in refl

-- a token as eight bytes
-- the crate: malformed
token-fixed64 : read_redirect (0x09 ∷ 0x01 ∷ 0x02 ∷ 0x03 ∷ 0x04 ∷ 0x05 ∷ 0x06 ∷ 0x07 ∷ 0x08 ∷ []) ≡ none
token-fixed64 = unfold reading in refl

-- a token as four bytes
-- the crate: malformed
token-fixed32 : read_redirect (0x0d ∷ 0x01 ∷ 0x02 ∷ 0x03 ∷ 0x04 ∷ []) ≡ none
token-fixed32 = unfold reading in refl

-- a handle as a varint
-- the crate: malformed
handle-varint : read_redirect (0x10 ∷ 0x01 ∷ []) ≡ none
handle-varint = unfold reading in refl

-- a handle as eight bytes
-- the crate: malformed
handle-fixed64 : read_redirect (0x11 ∷ 0x01 ∷ 0x02 ∷ 0x03 ∷ 0x04 ∷ 0x05 ∷ 0x06 ∷ 0x07 ∷ 0x08 ∷ []) ≡ none
handle-fixed64 = unfold reading in refl

-- a handle as four bytes
-- the crate: malformed
handle-fixed32 : read_redirect (0x15 ∷ 0x01 ∷ 0x02 ∷ 0x03 ∷ 0x04 ∷ []) ≡ none
handle-fixed32 = unfold reading in refl

-- a generation as eight bytes
-- the crate: malformed
generation-fixed64 : read_redirect (0x19 ∷ 0x01 ∷ 0x02 ∷ 0x03 ∷ 0x04 ∷ 0x05 ∷ 0x06 ∷ 0x07 ∷ 0x08 ∷ []) ≡ none
generation-fixed64 = unfold reading in refl

-- a generation as bytes
-- the crate: malformed
generation-bytes : read_redirect (0x1a ∷ 0x01 ∷ 0x05 ∷ []) ≡ none
generation-bytes = unfold reading in refl

-- a generation as four bytes
-- the crate: malformed
generation-fixed32 : read_redirect (0x1d ∷ 0x01 ∷ 0x02 ∷ 0x03 ∷ 0x04 ∷ []) ≡ none
generation-fixed32 = unfold reading in refl

-- though a later field is right
-- the crate: malformed
token_type_first : read_redirect (0x08 ∷ 0x01 ∷ 0x0a ∷ 0x01 ∷ 0x74 ∷ []) ≡ none
token_type_first = unfold reading in refl

-- in the handle: field 1 as a varint
-- the crate: malformed
handle-varint_inside : read_redirect (0x12 ∷ 0x02 ∷ 0x08 ∷ 0x01 ∷ []) ≡ none
handle-varint_inside = unfold reading in refl

-- in the handle: field 1 as eight bytes
-- the crate: malformed
handle-fixed64_inside : read_redirect (0x12 ∷ 0x09 ∷ 0x09 ∷ 0x01 ∷ 0x02 ∷ 0x03 ∷ 0x04 ∷ 0x05 ∷ 0x06 ∷ 0x07 ∷ 0x08 ∷ []) ≡ none
handle-fixed64_inside = unfold reading in refl

-- in the handle: field 1 as four bytes
-- the crate: malformed
handle-fixed32_inside : read_redirect (0x12 ∷ 0x05 ∷ 0x0d ∷ 0x01 ∷ 0x02 ∷ 0x03 ∷ 0x04 ∷ []) ≡ none
handle-fixed32_inside = unfold reading in refl

-- though a later message is right
-- the crate: malformed
handle_type_first : read_redirect (0x12 ∷ 0x02 ∷ 0x08 ∷ 0x01 ∷ 0x12 ∷ 0x03 ∷ 0x0a ∷ 0x01 ∷ 0x68 ∷ []) ≡ none
handle_type_first = unfold reading in refl

-- ---- groups, wire types 6 and 7

-- a group, field 4
-- the crate: token=none handle=none generation=none
group_unknown : read_redirect (0x23 ∷ 0x24 ∷ []) ≡ none
group_unknown = unfold reading in refl

-- a group with a field in it
-- the crate: token=none handle=none generation=none
group_with_field : read_redirect (0x23 ∷ 0x20 ∷ 0x01 ∷ 0x24 ∷ []) ≡ none
group_with_field = unfold reading in refl

-- a group in place of the token
-- the crate: malformed
group_token : read_redirect (0x0b ∷ 0x0c ∷ []) ≡ none
group_token = unfold reading in refl

-- in place of the handle
-- the crate: malformed
group_handle : read_redirect (0x13 ∷ 0x14 ∷ []) ≡ none
group_handle = unfold reading in refl

-- in place of the generation
-- the crate: malformed
group_generation : read_redirect (0x1b ∷ 0x1c ∷ []) ≡ none
group_generation = unfold reading in refl

-- the end of a group alone
-- the crate: malformed
group_end : read_redirect (0x24 ∷ []) ≡ none
group_end = unfold reading in refl

-- wire type 6
-- the crate: malformed
type_six : read_redirect (0x26 ∷ 0x00 ∷ []) ≡ none
type_six = unfold reading in refl

-- wire type 7
-- the crate: malformed
type_seven : read_redirect (0x27 ∷ 0x00 ∷ []) ≡ none
type_seven = unfold reading in refl

-- wire type 6 on the token
-- the crate: malformed
type_six-token : read_redirect (0x0e ∷ 0x00 ∷ []) ≡ none
type_six-token = unfold reading in refl

-- wire type 7 on the generation
-- the crate: malformed
type_seven_generation : read_redirect (0x1f ∷ 0x00 ∷ []) ≡ none
type_seven_generation = unfold reading in refl

-- in the handle: a group, field 2
-- the crate: token=none handle= generation=none
group_inside : read_redirect (0x12 ∷ 0x02 ∷ 0x13 ∷ 0x14 ∷ []) ≡ none
group_inside = unfold reading in refl

-- in the handle: a group in place of field 1
-- the crate: malformed
group_handle_inside : read_redirect (0x12 ∷ 0x02 ∷ 0x0b ∷ 0x0c ∷ []) ≡ none
group_handle_inside = unfold reading in refl

-- in the handle: the end of a group alone
-- the crate: malformed
group_end_inside : read_redirect (0x12 ∷ 0x01 ∷ 0x14 ∷ []) ≡ none
group_end_inside = unfold reading in refl

-- in the handle: wire type 6
-- the crate: malformed
type_six_inside : read_redirect (0x12 ∷ 0x02 ∷ 0x16 ∷ 0x00 ∷ []) ≡ none
type_six_inside = unfold reading in refl

-- in the handle: wire type 7
-- the crate: malformed
type_seven_inside : read_redirect (0x12 ∷ 0x02 ∷ 0x17 ∷ 0x00 ∷ []) ≡ none
type_seven_inside = unfold reading in refl

-- ---- field numbers

-- number 0, a varint
-- the crate: malformed
number-zero : read_redirect (0x00 ∷ 0x00 ∷ []) ≡ none
number-zero = unfold reading in refl

-- number 0, bytes
-- the crate: malformed
number-zero-bytes : read_redirect (0x02 ∷ 0x00 ∷ []) ≡ none
number-zero-bytes = unfold reading in refl

-- number 2^29
-- the crate: malformed
number-over : read_redirect (0x80 ∷ 0x80 ∷ 0x80 ∷ 0x80 ∷ 0x10 ∷ 0x00 ∷ []) ≡ none
number-over = unfold reading in refl

-- a number that is 1 in its lowest 29 bits
-- the crate: malformed
number_far : read_redirect (0x8a ∷ 0x80 ∷ 0x80 ∷ 0x80 ∷ 0x10 ∷ 0x01 ∷ 0x74 ∷ []) ≡ none
number_far = unfold reading in refl

-- in the handle: number 0
-- the crate: malformed
number-zero_inside : read_redirect (0x12 ∷ 0x02 ∷ 0x00 ∷ 0x00 ∷ []) ≡ none
number-zero_inside = unfold reading in refl

-- in the handle: number 2^29
-- the crate: malformed
number-over_inside : read_redirect (0x12 ∷ 0x06 ∷ 0x80 ∷ 0x80 ∷ 0x80 ∷ 0x80 ∷ 0x10 ∷ 0x00 ∷ []) ≡ none
number-over_inside = unfold reading in refl

-- ---- cut off by the end

-- a key
-- the crate: malformed
key_cut : read_redirect (0x98 ∷ []) ≡ none
key_cut = unfold reading in refl

-- a key behind a whole field
-- the crate: malformed
key_cut-behind : read_redirect (0x0a ∷ 0x01 ∷ 0x74 ∷ 0x98 ∷ []) ≡ none
key_cut-behind = unfold reading in refl

-- a key without its varint
-- the crate: malformed
number_missing : read_redirect (0x18 ∷ []) ≡ none
number_missing = unfold reading in refl

-- a varint
-- the crate: malformed
number_cut : read_redirect (0x18 ∷ 0x85 ∷ []) ≡ none
number_cut = unfold reading in refl

-- a key without its length
-- the crate: malformed
length_missing : read_redirect (0x0a ∷ []) ≡ none
length_missing = unfold reading in refl

-- a length
-- the crate: malformed
length_cut : read_redirect (0x0a ∷ 0x81 ∷ []) ≡ none
length_cut = unfold reading in refl

-- a token
-- the crate: malformed
token-short : read_redirect (0x0a ∷ 0x02 ∷ 0x74 ∷ []) ≡ none
token-short = unfold reading in refl

-- a handle
-- the crate: malformed
handle-short : read_redirect (0x12 ∷ 0x04 ∷ 0x0a ∷ 0x01 ∷ 0x68 ∷ []) ≡ none
handle-short = unfold reading in refl

-- a token of the greatest length
-- the crate: malformed
length_greatest : read_redirect (0x0a ∷ 0xff ∷ 0xff ∷ 0xff ∷ 0xff ∷ 0xff ∷ 0xff ∷ 0xff ∷ 0xff ∷ 0xff ∷ 0x01 ∷ 0x74 ∷ []) ≡ none
length_greatest = unfold reading in refl

-- an unknown field of bytes
-- the crate: malformed
unknown-short : read_redirect (0x22 ∷ 0x02 ∷ 0x01 ∷ []) ≡ none
unknown-short = unfold reading in refl

-- of eight bytes
-- the crate: malformed
unknown-fixed64-short : read_redirect (0x21 ∷ 0x01 ∷ 0x02 ∷ 0x03 ∷ 0x04 ∷ 0x05 ∷ 0x06 ∷ 0x07 ∷ []) ≡ none
unknown-fixed64-short = unfold reading in refl

-- of four bytes
-- the crate: malformed
unknown-fixed32-short : read_redirect (0x25 ∷ 0x01 ∷ 0x02 ∷ 0x03 ∷ []) ≡ none
unknown-fixed32-short = unfold reading in refl

-- in the handle: a key, though the redirect goes on
-- the crate: malformed
key_cut_inside : read_redirect (0x12 ∷ 0x01 ∷ 0x8a ∷ 0x00 ∷ 0x01 ∷ 0x68 ∷ []) ≡ none
key_cut_inside = unfold reading in refl

-- in the handle: a key without its varint, though the redirect goes on
-- the crate: malformed
number_missing_inside : read_redirect (0x12 ∷ 0x01 ∷ 0x10 ∷ 0x18 ∷ 0x05 ∷ []) ≡ none
number_missing_inside = unfold reading in refl

-- in the handle: a varint, though the redirect goes on
-- the crate: malformed
number-cut_inside : read_redirect (0x12 ∷ 0x02 ∷ 0x10 ∷ 0x85 ∷ 0x18 ∷ 0x05 ∷ []) ≡ none
number-cut_inside = unfold reading in refl

-- in the handle: a key without its length, though the redirect goes on
-- the crate: malformed
length_missing_inside : read_redirect (0x12 ∷ 0x01 ∷ 0x0a ∷ 0x0a ∷ 0x01 ∷ 0x74 ∷ []) ≡ none
length_missing_inside = unfold reading in refl

-- in the handle: its bytes, though the redirect goes on
-- the crate: malformed
short_inside : read_redirect (0x12 ∷ 0x02 ∷ 0x0a ∷ 0x01 ∷ 0x18 ∷ 0x05 ∷ []) ≡ none
short_inside = unfold reading in refl

-- in the handle: an unknown field, though the redirect goes on
-- the crate: malformed
unknown-short_inside : read_redirect (0x12 ∷ 0x02 ∷ 0x12 ∷ 0x01 ∷ 0x18 ∷ 0x05 ∷ []) ≡ none
unknown-short_inside = unfold reading in refl

-- in the handle: a varint of eleven bytes
-- the crate: malformed
varint_eleven_inside : read_redirect (0x12 ∷ 0x0c ∷ 0x10 ∷ 0x80 ∷ 0x80 ∷ 0x80 ∷ 0x80 ∷ 0x80 ∷ 0x80 ∷ 0x80 ∷ 0x80 ∷ 0x80 ∷ 0x80 ∷ 0x00 ∷ []) ≡ none
varint_eleven_inside = unfold reading in refl

-- in the handle: a varint over 64 bits
-- the crate: malformed
varint-over_inside : read_redirect (0x12 ∷ 0x0b ∷ 0x10 ∷ 0x80 ∷ 0x80 ∷ 0x80 ∷ 0x80 ∷ 0x80 ∷ 0x80 ∷ 0x80 ∷ 0x80 ∷ 0x80 ∷ 0x02 ∷ []) ≡ none
varint-over_inside = unfold reading in refl

-- ---- written

-- every field, in the order of their numbers
written_every : write (token_field (0x74 ∷ []) ∷ handle_field (0x68 ∷ []) ∷ generation_field (pos 5) ∷ [])
    ≡ (0x0a ∷ 0x01 ∷ 0x74 ∷ 0x12 ∷ 0x03 ∷ 0x0a ∷ 0x01 ∷ 0x68 ∷ 0x18 ∷ 0x05 ∷ [])
written_every = unfold writing in refl

-- a generation below 0 takes ten bytes
written_below : write (generation_field (negsuc 0) ∷ []) ≡ (0x18 ∷ 0xff ∷ 0xff ∷ 0xff ∷ 0xff ∷ 0xff ∷ 0xff ∷ 0xff ∷ 0xff ∷ 0xff ∷ 0x01 ∷ [])
written_below = unfold writing in refl
