-- Openings worked out: one that is accepted, one for each refusal, and what a payload leaves.
-- Assumes nothing.
use mathlib.Core.Path.{◌≡◌, refl}
use mathlib.Core.Bool.{true, false}
use mathlib.Core.Option.{some}
use mathlib.Core.List.{[], ◌∷◌, ◌++◌}
use Prim.Native.Nat.{ℕ}
use lib.IntN.{ℤ, pos, negsuc}
use Rattle.crc32c.specs.Reg.{crc_of}
use Rattle.rules.specs.Message.{Bytes}
use Rattle.rules.specs.Session.{stored}
use Rattle.rules.specs.Respond.{ack}
use Rattle.rules.specs.Opening as O
use Rattle.std.specs.declared.option.Option as opt
use Rattle.std.specs.Prelude.{Some, None}
use Rattle.bidi_write.specs.declared.WriteStatus.{WriteStatus}
use Rattle.bidi_write.specs.declared.WriteStatus.TheVariants as status
use Rattle.openings.specs.Opening.{Beside, beside, opening_of}
use Rattle.openings.specs.declared.Opening.{Opening}

-- a chunk limit of 2 bytes: the capacity is 2 × 2 + 1, the ring 5 + 2 × 2 − 2 = 7 bytes
with : ℕ → opt.Option WriteStatus → Opening
with limit s = record {
  limit = limit;
  capacity = Some 1;
  append = false;
  generation = record { 0 = pos 0 };
  has_write_handle = true;
  has_routing_token = false;
  if_metageneration_match = None;
  if_metageneration_not_match = None;
  response = record { write_status = s; has_write_handle = false };
  checksum = None;
  has_payload = true;
  last_persisted_size = record { 0 = pos 0 };
}

bytes : Bytes → Bytes → Beside
bytes bucket payload = beside bucket [] [] [] [] payload

bucket : Bytes
bucket = O.bucket_prefix ++ (98 ∷ [])

finalised : opt.Option WriteStatus
finalised = Some (status.Resource (record { size = record { 0 = pos 0 }; generation = record { 0 = pos 1 }; finalized = true }))

accepted : O.opens (opening_of (with 2 None) (bytes bucket (1 ∷ 2 ∷ [])) 7 1) ≡ O.opened (O.open_session (opening_of (with 2 None) (bytes bucket (1 ∷ 2 ∷ [])) 7 1))
unfolding O.opens O.first O.too_long O.good_bucket opening_of with bytes bucket
accepted = refl

-- the first of several refusals, as what is wrong is put right in turn
refused_1 : O.opens (opening_of (with 0 finalised) (bytes [] (1 ∷ [])) 0 0) ≡ O.turned_away 1
unfolding O.opens O.first opening_of with bytes
refused_1 = refl

refused_2 : O.opens (opening_of (with 2 finalised) (bytes [] (1 ∷ 2 ∷ 3 ∷ [])) 6 1) ≡ O.turned_away 2
unfolding O.opens O.first opening_of with bytes
refused_2 = refl

refused_3 : O.opens (opening_of (with 2 finalised) (bytes O.bucket_prefix (1 ∷ 2 ∷ 3 ∷ [])) 7 1) ≡ O.turned_away 3
unfolding O.opens O.first O.good_bucket opening_of with bytes
refused_3 = refl

refused_4 : O.opens (opening_of (with 2 finalised) (bytes bucket (1 ∷ 2 ∷ 3 ∷ [])) 7 1) ≡ O.turned_away 4
unfolding O.opens O.first O.good_bucket O.too_long opening_of with bytes bucket
refused_4 = refl

refused_5 : O.opens (opening_of (with 2 finalised) (bytes bucket (1 ∷ 2 ∷ [])) 7 1) ≡ O.turned_away 5
unfolding O.opens O.first O.good_bucket O.too_long opening_of with bytes bucket finalised
refused_5 = refl

-- a negative P keeps even an empty payload's chunk
kept : O.open_chunks (some []) (negsuc 0) ≡ record { write_offset = pos 0; bytes = []; crc32c = crc_of [] } ∷ []
unfolding ack
kept = refl

-- a P inside the payload keeps the rest; one past it keeps none, and is the write offset
rest : O.open_chunks (some (1 ∷ 2 ∷ [])) (pos 1) ≡ record { write_offset = pos 1; bytes = 2 ∷ []; crc32c = crc_of (2 ∷ []) } ∷ []
unfolding ack
rest = refl

past : O.open_chunks (some (1 ∷ 2 ∷ [])) (pos 3) ≡ []
unfolding ack
past = refl

offset : O.larger (pos 3) (pos (O.payload_length (some (1 ∷ 2 ∷ [])))) ≡ pos 3
offset = refl

-- of a payload of two bytes, a negative P releases none, one inside it those below, one past it both
released_to : ℤ → ℕ
released_to p = O.open_released (opening_of (with 2 (Some (status.PersistedSize (record { 0 = p })))) (bytes bucket (1 ∷ 2 ∷ [])) 7 1)

released : (released_to (negsuc 0) ≡ 0) × (released_to (pos 1) ≡ 1) × (released_to (pos 3) ≡ 2)
unfolding released_to stored O.open_session ack opening_of with bytes
released = (refl, refl, refl)
