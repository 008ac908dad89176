-- The pieces of a request's fields, for the code.
-- Assumes nothing.
use Rattle.std.proofs.Common.{◌≡◌, ℕ, zero, suc, ◌+◌, ◌*◌, ◌<◌, ◌≤◌, true, [], ◌∷◌, ◌++◌, length, sym, ap, ◌∙◌, ap₂, append_assoc, arith, length-append, w64, of_z}
use mathlib.Core.Option.{some, map}
use Rattle.protobuf_format.specs.Reading.{Bytes}
use Rattle.protobuf_format.specs.Varint.{varint_of}
use Rattle.protobuf_format.specs.Field.{int, bytes, fixed32, field, write}
use Rattle.protobuf_format.specs.Slot.{plain_int, plain_bool, plain_bytes}
use Rattle.protobuf_format.proofs.Varint.{length_few}
use Rattle.protobuf_format.proofs.Message.{write-append}
use Rattle.copying.specs.Written.{Written}
use Rattle.protobuf.specs.Head.{head}
use Rattle.copying.proofs.Written.{written_both, written-length}
use Rattle.protobuf.proofs.Writing.{part_bytes}
use Rattle.bidi_write.specs.View as B
use Rattle.bidi_write.specs.View.{checksum_of, request_of}
use Rattle.bidi_write.specs.declared.Request.{Request}
use Rattle.wire_format.specs.Wire.{data_of, data_fields, sums_fields, data_slot, sums_slot, message_fields, with_sum, sum_alone, to_message, wire, shortest}
use Rattle.wire_format.proofs.Cost.{cost, cost_nil, cost-one, size-bytes, size-int, size-fixed32, data_cost, data_cost_lem}
use Rattle.wire_format.proofs.Room.{sum-length}
use Rattle.wire_format.proofs.Least.{message-cost}

-- what a piece leaves of the room for it and n bytes more
pub behind : (n : ℕ) {b x y : Bytes} {at i : ℕ} → Written b x y at i → at + (length b + n) ≤ length x → i + n ≤ length y
behind n w h = omega (arith, w.place, written-length w)

-- ---- data

data_parts : (b : Bytes) (c : ℕ) → write (data_fields (data_of b (some c))) ≡ write (plain_bytes 1 b) ++ write (field 2 (fixed32 c) ∷ [])
unfolding data_fields
data_parts b c = write-append (plain_bytes 1 b) (field 2 (fixed32 c) ∷ [])

module _ (b : Bytes) (c n : ℕ) (e : n ≡ data_cost (data_of b (some c))) where
  data_bytes : write (data_slot (some (data_of b (some c)))) ≡ head 4 n ++ write (plain_bytes 1 b) ++ write (field 2 (fixed32 c) ∷ [])
  data_bytes =
      part_bytes 4 (write (data_fields (data_of b (some c))))
      ∙ ap₂ (λ (k : ℕ) (w : Bytes). head 4 k ++ w) (sym e) (data_parts b c)
      ∙ sym (append_assoc (head 4 n) (write (plain_bytes 1 b)) (write (field 2 (fixed32 c) ∷ [])))

  pub data_total : cost (data_slot (some (data_of b (some c)))) ≡ length (head 4 n) + (cost (plain_bytes 1 b) + cost (field 2 (fixed32 c) ∷ []))
  data_total = ap length data_bytes ∙ simp length-append (omega arith)

  pub data_written : {x y z u : Bytes} {at i j k : ℕ}
      → Written (head 4 n) x y at i → Written (write (plain_bytes 1 b)) y z i j → Written (write (field 2 (fixed32 c) ∷ [])) z u j k
      → Written (write (data_slot (some (data_of b (some c))))) x u at k
  data_written p q r = rw data_bytes (written_both (written_both p q) r)

  pub data_length : cost (data_slot (some (data_of b (some c)))) ≡ 1 + length (varint_of n) + n
  data_length =
      cost-one 4 (bytes (write (data_fields (data_of b (some c)))))
      ∙ size-bytes 4 (write (data_fields (data_of b (some c))))
      ∙ rw (sym e) (omega (arith, length_few 34 (omega arith)))

five : (k c : ℕ) → k < 15 → cost (field k (fixed32 c) ∷ []) ≡ 5
five k c h = cost-one k (fixed32 c) ∙ size-fixed32 k c ∙ omega (arith, length_few (k * 8 + 5) (omega arith))

pub message_none : (b : Bytes) (c : ℕ) → length b ≡ 0 → data_cost (data_of b (some c)) ≡ 5
message_none [] c h = omega (arith, data_cost_lem (data_of [] (some c)), cost_nil, five 2 c (omega arith))
message_none (x ∷ b) c h = absurd (omega arith)

pub message_some : (b : Bytes) (c : ℕ) → 0 < length b → data_cost (data_of b (some c)) ≡ 1 + length (varint_of (length b)) + length b + 5
message_some [] c h = absurd (omega arith)
message_some (x ∷ b) c h =
    omega (
      arith,
      data_cost_lem (data_of (x ∷ b) (some c)),
      cost-one 1 (bytes (x ∷ b)),
      size-bytes 1 (x ∷ b),
      length_few 10 (omega arith),
      five 2 c (omega arith),
    )

-- ---- the object's sum

sum-bytes : (c : ℕ) → write (sums_slot (some (sum_alone c))) ≡ head 6 5 ++ write (field 1 (fixed32 c) ∷ [])
unfolding sums_fields
sum-bytes c = part_bytes 6 (write (field 1 (fixed32 c) ∷ [])) ∙ ap (λ (n : ℕ). head 6 n ++ write (field 1 (fixed32 c) ∷ [])) (five 1 c (omega arith))

pub sum-total : (c : ℕ) → cost (sums_slot (some (sum_alone c))) ≡ length (head 6 5) + cost (field 1 (fixed32 c) ∷ [])
sum-total c = ap length (sum-bytes c) ∙ length-append (head 6 5) (write (field 1 (fixed32 c) ∷ []))

pub sum-written : (c : ℕ) {x y z : Bytes} {at i j : ℕ} → Written (head 6 5) x y at i → Written (write (field 1 (fixed32 c) ∷ [])) y z i j
    → Written (write (sums_slot (some (sum_alone c)))) x z at j
sum-written c p q = rw (sum-bytes c) (written_both p q)

-- under a name that an attribute can cite
pub sum_length : (c : ℕ) → cost (sums_slot (some (sum_alone c))) ≡ 7
sum_length c = sum-length c

-- ---- plain numbers

pub offset_length : (n : ℕ) → 0 < n → cost (plain_int 3 n) ≡ 1 + length (varint_of n)
offset_length zero h = absurd (omega arith)
offset_length (suc n) h = cost-one 3 (int (suc n)) ∙ size-int 3 (suc n) ∙ omega (arith, length_few 24 (omega arith))

pub flag_length : (k : ℕ) → k < 16 → cost (plain_bool k true) ≡ 2
flag_length k h = cost-one k (int 1) ∙ size-int k 1 ∙ omega (arith, length_few (k * 8 + 0) (omega arith), length_few 1 (omega arith))

-- ---- the request's six fields; n is the offset's 64 bits

abbrev pub total : Request → Bytes → ℕ → ℕ
total r lent n =
    cost (plain_int 3 n)
    + (cost (data_slot (map with_sum (B.data_of r.«data» lent)))
    + (cost (sums_slot (map sum_alone (checksum_of r.object_checksums)))
    + (cost (plain_bool 7 r.state_lookup) + (cost (plain_bool 8 r.flush) + cost (plain_bool 9 r.finish_write)))))

module _ (r : Request) (lent : Bytes) (n : ℕ) (e : n ≡ of_z w64 r.write_offset.0) where
  pub request-length : shortest (request_of r lent) ≡ total r lent n
  unfolding request_of wire shortest
  request-length = rw e (message-cost (to_message (request_of r lent)) ∙ omega arith)

  request_parts : wire (request_of r lent)
      ≡ write (plain_int 3 n)
      ++ write (data_slot (map with_sum (B.data_of r.«data» lent)))
      ++ write (sums_slot (map sum_alone (checksum_of r.object_checksums)))
      ++ write (plain_bool 7 r.state_lookup)
      ++ write (plain_bool 8 r.flush)
      ++ write (plain_bool 9 r.finish_write)
  unfolding request_of wire message_fields
  request_parts = rw e (simp write-append)

  pub request-written : {u₀ u₁ u₂ u₃ u₄ u₅ u₆ : Bytes} {i₀ i₁ i₂ i₃ i₄ i₅ i₆ : ℕ}
      → Written (write (plain_int 3 n)) u₀ u₁ i₀ i₁
      → Written (write (data_slot (map with_sum (B.data_of r.«data» lent)))) u₁ u₂ i₁ i₂
      → Written (write (sums_slot (map sum_alone (checksum_of r.object_checksums)))) u₂ u₃ i₂ i₃
      → Written (write (plain_bool 7 r.state_lookup)) u₃ u₄ i₃ i₄
      → Written (write (plain_bool 8 r.flush)) u₄ u₅ i₄ i₅
      → Written (write (plain_bool 9 r.finish_write)) u₅ u₆ i₅ i₆
      → Written (wire (request_of r lent)) u₀ u₆ i₀ i₆
  request-written a b c d f g =
      rw request_parts (written_both (written_both (written_both (written_both (written_both a b) c) d) f) g)
