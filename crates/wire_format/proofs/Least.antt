-- Whatever bytes read as a request are as many as its wire form, or more.
-- The cost of a message so far is the length of its own shortest writing. Each field raises it by at most the field's length.
-- Assumes nothing.
use mathlib.Core.Path.{◌≡◌, refl, sym, ap, ap₂, ◌∙◌}
use mathlib.Core.Bool.{Bool, true, false}
use mathlib.Core.List.{List, [], ◌∷◌}
use mathlib.Core.Option.{Option, none, some, map, get_or}
use Prim.Native.Nat.{ℕ, zero, suc, ◌+◌, ◌*◌, ◌-◌, ◌^◌, ◌≤◌}
use native.Mathlib.Omega.{arith}
use lib.ListN.{length}
use borrow.Author.Tests.{ltb-false}
use lib.Dec.{ltb, eqb-suc-zero}
use lib.IntN.{pos, negsuc}
use mir.Syntax.{w64}
use mir.Val.{to_z, of_z, sel}
use Rattle.protobuf_format.specs.Reading.{Bytes, ◌>>=◌, Every, end, also}
use Rattle.protobuf_format.specs.Field.{int, bytes, fixed32, Field, write}
use Rattle.protobuf_format.specs.Slot.{plain_int, plain_bool, optional}
use Rattle.protobuf_format.specs.Message.{Row, row, as_int, as_bytes, merge}
use Rattle.protobuf_format.proofs.Partial.{All, nothing, one, all, all_mono, all_then}
use Rattle.protobuf_format.proofs.Varint.{varint_of_mono, varint_of-sum, groups_of_pos}
use Rattle.protobuf_format.proofs.Message.{Priced, merge-least, int-row, bytes-row, fixed32-row}
use Rattle.wire_format.proofs.Cost.{cost, size, cost-append, cost_nil, cost-one, int_price, bytes_price, embedded, size-bytes, size-int, data_cost, data_cost_lem, sums_cost, sums_cost_lem}
use Rattle.rules.specs.Message.{Request}
use Rattle.wire_format.specs.Message.{ChecksummedData, ObjectChecksums, BidiWriteObjectRequest, data_of, sums_of, message_of, no_data, no_sums, no_message, data_rows, sums_rows, is_true, foreign, rows, read_message}
use Rattle.wire_format.specs.Wire.{data_in, sum_in, request_in, read_request, data_fields, sums_fields, data_slot, sums_slot, message_fields, with_sum, sum_alone, to_message, wire, shortest}

-- ---- embedded messages

embed_first : (k n l : ℕ) → n ≤ l → embedded k n ≤ embedded k l
embed_first k n l h = omega (arith, varint_of_mono n l h)

-- Merged, a message costs at most what its two parts do: the length of a sum takes at most one byte more than both lengths, and one key is saved.
embed_again : (k n m l : ℕ) → n ≤ m + l → embedded k n ≤ embedded k m + embedded k l
embed_again k n m l h = omega (arith, varint_of_mono n (m + l) h, varint_of-sum m l, groups_of_pos 9 (k * 8 + 2))

-- an embedded message that comes again, or for the first time
embed_price : {A : Type 0} (k : ℕ) (f : A → List Field) (start : A) (o : Option A) (a : A) (b : Bytes)
    → cost (f start) ≡ 0 → cost (f a) ≤ cost (f (get_or o start)) + length b
    → cost (optional k (λ x. bytes (write (f x))) (some a)) ≤ cost (optional k (λ x. bytes (write (f x))) o) + size k (bytes b)
embed_price k f start none a b z h =
    omega (arith, cost-one k (bytes (write (f a))), size-bytes k (write (f a)), size-bytes k b, embed_first k (cost (f a)) (length b) (omega arith))
embed_price k f start (some o) a b z h =
    omega (
      arith,
      cost-one k (bytes (write (f a))),
      cost-one k (bytes (write (f o))),
      size-bytes k (write (f a)),
      size-bytes k (write (f o)),
      size-bytes k b,
      embed_again k (cost (f a)) (cost (f o)) (length b) h,
    )

-- ---- data and sums

data_priced : Every (Priced data_cost) data_rows
data_priced =
    also
    (bytes-row data_cost 1 (λ b d. some (data_of b d.crc32c)) (λ b d. let new : ChecksummedData = data_of b d.crc32c in
    one {a = new} (omega (arith, data_cost_lem d, data_cost_lem new, bytes_price 1 b))))
    (also
    (fixed32-row data_cost 2 (λ n d. data_of d.content (some n)) (λ n d.
    omega (arith, data_cost_lem d, data_cost_lem (data_of d.content (some n)), cost-one 2 (fixed32 n))))
    end)

sums_priced : Every (Priced sums_cost) sums_rows
sums_priced =
    also
    (fixed32-row sums_cost 1 (λ n s. sums_of (some n) s.md5_hash) (λ n s.
    omega (arith, sums_cost_lem s, sums_cost_lem (sums_of (some n) s.md5_hash), cost-one 1 (fixed32 n))))
    (also
    (bytes-row sums_cost 2 (λ b s. some (sums_of s.crc32c b)) (λ b s. let new : ObjectChecksums = sums_of s.crc32c b in
    one {a = new} (omega (arith, sums_cost_lem s, sums_cost_lem new, bytes_price 2 b))))
    end)

-- ---- the request

int-size : (k a b : ℕ) → a ≤ b → size k (int a) ≤ size k (int b)
int-size k a b h = omega (arith, size-int k a, size-int k b, varint_of_mono a b h)

-- two's complement and back. (Equal where n has 64 bits.)
signed_back : (n : ℕ) → of_z w64 (to_z w64 n) ≤ n
signed_back n = go (ltb n (2 ^ 63)) refl
  where
    go : (t : Bool) → ltb n (2 ^ 63) ≡ t → of_z w64 (sel t (pos n) (negsuc (2 ^ 64 - suc n))) ≤ n
    go true e = omega arith
    go false e = omega (arith, ltb-false n (2 ^ 63) e)

offset_price : (k n : ℕ) → cost (plain_int k (of_z w64 (to_z w64 n))) ≤ size k (int n)
offset_price k n = omega (arith, int_price k (of_z w64 (to_z w64 n)), int-size k (of_z w64 (to_z w64 n)) n (signed_back n))

bool_price : (k n : ℕ) → cost (plain_bool k (is_true n)) ≤ size k (int n)
bool_price k zero = omega (arith, cost_nil)
bool_price k (suc n) = rw (eqb-suc-zero n) (omega (arith, cost-one k (int 1), int-size k 1 (suc n) (omega arith)))

abbrev message_cost : BidiWriteObjectRequest → ℕ
message_cost m = cost (message_fields m)

abbrev slots : BidiWriteObjectRequest → ℕ
slots m =
    cost (plain_int 3 (of_z w64 m.write_offset))
    + cost (data_slot m.checksummed_data)
    + cost (sums_slot m.object_checksums)
    + cost (plain_bool 7 m.state_lookup)
    + cost (plain_bool 8 m.flush)
    + cost (plain_bool 9 m.finish_write)

pub message-cost : (m : BidiWriteObjectRequest) → message_cost m ≡ slots m
unfolding message_fields
message-cost m = simp cost-append (omega arith)

has_no_data : data_cost no_data ≡ 0
has_no_data = data_cost_lem no_data ∙ omega (arith, cost_nil)

no_sums_lem : sums_cost no_sums ≡ 0
no_sums_lem = sums_cost_lem no_sums ∙ omega (arith, cost_nil)

foreign_priced : (k : ℕ) → Priced message_cost (foreign k)
foreign_priced k = record { price = λ v m. nothing }

int_priced : (k : ℕ) (set : ℕ → BidiWriteObjectRequest → BidiWriteObjectRequest)
    → ((n : ℕ) (m : BidiWriteObjectRequest) → slots (set n m) ≤ slots m + size k (int n)) → Priced message_cost (row k (as_int set))
int_priced k set h = int-row message_cost k set (λ n m. omega (arith, message-cost m, message-cost (set n m), h n m))

embed_priced : {A : Type 0} (k : ℕ) (f : A → List Field) (rows : List (Row A)) (start : A)
    (get : BidiWriteObjectRequest → Option A) (set : A → BidiWriteObjectRequest → BidiWriteObjectRequest)
    → Every (Priced (λ a. cost (f a))) rows → cost (f start) ≡ 0
    → ((a : A) (m : BidiWriteObjectRequest)
    → slots (set a m) + cost (optional k (λ x. bytes (write (f x))) (get m)) ≡ slots m + cost (optional k (λ x. bytes (write (f x))) (some a)))
    → Priced message_cost (row k (as_bytes (λ b m. merge rows b (get_or (get m) start) >>= λ a. some (set a m))))
embed_priced k f rows start get set p z h =
    bytes-row message_cost k _ (λ b m. all_then (merge-least (λ a. cost (f a)) rows p b (get_or (get m) start)) (λ a l.
    one {a = set a m} (omega (arith, message-cost m, message-cost (set a m), h a m, embed_price k f start (get m) a b z l))))

priced : Every (Priced message_cost) rows
unfolding rows
priced =
    also (foreign_priced 1)
    (also (foreign_priced 2)
    (also (int_priced 3 (λ n m. message_of (to_z w64 n) m.checksummed_data m.object_checksums m.state_lookup m.flush m.finish_write)
    (λ n m. omega (arith, offset_price 3 n)))
    (also
    (embed_priced 4 data_fields data_rows no_data (λ m. m.checksummed_data)
    (λ d m. message_of m.write_offset (some d) m.object_checksums m.state_lookup m.flush m.finish_write)
    data_priced has_no_data (λ d m. omega arith))
    (also
    (embed_priced 6 sums_fields sums_rows no_sums (λ m. m.object_checksums)
    (λ s m. message_of m.write_offset m.checksummed_data (some s) m.state_lookup m.flush m.finish_write)
    sums_priced no_sums_lem (λ s m. omega arith))
    (also (int_priced 7 (λ n m. message_of m.write_offset m.checksummed_data m.object_checksums (is_true n) m.flush m.finish_write)
    (λ n m. omega (arith, bool_price 7 n)))
    (also (int_priced 8 (λ n m. message_of m.write_offset m.checksummed_data m.object_checksums m.state_lookup (is_true n) m.finish_write)
    (λ n m. omega (arith, bool_price 8 n)))
    (also (int_priced 9 (λ n m. message_of m.write_offset m.checksummed_data m.object_checksums m.state_lookup m.flush (is_true n))
    (λ n m. omega (arith, bool_price 9 n)))
    (also (foreign_priced 10)
    (also (foreign_priced 11) end)))))))))

no_message_lem : message_cost no_message ≡ 0
no_message_lem = message-cost no_message ∙ omega (arith, cost_nil)

message-least : (input : Bytes) → All (λ m. message_cost m ≤ length input) (read_message input)
unfolding read_message
message-least input = all_mono (merge-least message_cost rows priced input no_message) (λ m h. omega (arith, no_message_lem))

-- ---- a message that is a request is the request's message

data_same : (o : Option ChecksummedData) → All (λ d. map with_sum d ≡ o) (data_in o)
data_same none = one refl
data_same (some d) = go d.crc32c refl
  where
    go : (c : Option ℕ) → d.crc32c ≡ c → All (λ x. map with_sum x ≡ some d) (map (λ n. some (record { content = d.content; crc32c = n })) c)
    go none e = nothing
    go (some n) e = one (ap (λ (c : Option ℕ). some (data_of d.content c)) (sym e))

sums_same : (o : Option ObjectChecksums) → All (λ n. map sum_alone n ≡ o) (sum_in o)
sums_same none = one refl
sums_same (some s) = go s.md5_hash s.crc32c refl refl
  where
    go : (b : Bytes) (c : Option ℕ) → s.md5_hash ≡ b → s.crc32c ≡ c
        → All (λ n. map sum_alone n ≡ some s) (elim b [ [] ↦ map some c | x ∷ rest ↦ none ])
    go [] none z e = nothing
    go [] (some n) z e = one (ap₂ (λ (c : Option ℕ) (b : Bytes). some (sums_of c b)) (sym e) (sym z))
    go (x ∷ rest) c z e = nothing

request-same : (m : BidiWriteObjectRequest) → All (λ r. to_message r ≡ m) (request_in m)
unfolding request_in
request-same m =
    all_then (data_same m.checksummed_data) (λ d p. all_then (sums_same m.object_checksums) (λ n q.
    one (ap₂ (λ (x : Option ChecksummedData) (y : Option ObjectChecksums). message_of m.write_offset x y m.state_lookup m.flush m.finish_write) p q)))

pub least_is : (b : Bytes) (r : Request) → read_request b ≡ some r → shortest r ≤ length b
unfolding read_request shortest wire
least_is b r e =
    all {P = λ q. shortest q ≤ length b} (all_then (message-least b) (λ m h. all_mono (request-same m) (λ q g. rw g h))) e
