-- The length that a request gives its data, by what it is as the rules' request.
-- Assumes nothing.
use mathlib.Core.Path.{◌≡◌, refl, ap, ◌∙◌}
use mathlib.Core.Bool.{Bool}
use mathlib.Core.Option.{Option, none, some}
use mathlib.Core.List.{[]}
use Prim.Native.Nat.{ℕ, ◌+◌}
use native.Mathlib.Omega.{arith}
use lib.IntN.{ℤ}
use lib.ListN.{length, take, replicate, length-take, length-replicate}
use Rattle.rules.specs.Message.{Bytes, ChecksummedData, Request}
use Rattle.rules.specs.Upload.{chunk_request}
use Rattle.rules.specs.Notes.{content_of}
use Rattle.bidi_write.specs.View.{data_of, length_of, request_of}
use Rattle.std.specs.declared.option.Option as opt
use Rattle.std.specs.Prelude.{Some, None}
use Rattle.bidi_write.specs.declared.ChecksummedData as code-data
use Rattle.bidi_write.specs.declared.Request as code

absent : (d : opt.Option code-data.ChecksummedData) (out : Bytes) → data_of d out ≡ none → length_of d ≡ 0
absent None out e = refl
absent (Some d) out e = let z : ◌≡◌ {A = ℕ} 0 1 = cc in absurd (omega arith)

-- a request without data
pub no_length : (r : code.Request) (out : Bytes) (q : Request) → request_of r out ≡ q → q.checksummed_data ≡ none → length_of r.«data» ≡ 0
unfolding request_of
no_length r out q e f = absent r.«data» out (ap (λ (x : Request). x.checksummed_data) e ∙ f)

-- the first n bytes of an out buffer that is longer than either
first : (d : opt.Option code-data.ChecksummedData) (n sum : ℕ) → ((out : Bytes) → data_of d out ≡ some (record { content = take n out; crc32c = sum })) → length_of d ≡ n
first None n sum e = let f = e [] in let z : ◌≡◌ {A = ℕ} 0 1 = cc in absurd (omega arith)
first (Some d) n sum e =
    let out : Bytes = replicate (d.length + n) 0 in
    let long : length out ≡ d.length + n = length-replicate (d.length + n) 0 in
    let same : length (take d.length out) ≡ length (take n out) = ap (λ (o : Option ChecksummedData). length (content_of o)) (e out) in
    omega (arith, long, same, length-take d.length out, length-take n out)

-- a request that carries the first n bytes of whatever out buffer
pub carried_length : (r : code.Request) (at : ℤ) (n sum : ℕ) (flushes : Bool)
    → ((out : Bytes) → request_of r out ≡ chunk_request (record { write_offset = at; bytes = take n out; crc32c = sum }) flushes) → length_of r.«data» ≡ n
unfolding request_of
carried_length r at n sum flushes e = first r.«data» n sum (λ out. ap (λ (x : Request). x.checksummed_data) (e out))
