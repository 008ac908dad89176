-- A request and its answer, and a plan, in plain numbers: what is exported holds no enum.
use Rattle.std.specs.Prelude.{◌≡◌, Bool, true, false, List, ℕ, ◌-◌, ◌^◌, ℤ, Some, None, Ok, Err}
use Rattle.std.proofs.Math.Option.{Option, map}
use Rattle.rules.specs.Message.{Bytes}
use Rattle.std.specs.declared.option.Option as opt
use Rattle.std.specs.declared.result.Result.{Result}
use Rattle.bidi_write.specs.declared.ChecksummedData.{ChecksummedData}
use Rattle.bidi_write.specs.declared.Refusal.{Refusal}
use Rattle.bidi_write.specs.declared.Request.{Request}
use Rattle.wire.specs.Answer.{answered, written}
use Rattle.plan_rules.specs.Plan.{Answered, refuses, needs, plans}
use Rattle.measure.specs.declared.PlanNumbers.{PlanNumbers}

abbrev pub data_of : (present : Bool) (length crc32c : ℕ) → opt.Option ChecksummedData
data_of true n c = Some (record { length = n; crc32c = c })
data_of false n c = None

abbrev pub checksum_of : (present : Bool) (crc32c : ℕ) → opt.Option ℕ
checksum_of true c = Some c
checksum_of false c = None

abbrev pub request_of : ℤ → opt.Option ChecksummedData → opt.Option ℕ → (lookup flush finish : Bool) → Request
request_of z d c lookup flush finish = record {
  write_offset = record { 0 = z };
  «data» = d;
  object_checksums = c;
  state_lookup = lookup;
  flush = flush;
  finish_write = finish;
}

-- the largest number says that nothing was written
abbrev pub count_of : Result ℕ Refusal → ℕ
count_of (Ok n) = n
count_of (Err x) = 2 ^ 64 - 1

-- what writing a request answers, and what it leaves in the buffer
abbrev pub Wrote : Request → (lent buffer : Bytes) (count : ℕ) (buffer' : Bytes) → Type 0
Wrote r lent buffer n buffer' = (n ≡ count_of (answered r lent buffer)) × (buffer' ≡ written r lent buffer)

-- a plan's answer; no refusal has the number 0
abbrev pub numbers_of : Answered → PlanNumbers
numbers_of (refuses k) = record { refused = k; chunks = 0; stored = 0; held = 0; appends = 0; flushes = 0 }
numbers_of (needs p) = record { refused = 0; chunks = p.chunks; stored = p.stored; held = p.held; appends = p.appends; flushes = p.flushes }

abbrev pub planned_numbers : (limit : ℕ) (lengths : List ℕ) → Option PlanNumbers
planned_numbers limit ls = map numbers_of (plans limit ls)
