-- How many bytes a record of docs/TRACE.md brings, which are its last.
use Rattle.std.specs.Prelude.{ℕ, ◌+◌, ◌≤◌, Option, IfSome}
use Rattle.trace_records.specs.declared.Record.{Record}
use Rattle.trace_records.specs.declared.Record.TheVariants as rec

abbrev pub brings : Record → ℕ
brings (rec.Opening n) = n
brings (rec.Call c n) = n
brings (rec.Write b d) = 0
brings rec.End = 0

-- Of old bytes of input new are left, where r was taken off their front.
abbrev pub Taken : Option Record → ℕ → ℕ → Type 0
Taken r old new = (new ≤ old) × IfSome r (λ x. brings x + new ≤ old)
