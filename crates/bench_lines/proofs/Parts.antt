-- The parts of a line in the words of the definitions.
use mathlib.Core.Path.{◌≡◌, refl, sym, ◌∙◌}
use mathlib.Core.Bool.{Bool, true, ◌||◌}
use mathlib.Core.Option.{Option}
use mathlib.Core.List.{◌++◌}
use Prim.Native.Nat.{ℕ, ◌≤◌}
use native.Mathlib.Omega.{arith}
use lib.ListN.{length, length-take}
use Rattle.rules.specs.Message.{Bytes}
use Rattle.rules.specs.Message as M
use Rattle.rules.specs.Notes.{content_of}
use Rattle.bidi_write.specs.View.{data_of, length_of}
use Rattle.std.specs.declared.option.Option as opt
use Rattle.std.specs.Prelude.{Some, None}
use Rattle.bidi_write.specs.declared.ChecksummedData.{ChecksummedData}
use Rattle.text.specs.Ascii.{ascii}
use Rattle.text.specs.Decimal.{number}
use Rattle.bench_lines.specs.Text.{flag, flags, or_dash, counted}

pub flags_some : (f s w : Bool) → (f || s || w) ≡ true → flag f (ascii "f") ++ flag s (ascii "s") ++ flag w (ascii "w") ≡ flags f s w
flags_some f s w e = rw e

pub counted_both : {h b : Bool} → b ≡ h → (n : ℕ) (r : Option M.Request) → b ≡ true → number n ++ ascii " " ++ or_dash r ≡ counted h n r
counted_both p n r t = rw (sym p ∙ t)

-- out has room for the data
pub data_in_lem : (d : opt.Option ChecksummedData) (out : Bytes) → length_of d ≤ length out → length_of d ≡ length (content_of (data_of d out))
data_in_lem None out h = refl
data_in_lem (Some d) out h = rw length-take (omega arith)
