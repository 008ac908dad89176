-- Every line fits.
use mathlib.Core.Path.{◌≡◌, refl, sym, ◌∙◌}
use mathlib.Core.Bool.{Bool, true, false}
use mathlib.Core.Option.{Option, none, some}
use mathlib.Core.List.{[], ◌++◌, append_assoc}
use Prim.Native.Nat.{ℕ, suc, ◌≤◌}
use native.Mathlib.Omega.{arith}
use lib.ListN.{length, length-append}
use lib.IntN.{ℤ, pos, negsuc}
use Rattle.rules.specs.Message.{Request}
use Rattle.rules.specs.Session.{Answer, refused, took, sends, waits, completes, attempt, ok, done, ends}
use Rattle.rules.specs.Notes.{data_in}
use Rattle.text.specs.Ascii.{ascii}
use Rattle.text.specs.Decimal.{signed}
use Rattle.bench_lines.specs.Text.{flags, request, or_dash, form_of, counted, says, line_of}
use Rattle.text.specs.Line.{text_of, Adds}
use Rattle.text.specs.declared.Line.{Line}
use Rattle.bench_lines.specs.declared.Mark.{Mark}
use Rattle.bench_lines.specs.declared.Mark.TheVariants as mark
use Rattle.text.proofs.Clipped.{whole}
use Rattle.text.proofs.Decimal.{length-number}

length-signed : (z : ℤ) → length (signed z) ≤ 21
length-signed (pos n) = omega (arith, length-number n)
length-signed (negsuc n) = omega (arith, length-number (suc n))

length-flags : (f s w : Bool) → length (flags f s w) ≤ 3
length-flags true true true = omega arith
length-flags true true false = omega arith
length-flags true false true = omega arith
length-flags true false false = omega arith
length-flags false true true = omega arith
length-flags false true false = omega arith
length-flags false false true = omega arith
length-flags false false false = omega arith

length-request : (r : Request) → length (request r) ≤ 46
unfolding request
length-request r =
    simp length-append
    (omega (arith, length-signed r.write_offset, length-number (length (data_in (some r))), length-flags r.flush r.state_lookup r.finish_write))

length-or_dash : (r : Option Request) → length (or_dash r) ≤ 46
length-or_dash none = omega arith
length-or_dash (some r) = length-request r

length-counted : (b : Bool) (n : ℕ) (r : Option Request) → length (counted b n r) ≤ 67
length-counted true n r = simp length-append (omega (arith, length-number n, length-or_dash r))
length-counted false n r = omega (arith, length-number n)

-- a mark, and *ok* behind it, have two bytes
pub two : (m : Mark) → (length (form_of m).name ≡ 2) × (length (form_of m).okay ≡ 2)
two mark.Open = (refl, refl)
two mark.Append = (refl, refl)
two mark.Flush = (refl, refl)
two mark.Finalise = (refl, refl)
two mark.Close = (refl, refl)
two mark.Response = (refl, refl)
two mark.Handshake = (refl, refl)
two mark.Break = (refl, refl)
two mark.Verdict = (refl, refl)
two mark.Next = (refl, refl)
two mark.SendFailed = (refl, refl)
two mark.FailedAttempt = (refl, refl)

length-says : (m : Mark) (a : Answer) → length (says (form_of m) a) ≤ 68
length-says m (refused n) = omega (arith, length-number n)
length-says m (took n r) = omega (arith, length-counted (form_of m).hands n r)
length-says m (sends r) = omega (arith, length-request r)
length-says m (waits r n) = simp length-append (omega (arith, length-request r, length-number n))
length-says m (completes k n r) = omega (arith, length-counted (form_of m).hands k r)
length-says m (attempt n) = omega (arith, length-number n)
length-says m ok = omega (arith, (two m).1)
length-says m done = omega arith
length-says m (ends c k n d) = omega arith

-- a mark with its space
pub mark_is : (m : Mark) {l r : Line} → text_of l ≡ [] → Adds l ((form_of m).name ++ ascii " ") r → text_of r ≡ (form_of m).name ++ ascii " "
mark_is m e h = whole [] e (omega (arith, (two m).0, length-append (form_of m).name (ascii " "))) h

-- a mark with its space, what is said and the end are a line
pub line_is : (m : Mark) (a : Answer) {l r : Line} → text_of l ≡ (form_of m).name ++ ascii " " → Adds l (says (form_of m) a ++ ascii "\n") r → text_of r ≡ line_of m a
unfolding line_of
line_is m a e h =
    whole ((form_of m).name ++ ascii " ") e (simp length-append (omega (arith, (two m).0, length-says m a))) h
    ∙ sym (append_assoc ((form_of m).name ++ ascii " ") (says (form_of m) a) (ascii "\n"))
