-- "The bench program": the text of a line, as bytes.
use Rattle.std.specs.Prelude.{Bool, true, false, cond, ◌||◌, [], ◌++◌, ℕ, length}
use Rattle.std.proofs.Math.Option.{Option, none, some}
use Prim.Native.String.{String}
use Rattle.rules.specs.Message.{Bytes, Request}
use Rattle.text.specs.Ascii.{ascii}
use Rattle.text.specs.Decimal.{number, signed}
use Rattle.rules.specs.Session.{Call, append, flush, finalise, next_request, close, send_failed, response, handshake, break, judge, failed_attempt, Answer, refused, took, sends, waits, completes, attempt, ok, done, ends}
use Rattle.rules.specs.Notes.{data_in}
use Rattle.bench_lines.specs.declared.Mark.{Mark}
use Rattle.bench_lines.specs.declared.Mark.TheVariants as mark

-- ---- requests

abbrev pub flag : Bool → Bytes → Bytes
flag true t = t
flag false t = []

-- "f flush, s lookup, w finish, or `-`"
abbrev pub flags : Bool → Bool → Bool → Bytes
flags f s w = cond (f || s || w) (flag f (ascii "f") ++ flag s (ascii "s") ++ flag w (ascii "w")) (ascii "-")

-- "A request prints offset:length:flags"
unfoldable pub request : Request → Bytes
request r = signed r.write_offset ++ ascii ":" ++ number (length (data_in (some r))) ++ ascii ":" ++ flags r.flush r.state_lookup r.finish_write

-- "the request or `-`"
abbrev pub or_dash : Option Request → Bytes
or_dash none = ascii "-"
or_dash (some r) = request r

-- ---- a call's answer

abbrev pub mark_of : Call → Mark
mark_of (append d out) = mark.Append
mark_of (flush out) = mark.Flush
mark_of (finalise out) = mark.Finalise
mark_of (next_request out) = mark.Next
mark_of close = mark.Close
mark_of send_failed = mark.SendFailed
mark_of (response m) = mark.Response
mark_of (handshake m) = mark.Handshake
mark_of (break b) = mark.Break
mark_of (judge v) = mark.Verdict
mark_of (failed_attempt b v) = mark.FailedAttempt

-- a call's mark, how *ok* prints behind it, and whether a request does behind a number
pub record Form : Type 0 where
  pub name : Bytes
  pub okay : Bytes
  pub hands : Bool

abbrev pub form : String → String → Bool → Form
form name okay hands = record { name = ascii name; okay = ascii okay; hands = hands }

-- "AP prints bytes taken, then the request or `-`; RS waiters completed, then the request; HS those completed; BR the attempt; VE `go`; OP, CL `ok`".
-- No record of the bench program makes the last two; they print as a close and a verdict do.
abbrev pub form_of : Mark → Form
form_of mark.Open = form "OP" "ok" true
form_of mark.Append = form "AP" "ok" true
form_of mark.Flush = form "FL" "ok" true
form_of mark.Finalise = form "FI" "ok" true
form_of mark.Close = form "CL" "ok" true
form_of mark.Response = form "RS" "ok" true
form_of mark.Handshake = form "HS" "ok" false
form_of mark.Break = form "BR" "ok" true
form_of mark.Verdict = form "VE" "go" true
form_of mark.Next = form "NX" "ok" true
form_of mark.SendFailed = form "SF" "ok" true
form_of mark.FailedAttempt = form "FA" "go" true

abbrev pub counted : Bool → ℕ → Option Request → Bytes
counted true n r = number n ++ ascii " " ++ or_dash r
counted false n r = number n

-- "NX the request or `done`; wN a new waiter. A call that ends the session prints its mark and `end` instead; a refusal prints as `FL E8`."
abbrev pub says : Form → Answer → Bytes
says f (refused n) = ascii "E" ++ number n
says f (took n r) = counted f.hands n r
says f (sends r) = request r
says f (waits r n) = request r ++ ascii " w" ++ number n
says f (completes k n r) = counted f.hands k r
says f (attempt n) = number n
says f ok = f.okay
says f done = ascii "done"
says f (ends c k n d) = ascii "end"

-- the line that an answer prints, with its end
unfoldable pub line_of : Mark → Answer → Bytes
line_of m a = (form_of m).name ++ ascii " " ++ says (form_of m) a ++ ascii "\n"
