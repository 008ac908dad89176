-- "The bench program": what an input prints, from its bytes to the output's.
use Rattle.std.specs.Prelude.{◌⊎◌, [], ◌++◌, ℕ, zero, suc, ◌*◌, length}
use Rattle.std.proofs.Common.{inl, inr}
use Rattle.std.proofs.Math.Option.{Option, none, some}
use Rattle.rules.specs.Message.{Bytes, end_of_stream}
use Rattle.rules.specs.Session.{Session, Call, append, flush, finalise, next_request, close, response, handshake, break, judge, refused, ok}
use Rattle.rules.specs.Step.{step}
use Rattle.rules.specs.Opening.{Opening, Opened, turned_away, opened, opens}
use Rattle.rules.specs.Bench.{sized, opening}
use Rattle.bench_records.specs.Record.{Record, OP, AP, FL, FI, CL, RS, HS, BR, VE, NX, Reading, whole, cut, unknown, reading}
use Rattle.bench_lines.specs.Text.{mark_of, line_of}
use Rattle.bench_lines.specs.declared.Mark.TheVariants as mark
use Rattle.bench_turns.specs.Turn.{again}

-- ---- records

-- the opening or the call that a record makes: "out buffer 8,192; responses hold a size alone", "BR (end of stream)"
abbrev pub makes : Record → Opening ⊎ Call
makes (OP c capacity p) = inl (opening c capacity p none)
makes (AP b) = inr (append b 8192)
makes FL = inr (flush 8192)
makes FI = inr (finalise 8192)
makes CL = inr close
makes (RS n) = inr (response (sized n))
makes (HS n) = inr (handshake (sized n))
makes BR = inr (break end_of_stream)
makes (VE v) = inr (judge v)
makes NX = inr (next_request 8192)

-- "a cut or unknown [record] ends the run"
abbrev pub goes_on : (Opening ⊎ Call → Bytes → Bytes) → Reading → Bytes
goes_on then (whole r rest) = then (makes r) rest
goes_on then cut = []
goes_on then unknown = []

-- ---- the run

-- "A second OP ends the run."
abbrev pub follows : (Call → Bytes → Bytes) → Opening ⊎ Call → Bytes → Bytes
follows then (inl o) rest = []
follows then (inr c) rest = then c rest

-- what a call that is to be made prints, or else the record that the input begins with; then what follows, in so many turns at most
abbrev pub prints : ℕ → Option Call → Bytes → Session → Bytes
prints zero call input s = []
prints (suc k) none input s = goes_on (follows (λ c rest. prints k (some c) rest s)) (reading input)
prints (suc k) (some c) input s = let r = step c s in line_of (mark_of c) r.answer ++ prints k (again c r.answer) input r.session

-- "A refused OP ends the run." No run makes two turns for each byte (see `Stands`).
abbrev pub begins : Bytes → Opened → Bytes
begins rest (turned_away n) = line_of mark.Open (refused n)
begins rest (opened s) = line_of mark.Open ok ++ prints (2 * length rest) none rest s

-- "another first record ... ends the run"
abbrev pub first : Opening ⊎ Call → Bytes → Bytes
first (inl o) rest = begins rest (opens o)
first (inr c) rest = []

unfoldable pub printed : Bytes → Bytes
printed input = goes_on first (reading input)
