use Rattle.std.proofs.Common.{◌≡◌, ◌≤◌, ◌<◌, length, arith}
use Rattle.std.specs.Prelude.{Err}
use Rattle.bidi_write.specs.View.{length_of}
use Rattle.bidi_write.specs.declared.Refusal.TheVariants as refusal
use Rattle.wire.proofs.Range.{in_range}
use Rattle.wire.proofs.Answer.{data_short, buffer_short, both_long}
use Rattle.wire.proofs.write.Goals as goal

pub returns-in_err-refuse_if : goal.returns-in_err-refuse_if
returns-in_err-refuse_if c =
    let a = c.args in
    let ranged = in_range a.request a.«data».now _ (omega (arith, c.well_formed.1.0.1)) c.well_formed.0 in
    let refused : c.from_residual.result ≡ Err refusal.ShortBuffer = grind arith in
    let short : length a.«data».now < length_of a.request.«data» = grind arith in
    rw refused (data_short a.request a.«data».now a.buffer.now ranged short)

pub returns-in_err-refuse_if-2 : goal.returns-in_err-refuse_if-2
returns-in_err-refuse_if-2 c =
    let a = c.args in
    let ranged = in_range a.request a.«data».now _ (omega (arith, c.well_formed.1.0.1)) c.well_formed.0 in
    let refused : c.from_residual-in_err-refuse_if-2.result ≡ Err refusal.ShortBuffer = grind arith in
    let full : length_of a.request.«data» ≤ length a.«data».now = grind arith in
    let short : length a.buffer.now < c.encoded_len.result = grind arith in
    rw refused (buffer_short a.request a.«data».now a.buffer.now ranged full (omega (arith, short, c.encoded_len.ensures a.«data».now full)))

pub returns : goal.returns
returns c =
    let a = c.args in
    let ranged = in_range a.request a.«data».now _ (omega (arith, c.well_formed.1.0.1)) c.well_formed.0 in
    let full : length_of a.request.«data» ≤ length a.«data».now = grind arith in
    let enough : c.encoded_len.result ≤ length a.buffer.now = grind arith in
    both_long a.request a.«data».now a.buffer.now ranged full c.put_fields.result c.put_fields.new.buffer
    (omega (arith, enough, c.encoded_len.ensures a.«data».now full)) c.put_fields.ensures
