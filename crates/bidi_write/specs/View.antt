-- The records of the code as the rules' messages.
use Rattle.std.proofs.Math.Option.{Option, none, some}
use Rattle.std.specs.Prelude.{ℕ, take, ℤ}
pub use Rattle.protobuf_format.specs.Reading.{given}
use Rattle.rules.specs.Message as M
use Rattle.rules.specs.Session as S
use Rattle.bidi_write.specs.declared.Generation.{Generation}
use Rattle.bidi_write.specs.declared.Metageneration.{Metageneration}
use Rattle.std.specs.declared.option.Option as opt
use Rattle.std.specs.Prelude.{Some, None}
use Rattle.bidi_write.specs.declared.Offset.{Offset}
use Rattle.bidi_write.specs.declared.ChecksummedData.{ChecksummedData}
use Rattle.bidi_write.specs.declared.Request.{Request}
use Rattle.bidi_write.specs.declared.WriteStatus.{WriteStatus}
use Rattle.bidi_write.specs.declared.WriteStatus.TheVariants as status
use Rattle.bidi_write.specs.declared.Response.{Response}
use Rattle.bidi_write.specs.declared.Redirect.{Redirect}
use Rattle.bidi_write.specs.declared.Detail.{Detail}
use Rattle.bidi_write.specs.declared.Detail.TheVariants as detail
use Rattle.bidi_write.specs.declared.Break.{Break}
use Rattle.bidi_write.specs.declared.Break.TheVariants as stream
use Rattle.bidi_write.specs.declared.Call.{Call}
use Rattle.bidi_write.specs.declared.Call.TheVariants as call
use Rattle.bidi_write.specs.declared.Cause.{Cause}
use Rattle.bidi_write.specs.declared.Cause.TheVariants as cause

abbrev pub generation_of : Generation → M.Generation
generation_of g = record { number = g.0 }

abbrev pub metageneration_of : Metageneration → M.Metageneration
metageneration_of g = record { number = g.0 }

abbrev pub checksum_of : opt.Option ℕ → Option ℕ
checksum_of None = none
checksum_of (Some c) = some c

-- the bytes of a request's data fill the front of the out buffer
abbrev pub data_of : opt.Option ChecksummedData → M.Bytes → Option M.ChecksummedData
data_of None out = none
data_of (Some d) out = some (record { content = take d.length out; crc32c = d.crc32c })

-- the length that a request gives them
abbrev pub length_of : opt.Option ChecksummedData → ℕ
length_of None = 0
length_of (Some d) = d.length

unfoldable pub request_of : Request → M.Bytes → M.Request
request_of r out = record {
  write_offset = r.write_offset.0;
  checksummed_data = data_of r.«data» out;
  object_checksum = checksum_of r.object_checksums;
  state_lookup = r.state_lookup;
  flush = r.flush;
  finish_write = r.finish_write;
}

abbrev pub status_of : opt.Option WriteStatus → Option M.WriteStatus
status_of None = none
status_of (Some (status.PersistedSize n)) = some (M.persisted_size n.0)
status_of (Some (status.Resource r)) = some (M.resource r.size.0 (generation_of r.generation) r.finalized)

-- bytes come beside a record, which says whether they are given
abbrev pub response_of : Response → M.Bytes → M.Response
response_of m handle = record { write_status = status_of m.write_status; write_handle = given m.has_write_handle handle }

abbrev pub new_generation_of : opt.Option Generation → Option M.Generation
new_generation_of None = none
new_generation_of (Some g) = some (generation_of g)

abbrev pub redirect_of : Redirect → M.Bytes → M.Bytes → M.Redirect
redirect_of r token handle = record {
  routing_token = given r.has_routing_token token;
  write_handle = given r.has_write_handle handle;
  generation = new_generation_of r.generation;
}

abbrev pub detail_of : Detail → M.Bytes → Option M.Bytes
detail_of detail.Absent value = none
detail_of detail.Redirect value = some value

abbrev pub break_of : Break → M.Bytes → M.Break
break_of stream.EndOfStream value = M.end_of_stream
break_of (stream.Status s) value = M.status s.code (detail_of s.detail value)
break_of stream.Error value = M.other_error

abbrev pub size_of : opt.Option Offset → Option ℤ
size_of None = none
size_of (Some n) = some n.0

abbrev pub cause_of : Cause → S.Cause
cause_of cause.Finished = S.finished
cause_of cause.Regressed = S.regressed
cause_of cause.Beyond = S.beyond
cause_of cause.AlreadyFinalized = S.already_finalized
cause_of cause.Permanent = S.permanent
cause_of cause.Exhausted = S.exhausted
cause_of cause.GivenUp = S.given_up
cause_of cause.StreamError = S.stream_error

-- a call with the bytes beside it, and the length of the out buffer that it is lent
abbrev pub call_of : Call → M.Bytes → ℕ → S.Call
call_of call.Append bytes out = S.append bytes out
call_of call.Flush bytes out = S.flush out
call_of call.Finalise bytes out = S.finalise out
call_of call.NextRequest bytes out = S.next_request out
call_of call.Close bytes out = S.close
call_of call.SendFailed bytes out = S.send_failed
call_of (call.Response m) bytes out = S.response (response_of m bytes)
call_of (call.Handshake m) bytes out = S.handshake (response_of m bytes)
call_of (call.Break b) bytes out = S.break (break_of b bytes)
call_of (call.Judge v) bytes out = S.judge v
call_of (call.FailedAttempt b v) bytes out = S.failed_attempt (break_of b bytes) v
