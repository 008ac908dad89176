-- `unfolding computed` opens the rules, so that a theorem about a given run is found by computing it.
use Rattle.crc32c.specs.Reg as R
use Rattle.protobuf_format.specs.Varint.{groups, varint}
use Rattle.protobuf_format.specs.Field.{part, read_value, read_field, read_fields, fields}
use Rattle.protobuf_format.specs.Message.{put, put_all, merge}
use Rattle.utf8.specs.Utf8.{after, goes_on}
use Rattle.redirect_format.specs.Redirect.{redirect_rows, read_redirect}
use Rattle.rules.specs.Spec.{handle_response, handle_redirect}
use Rattle.rules.specs.Session.{stored, full, watermark, closed, no_slot, no_waiter, past_end, short_out, complete, choose, unless, ending}
use Rattle.rules.specs.Upload.{holds, appends, asks, closes}
use Rattle.rules.specs.Respond.{ack, is_satisfied, satisfied, takes, last_step, responds, to_replay, shakes}
use Rattle.rules.specs.Reconnect.{breaks, ruled, judges, fails}
use Rattle.rules.specs.Replay.{hands_waiter, hands_chunk, hands, unsent}
use Rattle.rules.specs.Step.{step}
use Rattle.rules.specs.Opening.{good_bucket, too_long, open_session, first, opens}
use Rattle.rules.specs.World.{happens, runs, start}
use Rattle.rules.specs.Calls.{called_all, begin}

unfoldable pub computed : Unit {0}
unfolding R.step R.steps R.feed R.reg R.crc_of R.zeros R.joined groups varint part read_value read_field read_fields fields put put_all merge after goes_on redirect_rows read_redirect handle_response handle_redirect stored full watermark closed no_slot no_waiter past_end short_out complete choose unless ending holds appends asks closes ack is_satisfied satisfied takes last_step responds to_replay shakes breaks ruled judges fails hands_waiter hands_chunk hands unsent step good_bucket too_long open_session first opens happens runs start called_all begin
computed = tt
