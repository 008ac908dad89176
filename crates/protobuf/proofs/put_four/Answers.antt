use Rattle.std.proofs.Common.{◌+◌, ◌-◌, refl, sym, ◌∙◌, arith}
use Rattle.std.proofs.lemmas.Slice.{put_mid-paste}
use lib.Seq.{sets-eq}
use Rattle.little_endian.specs.Little.{digits}
use Rattle.protobuf.proofs.Writing.{four-bytes}
use Rattle.protobuf.proofs.put_four.Goals as goal

pub returns : goal.returns
returns c =
    let d = c.args.buffer.now in
    let at = c.args.at in
    let src = digits 4 c.args.v in
    record {
      place = refl;
      stored =
          put_mid-paste at (at + 4 - at) d c.copy_from_slice.new.self src 4 (c.copy_from_slice.ensures.after ∙ c.to_le_bytes.ensures ∙ four-bytes c.args.v) (omega arith) refl
          ∙ sym (sets-eq src d at c.requires);
    }
