use Rattle.std.proofs.Common.{◌≡◌, ◌+◌, ◌-◌, length, refl, sym, ◌∙◌, arith}
use Rattle.std.proofs.lemmas.Slice.{put_mid-paste}
use lib.Seq.{sets-eq, take-length}
use Rattle.copying.proofs.put_run.Goals as goal

pub returns : goal.returns
returns c =
    let d = c.args.buffer.now in
    let src = c.args.src.now in
    let at = c.args.at in
    let k : length src ≡ at + length src - at = omega arith in
    record {
      place = refl;
      stored =
          put_mid-paste at (at + length src - at) d c.copy_from_slice.new.self src (length src) c.copy_from_slice.ensures.after k refl
          ∙ rw (take-length src) (sym (sets-eq src d at c.requires));
    }
