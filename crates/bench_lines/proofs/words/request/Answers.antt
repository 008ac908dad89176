use mathlib.Core.Path.{◌≡◌, ap, ◌∙◌}
use mir.Syntax.{w64}
use mir.Val.{to_z, of_z}
use borrow.Author.Rules.{rules}
use Rattle.bidi_write.specs.View.{request_of}
use Rattle.text.specs.Decimal.{number, signed}
use Rattle.bench_lines.specs.Text.{request}
use Rattle.bench_lines.proofs.Parts.{data_in_lem}
use Rattle.text.proofs.Clipped.{◌⨟◌, reworded}
use Rattle.bench_lines.proofs.words.request.Goals as goal

pub returns : goal.returns
unfolding request request_of
returns c =
    λ out h.
    let e : to_z w64 (of_z w64 c.args.r.write_offset.0) ≡ c.args.r.write_offset.0 = search rules in
    reworded (ap signed e) c.signed.ensures ⨟ c.byte.ensures ⨟ reworded (ap number (c.data_length.ensures ∙ data_in_lem c.args.r.«data» out h)) c.number.ensures
    ⨟ c.byte-sized.ensures ⨟ c.flags.ensures
