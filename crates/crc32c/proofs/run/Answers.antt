use Rattle.std.proofs.Common.{ℕ, ◌*◌, ◌/◌, length, take, drop, sym, ap, ◌∙◌, ap₂, take-append-drop}
use Rattle.std.specs.List.{fold}
use Rattle.crc32c.specs.Reg.{reg}
use Rattle.crc32c.proofs.Join.{reg-append}
use Rattle.crc32c.proofs.Slicing.{by_eights}
use Rattle.crc32c.proofs.run.Goals as goal

pub returns : goal.returns
returns c =
    let a = c.args in
    let l = a.bytes.now in
    let n : ℕ = length l / 8 in
    c.bytewise.ensures
    ∙ ap₂ reg (c.whole_eights.ensures ∙ ap (fold reg a.start) c.as_chunks.ensures.front ∙ by_eights n a.start l) c.as_chunks.ensures.back
    ∙ sym (reg-append a.start (take (n * 8) l) (drop (n * 8) l))
    ∙ ap (reg a.start) (take-append-drop (n * 8) l)
