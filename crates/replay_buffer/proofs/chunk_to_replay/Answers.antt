-- where the first chunk begins
use mathlib.Core.Path.{◌≡◌, ap, ◌∙◌}
use Prim.Native.Nat.{◌-◌}
use native.Mathlib.Omega.{arith}
use lib.IntN.{ℤ, pos, ◌+ℤ◌}
use Rattle.bidi_write.specs.Numbers.{to_ℕ}
use Rattle.bidi_write.proofs.Offsets.{minus_is}
use Rattle.replay_buffer.specs.View.{lent}
use Rattle.replay_buffer.proofs.Reading.{reads_past, reads_short, reads_beyond, reads_chunk}
use Rattle.replay_buffer.proofs.chunk_to_replay.Goals.{After-minus-start, then-out-length-via-then-out-length, then-out-length-via-else-out-length+then-b-at, then-out-length-via-else-out-length+else-b-at+then-b-at-2}
use Rattle.replay_buffer.proofs.chunk_to_replay.Goals as goal

start : (c : After-minus-start) → c.minus-start.result.0 ≡ pos (to_ℕ c.args.end.0 - c.args.b.unpersisted_bytes)
start c =
    c.minus-start.ensures ∙ minus_is c.args.end.0 c.args.b.unpersisted_bytes c.requires.1 c.requires.0.started

pub returns-then-b-next : goal.returns-then-b-next
returns-then-b-next c =
    rw c.no_chunk.ensures (reads_past _ _ _ _ _ c.requires.0 c.args.next c.args.at c.args.out.now c.if-b-next.true)

pub returns-then-out-length : goal.returns-then-out-length
returns-then-out-length c =
    let a = c.args in
    let m = lent a.size a.slots in
    let beyond = reads_beyond m a.b (to_ℕ a.end.0) a.store.now a.table.now c.requires.0 a.next a.at a.out.now c.word_at-word.result c.word_at-word.ensures in
    rw c.no_chunk-then-out-length.ensures
    (elim c.then-out-length.branch [
      | then-out-length-via-then-out-length w ↦ reads_short _ _ _ _ _ c.requires.0 a.next a.at a.out.now c.word_at-word.result c.word_at-word.ensures (omega (arith, c.len_of-length.ensures, w.if-out-length.true))
      | then-out-length-via-else-out-length+then-b-at w ↦ beyond (omega (arith, w.if-b-at.true))
      | then-out-length-via-else-out-length+else-b-at+then-b-at-2 w ↦ beyond (omega (arith, c.len_of-length.ensures, w.if-b-at.false, w.if-b-at-2.true))
    ])

pub returns : goal.returns
returns c =
    reads_chunk _ _ _ _ _ c.requires.0 c.args.next c.args.at c.args.out.now c.word_at-word.result c.word_at-word.ensures
    (record { write_offset = c.plus.result; length = c.len_of-length.result; crc32c = c.sum_of.result }) c.copy_out.new.out (omega (arith, c.if-b-next.false)) c.len_of-length.ensures c.sum_of.ensures
    (c.plus.ensures ∙ ap (λ (z : ℤ). z +ℤ pos c.args.at) (start (goal.at.returns c).After-minus-start))
    (omega (arith, c.len_of-length.ensures, c.if-b-at.false, c.if-b-at-2.false)) (omega (arith, c.len_of-length.ensures, c.if-out-length.false))
    (rw c.len_of-length.ensures at c.copy_out.ensures)
