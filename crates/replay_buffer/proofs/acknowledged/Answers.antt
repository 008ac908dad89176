use mathlib.Core.Path.{◌≡◌, ◌∙◌, sym, ap}
use mathlib.Core.Bool.{true}
use mathlib.Core.List.{List}
use Prim.Native.Nat.{ℕ, ◌+◌}
use native.Mathlib.Omega.{arith}
use lib.IntN.{ℤ, pos, ◌+ℤ◌, +ℤ_assoc}
use lib.ListN.{length, drop, get_or}
use lib.Signed.{le_z}
use Rattle.ring.specs.Ring.{part}
use Rattle.ring.proofs.Laws.{length_part}
use Rattle.chunk_words.specs.Word.{len_of}
use Rattle.replay_buffer.specs.Ack.{after, front_of}
use Rattle.replay_buffer.proofs.Laws.{word_in}
use Rattle.replay_buffer.proofs.Prefix.{loop_more, loop_stop, loop_end}
use Rattle.replay_buffer.proofs.acknowledged.Goals.{After-len_of-len, At-loop-i, Else-not-ends_by}
use Rattle.replay_buffer.proofs.acknowledged.Goals as goal

words-there : (c : At-loop-i) → length (part c.args.slots c.args.first 0 c.args.chunks c.args.table.now) ≡ c.args.chunks
words-there c = length_part c.args.slots c.args.first c.args.table.now c.requires.room 0 c.args.chunks c.requires.ends

word : (c : After-len_of-len) → c.len_of-len.result ≡ len_of (get_or (part c.args.slots c.args.first 0 c.args.chunks c.args.table.now) c.loop-i.i 0)
word c =
    c.len_of-len.ensures ∙ ap len_of (c.word_at.ensures ∙ sym (word_in c.args.slots c.args.first c.args.chunks c.loop-i.i c.args.table.now (omega arith)))

-- the next chunk ends at or below the size

module _ (c : Else-not-ends_by) where
  ends : le_z (c.loop-i.at.0 +ℤ pos c.len_of-len.result) c.args.persisted.0 ≡ true
  ends = sym c.ends_by.ensures ∙ c.if-not-ends_by.false

  moved : c.loop-i.at.0 +ℤ pos c.len_of-len.result
      ≡ c.args.start.0 +ℤ pos (c.loop-i.bytes + c.len_of-len.result)
  moved =
      ap (λ (x : ℤ). x +ℤ pos c.len_of-len.result) c.loop-i.invariant.0
      ∙ +ℤ_assoc c.args.start.0 (pos c.loop-i.bytes) (pos c.len_of-len.result)

pub loop-i-preserved : goal.loop-i-preserved
loop-i-preserved c =
    let k : ℕ = c.len_of-len.result in
    let ws : List ℕ = part c.args.slots c.args.first 0 c.args.chunks c.args.table.now in
    let n : length ws ≡ c.args.chunks = words-there (goal.at.loop-i-preserved c).At-loop-i in (
      c.plus-at.ensures ∙ moved (goal.at.loop-i-preserved c).Else-not-ends_by,
      loop_more c.args.persisted.0 c.args.start.0 c.loop-i.at.0 c.loop-i.bytes c.loop-i.i ws c.loop-i.invariant.1 k (omega arith) (word (goal.at.loop-i-preserved c).After-len_of-len) (ends (goal.at.loop-i-preserved c).Else-not-ends_by)
          ∙ ap (λ (z : ℤ). after (c.loop-i.i + 1) (c.loop-i.bytes + k) (front_of c.args.persisted.0 z (drop (c.loop-i.i + 1) ws))) (sym c.plus-at.ensures),
    )

pub returns : goal.returns
returns c =
    let ws : List ℕ = part c.args.slots c.args.first 0 c.args.chunks c.args.table.now in
    let n : length ws ≡ c.args.chunks = words-there (goal.at.returns c).At-loop-i in
    let all : c.args.chunks ≡ c.loop-i.i = omega arith in
    ap (λ (k : ℕ). record { chunks = k; bytes = c.loop-i.bytes }) all
    ∙ loop_end c.args.persisted.0 c.args.start.0 c.loop-i.at.0 c.loop-i.bytes c.loop-i.i ws c.loop-i.invariant.1 (omega arith)

pub returns-then-not-ends_by : goal.returns-then-not-ends_by
returns-then-not-ends_by c =
    let ws : List ℕ = part c.args.slots c.args.first 0 c.args.chunks c.args.table.now in
    let n : length ws ≡ c.args.chunks = words-there (goal.at.returns-then-not-ends_by c).At-loop-i in
    loop_stop c.args.persisted.0 c.args.start.0 c.loop-i.at.0 c.loop-i.bytes c.loop-i.i ws c.loop-i.invariant.1 c.len_of-len.result (omega arith) (word (goal.at.returns-then-not-ends_by c).After-len_of-len)
    (sym c.ends_by.ensures ∙ c.if-not-ends_by.true)
