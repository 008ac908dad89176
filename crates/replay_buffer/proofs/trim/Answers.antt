-- how far the size is past the front chunk's start
use mathlib.Core.Path.{◌≡◌, ap, ◌∙◌}
use Prim.Native.Nat.{ℕ, ◌-◌, ◌<◌}
use native.Mathlib.Omega.{arith}
use lib.IntN.{ℤ, pos, ◌-ℤ◌}
use lib.ListN.{length}
use Rattle.bidi_write.specs.Numbers.{to_ℕ}
use Rattle.bidi_write.proofs.Offsets.{minus_is, past_is, past_zero}
use Rattle.replay_buffer.specs.View.{lent}
use Rattle.replay_buffer.specs.declared.ReplayBuffer.{ReplayBuffer}
use Rattle.replay_buffer.proofs.Rest.{head-advanced, first-advanced}
use Rattle.replay_buffer.proofs.Acking.{kept_none, kept_above, kept_short, kept_long, trimmed_front}
use Rattle.replay_buffer.proofs.trim.Goals.{After-past-trimmed, Else-trimmed-eq0, then-len-trimmed-via-then-len-trimmed, then-len-trimmed-via-else-len-trimmed+then-b-len}
use Rattle.replay_buffer.proofs.trim.Goals as goal

trimmed : (c : After-past-trimmed) → c.past-trimmed.result ≡ to_ℕ c.args.persisted.0 - (to_ℕ c.args.end.0 - c.args.b.unpersisted_bytes)
trimmed c =
    let o = c.minus-start.ensures ∙ minus_is c.args.end.0 c.args.b.unpersisted_bytes c.requires.1 c.requires.0.started in
    c.past-trimmed.ensures ∙ ap (λ (z : ℤ). to_ℕ (c.args.persisted.0 -ℤ z)) o ∙ past_is c.args.persisted.0 (to_ℕ c.args.end.0 - c.args.b.unpersisted_bytes)

-- it is above zero, where it is past

above : (c : Else-trimmed-eq0) → c.args.persisted.0 ≡ pos (to_ℕ c.args.persisted.0)
above c =
    let o = c.minus-start.ensures ∙ minus_is c.args.end.0 c.args.b.unpersisted_bytes c.requires.1 c.requires.0.started in
    let t : c.past-trimmed.result ≡ to_ℕ c.args.persisted.0 - (to_ℕ c.args.end.0 - c.args.b.unpersisted_bytes) =
    c.past-trimmed.ensures ∙ ap (λ (z : ℤ). to_ℕ (c.args.persisted.0 -ℤ z)) o ∙ past_is c.args.persisted.0 (to_ℕ c.args.end.0 - c.args.b.unpersisted_bytes) in
    past_zero c.args.persisted.0 (omega (arith, t, c.if-trimmed-eq0.false))

pub returns-then-b-eq0 : goal.returns-then-b-eq0
returns-then-b-eq0 c =
    kept_none _ _ _ _ _ c.requires.0 c.args.persisted.0 c.if-b-eq0.true

pub returns-then-trimmed-eq0 : goal.returns-then-trimmed-eq0
returns-then-trimmed-eq0 c =
    kept_above _ _ _ _ _ c.requires.0 c.args.persisted.0 (omega (arith, trimmed (goal.at.returns-then-trimmed-eq0 c).After-past-trimmed, c.if-trimmed-eq0.true))

pub returns-then-len-trimmed : goal.returns-then-len-trimmed
returns-then-len-trimmed c =
    let a = c.args in
    let t = trimmed (goal.at.returns-then-len-trimmed c).After-past-trimmed in
    rw (above (goal.at.returns-then-len-trimmed c).Else-trimmed-eq0)
    (elim c.then-len-trimmed.branch [
      | then-len-trimmed-via-then-len-trimmed w ↦ kept_short _ _ _ _ _ c.requires.0 (to_ℕ a.persisted.0) c.word_at.result (omega (arith, c.if-b-eq0.false)) c.word_at.ensures
          (omega (arith, t, c.if-trimmed-eq0.false)) (omega (arith, t, c.len_of-len.ensures, w.if-len-trimmed.true))
      | then-len-trimmed-via-else-len-trimmed+then-b-len w ↦ kept_long _ _ _ _ _ c.requires.0 (to_ℕ a.persisted.0) c.word_at.result (omega (arith, c.if-b-eq0.false)) c.word_at.ensures
          (omega (arith, c.len_of-len.ensures, w.if-b-len.true))
    ])

pub sum_at-sum-requires : goal.sum_at-sum-requires
sum_at-sum-requires c =
    let h = head-advanced (lent c.args.size c.args.slots) c.args.b (record { chunks = 0; bytes = c.past-trimmed.result }) (to_ℕ c.args.end.0) (length c.args.store.now) (length c.args.table.now) c.requires.0 (omega (arith, c.if-len-trimmed.false, c.if-b-len.false)) in
    let e = ap (λ (r : ReplayBuffer). r.head) c.advance-rest.ensures in
    record { room = c.requires.0.store_lent; starts = omega (arith, h, e); ends = omega (arith, c.requires.0.stored_in, c.if-b-len.false) }

pub put_word-requires : goal.put_word-requires
put_word-requires c =
    let h = first-advanced (lent c.args.size c.args.slots) c.args.b (record { chunks = 0; bytes = c.past-trimmed.result }) (to_ℕ c.args.end.0) (length c.args.store.now) (length c.args.table.now) c.requires.0 (omega arith) in
    let e = ap (λ (r : ReplayBuffer). r.first) c.advance-rest.ensures in
    record { room = c.requires.0.table_lent; starts = omega (arith, h, e); ends = omega (arith, c.requires.0.first_in) }

pub returns : goal.returns
returns c =
    let d : ℕ = c.past-trimmed.result in
    let t = trimmed (goal.at.returns c).After-past-trimmed in
    let some : 0 < d = omega (arith, c.if-trimmed-eq0.false) in
    rw (c.advance-rest.ensures, above (goal.at.returns c).Else-trimmed-eq0)
    (trimmed_front _ _ _ _ _ c.requires.0 (to_ℕ c.args.persisted.0) c.word_at.result (omega (arith, c.if-b-eq0.false)) c.word_at.ensures d (c.len_of-len.result - d)
    c.sum_at-sum.result c.put_word.new.table (omega (arith, t)) (omega (arith, t)) (omega (arith, c.len_of-len.ensures, c.if-len-trimmed.false)) (omega (arith, c.if-len-trimmed.false))
    (omega (arith, c.len_of-len.ensures, c.if-b-len.false)) (rw (c.advance-rest.ensures, c.pack-word.ensures) at c.put_word.ensures) (rw c.advance-rest.ensures at c.sum_at-sum.ensures))
