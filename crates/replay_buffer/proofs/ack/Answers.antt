-- the chunks that go
use mathlib.Core.Path.{◌≡◌, refl, ap, ◌∙◌}
use Prim.Native.Nat.{◌-◌}
use native.Mathlib.Omega.{arith}
use lib.IntN.{ℤ, pos}
use Rattle.bidi_write.specs.Numbers.{to_ℕ}
use Rattle.bidi_write.proofs.Offsets.{minus_is}
use Rattle.replay_buffer.specs.View.{lent, words_of}
use Rattle.replay_buffer.specs.Ack.{Stored, front_of}
use Rattle.replay_buffer.specs.declared.ReplayBuffer.{ReplayBuffer}
use Rattle.replay_buffer.proofs.Rest.{keeps_advanced}
use Rattle.replay_buffer.proofs.Acking.{front_stored, acks_too_long, acks_trimmed}
use Rattle.replay_buffer.proofs.ack.Goals.{After-acknowledged-front, Else-b-front}
use Rattle.replay_buffer.proofs.ack.Goals as goal

front : (c : After-acknowledged-front)
    → c.acknowledged-front.result
    ≡ front_of c.args.persisted.0 (pos (to_ℕ c.args.end.0 - c.args.b.unpersisted_bytes))
    (words_of (lent c.args.size c.args.slots) c.args.b c.args.table.now)
front c =
    let o = c.minus-start.ensures ∙ minus_is c.args.end.0 c.args.b.unpersisted_bytes c.requires.1 c.requires.0.started in
    c.acknowledged-front.ensures ∙ ap (λ (z : ℤ). front_of c.args.persisted.0 z (words_of (lent c.args.size c.args.slots) c.args.b c.args.table.now)) o

-- they are stored

stored : (c : Else-b-front) → Stored c.args.b c.acknowledged-front.result
stored c =
    let o = c.minus-start.ensures ∙ minus_is c.args.end.0 c.args.b.unpersisted_bytes c.requires.1 c.requires.0.started in
    front_stored _ _ _ _ _ c.requires.0 c.args.persisted.0 c.acknowledged-front.result (c.acknowledged-front.ensures ∙ ap (λ (z : ℤ). front_of c.args.persisted.0 z (words_of (lent c.args.size c.args.slots) c.args.b c.args.table.now)) o) c.if-b-front.false

-- what is left was stored

pub returns-then-b-front : goal.returns-then-b-front
returns-then-b-front c =
    acks_too_long _ _ _ _ _ c.requires.0 c.args.persisted.0 c.acknowledged-front.result (front (goal.at.returns-then-b-front c).After-acknowledged-front) c.if-b-front.true

pub advance-rest-requires-clause-stored : goal.advance-rest-requires-clause-stored
advance-rest-requires-clause-stored c = stored c

pub trim-buffer-requires : goal.trim-buffer-requires
trim-buffer-requires c = (
  rw c.advance-rest.ensures
      (keeps_advanced (lent c.args.size c.args.slots) c.args.b c.acknowledged-front.result (to_ℕ c.args.end.0) c.args.store.now c.args.table.now c.requires.0 (stored (goal.at.trim-buffer-requires c).Else-b-front) c.args.table.now refl).fits,
  c.requires.1,
)

pub overflow_sub-released : goal.overflow_sub-released
overflow_sub-released c =
    let k = keeps_advanced (lent c.args.size c.args.slots) c.args.b c.acknowledged-front.result (to_ℕ c.args.end.0) c.args.store.now c.args.table.now c.requires.0 (stored (goal.at.overflow_sub-released c).Else-b-front) c.args.table.now refl in
    omega (arith, c.trim-buffer.ensures.keeps.stored_le, ap (λ (r : ReplayBuffer). r.unpersisted_bytes) c.advance-rest.ensures, k.stored_le)

pub returns : goal.returns
returns c =
    acks_trimmed _ _ _ _ _ c.requires.0 c.args.persisted.0 c.acknowledged-front.result (front (goal.at.returns c).After-acknowledged-front) c.trim-buffer.result c.trim-buffer.new.table (stored (goal.at.returns c).Else-b-front)
    (rw c.advance-rest.ensures at c.trim-buffer.ensures)
