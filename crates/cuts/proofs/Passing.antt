-- What passed tests say of append, flush and finalise, and where a chunk may end.
-- Assumes nothing.
use mathlib.Core.Path.{◌≡◌, sym, ap, ◌∙◌}
use mathlib.Core.Bool.{Bool, true, false, not, ◌&&◌}
use mathlib.Core.List.{List}
use Prim.Native.Nat.{ℕ, ◌+◌, ◌-◌, ◌≤◌, ◌^◌}
use native.Mathlib.Omega.{arith}
use borrow.Author.Tests.{ltb-false, leb-false, not-false}
use lib.Dec.{ltb, leb, eqb}
use lib.IntN.{ℤ, pos, ◌+ℤ◌, pos-+ℤ-pos}
use lib.ListN.{length}
use lib.Signed.{lt_z}
use Rattle.rules.specs.Message.{Bytes}
use Rattle.rules.specs.Session as R
use Rattle.transport.specs.View.{phase_of, end_of, view}
use Rattle.transport.specs.Valid.{Valid}
use Rattle.admission.specs.Rows.{upload_check, upload_tests}
use Rattle.cuts.specs.Cut.{Cuttable}
use Rattle.transport.specs.declared.Session.{Session}
use Rattle.std.specs.Prelude.{Ok}
use Rattle.bidi_write.proofs.Rows.{first_false, later}
use Rattle.transport.proofs.Numbers.{offset_is}

-- ---- passed tests

pub record Passes (phase : ℕ) (sends cuts short full room past : Bool) : Type 0 where
  pub live : (sends && not (eqb phase 1)) ≡ false
  pub out_in : (cuts && short) ≡ false
  pub below : (sends && full) ≡ false
  pub roomy : room ≡ false
  pub near : (cuts && past) ≡ false

pub passes : (phase : ℕ) (finalized sends cuts short full room past : Bool) → upload_check phase finalized sends cuts short full room past ≡ Ok tt
    → Passes phase sends cuts short full room past
passes phase finalized sends cuts short full room past e =
    let live = later _ _ _ (later _ _ _ e) in
    let out = later _ _ _ live in
    let below = later _ _ _ out in
    let roomy = later _ _ _ below in
    record {
      live = first_false _ _ _ live;
      out_in = first_false _ _ _ out;
      below = first_false _ _ _ below;
      roomy = first_false _ _ _ roomy;
      near = first_false _ _ _ (later _ _ _ roomy);
    }

-- a call that cuts has passed them
pub cuttable : (s : Session) (n out : ℕ)
    → upload_tests (R.phase_number (phase_of s.phase)) s.worker.finalized s.limit s.worker.replay_buffer.capacity
    s.worker.replay_buffer.unpersisted_bytes s.write_offset.0 true true n out
    (leb s.slots s.worker.replay_buffer.chunks) ≡ Ok tt
    → n ≤ s.limit → Cuttable s n out
cuttable s n out e h =
    let p = passes (R.phase_number (phase_of s.phase)) s.worker.finalized true true (ltb out s.limit)
    (leb s.worker.replay_buffer.capacity s.worker.replay_buffer.unpersisted_bytes) (leb s.slots s.worker.replay_buffer.chunks)
    (ltb (2 ^ 63 - 1) (end_of s + n)) e in
    record {
      live = not-false _ p.live;
      small = h;
      out_in = ltb-false _ _ p.out_in;
      below = leb-false _ _ p.below;
      free = leb-false _ _ p.roomy;
      end_in = omega (arith, ltb-false (2 ^ 63 - 1) (end_of s + n) p.near);
    }

-- ---- "a chunk would end past 2^63 − 1"

pub past_is : (s : Session) (store : Bytes) (table : List ℕ) → Valid s store table → (b : Bytes)
    → ltb (2 ^ 63 - 1) (end_of s + length b) ≡ R.past_end b (view s store table)
unfolding R.past_end view
past_is s store table v b =
    sym (ap (lt_z (pos (2 ^ 63 - 1))) (ap (λ (z : ℤ). z +ℤ pos (length b)) (offset_is s store table v) ∙ pos-+ℤ-pos (end_of s) (length b)))
