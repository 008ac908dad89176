-- The session of a refused opening: it ended, is valid with the least memory, and is refused by every later call.
-- Assumes nothing.
use mathlib.Core.Path.{◌≡◌, refl, sym, ap, ◌∙◌}
use mathlib.Core.Bool.{true, false}
use mathlib.Core.List.{List}
use Prim.Native.Nat.{ℕ, ◌≤◌}
use native.Mathlib.Omega.{arith}
use lib.ListN.{length}
use Rattle.rules.specs.Message.{Bytes}
use Rattle.rules.specs.Session as R
use Rattle.replay_buffer.proofs.Laws.{empty_sound}
use Rattle.worker.proofs.Waiters.{none_waits, none-counted}
use Rattle.transport.specs.View.{Left, phase_of, lent_of, answer_of}
use Rattle.transport.specs.Valid.{Valid}
use Rattle.transport.specs.Promise.{asked_by, Promise}
use Rattle.openings.specs.Opening.{empty_of, no_spec, unopened}
use Rattle.transport.specs.declared.Answer.{Answer}
use Rattle.bidi_write.specs.declared.Refusal.{Refusal}
use Rattle.std.specs.declared.result.Result.{Result}
use Rattle.rules.proofs.Tests.{clash}

pub unopened-ended : R.is_ended (phase_of unopened.phase) ≡ true
unfolding unopened
unopened-ended = refl

pub unopened_valid : (store : Bytes) (table : List ℕ) → 3 ≤ length store → 1 ≤ length table → Valid unopened store table
unfolding unopened no_spec
unopened_valid store table hs ht = record {
  guarded = record {
    limit_some = omega arith;
    limit_top = omega arith;
    capacity_low = omega arith;
    capacity_top = omega arith;
    store_lent = hs;
    table_lent = ht;
    head_in = omega arith;
    stored_in = omega arith;
    held_in = omega arith;
    first_in = omega arith;
    chunks_in = omega arith;
    waiting_in = omega (arith, none-counted);
    offset_in = refl;
    offset_top = omega arith;
    started = omega arith;
  };
  slots_in = omega arith;
  sound = empty_sound (lent_of unopened) (empty_of 3) table refl refl 1;
  waiting_is = ap length none_waits ∙ sym none-counted;
  spec_fits = record { bucket = omega arith; object = omega arith; handle = omega arith; token = omega arith };
  followed = λ f. clash refl f;
  cursor = tt;
}

-- a later call, unless it is an append of nothing, is refused with 7, whatever is lent
pub later-refused : (c : R.Call) (store : Bytes) (table : List ℕ) (out : Bytes) (r : Left) (store' : Bytes) (table' : List ℕ) (out' : Bytes)
    → (asked_by c).empty ≡ false → Promise c unopened store table out r store' table' out' → answer_of r.answer out' ≡ R.refused 7
later-refused c store table out r store' table' out' h p = ap (λ (a : Result Answer Refusal). answer_of a out') (p.first.over h unopened-ended)
