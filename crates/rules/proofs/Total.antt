-- The byte total for any input; the same under the server rules, and what of its bytes a host need not keep there.
use mathlib.Core.Path.{◌≡◌, sym, ap, ◌∙◌, subst}
use mathlib.Core.List.{[]}
use Prim.Native.Nat.{ℕ, ◌+◌, ◌-◌, ◌≤◌, min, max}
use native.Mathlib.Omega.{arith}
use lib.ListN.{length, take, drop, length-append, length-drop}
use lib.Seq.{take-append-le}
use lib.IntN.{nat_abs}
use Rattle.rules.specs.Basics.{to_ℕ}
use Rattle.rules.specs.Session.{Session, chunks, stored}
use Rattle.rules.specs.Opening.{Opening, opened, opens, open_size, payload_length, open_session}
use Rattle.rules.specs.World.{World, runs, base_of, start}
use Rattle.rules.specs.Calls.{Run, called_all, begin}
use Rattle.rules.specs.Demand3.{Numbered, Holds}
use Rattle.rules.specs.Total.{below_p, Total, ByteTotal, first_taken, ServedTotal, ByteTotalServed}
use Rattle.rules.specs.Released.{MayDrop, CopiesNeeded}
use Rattle.rules.proofs.Inv.{Inv}
use Rattle.rules.proofs.Server.{server_below}
use Rattle.rules.proofs.Keeps.{runs_keep}
use Rattle.rules.proofs.Start.{start_inv}
use Rattle.rules.proofs.Runs.{run_of}
use Rattle.rules.proofs.Accepted.{accepted}
use Rattle.rules.proofs.CalledInv.{chain_length}
use Rattle.rules.proofs.Called.{CalledAt}
use Rattle.rules.proofs.CalledStart.{larger_is, always_called, numbered-runs}
use Rattle.rules.proofs.Turns.{steps_of_runs}
use Rattle.rules.proofs.Demand3.{completed_mark, holds}
use Rattle.rules.proofs.Released.{Balanced, first_at, base_payload, always_balanced, runs_balanced}

-- ---- for any input

-- released is what lies below p of n bytes from 0 on and of the others from `first` on; n: the payload's length, low: P at the opening
below_is : (low n first p at stored held all released : ℕ) → first ≡ max low n → low ≤ p → p + stored ≡ at → at + held + n ≡ first + all
    → all ≡ 0 + released + stored + held → released ≡ min n (p - 0) + min (all - n) (p - first)
below_is low n first p at stored held all released f l c g a = omega arith

totals : (o : Opening) (s : Session) (r : Run) → opens o ≡ opened s → {limit capacity : ℕ} → CalledAt (to_ℕ (open_size o)) limit capacity r
    → Balanced 0 (length (base_of o.payload [])) (first_at o) r → Total (begin o s) r
unfolding begin stored open_session
totals o s r a i b =
    let n : length (base_of o.payload []) ≡ payload_length o.payload = base_payload o.payload in
    let f : to_ℕ s.writer.write_offset ≡ first_at o
    = subst (λ (t : Session). to_ℕ t.writer.write_offset ≡ first_at o) (accepted o s a).is (ap to_ℕ (larger_is (open_size o) (payload_length o.payload))) in
    let at_is : i.inv.bytes.at ≡ b.balance.at = ap nat_abs (sym i.inv.bytes.offset_is ∙ b.balance.offset_is) in
    let q : r.notes.released ≡ below_p (begin o s) r
    = below_is (to_ℕ (open_size o)) (length (base_of o.payload [])) (to_ℕ s.writer.write_offset) (to_ℕ r.session.worker.persisted_size) b.balance.at (stored r.session)
    (length r.session.writer.held) (length r.notes.all) r.notes.released (omega arith) i.inv.bytes.low_is
    (chain_length (chunks r.session) _ _ i.inv.bytes.chain ∙ at_is) (omega (arith, b.balance.pushed)) b.balance.all_is in
    record { total = omega (arith, b.balance.all_is); released = q }

pub byte_total : ByteTotal
byte_total o s a cs = totals o s (called_all cs (begin o s)) a (always_called o s a cs) (always_balanced o s a cs)

-- ---- under the server rules

-- the bytes released by reports are those below P
released_is : {from base first : ℕ} (w : World) (i : Inv from w) → Balanced from base first (run_of w) → from + w.notes.released ≡ i.p
unfolding stored
released_is w i b =
    omega (
      arith,
      b.balance.all_is,
      i.since,
      i.buffer.within,
      ap length i.buffer.all_is,
      length-append i.K w.session.writer.held,
      ap length i.buffer.bytes,
      length-drop i.p i.K,
    )

served : {from base first : ℕ} (w : World) → Inv from w → Balanced from base first (run_of w) → ServedTotal from w
unfolding stored
served {from} w i b = record {
  size = i.p;
  persisted = i.buffer.p_is;
  total = omega (arith, i.since, i.buffer.within, ap length i.buffer.all_is, length-append i.K w.session.writer.held, ap length i.buffer.bytes, length-drop i.p i.K);
  released = omega (arith, released_is w i b, i.since, i.buffer.within, ap length i.buffer.all_is, length-append i.K w.session.writer.held);
}

pub byte_total_served : ByteTotalServed
byte_total_served = steps_of_runs (λ o k w. ServedTotal (first_taken o.payload k.object) w)
    (λ o s a k v es. served (runs es (start o s k)) (runs_keep es (start o s k) (start_inv o s a k v)) (runs_balanced o s a k es))

may_drop : {from base first : ℕ} (w : World) → Inv from w → Balanced from base first (run_of w) → Numbered w.session w.notes → MayDrop from w
may_drop {from} w i b n =
    let h : Holds w = holds w i n in
    let e : from + w.notes.released ≡ i.p = released_is w i b in
    let size : h.kept.size ≡ i.p = ap nat_abs (sym h.kept.largest ∙ i.buffer.largest_is) in
    let t : from + w.notes.released ≤ length w.server.stored.object = omega (arith, server_below i.server) in
    record {
      there = t;
      same = sym (take-append-le _ w.server.stored.object _ t) ∙ ap (take (from + w.notes.released)) h.begins.1;
      rest = h.kept.stored_held ∙ ap (λ (m : ℕ). drop m w.notes.all) (size ∙ sym e);
      waited = λ n m l f. omega (arith, (completed_mark i n m l f).below);
    }

pub copies_needed : CopiesNeeded
copies_needed = steps_of_runs (λ o k w. MayDrop (first_taken o.payload k.object) w)
    (λ o s a k v es. may_drop (runs es (start o s k)) (runs_keep es (start o s k) (start_inv o s a k v)) (runs_balanced o s a k es) (numbered-runs o s a k es))
