-- The session of an accepted opening is the rules' one, and valid.
-- Assumes nothing.
use mathlib.Core.Path.{◌≡◌, refl, sym, ap, ◌∙◌}
use mathlib.Core.Bool.{Bool, true, false}
use mathlib.Core.Option.{Option, get_or}
use mathlib.Core.List.{List}
use Prim.Native.Nat.{ℕ, ◌+◌, ◌*◌, ◌<◌, ◌≤◌, ◌^◌, max}
use native.Mathlib.Omega.{arith}
use borrow.Author.Tests.{le-ltb}
use lib.IntN.{ℤ, pos}
use lib.Signed.{lt_z}
use lib.ListN.{length}
use Rattle.rules.specs.Limits.{default_capacity}
use Rattle.rules.specs.Message as M
use Rattle.rules.specs.Message.{Bytes}
use Rattle.rules.specs.Spec as S
use Rattle.rules.specs.Session as R
use Rattle.rules.specs.Opening as O
use Rattle.ring.specs.Ring.{part}
use Rattle.bidi_write.specs.Numbers.{to_ℕ}
use Rattle.bidi_write.specs.View.{checksum_of, given, status_of, response_of}
use Rattle.std.specs.Option.{is_some}
use Rattle.std.specs.declared.option.Option as opt
use Rattle.bidi_write.specs.declared.Offset.{Offset}
use Rattle.connector.specs.View.{connector_of}
use Rattle.connector.specs.declared.Connector.{Connector}
use Rattle.replay_buffer.specs.View.{queue_of}
use Rattle.replay_buffer.specs.declared.Acked.{Acked}
use Rattle.worker.specs.View.{worker_of}
use Rattle.worker.proofs.Waiters.{none_waits, none-counted}
use Rattle.transport.specs.View.{lent_of, view}
use Rattle.transport.specs.Valid.{Valid}
use Rattle.openings.specs.Opening.{Beside, asked_of, dialled, opening_of, Admitted, Connects, Stores, payload_sum, fresh_session, Starts}
use Rattle.transport.specs.declared.Phase.TheVariants as phase
use Rattle.transport.specs.declared.Session.{Session}
use Rattle.openings.specs.declared.Opening.{Opening}
use Rattle.openings.proofs.Admission.{not-over}
use Rattle.rules.proofs.CalledStart.{larger_is}
use Rattle.openings.proofs.Payload.{queue_at}

abbrev payload_of : Opening → Beside → Option Bytes
payload_of o b = given o.has_payload b.payload

-- it is there where its sum is
summed : (present : Bool) (b : Bytes) → given (is_some (payload_sum (given present b))) b ≡ given present b
summed true b = refl
summed false b = refl

abbrev size_of : Opening → ℤ
size_of o = get_or (M.size_of (status_of o.response.write_status)) (pos 0)

module _ {o : Opening} {b : Beside} {store : Bytes} {table : List ℕ} {c : Connector} {acked : Acked} {store' : Bytes} {table' : List ℕ} (p at : Offset) (run : opt.Option ℕ)
    (admitted : Admitted o b (length store) (length table)) (slots-top : length table < 2 ^ 63)
    (capacity_is : acked.buffer.capacity ≡ max (get_or (asked_of o.capacity) default_capacity) (2 * o.limit + 1))
    (size_is : p.0 ≡ size_of o)
    (connects : Connects o b.bucket b.object b.write_handle b.routing_token b.response_handle c)
    (stores : Stores o.limit acked.buffer.capacity (payload_of o b) p.0 store table acked store' table')
    (at_is : at.0 ≡ O.larger p.0 (pos (O.payload_length (payload_of o b)))) (at_top : to_ℕ at.0 < 2 ^ 63)
    (run_is : checksum_of run ≡ O.open_sum (payload_of o b) p.0 (checksum_of o.checksum)) where
  abbrev left : Session
  left = fresh_session o.limit (length table) phase.Live at run c acked.buffer p

  offset : at.0 ≡ pos (max (to_ℕ p.0) (O.payload_length (payload_of o b)))
  offset = at_is ∙ larger_is p.0 (O.payload_length (payload_of o b))

  offset_nat : to_ℕ at.0 ≡ max (to_ℕ p.0) (O.payload_length (payload_of o b))
  offset_nat = ap to_ℕ offset

  left_valid : Valid left store' table'
  left_valid =
      let n : O.payload_length (payload_of o b) ≤ o.limit = not-over o.limit o.has_payload b.payload admitted.payload_in in
      let e : to_ℕ at.0 ≡ max (to_ℕ p.0) (O.payload_length (payload_of o b)) = offset_nat in
      record {
        guarded = record {
          limit_some = admitted.limit_some;
          limit_top = admitted.limit_top;
          capacity_low = omega arith;
          capacity_top = omega (arith, admitted.asked_top, admitted.limit_top);
          store_lent = stores.fits.store_lent;
          table_lent = stores.fits.table_lent;
          head_in = stores.fits.head_in;
          stored_in = omega (arith, stores.fits.started, capacity_is);
          held_in = admitted.limit_some;
          first_in = stores.fits.first_in;
          chunks_in = stores.fits.chunks_in;
          waiting_in = omega (arith, none-counted);
          offset_in = ap (λ (z : ℤ). lt_z z (pos 0)) offset ∙ le-ltb (max (to_ℕ p.0) (O.payload_length (payload_of o b))) 0 (omega arith);
          offset_top = at_top;
          started = omega (arith, stores.fits.started, e);
        };
        slots_in = slots-top;
        sound = stores.sound;
        waiting_is = ap length none_waits ∙ sym none-counted;
        spec_fits = connects.fits;
        followed = λ f. omega (arith, connects.redirects_is);
        cursor = tt;
      }

  queue_is : queue_of (lent_of left) acked.buffer (to_ℕ at.0) store' table' ≡ O.open_chunks (payload_of o b) p.0
  queue_is =
      ap (λ (n : ℕ). queue_of (lent_of left) acked.buffer n store' table') offset_nat
      ∙ queue_at o.limit (lent_of left) acked.buffer (payload_of o b) p.0 store' table' stores.fits stores.sound stores.queue_is

  connector_is : connector_of c ≡ record {
    spec = S.handle_response (response_of o.response b.response_handle) (dialled o b);
    counters = record { attempt_count = 0; redirects_followed = 0; last_persisted_size = o.last_persisted_size.0 };
  }
  unfolding connector_of
  connector_is = rw (connects.spec_is b.payload, connects.attempts_is, connects.redirects_is, connects.size_is)

  left-view : view left store' table' ≡ O.open_session (opening_of o b (length store) (length table))
  unfolding view worker_of part opening_of O.open_session
  left-view = rw (queue_is, connector_is, at_is, run_is, capacity_is, none_waits, size_is)

  left-released : acked.released ≡ O.open_released (opening_of o b (length store) (length table))
  unfolding R.stored opening_of O.open_session
  left-released = rw size_is at stores.released_is

  left_starts : Starts o b store table (record { session = left; released = acked.released }) store' table'
  left_starts = record { view_is = left-view; released_is = left-released; valid = left_valid; store_beyond = stores.store_beyond; table_beyond = stores.table_beyond }

pub starts : {o : Opening} {b : Beside} {store : Bytes} {table : List ℕ} {asked capacity n : ℕ} {sum : opt.Option ℕ} {p at : Offset} {run : opt.Option ℕ} {c : Connector} {acked : Acked} {s : Session}
    {store' : Bytes} {table' : List ℕ}
    → Admitted o b (length store) (length table) → length table < 2 ^ 63
    → asked ≡ get_or (asked_of o.capacity) default_capacity → capacity ≡ max asked (2 * o.limit + 1)
    → p.0 ≡ size_of o
    → Connects o b.bucket b.object b.write_handle b.routing_token b.response_handle c
    → sum ≡ payload_sum (payload_of o b)
    → Stores o.limit capacity (given (is_some sum) b.payload) p.0 store table acked store' table'
    → n ≡ O.payload_length (payload_of o b) → (at.0 ≡ O.larger p.0 (pos n)) × (to_ℕ at.0 < 2 ^ 63)
    → checksum_of run ≡ O.open_sum (payload_of o b) p.0 (checksum_of o.checksum)
    → s ≡ fresh_session o.limit (length table) phase.Live at run c acked.buffer p
    → Starts o b store table (record { session = s; released = acked.released }) store' table'
starts {o} {b} {p} {at} {run} {s} admitted slots-top ea ec ep connects es stores-given en ew er fresh =
    let stores = rw (es, summed o.has_payload b.payload) at stores-given in
    rw fresh
    (left_starts p at run admitted slots-top (stores.capacity_is ∙ rw ea at ec) ep connects (rw (← stores.capacity_is) at stores)
    (rw en at ew.0) ew.1 er)
