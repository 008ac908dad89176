-- Demand 3: the invariant gives every sentence of it.
use mathlib.Core.Path.{◌≡◌, sym, ap, ◌∙◌, subst}
use mathlib.Core.Bool.{true}
use mathlib.Core.Option.{some}
use mathlib.Core.List.{List, [], ◌++◌, append_assoc, append-nil}
use Prim.Native.Nat.{ℕ, ◌-◌, ◌≤◌, ◌<◌}
use native.Mathlib.Omega.{arith}
use lib.ListN.{length, take, drop, get_elem?, length-append}
use lib.Seq.{take_at, take-append-le, drop-append-le}
use Rattle.rules.specs.Message.{Bytes}
use Rattle.rules.specs.Session.{finalizing}
use Rattle.rules.specs.Notes.{Mark}
use Rattle.rules.specs.World.{World, runs, start}
use Rattle.rules.specs.Demand3.{Persisted, Kept, Replayed, Numbered, Holds, Demand3}
use Rattle.rules.proofs.Lists.{all_get, get_front, split_left}
use Rattle.rules.proofs.Inv.{stock_of, tally_of, Completed, BufferOK, Final, Inv}
use Rattle.rules.proofs.Server.{server_below, server_within}
use Rattle.rules.proofs.Keeps.{runs_keep}
use Rattle.rules.proofs.Start.{start_inv}
use Rattle.rules.proofs.CalledStart.{numbered-runs}
use Rattle.rules.proofs.Turns.{steps_of_runs}

-- a waiter reported completed
pub completed_mark : {from : ℕ} {w : World} (i : Inv from w) (n : ℕ) (m : Mark) → n < w.notes.completed → get_elem? w.notes.marks n ≡ some m
    → Completed i.p w.server.stored.finalised m
completed_mark {w} i n m l e =
    let k : n < length i.wait.gone = subst (λ (x : ℕ). n < x) i.wait.count_is l in
    all_get (Completed i.p w.server.stored.finalised) i.wait.gone n m i.wait.gone_ok
    (sym (get_front i.wait.gone (i.wait.todo ++ i.wait.lost) n k) ∙ ap (λ (x : List Mark). get_elem? x n) (sym i.wait.marks_is) ∙ e)

object_first : {from : ℕ} {w : World} (i : Inv from w) → w.server.stored.object ++ (w.server.stored.tail ++ i.server.rest ++ w.session.writer.held) ≡ w.notes.all
object_first {w} i =
    ap (λ (r : Bytes). w.server.stored.object ++ r) (append_assoc w.server.stored.tail i.server.rest w.session.writer.held)
    ∙ sym (append_assoc w.server.stored.object w.server.stored.tail (i.server.rest ++ w.session.writer.held))
    ∙ sym (append_assoc (w.server.stored.object ++ w.server.stored.tail) i.server.rest w.session.writer.held)
    ∙ ap (λ (r : Bytes). r ++ w.session.writer.held) i.server.begins ∙ sym i.buffer.all_is

-- once finalise was sent, W is the chunked bytes
pub all_chunked : {from : ℕ} {w : World} (i : Inv from w) → w.session.worker.finalized ≡ true → w.notes.all ≡ i.K
all_chunked i e = i.buffer.all_is ∙ ap (λ (r : Bytes). i.K ++ r) (i.wait.no_held e) ∙ append-nil i.K

pub holds : {from : ℕ} (w : World) → Inv from w → Numbered w.session w.notes → Holds w
holds w i n = record {
  begins = (w.server.stored.tail ++ i.server.rest ++ w.session.writer.held, object_first i);
  counted = counted;
  numbered = n;
  waited = waited;
  kept = kept;
  replayed = replayed;
  finalised = finalised;
}
  where
    b : BufferOK i.K i.p (stock_of w.session) (tally_of w.notes)
    b = i.buffer

    counted : w.notes.completed ≤ length w.notes.marks
    counted = omega (arith, i.wait.count_is, ap length i.wait.marks_is, length-append i.wait.gone (i.wait.todo ++ i.wait.lost))

    waited : (n : ℕ) (m : Mark) → n < w.notes.completed → get_elem? w.notes.marks n ≡ some m → Persisted m w
    waited n m l e =
        let t : m.before ≤ length w.server.stored.object = omega (arith, (completed_mark i n m l e).below, server_below i.server) in
        record { there = t; same = sym (take-append-le m.before w.server.stored.object _ t) ∙ ap (take m.before) (object_first i) }

    kept : Kept w
    kept = record {
      size = i.p;
      largest = b.largest_is;
      below = server_below i.server;
      stored_held = ap (λ (r : Bytes). r ++ w.session.writer.held) b.bytes ∙ sym (drop-append-le i.p i.K w.session.writer.held b.within) ∙ ap (drop i.p) (sym b.all_is);
    }

    chunked : take (length w.notes.all - w.notes.loose) w.notes.all ≡ i.K
    chunked =
        let l : length i.K ≡ length w.notes.all - w.notes.loose
        = omega (arith, b.loose_is, ap length b.all_is, length-append i.K w.session.writer.held) in
        ap (take (length w.notes.all - w.notes.loose)) b.all_is ∙ take_at i.K w.session.writer.held _ l

    replayed : w.notes.at_done ≡ true → Replayed w
    replayed d = record { size = i.p; greeted = (i.replays.end d).0; carried = (i.replays.end d).1 ∙ ap (drop i.p) (sym chunked) }

    finalised : (n : ℕ) (m : Mark) → n < w.notes.completed → get_elem? w.notes.marks n ≡ some m → m.kind ≡ finalizing → w.server.stored.object ≡ w.notes.all
    finalised n m l e k =
        let f : (w.session.worker.finalized ≡ true) × (m.before ≡ length i.K)
        = all_get (Final w.session.worker.finalized (length i.K)) w.notes.marks n m i.wait.finals e k in
        let s : length w.server.stored.object ≡ length i.K
        = omega (arith, (completed_mark i n m l e).below, server_below i.server, f.1, server_within i.server) in
        split_left w.server.stored.object i.K (w.server.stored.tail ++ i.server.rest) []
        (sym (append_assoc w.server.stored.object w.server.stored.tail i.server.rest) ∙ i.server.begins ∙ sym (append-nil i.K)) s
        ∙ sym (all_chunked i f.0)

pub demand3 : Demand3
demand3 = steps_of_runs (λ o k w. Holds w)
    (λ o s a k v es. holds (runs es (start o s k)) (runs_keep es (start o s k) (start_inv o s a k v))
    (numbered-runs o s a k es))
