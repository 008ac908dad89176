-- More than demand 3: requests are right, completed finalises are final, nothing is cut for a request, no session ends by a size.
use mathlib.Core.Path.{◌≡◌, refl, sym, ap, ◌∙◌, subst}
use mathlib.Core.List.{◌++◌, append_assoc}
use Prim.Native.Nat.{ℕ}
use lib.ListN.{length, take, drop}
use lib.Seq.{take_at, drop_at}
use Rattle.rules.specs.Message.{Bytes, ChecksummedData, Request}
use Rattle.rules.specs.World.{World, runs, start}
use Rattle.rules.specs.More.{RightChunk, RightFinish, RightRequest, HoldsMore, MoreThanDemand3}
use Rattle.rules.proofs.Tests.{clash}
use Rattle.rules.proofs.Lists.{all_map, Slice, slice_grow}
use Rattle.rules.proofs.Inv.{Right, ended_by_size, Inv}
use Rattle.rules.proofs.Keeps.{runs_keep}
use Rattle.rules.proofs.Start.{start_inv}
use Rattle.rules.proofs.Turns.{steps_of_runs}
use Rattle.rules.proofs.Demand3.{completed_mark, all_chunked}

chunk_in_all : (W : Bytes) (r : Request) (d : ChecksummedData) → Slice W r.write_offset d.content d.crc32c → RightChunk W r d
chunk_in_all W r d s =
    let e : drop (length s.before) W ≡ d.content ++ s.behind
    = ap (drop (length s.before)) (s.whole ∙ append_assoc s.before d.content s.behind) ∙ drop_at s.before (d.content ++ s.behind) _ refl in
    record {
      offset = length s.before;
      stands = s.at_is;
      sum = s.sum_is;
      content = sym (take_at d.content s.behind (length d.content) refl) ∙ ap (take (length d.content)) (sym e);
    }

right_request : {from : ℕ} {w : World} (i : Inv from w) (r : Request) → Right i.K w.session.worker.finalized r → RightRequest w.notes.all r
right_request {w} i r h = record {
  chunk = λ d e. chunk_in_all w.notes.all r d
      (subst (λ (x : Bytes). Slice x r.write_offset d.content d.crc32c) (sym i.buffer.all_is) (slice_grow w.session.writer.held (h.chunk d e)));
  finish = λ e. subst (λ (x : Bytes). RightFinish x r) (sym (all_chunked i (h.finish e).0)) (h.finish e).1;
}

pub holds_more : {from : ℕ} (w : World) → Inv from w → HoldsMore w
holds_more w i = record {
  requests = all_map (Right i.K w.session.worker.finalized) (RightRequest w.notes.all) (right_request i) w.notes.handed i.handed.right;
  finalised = λ n m l e. (completed_mark i n m l e).finalised;
  uncut = λ e. (i.flow.flows e).alive;
  steady = λ e. clash (ap ended_by_size e) i.steady;
  not_beyond = λ e. clash (ap ended_by_size e) i.steady;
}

pub more_than_demand3 : MoreThanDemand3
more_than_demand3 = steps_of_runs (λ o k w. HoldsMore w)
    (λ o s a k v es. holds_more (runs es (start o s k)) (runs_keep es (start o s k) (start_inv o s a k v)))
