-- The next request of a replay keeps the invariant.
use mathlib.Core.Path.{◌≡◌, refl, sym, ap, ◌∙◌, subst}
use mathlib.Core.Bool.{Bool, true, false}
use mathlib.Core.Option.{Option, none, some}
use mathlib.Core.List.{List, ◌++◌, append_assoc, append-nil}
use Prim.Native.Nat.{ℕ, suc, ◌+◌, ◌-◌}
use lib.ListN.{length, take, get_elem?, length-append, take-append-drop}
use lib.Seq.{length-take-le}
use lib.IntN.{pos}
use borrow.Author.Tests.{not-false}
use Rattle.crc32c.specs.Reg.{crc_of}
use Rattle.rules.specs.Message.{Bytes, ChecksummedData, Request}
use Rattle.rules.specs.Session.{ReplayChunk, PendingRequest, Phase, live, closing, connecting, verdict, replay, ended, Sent, nothing, a_request, bare_flush, next_request, sends, done, answers, set_mark, set_worker, set_phase, is_replay, is_ended, chunks, waiters, bytes_of}
use Rattle.rules.specs.Upload.{chunk_request}
use Rattle.rules.specs.Respond.{bare_request}
use Rattle.rules.specs.Replay.{place, hands_waiter, hands_chunk, hands}
use Rattle.rules.specs.Step.{step}
use Rattle.rules.specs.Notes.{content_of}
use Rattle.rules.specs.World.{World}
use Rattle.rules.proofs.Tests.{never}
use Rattle.rules.proofs.Lists.{choose_ind, unless_ind, opt_ind, all_get, Part, parts, take_some, take_none, take-none_suc, chain-place}
use Rattle.rules.proofs.Inv.{Right, Asked, Fit, goal_at, Inv}
use Rattle.rules.proofs.Server.{right_bare, right_chunk, handed-none, handed-one, server_sends}
use Rattle.rules.proofs.Flow.{fit_bare, fit_chunk, fit_asked, dataless_adds, flow_done, flow_sends}
use Rattle.rules.proofs.Wait.{wait_phase, wait_zero}
use Rattle.rules.proofs.After.{Other, calls}

-- what the server has once it took what the replay handed out so far
abbrev sofar : Bytes → ℕ → ℕ → List ReplayChunk → Bytes
sofar K p n cs = take p K ++ bytes_of (take n cs)

goal_on : (K : Bytes) (p : ℕ) (cs : List ReplayChunk) (ph : Phase) → is_replay ph ≡ true → goal_at K p ph cs ≡ sofar K p (place ph) cs
goal_on K p cs live e = never (sym e)
goal_on K p cs closing e = never (sym e)
goal_on K p cs connecting e = never (sym e)
goal_on K p cs (verdict r) e = never (sym e)
goal_on K p cs (replay i) e = refl
goal_on K p cs (ended c) e = never (sym e)

module _ {from : ℕ} (could : Bool) (w : World) (i : Inv from w) (on : is_replay w.session.phase ≡ true) (lasts : is_ended w.session.phase ≡ false) where
  abbrev cs : List ReplayChunk
  cs = chunks w.session

  abbrev at : ℕ
  at = place w.session.phase

  -- a replay hands out a request
  handed_keeps : (r : Request) (n : Sent) (mark : Bool) → Right i.K w.session.worker.finalized r → Fit (sofar i.K i.p at cs) r
      → bytes_of (take at cs) ++ content_of r.checksummed_data ≡ bytes_of (take (suc at) cs)
      → Other from could w (answers (sends r) (set_phase (replay (suc at)) n (set_worker (set_mark mark w.session.worker) w.session)))
  handed_keeps r n mark u f more = record {
    inv = record {
      K = i.K;
      p = i.p;
      since = i.since;
      buffer = i.buffer;
      steady = refl;
      handed = handed-one r u i.handed;
      wait = wait_zero (wait_phase lasts i.wait);
      replays = record {
        mid = λ _. ((i.replays.mid on).0, ap (λ (b : Bytes). b ++ content_of r.checksummed_data) (i.replays.mid on).1 ∙ more);
        end = λ e. never (sym e);
      };
      server = server_sends could (some r) u i.server;
      flow = flow_sends could r (sofar i.K i.p at cs) lasts (goal_on i.K i.p cs w.session.phase on) f
          (append_assoc (take i.p i.K) (bytes_of (take at cs)) (content_of r.checksummed_data) ∙ ap (λ (b : Bytes). take i.p i.K ++ b) more) i.flow;
    };
  }

  -- a stored chunk
  chunk_keeps : (c : ReplayChunk) → get_elem? cs at ≡ some c
      → Other from could w (answers (sends (chunk_request c false)) (set_phase (replay (suc at)) a_request w.session))
  chunk_keeps c e = handed_keeps (chunk_request c false) a_request w.session.worker.self_flush_outstanding (right_chunk c false part)
      (fit_chunk c false (stands.0 ∙ ap pos (sym len)) stands.1) (take_some cs at c e)
    where
      part : Part i.K c
      part = all_get (Part i.K) cs at c (parts cs i.p i.K i.buffer.within i.buffer.chain i.buffer.bytes) e

      stands : (c.write_offset ≡ pos (i.p + length (bytes_of (take at cs)))) × (c.crc32c ≡ crc_of c.bytes)
      stands = chain-place cs i.p (length i.K) at c i.buffer.chain e

      len : length (sofar i.K i.p at cs) ≡ i.p + length (bytes_of (take at cs))
      len = length-append (take i.p i.K) (bytes_of (take at cs)) ∙ ap (λ (n : ℕ). n + length (bytes_of (take at cs))) (length-take-le i.p i.K i.buffer.within)

  -- behind the last chunk the server has the chunked bytes, and nothing more is added
  behind : get_elem? cs at ≡ none → sofar i.K i.p at cs ≡ i.K
  behind e = ap (λ (l : List ReplayChunk). take i.p i.K ++ bytes_of l) (take_none cs at e) ∙ ap (λ (b : Bytes). take i.p i.K ++ b) i.buffer.bytes ∙ take-append-drop i.p i.K

  no_more : get_elem? cs at ≡ none → (o : Option ChecksummedData) → o ≡ none → bytes_of (take at cs) ++ content_of o ≡ bytes_of (take (suc at) cs)
  no_more e o f = dataless_adds (bytes_of (take at cs)) o f ∙ ap bytes_of (take_none cs at e ∙ sym (take-none_suc cs at e))

  waiter_keeps : get_elem? cs at ≡ none → (n : ℕ) (q : PendingRequest) → get_elem? (waiters w.session) n ≡ some q
      → Other from could w (answers (sends q.request) (set_phase (replay (suc at)) a_request w.session))
  waiter_keeps e n q f =
      let a : Asked i.K w.session.worker.finalized q = all_get (Asked i.K w.session.worker.finalized) (waiters w.session) n q i.wait.asked f in
      handed_keeps q.request a_request w.session.worker.self_flush_outstanding a.right (subst (λ (b : Bytes). Fit b q.request) (sym (behind e)) (fit_asked q a))
      (no_more e q.request.checksummed_data a.dataless)

  bare_keeps : get_elem? cs at ≡ none
      → Other from could w (answers (sends (bare_request w.session)) (set_phase (replay (suc at)) bare_flush (set_worker (set_mark true w.session.worker) w.session)))
  bare_keeps e = handed_keeps (bare_request w.session) bare_flush true (right_bare (bare_request w.session) refl refl) (fit_bare (bare_request w.session) refl refl) (no_more e none refl)

  done_keeps : get_elem? cs at ≡ none → Other from could w (answers done (set_phase live nothing w.session))
  done_keeps e = record {
    inv = record {
      K = i.K;
      p = i.p;
      since = i.since;
      buffer = i.buffer;
      server = i.server;
      steady = refl;
      wait = wait_zero (wait_phase lasts i.wait);
      handed = handed-none i.handed;
      flow = flow_done lasts (goal_on i.K i.p cs w.session.phase on ∙ behind e) i.flow;
      replays = record {
        mid = λ f. never (sym f);
        end = λ _. ((i.replays.mid on).0, append-nil w.notes.carried ∙ (i.replays.mid on).1 ∙ ap bytes_of (take_none cs at e) ∙ i.buffer.bytes);
      };
    };
  }

  hands_keeps : Other from could w (hands_chunk (get_elem? cs at) at w.session)
  unfolding hands_chunk hands_waiter
  hands_keeps =
      opt_ind (λ (o : Option ReplayChunk). Other from could w (hands_chunk o at w.session)) (get_elem? cs at)
      (λ e. opt_ind (λ (o : Option PendingRequest). Other from could w (hands_waiter o at w.session)) (get_elem? (waiters w.session) (at - length cs))
      (λ f. choose_ind (Other from could w) _ _ _ (λ g. bare_keeps e) (λ g. done_keeps e))
      (λ q f. waiter_keeps e (at - length cs) q f))
      (λ c e. chunk_keeps c e)

pub next_keeps : {from : ℕ} (out : ℕ) (could : Bool) (w : World) → Inv from w → Inv from (calls (next_request out) could w)
unfolding step hands
next_keeps {from} out could w i =
    let k : Other from could w (hands out w.session) = unless_ind (Other from could w) w.session _ _ (λ n. record { inv = i })
    (λ h. hands_keeps could w i (not-false (is_replay w.session.phase) h.1.0) h.0) in
    k.inv
