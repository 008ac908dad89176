-- Append, flush and finalise keep the invariant.
use mathlib.Core.Path.{◌≡◌, refl, sym, ap, ◌∙◌}
use mathlib.Core.Bool.{Bool, true, false, cond, ◌||◌}
use mathlib.Core.Option.{none, some}
use mathlib.Core.List.{[], ◌∷◌, ◌++◌, append_assoc, append-nil}
use Prim.Native.Nat.{ℕ, ◌+◌, ◌-◌, min}
use native.Mathlib.Nat.{add-zero}
use lib.ListN.{length, take, length-append}
use lib.Seq.{take-nil}
use lib.IntN.{pos}
use lib.Dec.{leb}
use borrow.Author.Tests.{leb-false, lt-leb}
use Rattle.rules.specs.Message.{Bytes, Request}
use Rattle.rules.specs.Session.{PendingKind, flushing, finalizing, Session, append, flush, finalise, took, waits, answers, is_replay, is_ended, chunks}
use Rattle.rules.specs.Upload.{chunk_of, cut_request, cuts, room, holding, holds, appends, request_for, is_finalizing, waiter_of, awaits, asks}
use Rattle.rules.specs.Step.{step}
use Rattle.rules.specs.Server.{on_link}
use Rattle.rules.specs.Notes.{Mark, Notes, content_of, taken}
use Rattle.rules.specs.World.{World, sending}
use Rattle.rules.proofs.Tests.{and_no, or_left}
use Rattle.rules.proofs.Lists.{choose_ind, unless_ind, nil_of, Part}
use Rattle.rules.proofs.Inv.{Right, Asked, BufferOK, stock_of, tally_of, Inv}
use Rattle.rules.proofs.Server.{right_chunk, handed-none, handed-one, handed_grow, handed_sent, server_grow, server_sent, server_sends}
use Rattle.rules.proofs.Flow.{fit_chunk, fit_asked, dataless_adds, goal_off, flow_sends}
use Rattle.rules.proofs.Wait.{wait_holds, wait_cuts, wait_new, wait_zero, asked_new, request-at}
use Rattle.rules.proofs.Buffer.{buffer_cuts, buffer_holds, replay_off, replay_on}
use Rattle.rules.proofs.After.{Appended, AskedFor, not_at, not_sent, calls}

-- ---- a chunk is cut

abbrev cut_notes : Bytes → ℕ → Request → Notes → Notes
cut_notes all loose r g = record {
  limit = g.limit;
  all = all;
  loose = loose;
  largest = g.largest;
  marks = g.marks;
  completed = g.completed + 0;
  released = g.released + 0;
  handed = g.handed ++ (r ∷ []);
  greeted = g.greeted;
  carried = g.carried ++ content_of r.checksummed_data;
  at_done = false;
}

cut_keeps : {from : ℕ} (could : Bool) (w : World) (i : Inv from w) (x all : Bytes) (loose : ℕ)
    → w.session.worker.finalized ≡ false → is_ended w.session.phase ≡ false → is_replay w.session.phase ≡ false
    → all ≡ i.K ++ x → loose ≡ 0
    → Inv from (record {
      session = cuts x w.session;
      server = on_link (sending could (some (cut_request x w.session))) w.server;
      notes = cut_notes all loose (cut_request x w.session) w.notes;
    })
cut_keeps {from} could w i x all loose f e o a l = record {
  K = K ++ x;
  p = i.p;
  since = i.since;
  steady = i.steady;
  buffer = buffer_cuts x all loose a l i.buffer;
  wait = wait_zero (wait_cuts x f i.wait);
  replays = replay_off o;
  server = server_sends could (some r) right (server_grow x f i.server);
  flow = flow_sends could r K e (goal_off i.p (chunks s) s.phase o) (fit_chunk (chunk_of x s) _ i.buffer.offset_is refl)
      (sym (goal_off i.p (chunks (cuts x s)) s.phase o)) i.flow;
  handed = handed-one r right (handed_grow x f i.handed);
}
  where
    s : Session
    s = w.session

    K : Bytes
    K = i.K

    r : Request
    r = cut_request x s

    part : Part (K ++ x) (chunk_of x s)
    part = record { before = K; behind = []; whole = sym (append-nil (K ++ x)); at_is = i.buffer.offset_is; sum_is = refl }

    right : Right (K ++ x) s.worker.finalized r
    right = right_chunk (chunk_of x s) _ part

-- ---- flush, finalise

asks_keeps : {from : ℕ} (k : PendingKind) (out : ℕ) (could : Bool) (w : World) → Inv from w → AskedFor from k could w (asks k out w.session)
unfolding asks
asks_keeps {from} k out could w i =
    unless_ind (AskedFor from k could w) w.session _ _ (λ n. record { inv = i })
    (λ h. choose_ind (AskedFor from k could w) _ _ _
    (λ e. record {
      inv = cut_keeps could w i w.session.writer.held w.notes.all 0 (not_sent w.session h.1.0) h.0 (not_at 1 4 w.session.phase refl h.1.1.0)
          i.buffer.all_is refl;
    })
    (λ e. waited _ h.0 (not_at 1 4 w.session.phase refl h.1.1.0) (nil_of w.session.writer.held e)))
  where
    s : Session
    s = w.session

    m : ℕ → Mark
    m x = record { kind = k; before = length w.notes.all; number = x }

    a : Asked i.K (s.worker.finalized || is_finalizing k) (waiter_of k s)
    a = asked_new k s.worker.finalized s i.K i.buffer.offset_is i.buffer.sum

    sent : s.worker.finalized ≡ true → (s.worker.finalized || is_finalizing k) ≡ true
    sent = or_left s.worker.finalized (is_finalizing k)

    -- whatever number it is told
    waited : (x : ℕ) → is_ended s.phase ≡ false → is_replay s.phase ≡ false → s.writer.held ≡ [] → AskedFor from k could w (answers (waits (request_for k s) x) (awaits k s))
    waited x e o n =
        let l : length w.notes.all ≡ length i.K = ap length (i.buffer.all_is ∙ ap (λ (y : Bytes). i.K ++ y) n ∙ append-nil i.K) in
        record {
          inv = record {
            K = i.K;
            p = i.p;
            since = i.since;
            steady = i.steady;
            buffer = buffer_holds s.writer.held w.notes.all 0 i.buffer.all_is (sym (ap length n)) i.buffer.small i.buffer;
            wait = wait_new (waiter_of k s) (m x) e n (request-at k s ∙ i.buffer.offset_is ∙ ap pos (sym l)) refl l a (wait_zero i.wait);
            replays = replay_off o;
            server = server_sends could (some (request_for k s)) a.right (server_sent sent i.server);
            flow = flow_sends could (request_for k s) i.K e (goal_off i.p (chunks s) s.phase o) (fit_asked (waiter_of k s) a)
                (dataless_adds i.K (request_for k s).checksummed_data a.dataless ∙ sym (goal_off i.p (chunks s) s.phase o)) i.flow;
            handed = handed-one (request_for k s) a.right (handed_sent sent i.handed);
          };
        }

pub flush_keeps : {from : ℕ} (out : ℕ) (could : Bool) (w : World) → Inv from w → Inv from (calls (flush out) could w)
unfolding step
flush_keeps out could w i = (asks_keeps flushing out could w i).inv

pub finalise_keeps : {from : ℕ} (out : ℕ) (could : Bool) (w : World) → Inv from w → Inv from (calls (finalise out) could w)
unfolding step
finalise_keeps out could w i = (asks_keeps finalizing out could w i).inv

-- ---- append

-- the loose bytes after an append that comes to b of them
abbrev loose_after : ℕ → ℕ → ℕ
loose_after limit h = cond (leb limit h) 0 h

pub after-full : (limit limit' a b : ℕ) → limit ≡ limit' → a ≡ b → leb limit' b ≡ true → loose_after limit a ≡ 0
after-full limit limit' a b d e f = ap (λ (x : ℕ). loose_after x a) d ∙ ap (loose_after limit') e ∙ ap (λ (t : Bool). cond t 0 b) f

pub after-part : (limit limit' a b : ℕ) → limit ≡ limit' → a ≡ b → leb limit' b ≡ false → loose_after limit a ≡ b
after-part limit limit' a b d e f = ap (λ (x : ℕ). loose_after x a) d ∙ ap (loose_after limit') e ∙ ap (λ (t : Bool). cond t 0 b) f

appends_keeps : {from : ℕ} (d : Bytes) (out : ℕ) (could : Bool) (w : World) → Inv from w → Appended from d could w (appends d out w.session)
unfolding appends holds
appends_keeps {from} d out could w i =
    unless_ind (Appended from d could w) w.session _ _ (λ n. record { inv = i })
    (λ h. choose_ind (Appended from d could w) _ _ _
    (λ e. record {
      inv = cut_keeps could w i x _ _ (not_sent w.session h.1.0) h.0 (not_at 1 4 w.session.phase refl (and_no e h.1.1.0))
          all (after-full w.notes.limit s.limit _ _ b.limit_is len e);
    })
    (λ e. record {
      inv = record {
        K = i.K;
        p = i.p;
        since = i.since;
        steady = i.steady;
        server = i.server;
        flow = i.flow;
        buffer = buffer_holds x _ _ all (after-part w.notes.limit s.limit _ _ b.limit_is len e) (leb-false s.limit (length x) e) b;
        wait = wait_zero (wait_holds (not_sent w.session h.1.0) i.wait);
        replays = replay_on i.replays;
        handed = handed-none i.handed;
      };
    }))
  where
    s : Session
    s = w.session

    b : BufferOK i.K i.p (stock_of w.session) (tally_of w.notes)
    b = i.buffer

    x : Bytes
    x = holding d w.session

    same : taken d w.notes ≡ take (room d s) d
    same = ap (λ (m : ℕ). take (min (length d) (m - w.notes.loose)) d) b.limit_is ∙ ap (λ (m : ℕ). take (min (length d) (s.limit - m)) d) b.loose_is

    len : w.notes.loose + length (taken d w.notes) ≡ length x
    len = ap (λ (m : ℕ). m + length (taken d w.notes)) b.loose_is ∙ ap (λ (r : Bytes). length s.writer.held + length r) same
        ∙ sym (length-append s.writer.held (take (room d s) d))

    all : w.notes.all ++ taken d w.notes ≡ i.K ++ x
    all = ap (λ (r : Bytes). r ++ taken d w.notes) b.all_is ∙ ap (λ (r : Bytes). i.K ++ s.writer.held ++ r) same ∙ append_assoc i.K s.writer.held (take (room d s) d)

-- an append of nothing, which may come after the end
empty_keeps : {from : ℕ} (could : Bool) (w : World) → Inv from w → Appended from [] could w (answers (took 0 none) w.session)
empty_keeps could w i =
    let e : taken [] w.notes ≡ [] = take-nil (min 0 (w.notes.limit - w.notes.loose)) in
    let l : w.notes.loose + length (taken [] w.notes) ≡ length w.session.writer.held
    = ap (λ (r : Bytes). w.notes.loose + length r) e ∙ add-zero w.notes.loose ∙ i.buffer.loose_is in
    record {
      inv = record {
        K = i.K;
        p = i.p;
        since = i.since;
        steady = i.steady;
        wait = wait_zero i.wait;
        server = i.server;
        flow = i.flow;
        buffer = buffer_holds w.session.writer.held _ _ (ap (λ (r : Bytes). w.notes.all ++ r) e ∙ append-nil w.notes.all ∙ i.buffer.all_is)
            (after-part w.notes.limit w.session.limit _ _ i.buffer.limit_is l (lt-leb w.session.limit (length w.session.writer.held) i.buffer.small)) i.buffer.small i.buffer;
        replays = replay_on i.replays;
        handed = handed-none i.handed;
      };
    }

pub append_keeps : {from : ℕ} (d : Bytes) (out : ℕ) (could : Bool) (w : World) → Inv from w → Inv from (calls (append d out) could w)
unfolding step
append_keeps [] out could w i = (empty_keeps could w i).inv
append_keeps (x ∷ d) out could w i = (appends_keeps (x ∷ d) out could w i).inv
