-- Every call keeps the invariant over calls.
use mathlib.Core.Path.{◌≡◌, refl, sym, subst, subst₂}
use mathlib.Core.Bool.{Bool, true, false, cond}
use mathlib.Core.Option.{Option, none, some}
use mathlib.Core.List.{List, [], ◌∷◌}
use Prim.Native.Nat.{ℕ, ◌+◌, ◌-◌, ◌≤◌, ◌<◌}
use native.Mathlib.Omega.{arith}
use lib.ListN.{length, take, drop, get_elem?, length-append, length-take}
use lib.IntN.{ℤ}
use lib.Signed.{lt_z}
use borrow.Author.Tests.{leb-false}
use Rattle.rules.specs.Message.{Bytes, Response, Break}
use Rattle.rules.specs.Session.{ReplayChunk, ReplayBuffer, PendingKind, flushing, finalizing, PendingRequest, Worker, Cause, Phase, Session, Call, append, flush, finalise, next_request, close, send_failed, response, handshake, break, judge, failed_attempt, Answer, refused, took, waits, Result, answers, set_worker, is_replay, is_ended, bytes_of, chunks, waiters, stored, full, ending}
use Rattle.rules.specs.Upload.{room, holding, holds, request_for, waiter_of, awaits, appends, asks, closes}
use Rattle.rules.specs.Respond.{satisfied, absorbs, above_end, takes, last_step, responds, to_replay, shakes}
use Rattle.rules.specs.Reconnect.{breaks, ruled, judges, fails}
use Rattle.rules.specs.Replay.{hands_waiter, hands_chunk, hands, unsent}
use Rattle.rules.specs.Step.{step}
use Rattle.rules.specs.Notes.{Mark, Notes, shows, accepted, brings, marks_with, noted}
use Rattle.rules.specs.Calls.{Run, called}
use Rattle.rules.proofs.Tests.{and_no}
use Rattle.rules.proofs.Lists.{cond_ind, choose_ind, unless_ind}
use Rattle.rules.proofs.CalledInv.{BytesOK, CountOK, Called, bytes-cuts, bytes-holds, bytes_acks, satisfied_le, count_zero, count_on, count_ends, count_serves, count_new}

module _ (low limit capacity : ℕ) where
  -- the invariant where `marks` says what the marks become with an accepted answer
  record Kept (marks : Answer → List Mark) (g : Notes) (res : Result) : Type 0 where
    inv : Called low limit capacity res.session (cond (accepted res.answer) (marks res.answer) g.marks)
        (cond (accepted res.answer) (g.completed + (shows res.answer).completed) g.completed)

  -- every call but flush and finalise leaves the marks
  abbrev Same : Notes → Result → Type 0
  Same g = Kept (λ _. g.marks) g

  abbrev Asked : PendingKind → Notes → Result → Type 0
  Asked k g = Kept (λ a. marks_with (some k) (shows a).waiter g) g

  -- the session goes on, with k waiters completed by this call
  record Going (g : Notes) (k : ℕ) (s : Session) : Type 0 where
    going : is_ended s.phase ≡ false
    inv : Called low limit capacity s g.marks (g.completed + k)

  -- ---- from such a session on

  module _ (g : Notes) (k : ℕ) (s : Session) (i : Going g k s) where
    phased : {over : Bool} → over ≡ false → CountOK s.writer.made (waiters s) over g.marks (g.completed + k)
    phased f = count_on i.going f i.inv.count

    ending_kept : (c : Cause) (released : ℕ) → Same g (ending c k released s)
    unfolding ending
    ending_kept c released = record { inv = record { bytes = i.inv.bytes; count = count_ends i.inv.count } }

    last_kept : (released : ℕ) → Same g (last_step k released s)
    unfolding last_step
    last_kept released =
        choose_ind (Same g) _ _ _ (λ _. record { inv = record { bytes = i.inv.bytes; count = i.inv.count } })
        (λ _. record { inv = record { bytes = i.inv.bytes; count = i.inv.count } })

    replay_kept : (released : ℕ) → Same g (to_replay k released s)
    unfolding to_replay
    replay_kept released = record { inv = record { bytes = i.inv.bytes; count = phased refl } }

  module _ (g : Notes) (s : Session) (i : Going g 0 s) where
    ruled_kept : (c : Option Cause) → Same g (ruled c s)
    unfolding ruled
    ruled_kept none = record { inv = record { bytes = i.inv.bytes; count = phased g 0 s i refl } }
    ruled_kept (some c) = ending_kept g 0 s i c 0

    waiter_kept : (q : Option PendingRequest) (at : ℕ) → Same g (hands_waiter q at s)
    unfolding hands_waiter
    waiter_kept none at =
        choose_ind (Same g) _ _ _ (λ _. record { inv = record { bytes = i.inv.bytes; count = phased g 0 s i refl } })
        (λ _. record { inv = record { bytes = i.inv.bytes; count = phased g 0 s i refl } })
    waiter_kept (some q) at = record { inv = record { bytes = i.inv.bytes; count = phased g 0 s i refl } }

    chunk_kept : (c : Option ReplayChunk) (at : ℕ) → Same g (hands_chunk c at s)
    unfolding hands_chunk
    chunk_kept none at = waiter_kept (get_elem? (waiters s) (at - length (chunks s))) at
    chunk_kept (some c) at = record { inv = record { bytes = i.inv.bytes; count = phased g 0 s i refl } }

    takes_kept : (n : Option ℤ) (f : Bool) (last : ℕ → ℕ → Session → Result) → ((k : ℕ) (s' : Session) → Going g k s' → (released : ℕ) → Same g (last k released s'))
        → Same g (takes n f s last)
    unfolding takes
    takes_kept none f last h = h 0 s i 0
    takes_kept (some n) f last h =
        choose_ind (Same g) _ _ _ (λ _. ending_kept g 0 s i _ 0)
        (λ d. choose_ind (Same g) _ _ _ (λ _. ending_kept g 0 s i _ 0)
        (λ e. choose_ind (Same g) _ _ _ (λ _. ending_kept g _ _ (absorbed d e) _ _) (λ _. h _ _ (absorbed d e) _)))
      where
        z : g.completed + 0 + satisfied n f (waiters s) ≡ g.completed + satisfied n f (waiters s)
        z = omega arith

        absorbed : lt_z n s.worker.persisted_size ≡ false → above_end n s ≡ false
            → Going g (satisfied n f (waiters s)) (set_worker (absorbs n f s.worker) s)
        absorbed d e = record {
          going = i.going;
          inv = record {
            bytes = bytes_acks n d e i.inv.bytes;
            count = subst (λ (m : ℕ). CountOK s.writer.made (drop (satisfied n f (waiters s)) (waiters s)) (is_ended s.phase) g.marks m) z
                (count_serves (satisfied n f (waiters s)) (satisfied_le n f (waiters s)) i.going i.inv.count);
          };
        }

  -- ---- each call

  module _ (s : Session) (g : Notes) (i : Called low limit capacity s g.marks g.completed) where
    below : full s ≡ false → length (bytes_of (chunks s)) < s.worker.replay_buffer.capacity
    unfolding full stored
    below e = leb-false _ _ e

    -- the session with another connector and mark, or as it is
    goes : is_ended s.phase ≡ false → (w : Worker) → w.replay_buffer ≡ s.worker.replay_buffer → w.persisted_size ≡ s.worker.persisted_size → w.pending_requests ≡ waiters s
        → Going g 0 (set_worker w s)
    goes e w b n p = record {
      going = e;
      inv = record {
        bytes = subst₂ (λ (x : ReplayBuffer) (z : ℤ). BytesOK low limit capacity s.limit x.capacity z s.writer.write_offset s.writer.held x.queue) (sym b) (sym n)
            i.bytes;
        count = subst (λ (x : List PendingRequest). CountOK s.writer.made x (is_ended s.phase) g.marks (g.completed + 0)) (sym p) (count_zero i.count);
      };
    }

    refused_kept : (marks : Answer → List Mark) (n : ℕ) → Kept marks g (answers (refused n) s)
    refused_kept marks n = record { inv = i }

    empty_kept : Same g (answers (took 0 none) s)
    empty_kept = record { inv = record { bytes = i.bytes; count = count_zero i.count } }

    appends_kept : (d : Bytes) (out : ℕ) → Same g (appends d out s)
    unfolding appends holds
    appends_kept d out =
        let e : s.limit ≡ limit = i.bytes.limit_is in
        let m : length s.writer.held < limit = i.bytes.small in
        let l : length (holding d s) ≤ limit = omega (arith, length-append s.writer.held (take (room d s) d), length-take (room d s) d) in
        unless_ind (Same g) s _ _ (refused_kept _)
        (λ h. choose_ind (Same g) _ _ _
        (λ f. record { inv = record { bytes = bytes-cuts (holding d s) (below (and_no f h.1.1.1.1.0)) l i.bytes; count = count_zero i.count } })
        (λ f. record { inv = record { bytes = bytes-holds (holding d s) (leb-false s.limit (length (holding d s)) f) i.bytes; count = count_zero i.count } }))

    asks_kept : (k : PendingKind) (out : ℕ) → Asked k g (asks k out s)
    unfolding asks
    asks_kept k out =
        let m : length s.writer.held < limit = i.bytes.small in
        unless_ind (Asked k g) s _ _ (refused_kept _)
        (λ h. choose_ind (Asked k g) _ _ (answers (waits (request_for k s) _) (awaits k s))
        (λ f. record {
          inv = record {
            bytes = bytes-cuts s.writer.held (below h.1.1.1.1.0) (omega arith) i.bytes;
            count = count_zero i.count;
          };
        })
        (λ f. record { inv = record { bytes = i.bytes; count = count_zero (count_new (waiter_of k s) _ refl refl h.0 i.count) } }))

    hands_kept : (out : ℕ) → Same g (hands out s)
    unfolding hands
    hands_kept out = unless_ind (Same g) s _ _ (refused_kept _) (λ h. chunk_kept g s (goes h.0 s.worker refl refl refl) _ _)

    closes_kept : Same g (closes s)
    unfolding closes
    closes_kept = unless_ind (Same g) s _ _ (refused_kept _) (λ h. record { inv = record { bytes = i.bytes; count = count_zero (count_on h.0 refl i.count) } })

    unsent_kept : Same g (unsent s)
    unfolding unsent
    unsent_kept =
        unless_ind (Same g) s _ _ (refused_kept _)
        (λ h. record {
          inv = record {
            bytes = i.bytes;
            count = count_zero (count_on h.0 (cond_ind (λ (p : Phase). is_ended p ≡ false) (is_replay s.phase) (λ _. refl) (λ _. h.0)) i.count);
          };
        })

    responds_kept : (m : Response) → Same g (responds m s)
    unfolding responds
    responds_kept m = unless_ind (Same g) s _ _ (refused_kept _) (λ h. takes_kept g _ (goes h.0 _ refl refl refl) _ _ last_step (last_kept g))

    shakes_kept : (m : Response) → Same g (shakes m s)
    unfolding shakes
    shakes_kept m = unless_ind (Same g) s _ _ (refused_kept _) (λ h. takes_kept g _ (goes h.0 _ refl refl refl) _ _ to_replay (replay_kept g))

    breaks_kept : (b : Break) → Same g (breaks b s)
    unfolding breaks
    breaks_kept b =
        unless_ind (Same g) s _ _ (refused_kept _)
        (λ h. choose_ind (Same g) _ _ _ (λ _. ending_kept g 0 s (goes h.0 s.worker refl refl refl) _ 0)
        (λ _. choose_ind (Same g) _ _ _ (λ _. ending_kept g 0 s (goes h.0 s.worker refl refl refl) _ 0)
        (λ _. record { inv = record { bytes = i.bytes; count = count_zero (count_on h.0 refl i.count) } })))

    judges_kept : (v : ℕ) → Same g (judges v s)
    unfolding judges
    judges_kept v = unless_ind (Same g) s _ _ (refused_kept _) (λ h. ruled_kept g _ (goes h.0 _ refl refl refl) _)

    fails_kept : (b : Break) (v : ℕ) → Same g (fails b v s)
    unfolding fails
    fails_kept b v = unless_ind (Same g) s _ _ (refused_kept _) (λ h. ruled_kept g _ (goes h.0 _ refl refl refl) _)

  -- ---- every call

  -- a run with the invariant
  pub record CalledAt (r : Run) : Type 0 where
    pub inv : Called low limit capacity r.session r.notes.marks r.notes.completed

  -- the notes of a call are the new ones where it is accepted, else the old
  noted-at : (s : Session) (b : Bool) (new old : Notes) → Called low limit capacity s (cond b new.marks old.marks) (cond b new.completed old.completed)
      → CalledAt (record { session = s; notes = cond b new old })
  noted-at s true new old h = record { inv = h }
  noted-at s false new old h = record { inv = h }

  after_call : (c : Call) (res : Result) (r : Run)
      → Called low limit capacity res.session (cond (accepted res.answer) (noted (brings c) (shows res.answer) r.notes).marks r.notes.marks)
      (cond (accepted res.answer) (noted (brings c) (shows res.answer) r.notes).completed r.notes.completed)
      → CalledAt (called c res r)
  after_call c res r h = noted-at res.session (accepted res.answer) (noted (brings c) (shows res.answer) r.notes) r.notes h

  pub step_kept : (c : Call) (r : Run) → CalledAt r → CalledAt (called c (step c r.session) r)
  unfolding step
  step_kept (append [] out) r i = after_call (append [] out) (answers (took 0 none) r.session) r (empty_kept r.session r.notes i.inv).inv
  step_kept (append (x ∷ d) out) r i = after_call (append (x ∷ d) out) (appends (x ∷ d) out r.session) r (appends_kept r.session r.notes i.inv (x ∷ d) out).inv
  step_kept (flush out) r i = after_call (flush out) (asks flushing out r.session) r (asks_kept r.session r.notes i.inv flushing out).inv
  step_kept (finalise out) r i = after_call (finalise out) (asks finalizing out r.session) r (asks_kept r.session r.notes i.inv finalizing out).inv
  step_kept (next_request out) r i = after_call (next_request out) (hands out r.session) r (hands_kept r.session r.notes i.inv out).inv
  step_kept close r i = after_call close (closes r.session) r (closes_kept r.session r.notes i.inv).inv
  step_kept send_failed r i = after_call send_failed (unsent r.session) r (unsent_kept r.session r.notes i.inv).inv
  step_kept (response m) r i = after_call (response m) (responds m r.session) r (responds_kept r.session r.notes i.inv m).inv
  step_kept (handshake m) r i = after_call (handshake m) (shakes m r.session) r (shakes_kept r.session r.notes i.inv m).inv
  step_kept (break b) r i = after_call (break b) (breaks b r.session) r (breaks_kept r.session r.notes i.inv b).inv
  step_kept (judge v) r i = after_call (judge v) (judges v r.session) r (judges_kept r.session r.notes i.inv v).inv
  step_kept (failed_attempt b v) r i = after_call (failed_attempt b v) (fails b v r.session) r (fails_kept r.session r.notes i.inv b v).inv
