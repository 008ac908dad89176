-- What each change does to the waiters' part of the invariant.
use mathlib.Core.Path.{◌≡◌, refl, sym, ap, ◌∙◌, subst}
use mathlib.Core.Bool.{Bool, true, false, ◌||◌}
use mathlib.Core.Option.{some, none-ne-some}
use mathlib.Core.List.{List, [], ◌∷◌, ◌++◌, append_assoc, append-nil}
use Prim.Native.Nat.{ℕ, zero, suc, ◌+◌, ◌≤◌}
use native.Mathlib.Omega.{arith}
use lib.ListN.{length, take, drop, length-append, take-append-drop}
use lib.IntN.{ℤ, pos}
use lib.Signed.{le_z}
use borrow.Author.Tests.{leb-true}
use Rattle.crc32c.specs.Reg.{crc_of}
use Rattle.rules.specs.Basics.{All}
use Rattle.rules.specs.Message.{Bytes}
use Rattle.rules.specs.Session.{PendingKind, flushing, finalizing, PendingRequest, Session}
use Rattle.rules.specs.Upload.{request_for, is_finalizing, waiter_of}
use Rattle.rules.specs.Respond.{wants, is_satisfied, satisfied}
use Rattle.rules.specs.Notes.{Mark}
use Rattle.rules.proofs.Tests.{never, clash, and_left, and_right, or_left, or_right}
use Rattle.rules.proofs.Lists.{cond_ind, all_map, all_append}
use Rattle.rules.proofs.Inv.{Asked, Pairs, Final, Completed, WaitOK}
use Rattle.rules.proofs.Server.{right_grow, right_sent}

abbrev Marks : Type 0
Marks = List Mark

module _ {K : Bytes} {p : ℕ} {held : Bytes} {qs : List PendingRequest} {sent over : Bool} {marks : List Mark} {done : ℕ} {final : Bool} where
  -- the session ends: its waiters are lost
  pub wait_end : WaitOK K p held qs sent over marks done final → WaitOK K p held [] sent true marks done final
  wait_end h = record {
    gone = h.gone;
    todo = [];
    lost = h.todo ++ h.lost;
    marks_is = h.marks_is;
    count_is = h.count_is;
    gone_ok = h.gone_ok;
    queue_ok = tt;
    asked = tt;
    none_lost = λ e. never e;
    finals = h.finals;
    no_held = h.no_held;
  }

  -- another phase
  pub wait_phase : {over' : Bool} → over ≡ false → WaitOK K p held qs sent over marks done final → WaitOK K p held qs sent over' marks done final
  wait_phase e h = record {
    gone = h.gone;
    todo = h.todo;
    lost = h.lost;
    marks_is = h.marks_is;
    count_is = h.count_is;
    gone_ok = h.gone_ok;
    queue_ok = h.queue_ok;
    asked = h.asked;
    none_lost = λ _. h.none_lost e;
    finals = h.finals;
    no_held = h.no_held;
  }

  -- the object is finalised
  pub wait_final : {final' : Bool} → (final ≡ true → final' ≡ true) → WaitOK K p held qs sent over marks done final → WaitOK K p held qs sent over marks done final'
  wait_final {final'} f h = record {
    gone = h.gone;
    todo = h.todo;
    lost = h.lost;
    marks_is = h.marks_is;
    count_is = h.count_is;
    queue_ok = h.queue_ok;
    asked = h.asked;
    none_lost = h.none_lost;
    finals = h.finals;
    no_held = h.no_held;
    gone_ok = all_map (Completed p final) (Completed p final') (λ m g. record { below = g.below; finalised = λ k. f (g.finalised k) }) h.gone h.gone_ok;
  }

  -- more held bytes, or held bytes cut, while no finalise was sent
  pub wait_holds : {held' : Bytes} → sent ≡ false → WaitOK K p held qs sent over marks done final → WaitOK K p held' qs sent over marks done final
  wait_holds e h = record {
    gone = h.gone;
    todo = h.todo;
    lost = h.lost;
    marks_is = h.marks_is;
    count_is = h.count_is;
    gone_ok = h.gone_ok;
    queue_ok = h.queue_ok;
    asked = h.asked;
    none_lost = h.none_lost;
    no_held = λ f. clash f e;
    finals = h.finals;
  }

  pub wait_cuts : {held' : Bytes} (x : Bytes) → sent ≡ false → WaitOK K p held qs sent over marks done final → WaitOK (K ++ x) p held' qs sent over marks done final
  wait_cuts x e h = record {
    gone = h.gone;
    todo = h.todo;
    lost = h.lost;
    marks_is = h.marks_is;
    count_is = h.count_is;
    gone_ok = h.gone_ok;
    queue_ok = h.queue_ok;
    none_lost = h.none_lost;
    no_held = λ f. clash f e;
    asked = all_map (Asked K sent) (Asked (K ++ x) sent) (λ q g. record { right = right_grow x e q.request g.right; dataless = g.dataless }) qs h.asked;
    finals = all_map (Final sent (length K)) (Final sent (length (K ++ x))) (λ m g k. clash (g k).0 e) marks h.finals;
  }

  pub wait_zero : WaitOK K p held qs sent over marks done final → WaitOK K p held qs sent over marks (done + 0) final
  wait_zero h =
      let q : done ≡ done + 0 = omega arith in
      subst (λ (m : ℕ). WaitOK K p held qs sent over marks m final) q h

-- ---- a waiter is made

pairs_snoc : (qs : List PendingRequest) (ms : Marks) (q : PendingRequest) (m : Mark) → Pairs qs ms → q.request.write_offset ≡ pos m.before → q.kind ≡ m.kind
    → Pairs (qs ++ (q ∷ [])) (ms ++ (m ∷ []))
pairs_snoc [] [] q m h e k = (e, k, tt)
pairs_snoc [] (x ∷ ms) q m h e k = absurd h
pairs_snoc (x ∷ qs) [] q m h e k = absurd h
pairs_snoc (x ∷ qs) (y ∷ ms) q m h e k = (h.0, h.1, pairs_snoc qs ms q m h.2 e k)

pub wait_new : {K : Bytes} {p : ℕ} {held : Bytes} {qs : List PendingRequest} {sent over : Bool} {marks : List Mark} {done : ℕ} {final : Bool} (q : PendingRequest) (m : Mark)
    → over ≡ false → held ≡ [] → q.request.write_offset ≡ pos m.before → q.kind ≡ m.kind → m.before ≡ length K → Asked K (sent || is_finalizing m.kind) q
    → WaitOK K p held qs sent over marks done final
    → WaitOK K p held (qs ++ (q ∷ [])) (sent || is_finalizing m.kind) over (marks ++ (m ∷ [])) done final
wait_new {K} {qs} {sent} {marks} q m o n e k l a h =
    let sent' : Bool = sent || is_finalizing m.kind in
    let f : sent ≡ true → (sent || is_finalizing m.kind) ≡ true = or_left sent (is_finalizing m.kind) in
    record {
      gone = h.gone;
      todo = h.todo ++ (m ∷ []);
      lost = [];
      count_is = h.count_is;
      gone_ok = h.gone_ok;
      none_lost = λ _. refl;
      no_held = λ _. n;
      marks_is =
          ap (λ (r : Marks). r ++ (m ∷ [])) (h.marks_is ∙ ap (λ (r : Marks). h.gone ++ (h.todo ++ r)) (h.none_lost o) ∙ ap (λ (r : Marks). h.gone ++ r) (append-nil h.todo))
          ∙ append_assoc h.gone h.todo (m ∷ []) ∙ ap (λ (r : Marks). h.gone ++ r) (sym (append-nil (h.todo ++ (m ∷ []))));
      queue_ok = pairs_snoc qs h.todo q m h.queue_ok e k;
      asked = all_append (Asked K sent') qs (q ∷ [])
          (all_map (Asked K sent) (Asked K sent') (λ x g. record { right = right_sent f x.request g.right; dataless = g.dataless }) qs h.asked) (a, tt);
      finals = all_append (Final sent' (length K)) marks (m ∷ [])
          (all_map (Final sent (length K)) (Final sent' (length K)) (λ x g y. (f (g y).0, (g y).1)) marks h.finals)
          ((λ y. (or_right sent (is_finalizing m.kind) (ap is_finalizing y), l)), tt);
    }

-- the waiter that a flush or finalise makes
pub asked_new : (k : PendingKind) (sent : Bool) (s : Session) (K : Bytes) → s.writer.write_offset ≡ pos (length K) → ((c : ℕ) → s.writer.running_crc32c ≡ some c → c ≡ crc_of K)
    → Asked K (sent || is_finalizing k) (waiter_of k s)
asked_new flushing sent s K e f = record { right = record { chunk = λ d g. absurd (none-ne-some d g); finish = λ g. never (sym g) }; dataless = refl }
asked_new finalizing sent s K e f = record {
  right = record { chunk = λ d g. absurd (none-ne-some d g); finish = λ g. (or_right sent true refl, record { stands = e; sum = f }) };
  dataless = refl;
}

pub request-at : (k : PendingKind) (s : Session) → (request_for k s).write_offset ≡ s.writer.write_offset
request-at flushing s = refl
request-at finalizing s = refl

-- ---- waiters are completed

record Served (n k : ℕ) (final : Bool) (qs : List PendingRequest) (ms : Marks) : Type 0 where
  front : All (Completed n final) (take k ms)
  behind : Pairs (drop k qs) (drop k ms)
  count : length (take k ms) ≡ k

wanted : (k : PendingKind) (f : Bool) → wants k f ≡ true → k ≡ finalizing → f ≡ true
wanted flushing f e g = never (sym (ap is_finalizing g))
wanted finalizing f e g = e

serve : (n : ℕ) (f final : Bool) → (f ≡ true → final ≡ true) → (qs : List PendingRequest) (ms : Marks) → Pairs qs ms → Served n (satisfied (pos n) f qs) final qs ms
unfolding satisfied is_satisfied
serve n f final t [] [] h = record { front = tt; behind = tt; count = refl }
serve n f final t [] (m ∷ ms) h = absurd h
serve n f final t (q ∷ qs) [] h = absurd h
serve n f final t (q ∷ qs) (m ∷ ms) h =
    cond_ind (λ (k : ℕ). Served n k final (q ∷ qs) (m ∷ ms)) (is_satisfied (pos n) f q)
    (λ e. one e (serve n f final t qs ms h.2))
    (λ e. record { front = tt; behind = h; count = refl })
  where
    one : is_satisfied (pos n) f q ≡ true → Served n (satisfied (pos n) f qs) final qs ms → Served n (suc (satisfied (pos n) f qs)) final (q ∷ qs) (m ∷ ms)
    one e s = record {
      front = (
        record {
          below = leb-true m.before n (subst (λ (z : ℤ). le_z z (pos n) ≡ true) h.0 (and_left (le_z q.request.write_offset (pos n)) (wants q.kind f) e));
          finalised = λ k. t (wanted q.kind f (and_right (le_z q.request.write_offset (pos n)) (wants q.kind f) e) (h.1 ∙ k));
        },
        s.front,
      );
      behind = s.behind;
      count = ap suc s.count;
    }

all_drop : (Q : PendingRequest → Type 0) (n : ℕ) (l : List PendingRequest) → All Q l → All Q (drop n l)
all_drop Q zero l h = h
all_drop Q (suc n) [] h = tt
all_drop Q (suc n) (x ∷ xs) h = all_drop Q n xs h.1

-- a size is stated; f: in a finalised message
pub wait_serves : {K : Bytes} {p : ℕ} {held : Bytes} {qs : List PendingRequest} {sent over : Bool} {marks : List Mark} {done : ℕ} {final : Bool} (n : ℕ) (f : Bool)
    → p ≤ n → (f ≡ true → final ≡ true) → WaitOK K p held qs sent over marks done final
    → WaitOK K n held (drop (satisfied (pos n) f qs) qs) sent over marks (done + satisfied (pos n) f qs) final
wait_serves {K} {p} {qs} {sent} {final} n f l t h =
    let k : ℕ = satisfied (pos n) f qs in
    let s : Served n (satisfied (pos n) f qs) final qs h.todo = serve n f final t qs h.todo h.queue_ok in
    record {
      gone = h.gone ++ take k h.todo;
      todo = drop k h.todo;
      lost = h.lost;
      marks_is = h.marks_is ∙ ap (λ (r : Marks). h.gone ++ (r ++ h.lost)) (sym (take-append-drop k h.todo))
          ∙ ap (λ (r : Marks). h.gone ++ r) (append_assoc (take k h.todo) (drop k h.todo) h.lost)
          ∙ sym (append_assoc h.gone (take k h.todo) (drop k h.todo ++ h.lost));
      count_is = ap (λ (x : ℕ). x + k) h.count_is ∙ ap (λ (x : ℕ). length h.gone + x) (sym s.count) ∙ sym (length-append h.gone (take k h.todo));
      gone_ok = all_append (Completed n final) h.gone (take k h.todo)
          (all_map (Completed p final) (Completed n final) (λ m g. let b : m.before ≤ p = g.below in record { below = omega arith; finalised = g.finalised }) h.gone h.gone_ok) s.front;
      queue_ok = s.behind;
      asked = all_drop (Asked K sent) k qs h.asked;
      none_lost = h.none_lost;
      finals = h.finals;
      no_held = h.no_held;
    }
