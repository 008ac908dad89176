-- A call that is made again takes fewer turns: an append took a byte, since fewer bytes than C are held, and a flush or finalise left none held.
-- Assumes nothing.
use mathlib.Core.Path.{◌≡◌, sym}
use mathlib.Core.Bool.{true, not, cond}
use mathlib.Core.Option.{Option, none, some}
use mathlib.Core.List.{[], ◌∷◌}
use Prim.Native.Nat.{ℕ, suc, ◌<◌}
use native.Mathlib.Omega.{arith}
use borrow.Author.Tests.{ltb-true}
use lib.ListN.{length, drop, length-drop}
use lib.Dec.{ltb}
use Rattle.rules.specs.Message.{Bytes}
use Rattle.rules.specs.Session.{flushing, finalizing, Session, Call, append, flush, finalise, next_request, close, send_failed, response, handshake, break, judge, failed_attempt, Result, is_nil}
use Rattle.rules.specs.Upload.{room, appends, asks}
use Rattle.rules.specs.Step.{step}
use Rattle.rules.proofs.Tests.{never}
use Rattle.rules.proofs.Lists.{cond_ind, choose_ind, unless_ind}
use Rattle.bench_turns.specs.Turn.{again}
use Rattle.bench_run.specs.Stands.{call_turns, turns_of}

record Fewer (c : Call) (n : ℕ) (r : Result) : Type 0 where
  pub fewer : turns_of (again c r.answer) r.session < n

-- what is left of an append that took n bytes
append_left : (d : Bytes) (out n : ℕ) (s : Session) → 0 < n → turns_of (cond (ltb n (length d)) (some (append (drop n d) out)) none) s < suc (length d)
append_left d out n s h =
    cond_ind (λ (o : Option Call). turns_of o s < suc (length d)) (ltb n (length d)) (λ e. shorter (ltb-true n (length d) e)) (λ e. omega arith)
  where
    shorter : n < length d → suc (length (drop n d)) < suc (length d)
    shorter l = omega (arith, length-drop n d)

some_room : (x : ℕ) (d : Bytes) (s : Session) → length s.writer.held < s.limit → 0 < room (x ∷ d) s
some_room x d s h = omega arith

appends_fewer : (x : ℕ) (d : Bytes) (out : ℕ) (s : Session) → length s.writer.held < s.limit → Fewer (append (x ∷ d) out) (suc (length (x ∷ d))) (appends (x ∷ d) out s)
unfolding appends
appends_fewer x d out s h =
    unless_ind (Fewer (append (x ∷ d) out) (suc (length (x ∷ d)))) s _ _ (λ n. record { fewer = omega arith })
    (λ t. choose_ind (Fewer (append (x ∷ d) out) (suc (length (x ∷ d)))) _ _ _
    (λ f. record { fewer = append_left (x ∷ d) out (room (x ∷ d) s) _ (some_room x d s h) })
    (λ f. record { fewer = append_left (x ∷ d) out (room (x ∷ d) s) _ (some_room x d s h) }))

-- held bytes are cut, and then none is held
cut_fewer : (b : Bytes) → not (is_nil b) ≡ true → 1 < suc (cond (is_nil b) 0 1)
cut_fewer [] e = never (sym e)
cut_fewer (x ∷ b) e = omega arith

flush_fewer : (out : ℕ) (s : Session) → Fewer (flush out) (call_turns (flush out) s) (asks flushing out s)
unfolding asks
flush_fewer out s =
    unless_ind (Fewer (flush out) (call_turns (flush out) s)) s _ _ (λ n. record { fewer = omega arith })
    (λ t. choose_ind (Fewer (flush out) (call_turns (flush out) s)) _ _ _
    (λ f. record { fewer = cut_fewer s.writer.held f })
    (λ f. record { fewer = omega arith }))

finalise_fewer : (out : ℕ) (s : Session) → Fewer (finalise out) (call_turns (finalise out) s) (asks finalizing out s)
unfolding asks
finalise_fewer out s =
    unless_ind (Fewer (finalise out) (call_turns (finalise out) s)) s _ _ (λ n. record { fewer = omega arith })
    (λ t. choose_ind (Fewer (finalise out) (call_turns (finalise out) s)) _ _ _
    (λ f. record { fewer = cut_fewer s.writer.held f })
    (λ f. record { fewer = omega arith }))

pub step_fewer : (c : Call) (s : Session) → length s.writer.held < s.limit → turns_of (again c (step c s).answer) (step c s).session < call_turns c s
unfolding step
step_fewer (append [] out) s h = omega arith
step_fewer (append (x ∷ d) out) s h = (appends_fewer x d out s h).fewer
step_fewer (flush out) s h = (flush_fewer out s).fewer
step_fewer (finalise out) s h = (finalise_fewer out s).fewer
step_fewer (next_request out) s h = omega arith
step_fewer close s h = omega arith
step_fewer send_failed s h = omega arith
step_fewer (response m) s h = omega arith
step_fewer (handshake m) s h = omega arith
step_fewer (break b) s h = omega arith
step_fewer (judge v) s h = omega arith
step_fewer (failed_attempt b v) s h = omega arith
