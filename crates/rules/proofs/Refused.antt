-- "A refused call changes nothing", and it gives one of the numbers that the papers have for it. 15 it gives exactly where a detail is malformed.
use mathlib.Core.Path.{◌≡◌, refl, sym, ap, ◌∙◌}
use mathlib.Core.Bool.{Bool, true, false, not, ◌&&◌, ◌||◌}
use mathlib.Core.Option.{Option, none, some}
use mathlib.Core.List.{List, [], ◌∷◌}
use Prim.Native.Nat.{ℕ, ◌-◌}
use lib.ListN.{length, get_elem?}
use lib.IntN.{ℤ}
use lib.Dec.{eqb}
use borrow.Author.Tests.{eqb-true}
use Rattle.rules.specs.Session.{ReplayChunk, PendingRequest, Cause, finished, Phase, live, closing, connecting, verdict, replay, ended, Session, Call, append, flush, finalise, next_request, close, send_failed, response, handshake, break, judge, failed_attempt, Answer, refused, took, sends, waits, completes, attempt, ok, done, ends, refused_with, Result, is_live, is_connecting, is_closing, is_ended, chunks, waiters, choose, unless, ending}
use Rattle.rules.specs.Message.{Break, is_malformed}
use Rattle.rules.specs.Upload.{appends, asks, closes}
use Rattle.rules.specs.Respond.{takes, last_step, responds, to_replay, shakes}
use Rattle.rules.specs.Reconnect.{breaks, ruled, no_verdict, judges, fails, unreadable}
use Rattle.rules.specs.Replay.{hands_waiter, hands_chunk, hands, unsent}
use Rattle.rules.specs.Step.{step}
use Rattle.rules.specs.Notes.{accepted}
use Rattle.rules.proofs.Tests.{never, and_left, and_right}
use Rattle.rules.proofs.Lists.{cond_ind, choose_ind}

-- the numbers that a call may be refused with
abbrev pub numbers_of : Call → List ℕ
numbers_of (append d out) = 7 ∷ 12 ∷ 6 ∷ 11 ∷ 8 ∷ 9 ∷ 10 ∷ []
numbers_of (flush out) = 7 ∷ 12 ∷ 6 ∷ 11 ∷ 8 ∷ 9 ∷ 10 ∷ []
numbers_of (finalise out) = 7 ∷ 12 ∷ 6 ∷ 11 ∷ 8 ∷ 9 ∷ 10 ∷ []
numbers_of (next_request out) = 7 ∷ 6 ∷ 11 ∷ []
numbers_of close = 7 ∷ 6 ∷ 8 ∷ []
numbers_of send_failed = 7 ∷ 6 ∷ []
numbers_of (response m) = 7 ∷ 6 ∷ 4 ∷ []
numbers_of (handshake m) = 7 ∷ 6 ∷ 4 ∷ []
numbers_of (break b) = 7 ∷ 6 ∷ 15 ∷ 4 ∷ []
numbers_of (judge v) = 7 ∷ 6 ∷ 13 ∷ []
numbers_of (failed_attempt b v) = 7 ∷ 6 ∷ 13 ∷ 15 ∷ 4 ∷ []

abbrev pub is_one_of : List ℕ → ℕ → Bool
is_one_of [] n = false
is_one_of (m ∷ ms) n = eqb n m || is_one_of ms n

abbrev numbered : List ℕ → List (Bool × ℕ) → Bool
numbered ms [] = true
numbered ms (t ∷ ts) = is_one_of ms t.1 && numbered ms ts

record Went (r : Result) : Type 0 where
  went : accepted r.answer ≡ true

record Refusing (ms : List ℕ) (s : Session) (r : Result) : Type 0 where
  keeps : (n : ℕ) → r.answer ≡ refused n → r.session ≡ s
  number : (n : ℕ) → r.answer ≡ refused n → is_one_of ms n ≡ true

went_refusing : (ms : List ℕ) (s : Session) (r : Result) → Went r → Refusing ms s r
went_refusing ms s r h = record {
  keeps = λ n e. let a : accepted r.answer ≡ true = h.went in cc;
  number = λ n e. let a : accepted r.answer ≡ true = h.went in cc;
}

unless_refusing : (ms : List ℕ) (s : Session) (rows : List (Bool × ℕ)) (r : Result) → numbered ms rows ≡ true → Went r → Refusing ms s (unless s rows r)
unfolding unless
unless_refusing ms s [] r e h = went_refusing ms s r h
unless_refusing ms s (t ∷ ts) r e h =
    cond_ind (Refusing ms s) t.0
    (λ a. record { keeps = λ n f. refl; number = λ n f. let g : is_one_of ms t.1 ≡ true = and_left _ _ e in cc })
    (λ a. unless_refusing ms s ts r (and_right (is_one_of ms t.1) _ e) h)

-- ---- past its refusals a call is accepted

ending-went : (c : Cause) (k released : ℕ) (s : Session) → Went (ending c k released s)
unfolding ending
ending-went c k released s = record { went = refl }

takes-went : (n : Option ℤ) (f : Bool) (s : Session) (last : ℕ → ℕ → Session → Result) → ((k released : ℕ) (t : Session) → Went (last k released t)) → Went (takes n f s last)
unfolding takes
takes-went none f s last h = h 0 0 s
takes-went (some n) f s last h =
    choose_ind Went _ _ _ (λ e. ending-went _ 0 0 s)
    (λ e. choose_ind Went _ _ _ (λ i. ending-went _ 0 0 s) (λ i. choose_ind Went _ _ _ (λ j. ending-went _ _ _ _) (λ j. h _ _ _)))

last_went : (k released : ℕ) (s : Session) → Went (last_step k released s)
unfolding last_step
last_went k released s = choose_ind Went _ _ _ (λ e. record { went = refl }) (λ e. record { went = refl })

replay-went : (k released : ℕ) (s : Session) → Went (to_replay k released s)
unfolding to_replay
replay-went k released s = record { went = refl }

ruled-went : (c : Option Cause) (s : Session) → Went (ruled c s)
unfolding ruled
ruled-went none s = record { went = refl }
ruled-went (some c) s = ending-went c 0 0 s

waiter_went : (p : Option PendingRequest) (i : ℕ) (s : Session) → Went (hands_waiter p i s)
unfolding hands_waiter
waiter_went none i s = choose_ind Went _ _ _ (λ e. record { went = refl }) (λ e. record { went = refl })
waiter_went (some p) i s = record { went = refl }

chunk_went : (c : Option ReplayChunk) (i : ℕ) (s : Session) → Went (hands_chunk c i s)
unfolding hands_chunk
chunk_went none i s = waiter_went (get_elem? (waiters s) (i - length (chunks s))) i s
chunk_went (some c) i s = record { went = refl }

break-went : (a b : Bool) (c : Cause) (s : Session) (r : Result) → Went r → Went (choose a (ending finished 0 0 s) (choose b (ending c 0 0 s) r))
break-went a b c s r h = choose_ind Went _ _ _ (λ e. ending-went _ 0 0 s) (λ e. choose_ind Went _ _ _ (λ f. ending-went c 0 0 s) (λ f. h))

step_refusing : (c : Call) (s : Session) → Refusing (numbers_of c) s (step c s)
unfolding step appends asks hands closes unsent responds shakes breaks judges fails
step_refusing (append [] out) s = record { keeps = λ n e. refl; number = λ n e. cc }
step_refusing (append (x ∷ d) out) s = unless_refusing _ s _ _ refl (choose_ind Went _ _ _ (λ e. record { went = refl }) (λ e. record { went = refl }))
step_refusing (flush out) s = unless_refusing _ s _ _ refl (choose_ind Went _ _ _ (λ e. record { went = refl }) (λ e. record { went = refl }))
step_refusing (finalise out) s = unless_refusing _ s _ _ refl (choose_ind Went _ _ _ (λ e. record { went = refl }) (λ e. record { went = refl }))
step_refusing (next_request out) s = unless_refusing _ s _ _ refl (chunk_went _ _ s)
step_refusing close s = unless_refusing _ s _ _ refl (record { went = refl })
step_refusing send_failed s = unless_refusing _ s _ _ refl (record { went = refl })
step_refusing (response m) s = unless_refusing _ s _ _ refl (takes-went _ _ _ last_step last_went)
step_refusing (handshake m) s = unless_refusing _ s _ _ refl (takes-went _ _ _ to_replay replay-went)
step_refusing (break b) s = unless_refusing _ s _ _ refl (break-went _ _ _ s _ (record { went = refl }))
step_refusing (judge v) s = unless_refusing _ s _ _ refl (ruled-went _ _)
step_refusing (failed_attempt b v) s = unless_refusing _ s _ _ refl (ruled-went _ _)

pub refused_changes_nothing : (c : Call) (s : Session) (n : ℕ) → (step c s).answer ≡ refused n → (step c s).session ≡ s
refused_changes_nothing c s = (step_refusing c s).keeps

pub only_table_numbers : (c : Call) (s : Session) (n : ℕ) → (step c s).answer ≡ refused n → is_one_of (numbers_of c) n ≡ true
only_table_numbers c s = (step_refusing c s).number

-- ---- 15

pub goes_on : (n : ℕ) (a : Answer) → accepted a ≡ true → refused_with n a ≡ false
goes_on n (refused k) e = never (sym e)
goes_on n (took k r) e = refl
goes_on n (sends r) e = refl
goes_on n (waits r k) e = refl
goes_on n (completes k m r) e = refl
goes_on n (attempt k) e = refl
goes_on n ok e = refl
goes_on n done e = refl
goes_on n (ends c k m f) e = refl

-- a number that the call does not have
pub other_number : (x : ℕ) (ms : List ℕ) (a : Answer) → is_one_of ms x ≡ false → ((n : ℕ) → a ≡ refused n → is_one_of ms n ≡ true) → refused_with x a ≡ false
other_number x ms (refused k) f h = at (eqb k x) refl
  where
    at : (t : Bool) → eqb k x ≡ t → t ≡ false
    at true e = never (sym (h k refl) ∙ ap (is_one_of ms) (eqb-true k x e) ∙ f)
    at false e = refl
other_number x ms (took k r) f h = refl
other_number x ms (sends r) f h = refl
other_number x ms (waits r k) f h = refl
other_number x ms (completes k m r) f h = refl
other_number x ms (attempt k) f h = refl
other_number x ms ok f h = refl
other_number x ms done f h = refl
other_number x ms (ends c k m g) f h = refl

-- the tests of a break, and of a failed attempt, in their order
of_break : (over phase malformed long : Bool) (s : Session) (r : Result) → Went r
    → refused_with 15 (unless s ((over, 7) ∷ (phase, 6) ∷ (malformed, 15) ∷ (long, 4) ∷ []) r).answer ≡ (not over && not phase && malformed)
unfolding unless
of_break true phase malformed long s r h = refl
of_break false true malformed long s r h = refl
of_break false false true long s r h = refl
of_break false false false true s r h = refl
of_break false false false false s r h = goes_on 15 r.answer h.went

of_attempt : (over phase bad malformed long : Bool) (s : Session) (r : Result) → Went r
    → refused_with 15 (unless s ((over, 7) ∷ (phase, 6) ∷ (bad, 13) ∷ (malformed, 15) ∷ (long, 4) ∷ []) r).answer
    ≡ (not over && not phase && not bad && malformed)
unfolding unless
of_attempt true phase bad malformed long s r h = refl
of_attempt false true bad malformed long s r h = refl
of_attempt false false true malformed long s r h = refl
of_attempt false false false true long s r h = refl
of_attempt false false false false true s r h = refl
of_attempt false false false false false s r h = goes_on 15 r.answer h.went

streaming : (p : Phase) (malformed : Bool)
    → (not (is_ended p) && not (not (is_live p || is_closing p)) && malformed) ≡ ((is_live p || is_closing p) && malformed)
streaming live m = refl
streaming closing m = refl
streaming connecting m = refl
streaming (verdict r) m = refl
streaming (replay i) m = refl
streaming (ended c) m = refl

dialling : (p : Phase) (bad malformed : Bool)
    → (not (is_ended p) && not (not (is_connecting p)) && not bad && malformed) ≡ (is_connecting p && not bad && malformed)
dialling live b m = refl
dialling closing b m = refl
dialling connecting b m = refl
dialling (verdict r) b m = refl
dialling (replay i) b m = refl
dialling (ended c) b m = refl

break_exactly : (b : Break) (s : Session) → refused_with 15 (step (break b) s).answer ≡ unreadable (break b) s
unfolding step breaks
break_exactly b s =
    of_break (is_ended s.phase) _ (is_malformed b) _ s _ (break-went _ _ _ s _ (record { went = refl })) ∙ streaming s.phase (is_malformed b)

attempt_exactly : (b : Break) (v : ℕ) (s : Session) → refused_with 15 (step (failed_attempt b v) s).answer ≡ unreadable (failed_attempt b v) s
unfolding step fails
attempt_exactly b v s =
    of_attempt (is_ended s.phase) _ (no_verdict v) (is_malformed b) _ s _ (ruled-went _ _) ∙ dialling s.phase (no_verdict v) (is_malformed b)

pub malformed_exactly : (c : Call) (s : Session) → refused_with 15 (step c s).answer ≡ unreadable c s
malformed_exactly (append d out) s = other_number 15 (numbers_of (append d out)) _ refl (only_table_numbers (append d out) s)
malformed_exactly (flush out) s = other_number 15 (numbers_of (flush out)) _ refl (only_table_numbers (flush out) s)
malformed_exactly (finalise out) s = other_number 15 (numbers_of (finalise out)) _ refl (only_table_numbers (finalise out) s)
malformed_exactly (next_request out) s = other_number 15 (numbers_of (next_request out)) _ refl (only_table_numbers (next_request out) s)
malformed_exactly close s = other_number 15 (numbers_of close) _ refl (only_table_numbers close s)
malformed_exactly send_failed s = other_number 15 (numbers_of send_failed) _ refl (only_table_numbers send_failed s)
malformed_exactly (response m) s = other_number 15 (numbers_of (response m)) _ refl (only_table_numbers (response m) s)
malformed_exactly (handshake m) s = other_number 15 (numbers_of (handshake m)) _ refl (only_table_numbers (handshake m) s)
malformed_exactly (judge v) s = other_number 15 (numbers_of (judge v)) _ refl (only_table_numbers (judge v) s)
malformed_exactly (break b) s = break_exactly b s
malformed_exactly (failed_attempt b v) s = attempt_exactly b v s
