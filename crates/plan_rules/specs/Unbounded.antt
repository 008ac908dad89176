-- "what the step rules would give without refusals 8 and 9": the rows and the results of `step`, less the rows of these two numbers.
use Rattle.std.specs.Prelude.{◌≡◌, ◌||◌, ◌∷◌}
use Rattle.rules.specs.Basics.{Bool, false, cond, none, [], ℕ, eqb}
use Rattle.rules.specs.Session.{flushing, finalizing, closing, nothing, Session, Call, append, flush, finalise, next_request, close, send_failed, response, handshake, break, judge, failed_attempt, took, ok, refused_with, Result, answers, set_phase, Rows, unless}
use Rattle.rules.specs.Upload.{append_rows, appended, ask_rows, asked, close_rows}
use Rattle.rules.specs.Step.{step}

abbrev pub is_left_out : ℕ → Bool
is_left_out n = eqb n 8 || eqb n 9

abbrev pub without : Rows → Rows
without [] = []
without (row ∷ rows) = cond (is_left_out row.1) (without rows) (row ∷ without rows)

-- append, flush, finalise and close alone have such a row
unfoldable pub unbounded : Call → Session → Result
unbounded (append [] out) s = answers (took 0 none) s
unbounded (append (x ∷ d) out) s = unless s (without (append_rows (x ∷ d) out s)) (appended (x ∷ d) s)
unbounded (flush out) s = unless s (without (ask_rows out s)) (asked flushing s)
unbounded (finalise out) s = unless s (without (ask_rows out s)) (asked finalizing s)
unbounded close s = unless s (without (close_rows s)) (answers ok (set_phase closing nothing s))
unbounded (next_request out) s = step (next_request out) s
unbounded send_failed s = step send_failed s
unbounded (response m) s = step (response m) s
unbounded (handshake m) s = step (handshake m) s
unbounded (break b) s = step (break b) s
unbounded (judge v) s = step (judge v) s
unbounded (failed_attempt b v) s = step (failed_attempt b v) s

-- that these are the step rules without the two refusals, of every call and session
pub record Without (c : Call) (s : Session) : Type 0 where
  pub never_8 : refused_with 8 (unbounded c s).answer ≡ false
  pub never_9 : refused_with 9 (unbounded c s).answer ≡ false
  pub same : refused_with 8 (step c s).answer ≡ false → refused_with 9 (step c s).answer ≡ false → unbounded c s ≡ step c s

abbrev pub UnboundedExactly : Type 0
UnboundedExactly = (c : Call) (s : Session) → Without c s
