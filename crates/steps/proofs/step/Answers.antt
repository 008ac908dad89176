use Rattle.steps.proofs.step.Goals as goal

pub returns-in-Close : goal.returns-in-Close
returns-in-Close c = rw c.in-Close.is (c.close.ensures _ _ _)

pub returns-in-SendFailed : goal.returns-in-SendFailed
returns-in-SendFailed c = rw c.in-SendFailed.is (c.send_failed.ensures _ _ _)

pub returns-in-Break : goal.returns-in-Break
returns-in-Break c = rw c.in-Break.is (c.stream_break.ensures _ _ _)

pub returns-in-Judge : goal.returns-in-Judge
returns-in-Judge c = rw c.in-Judge.is (c.judge.ensures _ _ _)

pub returns-in-FailedAttempt : goal.returns-in-FailedAttempt
returns-in-FailedAttempt c = rw c.in-FailedAttempt.is (c.failed_attempt.ensures _ _ _)
