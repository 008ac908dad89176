-- A report past the end, as a session that an opening and calls left answers it.
use Rattle.std.specs.Prelude.{List, ℕ}
use Rattle.rules.specs.Message.{Bytes}
use Rattle.rules.specs.Session as R
use Rattle.rules.specs.Past.{PastEnd}
use Rattle.transport.specs.View.{Left, answer_of, view}
use Rattle.transport.specs.Claim.{Memory, view_of, ValidAt}

-- it ends *beyond*, nothing else does, and P, the store and the writer are as they were. Says: what is known of the call.
abbrev pub AlwaysPast : (R.Call → Memory → Bytes → Left → Bytes → List ℕ → Bytes → Type 0) → Type 0
AlwaysPast Says =
    (c : R.Call) (m : Memory) (out : Bytes) (o : Left) (store : Bytes) (table : List ℕ) (out' : Bytes) → Says c m out o store table out'
    → ValidAt m → PastEnd c (view_of m) (R.answers (answer_of o.answer out') (view o.session store table))
