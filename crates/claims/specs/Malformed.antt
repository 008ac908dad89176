-- "15 when the bytes are malformed, between 13 and 4": what a session that an opening and calls left answers.
use Rattle.std.specs.Prelude.{◌≡◌, List, ℕ}
use Rattle.rules.specs.Message.{Bytes}
use Rattle.rules.specs.Session as R
use Rattle.rules.specs.Reconnect.{unreadable}
use Rattle.transport.specs.View.{Left, answer_of}
use Rattle.transport.specs.Claim.{Memory, view_of, ValidAt}

-- 15 exactly where the call is past 7, 6 and 13 and its detail is malformed. Says: what is known of the call.
abbrev pub AlwaysMalformed : (R.Call → Memory → Bytes → Left → Bytes → List ℕ → Bytes → Type 0) → Type 0
AlwaysMalformed Says =
    (c : R.Call) (m : Memory) (out : Bytes) (o : Left) (store : Bytes) (table : List ℕ) (out' : Bytes) → Says c m out o store table out'
    → ValidAt m → R.refused_with 15 (answer_of o.answer out') ≡ unreadable c (view_of m)
