-- The same numbers by arithmetic, one division an entry, as the code has them. That they are the plan is proved: nobody has to believe it.
use Rattle.rules.specs.Basics.{List, [], ℕ, zero, suc}
use Rattle.std.specs.Prelude.{◌/◌, ◌%◌, ◌∷◌, ◌+◌, ◌*◌}
use Rattle.plan_rules.specs.Plan.{Plan}

abbrev pub plan : (chunks stored held appends flushes : ℕ) → Plan
plan c s h a f = record { chunks = c; stored = s; held = h; appends = a; flushes = f }

abbrev pub nothing_yet : Plan
nothing_yet = plan 0 0 0 0 0

abbrev pub one_for : ℕ → ℕ  -- one more chunk or call where bytes are left
one_for zero = 0
one_for (suc n) = 1

-- ---- an entry

-- a flush cuts what is held by a call of its own
abbrev pub flushed : Plan → Plan
flushed p = plan (p.chunks + one_for p.held) (p.stored + p.held) 0 p.appends (p.flushes + (1 + one_for p.held))

-- an append that makes q whole chunks of the held bytes and its own, so that `left` of them remain
abbrev pub appended : (C q left : ℕ) → Plan → Plan
appended C q left p = plan (p.chunks + q) (p.stored + q * C) left (p.appends + (q + one_for left)) p.flushes

unfoldable pub counted : ℕ → ℕ → Plan → Plan
counted C zero p = flushed p
counted C (suc n) p = appended C ((p.held + suc n) / C) ((p.held + suc n) % C) p

unfoldable pub counted_all : ℕ → List ℕ → Plan → Plan
counted_all C [] p = p
counted_all C (n ∷ ls) p = counted_all C ls (counted C n p)
